-- The new names follow the rules, and the conflict is the first one.
use Rattle.base_lists.proofs.Common.{◌≡◌, ◌∙◌, sym, ap, refl, ℕ, zero, suc, ◌<◌, ◌+◌, List, [], ◌∷◌, ◌++◌, length, arith, slice_get, take, Some, None, Bool, true, false, cond, append_assoc, append-nil, length_push}
use Rattle.merge_names.specs.declared.mode.Mode.TheVariants.{Refuse, Rename, Skip}
use Rattle.merge_names.specs.Names.{among, kept_behind, conflict_behind, renamed, AreKept}
use Rattle.merge_names.specs.Laws.{NamesFollowRules, ConflictsAreFirst}
use Rattle.merge_names.proofs.Renamed.{renamed_are}

pub kept_length : (old ns : List (List ℕ)) → length (kept_behind old ns) ≡ length ns
unfolding kept_behind
kept_length old [] = refl
kept_length old (n ∷ ns) = ap suc (kept_length (old ++ n ∷ []) ns)

kept_at : (old ns : List (List ℕ)) (i : ℕ) (name : List ℕ) → slice_get ns i ≡ Some name → slice_get (kept_behind old ns) i ≡ Some (cond (among (old ++ take i ns) name) None (Some name))
unfolding kept_behind
kept_at old [] i name at = cc
kept_at old (n ∷ ns) zero name at =
    let same : n ≡ name = cc in
    ap (λ (x : List ℕ). Some (cond (among old x) None (Some x))) same ∙ ap (λ (x : List (List ℕ)). Some (cond (among x name) None (Some name))) (sym (append-nil old))
kept_at old (n ∷ ns) (suc i) name at =
    kept_at (old ++ n ∷ []) ns i name at ∙ ap (λ (x : List (List ℕ)). Some (cond (among x name) None (Some name))) (append_assoc old (n ∷ []) (take i ns))

kept_are : (names : List (List ℕ)) → AreKept names (kept_behind [] names)
kept_are names = record {
  one_each = kept_length [] names;
  first = λ i name at new. kept_at [] names i name at ∙ ap (λ (b : Bool). Some (cond b None (Some name))) new;
  again = λ i name at came. kept_at [] names i name at ∙ ap (λ (b : Bool). Some (cond b None (Some name))) came;
}

pub follow_rules : NamesFollowRules
follow_rules Refuse names few = refl
follow_rules Rename names few = (renamed names, refl, renamed_are names few)
follow_rules Skip names few = kept_are names

-- The position of the first name that repeats an earlier one, with `old` before the first.
record IsFirstBehind (old ns : List (List ℕ)) (place : ℕ) : Type 0 where
  at : (i : ℕ) × (name : List ℕ) × (place ≡ length old + i) × (slice_get ns i ≡ Some name) × (among (old ++ take i ns) name ≡ true)
  least : (j : ℕ) (name : List ℕ) → length old + j < place → slice_get ns j ≡ Some name → among (old ++ take j ns) name ≡ false

first_behind : (old ns : List (List ℕ)) (place : ℕ) → conflict_behind old ns ≡ Some place → IsFirstBehind old ns place
unfolding conflict_behind
first_behind old [] place h = cc
first_behind old (n ∷ ns) place h = step (among old n) refl h (λ e. first_behind (old ++ n ∷ []) ns place e)
  where
    step : (b : Bool) → among old n ≡ b → cond b (Some (length old)) (conflict_behind (old ++ n ∷ []) ns) ≡ Some place
        → (conflict_behind (old ++ n ∷ []) ns ≡ Some place → IsFirstBehind (old ++ n ∷ []) ns place) → IsFirstBehind old (n ∷ ns) place
    step true is e rest =
        let here : length old ≡ place = cc in
        record {
          at = (0, n, omega arith, refl, ap (λ (x : List (List ℕ)). among x n) (append-nil old) ∙ is);
          least = λ j name lt at. absurd (omega arith);
        }
    step false is e rest =
        let more = rest e in
        let (i, name, place_is, got, came) = more.at in
        let longer = length_push old n in
        record {
          at = (suc i, name, omega arith, got, ap (λ (x : List (List ℕ)). among x name) (sym (append_assoc old (n ∷ []) (take i ns))) ∙ came);
          least = λ j. earlier j;
        }
      where
        earlier : (j : ℕ) (name : List ℕ) → length old + j < place → slice_get (n ∷ ns) j ≡ Some name → among (old ++ take j (n ∷ ns)) name ≡ false
        earlier zero name lt at = let same : n ≡ name = cc in ap (λ (x : List (List ℕ)). among x name) (append-nil old) ∙ ap (among old) (sym same) ∙ is
        earlier (suc j) name lt at = ap (λ (x : List (List ℕ)). among x name) (sym (append_assoc old (n ∷ []) (take j ns))) ∙ (rest e).least j name (omega (arith, length_push old n)) at

pub conflicts_first : ConflictsAreFirst
conflicts_first Refuse names place h =
    let f = first_behind [] names place h in
    let (i, name, place_is, got, came) = f.at in
    let same : place ≡ i = omega arith in (
      refl,
      record {
        came = (name, ap (slice_get names) same ∙ got, ap (λ (k : ℕ). among (take k names) name) same ∙ came);
        least = λ j other lt at. f.least j other (omega arith) at;
      },
    )
conflicts_first Rename names place h = cc
conflicts_first Skip names place h = cc
