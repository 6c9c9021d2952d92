-- The new names are distinct.
use Rattle.base_lists.proofs.Common.{◌≡◌, ◌∙◌, sym, ap, refl, inl, inr, ℕ, zero, suc, ◌<◌, ◌+◌, ◌^◌, List, [], ◌∷◌, ◌++◌, length, map, arith, slice_get, take, Some, None, Bool, true, false, cond, append_assoc, append-nil, subst, ◌||◌, bytes_eq, cases_Bool, length-append, length_push}
use Rattle.merge_names.specs.declared.mode.Mode.TheVariants.{Refuse, Rename, Skip}
use Rattle.merge_names.specs.Names.{among, numbered, given, new_name, kept_behind, conflict_behind, renamed_behind, renamed, AreDistinct, IsRenamed}
use Rattle.merge_names.specs.Laws.{GivenNamesDiffer}
use Rattle.merge_names.proofs.Among.{among_push, among_join, among_neither, among_self, not_contained, same_from}
use Rattle.merge_names.proofs.Renamed.{new_name_is, renamed_length}

-- None of these names repeats an earlier one, with `old` before the first.
abbrev Fresh : List (List ℕ) → List (List ℕ) → Type 0
Fresh old [] = Unit {0}
Fresh old (n ∷ ns) = (among old n ≡ false) × Fresh (old ++ n ∷ []) ns

fresh_at : (old ns : List (List ℕ)) → Fresh old ns → (i : ℕ) (name : List ℕ) → slice_get ns i ≡ Some name → among (old ++ take i ns) name ≡ false
fresh_at old [] f i name at = cc
fresh_at old (n ∷ ns) f zero name at =
    let same : n ≡ name = cc in
    ap (λ (x : List (List ℕ)). among x name) (append-nil old) ∙ ap (among old) (sym same) ∙ f.0
fresh_at old (n ∷ ns) f (suc i) name at =
    ap (λ (x : List (List ℕ)). among x name) (sym (append_assoc old (n ∷ []) (take i ns))) ∙ fresh_at (old ++ n ∷ []) ns f.1 i name at

distinct_from : (ns : List (List ℕ)) → Fresh [] ns → AreDistinct ns
distinct_from ns f i name at = not_contained (take i ns) name (fresh_at [] ns f i name at)

given_all : (ns : List (List ℕ)) → given (map Some ns) ≡ ns
given_all [] = refl
given_all (n ∷ ns) = ap (λ (x : List (List ℕ)). n ∷ x) (given_all ns)

-- Names without a conflict repeat no earlier name.
fresh_all : (old ns : List (List ℕ)) → conflict_behind old ns ≡ None → Fresh old ns
unfolding conflict_behind
fresh_all old [] h = tt
fresh_all old (n ∷ ns) h = step (among old n) refl h (λ e. fresh_all (old ++ n ∷ []) ns e)
  where
    step : (b : Bool) → among old n ≡ b → cond b (Some (length old)) (conflict_behind (old ++ n ∷ []) ns) ≡ None → (conflict_behind (old ++ n ∷ []) ns ≡ None → Fresh (old ++ n ∷ []) ns) → Fresh old (n ∷ ns)
    step true is e rest = cc
    step false is e rest = (is, rest e)

-- The two lists have the same names.
abbrev SameAmong : List (List ℕ) → List (List ℕ) → Type 0
SameAmong xs ys = (q : List ℕ) → among xs q ≡ among ys q

same_push : (xs ys : List (List ℕ)) (n : List ℕ) → SameAmong xs ys → SameAmong (xs ++ n ∷ []) (ys ++ n ∷ [])
same_push xs ys n same q = among_push xs n q ∙ ap (cond (bytes_eq n q) true) (same q) ∙ sym (among_push ys n q)

-- Adding a name that a list has already leaves the names of the list.
known_push : (xs : List (List ℕ)) (n : List ℕ) → among xs n ≡ true → SameAmong (xs ++ n ∷ []) xs
known_push xs n known q = among_push xs n q ∙ case (bytes_eq n q) (λ e. ap (among xs) (sym (same_from n q e)) ∙ known)
  where
    case : (b : Bool) {d : Bool} → (b ≡ true → d ≡ true) → cond b true d ≡ d
    case true f = sym (f refl)
    case false f = refl

-- Names of which only the first of each is kept repeat no earlier name.
fresh_kept : (old known ns : List (List ℕ)) → SameAmong known old → Fresh known (given (kept_behind old ns))
unfolding kept_behind
fresh_kept old known [] same = tt
fresh_kept old known (n ∷ ns) same = step (among old n) refl
    (λ is. fresh_kept (old ++ n ∷ []) known ns (λ q. same q ∙ sym (known_push old n is q)))
    (fresh_kept (old ++ n ∷ []) (known ++ n ∷ []) ns (same_push known old n same))
  where
    step : (b : Bool) → among old n ≡ b → (among old n ≡ true → Fresh known (given (kept_behind (old ++ n ∷ []) ns))) → Fresh (known ++ n ∷ []) (given (kept_behind (old ++ n ∷ []) ns))
        → Fresh known (given (cond b None (Some n) ∷ kept_behind (old ++ n ∷ []) ns))
    step true is dropped kept = dropped is
    step false is dropped kept = (same n ∙ is, kept)

-- A name of `all` is among the chosen names exactly if it is among the earlier ones.
abbrev ChosenCame : (all old chosen : List (List ℕ)) → Type 0
ChosenCame all old chosen = (q : List ℕ) → among all q ≡ true → among chosen q ≡ among old q

-- The property is kept when a name and its new name by the rule are added.
chosen_new : (all old chosen : List (List ℕ)) (name new : List ℕ) → among all name ≡ true → IsRenamed all old chosen name new → ChosenCame all old chosen → among chosen new ≡ false
chosen_new all old chosen name new here rule came = elim (cases_Bool (among old name)) [
  | inl held ↦ let (k, least, is) = rule.again held in ap (among chosen) is ∙ (among_neither all chosen (numbered name k) least.free).1
  | inr missing ↦ ap (among chosen) (rule.first missing) ∙ came name here ∙ missing
]

chosen_more : (all old chosen : List (List ℕ)) (name new : List ℕ) → IsRenamed all old chosen name new → ChosenCame all old chosen → ChosenCame all (old ++ name ∷ []) (chosen ++ new ∷ [])
chosen_more all old chosen name new rule came q here = among_push chosen new q ∙ ap (cond (bytes_eq new q) true) (came q here) ∙ elim (cases_Bool (among old name)) [
  | inl held ↦ let (k, least, is) = rule.again held in
      case (bytes_eq new q) (λ e.
      let no : among all q ≡ false = ap (among all) (sym (same_from new q e) ∙ is) ∙ (among_neither all chosen (numbered name k) least.free).0 in cc)
      ∙ sym (known_push old name held q)
  | inr missing ↦ ap (λ (x : List ℕ). cond (bytes_eq x q) true (among old q)) (rule.first missing) ∙ sym (among_push old name q)
]
  where
    case : (b : Bool) {d : Bool} → (b ≡ true → ⊥) → cond b true d ≡ d
    case true f = absurd (f refl)
    case false f = refl

fresh_renamed : (all old chosen ns : List (List ℕ)) → length (all ++ chosen) + length ns + 2 < 2 ^ 64 → ((q : List ℕ) → among ns q ≡ true → among all q ≡ true) → ChosenCame all old chosen → Fresh chosen (renamed_behind all old chosen ns)
unfolding renamed_behind
fresh_renamed all old chosen [] few here came = tt
fresh_renamed all old chosen (n ∷ ns) few here came =
    let new = new_name all old chosen n in
    let rule = new_name_is all old chosen n (omega arith) in
    let known : among all n ≡ true = here n (among_self (n ∷ ns) 0 n refl) in (
      chosen_new all old chosen n new known rule came,
      fresh_renamed all (old ++ n ∷ []) (chosen ++ new ∷ []) ns
          (omega (arith, few, length-append all chosen, length-append all (chosen ++ new ∷ []), length_push chosen new))
          (λ q h. here q (among_join (n ∷ []) ns q ∙ either (bytes_eq n q) h))
          (chosen_more all old chosen n new rule came),
    )
  where
    either : (b : Bool) {d : Bool} → d ≡ true → (b || false) || d ≡ true
    either true e = refl
    either false e = e

pub given_differ : GivenNamesDiffer
given_differ Refuse names none few = subst AreDistinct (sym (given_all names)) (distinct_from names (fresh_all [] names none))
given_differ Rename names none few =
    let short : length (renamed names) < 2 ^ 62 = subst (λ (x : List (List ℕ)). length x < 2 ^ 62) (given_all (renamed names)) few in
    subst AreDistinct (sym (given_all (renamed names))) (distinct_from (renamed names)
    (fresh_renamed names [] [] names (omega (arith, short, length-append names [], renamed_length names [] [] names)) (λ q h. h) (λ q h. refl)))
given_differ Skip names none few = distinct_from (given (kept_behind [] names)) (fresh_kept [] [] names (λ q. refl))
