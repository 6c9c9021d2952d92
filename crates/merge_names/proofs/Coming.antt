-- The state of the loop that renames, and its iterations.
use Rattle.base_lists.proofs.Common.{◌≡◌, ◌∙◌, sym, ap, refl, subst, ℕ, ◌<◌, ◌≤◌, ◌+◌, ◌^◌, List, [], ◌∷◌, ◌++◌, length, arith, slice_get, take, Option, Some, Bool, true, false, cond, is_some, append_assoc, bytes_eq, bytes_eq-Decides, take_more, slice_get_within, get_or_from_slice_get}
use Rattle.merge_names.specs.Names.{numbered, IsLeastFree, IsRenamed, among, new_name, renamed}
use Rattle.merge_names.specs.Chosen.{IsChosen}
use Rattle.merge_names.specs.Chosen.IsChosen.{first, again}
use Rattle.merge_names.proofs.Among.{among_push, among_self, among_more, among_next}
use Rattle.merge_names.proofs.Renamed.{new_name_is, one_name, renamed_at, few_enough}

-- The names that are taken are the old ones and the new ones so far, and each earlier name has a
-- number below which none is free.
pub record HasCome (names : List (List ℕ)) (i : ℕ) (news : List (List ℕ)) (taken : List ℕ → Bool) (memo : List ℕ → Option ℕ) : Type 0 where
  pub taken_is : (q : List ℕ) → taken q ≡ among (names ++ news) q
  pub came : (q : List ℕ) → is_some (memo q) ≡ among (take i names) q
  pub tried : (q : List ℕ) (k : ℕ) → memo q ≡ Some k → (1 ≤ k) × ((j : ℕ) → 1 ≤ j → j < k → taken (numbered q j) ≡ true)

some_of : (b : Bool) (k : ℕ) (o : Option ℕ) → is_some (cond b (Some k) o) ≡ cond b true (is_some o)
some_of true k o = refl
some_of false k o = refl

-- A name that does not repeat an earlier one is kept.
come_first : (names : List (List ℕ)) (i : ℕ) (news : List (List ℕ)) (taken : List ℕ → Bool) (memo after : List ℕ → Option ℕ) (name : List ℕ)
    → HasCome names i news taken memo → slice_get names i ≡ Some name → ((q : List ℕ) → after q ≡ cond (bytes_eq name q) (Some 1) (memo q))
    → HasCome names (i + 1) (news ++ name ∷ []) taken after
come_first names i news taken memo after name c at updates = record {
  taken_is = λ q. c.taken_is q ∙ sym (ap (λ (ns : List (List ℕ)). among ns q) (sym (append_assoc names news (name ∷ []))) ∙ among_push (names ++ news) name q ∙ kept q);
  came = λ q. ap is_some (updates q) ∙ some_of (bytes_eq name q) 1 (memo q) ∙ ap (cond (bytes_eq name q) true) (c.came q) ∙ sym (among_next names i name q at);
  tried = λ q k h. tried_more (bytes_eq name q) q k (sym (updates q) ∙ h);
}
  where
    kept : (q : List ℕ) → cond (bytes_eq name q) true (among (names ++ news) q) ≡ among (names ++ news) q
    kept q = case (bytes_eq name q) (λ yes.
        let same : name ≡ q = (bytes_eq-Decides name q).0 yes in
        among_more names news q (among_self names i q (at ∙ ap Some same)))
      where
        case : (b : Bool) {d : Bool} → (b ≡ true → d ≡ true) → cond b true d ≡ d
        case true f = sym (f refl)
        case false f = refl

    tried_more : (b : Bool) (q : List ℕ) (k : ℕ) → cond b (Some 1) (memo q) ≡ Some k → (1 ≤ k) × ((j : ℕ) → 1 ≤ j → j < k → taken (numbered q j) ≡ true)
    tried_more true q k h = let one : 1 ≡ k = cc in (omega arith, λ j a b. absurd (omega arith))
    tried_more false q k h = c.tried q k h

-- A name that repeats an earlier one gets the least free number.
come_again : (names : List (List ℕ)) (i : ℕ) (news : List (List ℕ)) (taken taken_after : List ℕ → Bool) (memo after : List ℕ → Option ℕ) (name new : List ℕ) (k : ℕ)
    → HasCome names i news taken memo → slice_get names i ≡ Some name → IsLeastFree taken name k
    → ((q : List ℕ) → after q ≡ cond (bytes_eq name q) (Some k) (memo q)) → ((q : List ℕ) → taken_after q ≡ cond (bytes_eq new q) true (taken q))
    → HasCome names (i + 1) (news ++ new ∷ []) taken_after after
come_again names i news taken taken_after memo after name new k c at least updates takes = record {
  taken_is = λ q. takes q ∙ ap (cond (bytes_eq new q) true) (c.taken_is q) ∙ sym (ap (λ (ns : List (List ℕ)). among ns q) (sym (append_assoc names news (new ∷ []))) ∙ among_push (names ++ news) new q);
  came = λ q. ap is_some (updates q) ∙ some_of (bytes_eq name q) k (memo q) ∙ ap (cond (bytes_eq name q) true) (c.came q) ∙ sym (among_next names i name q at);
  tried = λ q n h. tried_more (bytes_eq name q) q n (λ yes. (bytes_eq-Decides name q).0 yes) (sym (updates q) ∙ h);
}
  where
    still : (q : List ℕ) → taken q ≡ true → taken_after q ≡ true
    still q h = takes q ∙ case (bytes_eq new q) h
      where
        case : (b : Bool) {d : Bool} → d ≡ true → cond b true d ≡ true
        case true e = refl
        case false e = e

    tried_more : (b : Bool) (q : List ℕ) (n : ℕ) → (b ≡ true → name ≡ q) → cond b (Some k) (memo q) ≡ Some n → (1 ≤ n) × ((j : ℕ) → 1 ≤ j → j < n → taken_after (numbered q j) ≡ true)
    tried_more true q n same h =
        let is : k ≡ n = cc in
        (subst (λ (x : ℕ). 1 ≤ x) is least.from_one, λ j a b. still (numbered q j) (ap (λ (x : List ℕ). taken (numbered x j)) (sym (same refl)) ∙ least.least j a (omega arith)))
    tried_more false q n same h = let t = c.tried q n h in (t.0, λ j a b. still (numbered q j) (t.1 j a b))

-- An iteration of the loop chooses one new name.
pub come_on : (names : List (List ℕ)) (i : ℕ) (news : List (List ℕ)) (taken taken_after : List ℕ → Bool) (memo after : List ℕ → Option ℕ) (name new : List ℕ)
    → HasCome names i news taken memo → slice_get names i ≡ Some name → IsChosen name taken taken_after memo after new
    → HasCome names (i + 1) (news ++ new ∷ []) taken_after after
come_on names i news taken taken_after memo after name new c at (first none is same updates) =
    let d = come_first names i news taken memo after name c at updates in
    subst (λ (x : List ℕ). HasCome names (i + 1) (news ++ x ∷ []) taken_after after) (sym is) (record {
      taken_is = λ q. same q ∙ d.taken_is q;
      came = d.came;
      tried = λ q k h. let t = d.tried q k h in (t.0, λ j a b. same (numbered q j) ∙ t.1 j a b);
    })
come_on names i news taken taken_after memo after name new c at (again from k some least is updates takes) =
    come_again names i news taken taken_after memo after name new k c at least updates takes

-- The chosen name follows the rule.
follows : (names : List (List ℕ)) (i : ℕ) (news : List (List ℕ)) (taken taken_after : List ℕ → Bool) (memo after : List ℕ → Option ℕ) (name new : List ℕ)
    → HasCome names i news taken memo → IsChosen name taken taken_after memo after new → IsRenamed names (take i names) news name new
follows names i news taken taken_after memo after name new c (first none is same updates) = record {
  first = λ _. is;
  again = λ h. let came : false ≡ true = sym (ap is_some none) ∙ c.came name ∙ h in cc;
}
follows names i news taken taken_after memo after name new c (again from k some least is updates takes) = record {
  first = λ h. let came : true ≡ false = sym (ap is_some some) ∙ c.came name ∙ h in cc;
  again = λ _. (
    k,
    record {
      from_one = least.from_one;
      free = sym (c.taken_is (numbered name k)) ∙ least.free;
      least = λ j a b. sym (c.taken_is (numbered name j)) ∙ least.least j a b;
    },
    is,
  );
}

-- The names that are chosen so far are the first of the new names.
pub next_is : (names : List (List ℕ)) (i : ℕ) (taken taken_after : List ℕ → Bool) (memo after : List ℕ → Option ℕ) (name new : List ℕ) → length names < 2 ^ 62
    → HasCome names i (take i (renamed names)) taken memo → slice_get names i ≡ Some name → IsChosen name taken taken_after memo after new
    → take (i + 1) (renamed names) ≡ take i (renamed names) ++ new ∷ []
next_is names i taken taken_after memo after name new few c at chosen =
    let done = take i (renamed names) in
    let is : new_name names (take i names) done name ≡ new = one_name names (take i names) done name _ new (new_name_is names (take i names) done name (few_enough names i few)) (follows names i done taken taken_after memo after name new c chosen) in
    let here : slice_get (renamed names) i ≡ Some new = renamed_at names i name at ∙ ap Some is in
    take_more (renamed names) i new (slice_get_within (renamed names) i new here) ∙ ap (λ (x : List ℕ). done ++ x ∷ []) (get_or_from_slice_get (renamed names) i new new here)
