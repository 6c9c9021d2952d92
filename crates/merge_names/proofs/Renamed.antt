-- The functions of renaming follow the rule.
use Rattle.base_lists.proofs.Common.{◌≡◌, ◌∙◌, sym, ap, refl, subst, inl, inr, ℕ, zero, suc, ◌<◌, ◌≤◌, ◌+◌, ◌^◌, List, [], ◌∷◌, ◌++◌, length, arith, slice_get, take, Some, Bool, true, false, cond, append_assoc, append-nil, cases_eq, cases_order, cases_lt, cases_Bool, length-append}
use Rattle.merge_names.specs.Names.{numbered, IsLeastFree, IsRenamed, AreRenamed, among, least_free, new_name, renamed_behind, renamed}
use Rattle.merge_names.proofs.Few.{few_among}

-- The least free number is unique.
pub one_least : (taken : List ℕ → Bool) (name : List ℕ) (a b : ℕ) → IsLeastFree taken name a → IsLeastFree taken name b → a ≡ b
one_least taken name a b x y = elim (cases_order a b) [
  | inl e ↦ e
  | inr o ↦ elim o [
    | inl lt ↦ let yes = y.least a x.from_one lt in let no = x.free in cc
    | inr gt ↦ let yes = x.least b y.from_one gt in let no = y.free in cc
  ]
]

-- The result `r` of the search from `j` on: the numbers before it are taken, and `r` is free unless
-- the tries are used up.
record IsFound (tries : ℕ) (taken : List ℕ → Bool) (name : List ℕ) (j r : ℕ) : Type 0 where
  from : j ≤ r
  most : r ≤ j + tries
  before : (i : ℕ) → j ≤ i → i < r → taken (numbered name i) ≡ true
  free : r < j + tries → taken (numbered name r) ≡ false

finds : (tries : ℕ) (taken : List ℕ → Bool) (name : List ℕ) (j : ℕ) → IsFound tries taken name j (least_free tries taken name j)
unfolding least_free
finds zero taken name j = record { from = omega arith; most = omega arith; before = λ i a b. absurd (omega arith); free = λ h. absurd (omega arith) }
finds (suc tries) taken name j = step (taken (numbered name j)) refl (finds tries taken name (j + 1))
  where
    step : (b : Bool) → taken (numbered name j) ≡ b → IsFound tries taken name (j + 1) (least_free tries taken name (j + 1)) → IsFound (suc tries) taken name j (cond b (least_free tries taken name (j + 1)) j)
    step true is more =
        let a = more.from in
        let b = more.most in
        record {
          from = omega arith;
          most = omega arith;
          before = λ i x y. elim (cases_eq i j) [
            | inl e ↦ ap (λ (n : ℕ). taken (numbered name n)) e ∙ is
            | inr ne ↦ more.before i (omega arith) y
          ];
          free = λ h. more.free (omega arith);
        }
    step false is more = record { from = omega arith; most = omega arith; before = λ i a b. absurd (omega arith); free = λ h. is }

-- The search needs at most as many tries as there are names.
pub least_found : (xs : List (List ℕ)) (name : List ℕ) → length xs + 2 < 2 ^ 64 → IsLeastFree (among xs) name (least_free (length xs) (among xs) name 1)
least_found xs name few =
    let f = finds (length xs) (among xs) name 1 in
    let k = least_free (length xs) (among xs) name 1 in
    let a = f.from in
    let b = f.most in
    record {
      from_one = a;
      free = elim (cases_lt k (1 + length xs)) [
        | inl lt ↦ f.free lt
        | inr ge ↦ elim (cases_Bool (among xs (numbered name k))) [
          | inr missing ↦ missing
          | inl held ↦ absurd (omega (
            arith,
            few_among xs name (k + 1) (omega arith) (omega arith) (λ j x y. elim (cases_eq j k) [
              | inl e ↦ ap (λ (n : ℕ). among xs (numbered name n)) e ∙ held
              | inr ne ↦ f.before j x (omega arith)
            ]),
          ))
        ]
      ];
      least = f.before;
    }

-- The new name that the function gives follows the rule.
pub new_name_is : (all old chosen : List (List ℕ)) (name : List ℕ) → length (all ++ chosen) + 2 < 2 ^ 64 → IsRenamed all old chosen name (new_name all old chosen name)
unfolding new_name
new_name_is all old chosen name few = record {
  first = λ h. rw h refl;
  again = λ h. (least_free (length (all ++ chosen)) (among (all ++ chosen)) name 1, least_found (all ++ chosen) name few, rw h refl);
}

-- At most one name follows the rule.
pub one_name : (all old chosen : List (List ℕ)) (name a b : List ℕ) → IsRenamed all old chosen name a → IsRenamed all old chosen name b → a ≡ b
one_name all old chosen name a b x y = elim (cases_Bool (among old name)) [
  | inr missing ↦ x.first missing ∙ sym (y.first missing)
  | inl held ↦
      let (k, l, e) = x.again held in
      let (m, n, f) = y.again held in
      e ∙ ap (numbered name) (one_least (among (all ++ chosen)) name k m l n) ∙ sym f
]

pub renamed_length : (all old chosen ns : List (List ℕ)) → length (renamed_behind all old chosen ns) ≡ length ns
unfolding renamed_behind
renamed_length all old chosen [] = refl
renamed_length all old chosen (n ∷ ns) = ap suc (renamed_length all (old ++ n ∷ []) (chosen ++ new_name all old chosen n ∷ []) ns)

renamed_there : (all old chosen ns : List (List ℕ)) (i : ℕ) (name : List ℕ) → slice_get ns i ≡ Some name →
    slice_get (renamed_behind all old chosen ns) i ≡ Some (new_name all (old ++ take i ns) (chosen ++ take i (renamed_behind all old chosen ns)) name)
unfolding renamed_behind
renamed_there all old chosen [] i name h = cc
renamed_there all old chosen (n ∷ ns) zero name h =
    let same : n ≡ name = cc in
    ap (λ (x : List ℕ). Some (new_name all old chosen x)) same ∙ ap (λ (x : List (List ℕ)). Some (new_name all x chosen name)) (sym (append-nil old)) ∙ ap (λ (x : List (List ℕ)). Some (new_name all (old ++ []) x name)) (sym (append-nil chosen))
renamed_there all old chosen (n ∷ ns) (suc i) name h =
    let new = new_name all old chosen n in
    let rest = renamed_behind all (old ++ n ∷ []) (chosen ++ new ∷ []) ns in
    renamed_there all (old ++ n ∷ []) (chosen ++ new ∷ []) ns i name h
    ∙ ap (λ (x : List (List ℕ)). Some (new_name all x ((chosen ++ new ∷ []) ++ take i rest) name)) (append_assoc old (n ∷ []) (take i ns))
    ∙ ap (λ (x : List (List ℕ)). Some (new_name all (old ++ n ∷ take i ns) x name)) (append_assoc chosen (new ∷ []) (take i rest))

-- The new name at a position is that by the names before the position.
pub renamed_at : (names : List (List ℕ)) (i : ℕ) (name : List ℕ) → slice_get names i ≡ Some name →
    slice_get (renamed names) i ≡ Some (new_name names (take i names) (take i (renamed names)) name)
renamed_at names = renamed_there names [] [] names

length-take-le : {A : Type 0} (i : ℕ) (xs : List A) → length (take i xs) ≤ length xs
length-take-le zero xs = omega arith
length-take-le (suc i) [] = omega arith
length-take-le (suc i) (x ∷ xs) = omega (arith, length-take-le i xs)

-- The old names and the new ones so far are together few enough for the numbers of the code.
pub few_enough : (names : List (List ℕ)) (i : ℕ) → length names < 2 ^ 62 → length (names ++ take i (renamed names)) + 2 < 2 ^ 64
few_enough names i few = omega (arith, length-append names (take i (renamed names)), length-take-le i (renamed names), renamed_length names [] [] names)

pub renamed_are : (names : List (List ℕ)) → length names < 2 ^ 62 → AreRenamed names (renamed names)
renamed_are names few = record {
  one_each = renamed_length names [] [] names;
  right = λ i name new at got.
      let is : new_name names (take i names) (take i (renamed names)) name ≡ new = let e = renamed_at names i name at in cc in
      subst (IsRenamed names (take i names) (take i (renamed names)) name) is (new_name_is names (take i names) (take i (renamed names)) name (few_enough names i few));
}
