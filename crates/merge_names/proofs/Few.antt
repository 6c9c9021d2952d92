-- A bound on the numbers that make names that are taken.
use Rattle.base_lists.proofs.Common.{◌≡◌, ◌∙◌, sym, ap, refl, ℕ, suc, ◌<◌, ◌≤◌, ◌-◌, ◌+◌, ◌^◌, List, [], ◌∷◌, length, map, arith, Some, Bool, true, false, decimal, string_bytes, list_any, bytes_eq, contains_text, btree_set_len, nat_cmp, slice_cmp, is_eq-slice_cmp, decimal_injective}
use Rattle.base_lists.proofs.Common.{append_cancel_left, length-map, slice_get-map, list_any_there, pigeons, Has}
use Rattle.std.specs.Option.{option_map}
use Rattle.std.specs.Prelude.{String}
use Rattle.std.specs.BTreeSet.{BTreeSet}
use Rattle.std.specs.BTreeMap.{is_at}
use Rattle.merge_names.specs.Names.{numbered, among}
use Rattle.merge_names.proofs.Among.{same_from}

-- A name with different numbers gives different names.
numbered_differ : (name : List ℕ) (i j : ℕ) → i < 2 ^ 64 → j < 2 ^ 64 → numbered name i ≡ numbered name j → i ≡ j
numbered_differ name i j hi hj e =
    let tail = append_cancel_left name (95 ∷ decimal i) (95 ∷ decimal j) e in
    let digits : decimal i ≡ decimal j = cc in
    decimal_injective i j hi hj digits

-- The first free number is at most one more than the length of a list that has all taken names.
few_stand : (xs : List (List ℕ)) (taken : List ℕ → Bool) (name : List ℕ) (k : ℕ) → ((q : List ℕ) → taken q ≡ true → Has xs q) → k < 2 ^ 64 → 1 ≤ k → ((j : ℕ) → 1 ≤ j → j < k → taken (numbered name j) ≡ true) → k ≤ length xs + 1
few_stand xs taken name k stands fits from tried =
    let most = pigeons (k - 1) (λ i. numbered name (i + 1)) xs
    (λ i j hi hj e. let same : i + 1 ≡ j + 1 = numbered_differ name (i + 1) (j + 1) (omega arith) (omega arith) e in omega arith)
    (λ i h. stands (numbered name (i + 1)) (tried (i + 1) (omega arith) (omega arith))) in
    omega (arith, most)

-- The bound for the names of a list.
pub few_among : (xs : List (List ℕ)) (name : List ℕ) (k : ℕ) → k < 2 ^ 64 → 1 ≤ k → ((j : ℕ) → 1 ≤ j → j < k → among xs (numbered name j) ≡ true) → k ≤ length xs + 1
few_among xs name k = few_stand xs (among xs) name k (λ q h.
    let f = list_any_there (λ n. bytes_eq n q) xs h in
    (f.1.0, f.1.1 ∙ ap Some (same_from f.0 q f.2)))

-- A text of a set is among its keys.
stands : {Y : Type 0} (s : BTreeSet (String Y)) (q : List ℕ) → contains_text s q ≡ true → Has (map string_bytes s.keys) q
stands s q h =
    let f = list_any_there (is_at (λ k. slice_cmp nat_cmp q (string_bytes k))) s.keys h in
    let eq : bytes_eq q (string_bytes f.0) ≡ true = sym (is_eq-slice_cmp q (string_bytes f.0)) ∙ f.2 in
    (f.1.0, slice_get-map string_bytes s.keys f.1.0 ∙ ap (option_map string_bytes) f.1.1 ∙ ap Some (sym (same_from q (string_bytes f.0) eq)))

-- The bound for the texts of a set.
pub few_held : {Y : Type 0} (s : BTreeSet (String Y)) (name : List ℕ) (k : ℕ) → k < 2 ^ 64 → 1 ≤ k → ((j : ℕ) → 1 ≤ j → j < k → contains_text s (numbered name j) ≡ true) → k ≤ btree_set_len s + 1
few_held s name k fits from tried = omega (arith, few_stand (map string_bytes s.keys) (contains_text s) name k (stands s) fits from tried, length-map s.keys string_bytes)
