-- The new index of an entry of a part's index space.
use Rattle.base_lists.proofs.Common.{◌≡◌, ◌∙◌, sym, ap, refl, ℕ, zero, suc, ◌+◌, ◌≤◌, List, [], ◌∷◌, ◌++◌, length, map, take, arith, slice_get, Bool, true, false, cond, Option, Some, None, option_and_then, unwrap_or, numbers_append, map-append}
use Rattle.wasm_tree_spec.specs.Prelude.{Space, Module}
use Rattle.std.specs.Option.{option_map}
use Rattle.wasm_meaning.specs.Prelude.{defined_before, numbers, Part, places, module_at, imports_of, linked_end}
use Rattle.wasm_meaning.specs.Linking as linking
use Rattle.merge_spec.specs.declared.links.End.{End}
use Rattle.merge_spec.specs.Prelude.{end_entry, staying_of, place_of_end, imported_count}
use Rattle.merge_spec.specs.Merged.{place_of_entry, new_index}
use Rattle.merge_join.specs.LinkedParts.{site, place_at}
use Rattle.merge_join.proofs.Ends.{place_is}

-- The new index of an entry depends on the import that adds the entry, if one does.
index_is : (ps : List Part) (p : ℕ) (k : Space) (i : ℕ) (m : Module) (o : Option ℕ) → module_at ps p ≡ Some m → slice_get (imports_of k m) i ≡ o → new_index ps p k i ≡ unwrap_or (place_of_entry ps p k i o) 0
unfolding new_index
index_is ps p k i m o at is =
    ap (λ z. unwrap_or (option_and_then (λ x. place_of_entry ps p k i (slice_get (imports_of k x) i)) z) 0) at ∙ ap (λ z. unwrap_or (place_of_entry ps p k i z) 0) is

ended : (ps : List Part) (k : Space) (o : Option linking.End) (e : End) → option_map end_entry o ≡ Some e → unwrap_or (option_and_then (λ end. Some (place_of_end ps k end)) o) 0 ≡ place_at ps k e
ended ps k None e h = cc
ended ps k (Some end) e h = let same : end_entry end ≡ e = cc in place_is ps k end ∙ ap (place_at ps k) same

-- The new index of an imported entry is the place of its end.
pub new_index_at : (ps : List Part) (p : ℕ) (k : Space) (i n : ℕ) (m : Module) (e : End) → module_at ps p ≡ Some m → slice_get (imports_of k m) i ≡ Some n → option_map end_entry (linked_end ps (site p n)) ≡ Some e → new_index ps p k i ≡ place_at ps k e
new_index_at ps p k i n m e at here ends = index_is ps p k i m (Some n) at here ∙ ended ps k (linked_end ps (site p n)) e ends

place_past : {A : Type 0} (xs : List A) (i : ℕ) → length xs ≤ i → slice_get xs i ≡ None
place_past [] i h = refl
place_past (x ∷ xs) zero h = absurd (omega arith)
place_past (x ∷ xs) (suc i) h = place_past xs i (omega arith)

-- The new index of a defined entry is behind the imports that stay and the definitions of the parts
-- before.
pub new_index_own : (ps : List Part) (p : ℕ) (k : Space) (j : ℕ) (m : Module) → module_at ps p ≡ Some m → new_index ps p k (length (imports_of k m) + j) ≡ length (staying_of ps k) + defined_before k ps p + j
new_index_own ps p k j m at =
    let i = length (imports_of k m) + j in
    let past : length (imports_of k m) ≤ i = omega arith in
    let many : imported_count ps p k ≡ length (imports_of k m) = rw at refl in
    index_is ps p k i m None at (place_past (imports_of k m) i past) ∙ omega (arith, many)

places_there : {A : Type 0} (is : A → Bool) (xs : List A) (x : A) (i n : ℕ) → slice_get xs i ≡ Some x → is x ≡ true → slice_get (places is xs n) (length (places is (take i xs) n)) ≡ Some (n + i)
places_there is [] x i n h yes_ = cc
places_there is (y ∷ ys) x zero n h held =
    let same : y ≡ x = cc in
    let e : n ≡ n + 0 = omega arith in
    ap (λ (b : Bool). slice_get (cond b (n ∷ places is ys (suc n)) (places is ys (suc n))) 0) (ap is same ∙ held) ∙ ap Some e
places_there is (y ∷ ys) x (suc i) n h held =
    let e : suc n + i ≡ n + suc i = omega arith in
    step (is y) (places is ys (suc n)) (places is (take i ys) (suc n)) (places_there is ys x i (suc n) h held ∙ ap Some e)
  where
    step : (b : Bool) (all some : List ℕ) → slice_get all (length some) ≡ Some (n + suc i) → slice_get (cond b (n ∷ all) all) (length (cond b (n ∷ some) some)) ≡ Some (n + suc i)
    step true all some h = h
    step false all some h = h

-- The place of an import among those of its kind is the number of these before it.
pub import_place : {A : Type 0} (is : A → Bool) (xs : List A) (x : A) (i : ℕ) → slice_get xs i ≡ Some x → is x ≡ true → slice_get (places is xs 0) (length (places is (take i xs) 0)) ≡ Some i
import_place is xs x i h held = let e : 0 + i ≡ i = omega arith in places_there is xs x i 0 h held ∙ ap Some e

-- The new indices of the entries that a part defines are consecutive.
pub own_indices : (ps : List Part) (p : ℕ) (k : Space) (m : Module) (n : ℕ) → module_at ps p ≡ Some m → map (new_index ps p k) (numbers (length (imports_of k m)) n) ≡ numbers (length (staying_of ps k) + defined_before k ps p) n
own_indices ps p k m n at = let a : length (imports_of k m) + 0 ≡ length (imports_of k m) = omega arith in let b : length (staying_of ps k) + defined_before k ps p + 0 ≡ length (staying_of ps k) + defined_before k ps p = omega arith in
    ap (λ x. map (new_index ps p k) (numbers x n)) (sym a) ∙ own_from n 0 ∙ ap (λ x. numbers x n) b
  where
    own_from : (n j : ℕ) → map (new_index ps p k) (numbers (length (imports_of k m) + j) n) ≡ numbers (length (staying_of ps k) + defined_before k ps p + j) n
    own_from zero j = refl
    own_from (suc n) j =
        let a : suc (length (imports_of k m) + j) ≡ length (imports_of k m) + suc j = omega arith in
        let b : length (staying_of ps k) + defined_before k ps p + suc j ≡ suc (length (staying_of ps k) + defined_before k ps p + j) = omega arith in
        ap (λ x. x ∷ map (new_index ps p k) (numbers (suc (length (imports_of k m) + j)) n)) (new_index_own ps p k j m at)
        ∙ ap (λ rest. (length (staying_of ps k) + defined_before k ps p + j) ∷ rest) (ap (λ x. map (new_index ps p k) (numbers x n)) a ∙ own_from n (suc j) ∙ ap (λ x. numbers x n) b)

-- The new indices of a whole index space of a part.
pub all_indices : (ps : List Part) (p : ℕ) (k : Space) (m : Module) (n : ℕ) → module_at ps p ≡ Some m →
    map (new_index ps p k) (numbers 0 (length (imports_of k m))) ++ numbers (length (staying_of ps k) + defined_before k ps p) n ≡ map (new_index ps p k) (numbers 0 (length (imports_of k m) + n))
all_indices ps p k m n at =
    let z : 0 + length (imports_of k m) ≡ length (imports_of k m) = omega arith in
    ap (λ x. map (new_index ps p k) (numbers 0 (length (imports_of k m))) ++ x) (sym (own_indices ps p k m n at))
    ∙ sym (map-append (new_index ps p k) (numbers 0 (length (imports_of k m))) (numbers (length (imports_of k m)) n))
    ∙ ap (map (new_index ps p k)) (ap (λ x. numbers 0 (length (imports_of k m)) ++ numbers x n) (sym z) ∙ sym (numbers_append 0 (length (imports_of k m)) n))
