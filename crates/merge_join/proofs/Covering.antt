-- The map of a part has an entry for each index of the part's index spaces.
use Rattle.base_lists.proofs.Common.{◌≡◌, ◌∙◌, sym, ap, subst, ℕ, ◌<◌, List, [], ◌∷◌, length, arith, Some, length-numbers, map_numbers_index, slice_index, IsTrue, nat_lt, nat_tests, length-map}
use Rattle.wasm_tree_spec.specs.Prelude.{Functions, Module, funcs_of}
use Rattle.wasm_meaning.specs.Prelude.{numbers, Part}
use Rattle.index_remap.specs.declared.remap.Remap.{Remap}
use Rattle.index_remap.specs.Prelude.{fits_start, fits_tree}
use Rattle.merge_spec.specs.Prelude.{new_index, start_of}
use Rattle.merge_spec.specs.Merged.{map_of}
use Rattle.merge_join.proofs.Holding.{fitting}

-- The entry of a function of the part is its new index.
pub func_entry : (ps : List Part) (p : ℕ) (m : Module) (f : ℕ) → f < length (funcs_of m) → slice_index (map_of ps p m).funcs f ≡ new_index ps p Functions f
unfolding map_of
func_entry ps p m f h = map_numbers_index (new_index ps p Functions) 0 (length (funcs_of m)) f h ∙ ap (new_index ps p Functions) (omega arith)

-- ---- what a map that fits has an entry for ----

below : (i n : ℕ) → IsTrue (nat_lt i n) → i < n
below i n h = grind (arith, nat_tests, h)

pub start_fits : (r : Remap) (m : Module) (f : ℕ) → IsTrue (fits_tree r m) → m.start ≡ Some f → f < length r.funcs
start_fits r m f h is = below f (length r.funcs) (subst (λ s. IsTrue (fits_start r s)) is (fitting r m h).start)

funcs_many : (ps : List Part) (p : ℕ) (m : Module) → length (map_of ps p m).funcs ≡ length (funcs_of m)
unfolding map_of
funcs_many ps p m = length-map (numbers 0 (length (funcs_of m))) (new_index ps p Functions) ∙ length-numbers 0 (length (funcs_of m))

-- The entry of the start function is its new index.
pub start_entry : (ps : List Part) (p : ℕ) (m : Module) (r : Remap) (f : ℕ) → r ≡ map_of ps p m → f < length r.funcs → m.start ≡ Some f → slice_index r.funcs f ∷ [] ≡ start_of ps p m.start
start_entry ps p m r f are within is =
    let inside : f < length (funcs_of m) = omega (arith, within, ap (λ x. length x.funcs) are, funcs_many ps p m) in
    ap (λ x. slice_index x.funcs f ∷ []) are ∙ ap (λ k. k ∷ []) (func_entry ps p m f inside) ∙ sym (ap (start_of ps p) is)
