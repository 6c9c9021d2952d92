-- A module with its references declared: it has perhaps one more element segment, which is
-- declarative and is allocated wherever the module is.
use Rattle.base_lists.proofs.Common.{◌≡◌, ℕ, zero, suc, ◌+◌, ◌<◌, List, [], ◌∷◌, map, length, Some, refl, sym, arith, append-nil, slice_get, same_Some, range_with_len, kept_is, map_from, slice_get_there, all_there_from, is_some_there}
use Rattle.wasm_tree.specs.declared.module.ConstExpr.TheVariants as const
use Rattle.wasm_tree_spec.specs.Prelude.{Module, funcs_of}
use Rattle.wasm_meaning.specs.Prelude.{Inst, Elem, Environment, all_there, elem_of}
use Rattle.wasm_meaning.specs.World.{ref_value}
use Rattle.index_remap.specs.Prelude.{declared_refs, with_declared}
use Rattle.world_simulation.specs.Prelude.{one}
use Rattle.world_simulation.specs.DeclaredReferences.{IsWithDeclared, last_segments}

pub is_with_declared : (m : Module) (fs : List ℕ) → IsWithDeclared m (with_declared m fs) fs
is_with_declared m [] = assumption (sym (append-nil m.elems))
is_with_declared m (f ∷ fs) = assumption

range_below : (a n k x : ℕ) → slice_get (range_with_len a n) k ≡ Some x → x < a + n
range_below a zero k x h = cc
range_below a (suc n) zero x h = omega (arith, same_Some _ _ h)
range_below a (suc n) (suc k) x h = omega (arith, range_below (a + 1) n k x h)

module _ (env : Environment) (u : Module) (j : Inst) where
  segments_there : (fs : List ℕ) → ((n f : ℕ) → slice_get fs n ≡ Some f → f < length j.funcs) → (es : List Elem) × (all_there (elem_of env (one u) (j ∷ []) 0) (last_segments fs) ≡ Some es)
  segments_there [] h = ([], refl)
  segments_there (f ∷ fs) h =
      let r = all_there_from (ref_value env (one u) (j ∷ []) 0) (map const.Func (f ∷ fs)) (λ n x e.
      let g = map_from const.Func (f ∷ fs) n x e in
      let a = slice_get_there j.funcs g.0 (h n g.0 g.1) in
      is_some_there _ (rw (← g.2, a.1))) in
      is_some_there _ (rw r.are)

  -- The segment that declares a module's references is allocated if the instance has as many
  -- functions as the module.
  pub last_elems : (m : Module) → length j.funcs ≡ length (funcs_of m) → (es : List Elem) × (all_there (elem_of env (one u) (j ∷ []) 0) (last_segments (declared_refs m)) ≡ Some es)
  last_elems m e = segments_there (declared_refs m) (λ n f h.
      grind (arith, kept_is _ (range_with_len 0 (length (funcs_of m))) n f h, range_below 0 (length (funcs_of m))))
