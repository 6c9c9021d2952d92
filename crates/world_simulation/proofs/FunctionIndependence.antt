-- What is copied into tables and memories does not depend on the functions of a store.
use Rattle.base_lists.proofs.Common.{◌≡◌, List, [], ◌∷◌, Option, refl, ap, arith}
use Rattle.wasm_tree_spec.specs.Prelude.{ConstExpr, Module}
use Rattle.wasm_meaning.specs.Prelude.{Val, Inst, Func, Store, Filled, segments_in, run_elem_with, run_data_with, one_by_one, own_segments}
use Rattle.world_simulation.specs.FunctionIndependence.{filled_with, with_funcs}

module _ (fs : List Func) where
  -- Copies one after the other do the same whatever the functions are, if each copy does.
  each_with : {A : Type 0} (run : Store → A → Filled) → ((s : Store) (x : A) → run (with_funcs fs s) x ≡ filled_with fs (run s x)) → (xs : List A) (s : Store) → one_by_one run (with_funcs fs s) xs ≡ filled_with fs (one_by_one run s xs)
  each_with run h [] s = refl
  each_with run h (x ∷ xs) s = grind (arith, h s x, each_with run h xs)

  pub segments_with : (value : ConstExpr → Option Val) (m : Module) (i : Inst) (s : Store) → own_segments value m i (with_funcs fs s) ≡ filled_with fs (own_segments value m i s)
  segments_with value m i s =
      let elems = each_with (λ s task. run_elem_with value s task task.segment.mode) (λ s x. grind arith) (segments_in 0 i i.elems m.elems) s in
      let datas = each_with (λ s task. run_data_with value s task task.segment.mode) (λ s x. grind arith) (segments_in 0 i i.datas m.datas) in
      grind (arith, elems, datas)

-- The functions of the store stay as they were.
pub segments_funcs : (value : ConstExpr → Option Val) (m : Module) (i : Inst) (s : Store) → (own_segments value m i s).store.funcs ≡ s.funcs
segments_funcs value m i s = ap (λ (f : Filled). f.store.funcs) (segments_with s.funcs value m i s)
