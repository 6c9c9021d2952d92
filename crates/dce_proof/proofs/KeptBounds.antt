-- A u32 can count what is kept of a module where it can count what the module has.
use Rattle.base_lists.proofs.Common.{◌≡◌, sym, subst, ℕ, ◌+◌, ◌^◌, ◌<◌, length, map, Some, arith, slice_get, length-map, slice_get_within, numbers_index, map_from}
use Rattle.wasm_tree_spec.specs.Prelude.{Func, Module, IsBounded, local_count, param_count, declared_count, funcs_of, globals_of}
use Rattle.wasm_valid.specs.declared.kinds.ItemKind.TheVariants as kind
use Rattle.index_remap.specs.declared.remap.Remap.{Remap}
use Rattle.index_remap.specs.Prelude.{new_data, new_elem, new_export, new_func, new_import}
use Rattle.base_kept.specs.Kept.{kept}
use Rattle.dce_spec.specs.Marks.{Marks}
use Rattle.dce_spec.specs.Swept.{defined_funcs, kept_elem, renumbered_kept, sweep_map}
use Rattle.dce_spec.specs.Closed.{AreClosed}
use Rattle.base_kept.proofs.Laws.{kept_from, kept_most}
use Rattle.dce_proof.proofs.KeptIndexSpaces.{funcs_are, globals_are, memories_are, tables_are}
use Rattle.wasm_valid.specs.Prelude.{ItemsHold}

module _ (k : Marks) (m : Module) (c : AreClosed k m) (holds : ItemsHold m) where
  abbrev r : Remap
  r = sweep_map k m

  abbrev u : Module
  u = renumbered_kept k m

  locals_few : IsBounded m → (i : ℕ) (f : Func) → slice_get u.funcs i ≡ Some f → local_count u.types f < 2 ^ 32
  locals_few few i f e =
      let x = map_from (new_func r) (kept (defined_funcs k m) m.funcs) i f e in
      let p = kept_from (defined_funcs k m) m.funcs i x.0 x.1 in
      let h = holds kind.Func p.place (slice_get_within m.funcs p.place x.0 p.is) in
      let same : h.0 ≡ x.0 = cc in
      let ty = numbers_index (length m.types) x.0.ty (subst (λ (z : Func). z.ty < length m.types) same h.2) in
      subst (λ z. local_count m.types z < 2 ^ 32) x.2 (subst (λ n. param_count (slice_get m.types n) + declared_count x.0.locals < 2 ^ 32) (sym ty) (few.locals p.place x.0 p.is))

  pub kept_bounded : IsBounded m → IsBounded u
  kept_bounded few =
      let i = few.imports in
      let f = few.funcs in
      let g = few.globals in
      let x = few.exports in
      let e = few.elems in
      let d = few.datas in
      let kept_imports = kept_most k.imports m.imports in
      let kept_funcs = kept_most k.funcs (funcs_of m) in
      let kept_globals = kept_most k.globals (globals_of m) in
      let kept_exports = kept_most k.exports m.exports in
      let new_imports = length-map (kept k.imports m.imports) (new_import r) in
      let new_exports = length-map (kept k.exports m.exports) (new_export r) in
      let new_elems = length-map (map (kept_elem k) m.elems) (new_elem r) in
      let elems = length-map m.elems (kept_elem k) in
      let datas = length-map m.datas (new_data r) in
      record {
        types = few.types;
        imports = omega (arith, i, kept_imports, new_imports);
        funcs = subst (λ xs. length xs < 2 ^ 32) (sym (funcs_are k m c holds)) (omega (arith, f, kept_funcs));
        tables = subst (λ xs. length xs < 2 ^ 32) (sym (tables_are k m c holds)) few.tables;
        memories = subst (λ xs. length xs < 2 ^ 32) (sym (memories_are k m c holds)) few.memories;
        globals = subst (λ xs. length xs < 2 ^ 32) (sym (globals_are k m c holds)) (omega (arith, g, kept_globals));
        exports = omega (arith, x, kept_exports, new_exports);
        elems = omega (arith, e, new_elems, elems);
        datas = omega (arith, d, datas);
        locals = locals_few few;
      }
