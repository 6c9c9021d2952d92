-- The map of a sweep has an entry for each index that is named in what is kept.
use Rattle.base_lists.proofs.Common.{◌≡◌, subst, List, map, length, Bool, true, IsTrue, arith, list_all, length-map, left_true, right_true, list_all_each, list_all_from, kept_is, length-numbers, map_from, and_from}
use Rattle.base_lists.specs.Places.{numbers}
use Rattle.wasm_tree_spec.specs.Prelude.{ConstExpr, ElemMode, ElemSeg, Module, tables_of, memories_of}
use Rattle.wasm_tree.specs.declared.module.ElemMode.TheVariants as elem
use Rattle.wasm_valid.specs.Prelude.{IsValid}
use Rattle.index_remap.specs.declared.remap.Remap.{Remap}
use Rattle.index_remap.specs.Prelude.{fits_const, fits_elem, fits_elem_mode, fits_export, fits_func, fits_global, fits_import, fits_start, fits_tree}
use Rattle.index_remap_proof.specs.Trees.{Covers}
use Rattle.base_kept.specs.Kept.{kept, kept_before}
use Rattle.dce_spec.specs.Marks.{Marks}
use Rattle.dce_spec.specs.Swept.{defined_funcs, defined_globals, is_kept_ref, kept_elem, kept_items, kept_tree, sweep_map}
use Rattle.dce_spec.specs.Closed.{AreClosed}
use Rattle.base_kept.proofs.Laws.{kept_from}

-- A map that is as long as each index space has an entry for each index that a valid module names.
abbrev pub EntriesAreThere : Type 0
EntriesAreThere = (m : Remap) (t : Module) → IsValid t → Covers m t → IsTrue (fits_tree m t)

kept_all_pass : {A : Type 0} (test : A → Bool) (bs : List Bool) (xs : List A) → list_all test xs ≡ true → list_all test (kept bs xs) ≡ true
kept_all_pass test bs xs h = list_all_from test (kept bs xs) (λ n x e. let p = kept_from bs xs n x e in list_all_each test xs h p.place x p.is)

module _ (k : Marks) (m : Module) where
  abbrev r : Remap
  r = sweep_map k m

  covers : AreClosed k m → Covers r m
  covers c =
      let funcs = c.funcs_many in
      let globals = c.globals_many in
      let new_funcs = length-map (numbers 0 (length k.funcs)) (kept_before k.funcs) in
      let new_globals = length-map (numbers 0 (length k.globals)) (kept_before k.globals) in
      let old_funcs = length-numbers 0 (length k.funcs) in
      let old_globals = length-numbers 0 (length k.globals) in
      let types = length-numbers 0 (length m.types) in
      let tables = length-numbers 0 (length (tables_of m)) in
      let mems = length-numbers 0 (length (memories_of m)) in
      let elems = length-numbers 0 (length m.elems) in
      let datas = length-numbers 0 (length m.datas) in
      record {
        types = omega (arith, types);
        funcs = omega (arith, funcs, new_funcs, old_funcs);
        tables = omega (arith, tables);
        memories = omega (arith, mems);
        globals = omega (arith, globals, new_globals, old_globals);
        elems = omega (arith, elems);
        datas = omega (arith, datas);
      }

  items_fit : (mode : ElemMode) (items : List ConstExpr) → list_all (fits_const r) items ≡ true → list_all (fits_const r) (kept_items k mode items) ≡ true
  items_fit (elem.Active table offset) items h = h
  items_fit elem.Passive items h = h
  items_fit elem.Declarative items h =
      list_all_from (fits_const r) (kept_items k elem.Declarative items) (λ n e at. let p = kept_is (is_kept_ref k) items n e at in list_all_each (fits_const r) items h p.1.0 e p.1.1)

  elem_fits : (e : ElemSeg) → fits_elem r e ≡ true → fits_elem r (kept_elem k e) ≡ true
  elem_fits e h = and_from (fits_elem_mode r e.mode) (list_all (fits_const r) (kept_items k e.mode e.items)) (left_true _ _ h) (items_fit e.mode e.items (right_true (fits_elem_mode r e.mode) _ h))

  elems_fit : list_all (fits_elem r) m.elems ≡ true → list_all (fits_elem r) (map (kept_elem k) m.elems) ≡ true
  elems_fit h =
      list_all_from (fits_elem r) (map (kept_elem k) m.elems) (λ n e at.
      let a = map_from (kept_elem k) m.elems n e at in
      subst (λ z. fits_elem r z ≡ true) a.2 (elem_fits a.0 (list_all_each (fits_elem r) m.elems h n a.0 a.1)))

  tree_kept : fits_tree r m ≡ true → fits_tree r (kept_tree k m) ≡ true
  tree_kept h0 =
      let h1 = right_true (list_all (fits_import r) m.imports) _ h0 in
      let h2 = right_true (list_all (fits_func r) m.funcs) _ h1 in
      let h3 = right_true (list_all (fits_global r) m.globals) _ h2 in
      let h4 = right_true (list_all (fits_export r) m.exports) _ h3 in
      let h5 = right_true (fits_start r m.start) _ h4 in
      and_from _ _ (kept_all_pass (fits_import r) k.imports m.imports (left_true _ _ h0))
      (and_from _ _ (kept_all_pass (fits_func r) (defined_funcs k m) m.funcs (left_true _ _ h1))
      (and_from _ _ (kept_all_pass (fits_global r) (defined_globals k m) m.globals (left_true _ _ h2))
      (and_from _ _ (kept_all_pass (fits_export r) k.exports m.exports (left_true _ _ h3))
      (and_from _ _ (left_true _ _ h4)
      (and_from _ _ (elems_fit (left_true _ _ h5)) (right_true (list_all (fits_elem r) m.elems) _ h5))))))

  pub kept_fits : EntriesAreThere → IsValid m → AreClosed k m → IsTrue (fits_tree (sweep_map k m) (kept_tree k m))
  kept_fits law valid c = tree_kept (law r m valid (covers c))
