-- What validity of the parts implies: their constant expressions read immutable imports, and the
-- entities that they export exist.
use Rattle.base_lists.proofs.Common.{◌≡◌, ◌∙◌, sym, ap, ℕ, ◌+◌, ◌<◌, List, map, length, Some, arith, not, nat_lt, slice_get, ltb-true, and_parts, not-true, length-append, length-map, slice_get_within, same_Some, slice_get_there, append_left, place_of, and_then_is, only_true, places_many}
use Rattle.wasm_tree_spec.specs.Prelude.{Functions, Tables, Memories, Globals, imported_funcs, imported_tables, imported_memories, ValType, Ref, GlobalType, Import, ExportDesc, ConstExpr, GlobalDef, ElemSeg, DataSeg, Module, global_of, imported_globals, globals_of, index_of_export, space_of_export}
use Rattle.wasm_tree.specs.declared.module.ImportDesc.TheVariants as im
use Rattle.wasm_tree.specs.declared.module.ExportDesc.TheVariants as ex
use Rattle.wasm_valid.specs.declared.kinds.ItemKind.TheVariants as kind
use Rattle.wasm_valid.specs.Prelude.{const_type, IsValid, InSpace, ElemModeHolds, DataModeHolds, ValidWhereItemsHold}
use Rattle.wasm_meaning.specs.Prelude.{Part, has_kind, imports_of, module_at, defined_count}
use Rattle.wasm_meaning.specs.Counted.{FoundExportsAreThere}
use Rattle.merge_proof.proofs.JoinedImports.{ExportsThere}
use Rattle.merge_proof.proofs.SequentialConstants.{Constant}
use Rattle.merge_proof.proofs.PartStores.{Constants}

-- ---- imports of globals ----

-- The import of a global, by the global's index.
record Imported (m : Module) (x : ℕ) (type : GlobalType) : Type 0 where
  at : ℕ
  import : Import
  is_place : slice_get (imports_of Globals m) x ≡ Some at
  is_import : slice_get m.imports at ≡ Some import
  is_global : import.desc ≡ im.Global type

imported : (m : Module) (x : ℕ) (type : GlobalType) → slice_get (globals_of m) x ≡ Some type → x < length (imported_globals m.imports) → Imported m x type
imported m x type h l =
    let many : length (imports_of Globals m) ≡ length (imported_globals m.imports) = places_many _ _ m.imports (grind arith) 0 in
    let n = slice_get_there (imports_of Globals m) x (rw many l) in
    let i = place_of (has_kind Globals) (λ i. global_of i.desc) m.imports (grind arith) 0 x n.0 n.1 in
    let is = append_left (imported_globals m.imports) (map (λ g. g.ty) m.globals) x l in
    let at : n.0 ≡ i.0 = omega (arith, i.2) in
    record { at = i.0; import = i.1; is_place = n.1 ∙ ap Some at; is_import = i.3; is_global = grind (arith, sym i.5 ∙ sym is ∙ h) }

-- ---- constant expressions ----

pub constant_typed : (m : Module) (e : ConstExpr) (ty : ValType) → const_type m e ≡ Some ty → Constant m e
constant_typed m e ty h x is =
    let g = and_then_is (slice_get (globals_of m) x) _ ty (rw is at h) in
    let both = and_parts (nat_lt x (length (imported_globals m.imports))) (not g.0.mutable) (only_true _ (Some g.0.ty) ty g.2) in
    let i = imported m x g.0 g.1 (ltb-true _ _ both.0) in
    record { at = i.at; is_place = i.is_place; import = i.import; is_import = i.is_import; type = g.0; is_global = i.is_global; fixed = not-true g.0.mutable both.1 }

module _ (items : ValidWhereItemsHold) where
  pub valid_constants : (m : Module) → IsValid m → Constants m
  valid_constants m valid = record {
    globals = λ n g at. constant_typed m g.init g.ty.ty (global_typed n g at);
    items = λ n s at l e here. constant_typed m e (Ref s.ty) ((elem_holds n s at).0 l e here);
    tables = λ n s x e at mode. constant_typed m e _ (rw mode at (elem_holds n s at).1).1;
    memories = λ n s x e at mode. constant_typed m e _ (rw mode at (data_holds n s at)).1;
  }
    where
      global_typed : (n : ℕ) (g : GlobalDef) → slice_get m.globals n ≡ Some g → const_type m g.init ≡ Some g.ty.ty
      global_typed n g h =
          let z = (items m).0 valid kind.Global n (slice_get_within m.globals n g h) in
          rw (same_Some z.0 g (sym z.1 ∙ h)) at z.2

      elem_holds : (n : ℕ) (s : ElemSeg) → slice_get m.elems n ≡ Some s → ((l : ℕ) (e : ConstExpr) → slice_get s.items l ≡ Some e → const_type m e ≡ Some (Ref s.ty)) × ElemModeHolds m s.ty s.mode
      elem_holds n s h =
          let z = (items m).0 valid kind.Elem n (slice_get_within m.elems n s h) in
          let same = same_Some z.0 s (sym z.1 ∙ h) in (rw same at z.2, rw same at z.3)

      data_holds : (n : ℕ) (s : DataSeg) → slice_get m.datas n ≡ Some s → DataModeHolds m s.mode
      data_holds n s h =
          let z = (items m).0 valid kind.Segment n (slice_get_within m.datas n s h) in
          rw (same_Some z.0 s (sym z.1 ∙ h)) at z.2

  -- ---- exports ----

  in_space : (m : Module) (d : ExportDesc) → InSpace m d → index_of_export d < length (imports_of (space_of_export d) m) + defined_count (space_of_export d) m
  in_space m (ex.Func x) h = let many : length (imports_of Functions m) ≡ length (imported_funcs m.imports) = places_many _ _ m.imports (grind arith) 0 in rw many (simp (length-append, length-map) at h)
  in_space m (ex.Table x) h = let many : length (imports_of Tables m) ≡ length (imported_tables m.imports) = places_many _ _ m.imports (grind arith) 0 in rw many (simp length-append at h)
  in_space m (ex.Memory x) h = let many : length (imports_of Memories m) ≡ length (imported_memories m.imports) = places_many _ _ m.imports (grind arith) 0 in rw many (simp length-append at h)
  in_space m (ex.Global x) h = let many : length (imports_of Globals m) ≡ length (imported_globals m.imports) = places_many _ _ m.imports (grind arith) 0 in rw many (simp (length-append, length-map) at h)

  pub valid_exports : FoundExportsAreThere → (parts : List Part) → ((p : ℕ) (m : Module) → module_at parts p ≡ Some m → IsValid m) → ExportsThere parts
  valid_exports exported parts valid p m field d is_part named =
      let e = exported m.exports field d named in
      let z = (items m).0 (valid p m is_part) kind.Export e.0 (slice_get_within m.exports e.0 e.1 e.2) in
      in_space m d (rw (same_Some z.0 e.1 (sym z.1 ∙ e.2), e.3) at z.2)
