-- The items of a valid module are in range if its numbers that are no indices are in range.
use Rattle.base_lists.proofs.Common.{◌≡◌, ℕ, ◌<◌, ◌^◌, Bool, true, false, nat_lt, List, length, Option, Some, None, refl, sym, ap, ◌∙◌, subst, arith, slice_get, option_and_then, IsUtf8, nat_tests, slice_get_within, same_Some, length-map, and_from}
use Rattle.base_lists.proofs.Every.{every_placed}
use Rattle.base_kept.proofs.Marks.{marks_length}
use Rattle.wasm_tree_spec.specs.Prelude.{FuncType, TableType, ValType, ImportDesc, Import, ExportDesc, Export, ConstExpr, GlobalDef, ElemMode, ElemSeg, DataMode, DataSeg, Func, Module, funcs_of, tables_of, globals_of, IsBounded, PassesLayerByLayer, all_operands_pass, Ref, Operand}
use Rattle.wasm_tree.specs.declared.module.ImportDesc.TheVariants as import
use Rattle.wasm_tree.specs.declared.module.ExportDesc.TheVariants as export
use Rattle.wasm_tree.specs.declared.module.ConstExpr.TheVariants as const
use Rattle.wasm_tree.specs.declared.module.ElemMode.TheVariants as elem
use Rattle.wasm_tree.specs.declared.module.DataMode.TheVariants as segment
use Rattle.wasm_valid_bodies.specs.Typing.{only}
use Rattle.wasm_valid.specs.declared.kinds.ItemKind.TheVariants as kind
use Rattle.wasm_valid.specs.Prelude.{const_type, table_types, elem_types, refs_of, named_of, ImportHolds, InSpace, ElemModeHolds, DataModeHolds, IsSingle, HoldsAt, start_count, count_of, body_context, ItemsHold}
use Rattle.index_remap.proofs.UnreplacedCode.{operands_follow}
use Rattle.wasm_write_proof.specs.Ranges.{IsU32, small_operand, spelled_operand, all_numbers_in, MaxInRange, ConstInRange, ImportDescInRange, ImportInRange, ExportDescInRange, ExportInRange, ElemModeInRange, ElemInRange, DataModeInRange, FuncInRange, InRange}
use Rattle.wasm_valid_proof.specs.Numbers.{ConstNumberInRange, ImportLimitsInRange, ImportNumbersInRange, FuncNumbersInRange, ElemOffsetInRange, ElemNumbersInRange, DataOffsetInRange, NumbersInRange}
use Rattle.wasm_valid_proof.proofs.BodyRanges.{IsSmall, body_small}

module _
    (layers : PassesLayerByLayer)
    (small_spelled : (o : Operand) → spelled_operand o ≡ true → small_operand o ≡ true)
    (m : Module)
    (holds : ItemsHold m)
    (single : IsSingle m)
    (few : IsBounded m)
  where
    -- ---- constant expressions

    func_there : (f : ℕ) (o : Option ValType) (t : ValType) → only (nat_lt f (length (funcs_of m))) o ≡ Some t → f < 2 ^ 32
    func_there f o t e = by_test (nat_lt f (length (funcs_of m))) refl e
      where
        by_test : (b : Bool) → nat_lt f (length (funcs_of m)) ≡ b → only b o ≡ Some t → f < 2 ^ 32
        by_test false is k = absurd (cc)
        by_test true is k = let less : f < length (funcs_of m) = grind (arith, nat_tests) in omega (arith, few.funcs)

    global_there : {A B : Type 0} (xs : List A) (n : ℕ) (f : A → Option B) (t : B) → length xs < 2 ^ 32 → option_and_then f (slice_get xs n) ≡ Some t → n < 2 ^ 32
    global_there xs n f t h e = by_case (slice_get xs n) refl e
      where
        by_case : (o : Option _) → slice_get xs n ≡ o → option_and_then f o ≡ Some t → n < 2 ^ 32
        by_case None is k = absurd (cc)
        by_case (Some x) is k = let less : n < length xs = slice_get_within xs n x is in omega arith

    const_in : (e : ConstExpr) (t : ValType) → const_type m e ≡ Some t → ConstNumberInRange e → ConstInRange e
    const_in (const.I32 z) t h n = n
    const_in (const.I64 z) t h n = n
    const_in (const.Null r) t h n = tt
    const_in (const.Func f) t h n = func_there f _ t h
    const_in (const.Global g) t h n = global_there (globals_of m) g _ t few.globals h

    -- ---- imports and exports

    desc_in : (d : ImportDesc) → ImportHolds m d → ImportLimitsInRange d → ImportDescInRange d
    desc_in (import.Func ty) h n = omega (arith, few.types)
    desc_in (import.Table t) h n = n
    desc_in (import.Memory l) h n = n
    desc_in (import.Global g) h n = tt

    import_in : (i : ℕ) (x : Import) → slice_get m.imports i ≡ Some x → ImportNumbersInRange x → ImportInRange x
    import_in i x e n = (n.0, n.1, from_held (holds kind.Import i (slice_get_within m.imports i x e)))
      where
        from_held : HoldsAt m kind.Import i → ImportDescInRange x.desc
        from_held (y, f, h) = desc_in x.desc (subst (λ z. ImportHolds m z.desc) (same_Some y x (sym f ∙ e)) h) n.2

    space_in : (d : ExportDesc) → InSpace m d → ExportDescInRange d
    space_in (export.Func x) h = omega (arith, few.funcs)
    space_in (export.Table x) h = omega (arith, few.tables)
    space_in (export.Memory x) h = omega (arith, few.memories)
    space_in (export.Global x) h = omega (arith, few.globals)

    export_in : (i : ℕ) (x : Export) → slice_get m.exports i ≡ Some x → IsUtf8 x.name → ExportInRange x
    export_in i x e n = (n, from_held (holds kind.Export i (slice_get_within m.exports i x e)))
      where
        from_held : HoldsAt m kind.Export i → ExportDescInRange x.desc
        from_held (y, f, space, new) = space_in x.desc (subst (λ z. InSpace m z.desc) (same_Some y x (sym f ∙ e)) space)

    -- ---- globals and segments

    global_in : (i : ℕ) (x : GlobalDef) → slice_get m.globals i ≡ Some x → ConstNumberInRange x.init → ConstInRange x.init
    global_in i x e n = from_held (holds kind.Global i (slice_get_within m.globals i x e))
      where
        from_held : HoldsAt m kind.Global i → ConstInRange x.init
        from_held (y, f, typed) = const_in x.init x.ty.ty (subst (λ z. const_type m z.init ≡ Some z.ty.ty) (same_Some y x (sym f ∙ e)) typed) n

    table_there : (table : ℕ) (o : Option _) → slice_get (table_types m) table ≡ o → (o ≡ None → ⊥) → table < 2 ^ 32
    table_there table None e some = absurd (some refl)
    table_there table (Some ty) e some =
        let less : table < length (table_types m) = slice_get_within (table_types m) table ty e in
        let same : length (table_types m) ≡ length (tables_of m) = length-map (tables_of m) (λ (t : TableType). t.ty) in
        omega (arith, few.tables)

    elem_mode_in : (ty : _) (mode : ElemMode) → ElemModeHolds m ty mode → ElemOffsetInRange mode → ElemModeInRange mode
    elem_mode_in ty (elem.Active table offset) h n = (table_there table (Some ty) h.0 (λ e. cc), const_in offset _ h.1 n)
    elem_mode_in ty elem.Passive h n = tt
    elem_mode_in ty elem.Declarative h n = tt

    elem_in : (i : ℕ) (x : ElemSeg) → slice_get m.elems i ≡ Some x → ElemNumbersInRange x → ElemInRange x
    elem_in i x e n = from_held (holds kind.Elem i (slice_get_within m.elems i x e))
      where
        from_held : HoldsAt m kind.Elem i → ElemInRange x
        from_held (y, f, items, mode) =
            let same = same_Some y x (sym f ∙ e) in
            let items' = subst (λ (z : ElemSeg). (j : ℕ) (e : ConstExpr) → slice_get z.items j ≡ Some e → const_type m e ≡ Some (Ref z.ty)) same items in
            (elem_mode_in x.ty x.mode (subst (λ (z : ElemSeg). ElemModeHolds m z.ty z.mode) same mode) n.0, every_placed ConstNumberInRange ConstInRange x.items n.1 (λ j c g k. const_in c _ (items' j c g) k))

    data_mode_in : (mode : DataMode) → DataModeHolds m mode → DataOffsetInRange mode → DataModeInRange mode
    data_mode_in (segment.Active memory offset) h n = (omega (arith, few.memories, h.0), const_in offset _ h.1 n)
    data_mode_in segment.Passive h n = tt

    data_in : (i : ℕ) (x : DataSeg) → slice_get m.datas i ≡ Some x → DataOffsetInRange x.mode → DataModeInRange x.mode
    data_in i x e n = from_held (holds kind.Segment i (slice_get_within m.datas i x e))
      where
        from_held : HoldsAt m kind.Segment i → DataModeInRange x.mode
        from_held (y, f, mode) = data_mode_in x.mode (subst (λ z. DataModeHolds m z.mode) (same_Some y x (sym f ∙ e)) mode) n

    -- ---- the start and the functions

    func_type_there : (f : ℕ) (o : Option ℕ) (t : FuncType) → slice_get (funcs_of m) f ≡ o → option_and_then (slice_get m.types) o ≡ Some t → f < 2 ^ 32
    func_type_there f None t e h = absurd (cc)
    func_type_there f (Some ty) t e h = let less : f < length (funcs_of m) = slice_get_within (funcs_of m) f ty e in omega (arith, few.funcs)

    start_in : (start : Option ℕ) → m.start ≡ start → MaxInRange start
    start_in None e = tt
    start_in (Some x) e = from_held (holds kind.Start 0 one)
      where
        one : 0 < count_of m true kind.Start
        one = let same : count_of m true kind.Start ≡ 1 = ap start_count e in omega arith

        from_held : HoldsAt m kind.Start 0 → x < 2 ^ 32
        from_held (y, t, f, typed, params, results) = subst (λ z. z < 2 ^ 32) (same_Some y x (sym f ∙ e)) (func_type_there y (slice_get (funcs_of m) y) t refl typed)

    small_context : (f : Func) (t : FuncType) → IsSmall (body_context m f t)
    small_context f t = record {
      types = few.types;
      funcs = few.funcs;
      tables = let same : length (table_types m) ≡ length (tables_of m) = length-map (tables_of m) (λ (t : TableType). t.ty) in omega (arith, few.tables);
      memories = single;
      globals = few.globals;
      elems = let same : length (elem_types m.elems) ≡ length m.elems = length-map m.elems (λ (s : ElemSeg). s.ty) in omega (arith, few.elems);
      datas = few.datas;
      named = let same : length (named_of m) ≡ length (funcs_of m) = marks_length (refs_of m) 0 (length (funcs_of m)) in omega (arith, few.funcs);
    }

    -- The type index of a function and the operands of its body are in range.
    func_names : (i : ℕ) (x : Func) → slice_get m.funcs i ≡ Some x → IsU32 x.ty × (all_operands_pass spelled_operand x.body ≡ true)
    func_names i x e = from_held (holds kind.Body i (slice_get_within m.funcs i x e))
      where
        from_held : HoldsAt m kind.Body i → IsU32 x.ty × (all_operands_pass spelled_operand x.body ≡ true)
        from_held (y, t, f, type_is, (last, l, matched)) =
            let same = same_Some y x (sym f ∙ e) in
            let less : y.ty < length m.types = slice_get_within m.types y.ty t type_is in
            let bounded : y.ty < 2 ^ 32 = omega (arith, few.types) in
            (subst (λ (z : Func). z.ty < 2 ^ 32) same bounded, subst (λ (z : Func). all_operands_pass spelled_operand z.body ≡ true) same (body_small layers (body_context m y t) (small_context y t) y.body _ last l))

    func_in : (i : ℕ) (x : Func) → slice_get m.funcs i ≡ Some x → FuncNumbersInRange x → FuncInRange x
    func_in i x e n =
        let k = func_names i x e in (
          k.0,
          (
            n.0,
            and_from (all_operands_pass small_operand x.body) (all_numbers_in x.body) ((layers small_operand x.body).1 (operands_follow (λ o. spelled_operand o ≡ true) (λ o. small_operand o ≡ true) small_spelled x.body ((layers spelled_operand x.body).0 k.1)))
                n.1,
          ),
        )

    pub tree_in : NumbersInRange m → InRange m
    tree_in n = record {
      imports = every_placed ImportNumbersInRange ImportInRange m.imports n.imports import_in;
      funcs = every_placed FuncNumbersInRange FuncInRange m.funcs n.funcs func_in;
      tables = n.tables;
      mems = n.mems;
      globals = every_placed (λ (g : GlobalDef). ConstNumberInRange g.init) (λ (g : GlobalDef). ConstInRange g.init) m.globals n.globals global_in;
      exports = every_placed (λ (e : Export). IsUtf8 e.name) ExportInRange m.exports n.exports export_in;
      start = start_in m.start refl;
      elems = every_placed ElemNumbersInRange ElemInRange m.elems n.elems elem_in;
      datas = every_placed (λ (s : DataSeg). DataOffsetInRange s.mode) (λ (s : DataSeg). DataModeInRange s.mode) m.datas n.datas data_in;
    }
