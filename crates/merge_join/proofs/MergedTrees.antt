-- The merged module, from its lists.
use Rattle.base_lists.proofs.Common.{◌≡◌, ◌∙◌, ap, ap₂, refl, ℕ, suc, ◌+◌, ◌<◌, ◌≤◌, ◌^◌, List, [], ◌∷◌, ◌++◌, length, map, arith, Option, Some, None, false, is_some, option_and_then, unwrap_or, slice_get, filter_map, length-append, length-map}
use Rattle.wasm_tree_spec.specs.Prelude.{Functions, FuncType, TableType, Limits, Import, Func, GlobalDef, Export, ElemSeg, DataSeg, Module, ImportDesc, same_space, func_of, imported_funcs, funcs_of, space_of_import}
use Rattle.wasm_tree.specs.declared.module.ImportDesc.TheVariants as im
use Rattle.base_lists.proofs.Filtered.{as_many, chosen_twice}
use Rattle.wasm_meaning.specs.Prelude.{Text, defined_before, Part, Site, has_kind, module_at}
use Rattle.index_remap.specs.Prelude.{new_func}
use Rattle.merge_spec.specs.Prelude.{staying, imports_kind, merged_desc, by_part_from, map_of, starts, start_calls, FewInAll}
use Rattle.merge_spec.specs.Merged.{staying_of, merged_import, defined_funcs, merged}
use Rattle.merge_join.specs.Planned.{IsMergedFrame, IsMoved}
use Rattle.merge_join.proofs.Counts.{staying_few}

abbrev pub built : List FuncType → List Import → List Func → List TableType → List Limits → List GlobalDef → List Export → Option ℕ → List ElemSeg → List DataSeg → Module
built types imports funcs tables mems globals exports start elems datas = record {
  types = types;
  imports = imports;
  funcs = funcs;
  tables = tables;
  mems = mems;
  globals = globals;
  exports = exports;
  start = start;
  elems = elems;
  datas = datas;
}

-- The definitions of the parts in one tree, with the types, imports, exports and start of the
-- merged module, and with its last functions.
abbrev pub framed : Module → Module → Module
framed f t = record t { types = f.types; imports = f.imports; funcs = t.funcs ++ f.funcs; exports = f.exports; start = f.start }

pub merged_is : (ps : List Part) (names : List (Option Text)) (f t : Module) → IsMergedFrame ps names f → IsMoved ps t → framed f t ≡ merged ps names
unfolding merged
merged_is ps names f t a b =
    let m = framed f t in
    let n = merged ps names in
    ap (λ x. built x m.imports m.funcs m.tables m.mems m.globals m.exports m.start m.elems m.datas) a.types_are
    ∙ ap (λ x. built n.types x m.funcs m.tables m.mems m.globals m.exports m.start m.elems m.datas) a.imports_are
    ∙ ap₂ (λ x y. built n.types n.imports (x ++ y) m.tables m.mems m.globals m.exports m.start m.elems m.datas) b.funcs_are a.calls_are
    ∙ ap (λ x. built n.types n.imports n.funcs x m.mems m.globals m.exports m.start m.elems m.datas) b.tables_are
    ∙ ap (λ x. built n.types n.imports n.funcs n.tables x m.globals m.exports m.start m.elems m.datas) b.mems_are
    ∙ ap (λ x. built n.types n.imports n.funcs n.tables n.mems x m.exports m.start m.elems m.datas) b.globals_are
    ∙ ap (λ x. built n.types n.imports n.funcs n.tables n.mems n.globals x m.start m.elems m.datas) a.exports_are
    ∙ ap (λ x. built n.types n.imports n.funcs n.tables n.mems n.globals n.exports x m.elems m.datas) a.start_is
    ∙ ap (λ x. built n.types n.imports n.funcs n.tables n.mems n.globals n.exports n.start x m.datas) b.elems_are
    ∙ ap (λ x. built n.types n.imports n.funcs n.tables n.mems n.globals n.exports n.start n.elems x) b.datas_are

-- ---- its functions are few ----

defined_from : (g : ℕ → Module → Func → Func) (q : ℕ) (ps : List Part) → length (by_part_from (λ p m. map (g p m) m.funcs) q ps) ≡ defined_before Functions ps (length ps)
defined_from g q [] = refl
defined_from g q (part ∷ ps) =
    length-append (map (g q part.«module») part.«module».funcs) (by_part_from (λ p m. map (g p m) m.funcs) (suc q) ps)
    ∙ ap (λ n. n + length (by_part_from (λ p m. map (g p m) m.funcs) (suc q) ps)) (length-map part.«module».funcs (g q part.«module»))
    ∙ ap (λ n. length part.«module».funcs + n) (defined_from g (suc q) ps)

calls_few : (ps : List Part) (fs : List ℕ) → length (start_calls ps fs) ≤ 1
calls_few ps [] = omega arith
calls_few ps (f ∷ []) = omega arith
calls_few ps (f ∷ g ∷ fs) = omega arith

-- An import of the merged module adds a function exactly if the import of the part does.
func_there : (ps : List Part) (s : Site) → is_some (option_and_then (λ i. func_of i.desc) (merged_import ps s)) ≡ imports_kind ps Functions s
unfolding merged_import
func_there ps s = at_part (module_at ps s.part)
  where
    kind : (m : Module) (d : ImportDesc) → is_some (func_of (merged_desc ps s m d)) ≡ same_space Functions (space_of_import d)
    kind m (im.Func t) = refl
    kind m (im.Table t) = refl
    kind m (im.Memory l) = refl
    kind m (im.Global t) = refl

    at_import : (m : Module) (o : Option Import) → is_some (option_and_then (λ i. func_of i.desc) (option_and_then {T = Import} {U = Import} (λ i. Some (record i { desc = merged_desc ps s m i.desc })) o)) ≡ unwrap_or (option_and_then (λ i. Some (has_kind Functions i)) o) false
    at_import m None = refl
    at_import m (Some i) = kind m i.desc

    at_part : (o : Option Module)
        → is_some (option_and_then (λ i. func_of i.desc) (option_and_then (λ m. option_and_then {T = Import} {U = Import} (λ i. Some (record i { desc = merged_desc ps s m i.desc })) (option_and_then (λ m. slice_get m.imports s.import) o)) o))
        ≡ unwrap_or (option_and_then (λ i. Some (has_kind Functions i)) (option_and_then (λ m. slice_get m.imports s.import) o)) false
    at_part None = refl
    at_part (Some m) = at_import m (slice_get m.imports s.import)

funcs_stay : (ps : List Part) → length (imported_funcs (filter_map (merged_import ps) (staying ps))) ≡ length (staying_of ps Functions)
unfolding staying_of
funcs_stay ps =
    ap length (chosen_twice (merged_import ps) (λ i. func_of i.desc) (staying ps))
    ∙ as_many (imports_kind ps Functions) (λ s. option_and_then (λ i. func_of i.desc) (merged_import ps s)) (staying ps) (func_there ps)

pub funcs_few : (ps : List Part) (names : List (Option Text)) → FewInAll ps → length (funcs_of (merged ps names)) < 2 ^ 32
unfolding merged defined_funcs
funcs_few ps names few =
    let imports = filter_map (merged_import ps) (staying ps) in
    let funcs = defined_funcs ps ++ start_calls ps (starts ps) in
    omega (
      arith,
      length-append (imported_funcs imports) (map (λ f. f.ty) funcs),
      length-map funcs (λ f. f.ty),
      length-append (defined_funcs ps) (start_calls ps (starts ps)),
      defined_from (λ p m. new_func (map_of ps p m)) 0 ps,
      calls_few ps (starts ps),
      funcs_stay ps,
      staying_few ps Functions,
      few.entries Functions,
    )
