use Rattle.base_lists.proofs.Common.{◌≡◌, ◌∙◌, sym, ap, Some, map, length, unwrap_or, arith}
use Rattle.wasm_tree_spec.specs.Prelude.{Module, same_func_type, Functions, Tables, Memories, Globals, ElementSegments, DataSegments}
use Rattle.wasm_meaning.specs.Prelude.{numbers, first_place}
use Rattle.merge_spec.specs.Prelude.{named_modules}
use Rattle.merge_join.proofs.MapParts.{space_is, map_built}
use Rattle.merge_join.proofs.maps.map_of.Goals as goal

pub numbers-requires : goal.numbers-requires
numbers-requires c =
    let ps = named_modules c.args.parts.now in
    let m = c.module_of-module.result.now in
    omega (arith, c.requires.elem, c.len.ensures, c.definitions_are_counted_by_part.ensures.all ElementSegments ps c.args.part m c.module_of-module.ensures.at, c.requires.linked.few.entries ElementSegments)

pub numbers-requires-2 : goal.numbers-requires-2
numbers-requires-2 c =
    let ps = named_modules c.args.parts.now in
    let m = c.module_of-module.result.now in
    omega (arith, c.requires.data, c.len-2.ensures, c.definitions_are_counted_by_part.ensures.all DataSegments ps c.args.part m c.module_of-module.ensures.at, c.requires.linked.few.entries DataSegments)

pub returns : goal.returns
returns c = λ m at.
    let parts = c.args.parts.now in
    let ps = named_modules parts in
    let p = c.args.part in
    let spaces = c.args.spaces.now in
    let there : Some c.module_of-module.result.now ≡ Some m = sym c.module_of-module.ensures.at ∙ at in
    let same : c.module_of-module.result.now ≡ m = cc in
    map_built ps p m _ _ _ _ _ _ _ (record {
      types_are = c.in_ok-type_map.ensures ∙ ap (map (λ t. unwrap_or (first_place (same_func_type t) c.args.types.now.list 0) 0)) (c.as_slice.ensures ∙ ap (λ (x : Module). x.types) same) ∙ ap (λ list. map (λ t. unwrap_or (first_place (same_func_type t) list 0) 0) m.types) c.requires.types;
      funcs_are = space_is spaces.funcs.parts.now parts spaces.funcs.space Functions p c.in_ok-space_map.field-0 c.requires.spaces.funcs_parts c.requires.spaces.funcs_space c.in_ok-space_map.ensures m at;
      tables_are = space_is spaces.tables.parts.now parts spaces.tables.space Tables p c.in_ok-space_map-2.field-0 c.requires.spaces.tables_parts c.requires.spaces.tables_space c.in_ok-space_map-2.ensures m at;
      mems_are = space_is spaces.mems.parts.now parts spaces.mems.space Memories p c.in_ok-space_map-3.field-0 c.requires.spaces.mems_parts c.requires.spaces.mems_space c.in_ok-space_map-3.ensures m at;
      globals_are = space_is spaces.globals.parts.now parts spaces.globals.space Globals p c.in_ok-space_map-4.field-0 c.requires.spaces.globals_parts c.requires.spaces.globals_space c.in_ok-space_map-4.ensures m at;
      elems_are = c.in_ok-numbers.ensures ∙ ap (λ n. numbers n c.len.result) c.requires.elem ∙ ap (numbers _) (c.len.ensures ∙ ap (λ (x : Module). length x.elems) same);
      datas_are = c.in_ok-numbers-2.ensures ∙ ap (λ n. numbers n c.len-2.result) c.requires.data ∙ ap (numbers _) (c.len-2.ensures ∙ ap (λ (x : Module). length x.datas) same);
    })
