use Rattle.std.proofs.Common.{◌≡◌, ◌+◌, suc, length, arith, ap, ◌∙◌}
use Rattle.base_lists.specs.Places.{numbers}
use Rattle.wasm_tree.specs.Spaces.{tables_of}
use Rattle.split_slots.specs.RemapsFromMarks.{primary_funcs_by}
use Rattle.split_slots.proofs.EqualRemaps.{same_maps}
use Rattle.split_slots.proofs.index_maps.primary_map.Goals as goal

pub returns : goal.returns
returns c =
    let tables : c.table_space.result + 1 ≡ suc (length (tables_of c.args.module.now)) = omega (arith, c.table_space.ensures) in
    same_maps
    (c.in_ok-numbers.ensures ∙ ap (numbers 0) c.len.ensures)
    (c.in_ok-primary_funcs_map.ensures ∙ ap (λ n. primary_funcs_by n c.args.left.now c.args.count) c.imported_funcs-imported.ensures.value)
    (c.in_ok-numbers-2.ensures ∙ ap (numbers 0) tables)
    (c.in_ok-numbers-3.ensures ∙ ap (numbers 0) c.memory_space.ensures)
    (c.in_ok-numbers-4.ensures ∙ ap (numbers 0) c.global_space.ensures)
    (c.in_ok-numbers-5.ensures ∙ ap (numbers 0) c.len-2.ensures)
    (c.in_ok-numbers-6.ensures ∙ ap (numbers 0) c.len-3.ensures)
