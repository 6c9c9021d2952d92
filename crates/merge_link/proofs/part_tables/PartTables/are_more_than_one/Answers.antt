use Rattle.base_lists.proofs.Common.{◌≡◌, ap, suc, ◌+◌, Some, length, arith}
use Rattle.wasm_tree_spec.specs.Prelude.{Memories}
use Rattle.wasm_meaning.specs.Linking as linking
use Rattle.wasm_meaning.specs.World as world
use Rattle.merge_spec.specs.Prelude.{named_modules}
use Rattle.merge_link.proofs.Counts.{above_one, defined_more, defined_most, defined_none}
use Rattle.merge_link.proofs.Joins.{module_read}
use Rattle.merge_link.proofs.part_tables.PartTables.are_more_than_one.Goals as goal

pub loop-part-init : goal.loop-part-init
loop-part-init c = omega (arith, defined_none Memories (named_modules c.args.self.now.parts.now))

pub returns-then-count-gt1 : goal.returns-then-count-gt1
returns-then-count-gt1 c =
    let lp = named_modules c.args.self.now.parts.now in
    above_one (c.args.staying + world.defined_before Memories lp (length lp)) (omega (arith, c.loop-part.invariant, c.if-count-gt1.true, defined_most Memories lp c.loop-part.part-index))

pub loop-part-preserved : goal.loop-part-preserved
loop-part-preserved c =
    let ps = c.args.self.now.parts.now in
    let lp = named_modules ps in
    let n = c.loop-part.part-index in
    let at : linking.module_at lp n ≡ Some c.module.result.now = module_read ps n c.part-item.result c.module.result.now (omega arith) c.part-item.is c.module.ensures.value in
    let next : n + 1 ≡ suc n = omega arith in
    omega (arith, c.loop-part.invariant, c.len-count.ensures, ap (world.defined_before Memories lp) next, defined_more Memories lp n c.module.result.now at)
