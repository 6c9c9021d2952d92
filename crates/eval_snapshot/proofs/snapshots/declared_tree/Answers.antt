use Rattle.std.proofs.Common.{sym, refl, inr}
use Rattle.eval_machine.specs.Kept.{state_in}
use Rattle.eval_snapshot.proofs.Counted.{few_funcs, is_declared, told_first}
use Rattle.eval_snapshot.proofs.snapshots.declared_tree.Goals as goal

pub returns-in-Some-clause-fault : goal.returns-in-Some-clause-fault
returns-in-Some-clause-fault c =
    inr (c.in-Some.which, refl, told_first c.args.from (state_in c.args.from c.args.machine.now) c.args.evaluated.now c.args.kept.now c.in_ok-tree.tree c.in-Some.which c.in_ok-tree.ensures (sym c.in-Some.ensures))

pub declare_refs-requires : goal.declare_refs-requires
declare_refs-requires c = few_funcs c.in_ok-tree.tree (sym c.in_default.ensures)

pub returns-clause-tree : goal.returns-clause-tree
returns-clause-tree c = is_declared c.args.from (state_in c.args.from c.args.machine.now) c.args.evaluated.now c.args.kept.now c.in_ok-tree.tree c.declare_refs.new.module c.in_ok-tree.ensures c.in_ok-declare_refs.ensures.ok
