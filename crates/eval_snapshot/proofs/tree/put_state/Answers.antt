use Rattle.eval_machine.specs.Kept.{state_in}
use Rattle.eval_snapshot.proofs.Parts.{tree_is}
use Rattle.eval_snapshot.proofs.tree.put_state.Goals as goal

pub returns : goal.returns
returns c evaluated kept names =
    let m = c.args.tree.now in
    tree_is m (state_in m c.args.machine.now) evaluated kept c.func_space-empty.result c.imported_globals-imported.result c.put_segments.new.tree c.add_empty.new.tree c.initialise_globals.new.globals c.leave_exports.new.exports
    c.func_space-empty.ensures c.imported_globals-imported.ensures.value c.in_ok-put_segments.ensures (c.initialise_globals.ensures m c.requires.fits)
    (c.in_ok-add_empty.ensures evaluated kept names) (c.in_ok-leave_exports.ensures evaluated kept names)
