use Rattle.std.proofs.Common.{take}
use Rattle.eval_snapshot.specs.Names.{HasNames}
use Rattle.eval_snapshot.proofs.names.looked_up.Given as goal

abbrev pub invariant-loop-name : goal.invariant-loop-name
invariant-loop-name l = HasNames (take l.name-index l.names) l.all
