use Rattle.std.proofs.Common.{take}
use Rattle.base_lists.specs.Every.{Every}
use Rattle.eval_snapshot_proof.specs.Ranges.{HoldsBytes}
use Rattle.eval_snapshot.proofs.in_range.datas_in_range.Given as goal

abbrev pub invariant-loop-data : goal.invariant-loop-data
invariant-loop-data l = Every HoldsBytes (take l.data-index l.datas)
