use Rattle.base_lists.proofs.Common.{subst}
use Rattle.base_lists.specs.Every.{Every}
use Rattle.eval_snapshot_proof.specs.Ranges.{HoldsBytes, IsByte}
use Rattle.eval_snapshot.proofs.InRange.{every_more}
use Rattle.eval_snapshot.proofs.in_range.datas_in_range.Goals as goal

pub loop-data-preserved : goal.loop-data-preserved
loop-data-preserved c =
    let holds : HoldsBytes c.data-item.result = subst (Every IsByte) c.as_slice.ensures c.bytes_in_range.ensures in
    every_more HoldsBytes c.args.datas.now c.loop-data.data-index c.data-item.result c.loop-data-test.true (subst HoldsBytes c.data-item.is holds) c.loop-data.invariant
