use Rattle.eval_snapshot_proof.proofs.CallsInOrder.{added, none, parted}
use Rattle.eval_snapshot_proof.proofs.lists.lists_are_evaluated_in_order.Goals as goal

pub returns : goal.returns
returns c = record { added = added; parted = parted; none = none }
