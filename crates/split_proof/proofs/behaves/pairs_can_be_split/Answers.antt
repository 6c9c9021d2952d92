use Rattle.split_proof.proofs.PairsAsSplits.{pair_can_be_split}
use Rattle.split_proof.proofs.behaves.pairs_can_be_split.Goals as goal

pub returns : goal.returns
returns c = pair_can_be_split
