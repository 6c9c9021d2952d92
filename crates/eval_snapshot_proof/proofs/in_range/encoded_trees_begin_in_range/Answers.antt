use Rattle.eval_snapshot_proof.proofs.EncodedTrees.{spelled_begin}
use Rattle.eval_snapshot_proof.proofs.in_range.encoded_trees_begin_in_range.Goals as goal

pub returns : goal.returns
returns c = spelled_begin c.encoded_numbers_are_in_range.ensures.unsigned c.framing_is_decided.ensures.contents
