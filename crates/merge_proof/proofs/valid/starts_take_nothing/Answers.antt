use Rattle.merge_proof.proofs.MergedStart.{take_nothing}
use Rattle.merge_proof.proofs.valid.starts_take_nothing.Goals as goal

pub returns : goal.returns
returns c = record { starts = take_nothing c.ends_and_reads_are_paths.ensures.ends (λ m valid. (c.valid_where_items_hold.ensures m).0 valid) }
