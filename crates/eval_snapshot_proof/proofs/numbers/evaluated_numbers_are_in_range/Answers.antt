use Rattle.eval_snapshot_proof.proofs.EvaluatedNumbers.{globals_in, globals_own, memories_in}
use Rattle.eval_snapshot_proof.proofs.numbers.evaluated_numbers_are_in_range.Goals as goal

pub returns : goal.returns
returns c = record {
  globals = globals_in (λ m. (c.valid_where_items_hold.ensures m).0);
  expressible = globals_own (λ m. (c.valid_where_items_hold.ensures m).0);
  memories = memories_in (λ m. (c.valid_where_items_hold.ensures m).0);
}
