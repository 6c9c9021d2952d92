use Rattle.std.proofs.Common.{◌≡◌, ◌&&◌, filter}
use Rattle.std.specs.Prelude.{not}
use Rattle.base_lists.specs.Places.{numbers}
use Rattle.split_plan.specs.NameTable.{has_mark}
use Rattle.split_plan.specs.PlannedMoves.{body_uses_segment}
use Rattle.split_plan.proofs.choosing.choose.Given as goal

abbrev pub invariant-loop-at : goal.invariant-loop-at
invariant-loop-at l = record {
  moved : l.plan.moved ≡ filter (λ func. has_mark l.marks l.mark func && not (body_uses_segment l.module func)) (numbers l.first l.at);
  kept : l.plan.kept ≡ filter (λ func. has_mark l.marks l.mark func && body_uses_segment l.module func) (numbers l.first l.at);
}
