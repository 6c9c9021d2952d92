use Rattle.std.proofs.Common.{◌≡◌, drop, slice_get, false}
use Rattle.std.specs.Prelude.{unwrap_or}
use Rattle.base_lists.specs.Options.{first_given}
use Rattle.split_plan.specs.NameTable.{func_in, held_of}
use Rattle.split_plan.specs.PlannedMoves.{kept_fault}
use Rattle.split_plan.proofs.marking.refuse_kept.Given as goal

abbrev pub invariant-loop-word : goal.invariant-loop-word
invariant-loop-word l =
    let given = first_given (λ word. kept_fault (λ func. unwrap_or (slice_get l.kept func) false) (func_in (held_of l.table word)) word) in
    given l.words ≡ given (drop l.word-index l.words)
