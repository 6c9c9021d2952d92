use Rattle.base_lists.proofs.Common.{◌≡◌, part}
use Rattle.dce_spec.specs.Swept.{kept_elem}
use Rattle.dce_spec.specs.Reached.{marks_of}
use Rattle.dce_sweep.proofs.kept.keep_declared.Given as goal

abbrev pub invariant-loop-at : goal.invariant-loop-at
invariant-loop-at l = l.elems ≡ part (kept_elem (marks_of l.marks)) l.initial.elems l.at
