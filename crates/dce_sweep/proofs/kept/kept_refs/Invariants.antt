use Rattle.std.proofs.Common.{◌≡◌, take, filter}
use Rattle.dce_spec.specs.Swept.{is_kept_ref}
use Rattle.dce_spec.specs.Reached.{marks_of}
use Rattle.dce_sweep.proofs.kept.kept_refs.Given as goal

abbrev pub invariant-loop-item : goal.invariant-loop-item
invariant-loop-item l = l.all ≡ filter (is_kept_ref (marks_of l.marks)) (take l.item-index l.items)
