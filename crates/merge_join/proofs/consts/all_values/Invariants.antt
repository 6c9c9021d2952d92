use Rattle.std.proofs.Common.{◌≡◌, length}
use Rattle.merge_spec.specs.Parts.{named_modules}
use Rattle.merge_join.proofs.Values.{DenoteEach}
use Rattle.merge_join.proofs.consts.all_values.Given as goal

abbrev pub invariant-loop-part : goal.invariant-loop-part
invariant-loop-part l = (length l.all ≡ l.part) × DenoteEach (named_modules l.joining.parts.now) l.part l.all
