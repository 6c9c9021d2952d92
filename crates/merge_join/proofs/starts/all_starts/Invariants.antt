use Rattle.base_lists.proofs.Common.{◌≡◌, take}
use Rattle.merge_spec.specs.Prelude.{named_modules, by_part_from, start_of}
use Rattle.merge_join.proofs.starts.all_starts.Given as goal

abbrev pub invariant-loop-part : goal.invariant-loop-part
invariant-loop-part l = l.starts ≡ by_part_from (λ p m. start_of (named_modules l.joining.parts.now) p m.start) 0 (take l.part (named_modules l.joining.parts.now))
