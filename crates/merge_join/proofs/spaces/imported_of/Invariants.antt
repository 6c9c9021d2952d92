use Rattle.base_lists.proofs.Common.{◌≡◌, ◌∷◌, [], take}
use Rattle.merge_spec.specs.Prelude.{named_modules, by_part_from}
use Rattle.merge_join.specs.Spaces.{imported_in}
use Rattle.merge_join.proofs.spaces.imported_of.Given as goal

abbrev pub invariant-loop-part : goal.invariant-loop-part
invariant-loop-part l = l.imported ≡ by_part_from (λ p m. imported_in (named_modules l.parts) l.space p m ∷ []) 0 (take l.part (named_modules l.parts))
