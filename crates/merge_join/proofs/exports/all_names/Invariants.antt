use Rattle.base_lists.proofs.Common.{◌≡◌, map, take}
use Rattle.merge_names.specs.Given.{texts}
use Rattle.merge_spec.specs.Prelude.{named_modules, by_part_from}
use Rattle.merge_join.proofs.exports.all_names.Given as goal

abbrev pub invariant-loop-part : goal.invariant-loop-part
invariant-loop-part l = texts l.names.items ≡ by_part_from (λ p m. map (λ e. e.name) m.exports) 0 (take l.part (named_modules l.parts))
