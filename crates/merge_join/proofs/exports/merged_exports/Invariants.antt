use Rattle.base_lists.proofs.Common.{◌≡◌, length, take}
use Rattle.merge_spec.specs.Prelude.{named_modules, by_part_from, named_exports}
use Rattle.merge_join.proofs.Exported.{new_exports}
use Rattle.merge_join.proofs.exports.merged_exports.Given as goal

abbrev pub invariant-loop-part : goal.invariant-loop-part
invariant-loop-part l =
    let ps = named_modules l.joining.parts.now in
    let before = by_part_from (new_exports ps) 0 (take l.part ps) in
    (l.first ≡ length before) × (l.all ≡ named_exports before l.names)
