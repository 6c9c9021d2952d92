use Rattle.base_lists.proofs.Common.{◌≡◌, ◌∙◌, ap, refl, ◌+◌, ◌<◌, length, slice_get, Some, arith, slice_get_read}
use Rattle.index_remap.specs.Prelude.{fits_export}
use Rattle.base_lists.proofs.Each.{all_at_place}
use Rattle.merge_join.proofs.Exported.{export_more}
use Rattle.merge_join.proofs.exports.add_exports.Goals as goal

pub add_export-requires : goal.add_export-requires
add_export-requires c = all_at_place (fits_export c.args.entries.now) c.args.exports.now c.loop-at.at c.index-exports-at.result c.requires.fits c.loop-at-test.true c.index-exports-at.is

pub loop-at-preserved : goal.loop-at-preserved
loop-at-preserved c = λ before many was.
    let at = c.loop-at.at in
    let names = c.args.names.now in
    let name = c.index-names-first.result in
    let within : c.args.first + at < length names = omega (arith, c.requires.named, c.loop-at-test.true) in
    let named : slice_get names (length before + at) ≡ Some name = ap (λ n. slice_get names (n + at)) many ∙ slice_get_read names (length names) (c.args.first + at) name refl within c.index-names-first.is in
    let here = slice_get_read c.args.exports.now (length c.args.exports.now) at c.index-exports-at.result refl c.loop-at-test.true c.index-exports-at.is in
    export_more c.loop-at.all c.add_export.new.all before c.args.exports.now at c.index-exports-at.result c.args.entries.now names name
    (c.loop-at.invariant before many was) here named c.in_ok-add_export.ensures
