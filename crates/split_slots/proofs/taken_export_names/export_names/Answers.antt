use Rattle.base_lists.proofs.Common.{◌∙◌, ap, sym, cond, true, is_some, take, list_any, bytes_eq}
use Rattle.std.specs.HashMap.{get_by}
use Rattle.split_slots.proofs.TakenNames.{any_more, noted_there}
use Rattle.split_slots.proofs.taken_export_names.export_names.Goals as goal

pub loop-export-preserved : goal.loop-export-preserved
loop-export-preserved c = λ q.
    let exports = c.args.exports.now in
    let k = c.loop-export.export-index in
    let before = list_any (λ e. bytes_eq e.name q) (take k exports) in
    ap is_some (c.in_ok-note.ensures q) ∙ noted_there (bytes_eq c.as_str.result.now q) tt (get_by (λ k. bytes_eq q k.now) c.loop-export.taken)
    ∙ ap (cond (bytes_eq c.as_str.result.now q) true) (c.loop-export.invariant q) ∙ ap (λ t. cond (bytes_eq t q) true before) c.as_str.ensures.text
    ∙ sym (any_more (λ e. bytes_eq e.name q) exports k c.export-item.result c.loop-export-test.true c.export-item.is)
