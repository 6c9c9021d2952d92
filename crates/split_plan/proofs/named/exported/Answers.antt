use Rattle.base_lists.proofs.Common.{List, sym, ◌∙◌, arith, option_map, hash_map_updates_str}
use Rattle.wasm_tree_spec.specs.Prelude.{Export}
use Rattle.split_plan.specs.declared.named.Named.TheVariants.{Exported}
use Rattle.split_plan.specs.NamedFunctions.{exported_among}
use Rattle.split_plan.proofs.Tables.{at_one_before, export_enters, export_passes}
use Rattle.split_plan.proofs.named.exported.Goals as goal

pub loop-at-preserved-in_ok-insert : goal.loop-at-preserved-in_ok-insert
loop-at-preserved-in_ok-insert c = λ word.
    let now = hash_map_updates_str c.as_str.result.now c.loop-at.table c.insert.new.self _ c.in_ok-insert.ensures.updates word in
    let step = at_one_before (λ (es : List Export). option_map Exported (exported_among c.args.module.now es word)) c.as_slice-exports.result.now c.loop-at.at c.index-exports-at.result (omega arith) c.loop-at.auto.at c.index-exports-at.is in
    let is = sym (rw (c.requires.first, c.requires.end) at c.has_export.ensures) ∙ c.if-has_export.true in
    rw (now, c.loop-at.invariant word, c.as_str.ensures.text, c.index.ensures) (sym (step ∙ export_enters c.args.module.now c.index-exports-at.result _ word is))

pub loop-at-preserved : goal.loop-at-preserved
loop-at-preserved c = λ word.
    let step = at_one_before (λ (es : List Export). option_map Exported (exported_among c.args.module.now es word)) c.as_slice-exports.result.now c.loop-at.at c.index-exports-at.result (omega arith) c.loop-at.auto.at c.index-exports-at.is in
    let is = sym (rw (c.requires.first, c.requires.end) at c.has_export.ensures) ∙ c.if-has_export.false in
    c.loop-at.invariant word ∙ sym (step ∙ export_passes c.args.module.now c.index-exports-at.result _ word is)
