use Rattle.std.proofs.Common.{sym, ◌∙◌}
use Rattle.wasm_names.proofs.NameSections.{first_end, some_first, none_first}
use Rattle.wasm_names.proofs.file.first_names_content.Goals as goal

pub returns-then-is_some : goal.returns-then-is_some
returns-then-is_some c = some_first c.args.bytes.now c.args.all.now c.loop-frame.frame-index _ c.names_content-content.result _ c.loop-frame-test.true c.names_content-content.ensures (sym c.is_some.ensures ∙ c.if-is_some.true) c.loop-frame.invariant

pub loop-frame-preserved : goal.loop-frame-preserved
loop-frame-preserved c = none_first c.args.bytes.now c.args.all.now c.loop-frame.frame-index _ c.names_content-content.result _ c.loop-frame-test.true c.names_content-content.ensures (sym c.is_some.ensures ∙ c.if-is_some.false) c.loop-frame.invariant

pub returns : goal.returns
returns c = sym (c.loop-frame.invariant ∙ first_end c.args.bytes.now c.args.all.now c.loop-frame.frame-index c.loop-frame-test.false)
