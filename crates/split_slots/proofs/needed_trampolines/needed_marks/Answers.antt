use Rattle.std.proofs.Common.{◌∙◌, ap}
use Rattle.wasm_valid.specs.Named.{marked_at}
use Rattle.split_slots.proofs.ReferencesOutsideBodies.{with_start}
use Rattle.split_slots.proofs.needed_trampolines.needed_marks.Goals as goal

pub returns : goal.returns
returns c = c.mark_start.ensures ∙ ap (λ marks. marked_at marks c.args.module.now.start) c.in_ok-marks.ensures ∙ with_start c.args.module.now c.args.module.now.start
