use Rattle.std.proofs.Common.{◌∙◌, ap, slice_get}
use Rattle.eval_machine.specs.DenotedValues.{constant_of}
use Rattle.eval_machine.proofs.ReadContents.{global_told}
use Rattle.eval_machine.proofs.machine.Machine.global_value.Goals as goal

pub returns : goal.returns
returns c m f = c.constant.ensures ∙ (ap (λ k. constant_of (slice_get k.globals c.args.global)) c.self.view_is ∙ global_told m c.args.self.now c.args.global f)
