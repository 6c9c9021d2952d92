use Rattle.std.proofs.Common.{◌∙◌, None, Some, ap, slice_get, sym}
use Rattle.eval_machine.proofs.ReadContents.{dropped_told}
use Rattle.eval_machine.proofs.machine.Machine.dropped.Goals as goal

pub returns-in-Some : goal.returns-in-Some
returns-in-Some c m f = dropped_told m c.args.self.now c.args.segment (Some c.in-Some.dropped.now) f (ap (λ k. slice_get k.dropped c.args.segment) (sym c.self.view_is) ∙ sym c.in-Some.ensures.value)

pub returns-in-None : goal.returns-in-None
returns-in-None c m f = dropped_told m c.args.self.now c.args.segment None f (ap (λ k. slice_get k.dropped c.args.segment) (sym c.self.view_is) ∙ sym c.in-None.ensures.value)
