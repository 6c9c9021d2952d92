use Rattle.std.proofs.Common.{◌∙◌, ap, refl, sym}
use Rattle.eval_machine.proofs.InitialContents.{blank_is}
use Rattle.eval_machine.proofs.initial.blank_memory.Goals as goal

pub returns : goal.returns
returns c =
    blank_is c.args.input.now.mems c.in-Some.limits.now c.in_ok-paged.paged (sym c.in-Some.ensures.value) c.requires (ap (λ p. p.now) c.in_ok-paged.ensures ∙ rw c.from-size.ensures refl) (ap (λ p. p.mark) c.in_ok-paged.ensures)
    (ap (λ p. p.most) c.in_ok-paged.ensures ∙ c.most_blocks-most.ensures)
