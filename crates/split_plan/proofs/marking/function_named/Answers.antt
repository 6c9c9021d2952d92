use Rattle.std.proofs.Common.{◌≡◌, Some, None, sym, ap, ◌∙◌, inr}
use Rattle.split_plan.specs.declared.fault.PlanFault.TheVariants.{NoSuchFunction, AmbiguousFunction}
use Rattle.split_plan.specs.declared.named.Named.TheVariants.{Shared}
use Rattle.split_plan.specs.NameTable.{fault_in, held_of}
use Rattle.split_plan.proofs.marking.function_named.Goals as goal

pub returns-in_ok-copy-in-Some-Shared-clause-fault : goal.returns-in_ok-copy-in-Some-Shared-clause-fault
returns-in_ok-copy-in-Some-Shared-clause-fault c =
    let found : held_of c.args.table.now c.args.word.now ≡ Some Shared = ap (held_of c.args.table.now) (sym c.as_str.ensures.text) ∙ sym c.in-Some-Shared.ensures.value ∙ ap Some c.in-Some-Shared.field-0-is in
    inr (ap (λ o. fault_in o c.args.word.now) found ∙ ap (λ n. Some (AmbiguousFunction n)) (sym c.in_ok-copy-in-Some-Shared.ensures))

pub returns-in_ok-copy-in-None-clause-fault : goal.returns-in_ok-copy-in-None-clause-fault
returns-in_ok-copy-in-None-clause-fault c =
    let found : held_of c.args.table.now c.args.word.now ≡ None = ap (held_of c.args.table.now) (sym c.as_str.ensures.text) ∙ sym c.in-None.ensures.value in
    inr (ap (λ o. fault_in o c.args.word.now) found ∙ ap (λ n. Some (NoSuchFunction n)) (sym c.in_ok-copy-in-None.ensures))
