use Rattle.std.proofs.Common.{◌≡◌, Some, slice_get, false, sym, ap, ◌∙◌, inr}
use Rattle.std.specs.Prelude.{unwrap_or}
use Rattle.split_plan.specs.declared.fault.PlanFault.TheVariants.{KeptAndSplit}
use Rattle.split_plan.specs.NameTable.{func_in, held_of}
use Rattle.split_plan.proofs.WordMarks.{is_refused, is_let_go}
use Rattle.split_plan.proofs.marking.refuse_one.Goals as goal

pub returns-then-is_marked-clause-fault : goal.returns-then-is_marked-clause-fault
returns-then-is_marked-clause-fault c =
    let found : held_of c.args.table.now c.args.word.now ≡ Some c.in-Some.named.now = ap (held_of c.args.table.now) (sym c.as_str.ensures.text) ∙ sym c.in-Some.ensures.value in
    let func : func_in (held_of c.args.table.now c.args.word.now) ≡ Some c.in-Some-func.func = ap func_in found ∙ sym c.func.ensures ∙ c.in-Some-func.is in
    inr (is_refused (λ f. unwrap_or (slice_get c.args.kept.now f) false) _ c.in-Some-func.func c.args.word.now func (sym c.is_marked.ensures ∙ c.if-is_marked.true) ∙ ap (λ n. Some (KeptAndSplit n)) (sym c.in_ok-copy.ensures))

pub returns-clause-none : goal.returns-clause-none
returns-clause-none c = λ ok.
    let found : held_of c.args.table.now c.args.word.now ≡ Some c.in-Some.named.now = ap (held_of c.args.table.now) (sym c.as_str.ensures.text) ∙ sym c.in-Some.ensures.value in
    let func : func_in (held_of c.args.table.now c.args.word.now) ≡ Some c.in-Some-func.func = ap func_in found ∙ sym c.func.ensures ∙ c.in-Some-func.is in
    is_let_go (λ f. unwrap_or (slice_get c.args.kept.now f) false) _ c.in-Some-func.func c.args.word.now func (sym c.is_marked.ensures ∙ c.if-is_marked.false)
