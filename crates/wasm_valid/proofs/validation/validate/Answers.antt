use Rattle.std.proofs.Common.{false, subst}
use Rattle.wasm_valid.specs.Validity.{items}
use Rattle.wasm_valid.specs.First.{IsAnswer}
use Rattle.wasm_valid.proofs.Order.{apart, none_first}
use Rattle.wasm_valid.proofs.validation.validate.Goals as goal

pub invariant_of-result : goal.invariant_of-result
invariant_of-result c =
    ((apart c.args.module (subst (IsAnswer c.args.module (items c.args.module false)) c.in-Ok-None.field-0-is c.in-Ok-None.ensures)).0, c.requires)

pub returns-in-Ok-None-clause-valid : goal.returns-in-Ok-None-clause-valid
returns-in-Ok-None-clause-valid c =
    (apart c.args.module (subst (IsAnswer c.args.module (items c.args.module false)) c.in-Ok-None.field-0-is c.in-Ok-None.ensures)).0

pub returns-in-Ok-None-clause-single : goal.returns-in-Ok-None-clause-single
returns-in-Ok-None-clause-single c =
    (apart c.args.module (subst (IsAnswer c.args.module (items c.args.module false)) c.in-Ok-None.field-0-is c.in-Ok-None.ensures)).1

pub returns-in-Ok-Some-clause-accepted : goal.returns-in-Ok-Some-clause-accepted
returns-in-Ok-Some-clause-accepted c = λ valid single.
    none_first c.args.module c.in-Ok-Some.invalid valid single (subst (IsAnswer c.args.module (items c.args.module false)) c.in-Ok-Some.field-0-is c.in-Ok-Some.ensures)
