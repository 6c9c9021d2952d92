use Rattle.std.proofs.Common.{Some, None, get_or, refl}
use Rattle.wasm_valid.specs.declared.kinds.ItemKind.TheVariants.{Import}
use Rattle.wasm_valid.specs.Validity.{order}
use Rattle.wasm_valid.proofs.Order.{among, one_more, answer_at}
use Rattle.wasm_valid.proofs.first.first_invalid.Goals as goal

pub returns-in-Some : goal.returns-in-Some
returns-in-Some c =
    let m = c.args.module.now in
    let kind = get_or order c.loop-kind.kind-index Import in
    among m c.args.many order c.loop-kind.kind-index kind Import c.in-Some.invalid c.loop-kind-test.true refl c.loop-kind.invariant
    (answer_at m c.in_ok-spaces.spaces.module.now c.args.many kind c.in_ok-invalid.field-0 (Some c.in-Some.invalid) c.in_ok-spaces.ensures c.in-Some.is c.in_ok-invalid.ensures)

pub loop-kind-preserved : goal.loop-kind-preserved
loop-kind-preserved c =
    let m = c.args.module.now in
    let kind = get_or order c.loop-kind.kind-index Import in
    one_more m c.args.many order c.loop-kind.kind-index kind Import c.loop-kind-test.true refl c.loop-kind.invariant
    (answer_at m c.in_ok-spaces.spaces.module.now c.args.many kind c.in_ok-invalid.field-0 None c.in_ok-spaces.ensures c.in_default.is c.in_ok-invalid.ensures)
