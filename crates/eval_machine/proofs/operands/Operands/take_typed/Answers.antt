use Rattle.base_lists.proofs.Common.{◌≡◌, ◌≤◌, length, map, reverse, sym, ap, ◌∙◌, arith, length-map, length-reverse}
use Rattle.eval_machine.specs.Prelude.{are_typed, val_of}
use Rattle.eval_machine.proofs.OperandStacks.{laid, typed_not, typed_off}
use Rattle.eval_machine.proofs.TypedOperands.{pop_short}
use Rattle.eval_machine.proofs.operands.Operands.take_typed.Goals as goal

pub returns-then-len-types : goal.returns-then-len-types
returns-then-len-types c =
    let xs = c.self.inside.items in
    let size : length (reverse (map val_of xs)) ≡ length xs = length-reverse (map val_of xs) ∙ length-map xs val_of in
    rw (← c.self.view_is) (pop_short c.args.types.now (reverse (map val_of xs)) (omega (arith, size, c.if-len-types.true, c.len-len.ensures)))

pub returns-then-not-have_types : goal.returns-then-not-have_types
returns-then-not-have_types c =
    let xs = c.self.inside.items in
    let n = length c.args.types.now in
    let enough : n ≤ length xs = omega (arith, c.if-len-types.false, c.len-len.ensures) in
    let l = laid val_of xs c.split_off.new.self c.in_ok-values.values n enough (rw c.len-len.ensures at c.in_ok-values.ensures.front) (rw c.len-len.ensures at c.in_ok-values.ensures.back) in
    rw (← c.self.view_is, l.0) (typed_not c.args.types.now (map val_of c.in_ok-values.values) (reverse (map val_of c.split_off.new.self)) l.1 (ap (λ l. are_typed c.args.types.now (map val_of l)) (sym c.as_slice.ensures) ∙ (sym c.have_types.ensures ∙ c.if-not-have_types.true)))

pub returns : goal.returns
returns c =
    let xs = c.self.inside.items in
    let n = length c.args.types.now in
    let enough : n ≤ length xs = omega (arith, c.if-len-types.false, c.len-len.ensures) in
    let l = laid val_of xs c.split_off.new.self c.in_ok-values.values n enough (rw c.len-len.ensures at c.in_ok-values.ensures.front) (rw c.len-len.ensures at c.in_ok-values.ensures.back) in
    rw (← c.self.view_is, l.0) (typed_off c.args.types.now (map val_of c.in_ok-values.values) (reverse (map val_of c.split_off.new.self)) (ap (λ l. are_typed c.args.types.now (map val_of l)) (sym c.as_slice.ensures) ∙ (sym c.have_types.ensures ∙ c.if-not-have_types.false)))
