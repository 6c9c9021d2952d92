use Rattle.std.proofs.Common.{◌≡◌, ◌+◌, ◌-◌, ◌&&◌, sym, ap, ◌∙◌, arith, length, take, drop}
use Rattle.std.proofs.lemmas.List.{take_rest, length-drop}
use Rattle.wasm_tree.specs.SameTypes.{same_types}
use Rattle.wasm_valid_bodies.specs.OperandStack.{lowest}
use Rattle.wasm_valid_bodies.proofs.Known.{can_pop_known, can_pop_over}
use Rattle.wasm_valid_bodies.proofs.operand_stack.OperandStack.can_pop.Goals as goal

pub returns-then-ts-known : goal.returns-then-ts-known
returns-then-ts-known c =
    let stack = c.args.self.now in
    let items = stack.types.items in
    let ts = c.args.ts.now in
    let k = c.len-then-ts-known.result - length ts in
    c.are_same.ensures
    ∙ ap (λ z. same_types z ts) (take_rest c.deref.result.now k ∙ ap (drop k) c.deref.ensures.value)
    ∙ sym (can_pop_known items stack.base k (lowest stack.bottom) stack.any_below ts (omega (arith, stack.within, c.len.ensures, c.len-then-ts-known.ensures, c.if-ts-known.true)) (omega (arith, stack.within, c.len.ensures, c.len-then-ts-known.ensures, c.if-ts-known.true)))

pub returns-then-has_below : goal.returns-then-has_below
returns-then-has_below c =
    let stack = c.args.self.now in
    let items = stack.types.items in
    let us = drop stack.base items in
    let ts = c.args.ts.now in
    let missing = length ts - (c.len.result - stack.base) in
    let count : missing + length us ≡ length ts = omega (arith, length-drop stack.base items, stack.within, c.len.ensures, c.if-ts-known.false) in
    c.are_same-then-has_below.ensures
    ∙ ap (λ z. same_types z (take (length ts - missing) (drop missing ts))) (take_rest c.deref-then-has_below.result.now stack.base ∙ ap (drop stack.base) c.deref-then-has_below.ensures.value)
    ∙ ap (same_types us) (take_rest ts missing)
    ∙ sym (can_pop_over us stack.bottom stack.any_below ts missing count ∙ ap (λ z. z && same_types us (drop missing ts)) (sym c.has_below.ensures ∙ c.if-has_below.true))

pub returns-else-has_below : goal.returns-else-has_below
returns-else-has_below c =
    let stack = c.args.self.now in
    let items = stack.types.items in
    let us = drop stack.base items in
    let ts = c.args.ts.now in
    let missing = length ts - (c.len.result - stack.base) in
    let count : missing + length us ≡ length ts = omega (arith, length-drop stack.base items, stack.within, c.len.ensures, c.if-ts-known.false) in
    c.if-has_below.false
    ∙ sym (can_pop_over us stack.bottom stack.any_below ts missing count ∙ ap (λ z. z && same_types us (drop missing ts)) (sym c.has_below.ensures ∙ c.if-has_below.false))
