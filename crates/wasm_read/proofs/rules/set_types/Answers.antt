use Rattle.base_lists.proofs.Common.{◌≡◌, Some, slice_get, slice_index, set, arith, ap, ◌∙◌, sym, none_past}
use Rattle.wasm_read.proofs.Steps.{partly_none, partly_at, partly_more, partly_end}
use Rattle.wasm_read.proofs.rules.set_types.Goals as goal
use Rattle.wasm_read.proofs.rules.set_types.Goals.{in-Some, in_default}

pub loop-i-init : goal.loop-i-init
loop-i-init c = sym (partly_none c.args.types.now c.args.funcs.now)

pub loop-i-preserved : goal.loop-i-preserved
loop-i-preserved c =
    let ts = c.args.types.now in
    let fs = c.args.funcs.now in
    let i = c.loop-i.i in
    elim c.match-get_mut.branch [
      | in-Some w ↦
          let at : Some w.in-Some.func.now ≡ slice_get fs i = w.in-Some.ensures.value ∙ ap (λ ys. slice_get ys i) c.loop-i.invariant ∙ partly_at ts fs i in
          w.funcs-is ∙ ap (λ ys. set ys i (record w.in-Some.func.now { ty = slice_index ts i })) c.loop-i.invariant ∙ partly_more ts fs i _ c.loop-i-test.true at
      | in_default w ↦ absurd (omega (arith, c.loop-i-test.true, c.requires, none_past fs i (w.in_default.ensures.value ∙ ap (λ ys. slice_get ys i) c.loop-i.invariant ∙ partly_at ts fs i)))
    ]

pub returns : goal.returns
returns c = c.loop-i.invariant ∙ partly_end c.args.types.now c.args.funcs.now c.loop-i.i (omega (arith, c.loop-i.auto.i-end)) (omega (arith, c.loop-i-test.false)) c.requires
