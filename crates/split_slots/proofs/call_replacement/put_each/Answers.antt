use Rattle.base_lists.proofs.Common.{◌≡◌, ◌++◌, ◌∙◌, set, slice_get, Some, arith, ap, part_at, part_more, none_past}
use Rattle.wasm_tree_spec.specs.Prelude.{Nop}
use Rattle.split_slots.specs.InstructionReplacements.{code_here, code_of_call}
use Rattle.split_slots.proofs.ReplacedCode.{given_more, part_item}
use Rattle.split_slots.proofs.call_replacement.put_each.Goals as goal
use Rattle.split_slots.proofs.call_replacement.put_each.Goals.{in-Some+in_ok-put_instr, in_default}

pub loop-at-preserved : goal.loop-at-preserved
loop-at-preserved c =
    let code = code_here (code_of_call c.args.calls.now) in
    let xs = c.args.from.now in
    let i = c.loop-at.at in
    let kept = c.loop-at.invariant in
    elim c.match-get_mut.branch [
      | in-Some+in_ok-put_instr w ↦
          let x = w.in-Some.instr.now in
          let at : Some x ≡ slice_get xs i = part_item (λ i. Nop) xs i x c.loop-at.from kept.0 w.in-Some.ensures.value in (
            w.from-is ∙ ap (set c.loop-at.from i) w.replace-taken.ensures.after ∙ ap (λ ys. set ys i Nop) kept.0 ∙ part_more (λ i. Nop) xs i x at,
            w.body-is ∙ w.in_ok-put_instr.ensures ∙ ap (λ y. c.loop-at.body ++ code y) w.replace-taken.ensures.value ∙ ap (λ ys. ys ++ code x) kept.1 ∙ given_more code xs i x c.args.body.now at,
          )
      | in_default w ↦ absurd (omega (arith, c.loop-at-test.true, c.len-at-end.ensures, none_past xs i (w.in_default.ensures.value ∙ ap (λ ys. slice_get ys i) kept.0 ∙ part_at (λ i. Nop) xs i)))
    ]
