use Rattle.base_lists.proofs.Common.{◌≡◌, ◌≤◌, ◌++◌, ◌∙◌, length, take, drop, set, slice_get, Some, true, arith, ap, flat_map, length-map, part_at, part_more, none_past}
use Rattle.split_slots.specs.InstructionReplacements.{code_here, code_of_call, is_spread, settled}
use Rattle.split_slots.proofs.ReplacedCode.{all_settled, none_more, part_all, part_item, spread_behind}
use Rattle.split_slots.proofs.call_replacement.+replace.Goals as goal
use Rattle.split_slots.proofs.call_replacement.+replace.Goals.{replace_calls-in-Some+in_ok-spread, replace_calls-in_default}

pub replace_calls-loop-at-preserved : goal.replace_calls-loop-at-preserved
replace_calls-loop-at-preserved t c =
    let f = settled c.args.calls.now in
    let xs = c.args.body.now in
    let i = c.loop-at.at in
    let kept = c.loop-at.invariant in
    elim c.match-get_mut.branch [
      | replace_calls-in-Some+in_ok-spread w ↦
          let x = w.in-Some.instr.now in
          let at : Some x ≡ slice_get xs i = part_item f xs i x c.loop-at.body kept.0 w.in-Some.ensures.value in
          let here : is_spread c.args.calls.now x ≡ true → w.earlier-first.result ≤ i = λ yes. w.earlier-first.ensures.at (w.in_ok-spread.ensures.spread ∙ yes) in (
            w.body-is ∙ ap (set c.loop-at.body i) w.in_ok-spread.ensures.settled ∙ ap (λ ys. set ys i (f x)) kept.0 ∙ part_more f xs i x at,
            omega (arith, w.first-is, w.earlier-first.ensures.first, kept.1),
            λ k y lt less e. none_more (is_spread c.args.calls.now) xs i c.loop-at.first w.earlier-first.result x at w.earlier-first.ensures.first here kept.2 k y (omega (arith, lt, w.first-is)) less e,
          )
      | replace_calls-in_default w ↦ absurd (omega (arith, c.loop-at-test.true, c.len-at-end.ensures, none_past xs i (w.in_default.ensures.value ∙ ap (λ ys. slice_get ys i) kept.0 ∙ part_at f xs i)))
    ]

pub replace_calls-returns-in_ok-spread_from : goal.replace_calls-returns-in_ok-spread_from
replace_calls-returns-in_ok-spread_from t c =
    let calls = c.args.calls.now in
    let is = c.args.body.now in
    let kept = c.loop-at.invariant in
    let all = kept.0 ∙ part_all (settled calls) is c.loop-at.at (omega (arith, c.loop-at-test.false, c.len-at-end.ensures)) in
    c.in_ok-spread_from.ensures ∙ ap (λ b. take c.loop-at.first b ++ flat_map (code_here (code_of_call calls)) (drop c.loop-at.first b)) all
    ∙ spread_behind calls c.requires.few is c.loop-at.first (λ k i lt e. kept.2 k i lt (omega (arith, lt, kept.1, c.loop-at-test.false, c.len-at-end.ensures)) e)

pub replace_calls-returns-else-first-len : goal.replace_calls-returns-else-first-len
replace_calls-returns-else-first-len t c =
    let calls = c.args.calls.now in
    let is = c.args.body.now in
    let kept = c.loop-at.invariant in
    let all = kept.0 ∙ part_all (settled calls) is c.loop-at.at (omega (arith, c.loop-at-test.false, c.len-at-end.ensures)) in
    let many = ap length all ∙ length-map is (settled calls) in
    all ∙ all_settled calls c.requires.few is
    (λ k i lt e. kept.2 k i (omega (arith, lt, many, c.if-first-len.false, c.len.ensures)) (omega (arith, lt, c.loop-at-test.false, c.len-at-end.ensures)) e)
