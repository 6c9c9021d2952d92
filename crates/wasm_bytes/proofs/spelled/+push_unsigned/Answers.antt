use Rattle.std.proofs.Common.{◌++◌, ◌/◌, Result, Ok, Err, OnOk, sym, ap, ◌∙◌, append_assoc}
use Rattle.wasm_bytes.specs.Writing.{unsigned_text}
use Rattle.wasm_bytes.proofs.Shortest.{small_step, large_step}
use Rattle.wasm_bytes.proofs.spelled.+push_unsigned.Goals as goal

on_ok : {T E : Type 0} (r : Result T E) (P Q : Type 0) → (P → Q) → OnOk r P → OnOk r Q
on_ok (Ok x) P Q f p = f p
on_ok (Err e) P Q f p = tt

pub returns-then-value-lt128-clause-ok : goal.returns-then-value-lt128-clause-ok
returns-then-value-lt128-clause-ok t c most some fits = c.in_ok-push.ensures.items ∙ ap (λ text. c.args.bytes.now.items ++ text) (sym (small_step most c.args.value some c.if-value-lt128.true))

pub returns-clause-ok : goal.returns-clause-ok
returns-clause-ok t c =
    let old = c.args.bytes.now.items in
    let n = c.args.value in
    on_ok c.push_unsigned.result _ _ (λ rest most some fits.
    let s = large_step most n c.if-value-lt128.false fits in
    rest s.0 s.1 s.2 ∙ ap (λ bytes. bytes ++ unsigned_text s.0 (n / 128)) c.in_ok-push-2.ensures.items ∙ append_assoc old _ _ ∙ ap (λ text. old ++ text) (sym s.3)) c.push_unsigned.ensures.ok
