use Rattle.std.proofs.Common.{◌≡◌, [], ◌∷◌, ◌++◌, ◌+◌, sym, ap, ap₂, ◌∙◌, append_assoc, to_z, of_z, w64, arith, rules}
use Rattle.std.proofs.lemmas.Int.{ints}
use Rattle.std.proofs.lemmas.Result.{on_ok_weaker}
use Rattle.std.specs.Prelude.{FitsSigned}
use Rattle.wasm_bytes.specs.Writing.{low, high, signed_text}
use Rattle.wasm_bytes.proofs.SignedShortest.{step_small, step_large}
use Rattle.wasm_bytes.proofs.spelled.+push_signed.Goals as goal

pub returns-then-is_small-clause-ok : goal.returns-then-is_small-clause-ok
returns-then-is_small-clause-ok t c most some fits =
    let same : to_z w64 (of_z w64 c.args.value) ≡ c.args.value = omega (arith, ints) in
    let is = rw same at c.is_small.ensures in
    let is_low = rw same at c.low.ensures.value in
    c.in_ok-push.ensures.items ∙ ap (λ x. c.args.bytes.now.items ++ x ∷ []) is_low
    ∙ ap (λ text. c.args.bytes.now.items ++ text) (sym (step_small most c.args.value some (sym is ∙ c.if-is_small.true)))

pub returns-clause-ok : goal.returns-clause-ok
returns-clause-ok t c =
    let old = c.args.bytes.now.items in
    let z = c.args.value in
    let same : to_z w64 (of_z w64 c.args.value) ≡ c.args.value = omega (arith, ints) in
    let is = rw same at c.is_small.ensures in
    let is_low = rw same at c.low-2.ensures.value in
    let is_high = rw same at c.high.ensures in
    let fits2 : FitsSigned w64 c.high.result = search rules in
    let same2 : to_z w64 (of_z w64 c.high.result) ≡ c.high.result = omega (arith, ints) in
    let rest0 = rw same2 at c.push_signed.ensures.ok in
    on_ok_weaker c.push_signed.result (λ rest most some fits.
    let s = step_large most z (sym is ∙ c.if-is_small.false) fits in
    rest s.0 s.1 (rw is_high s.2) ∙ ap₂ (λ bytes v. bytes ++ signed_text s.0 v) (c.in_ok-push-2.ensures.items ∙ ap (λ x. old ++ (x + 128) ∷ []) is_low) is_high
    ∙ append_assoc old ((low z + 128) ∷ []) (signed_text s.0 (high z)) ∙ ap (λ text. old ++ text) (sym s.3)) rest0
