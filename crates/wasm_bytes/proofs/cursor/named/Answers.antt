use Rattle.base_lists.proofs.Common.{Ok, sym, ap₂, ◌∙◌, subst, arith, IsUtf8}
use Rattle.wasm_bytes.proofs.NameLaws.{name_text, name_no_text}
use Rattle.wasm_bytes.proofs.cursor.named.Goals as goal

pub returns-in-Ok-clause-gives : goal.returns-in-Ok-clause-gives
returns-in-Ok-clause-gives c =
    let front = c.split_at.ensures.front in
    name_text _ c.in_ok-count.count c.in_ok-count.after.now (sym c.in_ok-count.ensures.reads) (omega arith) (subst IsUtf8 front c.in-Ok.ensures.cases.1)
    ∙ ap₂ (λ a b. Ok (a, b)) (sym (c.in-Ok.ensures.cases.0 ∙ front)) (sym c.split_at.ensures.back)

pub returns-in-Err-clause-gives : goal.returns-in-Err-clause-gives
returns-in-Err-clause-gives c =
    name_no_text _ c.in_ok-count.count c.in_ok-count.after.now (sym c.in_ok-count.ensures.reads) (omega arith) (λ u. c.in-Err.ensures.cases.0 (subst IsUtf8 (sym c.split_at.ensures.front) u))
