use Rattle.std.proofs.Common.{◌≡◌, ◌++◌, List, ℕ, ◌∙◌, length, arith}
use Rattle.base_lists.proofs.Walk.{on_err}
use Rattle.wasm_bytes.specs.Writing.{u32_text}
use Rattle.wasm_bytes.proofs.out.push_sized.Goals as goal

pub returns-in_err-extend_from_slice-clause-err : goal.returns-in_err-extend_from_slice-clause-err
returns-in_err-extend_from_slice-clause-err c =
    let grown : (more : List ℕ) × (c.extend_from_slice.new.self.items ≡ c.args.bytes.now.items ++ more) =
    (u32_text (length c.args.content.now), c.in_err-extend_from_slice.ensures.items ∙ c.in_ok-push_unsigned.ensures.ok 5 (omega arith) (omega arith)) in
    on_err _ _ grown
