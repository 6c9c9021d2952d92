-- The bytes of an instruction that is written, the data segments that it names, and the ranges of
-- its numbers.
use Rattle.base_lists.proofs.Common.{◌≡◌, ◌∙◌, ap, sym, Bool, ◌||◌, List, ℕ, Result, Ok, Err, OnOk, IsTrue}
use Rattle.wasm_tree_spec.specs.Prelude.{Instr, uses_data_in}
use Rattle.wasm_write_proof.specs.Ranges.{in_range}
use Rattle.wasm_write_spec.specs.PlainCode.{instr_text}
use Rattle.wasm_write.specs.Forms.{IsSpelled}

pub spelled_text : {S A E : Type 0} (preceded : S → List ℕ → S) (i : Instr) (bytes : List ℕ) (used : Bool) (numbers : Type 0) (old new : S) (r : Result A E) → IsSpelled i bytes used numbers → OnOk r (new ≡ preceded old bytes) → OnOk r (new ≡ preceded old (instr_text i))
spelled_text preceded i bytes used numbers old new (Ok a) s h = h ∙ sym (ap (preceded old) s.text)
spelled_text preceded i bytes used numbers old new (Err e) s h = tt

pub spelled_uses : {A E : Type 0} (i : Instr) (bytes : List ℕ) (used : Bool) (numbers : Type 0) (old : Bool) (r : Result A E) → IsSpelled i bytes used numbers → OnOk r ((used || old) ≡ (uses_data_in i || old))
spelled_uses i bytes used numbers old (Ok a) s = sym (ap (λ b. b || old) s.uses)
spelled_uses i bytes used numbers old (Err e) s = tt

pub spelled_range : {A E : Type 0} (i : Instr) (bytes : List ℕ) (used : Bool) (numbers : Type 0) (r : Result A E) → IsSpelled i bytes used numbers → numbers → OnOk r (IsTrue (in_range i))
spelled_range i bytes used numbers (Ok a) s n = s.range n
spelled_range i bytes used numbers (Err e) s n = tt
