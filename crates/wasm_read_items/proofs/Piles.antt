-- The token that a call reports, and whether code names data segments.
use Rattle.base_lists.proofs.Common.{◌≡◌, ℕ, Bool, ◌||◌, List, [], ◌++◌, Option, Some, None, Result, Ok, Err, sym, ap, ◌∙◌, or-false, or_assoc, list_any-append}
use Rattle.wasm_tree_spec.specs.Prelude.{BlockType, Instr, out-Instr, Block, Loop, If, outs-Block, outs-Loop, outs-If, names_data, uses_data_in, uses_data, operands, operands_of, block_operands, held, AnyInside}
use Rattle.wasm_tree.specs.declared.types.BlockType.TheVariants as block
use Rattle.wasm_read_spec.specs.declared.fault.Fault.{Fault}
use Rattle.wasm_read_spec.specs.declared.token.Opener.{Opener}
use Rattle.wasm_read_spec.specs.declared.token.Token.{Token}
use Rattle.wasm_read_spec.specs.declared.token.Token.TheVariants.{Open, Else, End, Plain}
use Rattle.wasm_read_spec.specs.Prelude.{Fails, mapped_at, block_type_at}
use Rattle.wasm_read_spec.proofs.Loops.{fails_through}
use Rattle.wasm_read_items.specs.declared.pile.Pile.{Pile}
use Rattle.wasm_read_items.specs.Piled.{with_instr, piled}

-- ---- the token that was reported

abbrev number : Option (Pile × List ℕ) → ℕ
number None = 0
number (Some x) = 1

abbrev pile : Pile → Option (Pile × List ℕ) → Pile
pile other None = other
pile other (Some x) = x.0

abbrev token : Instr → Option (Pile × List ℕ) → Result (Token × List ℕ) Fault
token i None = Ok (Plain i, [])
token i (Some x) = Ok (Plain i, x.1)

pub told_plain : (p q : Pile) (rest : List ℕ) (r : Result (Token × List ℕ) Fault) → piled p r ≡ Some (q, rest) → (i : Instr) × (r ≡ Ok (Plain i, rest)) × (q ≡ with_instr p i)
told_plain p q rest (Ok (Plain i, after)) h = (i, ap (token i) h, sym (ap (pile p) h))
told_plain p q rest (Ok (Open k ty, after)) h = absurd (let e : 0 ≡ 1 = ap number h in cc)
told_plain p q rest (Ok (Else, after)) h = absurd (let e : 0 ≡ 1 = ap number h in cc)
told_plain p q rest (Ok (End, after)) h = absurd (let e : 0 ≡ 1 = ap number h in cc)
told_plain p q rest (Err e) h = absurd (let e : 0 ≡ 1 = ap number h in cc)

-- A token that opens a block is read if the type of the block is.
pub told_open : (k : Opener) (ty : BlockType) (bs rest : List ℕ) (r : Result (Token × List ℕ) Fault) → r ≡ mapped_at (λ t. Open k t) block_type_at bs → block_type_at bs ≡ Ok (ty, rest) → r ≡ Ok (Open k ty, rest)
told_open k ty bs rest r h e = h ∙ rw e

pub told_open_fails : (k : Opener) (e : Fault) (bs : List ℕ) (r : Result (Token × List ℕ) Fault) → r ≡ mapped_at (λ t. Open k t) block_type_at bs → Fails e (block_type_at bs) → Fails e r
told_open_fails k e bs r h bad = rw h (fails_through e (block_type_at bs) _ bad)

-- ---- whether an instruction names a data segment

-- An instruction with only the operands of a block type names a data segment exactly if the
-- instructions that it holds do.
enclosing : AnyInside → (ty : BlockType) (i : Instr) (is : List Instr) → operands_of i ≡ block_operands ty → held (out-Instr i) ≡ is → uses_data_in i ≡ uses_data is
enclosing any block.Empty i is own inner = any names_data i ∙ rw (own, inner)
enclosing any (block.Value t) i is own inner = any names_data i ∙ rw (own, inner)
enclosing any (block.Index ty) i is own inner = any names_data i ∙ rw (own, inner)

module _ (any : AnyInside) (before after : Bool) (ty : BlockType) (body : List Instr) (h : after ≡ (before || uses_data body)) where
  pub uses_in_block : after ≡ (before || uses_data_in (Block ty body))
  uses_in_block = h ∙ ap (λ b. before || b) (sym (enclosing any ty (Block ty body) body (ap operands (outs-Block ty body)) (ap held (outs-Block ty body))))

  pub uses_in_loop : after ≡ (before || uses_data_in (Loop ty body))
  uses_in_loop = h ∙ ap (λ b. before || b) (sym (enclosing any ty (Loop ty body) body (ap operands (outs-Loop ty body)) (ap held (outs-Loop ty body))))

  pub uses_in_if : (last : Bool) (other : List Instr) → last ≡ (after || uses_data other) → last ≡ (before || uses_data_in (If ty body other))
  uses_in_if last other g =
      let inner : uses_data_in (If ty body other) ≡ uses_data (body ++ other) = enclosing any ty (If ty body other) (body ++ other) (ap operands (outs-If ty body other)) (ap held (outs-If ty body other)) in
      g ∙ ap (λ b. b || uses_data other) h ∙ or_assoc before (uses_data body) (uses_data other) ∙ ap (λ b. before || b) (sym (inner ∙ list_any-append uses_data_in body other))

  pub uses_in_if_alone : after ≡ (before || uses_data_in (If ty body []))
  uses_in_if_alone = uses_in_if after [] (sym (or-false after))
