-- A block leaves the operands of the blocks around it as they are.
use Rattle.base_lists.proofs.Common.{◌≡◌, Bool, ◌++◌, take, drop, Option, Result, IfOk, sym, ap, ◌∙◌, IfOk-weaker}
use Rattle.std.specs.Bool.{OnTrue}
use Rattle.std.specs.declared.alloc.AllocError.{AllocError}
use Rattle.wasm_valid_bodies.specs.declared.operand_stack.OperandStack.{OperandStack}
use Rattle.wasm_valid_bodies.specs.declared.operand_stack.Outer.{Outer}
use Rattle.wasm_valid_bodies.specs.Typing.{Effect, operands}
use Rattle.wasm_valid_bodies.specs.Tracking.{answer_of}
use Rattle.wasm_valid_bodies.specs.OperandStack.{lowest, stack_of, beneath, when, AnswersEffect, IsBack}
use Rattle.wasm_valid_bodies.proofs.Runs.{true_or_not}

-- The effect of an instruction with a block is the same from the stack after the block as from the
-- stack before it.
pub after_block : (e : Option Effect) (old now new : OperandStack) (r : Result Bool AllocError) → IsBack old now → IfOk r (λ ok. AnswersEffect e now new ok) → IfOk r (λ ok. AnswersEffect e old new ok)
after_block e old now new r (s, a, n) =
    IfOk-weaker r _ _ (λ b h. (ap (λ xs. answer_of e xs old.any_below) (sym s) ∙ ap (λ o. answer_of e (stack_of now) o) (sym a) ∙ h.0, h.1 ∙ n))

pub answered : (e : Option Effect) (old new : OperandStack) (r : Result Bool AllocError) → IfOk r (λ ok. AnswersEffect e old new ok) → IfOk r (λ ok. answer_of e (stack_of old) old.any_below ≡ when ok (stack_of new, new.any_below))
answered e old new r = IfOk-weaker r _ _ (λ b h. h.0)

pub undisturbed : (e : Option Effect) (old new : OperandStack) (r : Result Bool AllocError) → IfOk r (λ ok. AnswersEffect e old new ok) → IfOk r (λ ok. OnTrue ok (beneath new ≡ beneath old))
undisturbed e old new r = IfOk-weaker r _ _ (λ b h. true_or_not b _ h.1)

pub back_again : (a b c : OperandStack) → IsBack a b → IsBack b c → IsBack a c
back_again a b c (s, p, n) (t, q, m) = (t ∙ s, q ∙ p, m ∙ n)

-- The end of a block restores the operands from before it.
pub back : (old inside new : OperandStack) (outer : Outer) → beneath inside ≡ old.types.items → new.types.items ≡ beneath inside → outer.base ≡ old.base → new.base ≡ outer.base → outer.bottom ≡ old.bottom → new.bottom ≡ outer.bottom → outer.any_below ≡ old.any_below →
    new.any_below ≡ outer.any_below →
    IsBack old new
back old inside new outer j i b' b l' l a' a =
    let items : new.types.items ≡ old.types.items = i ∙ j in
    let base : new.base ≡ old.base = b ∙ b' in (
      ap (λ z. operands (drop z new.types.items) ++ lowest new.bottom) base
          ∙ ap (λ z. operands (drop old.base z) ++ lowest new.bottom) items
          ∙ ap (λ z. operands (drop old.base old.types.items) ++ lowest z) (l ∙ l'),
      a ∙ a',
      ap (λ z. take z new.types.items) base ∙ ap (take old.base) items,
    )
