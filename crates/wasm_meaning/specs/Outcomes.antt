-- The outcome of a part of a step, and look-ups in lists. A look-up gives an option, and the rule
-- that does it says whether `None` is a trap or ill typed.
use Rattle.std.proofs.Common.{ℕ, List, Option, Some, None, slice_get}
pub use Rattle.base_lists.specs.Parts.{copies, onto, overwrite, slice, split_at}

-- A part of a step gives something, traps by a rule of the standard, or is ill typed: no rule
-- applies, for instance because an operand has another type or an index names nothing.
pub data Outcome (A : Type 0) : Type 0 where
  Gives : A → Outcome A
  Traps : Outcome A
  IllTyped : Outcome A

-- Both give related values, or both trap, or both are ill typed.
pub data ResRel {A B : Type 0} (P : A → B → Type 0) : Outcome A → Outcome B → Type 0 where
  done : {a : A} {b : B} → P a b → ResRel P (Gives a) (Gives b)
  trap : ResRel P Traps Traps
  wrong : ResRel P IllTyped IllTyped

-- `bind o f` is `f a` if `o` gives `a`; otherwise it is a trap or ill typed, as `o` is.
abbrev pub bind : {A B : Type 0} → Outcome A → (A → Outcome B) → Outcome B
bind Traps f = Traps
bind IllTyped f = IllTyped
bind (Gives a) f = f a

-- `None` is a trap, for instance for a place past the end.
abbrev pub or_trap : {A : Type 0} → Option A → Outcome A
or_trap None = Traps
or_trap (Some a) = Gives a

-- `None` is ill typed: no rule applies, for instance because the stack has too few values.
abbrev pub or_ill_typed : {A : Type 0} → Option A → Outcome A
or_ill_typed None = IllTyped
or_ill_typed (Some a) = Gives a

-- `f` of the entry of `xs` at index `i`; ill typed if there is none.
abbrev pub with_entry : {A B : Type 0} → List A → ℕ → (A → Outcome B) → Outcome B
with_entry xs i f = bind (or_ill_typed (slice_get xs i)) f
