-- What the stack that the checker keeps in memory denotes.
use Rattle.std.specs.Prelude.{◌≡◌, Bool, true, false, List, [], ◌∷◌, ◌++◌, take, drop, Option, Some, None}
use Rattle.wasm_tree_spec.specs.Prelude.{ValType}
use Rattle.wasm_valid_bodies.specs.declared.operand_stack.OperandStack.{OperandStack}
use Rattle.wasm_valid_bodies.specs.declared.operand_stack.Outer.{Outer}
use Rattle.wasm_valid_bodies.specs.Typing.{Stack, Effect, operands}
use Rattle.wasm_valid_bodies.specs.Tracking.{answer_of}

-- The bottom, if there is one.
abbrev pub lowest : Bool → Stack
lowest false = []
lowest true = None ∷ []

-- The operands of the innermost block.
abbrev pub stack_of : OperandStack → Stack
stack_of k = operands (drop k.base k.types.items) ++ lowest k.bottom

-- The known operands of the blocks around it.
abbrev pub beneath : OperandStack → List ValType
beneath k = take k.base k.types.items

abbrev pub when : {A : Type 0} → Bool → A → Option A
when false x = None
when true x = Some x

-- The checker returns whether an instruction of this type can follow, and if so keeps what
-- `answer_of` gives. The operands of the blocks around the innermost one are unchanged.
abbrev pub AnswersEffect : Option Effect → OperandStack → OperandStack → Bool → Type 0
AnswersEffect e old new ok =
    (answer_of e (stack_of old) old.any_below ≡ when ok (stack_of new, new.any_below)) × (beneath new ≡ beneath old)

-- A new innermost block with operands of these types; `outer` is what is saved of the block around
-- it.
abbrev pub IsInside : List ValType → OperandStack → Outer → OperandStack → Type 0
IsInside ps old outer new =
    (stack_of new ≡ operands ps) × (new.any_below ≡ false) × (beneath new ≡ old.types.items) × (outer.base ≡ old.base) × (outer.bottom ≡ old.bottom) × (outer.any_below ≡ old.any_below)

-- The operands are those from before.
abbrev pub IsBack : OperandStack → OperandStack → Type 0
IsBack old new = (stack_of new ≡ stack_of old) × (new.any_below ≡ old.any_below) × (beneath new ≡ beneath old)
