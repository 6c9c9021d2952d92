-- Laws of the operands of instructions: the operands of code with new indices, and tests of
-- operands layer by layer.
use Rattle.std.specs.Prelude.{◌≡◌, ◌↔◌, ℕ, Bool, true, ◌&&◌, ◌||◌, List, map}
use Rattle.std.specs.List.{list_all, list_any}
use Rattle.base_lists.specs.Every.{Every}
use Rattle.wasm_tree.specs.declared.space.Space.{Space}
use Rattle.wasm_tree.specs.declared.space.Operand.{Operand}
use Rattle.wasm_tree.specs.declared.types.BlockType.{BlockType}
use Rattle.wasm_tree.specs.declared.instr.Instr.{Instr, out-Instr}
use Rattle.wasm_tree.specs.declared.instr.Instr.TheOpen.{Instr-F}
use Rattle.wasm_tree.specs.declared.instr.Instr.TheVariants.{Block, Loop, If}
use Rattle.wasm_tree.specs.Layers.{ListLayers}
use Rattle.wasm_tree.specs.Operands.{operands, operands_of, block_operands, held, map_operands, mapped, mapped_all, operands_pass, all_operands_pass, operand_passes, any_operand_passes}

-- The operand with the index that `f` gives.
abbrev pub moved : (Space → ℕ → ℕ) → Operand → Operand
moved f o = record o { index = f o.space o.index }

-- ---- new indices ----

-- A layer with new indices names those indices, in the same order.
abbrev pub LayersAreMapped : Type 0
LayersAreMapped = (f : Space → ℕ → ℕ) (layer : Instr-F Instr) → operands_of (map_operands f layer) ≡ map (moved f) (operands layer)

-- An instruction with new indices names those indices, in the same order.
abbrev pub InstructionsAreMapped : Type 0
InstructionsAreMapped = (f : Space → ℕ → ℕ) (i : Instr) → operands_of (mapped f i) ≡ map (moved f) (operands_of i)

-- The instructions inside it get new indices too.
abbrev pub HeldIsMapped : Type 0
HeldIsMapped = (f : Space → ℕ → ℕ) (i : Instr) → held (out-Instr (mapped f i)) ≡ mapped_all f (held (out-Instr i))

-- Code with new indices passes a test exactly if the old code passes the test at the new indices.
abbrev pub MappedCodePasses : Type 0
MappedCodePasses = (f : Space → ℕ → ℕ) (test : Operand → Bool) (code : List Instr) → all_operands_pass test (mapped_all f code) ≡ all_operands_pass (λ o. test (moved f o)) code

-- ---- layer by layer ----

-- An instruction passes exactly if its own operands pass and the instructions inside it do.
abbrev pub PassesInside : Type 0
PassesInside = (test : Operand → Bool) (i : Instr) → operands_pass test i ≡ list_all test (operands_of i) && all_operands_pass test (held (out-Instr i))

-- Some operand passes exactly if one of the instruction's own does, or one of an instruction inside
-- it.
abbrev pub AnyInside : Type 0
AnyInside = (test : Operand → Bool) (i : Instr) → operand_passes test i ≡ (list_any test (operands_of i) || any_operand_passes test (held (out-Instr i)))

abbrev pub BlockPasses : Type 0
BlockPasses = (test : Operand → Bool) (ty : BlockType) (body : List Instr) → operands_pass test (Block ty body) ≡ list_all test (block_operands ty) && all_operands_pass test body

abbrev pub LoopPasses : Type 0
LoopPasses = (test : Operand → Bool) (ty : BlockType) (body : List Instr) → operands_pass test (Loop ty body) ≡ list_all test (block_operands ty) && all_operands_pass test body

abbrev pub IfPasses : Type 0
IfPasses =
    (test : Operand → Bool) (ty : BlockType) (body other : List Instr) →
    operands_pass test (If ty body other) ≡ list_all test (block_operands ty) && (all_operands_pass test body && all_operands_pass test other)

-- Code passes exactly if the operands of each layer pass.
abbrev pub PassesLayerByLayer : Type 0
PassesLayerByLayer = (test : Operand → Bool) (code : List Instr) → (all_operands_pass test code ≡ true) ↔ ListLayers (λ l. Every (λ o. test o ≡ true) (operands l)) code
