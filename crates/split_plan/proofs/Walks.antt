-- A block, a loop or an if names no segment itself.
use Rattle.base_lists.proofs.Common.{◌≡◌, Bool, false, ◌||◌, List, refl, ap, ◌∙◌, list_any, list_any-append}
use Rattle.wasm_tree_spec.specs.Prelude.{BlockType, Instr, Block, Loop, If, outs-Block, outs-Loop, outs-If, AnyInside, operands, block_operands, held}
use Rattle.wasm_tree.specs.declared.types.BlockType.TheVariants as block
use Rattle.wasm_tree.specs.declared.instr.Instr.TheOpen.{Instr-F}
use Rattle.split_plan.specs.SegmentReferences.{names_segment, uses_segment_in, uses_segment}

no_segment : (ty : BlockType) → list_any names_segment (block_operands ty) ≡ false
no_segment block.Empty = refl
no_segment (block.Value t) = refl
no_segment (block.Index ty) = refl

abbrev in_layer : Instr-F Instr → Bool
in_layer layer = list_any names_segment (operands layer) || uses_segment (held layer)

pub block_uses : AnyInside → (ty : BlockType) (body : List Instr) → uses_segment_in (Block ty body) ≡ uses_segment body
block_uses law ty body = law names_segment (Block ty body) ∙ ap in_layer (outs-Block ty body) ∙ ap (λ b. b || uses_segment body) (no_segment ty)

pub loop_uses : AnyInside → (ty : BlockType) (body : List Instr) → uses_segment_in (Loop ty body) ≡ uses_segment body
loop_uses law ty body = law names_segment (Loop ty body) ∙ ap in_layer (outs-Loop ty body) ∙ ap (λ b. b || uses_segment body) (no_segment ty)

pub if_uses : AnyInside → (ty : BlockType) (body other : List Instr) → uses_segment_in (If ty body other) ≡ (uses_segment body || uses_segment other)
if_uses law ty body other =
    law names_segment (If ty body other)
    ∙ ap in_layer (outs-If ty body other)
    ∙ ap (λ b. b || uses_segment (held (Instr-F.If ty body other))) (no_segment ty)
    ∙ list_any-append uses_segment_in body other
