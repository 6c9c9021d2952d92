use Rattle.wasm_tree_spec.specs.Prelude.{out-Instr, outs-Block, outs-Loop, outs-If, uses_data_in}
use Rattle.wasm_tree.specs.declared.instr.Instr.TheOpen.{Instr-F}
use Rattle.wasm_write_spec.specs.PlainCode.{instr_text}
use Rattle.base_lists.proofs.Common.{ap, ◌∙◌, refl}
use Rattle.wasm_write_proof.specs.Ranges.{in_range}
use Rattle.wasm_write.proofs.InRange.{on_ok, both_ok, block_in_range, loop_in_range, if_in_range, table_in_range}
use Rattle.wasm_write.proofs.HeldUses.{held_uses, both_use}
use Rattle.wasm_write.proofs.Loops.{any_next, code_next, spelled_next}
use Rattle.wasm_write.proofs.Spelled.{spelled_text, spelled_uses, spelled_range}
use Rattle.wasm_write.proofs.code.+spell.Goals as goal

pub spell_instrs-loop-instr-preserved : goal.spell_instrs-loop-instr-preserved
spell_instrs-loop-instr-preserved g t c = record {
  text = spelled_next g.T.Target.preceded g.met.T.Target.joined instr_text _ _ _ _ _ _ c.in-Some.ensures.steps c.loop-instr.invariant.text c.in_ok-spell_instr.ensures.text;
  uses = any_next uses_data_in _ _ _ _ _ _ c.in-Some.ensures.steps c.loop-instr.invariant.uses c.in_ok-spell_instr.ensures.uses;
  range = code_next _ _ _ c.in-Some.ensures.steps c.loop-instr.invariant.range c.in_ok-spell_instr.ensures.range;
}

pub spell_instr-returns-in-Block-clause-range : goal.spell_instr-returns-in-Block-clause-range
spell_instr-returns-in-Block-clause-range g t c = both_ok c.spell_block.result (λ body ty. ap in_range c.in-Block.ensures ∙ block_in_range c.operands_pass_layer_by_layer.ensures.blocks c.numbers_are_in_range_layer_by_layer.ensures c.in-Block.ty.now c.in-Block.body.now body ty)
    c.spell_block.ensures.body c.spell_block.ensures.ty

pub spell_instr-returns-in-Block-clause-uses : goal.spell_instr-returns-in-Block-clause-uses
spell_instr-returns-in-Block-clause-uses g t c =
    let layer = ap out-Instr c.in-Block.ensures ∙ outs-Block c.in-Block.ty.now c.in-Block.body.now in
    held_uses c.operands_pass_layer_by_layer.ensures.any c.args.instr.now (Instr-F.Block c.in-Block.ty.now c.in-Block.body.now) layer c.in-Block.ty.now _ _ c.spell_block.result refl c.spell_block.ensures.uses

pub spell_instr-returns-in-Loop-clause-uses : goal.spell_instr-returns-in-Loop-clause-uses
spell_instr-returns-in-Loop-clause-uses g t c =
    let layer = ap out-Instr c.in-Loop.ensures ∙ outs-Loop c.in-Loop.ty.now c.in-Loop.body.now in
    held_uses c.operands_pass_layer_by_layer-in-Loop.ensures.any c.args.instr.now (Instr-F.Loop c.in-Loop.ty.now c.in-Loop.body.now) layer c.in-Loop.ty.now _ _ c.spell_block-in-Loop.result refl c.spell_block-in-Loop.ensures.uses

pub spell_instr-returns-in_ok-spell_else-in-If-clause-uses : goal.spell_instr-returns-in_ok-spell_else-in-If-clause-uses
spell_instr-returns-in_ok-spell_else-in-If-clause-uses g t c =
    let body = c.in-If.body.now in
    let other = c.in-If.other.now in
    let layer = ap out-Instr c.in-If.ensures ∙ outs-If c.in-If.ty.now body other in
    held_uses c.operands_pass_layer_by_layer-in-If.ensures.any c.args.instr.now (Instr-F.If c.in-If.ty.now body other) layer c.in-If.ty.now _ _ c.spell_body.result refl (both_use c.spell_body.result body other _ _ _ c.in_ok-spell_else-in-If.ensures.uses c.spell_body.ensures.uses)

pub spell_instr-returns-in-Loop-clause-range : goal.spell_instr-returns-in-Loop-clause-range
spell_instr-returns-in-Loop-clause-range g t c = both_ok c.spell_block-in-Loop.result (λ body ty. ap in_range c.in-Loop.ensures ∙ loop_in_range c.operands_pass_layer_by_layer-in-Loop.ensures.loops c.numbers_are_in_range_layer_by_layer-in-Loop.ensures c.in-Loop.ty.now c.in-Loop.body.now body ty)
    c.spell_block-in-Loop.ensures.body c.spell_block-in-Loop.ensures.ty

pub spell_instr-returns-in_ok-spell_else-in-If-clause-range : goal.spell_instr-returns-in_ok-spell_else-in-If-clause-range
spell_instr-returns-in_ok-spell_else-in-If-clause-range g t c = both_ok c.spell_body.result (λ body ty. ap in_range c.in-If.ensures ∙
    if_in_range c.operands_pass_layer_by_layer-in-If.ensures.ifs c.numbers_are_in_range_layer_by_layer-in-If.ensures c.in-If.ty.now c.in-If.body.now c.in-If.other.now body c.in_ok-spell_else-in-If.ensures.range ty) c.spell_body.ensures.body c.spell_body.ensures.ty

pub spell_instr-returns-in-Branches-clause-range : goal.spell_instr-returns-in-Branches-clause-range
spell_instr-returns-in-Branches-clause-range g t c = on_ok c.spell_branches.result (λ labels. ap in_range c.in-Branches.ensures ∙ table_in_range c.in-Branches.labels.now c.in-Branches.other c.spell_branches.ensures.other labels) c.spell_branches.ensures.labels

pub spell_instr-returns-in-CallIndirect : goal.spell_instr-returns-in-CallIndirect
spell_instr-returns-in-CallIndirect g t c = record {
  text = spelled_text g.T.Target.preceded _ _ _ _ _ _ c.spell_call_indirect.result c.in-CallIndirect.ensures c.spell_call_indirect.ensures.text;
  uses = spelled_uses _ _ _ _ _ c.spell_call_indirect.result c.in-CallIndirect.ensures;
  range = spelled_range _ _ _ _ c.spell_call_indirect.result c.in-CallIndirect.ensures (c.spell_call_indirect.ensures.ty, c.spell_call_indirect.ensures.table);
}

pub spell_instr-returns-in-SelectTyped : goal.spell_instr-returns-in-SelectTyped
spell_instr-returns-in-SelectTyped g t c = record {
  text = spelled_text g.T.Target.preceded _ _ _ _ _ _ c.spell_typed.result c.in-SelectTyped.ensures c.spell_typed.ensures;
  uses = spelled_uses _ _ _ _ _ c.spell_typed.result c.in-SelectTyped.ensures;
  range = spelled_range _ _ _ _ c.spell_typed.result c.in-SelectTyped.ensures tt;
}

pub spell_instr-returns-in-RefNull : goal.spell_instr-returns-in-RefNull
spell_instr-returns-in-RefNull g t c = record {
  text = spelled_text g.T.Target.preceded _ _ _ _ _ _ c.spell_ref_null.result c.in-RefNull.ensures c.spell_ref_null.ensures;
  uses = spelled_uses _ _ _ _ _ c.spell_ref_null.result c.in-RefNull.ensures;
  range = spelled_range _ _ _ _ c.spell_ref_null.result c.in-RefNull.ensures tt;
}

pub spell_instr-returns-in-MemoryInit : goal.spell_instr-returns-in-MemoryInit
spell_instr-returns-in-MemoryInit g t c = record {
  text = spelled_text g.T.Target.preceded _ _ _ _ _ _ c.spell_prefixed_pair.result c.in-MemoryInit.ensures c.spell_prefixed_pair.ensures.text;
  uses = spelled_uses _ _ _ _ _ c.spell_prefixed_pair.result c.in-MemoryInit.ensures;
  range = spelled_range _ _ _ _ c.spell_prefixed_pair.result c.in-MemoryInit.ensures (c.spell_prefixed_pair.ensures.first, c.spell_prefixed_pair.ensures.second);
}

pub spell_instr-returns-in-DataDrop : goal.spell_instr-returns-in-DataDrop
spell_instr-returns-in-DataDrop g t c = record {
  text = spelled_text g.T.Target.preceded _ _ _ _ _ _ c.spell_prefixed.result c.in-DataDrop.ensures c.spell_prefixed.ensures.text;
  uses = spelled_uses _ _ _ _ _ c.spell_prefixed.result c.in-DataDrop.ensures;
  range = spelled_range _ _ _ _ c.spell_prefixed.result c.in-DataDrop.ensures c.spell_prefixed.ensures.range;
}

pub spell_instr-returns-in-Bare : goal.spell_instr-returns-in-Bare
spell_instr-returns-in-Bare g t c = record {
  text = spelled_text g.T.Target.preceded _ _ _ _ _ _ c.byte.result c.in-Bare.ensures c.byte.ensures;
  uses = spelled_uses _ _ _ _ _ c.byte.result c.in-Bare.ensures;
  range = spelled_range _ _ _ _ c.byte.result c.in-Bare.ensures tt;
}

pub spell_instr-returns-in-Index : goal.spell_instr-returns-in-Index
spell_instr-returns-in-Index g t c = record {
  text = spelled_text g.T.Target.preceded _ _ _ _ _ _ c.spell_index.result c.in-Index.ensures c.spell_index.ensures.text;
  uses = spelled_uses _ _ _ _ _ c.spell_index.result c.in-Index.ensures;
  range = spelled_range _ _ _ _ c.spell_index.result c.in-Index.ensures c.spell_index.ensures.range;
}

pub spell_instr-returns-in-Access : goal.spell_instr-returns-in-Access
spell_instr-returns-in-Access g t c = record {
  text = spelled_text g.T.Target.preceded _ _ _ _ _ _ c.spell_access.result c.in-Access.ensures c.spell_access.ensures.text;
  uses = spelled_uses _ _ _ _ _ c.spell_access.result c.in-Access.ensures;
  range = spelled_range _ _ _ _ c.spell_access.result c.in-Access.ensures (c.spell_access.ensures.align, c.spell_access.ensures.offset, c.spell_access.ensures.memory);
}

pub spell_instr-returns-in-Prefixed : goal.spell_instr-returns-in-Prefixed
spell_instr-returns-in-Prefixed g t c = record {
  text = spelled_text g.T.Target.preceded _ _ _ _ _ _ c.spell_prefixed-in-Prefixed.result c.in-Prefixed.ensures c.spell_prefixed-in-Prefixed.ensures.text;
  uses = spelled_uses _ _ _ _ _ c.spell_prefixed-in-Prefixed.result c.in-Prefixed.ensures;
  range = spelled_range _ _ _ _ c.spell_prefixed-in-Prefixed.result c.in-Prefixed.ensures c.spell_prefixed-in-Prefixed.ensures.range;
}

pub spell_instr-returns-in-PrefixedPair : goal.spell_instr-returns-in-PrefixedPair
spell_instr-returns-in-PrefixedPair g t c = record {
  text = spelled_text g.T.Target.preceded _ _ _ _ _ _ c.spell_prefixed_pair-in-PrefixedPair.result c.in-PrefixedPair.ensures c.spell_prefixed_pair-in-PrefixedPair.ensures.text;
  uses = spelled_uses _ _ _ _ _ c.spell_prefixed_pair-in-PrefixedPair.result c.in-PrefixedPair.ensures;
  range = spelled_range _ _ _ _ c.spell_prefixed_pair-in-PrefixedPair.result c.in-PrefixedPair.ensures (c.spell_prefixed_pair-in-PrefixedPair.ensures.first, c.spell_prefixed_pair-in-PrefixedPair.ensures.second);
}
