-- An instruction that holds others names a data segment if one of them does.
use Rattle.base_lists.proofs.Common.{◌≡◌, ◌∙◌, ap, sym, List, ◌++◌, Bool, ◌||◌, Result, Ok, Err, OnOk, or_assoc, list_any-append}
use Rattle.wasm_tree_spec.specs.Prelude.{BlockType, Instr, out-Instr, AnyInside, names_data, uses_data_in, uses_data, operands, block_operands, held}
use Rattle.wasm_tree.specs.declared.types.BlockType.TheVariants as block
use Rattle.wasm_tree.specs.declared.instr.Instr.TheOpen.{Instr-F}

module _ (any : AnyInside) (i : Instr) (layer : Instr-F Instr) (is : out-Instr i ≡ layer) where
  of_held : (ty : BlockType) → operands layer ≡ block_operands ty → uses_data_in i ≡ uses_data (held layer)
  of_held block.Empty own = any names_data i ∙ rw (is, own)
  of_held (block.Value t) own = any names_data i ∙ rw (is, own)
  of_held (block.Index x) own = any names_data i ∙ rw (is, own)

  pub held_uses : {A E : Type 0} (ty : BlockType) (old new : Bool) (r : Result A E) → operands layer ≡ block_operands ty → OnOk r (new ≡ (uses_data (held layer) || old)) → OnOk r (new ≡ (uses_data_in i || old))
  held_uses ty old new (Ok x) own h = h ∙ ap (λ b. b || old) (sym (of_held ty own))
  held_uses ty old new (Err e) own h = h

-- Code of two parts, of which the second is written first, names a data segment if one of the parts
-- does.
pub both_use : {A E : Type 0} (r : Result A E) (body other : List Instr) (old mid new : Bool) → mid ≡ (uses_data other || old) → OnOk r (new ≡ (uses_data body || mid)) → OnOk r (new ≡ (uses_data (body ++ other) || old))
both_use (Ok x) body other old mid new m h = h ∙ ap (λ b. uses_data body || b) m ∙ sym (or_assoc (uses_data body) (uses_data other) old) ∙ ap (λ b. b || old) (sym (list_any-append uses_data_in body other))
both_use (Err e) body other old mid new m h = h
