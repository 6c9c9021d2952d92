-- Code with replaced calls passes a test of operands where the code and the replacements pass it.
use Rattle.base_lists.proofs.Common.{◌≡◌, ◌∙◌, ap, sym, refl, ℕ, List, [], ◌∷◌, Bool, true, not, list_all, list_all-append, ◌&&◌, left_true, right_true, and_from}
use Rattle.wasm_tree_spec.specs.Prelude.{Operand, BlockType, Instr, fold_out-Instr, Row_of-Instr, items-the_row-Instr, end_of-Instr, more_of-Instr, Block, Block', Loop, Loop', If, If', Call, all_operands_pass, block_operands, called, held, operands, operands_of, operands_pass, outs-Block, outs-Loop}
use Rattle.wasm_tree_spec.specs.Prelude.{outs-If, PassesInside}
use Rattle.wasm_tree.specs.declared.types.BlockType.TheVariants as block
use Rattle.wasm_tree.specs.declared.instr.Instr.{out-Instr}
use Rattle.wasm_tree.specs.declared.instr.Instr.TheOpen.{Instr-F}
use Rattle.split_spec.specs.Prelude.{calls_in, calls_step, with_calls}
use Rattle.split_proof.proofs.ReplacedBlocks.{block_calls, block_layer, if_calls, if_layer, loop_calls, loop_layer}

module _ (inside : PassesInside) (old new : Operand → Bool) (code : ℕ → List Instr) (others : (o : Operand) → not o.called ≡ true → old o ≡ true → new o ≡ true) (codes : (f : ℕ) → old (called f) ≡ true → all_operands_pass new (code f) ≡ true) where
  each_passes : (os : List Operand) → list_all (λ o. not o.called) os ≡ true → list_all old os ≡ true → list_all new os ≡ true
  each_passes [] n h = refl
  each_passes (o ∷ os) n h =
      and_from (new o) (list_all new os) (others o (left_true (not o.called) (list_all (λ o. not o.called) os) n) (left_true (old o) (list_all old os) h))
      (each_passes os (right_true (not o.called) (list_all (λ o. not o.called) os) n) (right_true (old o) (list_all old os) h))

  type_passes : (ty : BlockType) → list_all old (block_operands ty) ≡ true → list_all new (block_operands ty) ≡ true
  type_passes block.Empty h = refl
  type_passes (block.Value t) h = refl
  type_passes (block.Index i) h = each_passes (block_operands (block.Index i)) refl h

  plain_passes : (i : Instr) → list_all (λ o. not o.called) (operands_of i) ≡ true → all_operands_pass new (held (out-Instr i)) ≡ true → operands_pass old i ≡ true → all_operands_pass new (i ∷ []) ≡ true
  plain_passes i n none h =
      and_from (operands_pass new i) true
      (inside new i ∙ and_from (list_all new (operands_of i)) (all_operands_pass new (held (out-Instr i)))
      (each_passes (operands_of i) n (left_true (list_all old (operands_of i)) (all_operands_pass old (held (out-Instr i))) (sym (inside old i) ∙ h))) none) refl

  -- An instruction passes a test where its operands and the code in it pass.
  layer_passes : (test : Operand → Bool) (i : Instr) (l : Instr-F Instr) → out-Instr i ≡ l → operands_pass test i ≡ list_all test (operands l) && all_operands_pass test (held l)
  layer_passes test i l is = inside test i ∙ ap (λ l. list_all test (operands l) && all_operands_pass test (held l)) is

  mutual
    unfolding out-Instr denote.Hole.Carrier.out

    instr_passes : (i : Instr) → operands_pass old i ≡ true → all_operands_pass new (calls_in code i) ≡ true
    instr_passes (Block' ty n row) h =
        let is = items-the_row-Instr _ row in
        let s = sym (layer_passes old (Block' ty n row) (Instr-F.Block ty is) (block_layer ty n row)) ∙ h in
        let t = layer_passes new (Block ty (with_calls code is)) (Instr-F.Block ty (with_calls code is)) (outs-Block ty (with_calls code is)) ∙
        and_from (list_all new (block_operands ty)) (all_operands_pass new (with_calls code is)) (type_passes ty (left_true (list_all old (block_operands ty)) (all_operands_pass old is) s)) (row_passes row (right_true (list_all old (block_operands ty)) (all_operands_pass old is) s)) in
        ap (all_operands_pass new) (block_calls code ty n row) ∙ and_from (operands_pass new (Block ty (with_calls code is))) true t refl
    instr_passes (Loop' ty n row) h =
        let is = items-the_row-Instr _ row in
        let s = sym (layer_passes old (Loop' ty n row) (Instr-F.Loop ty is) (loop_layer ty n row)) ∙ h in
        let t = layer_passes new (Loop ty (with_calls code is)) (Instr-F.Loop ty (with_calls code is)) (outs-Loop ty (with_calls code is)) ∙
        and_from (list_all new (block_operands ty)) (all_operands_pass new (with_calls code is)) (type_passes ty (left_true (list_all old (block_operands ty)) (all_operands_pass old is) s)) (row_passes row (right_true (list_all old (block_operands ty)) (all_operands_pass old is) s)) in
        ap (all_operands_pass new) (loop_calls code ty n row) ∙ and_from (operands_pass new (Loop ty (with_calls code is))) true t refl
    instr_passes (If' ty n row k other) h =
        let is = items-the_row-Instr _ row in
        let os = items-the_row-Instr _ other in
        let s = sym (layer_passes old (If' ty n row k other) (Instr-F.If ty is os) (if_layer ty n row k other) ∙ ap (λ b. list_all old (block_operands ty) && b) (list_all-append (operands_pass old) is os)) ∙ h in
        let r = right_true (list_all old (block_operands ty)) _ s in
        let t = layer_passes new (If ty (with_calls code is) (with_calls code os)) (Instr-F.If ty (with_calls code is) (with_calls code os)) (outs-If ty (with_calls code is) (with_calls code os)) ∙
        ap (λ b. list_all new (block_operands ty) && b) (list_all-append (operands_pass new) (with_calls code is) (with_calls code os)) ∙
        and_from (list_all new (block_operands ty)) _ (type_passes ty (left_true (list_all old (block_operands ty)) _ s))
        (and_from (all_operands_pass new (with_calls code is)) (all_operands_pass new (with_calls code os)) (row_passes row (left_true (all_operands_pass old is) (all_operands_pass old os) r)) (row_passes other (right_true (all_operands_pass old is) (all_operands_pass old os) r))) in
        ap (all_operands_pass new) (if_calls code ty n row k other) ∙ and_from (operands_pass new (If ty (with_calls code is) (with_calls code os))) true t refl
    instr_passes (Call f) h =
        ap (all_operands_pass new) (fold_out-Instr (List Instr) (calls_step code) (Call f))
        ∙ codes f (left_true (old (called f)) true (left_true (list_all old (called f ∷ [])) true (sym (inside old (Call f)) ∙ h)))
    instr_passes i h = ap (all_operands_pass new) (fold_out-Instr (List Instr) (calls_step code) i) ∙ plain_passes i refl refl h

    row_passes : {n : _} (is : Row_of-Instr n) → all_operands_pass old (items-the_row-Instr n is) ≡ true → all_operands_pass new (with_calls code (items-the_row-Instr n is)) ≡ true
    row_passes end_of-Instr h = refl
    row_passes (more_of-Instr i is) h =
        let js = items-the_row-Instr _ is in
        list_all-append (operands_pass new) (calls_in code i) (with_calls code js)
        ∙ and_from (all_operands_pass new (calls_in code i)) (all_operands_pass new (with_calls code js)) (instr_passes i (left_true (operands_pass old i) (all_operands_pass old js) h)) (row_passes is (right_true (operands_pass old i) (all_operands_pass old js) h))

  pub calls_pass : (is : List Instr) → all_operands_pass old is ≡ true → all_operands_pass new (with_calls code is) ≡ true
  calls_pass [] h = refl
  calls_pass (i ∷ is) h =
      list_all-append (operands_pass new) (calls_in code i) (with_calls code is)
      ∙ and_from (all_operands_pass new (calls_in code i)) (all_operands_pass new (with_calls code is)) (instr_passes i (left_true (operands_pass old i) (all_operands_pass old is) h)) (calls_pass is (right_true (operands_pass old i) (all_operands_pass old is) h))
