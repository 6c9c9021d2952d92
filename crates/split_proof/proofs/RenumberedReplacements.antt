-- Code in which calls are replaced, and then each index is replaced by its entry.
use Rattle.base_lists.proofs.Common.{◌≡◌, ℕ, List, [], ◌∷◌, Bool, true, false, refl, sym, ap, ◌∙◌, subst, arith, rules, map-append}
use Rattle.base_lists.specs.Members.{is_among}
use Rattle.wasm_tree_spec.specs.Prelude.{BlockType, FuncType, Instr, fold_out-Instr, Row_of-Instr, items-the_row-Instr, end_of-Instr, more_of-Instr, the_lemmas, Block, Block', Loop, Loop', If, If', Call}
use Rattle.wasm_tree.specs.declared.instr.Instr.{out-Instr}
use Rattle.index_remap.specs.declared.remap.Remap.{Remap}
use Rattle.index_remap.specs.Prelude.{new_type, renumbered, renumbered_all, CallReplaced, Labels, Replaced, RowReplaced, DenotesOne}
use Rattle.split_spec.specs.Prelude.{calls_in, calls_step, with_calls}
use Rattle.split_proof.specs.RenumberedCalls.{renumbered_codes}
use Rattle.split_proof.proofs.ReplacedBlocks.{block_calls, if_calls, loop_calls}

module _ (m : Remap) (code : ℕ → List Instr) where
  -- The code with its calls replaced and then renumbered.
  abbrev new : List Instr → List Instr
  new is = renumbered_all m (with_calls code is)

  of_Block : (bt : BlockType) (is : List Instr) → renumbered_all m (Block bt is ∷ []) ≡ Block (new_type m bt) (renumbered_all m is) ∷ []
  of_Block bt is = search (rules, the_lemmas)

  of_Loop : (bt : BlockType) (is : List Instr) → renumbered_all m (Loop bt is ∷ []) ≡ Loop (new_type m bt) (renumbered_all m is) ∷ []
  of_Loop bt is = search (rules, the_lemmas)

  of_If : (bt : BlockType) (is os : List Instr) → renumbered_all m (If bt is os ∷ []) ≡ If (new_type m bt) (renumbered_all m is) (renumbered_all m os) ∷ []
  of_If bt is os = search (rules, the_lemmas)

  module _ (types : List FuncType) (listed : List ℕ) (others : (func : ℕ) → is_among listed func ≡ false → code func ≡ Call func ∷ []) where
    call_stands : (labels : Labels) (func : ℕ) (b : Bool) → is_among listed func ≡ b → CallReplaced m b (renumbered_codes m code) labels func (renumbered_all m (code func))
    call_stands labels func true e = (0, omega arith, refl)
    call_stands labels func false e = ap (renumbered_all m) (others func e)

    mutual
      unfolding out-Instr denote.Hole.Carrier.out

      stands : (labels : Labels) (i : Instr) → DenotesOne types m listed (renumbered_codes m code) labels i (renumbered_all m (calls_in code i))
      stands labels (Block' ty n body) = (new (items-the_row-Instr _ body), row_stands _ body, ap (renumbered_all m) (block_calls code ty n body) ∙ of_Block ty (with_calls code (items-the_row-Instr _ body)))
      stands labels (Loop' ty n body) = (new (items-the_row-Instr _ body), row_stands _ body, ap (renumbered_all m) (loop_calls code ty n body) ∙ of_Loop ty (with_calls code (items-the_row-Instr _ body)))
      stands labels (If' ty n body k other) = (
        new (items-the_row-Instr _ body),
        new (items-the_row-Instr _ other),
        row_stands _ body,
        row_stands _ other,
        ap (renumbered_all m) (if_calls code ty n body k other) ∙ of_If ty (with_calls code (items-the_row-Instr _ body)) (with_calls code (items-the_row-Instr _ other)),
      )
      stands labels (Call func) =
          subst (λ z. CallReplaced m (is_among listed func) (renumbered_codes m code) labels func (renumbered_all m z)) (sym (fold_out-Instr (List Instr) (calls_step code) (Call func))) (call_stands labels func (is_among listed func) refl)
      stands labels i = ap (renumbered_all m) (fold_out-Instr (List Instr) (calls_step code) i)

      row_stands : {n : _} (labels : Labels) (is : Row_of-Instr n) → RowReplaced types m listed (renumbered_codes m code) labels is (new (items-the_row-Instr n is))
      row_stands labels end_of-Instr = refl
      row_stands labels (more_of-Instr i is) =
          (renumbered_all m (calls_in code i), new (items-the_row-Instr _ is), stands labels i, row_stands labels is, map-append (renumbered m) (calls_in code i) (with_calls code (items-the_row-Instr _ is)))

    pub calls_replaced : (labels : Labels) (is : List Instr) → Replaced types m listed (renumbered_codes m code) labels is (renumbered_all m (with_calls code is))
    calls_replaced labels [] = refl
    calls_replaced labels (i ∷ is) = (renumbered_all m (calls_in code i), new is, stands labels i, calls_replaced labels is, map-append (renumbered m) (calls_in code i) (with_calls code is))
