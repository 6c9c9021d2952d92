-- Where all that is kept agrees with its entry and a body names only what is kept, what the body
-- names agrees.
use Rattle.base_lists.proofs.Common.{true≢false, IsTrue, List, [], sym}
use Rattle.wasm_tree_spec.specs.Prelude.{ValType, Instr, ListLayers}
use Rattle.wasm_valid_bodies.specs.Typing.{Context, WellTyped}
use Rattle.index_remap.specs.declared.remap.Remap.{Remap}
use Rattle.index_remap.specs.Prelude.{renumbered_all, OperandAgrees, LayerAgrees, SameFrame, OthersAgree}
use Rattle.index_remap.specs.Laws.{TypingIsKept, NotOpaqueAreRenumbered}
use Rattle.index_remap.proofs.UnreplacedCode.{all_follow, operands_follow}
use Rattle.index_remap_proof.specs.Indices.{Indices, LayerNamesOnly}
use Rattle.index_remap_proof.specs.Along.{AgreesAlong}

all_along : (m : Remap) (kept : Indices) (c d : Context) → AgreesAlong m kept c d → (is : List Instr) → ListLayers (LayerNamesOnly kept) is → ListLayers (LayerAgrees m c d) is
all_along m kept c d k = operands_follow (λ o. IsTrue (kept o.space o.index)) (λ o. OperandAgrees m c d o.space o.called o.index) (λ o. k.entries o.space o.called o.index)

-- ---- the law of code in which calls are replaced, with no function on the list ----

module _ (typed : TypingIsKept) (unlisted : NotOpaqueAreRenumbered) where
  pub kept_by_index : (m : Remap) (c d : Context) (is : List Instr) (ps rs : List ValType) → SameFrame c d → ListLayers (LayerAgrees m c d) is → WellTyped c is ps rs → WellTyped d (renumbered_all m is) ps rs
  kept_by_index m c d is ps rs same h =
      typed m [] (λ labels f. []) c d is (renumbered_all m is) ps rs same (all_follow (LayerAgrees m c d) (OthersAgree m [] c d) (λ l k e. k) is h) (λ labels f code k. absurd (true≢false (sym k)))
      (unlisted c.types m (λ labels f. []) c.labels is)

  pub kept_along : (m : Remap) (kept : Indices) (c d : Context) (is : List Instr) (ps rs : List ValType) → AgreesAlong m kept c d → ListLayers (LayerNamesOnly kept) is → WellTyped c is ps rs → WellTyped d (renumbered_all m is) ps rs
  kept_along m kept c d is ps rs k h = kept_by_index m c d is ps rs k.frame (all_along m kept c d k is h)
