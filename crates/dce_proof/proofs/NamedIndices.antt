-- What is kept of a module names only indices that are kept and have an entry in the map of the
-- sweep. Hence the sweep does not change the imports that are kept.
use Rattle.base_lists.proofs.Common.{◌≡◌, ◌∙◌, ap, ap₂, refl, ℕ, suc, List, [], ◌∷◌, map, length, Some, ◌&&◌, slice_get, and_from, arith, ltb-true, length-numbers, numbers_index}
use Rattle.base_lists.specs.Places.{numbers}
use Rattle.wasm_tree_spec.specs.Prelude.{Instr, ConstExpr, DataMode, ElemMode, ExportDesc, Import, ImportDesc, Module, ListLayers, PassesLayerByLayer}
use Rattle.wasm_tree.specs.declared.module.ConstExpr.TheVariants as const
use Rattle.wasm_tree.specs.declared.module.DataMode.TheVariants as «data»
use Rattle.wasm_tree.specs.declared.module.ElemMode.TheVariants as elem
use Rattle.wasm_tree.specs.declared.module.ExportDesc.TheVariants as ex
use Rattle.wasm_tree.specs.declared.module.ImportDesc.TheVariants as im
use Rattle.wasm_tree.proofs.OperandLaws.{passes_both}
use Rattle.index_remap.specs.Prelude.{new_import, new_import_desc}
use Rattle.index_remap_proof.specs.Indices.{Indices, with_entry, LayerNamesOnly, ConstNamesOnly, ImportNamesOnly, ExportNamesOnly, ElemModeNamesOnly, DataModeNamesOnly, TreeNamesOnly}
use Rattle.base_kept.specs.Kept.{kept}
use Rattle.dce_spec.specs.Marks.{Marks, stays}
use Rattle.dce_spec.specs.Closed.{AreClosed}
use Rattle.dce_spec.specs.Swept.{kept_tree, sweep_map, swept}
use Rattle.dce_proof.proofs.CorrespondingWorlds.{kept_indices, same}

module _ (p q : Indices) where
  abbrev both : Indices
  both space x = p space x && q space x

  consts_both : (e : ConstExpr) → ConstNamesOnly p e → ConstNamesOnly q e → ConstNamesOnly both e
  consts_both (const.I32 v) h k = tt
  consts_both (const.I64 v) h k = tt
  consts_both (const.Null ty) h k = tt
  consts_both (const.Func f) h k = and_from _ _ h k
  consts_both (const.Global g) h k = and_from _ _ h k

  imports_both : (d : ImportDesc) → ImportNamesOnly p d → ImportNamesOnly q d → ImportNamesOnly both d
  imports_both (im.Func ty) h k = and_from _ _ h k
  imports_both (im.Table l) h k = tt
  imports_both (im.Memory l) h k = tt
  imports_both (im.Global g) h k = tt

  exports_both : (d : ExportDesc) → ExportNamesOnly p d → ExportNamesOnly q d → ExportNamesOnly both d
  exports_both (ex.Func x) h k = and_from _ _ h k
  exports_both (ex.Table x) h k = and_from _ _ h k
  exports_both (ex.Memory x) h k = and_from _ _ h k
  exports_both (ex.Global x) h k = and_from _ _ h k

  elem_modes_both : (mode : ElemMode) → ElemModeNamesOnly p mode → ElemModeNamesOnly q mode → ElemModeNamesOnly both mode
  elem_modes_both (elem.Active table offset) h k = (and_from _ _ h.0 k.0, consts_both offset h.1 k.1)
  elem_modes_both elem.Passive h k = tt
  elem_modes_both elem.Declarative h k = tt

  data_modes_both : (mode : DataMode) → DataModeNamesOnly p mode → DataModeNamesOnly q mode → DataModeNamesOnly both mode
  data_modes_both («data».Active memory offset) h k = (and_from _ _ h.0 k.0, consts_both offset h.1 k.1)
  data_modes_both «data».Passive h k = tt

  module _ (layers : PassesLayerByLayer) where
    bodies_both : (code : List Instr) → ListLayers (LayerNamesOnly p) code → ListLayers (LayerNamesOnly q) code → ListLayers (LayerNamesOnly both) code
    bodies_both code h k =
        (layers (λ o. both o.space o.index) code).0 (passes_both (λ o. p o.space o.index) (λ o. q o.space o.index) (λ o. both o.space o.index) (λ o a b. and_from _ _ a b) code ((layers (λ o. p o.space o.index) code).1 h) ((layers (λ o. q o.space o.index) code).1 k))

    pub tree_both : (t : Module) → TreeNamesOnly p t → TreeNamesOnly q t → TreeNamesOnly both t
    tree_both t h k = record {
      imports = λ i x e. imports_both x.desc (h.imports i x e) (k.imports i x e);
      funcs = λ i f e. let a = h.funcs i f e in let b = k.funcs i f e in (and_from _ _ a.0 b.0, bodies_both f.body a.1 b.1);
      globals = λ i g e. consts_both g.init (h.globals i g e) (k.globals i g e);
      exports = λ i x e. exports_both x.desc (h.exports i x e) (k.exports i x e);
      start = λ f e. and_from _ _ (h.start f e) (k.start f e);
      items = λ i n a e g l. consts_both e (h.items i n a e g l) (k.items i n a e g l);
      elem_modes = λ i a e. elem_modes_both a.mode (h.elem_modes i a e) (k.elem_modes i a e);
      data_modes = λ i a e. data_modes_both a.mode (h.data_modes i a e) (k.data_modes i a e);
    }

module _ (k : Marks) (t : Module) where
  pub named_both : PassesLayerByLayer → TreeNamesOnly (stays k) (kept_tree k t) → TreeNamesOnly (with_entry (sweep_map k t)) (kept_tree k t) → TreeNamesOnly (kept_indices k t) (kept_tree k t)
  named_both layers = tree_both (stays k) (with_entry (sweep_map k t)) layers (kept_tree k t)

  pub tree_imports : (c : AreClosed k t) → TreeNamesOnly (kept_indices k t) (kept_tree k t) → (swept k t).imports ≡ kept k.imports t.imports
  tree_imports c named = (same k t c).imports ∙ all_stay (kept k.imports t.imports) named.imports
    where
      one_stays : (d : ImportDesc) → ImportNamesOnly (kept_indices k t) d → new_import_desc (sweep_map k t) d ≡ d
      one_stays (im.Func ty) h = ap im.Func (numbers_index (length t.types) ty (omega (arith, ltb-true ty (length (numbers 0 (length t.types))) h, length-numbers 0 (length t.types))))
      one_stays (im.Table l) h = refl
      one_stays (im.Memory l) h = refl
      one_stays (im.Global l) h = refl

      all_stay : (is : List Import) → ((i : ℕ) (x : Import) → slice_get is i ≡ Some x → ImportNamesOnly (kept_indices k t) x.desc) → map (new_import (sweep_map k t)) is ≡ is
      all_stay [] h = refl
      all_stay (x ∷ is) h = ap₂ (λ y ys. y ∷ ys) (ap (λ d. record x { desc = d }) (one_stays x.desc (h 0 x refl))) (all_stay is (λ i. h (suc i)))
