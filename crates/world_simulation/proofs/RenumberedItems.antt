-- Items of a module with other indices, where each index of a set names what its entry names:
-- exports, starts, functions, constant expressions, and the modes of segments.
use Rattle.base_lists.proofs.Common.{◌≡◌, arith, ℕ, Option, Some, refl, option_and_then, slice_get, slice_index, IsTrue, List}
use Rattle.wasm_tree_spec.specs.Prelude.{Types, Functions, ElementSegments, DataSegments, ConstExpr, ExportDesc, ElemMode, ElemSeg, DataMode, DataSeg, Instr, ListLayers}
use Rattle.wasm_tree.specs.declared.module.Func as tree
use Rattle.wasm_num.specs.Operations.{W32}
use Rattle.wasm_meaning.specs.Prelude.{Val, Inst, num_of, PlacedSegment, start_in, address_in}
use Rattle.index_remap.specs.declared.remap.Remap.{Remap}
use Rattle.run_simulation.specs.Prelude.{Pairing, OptRel, none, some, ListRel, nil, cons, ValRel, ExternalValueRel, a_func, a_table, a_memory, a_global, CodeRel}
use Rattle.index_remap.specs.Prelude.{new_func, new_const, new_elem, new_elem_mode, new_data_mode, new_export_desc, new_start, renumbered_all, LayerNames}
use Rattle.index_remap_proof.specs.Indices.{Indices, ConstNamesOnly, FuncNamesOnly, ExportNamesOnly, ElemModeNamesOnly, DataModeNamesOnly}
use Rattle.world_simulation.specs.Prelude.{EntriesName, FuncsCorrespond, ElemsPartner, DatasPartner, ElemsAlike}
use Rattle.world_simulation.proofs.NamedIndices.{all_named}
use Rattle.base_lists.proofs.Related.{placed_rel}

-- Related values are the same offset of a segment.
pub offset_same : (R : Pairing) {o p : Option Val} → OptRel (ValRel R) o p → option_and_then (num_of W32) o ≡ option_and_then (num_of W32) p
offset_same R r = grind arith

-- The relation of the addresses that code names is that of the addresses of stores.
abbrev as_stored : Pairing → Pairing
as_stored R = record R { named = R.of }

module _ (R : Pairing) (m : Remap) (kept : Indices) (i j : Inst) (names : EntriesName (as_stored R) m kept i j) where
  pub func_named : (x : ℕ) → IsTrue (kept Functions x) → OptRel (R.of Functions) (slice_get i.funcs x) (slice_get j.funcs (slice_index m.funcs x))
  func_named = names Functions

  pub export_named : (d : ExportDesc) → ExportNamesOnly kept d → OptRel (ExternalValueRel R) (address_in i d) (address_in j (new_export_desc m d))
  export_named d h = grind (arith, a_func, a_table, a_memory, a_global, some, none)

  pub start_named : (start : Option ℕ) → ((f : ℕ) → start ≡ Some f → IsTrue (kept Functions f)) → ListRel (R.of Functions) (start_in i start) (start_in j (new_start m start))
  start_named start h = grind (arith, nil, cons, λ (f : ℕ) (e : start ≡ Some f). func_named f (h f e))

  pub funcs_correspond : ((code : List Instr) → ListLayers (LayerNames (as_stored R) m i j) code → CodeRel R i j code (renumbered_all m code)) → (f : tree.Func) → FuncNamesOnly kept f → FuncsCorrespond R i j f (new_func m f)
  funcs_correspond related f h = record { type = names Types f.ty h.0; locals = refl; code = related f.body (all_named (as_stored R) m kept i j names f.body h.1) }

  -- ---- by values that are related ----

  module _ (value second_value : ConstExpr → Option Val) (consts : (e : ConstExpr) → ConstNamesOnly kept e → OptRel (ValRel R) (value e) (second_value (new_const m e))) where
    pub elem_mode_named : (x y : PlacedSegment ElemSeg) → x.inst ≡ i → y.inst ≡ j → R.of ElementSegments x.address y.address → (mode : ElemMode) → ElemModeNamesOnly kept mode → ElemsPartner R value second_value x y mode (new_elem_mode m mode)
    elem_mode_named x y e f r mode h = grind (arith, offset_same R, ElemsPartner.active, ElemsPartner.passive, ElemsPartner.declarative)

    pub data_mode_named : (x y : PlacedSegment DataSeg) → x.inst ≡ i → y.inst ≡ j → R.of DataSegments x.address y.address → (mode : DataMode) → DataModeNamesOnly kept mode → DatasPartner R value second_value x y mode (new_data_mode m mode)
    data_mode_named x y e f r mode h = grind (arith, offset_same R, DatasPartner.active, DatasPartner.passive)

    pub elems_alike : (e : ElemSeg) → ((p : ℕ) (x : ConstExpr) → slice_get e.items p ≡ Some x → ConstNamesOnly kept x) → ElemsAlike R value second_value e (new_elem m e)
    elems_alike e h = record { declarative = grind arith; items = placed_rel (new_const m) e.items (λ p x at. consts x (h p x at)) }
