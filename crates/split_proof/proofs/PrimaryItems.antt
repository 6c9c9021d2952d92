-- Each item of the primary module except its exports is valid, except for the declaration of
-- references.
use Rattle.base_lists.proofs.Common.{◌≡◌, ◌∙◌, ap, ap₂, sym, subst, refl, ℕ, ◌+◌, ◌<◌, List, [], ◌∷◌, ◌++◌, drop, map, length, Option, Some, None, Bool, true, false, ◌&&◌, not, ⊎_elim, option_and_then, slice_get, slice_index, arith, true≢false, nat_lt, pos, cons_option, option_map_or, lt-ltb}
use Rattle.base_lists.proofs.Common.{ltb-true, slice_get_within, has_chosen, numbers_index, and_then_is, append_at_left, append_right, map_at, map_from, slice_get_there, left_either, right_either, among_left, among_right, among_joined, there_among, no_place, none_among, only_rest, only_true}
use Rattle.base_lists.specs.Members.{is_among}
use Rattle.std.proofs.Common.{filter_map}
use Rattle.base_lists.proofs.Places.{push_from}
use Rattle.base_kept.specs.Kept.{kept}
use Rattle.base_kept.proofs.Laws.{kept_from}
use Rattle.base_kept.proofs.Marks.{marked_is_among}
use Rattle.wasm_tree_spec.specs.Prelude.{Operand, Space, Types, Functions, Tables, Memories, Globals, ElementSegments, DataSegments, RefType, ValType, I32, Ref, FuncType, TableType, Call, ConstExpr, DataMode, DataSeg, ElemMode, ElemSeg, Func, GlobalDef, ImportDesc, Module, imported_funcs}
use Rattle.wasm_tree_spec.specs.Prelude.{imported_globals, funcs_of, globals_of, type_of_func}
use Rattle.wasm_tree.specs.declared.types.RefType.TheVariants.{Func as func_ref}
use Rattle.wasm_tree.specs.declared.module.ConstExpr.TheVariants as const
use Rattle.wasm_tree.specs.declared.module.DataMode.TheVariants as «data»
use Rattle.wasm_tree.specs.declared.module.ElemMode.TheVariants as elem
use Rattle.wasm_tree.specs.declared.module.ImportDesc.TheVariants as im
use Rattle.wasm_valid_bodies.specs.Typing.{Context, WellTyped, only}
use Rattle.wasm_valid.specs.declared.kinds.ItemKind.{ItemKind}
use Rattle.wasm_valid.specs.declared.kinds.ItemKind.TheVariants as kind
use Rattle.wasm_valid.specs.Prelude.{const_type, const_func, elem_refs, export_refs, global_refs, named_of, refs_of, DataModeHolds, ElemModeHolds, HoldsAt, ImportHolds, LimitsHold, body_context, count_of, start_count, ItemsHold}
use Rattle.index_remap.specs.declared.remap.Remap.{Remap}
use Rattle.run_simulation.specs.Prelude.{gets, slot_call}
use Rattle.index_remap.specs.Prelude.{OperandAgrees, body_refs, new_const, new_data, new_data_mode, new_elem, new_elem_mode, new_func, new_global, new_start, renumbered_all}
use Rattle.index_remap_proof.specs.ButForReferences.{HoldsButForReferences, any_named}
use Rattle.index_remap_proof.specs.Trees.{TreesAgree}
use Rattle.split_spec.specs.Prelude.{call_by_slot, call_through_slot, in_slots, params_of, place_among, slot_segment, slot_table, slot_table_type, trampoline_body, type_index, is_needed, is_left, left_marks, primary_func, primary_funcs}
use Rattle.split_spec.specs.TrampolineNeeds.{named_other_than_by_calls}
use Rattle.split_proof.specs.Premises.{CanMove}
use Rattle.split_proof.proofs.WellTypedBodies.{BodyLaws, CodeIsTyped, body_typed, entry_agrees}
use Rattle.split_proof.proofs.PrimarySpaces as spaces
use Rattle.split_proof.proofs.SlotCalls.{slot_typed, slots_new, through_slot_typed, type_new}
use Rattle.split_proof.proofs.DescribedSpaces.{func_holds, table_holds}
use Rattle.split_proof.proofs.CallTypes.{trampoline_renumbered, trampoline_typed}

module _ (laws : BodyLaws) (namespace : ℕ → List ℕ) (prefix : List ℕ) (m : Module) (holds : ItemsHold m) (moved : List ℕ) (can : CanMove m moved) where
  abbrev map_of : Remap
  map_of = spaces.r namespace prefix m holds moved can

  abbrev new : Module
  new = spaces.u namespace prefix m holds moved can

  abbrev k : ℕ
  k = length (imported_funcs m.imports)

  abbrev agree : TreesAgree map_of (spaces.stays namespace prefix m holds moved can) m new
  agree = spaces.agree namespace prefix m holds moved can

  -- ---- what is named is left ----

  needed_left : (f : ℕ) → is_among (named_other_than_by_calls m) f ≡ true → is_left m moved f ≡ true
  needed_left f h = right_either (not (is_among moved f)) (is_needed m f) h

  pub refs_left : (f : ℕ) → is_among (refs_of m) f ≡ true → is_left m moved f ≡ true
  refs_left f h = needed_left f (among_left (refs_of m) (cons_option m.start [] ++ body_refs m.funcs) f h)

  named_left : (f : ℕ) → slice_get (named_of m) f ≡ Some true → is_left m moved f ≡ true
  named_left f h = refs_left f (marked_is_among (refs_of m) (length (funcs_of m)) f h)

  pub start_left : (f : ℕ) → m.start ≡ Some f → is_left m moved f ≡ true
  start_left f e =
      needed_left f (among_right (refs_of m) (cons_option m.start [] ++ body_refs m.funcs) f (among_left (cons_option m.start []) (body_refs m.funcs) f (
      ap (λ o. is_among (cons_option o []) f) e ∙ there_among (f ∷ []) 0 f refl)))

  pub item_left : (j p : ℕ) (s : ElemSeg) (e : ConstExpr) → slice_get m.elems j ≡ Some s → slice_get s.items p ≡ Some e → (f : ℕ) → const_func e ≡ Some f → is_left m moved f ≡ true
  item_left j p s e at got f is =
      let c = has_chosen const_func s.items p e f got is in
      refs_left f (among_left (elem_refs m.elems) (global_refs m.globals ++ export_refs m.exports) f (among_joined (λ s. filter_map const_func s.items) m.elems j s f at (there_among (filter_map const_func s.items) c.0 f c.1)))

  pub init_left : (j : ℕ) (g : GlobalDef) → slice_get m.globals j ≡ Some g → (f : ℕ) → const_func g.init ≡ Some f → is_left m moved f ≡ true
  init_left j g at f is =
      let c = has_chosen (λ g. const_func g.init) m.globals j g f at is in
      refs_left f (among_right (elem_refs m.elems) (global_refs m.globals ++ export_refs m.exports) f (among_left (global_refs m.globals) (export_refs m.exports) f (there_among (global_refs m.globals) c.0 f c.1)))

  -- ---- constant expressions ----

  const_kept : (e : ConstExpr) (ty : ValType) → ((f : ℕ) → const_func e ≡ Some f → is_left m moved f ≡ true) → const_type m e ≡ Some ty → const_type new (new_const map_of e) ≡ Some ty
  const_kept (const.I32 v) ty left h = h
  const_kept (const.I64 v) ty left h = h
  const_kept (const.Null q) ty left h = h
  const_kept (const.Func f) ty left h =
      let lt = ltb-true f (length (funcs_of m)) (only_true (nat_lt f (length (funcs_of m))) (Some (Ref func_ref)) ty h) in
      let there = agree.func_space f (left f refl) lt in
      ap (λ b. only b (Some (Ref func_ref))) (lt-ltb (slice_index map_of.funcs f) (length (funcs_of new)) there) ∙ only_rest (nat_lt f (length (funcs_of m))) (Some (Ref func_ref)) ty h
  const_kept (const.Global g) ty left h =
      let x = and_then_is (slice_get (globals_of m) g) (λ x. only (nat_lt g (length (imported_globals m.imports)) && not x.mutable) (Some x.ty)) ty h in
      let entry : slice_index map_of.globals g ≡ g = numbers_index (length (globals_of m)) g (slice_get_within (globals_of m) g x.0 x.1) in
      ap (λ n. const_type new (const.Global n)) entry
      ∙ ap₂ (λ gs is. option_and_then (λ x. only (nat_lt g (length is) && not x.mutable) (Some x.ty)) (slice_get gs g)) (spaces.globals_are namespace prefix m holds moved can) (spaces.imported_globals_are namespace prefix m holds moved can) ∙ h

  -- An offset of a segment names no function.
  pub no_func : (e : ConstExpr) → const_type m e ≡ Some I32 → (f : ℕ) → const_func e ≡ Some f → is_left m moved f ≡ true
  no_func (const.I32 v) h f is = absurd (let z = is in cc)
  no_func (const.I64 v) h f is = absurd (let z = is in cc)
  no_func (const.Null q) h f is = absurd (let z = is in cc)
  no_func (const.Func g) h f is = absurd (let z = only_rest (nat_lt g (length (funcs_of m))) (Some (Ref func_ref)) I32 h in cc)
  no_func (const.Global g) h f is = absurd (let z = is in cc)

  offset_kept : (e : ConstExpr) → const_type m e ≡ Some I32 → const_type new (new_const map_of e) ≡ Some I32
  offset_kept e h = const_kept e I32 (no_func e h) h

  elem_mode_kept : (ty : RefType) (mode : ElemMode) → ElemModeHolds m ty mode → ElemModeHolds new ty (new_elem_mode map_of mode)
  elem_mode_kept ty (elem.Active table offset) h = (agree.tables table refl ty h.0, offset_kept offset h.1)
  elem_mode_kept ty elem.Passive h = tt
  elem_mode_kept ty elem.Declarative h = tt

  data_mode_kept : (mode : DataMode) → DataModeHolds m mode → DataModeHolds new (new_data_mode map_of mode)
  data_mode_kept («data».Active memory offset) h = (agree.memories memory refl h.0, offset_kept offset h.1)
  data_mode_kept «data».Passive h = tt

  -- ---- functions ----

  pub record Item (j : ℕ) : Type 0 where
    pub place : ℕ
    pub func : Func
    pub at : slice_get m.funcs place ≡ Some func
    pub is : slice_get new.funcs j ≡ Some (new_func map_of (primary_func m moved (place_among moved (k + place)) (k + place) func))

  stands_at : (j : ℕ) (x y z : Func) → slice_get new.funcs j ≡ Some y → new_func map_of x ≡ y → x ≡ z → slice_get new.funcs j ≡ Some (new_func map_of z)
  stands_at j x y z a b c = a ∙ ap Some (sym b ∙ ap (new_func map_of) c)

  pub func_item : (j : ℕ) → j < length new.funcs → Item j
  func_item j lt =
      let xs = kept (drop k (left_marks m moved)) (primary_funcs m moved k m.funcs) in
      let y = slice_get_there new.funcs j lt in
      let x = map_from (new_func map_of) xs j y.0 y.1 in
      let p = kept_from (drop k (left_marks m moved)) (primary_funcs m moved k m.funcs) j x.0 x.1 in
      let f = spaces.primary_at namespace prefix m holds moved can k m.funcs p.place x.0 p.is in
      record { place = p.place; func = f.0; at = f.1; is = stands_at j x.0 y.0 (primary_func m moved (place_among moved (k + p.place)) (k + p.place) f.0) y.1 x.2 f.2 }

  type_at : (p : ℕ) (f : Func) → slice_get m.funcs p ≡ Some f → slice_get (funcs_of m) (k + p) ≡ Some f.ty
  type_at p f at = append_right (imported_funcs m.imports) (map (λ f. f.ty) m.funcs) p ∙ map_at (λ f. f.ty) m.funcs p f at

  pub same_type : (o : Option ℕ) (i : ℕ) (f : Func) → f.ty < length m.types → (new_func map_of (primary_func m moved o i f)).ty ≡ f.ty
  same_type None i f lt = numbers_index (length m.types) f.ty lt
  same_type (Some slot) i f lt = numbers_index (length m.types) f.ty lt

  -- ---- bodies ----

  others : (f : ℕ) → is_among moved f ≡ false → call_through_slot m moved f ≡ Call f ∷ []
  others f h = ap (λ o. call_by_slot m o f) (none_among f moved 0 h)

  calls_typed : CodeIsTyped laws map_of m new moved (call_through_slot m moved)
  calls_typed f ty t among at is d types funcs tables = by (place_among moved f) refl
    where
      by : (o : Option ℕ) → place_among moved f ≡ o → WellTyped d (renumbered_all map_of (call_through_slot m moved f)) t.params t.results
      by (Some slot) e =
          subst (λ o. WellTyped d (renumbered_all map_of (call_by_slot m o f)) t.params t.results) (sym e) (through_slot_typed map_of m new f ty slot t refl refl (spaces.slot_table_at namespace prefix m holds moved can) at is d types tables)
      by None e = absurd (true≢false (sym among ∙ no_place f moved 0 e))

  abbrev any_met : Operand → Bool
  any_met o = true

  each_agrees : (f : Func) (t : FuncType) (space : Space) (called : Bool) (i : ℕ) → called && is_among moved i ≡ false → OperandAgrees map_of (body_context m f t) (any_named (body_context new f t)) space called i
  each_agrees f t Types called i e = entry_agrees map_of (spaces.stays namespace prefix m holds moved can) m new agree f t Types called i refl
  each_agrees f t Functions true i e = entry_agrees map_of (spaces.stays namespace prefix m holds moved can) m new agree f t Functions true i (left_either (not (is_among moved i)) (is_needed m i) (ap not e))
  each_agrees f t Functions false i e = λ h. entry_agrees map_of (spaces.stays namespace prefix m holds moved can) m new agree f t Functions false i (named_left i h) h
  each_agrees f t Tables called i e = entry_agrees map_of (spaces.stays namespace prefix m holds moved can) m new agree f t Tables called i refl
  each_agrees f t Memories called i e = entry_agrees map_of (spaces.stays namespace prefix m holds moved can) m new agree f t Memories called i refl
  each_agrees f t Globals called i e = entry_agrees map_of (spaces.stays namespace prefix m holds moved can) m new agree f t Globals called i refl
  each_agrees f t ElementSegments called i e = entry_agrees map_of (spaces.stays namespace prefix m holds moved can) m new agree f t ElementSegments called i refl
  each_agrees f t DataSegments called i e = entry_agrees map_of (spaces.stays namespace prefix m holds moved can) m new agree f t DataSegments called i refl

  body_holds : (p : ℕ) (f : Func) (t : FuncType) (o : Option ℕ) → slice_get m.funcs p ≡ Some f → slice_get m.types f.ty ≡ Some t → WellTyped (body_context m f t) f.body [] t.results →
      WellTyped (any_named (body_context new (new_func map_of (primary_func m moved o (k + p) f)) t)) (new_func map_of (primary_func m moved o (k + p) f)).body [] t.results
  body_holds p f t None at is w =
      body_typed laws map_of m new moved (call_through_slot m moved) f t any_met calls_typed (λ o h e. each_agrees f t o.space o.called o.index e) others (λ o h. refl) w
  body_holds p f t (Some slot) at is w =
      let i = k + p in
      let d : Context = any_named (body_context new (new_func map_of (primary_func m moved (Some slot) i f)) t) in
      let ty = type_at p f at in
      let has : type_of_func m i ≡ Some t = ap (option_and_then (slice_get m.types)) ty ∙ is in
      let params : params_of m i ≡ t.params = ap (λ (o : Option FuncType). option_map_or (λ t. t.params) o []) has in
      let slots = spaces.slot_table_at namespace prefix m holds moved can in
      let body : renumbered_all map_of (trampoline_body m i slot) ≡ _ = trampoline_renumbered map_of (params_of m i) (type_index m i) (slot_table m) (pos slot) ∙
      ap (λ ts. gets 0 ts ++ slot_call (slice_index map_of.types (type_index m i)) (slice_index map_of.tables (slot_table m)) (pos slot)) params in
      subst (λ is. WellTyped d is [] t.results) (sym body)
      (trampoline_typed d (slice_index map_of.types (type_index m i)) (slice_index map_of.tables (slot_table m)) (pos slot) t (type_new map_of m new i f.ty slot t refl refl slots ty is d refl) (slots_new map_of m new i f.ty slot t refl refl slots ty is d refl)
      (λ n v h. append_at_left t.params [] n v h))

  -- ---- all items but the exports ----

  same_import : (d : ImportDesc) → ImportHolds m d → ImportHolds new d
  same_import (im.Func ty) h = h
  same_import (im.Table t) h = h
  same_import (im.Memory l) h = h
  same_import (im.Global g) h = h

  slot_within : (j : ℕ) → j < length moved → slice_index map_of.funcs (length (funcs_of m) + j) < length (funcs_of new)
  slot_within j lt = subst (λ n. n < length (funcs_of new)) (sym (spaces.placeholder_entry namespace prefix m holds moved can j lt)) (spaces.placeholder_within namespace prefix m holds moved can j lt)

  start_item : (j : ℕ) (o : Option ℕ) → m.start ≡ o → j < start_count (new_start map_of o) → HoldsAt new kind.Start j
  start_item j None e lt = absurd (omega (arith, lt))
  start_item j (Some x) e lt =
      let h = holds kind.Start 0 (subst (λ o. 0 < start_count o) (sym e) (omega arith)) in
      let both : Some h.0 ≡ Some x = sym h.2 ∙ e in
      let same : h.0 ≡ x = cc in
      (slice_index map_of.funcs x, h.1, ap (new_start map_of) e, agree.funcs x (start_left x e) h.1 (subst (λ z. type_of_func m z ≡ Some h.1) same h.3), h.4, h.5)

  elem_item : (j : ℕ) (s : ElemSeg) → slice_get new.elems j ≡ Some (new_elem map_of s) → (slice_get m.elems j ≡ Some s) → HoldsAt new kind.Elem j
  elem_item j s new_at at =
      let z = holds kind.Elem j (slice_get_within m.elems j s at) in
      let both : Some z.0 ≡ Some s = sym z.1 ∙ at in
      let same : z.0 ≡ s = cc in
      let items : (q : ℕ) (e : ConstExpr) → slice_get s.items q ≡ Some e → const_type m e ≡ Some (Ref s.ty) = subst (λ (w : ElemSeg). (q : ℕ) (e : ConstExpr) → slice_get w.items q ≡ Some e → const_type m e ≡ Some (Ref w.ty)) same z.2 in
      let mode : ElemModeHolds m s.ty s.mode = subst (λ (w : ElemSeg). ElemModeHolds m w.ty w.mode) same z.3 in (
        new_elem map_of s,
        new_at,
        (λ q d g. let e = map_from (new_const map_of) s.items q d g in subst (λ d. const_type new d ≡ Some (Ref s.ty)) e.2 (const_kept e.0 (Ref s.ty) (item_left j q s e.0 at e.1) (items q e.0 e.1))),
        elem_mode_kept s.ty s.mode mode,
      )

  slots_item : (j : ℕ) (s : ElemSeg) → slice_get new.elems j ≡ Some (new_elem map_of s) → s ≡ slot_segment (slot_table m) 0 (in_slots m (length moved)) → HoldsAt new kind.Elem j
  slots_item j s new_at same =
      (new_elem map_of (slot_segment (slot_table m) 0 (in_slots m (length moved))), new_at ∙ ap (λ s. Some (new_elem map_of s)) same, slot_typed map_of m new (length moved) slot_within, (spaces.slot_table_at namespace prefix m holds moved can, refl))

  -- The item is no export: exports are proved valid in another file.
  abbrev pub NoExport : ItemKind → Type 0
  NoExport kind.Export = ⊥
  NoExport _ = Unit {0}

  pub items_hold : (n : ItemKind) (j : ℕ) → NoExport n → j < count_of new true n → HoldsButForReferences new n j
  items_hold kind.Import j o lt =
      let y = slice_get_there new.imports j lt in
      (y.0, y.1, same_import y.0.desc (spaces.imports_hold namespace prefix m holds moved can j y.0 (ap (λ xs. slice_get xs j) (sym (spaces.imports_stay namespace prefix m holds moved can)) ∙ y.1)))
  items_hold kind.Memories j o lt = absurd (omega (arith, lt))
  items_hold kind.Func j o lt =
      let f = func_item j lt in
      let within = func_holds m holds f.place f.func f.at in
      (new_func map_of (primary_func m moved (place_among moved (k + f.place)) (k + f.place) f.func), f.is, subst (λ n. n < length m.types) (sym (same_type (place_among moved (k + f.place)) (k + f.place) f.func within)) within)
  items_hold kind.Table j o lt =
      let t = slice_get_there (m.tables ++ slot_table_type (length moved) ∷ []) j lt in
      (t.0, t.1, ⊎_elim (λ h. table_holds m holds j t.0 h) (λ h. subst (λ (t : TableType). LimitsHold t.limits) (sym h) (omega arith)) (push_from m.tables (slot_table_type (length moved)) j t.0 t.1))
  items_hold kind.Memory j o lt = holds kind.Memory j lt
  items_hold kind.Global j o lt =
      let y = slice_get_there new.globals j lt in
      let x = map_from (new_global map_of) m.globals j y.0 y.1 in
      let z = holds kind.Global j (slice_get_within m.globals j x.0 x.1) in
      let both : Some z.0 ≡ Some x.0 = sym z.1 ∙ x.1 in
      let same : z.0 ≡ x.0 = cc in
      let typed : const_type m x.0.init ≡ Some x.0.ty.ty = subst (λ (w : GlobalDef). const_type m w.init ≡ Some w.ty.ty) same z.2 in
      (new_global map_of x.0, map_at (new_global map_of) m.globals j x.0 x.1, const_kept x.0.init x.0.ty.ty (init_left j x.0 x.1) typed)
  items_hold kind.Export j o lt = absurd o
  items_hold kind.Start j o lt = start_item j m.start refl lt
  items_hold kind.Elem j o lt =
      let y = slice_get_there new.elems j lt in
      let s = map_from (new_elem map_of) (m.elems ++ slot_segment (slot_table m) 0 (in_slots m (length moved)) ∷ []) j y.0 y.1 in
      let at : slice_get new.elems j ≡ Some (new_elem map_of s.0) = y.1 ∙ ap Some (sym s.2) in
      ⊎_elim (λ h. elem_item j s.0 at h) (λ h. slots_item j s.0 at h) (push_from m.elems (slot_segment (slot_table m) 0 (in_slots m (length moved))) j s.0 s.1)
  items_hold kind.Segment j o lt =
      let y = slice_get_there new.datas j lt in
      let x = map_from (new_data map_of) m.datas j y.0 y.1 in
      let z = holds kind.Segment j (slice_get_within m.datas j x.0 x.1) in
      let both : Some z.0 ≡ Some x.0 = sym z.1 ∙ x.1 in
      let same : z.0 ≡ x.0 = cc in
      (new_data map_of x.0, map_at (new_data map_of) m.datas j x.0 x.1, data_mode_kept x.0.mode (subst (λ (w : DataSeg). DataModeHolds m w.mode) same z.2))
  items_hold kind.Body j o lt =
      let f = func_item j lt in
      let old = holds kind.Body f.place (slice_get_within m.funcs f.place f.func f.at) in
      let both : Some old.0 ≡ Some f.func = sym old.2 ∙ f.at in
      let same : old.0 ≡ f.func = cc in
      let ty : slice_get m.types f.func.ty ≡ Some old.1 = subst (λ (z : Func). slice_get m.types z.ty ≡ Some old.1) same old.3 in
      let typed : WellTyped (body_context m f.func old.1) f.func.body [] old.1.results = subst (λ (z : Func). WellTyped (body_context m z old.1) z.body [] old.1.results) same old.4 in
      let within = func_holds m holds f.place f.func f.at in (
        new_func map_of (primary_func m moved (place_among moved (k + f.place)) (k + f.place) f.func),
        old.1,
        f.is,
        ap (slice_get m.types) (same_type (place_among moved (k + f.place)) (k + f.place) f.func within) ∙ ty,
        body_holds f.place f.func old.1 (place_among moved (k + f.place)) f.at ty typed,
      )
