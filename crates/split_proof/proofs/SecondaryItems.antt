-- Each item of a secondary module is valid, except for the declaration of references.
use Rattle.base_lists.proofs.Common.{◌≡◌, ◌∙◌, ap, ap₂, sym, subst, refl, ℕ, zero, suc, ◌+◌, ◌-◌, ◌<◌, List, [], ◌∷◌, ◌++◌, map, length, Option, Some, None, Bool, true, false, ◌&&◌, ◌||◌, not, ⊎_elim, option_and_then, slice_get, slice_index, arith, true≢false, option_map, length-map}
use Rattle.base_lists.proofs.Common.{slice_get_within, chosen_from, numbers_index, option_map_is, append_from, map_at, map_from, slice_get_there, left_either, right_either, any_from_place, among_append, place_is, no_place, none_among}
use Rattle.base_lists.proofs.Bools.{left_false, right_false}
use Rattle.base_lists.specs.Members.{is_among}
use Rattle.std.proofs.Common.{eq-eqb}
use Rattle.wasm_tree_spec.specs.Prelude.{Operand, Space, Types, Functions, Tables, Memories, Globals, ElementSegments, DataSegments, FuncType, Call, Func, Import, ImportDesc, Module, any_operand_passes, same_space, imported_funcs, funcs_of}
use Rattle.wasm_tree.specs.declared.module.ImportDesc.TheVariants as im
use Rattle.wasm_valid_bodies.specs.Typing.{WellTyped}
use Rattle.wasm_valid.specs.declared.kinds.ItemKind.TheVariants as kind
use Rattle.wasm_valid.specs.Prelude.{ImportHolds, body_context, ItemsHold}
use Rattle.index_remap.specs.declared.remap.Remap.{Remap}
use Rattle.index_remap.specs.Prelude.{func_type, new_func, new_import, new_import_desc, renumbered_all, is_opaque_call}
use Rattle.index_remap_proof.specs.ButForReferences.{IsValidButForReferences}
use Rattle.split_plan.specs.SegmentReferences.{names_segment}
use Rattle.split_spec.specs.declared.names.SplitNames.{SplitNames}
use Rattle.split_spec.specs.Prelude.{call_by_slot, defined_at, place_among, slot_table_type, entities, from_primary, imports_from_primary, is_from_primary, is_named_from_primary, name_from_primary, slots_name, secondary_call, secondary_call_by_place, secondary_func, secondary_imports}
use Rattle.split_proof.specs.Premises.{CanMove}
use Rattle.split_proof.proofs.WellTypedBodies.{BodyLaws, CodeIsTyped, MetAgrees, body_typed, entry_agrees}
use Rattle.split_proof.proofs.OperandTests.{Met}
use Rattle.split_proof.proofs.SecondarySpaces.{agree, funcs_many, own_at, own_entry, own_many, own_moves, own_type, r, slot_table_at, stays, u}
use Rattle.split_proof.proofs.DescribedSpaces.{entity_holds, func_holds}
use Rattle.split_proof.proofs.SlotCalls.{slot_typed, through_slot_typed}
use Rattle.split_proof.proofs.CallTypes.{call_renumbered, call_typed}

-- An operand that is no call of a moved function names an entity that is imported from the primary
-- module.
names_itself : (moved : List ℕ) (o : Operand) → is_opaque_call moved o ≡ false → is_named_from_primary moved o.space o.index o ≡ true
names_itself moved o e = ap₂ (λ a b. a && b) (same o.space) (ap₂ (λ a b. a && b) (eq-eqb o.index o.index refl) (ap not e))
  where
    same : (s : Space) → same_space s s ≡ true
    same Types = refl
    same Functions = refl
    same Tables = refl
    same Memories = refl
    same Globals = refl
    same ElementSegments = refl
    same DataSegments = refl

module _ (laws : BodyLaws) (names : SplitNames) (m : Module) (holds : ItemsHold m) (moved own : List ℕ) (before : ℕ) (can : CanMove m own) where
  abbrev map_of : Remap
  map_of = r names m holds moved own before

  abbrev new : Module
  new = u names m holds moved own before

  -- ---- imports ----

  abbrev pub AllHold : List Import → Type 0
  AllHold xs = (n : ℕ) (x : Import) → slice_get xs n ≡ Some x → ImportHolds m x.desc

  both_hold : (xs ys : List Import) → AllHold xs → AllHold ys → AllHold (xs ++ ys)
  both_hold xs ys h k n x at = ⊎_elim (λ e. h n x e) (λ e. k e.0 x e.2) (append_from xs ys n x at)

  from_hold : (space : Space) → AllHold (imports_from_primary names.import_namespace names.export_prefix m space (from_primary m moved own space))
  from_hold space n x at =
      let i = chosen_from (λ i. option_map (λ d. record { «module» = names.import_namespace; field = name_from_primary names.export_prefix space i; desc = d }) (slice_get (entities m space) i)) (from_primary m moved own space) n x at in
      let d = option_map_is (λ d. record { «module» = names.import_namespace; field = name_from_primary names.export_prefix space i.0; desc = d }) (slice_get (entities m space) i.0) x i.2 in
      subst (λ (y : Import). ImportHolds m y.desc) d.2 (entity_holds m holds space i.0 d.0 d.1)

  slot_table_holds : AllHold (record { «module» = names.import_namespace; field = slots_name names.export_prefix; desc = im.Table (slot_table_type (length moved)) } ∷ [])
  slot_table_holds zero x at =
      let same : record { «module» = names.import_namespace; field = slots_name names.export_prefix; desc = im.Table (slot_table_type (length moved)) } ≡ x = cc in
      subst (λ (y : Import). ImportHolds m y.desc) same (omega arith)
  slot_table_holds (suc n) x at = absurd (let k = at in cc)

  pub imports_hold : AllHold (secondary_imports names m moved own)
  imports_hold =
      both_hold _ _ (from_hold Functions) (both_hold _ _ (from_hold Tables) (both_hold (record { «module» = names.import_namespace; field = slots_name names.export_prefix; desc = im.Table (slot_table_type (length moved)) } ∷ []) _ slot_table_holds
      (both_hold _ _ (from_hold Memories) (from_hold Globals))))

  desc_holds : (d : ImportDesc) → ImportHolds m d → ImportHolds new (new_import_desc map_of d)
  desc_holds (im.Func ty) h = subst (λ n. n < length m.types) (sym (numbers_index (length m.types) ty h)) h
  desc_holds (im.Table t) h = h
  desc_holds (im.Memory l) h = h
  desc_holds (im.Global g) h = h

  -- ---- calls ----

  -- A call of a function that does not move stays.
  others : (f : ℕ) → is_among (moved ++ own) f ≡ false → secondary_call m moved own f ≡ Call f ∷ []
  others f h =
      let parts = sym (among_append moved own f) ∙ h in
      ap (λ o. secondary_call_by_place m moved o f) (none_among f own 0 (right_false (is_among moved f) (is_among own f) parts))
      ∙ ap (λ o. call_by_slot m o f) (none_among f moved 0 (left_false (is_among moved f) (is_among own f) parts))

  calls_typed : CodeIsTyped laws map_of m new (moved ++ own) (secondary_call m moved own)
  calls_typed f ty t among at is d types funcs tables = by (place_among own f) (place_among moved f) refl refl
    where
      by : (o p : Option ℕ) → place_among own f ≡ o → place_among moved f ≡ p → WellTyped d (renumbered_all map_of (secondary_call m moved own f)) t.params t.results
      by (Some place) p e q =
          let i = place_is f own 0 place e in
          let same = i.1 in
          let index : place ≡ i.0 = omega (arith, same) in
          let lt = slice_get_within own i.0 f i.2 in
          let entry : slice_index map_of.funcs (length (funcs_of m) + place) ≡ length (imported_funcs new.imports) + i.0 = ap (λ k. slice_index map_of.funcs (length (funcs_of m) + k)) index ∙ own_entry names m holds moved own before can i.0 lt in
          let g = own_moves names m holds moved own before can i.0 f i.2 in
          let both : Some g.func.ty ≡ Some ty = sym g.typed ∙ at in
          let ty_is : g.func.ty ≡ ty = cc in
          let typed : func_type d (length (imported_funcs new.imports) + i.0) ≡ Some t =
          ap₂ (λ ts fs. option_and_then (slice_get ts) (slice_get fs (length (imported_funcs new.imports) + i.0))) types funcs ∙ ap (option_and_then (slice_get m.types)) (own_type names m holds moved own before can i.0 f i.2 ∙ ap Some ty_is) ∙ is in
          let code_is : renumbered_all map_of (secondary_call m moved own f) ≡ Call (length (imported_funcs new.imports) + i.0) ∷ [] =
          ap (λ o. renumbered_all map_of (secondary_call_by_place m moved o f)) e ∙ call_renumbered map_of (length (funcs_of m) + place) ∙ ap (λ k. Call k ∷ []) entry in
          subst (λ z. WellTyped d z t.params t.results) (sym code_is) (call_typed d (length (imported_funcs new.imports) + i.0) t typed)
      by None (Some slot) e q =
          let code_is : secondary_call m moved own f ≡ call_by_slot m (Some slot) f = ap (λ o. secondary_call_by_place m moved o f) e ∙ ap (λ o. call_by_slot m o f) q in
          subst (λ z. WellTyped d (renumbered_all map_of z) t.params t.results) (sym code_is) (through_slot_typed map_of m new f ty slot t refl refl (slot_table_at names m holds moved own before) at is d types tables)
      by None None e q =
          let none : is_among (moved ++ own) f ≡ false = among_append moved own f ∙ ap₂ (λ a b. a || b) (no_place f moved 0 q) (no_place f own 0 e) in
          absurd (true≢false (sym among ∙ none))

  -- ---- bodies ----

  -- The operand is a call of a moved function, or its index stays.
  abbrev is_met : Operand → Bool
  is_met o = is_opaque_call (moved ++ own) o || stays names m holds moved own before o.space o.index

  -- The operands of the bodies of the secondary module pass this test.
  body_met : (p f : ℕ) (at : slice_get own p ≡ Some f) → Met is_met (λ test. any_operand_passes test (own_moves names m holds moved own before can p f at).func.body)
  body_met p f at o t = by (is_opaque_call moved o) refl
    where
      there : is_opaque_call moved o ≡ false → is_from_primary moved (defined_at m own) o.space o.index ≡ true
      there e = any_from_place (λ f. any_operand_passes (is_named_from_primary moved o.space o.index) f.body) (defined_at m own) p (own_moves names m holds moved own before can p f at).func (own_at names m holds moved own before can p f at)
          (t (is_named_from_primary moved o.space o.index) (names_itself moved o e))

      no_segment : names_segment o ≡ true → ⊥
      no_segment h = true≢false (sym (t names_segment h) ∙ (own_moves names m holds moved own before can p f at).names_none)

      in_space : (s : Space) → o.space ≡ s → is_from_primary moved (defined_at m own) s o.index ≡ true → stays names m holds moved own before s o.index ≡ true
      in_space Types e h = refl
      in_space Functions e h = h
      in_space Tables e h = h
      in_space Memories e h = h
      in_space Globals e h = h
      in_space ElementSegments e h = absurd (no_segment (ap (λ s. same_space s DataSegments || same_space s ElementSegments) e))
      in_space DataSegments e h = absurd (no_segment (ap (λ s. same_space s DataSegments || same_space s ElementSegments) e))

      listed_too : (b : Bool) → b && is_among moved o.index ≡ true → b && is_among (moved ++ own) o.index ≡ true
      listed_too true h = among_append moved own o.index ∙ left_either (is_among moved o.index) (is_among own o.index) h
      listed_too false h = cc

      by : (b : Bool) → is_opaque_call moved o ≡ b → (is_opaque_call (moved ++ own) o || stays names m holds moved own before o.space o.index) ≡ true
      by true e = left_either (is_opaque_call (moved ++ own) o) (stays names m holds moved own before o.space o.index) (listed_too o.called e)
      by false e = right_either (is_opaque_call (moved ++ own) o) (stays names m holds moved own before o.space o.index) (in_space o.space refl (there e))

  met_agrees : (f : Func) (t : FuncType) → MetAgrees laws map_of m new (moved ++ own) (secondary_call m moved own) f t is_met
  met_agrees f t o h e =
      entry_agrees map_of (stays names m holds moved own before) m new (agree names m holds moved own before) f t o.space o.called o.index (sym (ap (λ b. b || stays names m holds moved own before o.space o.index) e) ∙ h)

  -- ---- all items ----

  pub func_item : (j : ℕ) → j < length new.funcs → (p : ℕ) × (f : ℕ) × (at : slice_get own p ≡ Some f) × (slice_get new.funcs j ≡ Some (new_func map_of (secondary_func m moved own (own_moves names m holds moved own before can p f at).func)))
  func_item j lt =
      let a = length-map (map (secondary_func m moved own) (defined_at m own)) (new_func map_of) in
      let b = length-map (defined_at m own) (secondary_func m moved own) in
      let c = own_many names m holds moved own before can in
      let f = slice_get_there own j (omega (arith, lt, a, b, c)) in
      (j, f.0, f.1, map_at (new_func map_of) (map (secondary_func m moved own) (defined_at m own)) j _ (map_at (secondary_func m moved own) (defined_at m own) j _ (own_at names m holds moved own before can j f.0 f.1)))

  slot_within : (j : ℕ) → j < length own → slice_index map_of.funcs (length (funcs_of m) + j) < length (funcs_of new)
  slot_within j lt = let entry = own_entry names m holds moved own before can j lt in let all = funcs_many names m holds moved own before can in omega (arith, entry, all, lt)

  pub items_hold : IsValidButForReferences new
  items_hold kind.Import j lt =
      let y = slice_get_there new.imports j lt in
      let x = map_from (new_import map_of) (secondary_imports names m moved own) j y.0 y.1 in
      (y.0, y.1, subst (λ (z : Import). ImportHolds new z.desc) x.2 (desc_holds x.0.desc (imports_hold j x.0 x.1)))
  items_hold kind.Memories j lt = absurd (omega (arith, lt))
  items_hold kind.Func j lt =
      let g = func_item j lt in
      let f = own_moves names m holds moved own before can g.0 g.1 g.2 in
      let inside = func_holds m holds (g.1 - length (imported_funcs m.imports)) f.func f.is in
      (new_func map_of (secondary_func m moved own f.func), g.3, subst (λ n. n < length m.types) (sym (numbers_index (length m.types) f.func.ty inside)) inside)
  items_hold kind.Table j lt = absurd (omega (arith, lt))
  items_hold kind.Memory j lt = absurd (omega (arith, lt))
  items_hold kind.Global j lt = absurd (omega (arith, lt))
  items_hold kind.Export j lt = absurd (omega (arith, lt))
  items_hold kind.Start j lt = absurd (omega (arith, lt))
  items_hold kind.Elem zero lt = (_, refl, slot_typed map_of m new (length own) slot_within, (slot_table_at names m holds moved own before, refl))
  items_hold kind.Elem (suc j) lt = absurd (omega (arith, lt))
  items_hold kind.Segment j lt = absurd (omega (arith, lt))
  items_hold kind.Body j lt =
      let g = func_item j lt in
      let f = own_moves names m holds moved own before can g.0 g.1 g.2 in
      let place = g.1 - length (imported_funcs m.imports) in
      let old = holds kind.Body place (slice_get_within m.funcs place f.func f.is) in
      let both : Some old.0 ≡ Some f.func = sym old.2 ∙ f.is in
      let same : old.0 ≡ f.func = cc in
      let ty : slice_get m.types f.func.ty ≡ Some old.1 = subst (λ (z : Func). slice_get m.types z.ty ≡ Some old.1) same old.3 in
      let typed : WellTyped (body_context m f.func old.1) f.func.body [] old.1.results = subst (λ (z : Func). WellTyped (body_context m z old.1) z.body [] old.1.results) same old.4 in
      let entry : slice_index map_of.types f.func.ty ≡ f.func.ty = numbers_index (length m.types) f.func.ty (slice_get_within m.types f.func.ty old.1 ty) in (
        new_func map_of (secondary_func m moved own f.func),
        old.1,
        g.3,
        ap (slice_get m.types) entry ∙ ty,
        body_typed laws map_of m new (moved ++ own) (secondary_call m moved own) f.func old.1 is_met calls_typed (met_agrees f.func old.1) others (body_met g.0 g.1 g.2) typed,
      )
