-- The code of functions that are loaded is related to theirs in the module alone.
use Rattle.base_lists.proofs.Common.{◌≡◌, ◌∙◌, ap, ap₂, sym, subst, refl, ℕ, zero, suc, ◌+◌, ◌-◌, ◌<◌, ◌&&◌, ◌||◌, List, [], ◌∷◌, ◌++◌, length, not, Option, Some, None, Bool, true, false, nat_eq, arith, true≢false, ⊎_elim, slice_get, slice_index, unwrap_or, pos, nat_lt, list_any, ltb-true}
use Rattle.base_lists.proofs.Common.{slice_get_within, same_Some, left_true, right_true, length-numbers, each_same_self, numbers_index, append_at_left, append_right, Has, and_from, cases_Bool, either_true, left_either, right_either, any_from_place, among_there, there_among, place_is, no_place}
use Rattle.base_lists.proofs.Common.{none_among, the_one, not-true}
use Rattle.base_lists.specs.Members.{is_among}
use Rattle.std.proofs.Common.{eq-eqb}
use Rattle.base_lists.specs.Options.{◌>>=◌}
use Rattle.base_lists.specs.Places.{numbers}
use Rattle.wasm_tree_spec.specs.Prelude.{Operand, Space, Types, Functions, Tables, Memories, Globals, ElementSegments, DataSegments, Instr, Call, Module, ListLayers, all_operands_pass, any_operand_passes, same_space, same_type, same_func_type, imported_funcs, funcs_of, tables_of, memories_of}
use Rattle.wasm_tree_spec.specs.Prelude.{globals_of}
use Rattle.wasm_tree.specs.declared.instr.Instr.{out-Instr}
use Rattle.wasm_tree.specs.declared.module.Func as tree
use Rattle.wasm_tree.proofs.OperandLaws.{passes_both}
use Rattle.wasm_meaning.specs.Prelude.{Inst, Environment}
use Rattle.index_remap.specs.declared.remap.Remap.{Remap}
use Rattle.run_simulation.specs.Prelude.{Pairing, CodeRel, OptRel, AreIndicesRelated, slot_call}
use Rattle.index_remap.specs.Prelude.{EntryNames, has_entry, renumbered_all, ReplacementCodesFit, OtherNamed, OthersNamed, is_opaque_call}
use Rattle.index_remap.proofs.UnreplacedCode.{operands_follow}
use Rattle.split_plan.specs.SegmentReferences.{names_segment}
use Rattle.split_spec.specs.declared.names.SplitNames.{SplitNames}
use Rattle.split_spec.specs.Prelude.{with_calls, is_from_primary, is_named_from_primary, primary_map, HasSlots, secondary_call, secondary_call_by_place, secondary_map, call_by_slot, defined_at, place_among, slot_table, type_index}
use Rattle.split_proof.specs.RenumberedCalls.{renumbered_codes}
use Rattle.split_proof.specs.Premises.{CanMove}
use Rattle.split_proof.proofs.MapEntries.{body_exact}
use Rattle.split_proof.proofs.OperandTests.{Met, all_wanted}
use Rattle.split_proof.proofs.SecondarySpaces.{own_moves}
use Rattle.split_proof.proofs.SharedFunctions.{shared_left}
use Rattle.split_proof.proofs.DescribedSpaces.{Moves}
use Rattle.split_proof.proofs.CallTypes.{call_renumbered, slot_call_renumbered}
use Rattle.split_proof.specs.SplitWorlds.{type_in}
use Rattle.split_proof.specs.Addresses.{defined_address, is_partner, may_stand, moved_addresses, slot_table_address, split_pairing}
use Rattle.split_proof.specs.Loads.{NamesWhatThePrimaryHas}
use Rattle.split_proof.specs.LoadedCode.{InstancesAreRelated, Partnered, loaded_from}
use Rattle.split_proof.specs.SplitLaws.{CanBeSplit}
use Rattle.split_proof.proofs.PlaceholderImports.{moved_few, moved_typed, slot_stays}
use Rattle.split_proof.proofs.RelatedBodies.{is_moved_address, slot_of_address}
use Rattle.split_proof.proofs.IndexEntries.{Laws, holds, old}
use Rattle.split_proof.proofs.ExportsForSecondary.{among_all}
use Rattle.split_proof.proofs.SecondaryInstances.{own_can}

-- Each loaded function has a pair of its address in the module alone and its own address.
pub pair_there : (env : Environment) (m : Module) (own : List ℕ) (from p f : ℕ) → slice_get own p ≡ Some f → Has (loaded_from env m own from) (defined_address env m f, from + p)
pair_there env m [] from p f at = absurd (let k = at in cc)
pair_there env m (g ∷ own) from zero f at =
    let e : from ≡ from + 0 = omega arith in
    let same : g ≡ f = same_Some _ _ at in
    (0, ap₂ (λ x n. Some (defined_address env m x, n)) same e)
pair_there env m (g ∷ own) from (suc p) f at =
    let r = pair_there env m own (suc from) p f at in
    let e : suc from + p ≡ from + suc p = omega arith in
    (suc r.0, r.1 ∙ ap (λ n. Some (defined_address env m f, n)) e)

module _ (laws : Laws) (namespace : ℕ → List ℕ) (names : SplitNames) (m : Module) (moved : List ℕ) (owns : List (List ℕ)) (g : CanBeSplit namespace names m moved owns) (own : List ℕ) (before : ℕ) (slots : HasSlots moved own before) where
  abbrev exact_map : Remap
  exact_map = old laws namespace names m moved owns g

  abbrev can : CanMove m own
  can = own_can m moved own before slots g.can_move

  abbrev first_map : Remap
  first_map = primary_map m moved

  abbrev second_map : Remap
  second_map = secondary_map m moved own

  abbrev pub moves : (p f : ℕ) (at : slice_get own p ≡ Some f) → Moves m f
  moves p f at = own_moves names m (holds laws namespace names m moved owns g) moved own before can p f at

  -- ---- what the bodies name ----

  -- The operand is that of a replaced call, or names an entity that is imported from the primary
  -- module.
  abbrev goes_on : Operand → Bool
  goes_on o = is_opaque_call moved o || is_from_primary moved (defined_at m own) o.space o.index

  abbrev passes : Operand → Bool
  passes o = has_entry exact_map o && (not (names_segment o) && goes_on o)

  same_space_self : (s : Space) → same_space s s ≡ true
  same_space_self s = grind arith

  module _ (n : ℕ) (f : tree.Func) (at : slice_get (defined_at m own) n ≡ Some f) where
    body_goes_on : Met goes_on (λ test. any_operand_passes test f.body)
    body_goes_on o occurs =
        ⊎_elim (λ listed. left_either (is_opaque_call moved o) (is_from_primary moved (defined_at m own) o.space o.index) listed)
        (λ other.
        right_either (is_opaque_call moved o) (is_from_primary moved (defined_at m own) o.space o.index)
        (any_from_place (λ f. any_operand_passes (is_named_from_primary moved o.space o.index) f.body) (defined_at m own) n f at
        (occurs (is_named_from_primary moved o.space o.index) (and_from (same_space o.space o.space) (nat_eq o.index o.index && not (o.called && is_among moved o.index)) (same_space_self o.space)
        (and_from (nat_eq o.index o.index) (not (o.called && is_among moved o.index)) (eq-eqb o.index o.index refl) (ap not other))))))
        (cases_Bool (is_opaque_call moved o))

    body_passes : (place : ℕ) → slice_get m.funcs place ≡ Some f → any_operand_passes names_segment f.body ≡ false → all_operands_pass passes f.body ≡ true
    body_passes place there none =
        passes_both (has_entry exact_map) (λ o. not (names_segment o) && goes_on o) passes (λ o a b. and_from (has_entry exact_map o) (not (names_segment o) && goes_on o) a b) f.body (body_exact laws.entries m g.valid (holds laws namespace names m moved owns g) place f there)
        (passes_both (λ o. not (names_segment o)) goes_on (λ o. not (names_segment o) && goes_on o) (λ o a b. and_from (not (names_segment o)) (goes_on o) a b) f.body
        (all_wanted laws.bodies.inside laws.bodies.any (λ o. not (names_segment o)) f.body (λ o t. ⊎_elim (λ h. absurd (true≢false (sym (t names_segment h) ∙ none))) (λ h. ap not h) (cases_Bool (names_segment o))))
        (all_wanted laws.bodies.inside laws.bodies.any goes_on f.body body_goes_on))

  -- ---- instances ----

  module _ (env : Environment) (i j k : Inst) (a : InstancesAreRelated env m moved i j) (b : NamesWhatThePrimaryHas m moved own j k) (loaded : List (ℕ × ℕ)) where
    abbrev R : Pairing
    R = split_pairing env m moved loaded

    abbrev Both : Space → List ℕ → List ℕ → ℕ → ℕ → Type 0
    Both = AreIndicesRelated (Partnered env m moved)

    below : (xs : ℕ) (x : ℕ) → nat_lt x (length (numbers 0 xs)) ≡ true → x < xs
    below xs x h = let l = ltb-true x (length (numbers 0 xs)) h in let e = length-numbers 0 xs in omega (arith, l, e)

    -- An index of an import from the primary module names a partner.
    entry_names : (space : Space) (x : ℕ) → names_segment (record { space = space; index = x; called = false }) ≡ false → has_entry exact_map (record { space = space; index = x; called = false }) ≡ true → is_from_primary moved (defined_at m own) space x ≡ true → EntryNames R second_map i k space x
    entry_names Types x n h w =
        ap (λ ts. slice_get ts x) (a.first_types ∙ sym b.types) ∙ ap (slice_get k.types) (sym (numbers_index (length m.types) x (below (length m.types) x h)))
    entry_names Functions x n h w =
        let lt = below (length (funcs_of m)) x h in
        subst (λ o. OptRel (Partnered env m moved Functions) (slice_get i.funcs x) o) (sym (b.funcs x lt w)) (a.funcs x lt (shared_left m moved x (among_all m moved own before slots Functions x w)))
    entry_names Tables x n h w =
        let lt = below (length (tables_of m)) x h in subst (λ o. OptRel (Partnered env m moved Tables) (slice_get i.tables x) o) (sym (b.tables x lt w)) (a.tables x lt)
    entry_names Memories x n h w =
        let lt = below (length (memories_of m)) x h in subst (λ o. OptRel (Partnered env m moved Memories) (slice_get i.mems x) o) (sym (b.mems x lt w)) (a.mems x lt)
    entry_names Globals x n h w =
        let lt = below (length (globals_of m)) x h in subst (λ o. OptRel (Partnered env m moved Globals) (slice_get i.globals x) o) (sym (b.globals x lt w)) (a.globals x lt)
    entry_names ElementSegments x n h w = absurd (true≢false n)
    entry_names DataSegments x n h w = absurd (true≢false n)

    named_each : (o : Operand) → passes o ≡ true → OtherNamed R second_map (is_opaque_call moved o) i k o.space o.index
    named_each o h = by (is_opaque_call moved o) refl
      where
        by : (c : Bool) → is_opaque_call moved o ≡ c → OtherNamed R second_map c i k o.space o.index
        by true e =
            let p = among_there moved o.index (right_true o.called (is_among moved o.index) e) in
            (defined_address env m o.index, a.moves p.0 o.index p.1, is_moved_address laws namespace names m moved owns g env p.0 o.index p.1)
        by false e =
            let rest = right_true (has_entry exact_map o) (not (names_segment o) && goes_on o) h in
            entry_names o.space o.index (not-true (names_segment o) (left_true (not (names_segment o)) (goes_on o) rest)) (left_true (has_entry exact_map o) (not (names_segment o) && goes_on o) h)
            (⊎_elim (λ l. absurd (true≢false (sym l ∙ e))) (λ s. s) (either_true (is_opaque_call moved o) (is_from_primary moved (defined_at m own) o.space o.index) (right_true (not (names_segment o)) (goes_on o) rest)))

    body_named : (n p : ℕ) (f : ℕ) (at : slice_get own p ≡ Some f) → slice_get (defined_at m own) n ≡ Some (moves p f at).func → ListLayers (OthersNamed R second_map moved i k) (moves p f at).func.body
    body_named n p f at there =
        let x = moves p f at in
        operands_follow (λ o. passes o ≡ true) (λ o. OtherNamed R second_map (is_opaque_call moved o) i k o.space o.index) named_each x.func.body ((laws.bodies.layers passes x.func.body).0 (body_passes n x.func there (f - length (imported_funcs m.imports)) x.is x.names_none))

    -- ---- what stands in place of calls ----

    slots_there : slice_get k.tables (slice_index second_map.tables (slot_table m)) ≡ Some (slot_table_address env m)
    slots_there = b.slots ∙ a.slots

    type_there : (p f : ℕ) → slice_get moved p ≡ Some f → slice_get k.types (slice_index second_map.types (type_index m f)) ≡ Some (type_in m f)
    type_there p f at =
        let typed = moved_typed namespace names m moved owns g (holds laws namespace names m moved owns g) p f at in
        ap (slice_get k.types) (numbers_index (length m.types) (type_index m f) (slice_get_within m.types (type_index m f) (type_in m f) typed)) ∙ ap (λ ts. slice_get ts (type_index m f)) b.types ∙ typed

    abbrev through : (f slot : ℕ) → List Instr
    through f slot = slot_call (slice_index second_map.types (type_index m f)) (slice_index second_map.tables (slot_table m)) (pos slot)

    through_stands : (f slot : ℕ) → place_among moved f ≡ Some slot → may_stand env m moved loaded k (defined_address env m f) (through f slot) ≡ true
    unfolding out-Instr denote.Hole.Carrier.out
    through_stands f slot e =
        let p = place_is f moved 0 slot e in
        let shift : slot ≡ p.0 = (let z = p.1 in omega (arith, z)) in
        let at : slice_get moved slot ≡ Some f = ap (slice_get moved) shift ∙ p.2 in
        let few = moved_few namespace names m moved owns g (holds laws namespace names m moved owns g) in
        let bound = g.bounded.funcs in
        let within = slice_get_within moved slot f at in
        let self : same_func_type (type_in m f) (type_in m f) ≡ true = simp (each_same_self same_type (λ a. grind arith)) in
        rw (slot_of_address laws namespace names m moved owns g env slot f slot at e, at, type_there slot f at, slots_there, slot_stays slot (omega (arith, few, bound, within)), eq-eqb slot slot refl, self, eq-eqb (slot_table_address env m) (slot_table_address env m) refl) refl

    module _ (from : ℕ) (own_index : (p : ℕ) → p < length own → slice_get k.funcs (slice_index second_map.funcs (length (funcs_of m) + p)) ≡ Some (from + p)) (pairs : (p f : ℕ) → slice_get own p ≡ Some f → Has loaded (defined_address env m f, from + p)) where
      -- A direct call of a function of the secondary module itself.
      abbrev direct : ℕ → List Instr
      direct place = Call (slice_index second_map.funcs (length (funcs_of m) + place)) ∷ []

      direct_stands : (f place : ℕ) → slice_get own place ≡ Some f → may_stand env m moved loaded k (defined_address env m f) (direct place) ≡ true
      unfolding out-Instr denote.Hole.Carrier.out
      direct_stands f place at =
          let pair = pairs place f at in
          let same : nat_eq (defined_address env m f) (defined_address env m f) && nat_eq (from + place) (from + place) ≡ true = and_from _ _ (eq-eqb (defined_address env m f) (defined_address env m f) refl) (eq-eqb (from + place) (from + place) refl) in
          ap (λ o. unwrap_or (o >>= λ c. Some (list_any (λ p. nat_eq p.0 (defined_address env m f) && nat_eq p.1 c) loaded)) false) (own_index place (slice_get_within own place f at))
          ∙ any_from_place (λ p. nat_eq p.0 (defined_address env m f) && nat_eq p.1 (from + place)) loaded pair.0 (defined_address env m f, from + place) pair.1 same

      codes_stand : ReplacementCodesFit R moved (renumbered_codes second_map (secondary_call m moved own)) i k
      codes_stand labels f addr code among has at = by (place_among own f) refl
        where
          there : (p : ℕ) × (slice_get moved p ≡ Some f)
          there = among_there moved f among

          here : addr ≡ defined_address env m f
          here = same_Some addr (defined_address env m f) (sym at ∙ a.moves there.0 f there.1)

          is_code : code ≡ renumbered_all second_map (secondary_call m moved own f)
          is_code = sym (the_one (renumbered_all second_map (secondary_call m moved own f)) code has)

          ends : (c : List Instr) → code ≡ c → may_stand env m moved loaded k (defined_address env m f) c ≡ true → may_stand env m moved loaded k addr code ≡ true
          ends c e h = subst (λ c. may_stand env m moved loaded k addr c ≡ true) (sym e) (subst (λ a. may_stand env m moved loaded k a c ≡ true) (sym here) h)

          slotted : (o : Option ℕ) → place_among moved f ≡ o → place_among own f ≡ None → may_stand env m moved loaded k addr code ≡ true
          slotted (Some slot) e none =
              ends (through f slot) (is_code ∙ ap (λ o. renumbered_all second_map (secondary_call_by_place m moved o f)) none ∙ ap (λ o. renumbered_all second_map (call_by_slot m o f)) e ∙ slot_call_renumbered second_map (type_index m f) (slot_table m) (pos slot)) (through_stands f slot e)
          slotted None e none = absurd (true≢false (sym among ∙ no_place f moved 0 e))

          by : (o : Option ℕ) → place_among own f ≡ o → may_stand env m moved loaded k addr code ≡ true
          by (Some place) e =
              let p = place_is f own 0 place e in
              let shift : place ≡ p.0 = (let z = p.1 in omega (arith, z)) in
              ends (direct place) (is_code ∙ ap (λ o. renumbered_all second_map (secondary_call_by_place m moved o f)) e ∙ call_renumbered second_map (length (funcs_of m) + place)) (direct_stands f place (ap (slice_get own) shift ∙ p.2))
          by None e = slotted (place_among moved f) refl e

      others : (f : ℕ) → is_among moved f ≡ false → secondary_call m moved own f ≡ Call f ∷ []
      others f h = ap (λ o. secondary_call_by_place m moved o f) (none_among f own 0 not_own) ∙ ap (λ o. call_by_slot m o f) (none_among f moved 0 h)
        where
          not_own : is_among own f ≡ false
          not_own = ⊎_elim
              (λ e. let p = among_there own f e in
              absurd (true≢false (sym (there_among moved (length slots.earlier + p.0) f (ap (λ fs. slice_get fs (length slots.earlier + p.0)) slots.all ∙ append_right slots.earlier (own ++ slots.later) p.0 ∙ append_at_left own slots.later p.0 f p.1)) ∙ h)))
              (λ e. e)
              (cases_Bool (is_among own f))

      pub code_related : (n p f : ℕ) (at : slice_get own p ≡ Some f) → slice_get (defined_at m own) n ≡ Some (moves p f at).func → CodeRel R i k (moves p f at).func.body (renumbered_all second_map (with_calls (secondary_call m moved own) (moves p f at).func.body))
      code_related n p f at there =
          let body = (moves p f at).func.body in
          laws.code (is_partner env m moved) (is_partner env m moved) (moved_addresses env m moved) (may_stand env m moved loaded) second_map i k m.types [] moved (renumbered_codes second_map (secondary_call m moved own)) body
          (renumbered_all second_map (with_calls (secondary_call m moved own) body)) codes_stand (body_named n p f at there) (laws.bodies.replaced m.types second_map moved (secondary_call m moved own) others [] body)
