-- The code of functions that stay in the primary module is related to their code in the module,
-- where calls of moved functions are replaced by calls through their slots.
use Rattle.base_lists.proofs.Common.{◌≡◌, ◌∙◌, ap, sym, subst, refl, ℕ, suc, ◌+◌, ◌-◌, ◌<◌, ◌≤◌, ◌&&◌, ◌||◌, List, [], ◌∷◌, ◌++◌, map, length, not, Option, Some, None, Bool, true, false, cond, nat_eq, arith, true≢false, ⊎_elim, slice_get, slice_index, pos, nat_le, nat_lt, cons_option, leb-true}
use Rattle.base_lists.proofs.Common.{length-append, slice_get_within, same_Some, left_true, right_true, same_tests, each_same_self, every_at, places_many, numbers_at, numbers_index, append_right, and_from, cases_Bool, either_true, left_either, right_either, same_number, among_right, among_joined}
use Rattle.base_lists.proofs.Common.{among_there, there_among, place_is, no_place, none_among, the_one}
use Rattle.base_lists.specs.Members.{is_among}
use Rattle.base_lists.proofs.Members.{among_map}
use Rattle.std.proofs.Common.{eq-eqb}
use Rattle.base_lists.specs.Places.{first_place, numbers}
use Rattle.wasm_tree_spec.specs.Prelude.{Operand, Space, Types, Functions, Tables, Memories, Globals, ElementSegments, DataSegments, Instr, Call, Module, ListLayers, all_operands_pass, any_operand_passes, same_space, same_type, same_func_type, funcs_of, tables_of, imported_tables}
use Rattle.wasm_tree.specs.declared.instr.Instr.{out-Instr}
use Rattle.wasm_tree.specs.declared.module.Func as tree
use Rattle.wasm_tree.proofs.OperandLaws.{passes_both}
use Rattle.wasm_valid.specs.Prelude.{refs_of, ItemsHold}
use Rattle.wasm_meaning.specs.Prelude.{Inst, Environment, own_count, imports_of}
use Rattle.index_remap.specs.declared.remap.Remap.{Remap}
use Rattle.index_remap_proof.specs.Indices.{Indices}
use Rattle.run_simulation.specs.Prelude.{Pairing, CodeRel, slot_call}
use Rattle.index_remap.specs.Prelude.{body_refs, refs_all, has_entry, new_func, renumbered_all, ReplacementCodesFit, OtherNamed, OthersNamed, is_opaque_call}
use Rattle.index_remap.proofs.UnreplacedCode.{operands_follow}
use Rattle.world_simulation.specs.Prelude.{one, FuncsAt, EntriesName, IsInst}
use Rattle.world_simulation.specs.CorrespondingDefinitions.{alike, set_apart}
use Rattle.world_simulation.proofs.OneModuleWorlds.{space_at}
use Rattle.split_plan.specs.PlannedMoves.{body_uses_segment}
use Rattle.split_plan.specs.NamedFunctions.{is_defined}
use Rattle.split_spec.specs.declared.names.SplitNames.{SplitNames}
use Rattle.split_spec.specs.Prelude.{with_calls, is_named_from_primary, is_needed, primary_func, call_by_slot, call_through_slot, place_among, slot_table, slot_table_type, type_index}
use Rattle.split_proof.specs.RenumberedCalls.{renumbered_codes}
use Rattle.split_proof.proofs.MapEntries.{body_exact}
use Rattle.split_proof.proofs.OperandTests.{Met, all_wanted}
use Rattle.split_proof.proofs.PrimarySpaces as spaces
use Rattle.split_proof.proofs.SharedFunctions.{ref_named}
use Rattle.split_proof.proofs.DescribedSpaces.{func_holds}
use Rattle.split_proof.proofs.CallTypes.{slot_call_renumbered}
use Rattle.split_proof.specs.SplitWorlds.{type_in}
use Rattle.split_proof.specs.Addresses.{defined_address, is_partner, may_stand, moved_addresses, slot_table_address, split_pairing}
use Rattle.split_proof.specs.SplitLaws.{CanBeSplit}
use Rattle.split_proof.proofs.PlaceholderImports.{moved_few, moved_typed, slot_stays}
use Rattle.split_proof.proofs.IndexEntries.{Laws, O, P, Q, defined_there, entries, holds, k, old, own, r, stay, tables_are, types_are}

-- The place of an element is the same after an injective function is applied to the list.
place_mapped : (f : ℕ → ℕ) (x : ℕ) (xs : List ℕ) (from : ℕ) → ((p y : ℕ) → slice_get xs p ≡ Some y → f x ≡ f y → x ≡ y) → first_place (nat_eq (f x)) (map f xs) from ≡ first_place (nat_eq x) xs from
place_mapped f x [] from apart = refl
place_mapped f x (y ∷ xs) from apart =
    ap (λ b. cond b (Some from) (first_place (nat_eq (f x)) (map f xs) (suc from))) (same_tests (nat_eq (f x) (f y)) (nat_eq x y) (λ e. eq-eqb x y (apart 0 y refl (same_number (f x) (f y) e))) (λ e. eq-eqb (f x) (f y) (ap f (same_number x y e))))
    ∙ ap (cond (nat_eq x y) (Some from)) (place_mapped f x xs (suc from) (λ p. apart (suc p)))

module _ (laws : Laws) (namespace : ℕ → List ℕ) (names : SplitNames) (m : Module) (moved : List ℕ) (owns : List (List ℕ)) (g : CanBeSplit namespace names m moved owns) where
  abbrev valid : ItemsHold m
  valid = holds laws namespace names m moved owns g

  abbrev imported : ℕ
  imported = k laws namespace names m moved owns g

  abbrev exact_map : Remap
  exact_map = old laws namespace names m moved owns g

  abbrev map_of : Remap
  map_of = r laws namespace names m moved owns g

  -- ---- what bodies name ----

  abbrev stays_in : Space → ℕ → Bool
  stays_in = spaces.stays namespace names.export_prefix m valid moved g.can_move

  -- The operand is that of a replaced call, or its index stays.
  abbrev goes_on : Operand → Bool
  goes_on o = is_opaque_call moved o || stays_in o.space o.index

  body_goes_on : (p : ℕ) (f : tree.Func) → slice_get m.funcs p ≡ Some f → Met goes_on (λ test. any_operand_passes test f.body)
  body_goes_on p f at o occurs = by o.space refl
    where
      needed : o.space ≡ Functions → is_among moved o.index ≡ true → o.called ≡ false → is_needed m o.index ≡ true
      needed e among other =
          let here : same_space o.space Functions ≡ true = ap (λ s. same_space s Functions) e in
          let passes = and_from (same_space o.space Functions) (nat_eq o.index o.index && not (o.called && is_among moved o.index)) here (and_from (nat_eq o.index o.index) (not (o.called && is_among moved o.index)) (eq-eqb o.index o.index refl) (ap (λ c. not (c && is_among moved o.index)) other)) in
          let there = ref_named moved o.index among f.body (occurs (is_named_from_primary moved Functions o.index) passes) in
          among_right (refs_of m) (cons_option m.start [] ++ body_refs m.funcs) o.index (among_right (cons_option m.start []) (body_refs m.funcs) o.index (among_joined (λ f. refs_all f.body) m.funcs p f o.index at there))

      by : (s : Space) → o.space ≡ s → (is_opaque_call moved o || stays_in s o.index) ≡ true
      by Types e = right_either (is_opaque_call moved o) true refl
      by Functions e = ⊎_elim
          (λ among. ⊎_elim
          (λ called. left_either (is_opaque_call moved o) (stays_in Functions o.index) (and_from o.called (is_among moved o.index) called among))
          (λ other. right_either (is_opaque_call moved o) (stays_in Functions o.index) (right_either (not (is_among moved o.index)) (is_needed m o.index) (needed e among other)))
          (cases_Bool o.called))
          (λ none. right_either (is_opaque_call moved o) (stays_in Functions o.index) (left_either (not (is_among moved o.index)) (is_needed m o.index) (ap not none)))
          (cases_Bool (is_among moved o.index))
      by Tables e = right_either (is_opaque_call moved o) true refl
      by Memories e = right_either (is_opaque_call moved o) true refl
      by Globals e = right_either (is_opaque_call moved o) true refl
      by ElementSegments e = right_either (is_opaque_call moved o) true refl
      by DataSegments e = right_either (is_opaque_call moved o) true refl

  abbrev passes : Operand → Bool
  passes o = has_entry exact_map o && goes_on o

  body_passes : (p : ℕ) (f : tree.Func) → slice_get m.funcs p ≡ Some f → all_operands_pass passes f.body ≡ true
  body_passes p f at =
      passes_both (has_entry exact_map) goes_on passes (λ o a b. and_from (has_entry exact_map o) (goes_on o) a b) f.body (body_exact laws.entries m g.valid valid p f at)
      (all_wanted laws.bodies.inside laws.bodies.any goes_on f.body (body_goes_on p f at))

  -- ---- functions that move ----

  -- A moved function is defined.
  pub moved_defined : (p f : ℕ) → slice_get moved p ≡ Some f → (imported ≤ f) × (f - imported < length m.funcs)
  moved_defined p f at =
      let c = every_at (λ func. (is_defined m func ≡ true) × (body_uses_segment m func ≡ false)) moved p f g.can_move at in
      let from = leb-true imported f (left_true (nat_le imported f) (nat_lt f (length (funcs_of m))) c.0) in
      let h = spaces.moved_moves namespace names.export_prefix m valid moved g.can_move p f at in
      let within = slice_get_within m.funcs (f - imported) h.func h.is in
      (from, within)

  module _ (env : Environment) where
    abbrev at_address : ℕ → ℕ
    at_address = defined_address env m

    -- No two moved functions have the same address.
    pub addresses_apart : (p q x y : ℕ) → slice_get moved p ≡ Some x → slice_get moved q ≡ Some y → at_address x ≡ at_address y → x ≡ y
    addresses_apart p q x y a b e = let l = (moved_defined p x a).0 in let n = (moved_defined q y b).0 in omega (arith, l, n, e)

    -- The place of the address of a moved function is its slot.
    pub slot_of_address : (p f slot : ℕ) → slice_get moved p ≡ Some f → place_among moved f ≡ Some slot → place_among (moved_addresses env m moved) (at_address f) ≡ Some slot
    slot_of_address p f slot at e = place_mapped at_address f moved 0 (λ q y there same. addresses_apart p q f y at there same) ∙ e

    pub is_moved_address : (p f : ℕ) → slice_get moved p ≡ Some f → is_among (moved_addresses env m moved) (at_address f) ≡ true
    is_moved_address p f at = among_map at_address moved f (there_among moved p f at)

    module _ (i j : Inst) (a : IsInst env (one m) 0 m i) (b : IsInst env (one (Q laws namespace names m moved owns g)) 0 (Q laws namespace names m moved owns g) j) (loaded : List (ℕ × ℕ)) where
      abbrev R : Pairing
      R = split_pairing env m moved loaded

      abbrev no_list : Pairing
      no_list = P laws namespace names m moved owns g env

      pub moved_there : (p f : ℕ) → slice_get moved p ≡ Some f → slice_get i.funcs f ≡ Some (at_address f)
      moved_there p f at =
          let d = moved_defined p f at in
          let le = d.0 in
          let e : imported + (f - imported) ≡ f = omega (arith, le) in
          ap (slice_get i.funcs) (sym e) ∙ defined_there laws namespace names m moved owns g env i j a b (f - imported) d.1

      abbrev kept : Indices
      kept = stay laws namespace names m moved owns g

      -- The entries name partners of the entities that the indices name, whatever functions are
      -- opaque.
      pub entries_named : EntriesName R map_of kept i j
      entries_named Types x h = entries laws namespace names m moved owns g env i j a b Types x h
      entries_named Functions x h = entries laws namespace names m moved owns g env i j a b Functions x h
      entries_named Tables x h = entries laws namespace names m moved owns g env i j a b Tables x h
      entries_named Memories x h = entries laws namespace names m moved owns g env i j a b Memories x h
      entries_named Globals x h = entries laws namespace names m moved owns g env i j a b Globals x h
      entries_named ElementSegments x h = entries laws namespace names m moved owns g env i j a b ElementSegments x h
      entries_named DataSegments x h = entries laws namespace names m moved owns g env i j a b DataSegments x h

      named_each : (o : Operand) → passes o ≡ true → OtherNamed R map_of (is_opaque_call moved o) i j o.space o.index
      named_each o h = by (is_opaque_call moved o) refl
        where
          by : (c : Bool) → is_opaque_call moved o ≡ c → OtherNamed R map_of c i j o.space o.index
          by true e =
              let p = among_there moved o.index (right_true o.called (is_among moved o.index) e) in
              (at_address o.index, moved_there p.0 o.index p.1, is_moved_address p.0 o.index p.1)
          by false e =
              entries_named o.space o.index (and_from (has_entry exact_map o) (stays_in o.space o.index) (left_true (has_entry exact_map o) (goes_on o) h)
              (⊎_elim (λ l. absurd (true≢false (sym l ∙ e))) (λ s. s) (either_true (is_opaque_call moved o) (stays_in o.space o.index) (right_true (has_entry exact_map o) (goes_on o) h))))

      body_named : (p : ℕ) (f : tree.Func) → slice_get m.funcs p ≡ Some f → ListLayers (OthersNamed R map_of moved i j) f.body
      body_named p f at = operands_follow (λ o. passes o ≡ true) (λ o. OtherNamed R map_of (is_opaque_call moved o) i j o.space o.index) named_each f.body ((laws.bodies.layers passes f.body).0 (body_passes p f at))

      -- ---- what stands in place of calls ----

      -- The instance of the primary module has the address of the slot table.
      pub slots_there : slice_get j.tables (slot_table m) ≡ Some (slot_table_address env m)
      slots_there =
          let own_there = own laws namespace names m moved owns g env in
          let s = space_at no_list env own_there (Q laws namespace names m moved owns g) Tables j.tables b.tables in
          let many = s.many in
          let counted : length (imports_of Tables m) ≡ length (imported_tables m.imports) = places_many _ _ m.imports (grind arith) 0 in
          let all = length-append (imported_tables m.imports) m.tables in
          let index : slot_table m ≡ length s.imported + length m.tables = omega (arith, many, counted, all) in
          let tables = tables_are laws namespace names m moved owns g in
          let more = length-append m.tables (slot_table_type (length moved) ∷ []) in
          let size = ap length tables in
          let count = length (Q laws namespace names m moved owns g).tables in
          ap (λ l. slice_get l (slot_table m)) s.all ∙ ap (slice_get (s.imported ++ numbers (own_count Tables env) count)) index ∙ append_right s.imported (numbers (own_count Tables env) count) (length m.tables) ∙ numbers_at (own_count Tables env) count (length m.tables) (omega (arith, size, more))

      pub type_there : (p f : ℕ) → slice_get moved p ≡ Some f → slice_get j.types (slice_index map_of.types (type_index m f)) ≡ Some (type_in m f)
      type_there p f at =
          let typed = moved_typed namespace names m moved owns g valid p f at in
          ap (slice_get j.types) (numbers_index (length m.types) (type_index m f) (slice_get_within m.types (type_index m f) (type_in m f) typed)) ∙ ap (λ ts. slice_get ts (type_index m f)) (b.types ∙ types_are laws namespace names m moved owns g) ∙ typed

      -- The call through a slot, with the indices of the primary module.
      abbrev through : (f slot : ℕ) → List Instr
      through f slot = slot_call (slice_index map_of.types (type_index m f)) (slice_index map_of.tables (slot_table m)) (pos slot)

      through_stands : (f slot : ℕ) → place_among moved f ≡ Some slot → may_stand env m moved loaded j (at_address f) (through f slot) ≡ true
      unfolding out-Instr denote.Hole.Carrier.out
      through_stands f slot e =
          let p = place_is f moved 0 slot e in
          let shift : slot ≡ p.0 = (let z = p.1 in omega (arith, z)) in
          let at : slice_get moved slot ≡ Some f = ap (slice_get moved) shift ∙ p.2 in
          let few = moved_few namespace names m moved owns g valid in
          let bound = g.bounded.funcs in
          let within = slice_get_within moved slot f at in
          let table : slice_index map_of.tables (slot_table m) ≡ slot_table m = numbers_index (suc (length (tables_of m))) (slot_table m) (omega arith) in
          let self : same_func_type (type_in m f) (type_in m f) ≡ true = simp (each_same_self same_type (λ a. grind arith)) in
          rw (slot_of_address slot f slot at e, at, type_there slot f at, table, slots_there, slot_stays slot (omega (arith, few, bound, within)), eq-eqb slot slot refl, self, eq-eqb (slot_table_address env m) (slot_table_address env m) refl) refl

      codes_stand : ReplacementCodesFit R moved (renumbered_codes map_of (call_through_slot m moved)) i j
      codes_stand labels f addr code among has at = by (place_among moved f) refl
        where
          here : (slot : ℕ) → place_among moved f ≡ Some slot → addr ≡ at_address f
          here slot e = let p = place_is f moved 0 slot e in same_Some addr (at_address f) (sym at ∙ moved_there p.0 f p.2)

          by : (o : Option ℕ) → place_among moved f ≡ o → may_stand env m moved loaded j addr code ≡ true
          by (Some slot) e =
              let is : code ≡ through f slot = sym (the_one (renumbered_all map_of (call_through_slot m moved f)) code has) ∙ ap (λ o. renumbered_all map_of (call_by_slot m o f)) e ∙ slot_call_renumbered map_of (type_index m f) (slot_table m) (pos slot) in
              subst (λ c. may_stand env m moved loaded j addr c ≡ true) (sym is) (subst (λ a. may_stand env m moved loaded j a (through f slot) ≡ true) (sym (here slot e)) (through_stands f slot e))
          by None e = absurd (true≢false (sym among ∙ no_place f moved 0 e))

      others : (f : ℕ) → is_among moved f ≡ false → call_through_slot m moved f ≡ Call f ∷ []
      others f h = ap (λ o. call_by_slot m o f) (none_among f moved 0 h)

      code_related : (p : ℕ) (f : tree.Func) → slice_get m.funcs p ≡ Some f → CodeRel R i j f.body (renumbered_all map_of (with_calls (call_through_slot m moved) f.body))
      code_related p f at =
          laws.code (is_partner env m moved) (is_partner env m moved) (moved_addresses env m moved) (may_stand env m moved loaded) map_of i j m.types [] moved (renumbered_codes map_of (call_through_slot m moved)) f.body
          (renumbered_all map_of (with_calls (call_through_slot m moved) f.body)) codes_stand (body_named p f at) (laws.bodies.replaced m.types map_of moved (call_through_slot m moved) others [] f.body)

      -- ---- functions that stay ----

      type_kept : (p : ℕ) (f : tree.Func) → slice_get m.funcs p ≡ Some f → slice_get i.types f.ty ≡ slice_get j.types (slice_index map_of.types f.ty)
      type_kept p f at =
          ap (λ ts. slice_get ts f.ty) (a.types ∙ sym (types_are laws namespace names m moved owns g) ∙ sym b.types) ∙ ap (slice_get j.types) (sym (numbers_index (length m.types) f.ty (func_holds m valid p f at)))

      -- A function that stays has related code, and a trampoline has the type of its function.
      pub func_at : (n : ℕ) (f : tree.Func) → slice_get m.funcs n ≡ Some f → FuncsAt R (O laws namespace names m moved owns g env + n) i j f (new_func map_of (primary_func m moved (place_among moved (imported + n)) (imported + n) f))
      func_at n f at = by (place_among moved (imported + n)) refl
        where
          by : (o : Option ℕ) → place_among moved (imported + n) ≡ o → FuncsAt R (O laws namespace names m moved owns g env + n) i j f (new_func map_of (primary_func m moved o (imported + n) f))
          by None e = alike (record { type = type_kept n f at; locals = refl; code = code_related n f at })
          by (Some slot) e =
              let p = place_is (imported + n) moved 0 slot e in
              let here : at_address (imported + n) ≡ O laws namespace names m moved owns g env + n = omega arith in
              set_apart (subst (λ a. is_among (moved_addresses env m moved) a ≡ true) here (is_moved_address p.0 (imported + n) p.2)) (type_kept n f at)
