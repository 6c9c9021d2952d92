-- When a split module begins, each slot holds its placeholder.
use Rattle.base_lists.proofs.Common.{◌≡◌, ◌∙◌, ap, ap₂, sym, refl, ℕ, zero, suc, ◌+◌, ◌-◌, ◌<◌, ◌≤◌, List, [], ◌∷◌, ◌++◌, map, length, Option, Some, None, Bool, true, false, cond, arith, append-nil, slice_get, slice_index, nat_lt, flat_map, nat_tests, length-append, length-map, map-append}
use Rattle.base_lists.proofs.Common.{slice_get_within, same_Some, places_many, length-numbers, numbers_at, numbers_index, append_right, map_at, push_last, copies_length}
use Rattle.std.proofs.Common.{eq-eqb}
use Rattle.base_lists.specs.Options.{◌>>=◌}
use Rattle.base_lists.specs.Places.{numbers}
use Rattle.wasm_num.specs.Operations.{wrapped}
use Rattle.wasm_tree_spec.specs.Prelude.{Functions, Tables, ConstExpr, ElemMode, ElemSeg, Module, imported_funcs, funcs_of, tables_of}
use Rattle.wasm_tree.specs.declared.types.RefType.TheVariants.{Func as func_ref}
use Rattle.wasm_tree.specs.declared.module.ConstExpr.TheVariants as const
use Rattle.wasm_tree.specs.declared.module.ElemMode.TheVariants as elem
use Rattle.wasm_meaning.specs.Prelude.{overwrite, split_at, FuncRef, Inst, Ref, RefVal, Table, Val, null_of, ref_of, Environment, Added, LoaderWorld, begun_under, secondary_of, store_under, Begun, all_there, alone, const_value, instantiate, own_count, imports_of}
use Rattle.index_remap.specs.declared.remap.Remap.{Remap}
use Rattle.run_simulation.specs.Prelude.{OptRel, none, some}
use Rattle.index_remap.specs.Prelude.{declared_refs, new_const, new_elem, new_elem_mode}
use Rattle.index_remap_proof.specs.Indices.{ElemModeNamesOnly}
use Rattle.world_simulation.specs.Prelude.{one, new_table, offset_in, IsInst, last_segments}
use Rattle.world_simulation.specs.InstantiatedStores.{all_over, elem_copies, elem_copy, is_address, over, table_left}
use Rattle.world_simulation.specs.DefinedPlaceholders.{stub}
use Rattle.world_simulation.proofs.OneModuleWorlds.{space_at}
use Rattle.split_spec.specs.declared.names.SplitNames.{SplitNames}
use Rattle.split_spec.specs.Prelude.{in_slots, slot_segment, slot_table, slot_table_type}
use Rattle.split_proof.proofs.PrimarySpaces as spaces
use Rattle.wasm_valid.specs.Prelude.{ItemsHold}
use Rattle.split_proof.specs.SplitWorlds.{placeholders_for, secondaries_for}
use Rattle.split_proof.specs.Addresses.{slot_table_address}
use Rattle.split_proof.specs.Loads.{references}
use Rattle.split_proof.specs.SplitLaws.{CanBeSplit}
use Rattle.split_proof.proofs.AddressPartners.{partner_is}
use Rattle.split_proof.proofs.IndexEntries.{Laws, P, Q, elems_are, entries, holds, k, keeps, more_segments, named, own, plain, r, split, stay, stubs_many, types_moved}
use Rattle.split_proof.proofs.InstantiatedSplits.{slots_many}
use Rattle.split_proof.proofs.RelatedBodies.{slots_there}
use Rattle.split_proof.proofs.InitialFunctions.{first_begins, first_inst, second_begins, second_inst}

-- ---- copies ----

over_all : {A : Type 0} (a : ℕ) (cs ds : List _) (xs : List A) → all_over a (cs ++ ds) xs ≡ all_over a cs xs >>= all_over a ds
over_all a [] ds xs = refl
over_all {A} a (c ∷ cs) ds xs = by (over_all a cs ds) (over a c xs)
  where
    by : ((ys : List A) → all_over a (cs ++ ds) ys ≡ all_over a cs ys >>= all_over a ds) → (o : Option (List A)) → (o >>= all_over a (cs ++ ds)) ≡ (o >>= all_over a cs) >>= all_over a ds
    by rest None = refl
    by rest (Some ys) = rest ys

split_whole : {A : Type 0} (n : ℕ) (xs : List A) → length xs ≡ n → split_at n xs ≡ Some (xs, [])
split_whole zero [] e = refl
split_whole zero (x ∷ xs) e = cc
split_whole (suc n) [] e = cc
split_whole (suc n) (x ∷ xs) e = rw (split_whole n xs (omega (arith, e))) refl

overwritten_whole : {A : Type 0} (xs ys : List A) → length xs ≡ length ys → overwrite xs 0 ys ≡ Some ys
overwritten_whole xs ys e = ap (λ o. o >>= λ q. Some ([] ++ (ys ++ q.1))) (split_whole (length ys) xs e) ∙ ap Some (append-nil ys)

-- ---- the secondary module of a slot ----

pub slot_secondary : (namespace : ℕ → List ℕ) (names : SplitNames) (m : Module) (moved : List ℕ) (before : ℕ) (owns : List (List ℕ)) (slot : ℕ) → slot < length (flat_map (λ own. own) owns) →
    (j : ℕ) × (secondary_of (secondaries_for namespace names m moved before owns) slot ≡ Some j) × (slice_get (map (λ s. false) (secondaries_for namespace names m moved before owns)) j ≡ Some false)
slot_secondary namespace names m moved before [] slot lt = absurd (omega (arith, lt))
slot_secondary namespace names m moved before (own ∷ owns) slot lt = by (nat_lt slot (length (placeholders_for namespace m before own))) refl (λ less. slot_secondary namespace names m moved (before + length own) owns (slot - length (placeholders_for namespace m before own)) less)
  where
    by : (c : Bool) → nat_lt slot (length (placeholders_for namespace m before own)) ≡ c →
        (slot - length (placeholders_for namespace m before own) < length (flat_map (λ own. own) owns) → (j : ℕ) × (secondary_of (secondaries_for namespace names m moved (before + length own) owns) (slot - length (placeholders_for namespace m before own)) ≡ Some j) ×
        (slice_get (map (λ s. false) (secondaries_for namespace names m moved (before + length own) owns)) j ≡ Some false)) →
        (j : ℕ) × (secondary_of (secondaries_for namespace names m moved before (own ∷ owns)) slot ≡ Some j) × (slice_get (map (λ s. false) (secondaries_for namespace names m moved before (own ∷ owns))) j ≡ Some false)
    by true e rest = (0, ap (λ c. cond c (Some 0) (secondary_of (secondaries_for namespace names m moved (before + length own) owns) (slot - length (placeholders_for namespace m before own)) >>= λ j. Some (suc j))) e, refl)
    by false e rest =
        let many = slots_many namespace m before own in
        let all = length-append own (flat_map (λ own. own) owns) in
        let high : length (placeholders_for namespace m before own) ≤ slot = grind (arith, nat_tests, e) in
        let r = rest (omega (arith, many, all, high, lt)) in (
          suc r.0,
          ap (λ c. cond c (Some 0) (secondary_of (secondaries_for namespace names m moved (before + length own) owns) (slot - length (placeholders_for namespace m before own)) >>= λ j. Some (suc j))) e ∙ ap (λ o. o >>= λ j. Some (suc j)) r.1,
          r.2,
        )

module _ (laws : Laws) (namespace : ℕ → List ℕ) (names : SplitNames) (m : Module) (moved : List ℕ) (owns : List (List ℕ)) (g : CanBeSplit namespace names m moved owns) (env : Environment) (begun : Begun) (h : instantiate env (alone m) ≡ Some begun) (c : Begun)
    (l : begun_under env (split laws namespace names m moved owns g) ≡ Some c) where
  abbrev valid : ItemsHold m
  valid = holds laws namespace names m moved owns g

  abbrev w : LoaderWorld
  w = split laws namespace names m moved owns g

  abbrev map_of : Remap
  map_of = r laws namespace names m moved owns g

  abbrev imported : ℕ
  imported = k laws namespace names m moved owns g

  abbrev primary : Module
  primary = Q laws namespace names m moved owns g

  abbrev O : ℕ
  O = own_count Functions env

  abbrev T : ℕ
  T = slot_table_address env m

  abbrev pub i : Inst
  i = (first_begins laws namespace names m moved owns g env begun h).made.inst

  abbrev pub j : Inst
  j = (second_begins laws namespace names m moved owns g env c l).made.inst

  pub a : IsInst env (one m) 0 m i
  a = first_inst laws namespace names m moved owns g env begun h

  pub b : IsInst env (one (Q laws namespace names m moved owns g)) 0 (Q laws namespace names m moved owns g) j
  b = second_inst laws namespace names m moved owns g env c l

  abbrev value : ConstExpr → Option Val
  value = const_value (store_under env w).globals j

  abbrev refer : ConstExpr → Option RefVal
  refer item = value item >>= ref_of

  abbrev slots : ElemSeg
  slots = new_elem map_of (slot_segment (slot_table m) 0 (in_slots m (length moved)))

  -- ---- segments of the module are not copied to the slot table ----

  not_slots : {o p : Option ℕ} → OptRel ((P laws namespace names m moved owns g env).of Tables) o p → is_address p T ≡ false
  not_slots none = refl
  not_slots (some {a = x} {b = y} related) =
      let s = partner_is namespace names.export_prefix m valid moved g.can_move env Tables refl x y related in
      let e = s.0 in
      let lt = s.1 in
      grind (arith, nat_tests, e, lt)

  one_copy : (e : ElemSeg) (mode : ElemMode) → ElemModeNamesOnly (stay laws namespace names m moved owns g) mode → (xs : List RefVal) → over T (elem_copy value j e (new_elem_mode map_of mode)) xs ≡ Some xs
  one_copy e (elem.Active x d) only xs =
      ap (λ c. cond c (offset_in value (new_const map_of d) >>= λ n. all_there refer e.items >>= λ ys. overwrite xs n ys) (Some xs)) (not_slots (entries laws namespace names m moved owns g env i j a b Tables x only.0))
  one_copy e elem.Passive only xs = refl
  one_copy e elem.Declarative only xs = refl

  first_copies : (es : List ElemSeg) → ((n : ℕ) (e : ElemSeg) → slice_get es n ≡ Some e → ElemModeNamesOnly (stay laws namespace names m moved owns g) e.mode) → (xs : List RefVal) → all_over T (elem_copies value j (map (new_elem map_of) es)) xs ≡ Some xs
  first_copies [] only xs = refl
  first_copies (e ∷ es) only xs =
      ap (λ o. o >>= all_over T (elem_copies value j (map (new_elem map_of) es))) (one_copy (new_elem map_of e) e.mode (only 0 e refl) xs) ∙ first_copies es (λ n. only (suc n)) xs

  last_copies : (fs : List ℕ) (xs : List RefVal) → all_over T (elem_copies value j (last_segments fs)) xs ≡ Some xs
  last_copies [] xs = refl
  last_copies (f ∷ fs) xs = refl

  -- ---- that of the slots is ----

  slot_named : (n : ℕ) → n < length moved → refer (const.Func (slice_index map_of.funcs (length (funcs_of m) + n))) ≡ Some (FuncRef (Some (O + n)))
  slot_named n lt =
      let entry = spaces.placeholder_entry namespace names.export_prefix m valid moved g.can_move n lt in
      let s = space_at (P laws namespace names m moved owns g env) env (own laws namespace names m moved owns g env) primary Functions j.funcs b.funcs in
      let many = s.many in
      let counted : length (imports_of Functions m) ≡ length (imported_funcs m.imports) = places_many _ _ m.imports (grind arith) 0 in
      let index : imported + n ≡ length s.imported + n = omega (arith, many, counted) in
      let size = stubs_many laws namespace names m moved owns g in
      let all = length-append (map stub (types_moved laws namespace names m moved owns g)) w.primary.funcs in
      let there : slice_get j.funcs (imported + n) ≡ Some (O + n) =
      ap (λ l. slice_get l (imported + n)) s.all ∙ ap (slice_get (s.imported ++ numbers O (length primary.funcs))) index ∙ append_right s.imported (numbers O (length primary.funcs)) n ∙ numbers_at O (length primary.funcs) n (omega (arith, lt, size, all)) in
      ap (λ y. refer (const.Func y)) entry ∙ ap (λ (o : Option ℕ). (o >>= λ a. Some (Ref (FuncRef (Some a)))) >>= ref_of) there

  referred : (from to count : ℕ) → ((n : ℕ) → n < count → refer (const.Func (slice_index map_of.funcs (from + n))) ≡ Some (FuncRef (Some (to + n)))) →
      all_there refer (map (new_const map_of) (map const.Func (numbers from count))) ≡ Some (references to count)
  referred from to zero each = refl
  referred from to (suc count) each =
      let z : from + 0 ≡ from = omega arith in
      let y : to + 0 ≡ to = omega arith in
      let first = ap (λ n. refer (const.Func (slice_index map_of.funcs n))) (sym z) ∙ each 0 (omega arith) ∙ ap (λ n. Some (FuncRef (Some n))) y in
      let rest = referred (suc from) (suc to) count (λ n lt.
      let p : suc from + n ≡ from + suc n = omega arith in
      let q : to + suc n ≡ suc to + n = omega arith in
      ap (λ n. refer (const.Func (slice_index map_of.funcs n))) p ∙ each (suc n) (omega (arith, lt)) ∙ ap (λ n. Some (FuncRef (Some n))) q) in
      ap₂ (λ o p. o >>= λ y. p >>= λ ys. Some (y ∷ ys)) first rest

  references_many : (to count : ℕ) → length (references to count) ≡ count
  references_many to count = length-map (numbers to count) (λ a. FuncRef (Some a)) ∙ length-numbers to count

  slots_copied : (xs : List RefVal) → length xs ≡ length moved → over T (elem_copy value j slots slots.mode) xs ≡ Some (references O (length moved))
  unfolding wrapped
  slots_copied xs size =
      let entry : slice_index map_of.tables (slot_table m) ≡ slot_table m = numbers_index (suc (length (tables_of m))) (slot_table m) (omega arith) in
      let table : slice_get j.tables (slice_index map_of.tables (slot_table m)) ≡ Some T = ap (slice_get j.tables) entry ∙ slots_there laws namespace names m moved owns g env i j a b [] in
      let items = referred (length (funcs_of m)) O (length moved) slot_named in
      rw (table, eq-eqb T T refl, items) (overwritten_whole xs (references O (length moved)) (size ∙ sym (references_many O (length moved))))

  all_copied : (xs : List RefVal) → length xs ≡ length moved → all_over T (elem_copies value j w.primary.elems) xs ≡ Some (references O (length moved))
  all_copied xs size =
      let firsts = map (new_elem map_of) m.elems in
      let more = more_segments laws namespace names m moved owns g in
      let outside_named = named laws namespace names m moved owns g in
      ap (λ es. all_over T (elem_copies value j es) xs) (elems_are laws namespace names m moved owns g) ∙ ap (λ cs. all_over T cs xs) (map-append (λ e. elem_copy value j e e.mode) firsts more)
      ∙ over_all T (elem_copies value j firsts) (elem_copies value j more) xs ∙ ap (λ o. o >>= all_over T (elem_copies value j more)) (first_copies m.elems outside_named.elem_modes xs)
      ∙ ap (λ o. o >>= all_over T (elem_copies value j (last_segments (declared_refs (plain laws namespace names m moved owns g))))) (slots_copied xs size)
      ∙ last_copies (declared_refs (plain laws namespace names m moved owns g)) (references O (length moved))

  -- ---- so the slot table is there, and refers to the placeholders ----

  pub table_there : c.trapped ≡ false → (table : Table) × (slice_get c.store.tables T ≡ Some table) × (table.slots ≡ references O (length moved))
  table_there good =
      let left = laws.leaves env w c l good in
      let made : left.0.inst ≡ j = ap (λ (x : Added). x.inst) (same_Some _ _ (sym left.1 ∙ (second_begins laws namespace names m moved owns g env c l).is_made)) in
      let at : slice_get w.primary.tables (length m.tables) ≡ Some (slot_table_type (length moved)) = ap (λ ts. slice_get ts (length m.tables)) (keeps laws namespace names m moved owns g).tables ∙ push_last m.tables (slot_table_type (length moved)) in
      let x = left.2.tables (length m.tables) (slot_table_type (length moved)) at in
      let new = new_table (slot_table_type (length moved)) in
      let copied = ap (λ i. table_left new (all_over T (elem_copies (const_value (store_under env w).globals i) i w.primary.elems) new.slots)) made ∙ ap (table_left new) (all_copied new.slots (copies_length (length moved) (null_of func_ref))) in
      let is = same_Some _ _ (sym copied ∙ x.1) in
      (x.0, x.2, ap (λ (t : Table). t.slots) (sym is))

  pub slot_refers : (table : Table) → table.slots ≡ references O (length moved) → (slot func : ℕ) → slice_get moved slot ≡ Some func → slice_get table.slots slot ≡ Some (FuncRef (Some (O + slot)))
  slot_refers table are slot func at =
      let within = slice_get_within moved slot func at in
      ap (λ rs. slice_get rs slot) are ∙ map_at (λ a. FuncRef (Some a)) (numbers O (length moved)) slot (O + slot) (numbers_at O (length moved) slot within)
