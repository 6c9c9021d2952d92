-- A secondary module links and does not trap in each store in which the instance of the primary
-- module is well typed; and the store after its instantiation.
use Rattle.base_lists.proofs.Common.{◌≡◌, ◌∙◌, ap, sym, refl, ℕ, zero, suc, ◌+◌, ◌^◌, ◌<◌, ◌≤◌, List, [], ◌∷◌, ◌++◌, map, length, Option, Some, None, Bool, true, false, cond, nat_eq, slice_get, slice_index, arith, pos, nat_le, nat_lt, eqb-true, and_parts, leb-true, ltb-true, length-append}
use Rattle.base_lists.proofs.Common.{length-map, slice_get_within, same_Some, length-numbers, numbers_index, and_then_is, all_there_from, append_at_left, append_right, map_at, slice_get_there, overwrite_fits}
use Rattle.std.proofs.Common.{eq-eqb}
use Rattle.base_lists.specs.Options.{◌>>=◌, all_there}
use Rattle.base_lists.specs.Places.{numbers}
use Rattle.wasm_num.specs.Operations.{W32, wrapped}
use Rattle.wasm_tree_spec.specs.Prelude.{TableType, ConstExpr, ElemSeg, DataSeg, Module, same_ref, funcs_of}
use Rattle.wasm_tree.specs.declared.module.ConstExpr.TheVariants as const
use Rattle.wasm_tree.specs.declared.module.ElemMode.TheVariants as elem
use Rattle.wasm_tree.specs.declared.module.ImportDesc.TheVariants as im
use Rattle.wasm_valid_bodies.specs.Typing.{only}
use Rattle.wasm_valid.specs.declared.kinds.ItemKind.TheVariants as kind
use Rattle.wasm_meaning.specs.Prelude.{overwrite, RefVal, FuncRef, Val, Inst, Func, Code, Table, Memory, Global, Elem, Store, SetTable, DropElem, declared, ref_of, num_of, changed, ExternalValue, TableAt, Filled, PlacedSegment, new_elem, global_with, elem_with, store_with, const_value}
use Rattle.wasm_meaning.specs.Prelude.{joined_stores, is_match, meets, meets_most, segments_in, run_elem_with, run_data_with, one_by_one, and_then, Added, added, all_match, own_segments, if_no_start}
use Rattle.wasm_meaning.specs.Sequential.{added_with}
use Rattle.wasm_meaning.specs.World as world
use Rattle.index_remap.specs.declared.remap.Remap.{Remap}
use Rattle.index_remap.specs.Prelude.{declared_refs, declaring, new_const, new_func}
use Rattle.index_remap.specs.Renumbered as renumbered
use Rattle.world_simulation.specs.Prelude.{IsWithDeclared, last_segments, added_store}
use Rattle.world_simulation.specs.InstantiatedStores.{Leaves, AddedModulesLeave, contents, over, all_over, elem_copies, data_copies, table_left, memory_left}
use Rattle.world_simulation.specs.TypedInstances.{IsTyped}
use Rattle.split_spec.specs.declared.names.SplitNames.{SplitNames}
use Rattle.split_spec.specs.Prelude.{defined_at, in_slots, slot_segment, slot_table, slot_table_type, primary_map, primary_with, HasSlots, secondary_func, secondary_map, secondary_with}
use Rattle.split_proof.specs.Premises.{CanMove}
use Rattle.split_proof.proofs.DescribedSpaces.{func_holds}
use Rattle.wasm_valid.specs.Prelude.{ItemsHold}
use Rattle.split_proof.specs.Loads.{IsLoaded, Loads, references}
use Rattle.split_proof.proofs.MatchingImports.{first, slots_offered, imports_supplied}
use Rattle.split_proof.proofs.PlaceholderImports.{slot_stays}
use Rattle.split_proof.proofs.SecondaryInstances as named
use Rattle.split_proof.proofs.SecondaryInstances.{loads, keeps, given}

-- ---- references ----

module _ (globals : List Global) (j : Inst) where
  abbrev value : ConstExpr → Option Val
  value = const_value globals j

  abbrev refer : ConstExpr → Option RefVal
  refer x = value x >>= ref_of

  refer_func : (f a : ℕ) → slice_get j.funcs f ≡ Some a → refer (const.Func f) ≡ Some (FuncRef (Some a))
  refer_func f a h = rw h refl

  -- The references of a segment to functions with consecutive addresses.
  in_a_row : (map_of : Remap) (from to count : ℕ) → ((p : ℕ) → p < count → slice_get j.funcs (slice_index map_of.funcs (from + p)) ≡ Some (to + p)) → all_there refer (map (new_const map_of) (map const.Func (numbers from count))) ≡ Some (references to count)
  in_a_row map_of from to zero h = refl
  in_a_row map_of from to (suc count) h =
      let e : from + 0 ≡ from = omega arith in
      let f : to + 0 ≡ to = omega arith in
      let here : slice_get j.funcs (slice_index map_of.funcs from) ≡ Some to = ap (λ n. slice_get j.funcs (slice_index map_of.funcs n)) (sym e) ∙ h 0 (omega arith) ∙ ap Some f in
      let rest = in_a_row map_of (suc from) (suc to) count (λ p lt. let g : suc from + p ≡ from + suc p = omega arith in let k : to + suc p ≡ suc to + p = omega arith in
      ap (λ n. slice_get j.funcs (slice_index map_of.funcs n)) g ∙ h (suc p) (omega (arith, lt)) ∙ ap Some k) in
      rw (refer_func (slice_index map_of.funcs from) to here, rest) refl

  -- A segment of references to functions of the instance has values.
  there : (fs : List ℕ) → ((n f : ℕ) → slice_get fs n ≡ Some f → f < length j.funcs) → (xs : List RefVal) × (all_there refer (map const.Func fs) ≡ Some xs)
  there [] h = ([], refl)
  there (f ∷ fs) h =
      let a = slice_get_there j.funcs f (h zero f refl) in
      let rest = there fs (λ n. h (suc n)) in
      (FuncRef (Some a.0) ∷ rest.0, rw (refer_func f a.0 a.1, rest.1) refl)

  last_there : (fs : List ℕ) → ((n f : ℕ) → slice_get fs n ≡ Some f → f < length j.funcs) → (es : List Elem) × (all_there (elem_with value) (last_segments fs) ≡ Some es)
  last_there [] h = ([], refl)
  last_there (f ∷ fs) h = let r = there (f ∷ fs) h in (new_elem elem.Declarative r.0 ∷ [], rw r.1 refl)

  -- The segment that declares references leaves the store unchanged.
  last_quiet : (fs ns : List ℕ) (s : Store) → one_by_one (λ s task. run_elem_with value s task task.segment.mode) s (segments_in 0 j ns (last_segments fs)) ≡ record { store = s; trapped = false }
  last_quiet [] [] s = refl
  last_quiet [] (n ∷ ns) s = refl
  last_quiet (f ∷ fs) [] s = refl
  last_quiet (f ∷ fs) (n ∷ []) s = refl
  last_quiet (f ∷ fs) (n ∷ (k ∷ ns)) s = refl

  last_copies : (fs : List ℕ) (a : ℕ) (xs : List RefVal) → all_over a (elem_copies value j (last_segments fs)) xs ≡ Some xs
  last_copies [] a xs = refl
  last_copies (f ∷ fs) a xs = refl

is_table : (s : Store) (m : Module) (t : TableType) (a : ℕ) → is_match s m (im.Table t) (TableAt a) ≡ Some true → (u : Table) × (slice_get s.tables a ≡ Some u) × (meets (length u.slots) u.most t.limits ≡ true)
is_table s m t a h =
    let u = and_then_is (slice_get s.tables a) _ true h in
    (u.0, u.1, (and_parts (same_ref t.ty u.0.ty) (meets (length u.0.slots) u.0.most t.limits) (same_Some _ _ u.2)).1)

-- ---- the module ----

module _ (namespace : ℕ → List ℕ) (names : SplitNames) (m : Module) (holds : ItemsHold m) (moved : List ℕ) (can : CanMove m moved) (primary_holds : ItemsHold (primary_with namespace names.export_prefix m moved)) (own : List ℕ) (before : ℕ) (slots : HasSlots moved own before) (i : Inst) (s : Store)
    (typed : IsTyped (first namespace names m holds moved can primary_holds own before slots) i s)
    (holds_too : ItemsHold (secondary_with names m moved own before)) (few : length moved < 2 ^ 32) (leave : AddedModulesLeave) where
  abbrev second : Module
  second = loads namespace names m holds moved can primary_holds own before slots i s typed

  abbrev tree_of : Module
  tree_of = named.tree namespace names m holds moved can primary_holds own before slots i s typed

  abbrev kept : IsWithDeclared tree_of second (declared_refs tree_of)
  kept = keeps namespace names m holds moved can primary_holds own before slots i s typed

  abbrev second_map : Remap
  second_map = secondary_map m moved own

  abbrev supplied : (things : List ExternalValue) × (all_there (given namespace names m holds moved can primary_holds own before slots i s typed) second.imports ≡ Some things) × (all_match s second second.imports things ≡ true)
  supplied = imports_supplied namespace names m holds moved can primary_holds own before slots i s typed

  abbrev things : List ExternalValue
  things = supplied.0

  abbrev j : Inst
  j = named.j namespace names m holds moved can primary_holds own before slots i s typed things supplied.1

  abbrev value_of : ConstExpr → Option Val
  value_of = const_value s.globals j

  abbrev refs : List ℕ
  refs = declared_refs tree_of

  -- The segment that fills the slots of the secondary module.
  abbrev filling : ElemSeg
  filling = renumbered.new_elem second_map (slot_segment (slot_table m) before (in_slots m (length own)))

  elems_are : second.elems ≡ filling ∷ last_segments refs
  elems_are = kept.elems

  -- ---- what is allocated ----

  declared_there : (n f : ℕ) → slice_get refs n ≡ Some f → f < length j.funcs
  declared_there n f at = by refs refl
    where
      below : (k : ℕ) (e : ElemSeg) → slice_get second.elems k ≡ Some e → slice_get e.items n ≡ Some (const.Func f) → f < length j.funcs
      below k e is found =
          let h = holds_too kind.Elem k (slice_get_within second.elems k e is) in
          let same : h.0 ≡ e = same_Some _ _ (sym h.1 ∙ is) in
          let typed_so = h.2 n (const.Func f) (ap (λ (z : ElemSeg). slice_get z.items n) same ∙ found) in
          let lt = within _ _ (nat_lt f (length (funcs_of second))) refl typed_so in
          let count = named.funcs_counted namespace names m holds moved can primary_holds own before slots i s typed things supplied.1 in
          omega (arith, lt, count)
        where
          within : {A : Type 0} (x y : A) (b : Bool) → nat_lt f (length (funcs_of second)) ≡ b → only b (Some x) ≡ Some y → f < length (funcs_of second)
          within x y true e h = ltb-true f (length (funcs_of second)) e
          within x y false e h = cc

      by : (rs : List ℕ) → refs ≡ rs → f < length j.funcs
      by [] e = absurd (let k : slice_get {X = ℕ} [] n ≡ Some f = ap (λ l. slice_get l n) (sym e) ∙ at in let z = k in cc)
      by (r ∷ rs) e =
          below 1 (declaring (r ∷ rs)) (ap (λ l. slice_get l 1) elems_are ∙ ap (λ l. slice_get (last_segments l) 0) e) (map_at const.Func (r ∷ rs) n f (ap (λ l. slice_get l n) (sym e) ∙ at))

  own_refer : all_there (refer s.globals j) filling.items ≡ Some (references (length s.funcs) (length own))
  own_refer = in_a_row s.globals j second_map (length (funcs_of m)) (length s.funcs) (length own) (named.own_named namespace names m holds moved can primary_holds own before slots i s typed things supplied.1)

  abbrev fresh : List Elem
  fresh = new_elem filling.mode (references (length s.funcs) (length own)) ∷ (last_there s.globals j refs declared_there).0

  elems_allocated : all_there (elem_with value_of) second.elems ≡ Some fresh
  elems_allocated = ap (all_there (elem_with value_of)) elems_are ∙ rw (own_refer, (last_there s.globals j refs declared_there).1) refl

  funcs_allocated : (fs : List Func) × (all_there (world.new_func j) second.funcs ≡ Some fs)
  funcs_allocated =
      let r = all_there_from (world.new_func j) second.funcs (λ n f at.
      let t = slice_get_there j.types f.ty (func_holds second holds_too n f at) in (Code t.0 j (declared f.locals) f.body, rw t.1 refl)) in
      (r.results, r.are)

  globals_allocated : all_there (global_with value_of) second.globals ≡ Some []
  globals_allocated = ap (all_there (global_with value_of)) kept.globals

  abbrev new_store : Store
  new_store = added_store second funcs_allocated.0 [] fresh

  made : store_with value_of second j ≡ Some new_store
  made = rw (funcs_allocated.1, globals_allocated, elems_allocated) refl

  abbrev start : Store
  start = joined_stores s new_store

  -- ---- its segments ----

  abbrev table_index : ℕ
  table_index = slice_index second_map.tables (slot_table m)

  -- The slot table has room for all slots.
  slots_are : (a : ℕ) × (u : Table) × (slice_get i.tables (slot_table m) ≡ Some a) × (slice_get s.tables a ≡ Some u) × (length moved ≤ length u.slots)
  slots_are =
      let o = slots_offered namespace names m holds moved can primary_holds own before slots i s typed in
      let a = and_then_is (slice_get i.tables (slice_index (primary_map m moved).tables (slot_table m))) _ o.0 o.1 in
      let t = is_table s (first namespace names m holds moved can primary_holds own before slots) (slot_table_type (length moved)) a.0
      (ap (λ x. is_match s (first namespace names m holds moved can primary_holds own before slots) (im.Table (slot_table_type (length moved))) x) (same_Some _ _ a.2) ∙ o.2) in
      let entry : slice_index (primary_map m moved).tables (slot_table m) ≡ slot_table m = numbers_index (suc (slot_table m)) (slot_table m) (omega arith) in
      let room = leb-true (length moved) (length t.0.slots) ((and_parts (nat_le (length moved) (length t.0.slots)) (meets_most t.0.most (Some (length moved))) t.2).0) in
      (a.0, t.0, sym (ap (slice_get i.tables) entry) ∙ a.1, t.1, room)

  abbrev address : ℕ
  address = slots_are.0

  abbrev table : Table
  table = slots_are.1

  own_fit : before + length own ≤ length moved
  own_fit =
      let a = slots.count in
      let b = ap length slots.all in
      let c = length-append slots.earlier (own ++ slots.later) in
      let d = length-append own slots.later in
      omega (arith, a, b, c, d)

  written : (zs : List RefVal) × (overwrite table.slots before (references (length s.funcs) (length own)) ≡ Some zs) × (length zs ≡ length table.slots)
  written =
      let a = own_fit in
      let room = slots_are.4 in
      let b = length-map (numbers (length s.funcs) (length own)) (λ a. FuncRef (Some a)) in
      let c = length-numbers (length s.funcs) (length own) in
      overwrite_fits table.slots (references (length s.funcs) (length own)) before (omega (arith, a, b, c, room))

  table_named : slice_get j.tables table_index ≡ Some address
  table_named = (named.names_primarys namespace names m holds moved can primary_holds own before slots i s typed things supplied.1).slots ∙ slots_are.2

  offset_stays : wrapped 32 (pos before) ≡ before
  offset_stays = let a = own_fit in slot_stays before (omega (arith, a, few))

  offset_is : (value_of (new_const second_map (const.I32 (pos before))) >>= num_of W32) ≡ Some before
  offset_is = ap Some offset_stays

  abbrev filled : Store
  filled = changed (changed start (SetTable address (record table { slots = written.0 }))) (DropElem (length s.elems))

  abbrev run_elem : Store → PlacedSegment ElemSeg → Filled
  run_elem s task = run_elem_with value_of s task task.segment.mode

  abbrev run_data : Store → PlacedSegment DataSeg → Filled
  run_data s task = run_data_with value_of s task task.segment.mode

  slots_run : run_elem start (record { part = 0; inst = j; address = length s.elems; segment = filling }) ≡ record { store = filled; trapped = false }
  slots_run =
      let zero_more : length s.elems ≡ length s.elems + 0 = omega arith in
      let there : slice_get start.elems (length s.elems) ≡ Some (new_elem filling.mode (references (length s.funcs) (length own))) =
      ap (slice_get start.elems) zero_more ∙ append_right s.elems fresh 0 in
      rw (offset_stays, table_named, append_at_left s.tables new_store.tables address table slots_are.3, there, written.1) refl

  segments_run : own_segments value_of second j start ≡ record { store = filled; trapped = false }
  segments_run =
      ap (λ f. and_then f (λ s. one_by_one run_data s (segments_in 0 j j.datas second.datas)))
      (ap (λ es. one_by_one run_elem start (segments_in 0 j (numbers (length s.elems) (length es)) es)) elems_are
      ∙ ap (λ f. and_then f (λ z. one_by_one run_elem z (segments_in 0 j (numbers (suc (length s.elems)) (length (last_segments refs))) (last_segments refs)))) slots_run
      ∙ last_quiet s.globals j refs (numbers (suc (length s.elems)) (length (last_segments refs))) filled)
      ∙ ap (λ ds. one_by_one run_data filled (segments_in 0 j (numbers (length s.datas) (length ds)) ds)) kept.datas

  abbrev loaded : Added
  loaded = record { inst = j; filled = own_segments value_of second j start }

  added_is : added s second things ≡ Some loaded
  added_is = rw (supplied.2, made) refl

  -- ---- what is left ----

  trapped_not : loaded.filled.trapped ≡ false
  trapped_not = ap (λ (f : Filled). f.trapped) segments_run

  abbrev after : Store
  after = loaded.filled.store

  left : Leaves value_of second j s after
  left = leave s second things loaded added_is trapped_not

  same_address : (a b : ℕ) → nat_eq a b ≡ true → a ≡ b
  same_address a b h = eqb-true a b h

  -- The segments copy the references over the slots, and change no other table.
  copied : (b : ℕ) (xs : List RefVal) → all_over b (elem_copies value_of j second.elems) xs ≡ cond (nat_eq address b) (overwrite xs before (references (length s.funcs) (length own))) (Some xs)
  copied b xs =
      ap (λ es. all_over b (elem_copies value_of j es) xs) elems_are
      ∙ ap (λ o. over b (contents o (value_of (new_const second_map (const.I32 (pos before))) >>= num_of W32) (all_there (refer s.globals j) filling.items)) xs >>= all_over b (elem_copies value_of j (last_segments refs))) table_named
      ∙ ap (λ o. over b (contents (Some address) o (all_there (refer s.globals j) filling.items)) xs >>= all_over b (elem_copies value_of j (last_segments refs))) offset_is
      ∙ ap (λ o. over b (contents (Some address) (Some before) o) xs >>= all_over b (elem_copies value_of j (last_segments refs))) own_refer
      ∙ by (cond (nat_eq address b) (overwrite xs before (references (length s.funcs) (length own))) (Some xs))
    where
      by : (o : Option (List RefVal)) → (o >>= all_over b (elem_copies value_of j (last_segments refs))) ≡ o
      by None = refl
      by (Some ys) = last_copies s.globals j refs b ys

  -- A table to which nothing is copied stays unchanged.
  other_table : (b : ℕ) (u : Table) → slice_get s.tables b ≡ Some u → (slice_get i.tables (slot_table m) ≡ Some b → ⊥) → slice_get after.tables b ≡ Some u
  other_table b u at apart = by (nat_eq address b) refl
    where
      by : (c : Bool) → nat_eq address b ≡ c → slice_get after.tables b ≡ Some u
      by true e = absurd (apart (slots_are.2 ∙ ap Some (same_address address b e)))
      by false e =
          let l = left.earlier_tables b u at in
          let same : Some u ≡ Some l.0 = sym (ap (table_left u) (copied b u.slots ∙ ap (λ c. cond c (overwrite u.slots before (references (length s.funcs) (length own))) (Some u.slots)) e)) ∙ l.1 in
          l.2 ∙ sym same

  slot_table_filled : (a : ℕ) (u : Table) → slice_get i.tables (slot_table m) ≡ Some a → slice_get s.tables a ≡ Some u → (zs : List RefVal) × (overwrite u.slots before (references (length s.funcs) (length own)) ≡ Some zs) × (slice_get after.tables a ≡ Some (record u { slots = zs }))
  slot_table_filled a u at there =
      let here : address ≡ a = same_Some _ _ (sym slots_are.2 ∙ at) in
      let same : table ≡ u = same_Some _ _ (sym slots_are.3 ∙ ap (slice_get s.tables) here ∙ there) in
      let fits : overwrite u.slots before (references (length s.funcs) (length own)) ≡ Some written.0 = ap (λ (t : Table). overwrite t.slots before (references (length s.funcs) (length own))) (sym same) ∙ written.1 in
      let l = left.earlier_tables a u there in
      let to : all_over a (elem_copies value_of j second.elems) u.slots ≡ Some written.0 =
      copied a u.slots ∙ ap (λ c. cond c (overwrite u.slots before (references (length s.funcs) (length own))) (Some u.slots)) (eq-eqb address a here) ∙ fits in
      (written.0, fits, l.2 ∙ sym (sym (ap (table_left u) to) ∙ l.1))

  memory_stays : (a : ℕ) (x : Memory) → slice_get s.mems a ≡ Some x → slice_get after.mems a ≡ Some x
  memory_stays a x at =
      let l = left.earlier_mems a x at in
      let same : Some x ≡ Some l.0 = sym (ap (λ ds. memory_left x (all_over a (data_copies value_of j ds) x.bytes)) kept.datas) ∙ l.1 in
      l.2 ∙ sym same

  is_loaded : IsLoaded m moved own before i j s after
  is_loaded = record {
    names = named.names_primarys namespace names m holds moved can primary_holds own before slots i s typed things supplied.1;
    own_index = named.own_named namespace names m holds moved can primary_holds own before slots i s typed things supplied.1;
    own_stands = λ p f at.
        left.funcs p (new_func second_map (secondary_func m moved own f)) (ap (λ fs. slice_get fs p) kept.funcs ∙ map_at (new_func second_map) (map (secondary_func m moved own) (defined_at m own)) p _ (map_at (secondary_func m moved own) (defined_at m own) p f at));
    slots_filled = slot_table_filled;
    earlier_funcs = left.earlier_funcs;
    other_tables = other_table;
    earlier_mems = memory_stays;
    earlier_globals = left.earlier_globals;
    earlier_elems = left.earlier_elems;
    earlier_datas = left.earlier_datas;
  }

  pub it_loads : Loads namespace names m moved own before i s
  it_loads = record { added = loaded; links = ap (λ start. if_no_start start (added_with (given namespace names m holds moved can primary_holds own before slots i s typed) s second)) kept.start ∙ ap (λ o. o >>= (added s second)) supplied.1 ∙ added_is; fills = trapped_not; is_loaded = is_loaded }
