-- A segment that the quiet run copies is copied in an environment too, and the stores after the
-- copies are related except for what is then unknown.
use Rattle.base_lists.proofs.Common.{◌≡◌, ◌∙◌, sym, ap, ap₂, subst, refl, ℕ, ◌<◌, List, length, Bool, false, not, Some, inl, inr, arith, slice_get, nat_lt, slice_get_past, cases_lt, le-ltb, numbers_is, opt_at, set_other}
use Rattle.std.specs.Prelude.{unwrap_or}
use Rattle.std.proofs.lemmas.Bool.{or_parts}
use Rattle.wasm_tree_spec.specs.Prelude.{Tables, Memories, ElementSegments, DataSegments, ConstExpr, ElemMode, ElemSeg, DataMode, DataSeg, Module, memories_of, tables_of}
use Rattle.wasm_tree.specs.declared.module.ElemMode.TheVariants as elem
use Rattle.wasm_tree.specs.declared.module.DataMode.TheVariants as data'
use Rattle.wasm_tree.specs.declared.module.Func as tree
use Rattle.wasm_meaning.specs.Prelude.{Gives, overwrite, RefVal, Inst, Store, Table, Elem, SetTable, changed, no_items, Bytes, Environment, Filled, PlacedSegment, copy_data, copy_elem, run_data_with, run_elem_with}
use Rattle.run_simulation.specs.Prelude.{Pairing, OneToOneWhereWritten, set_memory, drop_data, drop_elem, RefsOff, StoreRelOff, TableOff, is_place_among, known}
use Rattle.run_simulation.proofs.RelatedOutcomes.{write_each}
use Rattle.run_simulation.proofs.UnknownPlaces.{changed_off}
use Rattle.world_simulation.specs.Prelude.{one, offset_in, IsInst}
use Rattle.run_simulation.specs.Related as related
use Rattle.eval_spec.specs.Prelude.{State, Finished, is_imported, written_after, copied_slots, data_tests, elem_tests, own_inst, place_in, reads_global, value_in, with_data_mode, with_elem_mode}
use Rattle.eval_snapshot_proof.specs.QuietRunAddresses.{EnvironmentStays}
use Rattle.eval_snapshot_proof.proofs.AddedFunctions.{with_funcs}
use Rattle.eval_snapshot_proof.proofs.EnvironmentEntities.{memory_past, stays_itself, stays_with_memory, stays_with_table, table_past}
use Rattle.eval_snapshot_proof.proofs.OverwrittenLists.{KnownAfter, copied_off}
use Rattle.eval_snapshot_proof.proofs.IndexRelation.{relates}
use Rattle.eval_snapshot_proof.proofs.UnknownSlots.{other_table, this_table}
use Rattle.eval_snapshot_proof.proofs.Counterparts.{R, data_itself, elem_itself, memory_there, offset_stays, table_there, value_there}
use Rattle.eval_snapshot_proof.proofs.SegmentCopies.{DataCopied, ElemCopied, with_memory, with_table, both_there, data_copied, data_copies, elem_copied, elem_copies, none_imported, went, with_it}

-- ---- both ----

-- An active segment has as many items as the module says.
abbrev pub IsWhole : ElemMode → ElemSeg → Elem → Type 0
IsWhole (elem.Active table offset) e y = length y.items ≡ length e.items
IsWhole _ e y = Unit {0}

module _ (env : Environment) (m : Module) (fs : List tree.Func) (i : Inst) (is : IsInst env (one (with_funcs m fs)) 0 (with_funcs m fs) i) (apart : OneToOneWhereWritten (R env m fs i is)) where
  abbrev S : Pairing
  S = R env m fs i is

  abbrev pub quiet_task : {A : Type 0} → ℕ → A → PlacedSegment A
  quiet_task n e = record { part = 0; inst = own_inst m; address = n; segment = e }

  abbrev pub task : {A : Type 0} → ℕ → A → PlacedSegment A
  task n e = record { part = 0; inst = i; address = n; segment = e }

  -- The copy in the environment does not trap, and its store is related to that of the quiet run,
  -- whose functions and turns are unchanged. It writes nothing that the environment owns.
  pub record CopiedAlike (s t : State) (x : Store) (f : Filled) : Type 0 where
    pub store : Store
    pub filled : f ≡ record { store = store; trapped = false }
    pub related : StoreRelOff S t.unknown t.store store
    pub funcs : t.store.funcs ≡ s.store.funcs
    pub turns : t.turns ≡ s.turns
    pub stays : EnvironmentStays env x store

  -- A copy of an element segment changes no other element segment.
  pub record ElemAlike (n : ℕ) (s t : State) (x : Store) (f : Filled) : Type 0 where
    pub copied : CopiedAlike s t x f
    pub others : (k : ℕ) → (n ≡ k → ⊥) → slice_get t.store.elems k ≡ slice_get s.store.elems k

  pub nothing_copied : (s t : State) (x : Store) → StoreRelOff S s.unknown s.store x → Finished s ≡ Finished t → CopiedAlike s t x (record { store = x; trapped = false })
  nothing_copied s t x r e = let same : s ≡ t = cc in
      subst (λ t. CopiedAlike s t x (record { store = x; trapped = false })) same (record { store = x; filled = refl; related = r; funcs = refl; turns = refl; stays = stays_itself env x })

  elem_related : (n : ℕ) → n < length m.elems → S.of ElementSegments n n
  elem_related n lt = relates m i ElementSegments n n
      (ap (nat_lt n) (none_imported ElementSegments refl m.imports 0) ∙ le-ltb n 0 (omega arith)) (elem_itself env m fs i is n lt)

  data_related : (n : ℕ) → n < length m.datas → S.of DataSegments n n
  data_related n lt = relates m i DataSegments n n
      (ap (nat_lt n) (none_imported DataSegments refl m.imports 0) ∙ le-ltb n 0 (omega arith)) (data_itself env m fs i is n lt)

  -- ---- element segments ----

  -- The stores are related after a copy into related tables.
  tables_off : (s : State) (x : Store) (n table count : ℕ) (place b : ℕ) (t u : Table) (slots others : List RefVal) → StoreRelOff S s.unknown s.store x → S.of Tables table b →
      slice_get s.store.tables table ≡ Some t → TableOff S (λ p. not (is_place_among s.unknown.slots table p)) t u →
      RefsOff S (λ p. not (is_place_among (copied_slots s n table place count).slots table p)) slots others →
      StoreRelOff S (copied_slots s n table place count) (changed s.store (SetTable table (record t { slots = slots }))) (changed x (SetTable b (record u { slots = others })))
  tables_off s x n table count place b t u slots others r at there off copied =
      let P : ℕ → Table → Table → Type 0 = λ c v w. (slice_get s.store.tables c ≡ Some v) × TableOff S (λ p. not (is_place_among s.unknown.slots c p)) v w in
      let Q : ℕ → Table → Table → Type 0 = λ c v w. TableOff S (λ p. not (is_place_among (copied_slots s n table place count).slots c p)) v w in
      let still : (c : ℕ) (v w : Table) → (table ≡ c → ⊥) → P c v w → Q c v w = λ c v w other q. let k = q.1 in record { type = k.type; most = k.most; slots = slots_still c v w other q.0 k.slots } in
      record {
        types = r.types;
        owns = r.owns;
        funcs = r.funcs;
        mems = r.mems;
        globals = r.globals;
        elems = r.elems;
        datas = r.datas;
        tables = λ {a = c} {b = d} q. write_each S apart Tables refl P Q s.store.tables x.tables (record t { slots = slots }) (record u { slots = others }) at
            (λ c d q. with_it (r.tables {a = c} {b = d} q)) still (record { type = off.type; most = off.most; slots = copied }) c d q;
      }
    where
      slots_still : (c : ℕ) (v w : Table) → (table ≡ c → ⊥) → slice_get s.store.tables c ≡ Some v → RefsOff S (λ p. not (is_place_among s.unknown.slots c p)) v.slots w.slots →
          RefsOff S (λ p. not (is_place_among (copied_slots s n table place count).slots c p)) v.slots w.slots
      slots_still c v w other h q = record {
        size = q.size;
        each = λ p k. elim (cases_lt p (length v.slots)) [
          | inl low ↦ q.each p (other_table s n table place count c p v h low other k)
          | inr past ↦ let size = q.size in opt_at (slice_get_past v.slots p past) (slice_get_past w.slots p (omega (arith, past, size))) related.none
        ];
      }

  -- A state with the slots that are unknown after such a copy.
  abbrev with_slots : State → (segment table place count : ℕ) → Store → State
  with_slots s n table place count store = record s { store = store; unknown = copied_slots s n table place count }

  -- An element segment that the quiet run copied is copied in the environment if its offset reads
  -- no global and its table is not imported.
  elem_went : (s t : State) (x : Store) (n : ℕ) (e : ElemSeg) (table : ℕ) (offset : ConstExpr) → n < length m.elems → StoreRelOff S s.unknown s.store x →
      ((y : Elem) → slice_get s.store.elems n ≡ Some y → length y.items ≡ length e.items) →
      reads_global offset ≡ false → is_imported m Tables table ≡ false → ElemCopied s.store n (own_inst m) table (offset_in (value_in m) offset) →
      with_slots s n table (place_in m offset) (length e.items) (copy_elem s.store n (own_inst m) table (offset_in (value_in m) offset)).store ≡ t →
      ElemAlike n s t x (copy_elem x n i table (offset_in (value_there env m fs i is) offset))
  elem_went s t x n e table offset low r whole reads own c same =
      let index = numbers_is (length (tables_of m)) table c.address c.address_is in
      let there = table_there env m fs i is table index.0 in
      let at : S.of Tables table there.address = relates m i Tables table there.address own there.named in
      let table_is : slice_get s.store.tables table ≡ Some c.table = ap (slice_get s.store.tables) index.1 ∙ c.table_is in
      let u = both_there (r.tables {a = table} {b = there.address} at) c.table table_is in
      let d = both_there (r.elems {a = n} {b = n} (elem_related n low)) c.element c.element_is in
      let old : ℕ → Bool = λ p. not (is_place_among s.unknown.slots table p) in
      let items : ℕ → Bool = λ k. not (is_place_among s.unknown.items n k) in
      let after : ℕ → Bool = λ p. not (is_place_among (copied_slots s n table c.place (length e.items)).slots table p) in
      let told : KnownAfter old items after c.place (length c.element.items) (length c.table.slots) =
      subst (λ count. KnownAfter old items after c.place count (length c.table.slots)) (sym (whole c.element c.element_is)) (this_table s n table c.place (length e.items) c.table table_is) in
      let k = copied_off S old items after c.table.slots u.0.slots c.element.items d.0.items c.place u.2.slots d.2 told c.slots c.written in
      let first = tables_off s x n table (length e.items) c.place there.address c.table u.0 c.slots k.slots r at table_is u.2 k.related in
      let second = changed_off S apart (copied_slots s n table c.place (length e.items)) first (known (drop_elem (elem_related n low))) in
      let state : Store → ℕ → State = λ store place. with_slots s n table place (length e.items) store in
      let left : (copy_elem s.store n (own_inst m) table (offset_in (value_in m) offset)).store ≡ with_table s.store n table c.table c.slots =
      c.left ∙ ap (λ a. with_table s.store n a c.table c.slots) (sym index.1) in
      let end : state (with_table s.store n table c.table c.slots) c.place ≡ t = sym (ap₂ state left (ap (λ o. unwrap_or o 0) c.place_is)) ∙ same in
      subst (λ t. ElemAlike n s t x (copy_elem x n i table (offset_in (value_there env m fs i is) offset))) end (record {
        copied = record {
          store = with_table x n there.address u.0 k.slots;
          filled = elem_copies x n i table _ c.place there.address u.0 d.0 k.slots (offset_stays env m fs i is offset c.place reads c.place_is) there.is_there u.1 d.1 k.written;
          related = second;
          funcs = refl;
          turns = refl;
          stays = stays_with_table env x n there.address u.0 k.slots (table_past env m fs i is table there.address at);
        };
        others = λ k other. set_other s.store.elems n k no_items (λ e. other (sym e));
      })

  elem_none : (n : ℕ) (s t : State) (x : Store) → StoreRelOff S s.unknown s.store x → Finished s ≡ Finished t → ElemAlike n s t x (record { store = x; trapped = false })
  elem_none n s t x r e = let same : s ≡ t = cc in record { copied = nothing_copied s t x r e; others = λ k other. ap (λ (t : State). slice_get t.store.elems k) (sym same) }

  pub elem_alike : (s t : State) (x : Store) (n : ℕ) (e : ElemSeg) → n < length m.elems → StoreRelOff S s.unknown s.store x → (mode : ElemMode) →
      ((y : Elem) → slice_get s.store.elems n ≡ Some y → IsWhole mode e y) → e.mode ≡ mode → with_elem_mode m s (quiet_task n e) mode ≡ Finished t →
      ElemAlike n s t x (run_elem_with (value_there env m fs i is) x (task n e) mode)
  elem_alike s t x n e low r elem.Passive whole is_mode h = elem_none n s t x r h
  elem_alike s t x n e low r elem.Declarative whole is_mode h = elem_none n s t x r h
  elem_alike s t x n e low r (elem.Active table offset) whole is_mode h =
      let filled = run_elem_with (value_in m) s.store (quiet_task n e) e.mode in
      let is_filled : filled ≡ copy_elem s.store n (own_inst m) table (offset_in (value_in m) offset) = ap (run_elem_with (value_in m) s.store (quiet_task n e)) is_mode in
      let k = went (elem_tests m s table offset filled) (record s { store = filled.store; unknown = copied_slots s n table (place_in m offset) (length e.items) }) t h in
      let free = or_parts (reads_global offset) (is_imported m Tables table) k.0.0 in
      let c = elem_copied s.store n (own_inst m) table (offset_in (value_in m) offset) (ap (λ (f : Filled). f.trapped) (sym is_filled) ∙ k.0.1.0) in
      elem_went s t x n e table offset low r whole free.0 free.1 c
      (ap (λ (f : Filled). record s { store = f.store; unknown = copied_slots s n table (place_in m offset) (length e.items) }) (sym is_filled) ∙ k.1)

  -- ---- data segments ----

  data_went : (s t : State) (x : Store) (n memory : ℕ) (offset : ConstExpr) (written : List Bool) → n < length m.datas → StoreRelOff S s.unknown s.store x → reads_global offset ≡ false →
      is_imported m Memories memory ≡ false →
      DataCopied s.store n (own_inst m) memory (offset_in (value_in m) offset) →
      record s { store = (copy_data s.store n (own_inst m) memory (offset_in (value_in m) offset)).store; written = written } ≡ t →
      CopiedAlike s t x (copy_data x n i memory (offset_in (value_there env m fs i is) offset))
  data_went s t x n memory offset written low r reads own c same =
      let index = numbers_is (length (memories_of m)) memory c.address c.address_is in
      let there = memory_there env m fs i is memory index.0 in
      let at : S.of Memories memory there.address = relates m i Memories memory there.address own there.named in
      let memory_is : slice_get s.store.mems memory ≡ Some c.memory = ap (slice_get s.store.mems) index.1 ∙ c.memory_is in
      let u = both_there (r.mems {a = memory} {b = there.address} at) c.memory memory_is in
      let d = both_there (r.datas {a = n} {b = n} (data_related n low)) c.segment c.segment_is in
      let memory_there_is : slice_get x.mems there.address ≡ Some c.memory = u.1 ∙ ap Some (sym u.2) in
      let written_there : overwrite c.memory.bytes c.place d.0.bytes ≡ Some c.bytes = ap (overwrite c.memory.bytes c.place) (sym d.2) ∙ c.written in
      let second = changed_off S apart s.unknown (changed_off S apart s.unknown r (known (set_memory {m = record c.memory { bytes = c.bytes }} at))) (known (drop_data (data_related n low))) in
      let state : Store → State = λ store. record s { store = store; written = written } in
      let left : (copy_data s.store n (own_inst m) memory (offset_in (value_in m) offset)).store ≡ with_memory s.store n memory c.memory c.bytes =
      c.left ∙ ap (λ a. with_memory s.store n a c.memory c.bytes) (sym index.1) in
      let end : state (with_memory s.store n memory c.memory c.bytes) ≡ t = sym (ap state left) ∙ same in
      subst (λ t. CopiedAlike s t x (copy_data x n i memory (offset_in (value_there env m fs i is) offset))) end (record {
        store = with_memory x n there.address c.memory c.bytes;
        filled = data_copies x n i memory _ c.place there.address c.memory d.0 c.bytes (offset_stays env m fs i is offset c.place reads c.place_is) there.is_there memory_there_is d.1 written_there;
        related = second;
        funcs = refl;
        turns = refl;
        stays = stays_with_memory env x n there.address c.memory c.bytes (memory_past env m fs i is memory there.address at);
      })

  pub data_alike : (s t : State) (x : Store) (n : ℕ) (d : DataSeg) → n < length m.datas → StoreRelOff S s.unknown s.store x → (mode : DataMode) → d.mode ≡ mode →
      with_data_mode m s (quiet_task n d) mode ≡ Finished t →
      CopiedAlike s t x (run_data_with (value_there env m fs i is) x (task n d) mode)
  data_alike s t x n d low r data'.Passive is_mode h = nothing_copied s t x r h
  data_alike s t x n d low r (data'.Active memory offset) is_mode h =
      let filled = run_data_with (value_in m) s.store (quiet_task n d) d.mode in
      let is_filled : filled ≡ copy_data s.store n (own_inst m) memory (offset_in (value_in m) offset) = ap (run_data_with (value_in m) s.store (quiet_task n d)) is_mode in
      let touched = Gives (Bytes memory (place_in m offset) (length d.bytes)) in
      let k = went (data_tests m s memory offset filled touched) (record s { store = filled.store; written = written_after s.written touched }) t h in
      let free = or_parts (reads_global offset) (is_imported m Memories memory) k.0.0 in
      let c = data_copied s.store n (own_inst m) memory (offset_in (value_in m) offset) (ap (λ (f : Filled). f.trapped) (sym is_filled) ∙ k.0.1.0) in
      data_went s t x n memory offset (written_after s.written touched) low r free.0 free.1 c
      (ap (λ (f : Filled). record s { store = f.store; written = written_after s.written touched }) (sym is_filled) ∙ k.1)
