-- The run after the starts: a closed run stays closed, and a view that opens shows entities that
-- the parts reach.
use Rattle.base_lists.proofs.Common.{◌≡◌, ◌∙◌, refl, sym, ℕ, ◌<◌, List, [], ◌∷◌, Option, Some, None, true, false, cond, slice_get, nat_eq, and_then_is, same_Some, all_there_back, with_there, either_all}
use Rattle.wasm_tree_spec.specs.Prelude.{Functions, Tables, Memories, Globals, Space, space_of_export, index_of_export}
use Rattle.wasm_meaning.specs.Prelude.{external_value_at, overwrite, received, received_ref, place_at, byte_of, Text, Inst, Store, Entry, Phase, Event, Makes, memory_may_grow, table_may_grow, Part, Entity, Environment, ExternalValue, FuncAt, TableAt, MemoryAt, GlobalAt, Shown, base, all_there}
use Rattle.wasm_meaning.specs.Prelude.{address_in, seen_as, Move, Get, Size, Set, Extend, Closed, Run, Out, Transition, made, got, size_of, set, extended, moved, or_bad, is_taken_closed, closed_move, tick}
use Rattle.run_simulation.specs.Prelude.{ListRel, ExternalValueRel, a_func, a_table, a_memory, a_global, KeyRel}
use Rattle.base_lists.specs.Related.{IfThere, absent, present}
use Rattle.merge_proof.proofs.ExternalValues.{space_in, address_is}
use Rattle.merge_proof.proofs.ClosedStores.{self_by}
use Rattle.merge_proof.proofs.ReachedAddresses.{reaching, reached_at}

-- ---- a closed run ----

-- The stack and the phase are unchanged by a step.
pub record Idle (es : List Entry) (p : Phase) (o : Out) : Type 0 where
  pub entries : o.0.entries ≡ es
  pub phase : o.0.phase ≡ p

abbrev AllIdle : Run → Option Transition → Type 0
AllIdle r = IfThere (λ t. Idle r.entries r.phase (made t))

module _ (r : Run) where
  stays : {s : Store} {xs : List ℕ} {e : Option Event} → AllIdle r (Some (Makes (record r { store = s; shown = xs }, e)))
  stays = present (record { entries = refl; phase = refl })

  got_idle : (x : ExternalValue) (n : ℕ) → AllIdle r (got r x n)
  got_idle (FuncAt a) n = absent
  got_idle (TableAt a) n = with_there (slice_get r.store.tables a) _ (λ t _. with_there (slice_get t.slots n) _ (λ v _. stays))
  got_idle (MemoryAt a) n = with_there (slice_get r.store.mems a) _ (λ m _. with_there (slice_get m.bytes n) _ (λ b _. stays))
  got_idle (GlobalAt a) n = with_there (slice_get r.store.globals a) _ (λ g _. either_all (nat_eq n 0) stays absent)

  size_idle : (x : ExternalValue) → AllIdle r (size_of r x)
  size_idle (FuncAt a) = absent
  size_idle (TableAt a) = with_there (slice_get r.store.tables a) _ (λ t _. stays)
  size_idle (MemoryAt a) = with_there (slice_get r.store.mems a) _ (λ m _. stays)
  size_idle (GlobalAt a) = with_there (slice_get r.store.globals a) _ (λ g _. stays)

  set_idle : (x : ExternalValue) (n : ℕ) (v : Shown) → AllIdle r (set r x n v)
  set_idle (FuncAt a) n v = absent
  set_idle (TableAt a) n v = with_there (slice_get r.store.tables a) _ (λ t _. with_there (received_ref r.owned r.shown t.ty v) _ (λ w _. with_there (overwrite t.slots n (w ∷ [])) _ (λ s _. stays)))
  set_idle (MemoryAt a) n v = with_there (slice_get r.store.mems a) _ (λ m _. with_there (byte_of v) _ (λ b _. with_there (overwrite m.bytes n (b ∷ [])) _ (λ s _. stays)))
  set_idle (GlobalAt a) n v =
      with_there (slice_get r.store.globals a) _ (λ g _. either_all (nat_eq n 0) (either_all g.ty.mutable (with_there (received r.owned r.shown g.ty.ty v) _ (λ w _. stays)) absent) absent)

  extended_idle : (x : ExternalValue) (n : ℕ) → AllIdle r (extended r x n)
  extended_idle (FuncAt a) n = absent
  extended_idle (TableAt a) n = with_there (slice_get r.store.tables a) _ (λ t _. either_all (table_may_grow t n) stays absent)
  extended_idle (MemoryAt a) n = with_there (slice_get r.store.mems a) _ (λ m _. either_all (memory_may_grow m n) stays absent)
  extended_idle (GlobalAt a) n = absent

  closed_idle : (m : Move) → is_taken_closed m ≡ true → AllIdle r (moved r m)
  closed_idle (Get p n) e = with_there (place_at r p) _ (λ x _. got_idle x n)
  closed_idle (Size p) e = with_there (place_at r p) _ (λ x _. size_idle x)
  closed_idle (Set p n v) e = with_there (place_at r p) _ (λ x _. set_idle x n v)
  closed_idle (Extend p n) e = with_there (place_at r p) _ (λ x _. extended_idle x n)
  closed_idle _ e = cc

  taken_idle : (m : Move) → AllIdle r (cond (is_taken_closed m) (moved r m) None)
  taken_idle m = elim (is_taken_closed m) as (λ b. is_taken_closed m ≡ b → AllIdle r (cond b (moved r m) None)) [ true ↦ closed_idle m | false ↦ λ e. absent ] refl

  or_bad_idle : (o : Option Transition) → AllIdle r o → Idle r.entries r.phase (made (or_bad r o))
  or_bad_idle (Some t) (present h) = h
  or_bad_idle None h = record { entries = refl; phase = refl }

move_idle : (r : Run) (ms : List Move) → Idle r.entries r.phase (made (closed_move r ms))
move_idle r [] = record { entries = refl; phase = refl }
move_idle r (m ∷ ms) = or_bad_idle (record r { moves = ms }) _ (taken_idle (record r { moves = ms }) m)

pub closed_stays : (r : Run) → r.entries ≡ [] → r.phase ≡ Closed → Idle [] Closed (tick r)
closed_stays r e f = rw (e, f) (rw (e, f) at (move_idle r r.moves))

-- ---- the view ----

module _ (env : Environment) (parts : List Part) (p : ℕ) where
  -- An external value with an address below the count is related to itself.
  reached_self : (k : Space) (a : ℕ) (x : ExternalValue) → external_value_at k a ≡ Some x → a < base env parts k p → ExternalValueRel (reaching env parts p) x x
  reached_self Functions a x e l = rw (← same_Some _ _ e) (a_func (reached_at env parts p Functions a l))
  reached_self Tables a x e l = rw (← same_Some _ _ e) (a_table (reached_at env parts p Tables a l))
  reached_self Memories a x e l = rw (← same_Some _ _ e) (a_memory (reached_at env parts p Memories a l))
  reached_self Globals a x e l = rw (← same_Some _ _ e) (a_global (reached_at env parts p Globals a l))
  reached_self _ a x e l = cc

  -- The external values in the view are related to themselves, because the parts reach them.
  pub view_self : (insts : List Inst) → ((q : ℕ) (i : Inst) → slice_get insts q ≡ Some i → (k : Space) (n a : ℕ) → slice_get (space_in i k) n ≡ Some a → a < base env parts k p) →
      (vs : List (Text × Entity)) (view : List (Text × ExternalValue)) → all_there (seen_as insts) vs ≡ Some view → ListRel (KeyRel (reaching env parts p)) view view
  view_self insts low vs view h = self_by view (λ n y e.
      let v = all_there_back (seen_as insts) vs view h n y e in
      let d = v.0.1.what in
      let i = and_then_is (slice_get insts v.0.1.part) _ y v.2 in
      let x = and_then_is (address_in i.0 d) _ y i.2 in
      let a = and_then_is (slice_get (space_in i.0 (space_of_export d)) (index_of_export d)) (external_value_at (space_of_export d)) x.0 (sym (address_is i.0 d) ∙ x.1) in
      rw (← same_Some _ _ x.2) (record { key = refl; thing = reached_self (space_of_export d) a.0 x.0 a.2 (low v.0.1.part i.0 i.1 (space_of_export d) (index_of_export d) a.0 a.1) }))
