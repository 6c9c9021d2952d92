-- Steps on tables and element segments agree.
use Rattle.base_lists.proofs.Common.{◌≡◌, ◌∙◌, ℕ, ◌+◌, ◌<◌, ◌≤◌, List, length, Option, Some, Bool, true, not, ap, subst, arith, slice_get, there, copies_rel, cond_two}
use Rattle.wasm_tree_spec.specs.Prelude.{Tables, ElementSegments}
use Rattle.wasm_tree.specs.declared.instr.Instr.TheOpen.{Instr-F}
use Rattle.wasm_meaning.specs.Prelude.{Outcome, Gives, Val, RefVal, Table, Env, Body, GrowTable, AsksGrow, type_of_ref, same_ref, pop_three, with_table, fits, writes_table, table_may_grow, init_table}
use Rattle.wasm_num.specs.Operations.{W32}
use Rattle.wasm_meaning.specs.Tables.{table_get, table_set, table_size, table_grow, table_fill, table_copy, table_init, elem_drop}
use Rattle.wasm_meaning.proofs.Outcomes.{then_given, then_found}
use Rattle.run_simulation.specs.Prelude.{Pairing, OptRel, ResRel, done, wrong, ListRel, nil, cons, RefRel, ValRel, number, reference, AreIndicesRelated, BodyRel, table_grows, drop_elem, goes, asks_grow, Unknowns, is_place_among, RefsOff, TableOff, StoreRelOff, ReadPlace, ReadsSlots, read_by}
use Rattle.run_simulation.specs.Prelude.{ReadsKnown}
use Rattle.run_simulation.specs.Prelude.{known, ActOff}
use Rattle.run_simulation.specs.UnknownPlaces.{off_slots}
use Rattle.run_simulation.proofs.RelatedOutcomes.{bind_rel, bind_found, bind_found_is, or_trap_rel}
use Rattle.run_simulation.proofs.UnknownReferences.{slice_off, overwrite_off}
use Rattle.run_simulation.proofs.ValueSteps.{bind_num, bind_num_is, pop_ref_rel, ref_type_rel, values_rel, pushes_rel}
use Rattle.run_simulation.proofs.MemorySteps.{bind_three_is}

module _ (R : Pairing) where
  pub fits_rel : (t u : Table) {r s : RefVal} → t.ty ≡ u.ty → RefRel R r s → ResRel (RefRel R) (fits t r) (fits u s)
  fits_rel t u {s = s} type r = rw (type, ref_type_rel R r) (cond_two (ResRel (RefRel R)) (same_ref u.ty (type_of_ref s)) (done r) wrong)

pub may_same : (t u : Table) (n : ℕ) → length t.slots ≡ length u.slots → t.most ≡ u.most → table_may_grow t n ≡ table_may_grow u n
may_same t u n size most = rw (size, most)

module _ (R : Pairing) (off : Unknowns) (ev ew : Env) (st : StoreRelOff R off ev.store ew.store) where
  -- The slots of a table that are known.
  abbrev pub known_in : ℕ → ℕ → Bool
  known_in a n = not (is_place_among off.slots a n)

  -- Related addresses hold tables that are related but for their unknown slots, so that
  -- continuations that agree on these agree.
  pub bind_table : {B C : Type 0} {Q : B → C → Type 0} {h k : Body} (n m : ℕ) (f : ℕ → Table → Outcome B) (g : ℕ → Table → Outcome C) → BodyRel R ev.inst ew.inst h k → AreIndicesRelated R.of Tables ev.inst.tables ew.inst.tables n m →
      ((a b : ℕ) (x y : Table) → slice_get ev.inst.tables n ≡ Some a → R.of Tables a b → TableOff R (known_in a) x y → ResRel Q (f a x) (g b y)) → ResRel Q (with_table ev n f) (with_table ew m g)
  bind_table n m f g r p q = bind_found_is p (λ a b is p. bind_found (there (st.tables p)) (λ x y t. q a b x y is p t))

  -- The slot whose number is on top of the stack is known.
  pub slot_known : (o : Outcome ReadPlace) (a i : ℕ) → ReadsKnown off o → o ≡ Gives (ReadsSlots a i 1) → known_in a i ≡ true
  slot_known o a i reads is = ap not (reads _ is i (omega arith) (omega arith))

  writes_table_rel : {h k : Body} {a b : ℕ} {t u : Table} {ss us : Option (List RefVal)} {vs ws : List Val} → BodyRel R ev.inst ew.inst h k → R.of Tables a b → TableOff R (known_in a) t u → OptRel (RefsOff R (known_in a)) ss us → ListRel (ValRel R) vs ws →
      ResRel (ActOff R off ev.inst ew.inst) (writes_table h a t ss vs) (writes_table k b u us ws)
  writes_table_rel r p t s v = bind_rel (or_trap_rel s) (λ _ _ s. done (goes (off_slots p (record { type = t.type; most = t.most; slots = s })) (values_rel R off ev ew st r v)))

  pub table_get_rel : {h k : Body} (n m : ℕ) → BodyRel R ev.inst ew.inst h k → AreIndicesRelated R.of Tables ev.inst.tables ew.inst.tables n m → ReadsKnown off (read_by (Instr-F.TableGet n) ev h.values) → ResRel (ActOff R off ev.inst ew.inst) (table_get ev h n) (table_get ew k m)
  table_get_rel n m r p reads =
      bind_table n m _ _ r p (λ a _ _ _ is _ t. bind_num_is R W32 _ _ r.values (λ i _ _ top v.
      bind_rel (or_trap_rel (t.slots.each i (slot_known _ a i reads (then_found _ is ∙ then_given _ top)))) (λ _ _ s. pushes_rel R off ev ew st (values_rel R off ev ew st r v) (reference s))))

  pub table_set_rel : {h k : Body} (n m : ℕ) → BodyRel R ev.inst ew.inst h k → AreIndicesRelated R.of Tables ev.inst.tables ew.inst.tables n m → ResRel (ActOff R off ev.inst ew.inst) (table_set ev h n) (table_set ew k m)
  table_set_rel n m r p =
      bind_table n m _ _ r p (λ a _ e f _ p t. bind_rel (pop_ref_rel R r.values) (λ _ _ s. bind_rel (fits_rel R e f t.type s.first) (λ _ _ x. bind_num R W32 _ _ s.second (λ i _ _ v.
      writes_table_rel r p t (overwrite_off R (known_in a) i t.slots (cons x nil)) v))))

  pub table_size_rel : {h k : Body} (n m : ℕ) → BodyRel R ev.inst ew.inst h k → AreIndicesRelated R.of Tables ev.inst.tables ew.inst.tables n m → ResRel (ActOff R off ev.inst ew.inst) (table_size ev h n) (table_size ew k m)
  table_size_rel n m r p = bind_table n m _ _ r p (λ _ _ _ _ _ _ t. rw t.slots.size (pushes_rel R off ev ew st r number))

  asked : {h k : Body} {a b n m l : ℕ} {x y : RefVal} → BodyRel R ev.inst ew.inst h k → m ≡ l → R.of Tables a b → RefRel R x y → ActOff R off ev.inst ew.inst (AsksGrow (GrowTable a n x) m n h) (AsksGrow (GrowTable b n y) l n k)
  asked {h} {k} {a} {b} {n} {m} {l} {x} {y} r e p q = subst (λ z. ActOff R off ev.inst ew.inst (AsksGrow (GrowTable a n x) m n h) (AsksGrow (GrowTable b n y) z n k)) e (asks_grow (table_grows p q) r)

  pub table_grow_rel : {h k : Body} (n m : ℕ) → BodyRel R ev.inst ew.inst h k → AreIndicesRelated R.of Tables ev.inst.tables ew.inst.tables n m → ResRel (ActOff R off ev.inst ew.inst) (table_grow ev h n) (table_grow ew k m)
  table_grow_rel n m r p =
      bind_table n m _ _ r p (λ _ _ t u _ p x. bind_num R W32 _ _ r.values (λ c _ _ v. bind_rel (pop_ref_rel R v) (λ _ _ s. bind_rel (fits_rel R t u x.type s.first) (λ _ _ y.
      rw (may_same t u c x.slots.size x.most) (cond_two (ResRel (ActOff R off ev.inst ew.inst)) (table_may_grow u c) (done (asked (values_rel R off ev ew st r s.second) x.slots.size p y)) (pushes_rel R off ev ew st (values_rel R off ev ew st r s.second) number))))))

  pub table_fill_rel : {h k : Body} (n m : ℕ) → BodyRel R ev.inst ew.inst h k → AreIndicesRelated R.of Tables ev.inst.tables ew.inst.tables n m → ResRel (ActOff R off ev.inst ew.inst) (table_fill ev h n) (table_fill ew k m)
  table_fill_rel n m r p =
      bind_table n m _ _ r p (λ a _ e f _ p t. bind_num R W32 _ _ r.values (λ c _ _ v. bind_rel (pop_ref_rel R v) (λ _ _ s. bind_rel (fits_rel R e f t.type s.first) (λ y z x. bind_num R W32 _ _ s.second (λ d _ _ v.
      writes_table_rel r p t (overwrite_off R (known_in a) d t.slots (copies_rel y z c x)) v)))))

  -- A copy from an element segment to a table agrees if all the references that are copied are
  -- known.
  init_table_rel : {h k : Body} {a b : ℕ} {xs ys : List RefVal} {t u : Table} (is_known : ℕ → Bool) → RefsOff R is_known xs ys → BodyRel R ev.inst ew.inst h k → R.of Tables a b → TableOff R (known_in a) t u →
      ((n : ℕ × ℕ × ℕ) (vs : List Val) → pop_three h.values ≡ Gives (n, vs) → (place : ℕ) → n.1 ≤ place → place < n.1 + n.2 → is_known place ≡ true) → ResRel (ActOff R off ev.inst ew.inst) (init_table h xs a t) (init_table k ys b u)
  init_table_rel {a = a} is_known x r p t all =
      bind_three_is R off ev ew st _ _ r.values (λ n xs _ top v. bind_rel (or_trap_rel (slice_off R is_known n.1 n.2 x (all n xs top))) (λ _ _ s. writes_table_rel r p t (overwrite_off R (known_in a) n.0 t.slots s) v))

  pub table_copy_rel : {h k : Body} (s t n m : ℕ) → BodyRel R ev.inst ew.inst h k → AreIndicesRelated R.of Tables ev.inst.tables ew.inst.tables n m → AreIndicesRelated R.of Tables ev.inst.tables ew.inst.tables s t → ReadsKnown off (read_by (Instr-F.TableCopy n s) ev h.values) →
      ResRel (ActOff R off ev.inst ew.inst) (table_copy ev h n s) (table_copy ew k m t)
  table_copy_rel s t n m r p q reads =
      bind_table s t _ _ r q (λ a _ _ _ is _ source. bind_table n m _ _ r p (λ _ _ _ _ _ p t.
      init_table_rel (known_in a) source.slots r p t (λ n vs top place from below. ap not (reads _ (then_found _ is ∙ then_given _ top) place from below))))

  pub table_init_rel : {h k : Body} (s t n m : ℕ) → BodyRel R ev.inst ew.inst h k → AreIndicesRelated R.of ElementSegments ev.inst.elems ew.inst.elems s t → AreIndicesRelated R.of Tables ev.inst.tables ew.inst.tables n m → ReadsKnown off (read_by (Instr-F.TableInit s n) ev h.values) →
      ResRel (ActOff R off ev.inst ew.inst) (table_init ev h s n) (table_init ew k t m)
  table_init_rel s t n m r p q reads =
      bind_found_is p (λ a _ is p. bind_found (there (st.elems p)) (λ _ _ e. bind_table n m _ _ r q (λ _ _ _ _ _ q t.
      init_table_rel (λ i. not (is_place_among off.items a i)) e r q t (λ n vs top place from below. ap not (reads _ (then_found _ is ∙ then_given _ top) place from below)))))

  pub elem_drop_rel : {h k : Body} (s t : ℕ) → BodyRel R ev.inst ew.inst h k → AreIndicesRelated R.of ElementSegments ev.inst.elems ew.inst.elems s t → ResRel (ActOff R off ev.inst ew.inst) (elem_drop ev h s) (elem_drop ew k t)
  elem_drop_rel s t r p = bind_found p (λ _ _ p. done (goes (known (drop_elem p)) r))
