-- Steps on memories and data segments agree.
use Rattle.base_lists.proofs.Common.{◌≡◌, ℕ, ◌+◌, ◌%◌, List, refl, subst, there, cond_two}
use Rattle.wasm_tree_spec.specs.Prelude.{Memories, DataSegments, LoadOp, StoreOp, MemArg}
use Rattle.wasm_meaning.specs.Prelude.{Outcome, Gives, bind, slice, copies, or_trap, load_width, store_from, stored, Val, Memory, Env, Body, written, load_from, with_memory, writes, store_into, memory_may_grow, pop_three, init_memory}
use Rattle.wasm_num.specs.Operations.{W32}
use Rattle.wasm_meaning.specs.Memory.{load, store, memory_size, memory_grow, memory_init, data_drop, memory_copy, memory_fill}
use Rattle.run_simulation.specs.Prelude.{Pairing, ResRel, done, ListRel, cons, ValRel, number, AreIndicesRelated, ArgRel, BodyRel, memory_grows, set_memory, drop_data, goes, asks_grow, Unknowns, StoreRelOff, known, ActOff}
use Rattle.run_simulation.proofs.RelatedOutcomes.{bind_same, bind_found, bind_rel_is}
use Rattle.base_lists.specs.Related.{PairRel}
use Rattle.run_simulation.proofs.ValueSteps.{bind_num, values_rel, on_values_rel, pushes_rel}

module _ (R : Pairing) (off : Unknowns) (ev ew : Env) (st : StoreRelOff R off ev.store ew.store) where
  -- Related addresses hold equal memories, so that continuations that agree on these agree.
  bind_memory : {B C : Type 0} {Q : B → C → Type 0} {h k : Body} (n m : ℕ) (f : ℕ → Memory → Outcome B) (g : ℕ → Memory → Outcome C) → BodyRel R ev.inst ew.inst h k → AreIndicesRelated R.of Memories ev.inst.mems ew.inst.mems n m →
      ((a b : ℕ) (x : Memory) → R.of Memories a b → ResRel Q (f a x) (g b x)) → ResRel Q (with_memory ev n f) (with_memory ew m g)
  bind_memory {Q = Q} n m f g r p q =
      bind_found p (λ a b p. bind_found (there (st.mems p)) (λ x y e. subst (λ z. ResRel Q (f a x) (g b z)) e (q a b x p)))

  load_from_rel : {vs ws : List Val} (m : Memory) (o : LoadOp) (offset : ℕ) → ListRel (ValRel R) vs ws → ResRel (ListRel (ValRel R)) (load_from m o offset vs) (load_from m o offset ws)
  load_from_rel m o offset r = bind_num R W32 _ _ r (λ a _ _ r. bind_same (or_trap (slice m.bytes (a + offset) (load_width o))) (λ bytes. done (cons number r)))

  pub load_rel : {h k : Body} {a b : MemArg} (o : LoadOp) → BodyRel R ev.inst ew.inst h k → ArgRel R.of ev.inst ew.inst a b → ResRel (ActOff R off ev.inst ew.inst) (load ev h o a) (load ew k o b)
  load_rel {a = a} {b = b} o r p = rw p.offset (bind_memory a.memory b.memory _ _ r p.memory (λ _ _ m q. on_values_rel R off ev ew st (load_from m o b.offset) r (load_from_rel m o b.offset r.values)))

  writes_rel : {h k : Body} {a b : ℕ} {vs ws : List Val} (m : Outcome Memory) → BodyRel R ev.inst ew.inst h k → R.of Memories a b → ListRel (ValRel R) vs ws → ResRel (ActOff R off ev.inst ew.inst) (writes h a m vs) (writes k b m ws)
  writes_rel m r p v = bind_same m (λ m. done (goes (known (set_memory p)) (values_rel R off ev ew st r v)))

  store_into_rel : {h k : Body} {a b : ℕ} (o : StoreOp) (offset : ℕ) (m : Memory) → BodyRel R ev.inst ew.inst h k → R.of Memories a b → ResRel (ActOff R off ev.inst ew.inst) (store_into h o offset a m) (store_into k o offset b m)
  store_into_rel o offset m r p =
      bind_num R (store_from o) _ _ r.values (λ n _ _ v. bind_num R W32 _ _ v (λ place _ _ v. writes_rel (written m (place + offset) (stored o n)) r p v))

  pub store_rel : {h k : Body} {a b : MemArg} (o : StoreOp) → BodyRel R ev.inst ew.inst h k → ArgRel R.of ev.inst ew.inst a b → ResRel (ActOff R off ev.inst ew.inst) (store ev h o a) (store ew k o b)
  store_rel {a = a} {b = b} o r p = rw p.offset (bind_memory a.memory b.memory _ _ r p.memory (λ _ _ m q. store_into_rel o b.offset m r q))

  pub memory_size_rel : {h k : Body} (n m : ℕ) → BodyRel R ev.inst ew.inst h k → AreIndicesRelated R.of Memories ev.inst.mems ew.inst.mems n m → ResRel (ActOff R off ev.inst ew.inst) (memory_size ev h n) (memory_size ew k m)
  memory_size_rel n m r p = bind_memory n m _ _ r p (λ _ _ m q. pushes_rel R off ev ew st r number)

  pub memory_grow_rel : {h k : Body} (n m : ℕ) → BodyRel R ev.inst ew.inst h k → AreIndicesRelated R.of Memories ev.inst.mems ew.inst.mems n m → ResRel (ActOff R off ev.inst ew.inst) (memory_grow ev h n) (memory_grow ew k m)
  memory_grow_rel n m r p =
      bind_memory n m _ _ r p (λ _ _ m q. bind_num R W32 _ _ r.values (λ c _ _ v. cond_two (ResRel (ActOff R off ev.inst ew.inst)) (memory_may_grow m c) (done (asks_grow (memory_grows q) (values_rel R off ev ew st r v))) (pushes_rel R off ev ew st (values_rel R off ev ew st r v) number)))

  three_rel : {vs ws : List Val} → ListRel (ValRel R) vs ws → ResRel (PairRel (◌≡◌ {A = ℕ × ℕ × ℕ}) (ListRel (ValRel R))) (pop_three vs) (pop_three ws)
  three_rel r = bind_num R W32 _ _ r (λ n _ _ r. bind_num R W32 _ _ r (λ s _ _ r. bind_num R W32 _ _ r (λ d _ _ r. done (record { first = refl; second = r }))))

  -- Related values have the same three numbers on top, so that continuations that agree on these
  -- agree.
  pub bind_three_is : {C D : Type 0} {Q : C → D → Type 0} {vs ws : List Val} (f : (ℕ × ℕ × ℕ) × List Val → Outcome C) (g : (ℕ × ℕ × ℕ) × List Val → Outcome D) → ListRel (ValRel R) vs ws →
      ((n : ℕ × ℕ × ℕ) (xs ys : List Val) → pop_three vs ≡ Gives (n, xs) → ListRel (ValRel R) xs ys → ResRel Q (f (n, xs)) (g (n, ys))) → ResRel Q (bind (pop_three vs) f) (bind (pop_three ws) g)
  bind_three_is {Q = Q} f g r h = bind_rel_is (three_rel r) (λ a b is p. subst (λ z. ResRel Q (f a) (g (z, b.1))) p.first (h a.0 a.1 b.1 is p.second))

  bind_three : {C D : Type 0} {Q : C → D → Type 0} {vs ws : List Val} (f : (ℕ × ℕ × ℕ) × List Val → Outcome C) (g : (ℕ × ℕ × ℕ) × List Val → Outcome D) → ListRel (ValRel R) vs ws → ((n : ℕ × ℕ × ℕ) (xs ys : List Val) → ListRel (ValRel R) xs ys → ResRel Q (f (n, xs)) (g (n, ys))) →
      ResRel Q (bind (pop_three vs) f) (bind (pop_three ws) g)
  bind_three f g r h = bind_three_is f g r (λ n xs ys _ v. h n xs ys v)

  init_memory_rel : {h k : Body} {a b : ℕ} (bytes : List ℕ) (m : Memory) → BodyRel R ev.inst ew.inst h k → R.of Memories a b → ResRel (ActOff R off ev.inst ew.inst) (init_memory h bytes a m) (init_memory k bytes b m)
  init_memory_rel bytes m r p = bind_three _ _ r.values (λ n _ _ v. bind_same (or_trap (slice bytes n.1 n.2)) (λ b. writes_rel (written m n.0 b) r p v))

  pub memory_init_rel : {h k : Body} (s t n m : ℕ) → BodyRel R ev.inst ew.inst h k → AreIndicesRelated R.of DataSegments ev.inst.datas ew.inst.datas s t → AreIndicesRelated R.of Memories ev.inst.mems ew.inst.mems n m →
      ResRel (ActOff R off ev.inst ew.inst) (memory_init ev h s n) (memory_init ew k t m)
  memory_init_rel {h} {k} s t n m r p q =
      bind_found p (λ _ _ p. bind_found (there (st.datas p)) (λ d e eq. subst (λ bytes. ResRel (ActOff R off ev.inst ew.inst) (with_memory ev n (init_memory h d.bytes)) (with_memory ew m (init_memory k bytes))) eq (bind_memory n m _ _ r q (λ _ _ x q. init_memory_rel d.bytes x r q))))

  pub data_drop_rel : {h k : Body} (s t : ℕ) → BodyRel R ev.inst ew.inst h k → AreIndicesRelated R.of DataSegments ev.inst.datas ew.inst.datas s t → ResRel (ActOff R off ev.inst ew.inst) (data_drop ev h s) (data_drop ew k t)
  data_drop_rel s t r p = bind_found p (λ _ _ p. done (goes (known (drop_data p)) r))

  pub memory_copy_rel : {h k : Body} (s t n m : ℕ) → BodyRel R ev.inst ew.inst h k → AreIndicesRelated R.of Memories ev.inst.mems ew.inst.mems n m → AreIndicesRelated R.of Memories ev.inst.mems ew.inst.mems s t → ResRel (ActOff R off ev.inst ew.inst) (memory_copy ev h n s) (memory_copy ew k m t)
  memory_copy_rel s t n m r p q = bind_memory s t _ _ r q (λ _ _ source _. bind_memory n m _ _ r p (λ _ _ x p. init_memory_rel source.bytes x r p))

  pub memory_fill_rel : {h k : Body} (n m : ℕ) → BodyRel R ev.inst ew.inst h k → AreIndicesRelated R.of Memories ev.inst.mems ew.inst.mems n m → ResRel (ActOff R off ev.inst ew.inst) (memory_fill ev h n) (memory_fill ew k m)
  memory_fill_rel n m r p = bind_memory n m _ _ r p (λ _ _ m p. bind_three _ _ r.values (λ n _ _ v. writes_rel (written m n.0 (copies n.2 (n.1 % 256))) r p v))
