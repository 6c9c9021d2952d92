-- The store of parts that are instantiated sequentially corresponds to the store of all parts at
-- once: the entities of the first parts are related, and the others are as they were allocated.
use Rattle.base_lists.proofs.Common.{◌≡◌, ◌∙◌, refl, ap, ℕ, suc, ◌+◌, ◌-◌, ◌<◌, ◌≤◌, List, [], ◌++◌, length, Some, true, inl, inr, arith, slice_get, cases_lt, length-append, append_left, append_right, append_from, zero-add, slice_get_there, both_map, same_there, both_in, self_rel}
use Rattle.wasm_tree_spec.specs.Prelude.{Space, Functions, Tables, Memories, Globals, ElementSegments, DataSegments, Module}
use Rattle.wasm_meaning.specs.Prelude.{Inst, Func, Memory, Data, Store, Part, module_at, Environment, own_store, base, joined_stores, part_store, defined_before}
use Rattle.run_simulation.specs.Prelude.{Pairing, BothRel, both, ListRel, FuncRel, TableRel, GlobalRel, ElemRel, StoreRel, CodeIsRelatedToItself}
use Rattle.merge_proof.proofs.ReachedAddresses.{is_reached, reaching, reached_at, reached_is}
use Rattle.merge_proof.proofs.PartInstantiation.{Sized}
use Rattle.merge_proof.proofs.ClosedStores.{table_more, global_more, elem_more, Closed, Sound, own_func, code, func_self}
use Rattle.world_simulation.proofs.AllocatedStores.{type_same, own_same}
use Rattle.wasm_meaning.specs.Counted.{EachPartAddsItsDefinitions}

-- ---- lists by place ----

pub both_list : {A : Type 0} {P : A → A → Type 0} {ys : List A} → ListRel P ys ys → (j : ℕ) → j < length ys → BothRel P (slice_get ys j) (slice_get ys j)
both_list r = both_in r

-- The added elements are related to the elements that were allocated for them.
joined_both : {A : Type 0} (P : A → A → Type 0) (xs ys zs : List A) (n : ℕ) → length xs ≡ n → ((a : ℕ) → a < n → BothRel P (slice_get xs a) (slice_get zs a)) → ListRel P ys ys → ((j : ℕ) → j < length ys → slice_get zs (n + j) ≡ slice_get ys j) →
    (a : ℕ) → a < n + length ys → BothRel P (slice_get (xs ++ ys) a) (slice_get zs a)
joined_both P xs ys zs n size old self stands a l = elim (cases_lt a n) [
  | inl low ↦ rw (append_left xs ys a (omega arith)) (old a low)
  | inr high ↦
      let place : n + (a - n) ≡ a = omega arith in
      rw place at (added (a - n) (omega arith))
]
  where
    added : (j : ℕ) → j < length ys → BothRel P (slice_get (xs ++ ys) (n + j)) (slice_get zs (n + j))
    added j l = rw (stands j l, ← size, append_right xs ys j) (both_in self j l)

-- ---- how the stores are laid out ----

abbrev pub empty_store : Store
empty_store = record { funcs = []; tables = []; mems = []; globals = []; elems = []; datas = [] }

-- The layout of the allocated store: the store of the first parts, the store that a part adds, and
-- the store of the parts from one on.
pub record Laid (env : Environment) (parts : List Part) (insts : List Inst) (allocated : Store) : Type 0 where
  pub defined_next : EachPartAddsItsDefinitions
  pub first : ℕ → Store
  pub adds : ℕ → Store
  pub rest : ℕ → Store
  pub first_none : first 0 ≡ own_store env
  pub first_sized : (k : ℕ) → k ≤ length parts → Sized env parts k (first k)
  pub parted : (k : ℕ) → k ≤ length parts → allocated ≡ joined_stores (first k) (rest k)
  pub first_next : (k : ℕ) (m : Module) → module_at parts k ≡ Some m → first (suc k) ≡ joined_stores (first k) (adds k)
  pub rest_next : (k : ℕ) (m : Module) → module_at parts k ≡ Some m → rest k ≡ joined_stores (adds k) (rest (suc k))
  pub rest_end : rest (length parts) ≡ empty_store
  pub part_adds : (k : ℕ) (m : Module) (i : Inst) → module_at parts k ≡ Some m → slice_get insts k ≡ Some i → part_store env parts insts k m i ≡ Some (adds k)

-- Beyond the first parts, the store is as it was allocated.
pub record Untouched (env : Environment) (parts : List Part) (p : ℕ) (allocated s : Store) : Type 0 where
  pub tables : (a : ℕ) → base env parts Tables p ≤ a → slice_get s.tables a ≡ slice_get allocated.tables a
  pub mems : (a : ℕ) → base env parts Memories p ≤ a → slice_get s.mems a ≡ slice_get allocated.mems a
  pub globals : (a : ℕ) → base env parts Globals p ≤ a → slice_get s.globals a ≡ slice_get allocated.globals a
  pub elems : (a : ℕ) → defined_before ElementSegments parts p ≤ a → slice_get s.elems a ≡ slice_get allocated.elems a
  pub datas : (a : ℕ) → defined_before DataSegments parts p ≤ a → slice_get s.datas a ≡ slice_get allocated.datas a

-- The sequential store corresponds to the store of all parts at once.
pub record Beside (env : Environment) (parts : List Part) (p : ℕ) (allocated t s : Store) : Type 0 where
  pub related : StoreRel (reaching env parts p) t s
  pub sized : Sized env parts p t
  pub sound : (a : ℕ) (f : Func) → slice_get t.funcs a ≡ Some f → Sound env parts p f
  pub same_funcs : (a : ℕ) → a < base env parts Functions p → slice_get t.funcs a ≡ slice_get allocated.funcs a
  pub all_funcs : s.funcs ≡ allocated.funcs
  pub untouched : Untouched env parts p allocated s

sound_more : (env : Environment) (parts : List Part) (p q : ℕ) (f : Func) → ((k : Space) → base env parts k p ≤ base env parts k q) → Sound env parts p f → Sound env parts q f
sound_more env parts p q f b own_func = own_func
sound_more env parts p q f b (code r) = code (record {
  spaces = λ k n a h. let l = r.spaces k n a h in let m = b k in omega arith;
  elems = λ n a h. let l = r.elems n a h in let m = b ElementSegments in omega arith;
  datas = λ n a h. let l = r.datas n a h in let m = b DataSegments in omega arith;
})

module _ (env : Environment) (parts : List Part) (p : ℕ) where
  -- A relation of the elements at equal addresses holds for related addresses.
  at_reached : (k : Space) {A : Type 0} {P : A → A → Type 0} (xs ys : List A) → ((a : ℕ) → a < base env parts k p → BothRel P (slice_get xs a) (slice_get ys a)) → (a b : ℕ) → is_reached env parts p k a b ≡ true → BothRel P (slice_get xs a) (slice_get ys b)
  at_reached k xs ys h a b r = let x = reached_is env parts p k a b r in rw (← x.0) (h a x.1)

  -- Two stores are related if their elements at equal addresses are.
  pub stores_related : (t s : Store) → ((a : ℕ) → a < base env parts Functions p → BothRel (FuncRel (reaching env parts p)) (slice_get t.funcs a) (slice_get s.funcs a)) →
      ((a : ℕ) → a < base env parts Tables p → BothRel (TableRel (reaching env parts p)) (slice_get t.tables a) (slice_get s.tables a)) → ((a : ℕ) → a < base env parts Memories p → BothRel (λ (x y : Memory). x ≡ y) (slice_get t.mems a) (slice_get s.mems a)) →
      ((a : ℕ) → a < base env parts Globals p → BothRel (GlobalRel (reaching env parts p)) (slice_get t.globals a) (slice_get s.globals a)) → ((a : ℕ) → a < defined_before ElementSegments parts p → BothRel (ElemRel (reaching env parts p)) (slice_get t.elems a) (slice_get s.elems a)) →
      ((a : ℕ) → a < defined_before DataSegments parts p → BothRel (λ (x y : Data). x.bytes ≡ y.bytes) (slice_get t.datas a) (slice_get s.datas a)) → StoreRel (reaching env parts p) t s
  stores_related t s f ta me g e d = record {
    types = λ {a} {b} r. type_same (reaching env parts p) (at_reached Functions t.funcs s.funcs f a b r);
    owns = λ {a} {b} r. own_same (reaching env parts p) (at_reached Functions t.funcs s.funcs f a b r);
    funcs = λ {a} {b} r _. at_reached Functions t.funcs s.funcs f a b r;
    tables = λ {a} {b}. at_reached Tables t.tables s.tables ta a b;
    mems = λ {a} {b}. at_reached Memories t.mems s.mems me a b;
    globals = λ {a} {b}. at_reached Globals t.globals s.globals g a b;
    elems = λ {a} {b}. at_reached ElementSegments t.elems s.elems (λ a l. e a (omega arith)) a b;
    datas = λ {a} {b}. at_reached DataSegments t.datas s.datas (λ a l. d a (omega arith)) a b;
  }

-- ---- the next part is added ----

-- The entities of an index space in a store, and their number after a number of parts.
record Counts (env : Environment) (parts : List Part) (k : Space) {A : Type 0} (get : Store → List A) : Type 0 where
  joins : (s t : Store) → get (joined_stores s t) ≡ get s ++ get t
  sized : (q : ℕ) (t : Store) → Sized env parts q t → length (get t) ≡ base env parts k q

module _ (env : Environment) (parts : List Part) where
  funcs_count : Counts env parts Functions (λ s. s.funcs)
  funcs_count = record { joins = λ s t. refl; sized = λ q t z. z.funcs }

  tables_count : Counts env parts Tables (λ s. s.tables)
  tables_count = record { joins = λ s t. refl; sized = λ q t z. z.tables }

  mems_count : Counts env parts Memories (λ s. s.mems)
  mems_count = record { joins = λ s t. refl; sized = λ q t z. z.mems }

  globals_count : Counts env parts Globals (λ s. s.globals)
  globals_count = record { joins = λ s t. refl; sized = λ q t z. z.globals }

  elems_count : Counts env parts ElementSegments (λ s. s.elems)
  elems_count = record { joins = λ s t. refl; sized = λ q t z. rw zero-add z.elems }

  datas_count : Counts env parts DataSegments (λ s. s.datas)
  datas_count = record { joins = λ s t. refl; sized = λ q t z. rw zero-add z.datas }

module _ (law : CodeIsRelatedToItself) (env : Environment) (parts : List Part) (insts : List Inst) (allocated : Store) (laid : Laid env parts insts allocated) (p : ℕ) (m : Module) (is_part : module_at parts p ≡ Some m) (within : suc p ≤ length parts) where
  base_more : (k : Space) → base env parts k p ≤ base env parts k (suc p)
  base_more k = let n = laid.defined_next k parts p m is_part in omega arith

  pub more : (k : Space) (a b : ℕ) → is_reached env parts p k a b ≡ true → is_reached env parts (suc p) k a b ≡ true
  more k a b h = let r = reached_is env parts p k a b h in let c = base_more k in rw (← r.0) (reached_at env parts (suc p) k a (omega (arith, r.1)))

  module _ {k : Space} {A : Type 0} {get : Store → List A} (counts : Counts env parts k get) where
    abbrev mine : List A
    mine = get (laid.adds p)

    counted : base env parts k (suc p) ≡ base env parts k p + length mine
    counted =
        let before = counts.sized p (laid.first p) (laid.first_sized p (omega arith)) in
        let after = counts.sized (suc p) (laid.first (suc p)) (laid.first_sized (suc p) within) in
        let both = length-append (get (laid.first p)) mine in
        let next = rw (laid.first_next p m is_part, counts.joins) at after in
        omega arith

    -- The entities that were allocated for the part come after those of the first parts.
    stands : (j : ℕ) → j < length mine → slice_get (get allocated) (base env parts k p + j) ≡ slice_get mine j
    stands j l =
        let before = counts.sized p (laid.first p) (laid.first_sized p (omega arith)) in
        rw (laid.parted p (omega arith), counts.joins (laid.first p) (laid.rest p), ← before, append_right (get (laid.first p)) (get (laid.rest p)) j, laid.rest_next p m is_part, counts.joins (laid.adds p) (laid.rest (suc p)))
        (append_left mine (get (laid.rest (suc p))) j l)

    grown : (t : Store) → Sized env parts p t → length (get t ++ mine) ≡ base env parts k (suc p)
    grown t z = let old = counts.sized p t z in let new = counted in simp length-append (omega arith)

    next_both : (P : A → A → Type 0) (t s : Store) → Sized env parts p t → ((a : ℕ) → a < base env parts k p → BothRel P (slice_get (get t) a) (slice_get (get s) a)) → ListRel P mine mine → ((a : ℕ) → base env parts k p ≤ a → slice_get (get s) a ≡ slice_get (get allocated) a) →
        (a : ℕ) → a < base env parts k (suc p) → BothRel P (slice_get (get t ++ mine) a) (slice_get (get s) a)
    next_both P t s z old self same a l = joined_both P (get t) mine (get s) (base env parts k p) (counts.sized p t z) old self (λ j l. same (base env parts k p + j) (omega arith) ∙ stands j l) a (rw (← counted) l)

  -- The functions of the first parts and of the next part reach nothing beyond these parts.
  pub sound_joined : (fs : List Func) → ((a : ℕ) (f : Func) → slice_get fs a ≡ Some f → Sound env parts p f) → ((n : ℕ) (f : Func) → slice_get (laid.adds p).funcs n ≡ Some f → Sound env parts (suc p) f) → (a : ℕ) (f : Func) → slice_get (fs ++ (laid.adds p).funcs) a ≡ Some f →
      Sound env parts (suc p) f
  sound_joined fs old new a f e = elim (append_from fs (laid.adds p).funcs a f e) [
    | inl low ↦ sound_more env parts p (suc p) f base_more (old a f low)
    | inr high ↦ new high.0 f high.2
  ]

  pub at_allocated_funcs : (j : ℕ) → j < length (laid.adds p).funcs → slice_get allocated.funcs (base env parts Functions p + j) ≡ slice_get (laid.adds p).funcs j
  at_allocated_funcs = stands (funcs_count env parts)

  module _ (t s : Store) (h : Beside env parts p allocated t s) (closed : Closed (reaching env parts (suc p)) (laid.adds p)) (sound_adds : (n : ℕ) (f : Func) → slice_get (laid.adds p).funcs n ≡ Some f → Sound env parts (suc p) f) where
    abbrev R : Pairing
    R = reaching env parts p

    abbrev Q : Pairing
    Q = reaching env parts (suc p)

    old_func : (a : ℕ) → a < base env parts Functions p → (f : Func) × (slice_get t.funcs a ≡ Some f)
    old_func a l = let z = h.sized.funcs in slice_get_there t.funcs a (omega arith)

    old_funcs : (a : ℕ) → a < base env parts Functions p → BothRel (FuncRel Q) (slice_get t.funcs a) (slice_get s.funcs a)
    old_funcs a l =
        let x = old_func a l in
        rw (h.all_funcs, ← h.same_funcs a l, x.1) (both (func_self law env parts (suc p) x.0 (sound_more env parts p (suc p) x.0 base_more (h.sound a x.0 x.1))))

    pub beside_next : Beside env parts (suc p) allocated (joined_stores t (laid.adds p)) s
    beside_next = record {
      related = stores_related env parts (suc p) (joined_stores t (laid.adds p)) s
          (next_both (funcs_count env parts) (FuncRel Q) t s h.sized old_funcs closed.funcs (λ a l. ap (λ fs. slice_get fs a) h.all_funcs))
          (next_both (tables_count env parts) (TableRel Q) t s h.sized (λ a l. both_map (table_more R Q more) (h.related.tables (reached_at env parts p Tables a l))) closed.tables h.untouched.tables)
          (next_both (mems_count env parts) (λ x y. x ≡ y) t s h.sized (λ a l. h.related.mems (reached_at env parts p Memories a l)) (self_rel _ (λ x. refl)) h.untouched.mems)
          (next_both (globals_count env parts) (GlobalRel Q) t s h.sized (λ a l. both_map (global_more R Q more) (h.related.globals (reached_at env parts p Globals a l))) closed.globals h.untouched.globals)
          (λ a l. next_both (elems_count env parts) (ElemRel Q) t s h.sized (λ a l. both_map (elem_more R Q more) (h.related.elems (reached_at env parts p ElementSegments a l))) closed.elems (λ a l. h.untouched.elems a (omega arith)) a (omega arith))
          (λ a l. next_both (datas_count env parts) (λ x y. x.bytes ≡ y.bytes) t s h.sized (λ a l. h.related.datas (reached_at env parts p DataSegments a l)) (self_rel _ (λ x. refl)) (λ a l. h.untouched.datas a (omega arith)) a (omega arith));
      sized = record {
        funcs = grown (funcs_count env parts) t h.sized;
        tables = grown (tables_count env parts) t h.sized;
        mems = grown (mems_count env parts) t h.sized;
        globals = grown (globals_count env parts) t h.sized;
        elems = rw zero-add at (grown (elems_count env parts) t h.sized);
        datas = rw zero-add at (grown (datas_count env parts) t h.sized);
      };
      sound = sound_joined t.funcs h.sound sound_adds;
      same_funcs = λ a l. same_there (next_both (funcs_count env parts) (λ x y. x ≡ y) t allocated h.sized (λ a l. rw (← h.same_funcs a l, (old_func a l).1) (both refl)) (self_rel _ (λ x. refl)) (λ a l. refl) a l);
      all_funcs = h.all_funcs;
      untouched = record {
        tables = λ a l. h.untouched.tables a (let c = base_more Tables in omega arith);
        mems = λ a l. h.untouched.mems a (let c = base_more Memories in omega arith);
        globals = λ a l. h.untouched.globals a (let c = base_more Globals in omega arith);
        elems = λ a l. h.untouched.elems a (let c = base_more ElementSegments in omega arith);
        datas = λ a l. h.untouched.datas a (let c = base_more DataSegments in omega arith);
      };
    }
