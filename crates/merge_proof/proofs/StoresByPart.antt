-- The store of all parts at once is the store of the first parts, joined with the store that the
-- rest add.
use Rattle.base_lists.proofs.Common.{◌≡◌, ◌∙◌, sym, ap, ℕ, zero, suc, ◌+◌, ◌-◌, ◌<◌, ◌≤◌, List, [], ◌∷◌, length, Option, Some, None, append_assoc, arith, add-zero, zero-add, slice_get, slice_get_there, slice_get_within, refl, append-nil, length-append, and_then_is, same_Some, add_next}
use Rattle.base_lists.proofs.Common.{all_there_length, length-map}
use Rattle.base_lists.specs.Options.{◌>>=◌}
use Rattle.wasm_tree_spec.specs.Prelude.{Space, Functions, Tables, Memories, Globals, ElementSegments, DataSegments, Module}
use Rattle.wasm_meaning.specs.Prelude.{Inst, Store, Part, module_at, Environment, base, defined_before, value_of, part_store, joined_stores, own_store, stores_from}
use Rattle.world_simulation.specs.Prelude.{AddsWith, Allocates}
use Rattle.world_simulation.proofs.AllocatedParts.{stands}
use Rattle.merge_proof.proofs.JoinedImports.{module_is}
use Rattle.merge_proof.proofs.PartInstantiation.{Sized}
use Rattle.merge_proof.proofs.SideBySideStores.{empty_store}
use Rattle.merge_proof.proofs.AddressOrder.{base_next}
use Rattle.wasm_meaning.specs.Counted.{EachPartAddsItsDefinitions}

abbrev pub or_no_store : Option Store → Store
or_no_store None = empty_store
or_no_store (Some s) = s

pub joined_none : (s : Store) → joined_stores s empty_store ≡ s
joined_none s = simp append-nil

pub joined_twice : (s t u : Store) → joined_stores (joined_stores s t) u ≡ joined_stores s (joined_stores t u)
joined_twice s t u = simp append_assoc

-- The rules for the number of entities that a part adds.
ruleset counts = (arith, all_there_length, length-map)

module _ (env : Environment) (parts : List Part) (insts : List Inst) where
  -- The store that part k adds.
  abbrev pub added_at : ℕ → Option Store
  added_at k = module_at parts k >>= λ m. slice_get insts k >>= (part_store env parts insts k m)

  -- The store that a number of parts from part k on add.
  abbrev pub rest_for : (count k : ℕ) → Store
  rest_for zero k = empty_store
  rest_for (suc count) k = joined_stores (or_no_store (added_at k)) (rest_for count (suc k))

  -- The store that all parts from part k on add.
  abbrev pub rest_from : ℕ → Store
  rest_from k = rest_for (length parts - k) k

  -- The store of the environment and the first k parts.
  abbrev pub first_stores : ℕ → Store
  first_stores zero = own_store env
  first_stores (suc k) = joined_stores (first_stores k) (or_no_store (added_at k))

  -- A store has as many entities of each kind as the environment and the first k parts.
  abbrev pub Lengths : ℕ → Store → Type 0
  Lengths = Sized env parts

  pub rest_at : (k : ℕ) (m : Module) → module_at parts k ≡ Some m → rest_from k ≡ joined_stores (or_no_store (added_at k)) (rest_from (suc k))
  rest_at k m is_part =
      let b = and_then_is (slice_get parts k) (λ part. Some part.«module») m is_part in
      let l = slice_get_within parts k b.0 b.1 in
      let n : length parts - k ≡ suc (length parts - suc k) = omega arith in
      rw n

  module _ (k : ℕ) (m : Module) (i : Inst) (a : Store) (is_part : module_at parts k ≡ Some m) (is_inst : slice_get insts k ≡ Some i) (is_added : part_store env parts insts k m i ≡ Some a) where
    pub added_is : added_at k ≡ Some a
    added_is = rw (is_part, is_inst, is_added)

    pub rest_next : rest_from k ≡ joined_stores a (rest_from (suc k))
    rest_next = rest_at k m is_part ∙ rw added_is

    pub first_next : first_stores (suc k) ≡ joined_stores (first_stores k) a
    first_next = rw added_is

  module _ (defined_next : EachPartAddsItsDefinitions) (k : ℕ) (m : Module) (i : Inst) (a : Store) (is_part : module_at parts k ≡ Some m) (is_inst : slice_get insts k ≡ Some i) (is_added : part_store env parts insts k m i ≡ Some a) where
    pub lengths_next : (t : Store) → Lengths k t → Lengths (suc k) (joined_stores t a)
    lengths_next t h = record {
      funcs = counted {s = Functions} {get = λ s. s.funcs} (search counts) h.funcs;
      tables = counted {s = Tables} {get = λ s. s.tables} (search counts) h.tables;
      mems = counted {s = Memories} {get = λ s. s.mems} (search counts) h.mems;
      globals = counted {s = Globals} {get = λ s. s.globals} (search counts) h.globals;
      elems = rw zero-add at (counted {s = ElementSegments} {get = λ s. s.elems} (search counts) (rw zero-add h.elems));
      datas = rw zero-add at (counted {s = DataSegments} {get = λ s. s.datas} (search counts) (rw zero-add h.datas));
    }
      where
        counted : {s : Space} {A : Type 0} {get : Store → List A} → Allocates s get → length (get t) ≡ base env parts s k → length (get (joined_stores t a)) ≡ base env parts s (suc k)
        counted {s} {get = get} allocates old =
            let adds : AddsWith (value_of env parts insts k) m i a = search (arith, is_added) in
            let added = allocates.many _ m i a adds in
            let next = base_next env parts defined_next s k m is_part in
            rw (allocates.joins t a) (simp length-append (omega arith))

  pub rest_last : rest_from (length parts) ≡ empty_store
  rest_last = let n : length parts - length parts ≡ 0 = omega arith in rw n

  pub lengths_first : Lengths 0 (own_store env)
  lengths_first =
      let none : (k : Space) → defined_before k parts 0 ≡ 0 = λ k. elim parts as (λ ps. defined_before k ps 0 ≡ 0) [ [] ↦ refl | part ∷ ps ↦ refl ] in
      record {
        funcs = simp (none, add-zero);
        tables = simp (none, add-zero);
        mems = simp (none, add-zero);
        globals = simp (none, add-zero);
        elems = simp none;
        datas = simp none;
      }

  -- ---- the store of all parts ----

  -- The store of the first parts, joined with the store of the parts after them, is that of all of
  -- these.
  joined_rest : (n k : ℕ) → joined_stores (first_stores k) (rest_for n k) ≡ first_stores (n + k)
  joined_rest zero k = joined_none (first_stores k) ∙ rw zero-add
  joined_rest (suc n) k = rw (← add_next n k) (sym (joined_twice (first_stores k) _ (rest_for n (suc k))) ∙ joined_rest n (suc k))

  from : (p : ℕ) (ps : List Part) (is : List Inst) (u : Store) → ((q : ℕ) → module_at ps q ≡ module_at parts (p + q)) → ((q : ℕ) → slice_get is q ≡ slice_get insts (p + q)) → length is ≡ length ps → stores_from env parts insts (first_stores p) p ps is ≡ Some u → u ≡ first_stores (length ps + p)
  from p (part ∷ ps) (i ∷ is) u f g e h =
      let t = and_then_is (part_store env parts insts p part.«module» i) _ u h in
      let first = first_next p part.«module» i t.0 (rw add-zero at (sym (f 0))) (rw add-zero at (sym (g 0))) t.1 in
      rw (← add_next (length ps) p) (from (suc p) ps is u (λ q. f (suc q) ∙ ap (module_at parts) (add_next p q)) (λ q. g (suc q) ∙ ap (slice_get insts) (add_next p q)) (omega arith) (rw first t.2))
  from p [] is u f g e h = rw zero-add (sym (same_Some _ _ h))
  from p (part ∷ ps) [] u f g e h = absurd (omega arith)

  module _ (allocated : Store) (stores_are : stores_from env parts insts (own_store env) 0 parts insts ≡ Some allocated) (size : length insts ≡ length parts) where
    pub part_adds : (k : ℕ) (m : Module) (i : Inst) → module_at parts k ≡ Some m → slice_get insts k ≡ Some i → (a : Store) × (part_store env parts insts k m i ≡ Some a)
    part_adds k m i is_part is_inst =
        let r = stands env parts insts {k = Functions} {get = λ s. s.funcs} (search counts) 0 parts insts (own_store env) allocated stores_are k m i is_part is_inst in
        let a = rw zero-add at r.adds in
        (r.added, rw (a.funcs, a.globals, a.elems, ← a.tables, ← a.mems, ← a.datas))

    whole_at : (k : ℕ) → k ≤ length parts → allocated ≡ joined_stores (first_stores k) (rest_from k)
    whole_at k l =
        let n : length parts + 0 ≡ length parts - k + k = omega arith in
        from 0 parts insts allocated (λ q. rw zero-add) (λ q. rw zero-add) size stores_are ∙ rw n (sym (joined_rest (length parts - k) k))

    pub allocated_whole : allocated ≡ joined_stores (own_store env) (rest_from 0)
    allocated_whole = whole_at 0 (omega arith)

    -- Each part has its instance.
    pub inst_there : (k : ℕ) → k < length parts → (m : Module) × (i : Inst) × (module_at parts k ≡ Some m) × (slice_get insts k ≡ Some i)
    inst_there k l =
        let p = slice_get_there parts k l in
        let i = slice_get_there insts k (omega arith) in
        (p.0.«module», i.0, module_is parts k p.0 p.1, i.1)

    pub record FirstParts (k : ℕ) : Type 0 where
      pub whole : allocated ≡ joined_stores (first_stores k) (rest_from k)
      pub lengths : Lengths k (first_stores k)

    first_lengths : EachPartAddsItsDefinitions → (k : ℕ) → k ≤ length parts → Lengths k (first_stores k)
    first_lengths next zero l = lengths_first
    first_lengths next (suc k) l =
        let t = inst_there k (omega arith) in
        let a = part_adds k t.0 t.1 t.2 t.3 in
        rw (first_next k t.0 t.1 a.0 t.2 t.3 a.1) (lengths_next next k t.0 t.1 a.0 t.2 t.3 a.1 (first_stores k) (first_lengths next k (omega arith)))

    pub first_parts : EachPartAddsItsDefinitions → (k : ℕ) → k ≤ length parts → FirstParts k
    first_parts next k l = record { whole = whole_at k l; lengths = first_lengths next k l }
