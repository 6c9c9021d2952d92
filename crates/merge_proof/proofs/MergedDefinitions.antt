-- The definitions of the parts correspond to those of the merged module: each is in the merged
-- module at its number among all definitions of its index space.
use Rattle.wasm_tree_spec.specs.Prelude.{Functions, Tables, Memories, Globals, ElementSegments, DataSegments, Space, Module, GlobalDef, ElemSeg}
use Rattle.merge_proof.proofs.ListsByPart.{by_part_flat, by_part_at, by_part_back}
use Rattle.base_lists.proofs.Common.{◌≡◌, refl, ℕ, suc, ◌+◌, List, ◌++◌, map, length, [], append-nil, ◌∷◌, Option, Some, inl, inr, arith, add-zero, add_next, zero-add, slice_get, all_there_at, is_some_there, slice_get_there, map_at, map_from, append_at_left, append_from, list_all_each, length-map}
use Rattle.base_lists.proofs.Common.{right_there, left_there, map-id}
use Rattle.wasm_meaning.specs.Prelude.{Inst, Store, Part, module_at, new_func, defined_count, base, defined_before, insts_from, own_store, joined_stores, part_store, stores_from, Environment}
use Rattle.run_simulation.specs.Prelude.{Pairing, OptRel}
use Rattle.index_remap.specs.Prelude.{declared_refs, fits_func, new_func as renumbered_func}
use Rattle.merge_names.specs.declared.mode.Mode.{Mode}
use Rattle.merge_spec.specs.Prelude.{joined_module, map_of, by_part_from, starts, start_calls, merged_global, merged_elem, merged_data}
use Rattle.merge_spec.specs.Merged.{defined_funcs, merged}
use Rattle.merge_proof.proofs.ValueLaws.{Laws, func_typed, EachAgrees, global_typed, item_typed}
use Rattle.merge_proof.proofs.MergedAlone.{joined_keeps, names_of}
use Rattle.world_simulation.specs.Prelude.{one, last_segments, ElemsAlike, Instantiated, DefinedAt, values_in, FuncsAt, GlobalsCorrespond, Partners, DefinitionsCorrespond}
use Rattle.base_lists.proofs.Related.{both_or_none, placed_rel}
use Rattle.world_simulation.proofs.AllocatedStores.{global_rel, elem_rel, alike_correspond}
use Rattle.merge_proof.specs.Joinable.{CanBeJoined}
use Rattle.wasm_valid.specs.Prelude.{IsValid}
use Rattle.merge_proof.specs.SharedAddresses.{sharing}
use Rattle.merge_proof.proofs.SharedPairing.{is_same}
use Rattle.merge_proof.proofs.ConstantValues.{is_inst, func_count, const_rel}
use Rattle.merge_proof.proofs.NamedEntities.{funcs_correspond}
use Rattle.world_simulation.specs.CorrespondingDefinitions as partners
use Rattle.merge_proof.proofs.AddressOrigins as stand

-- ---- the store of all parts ----

module _ (env : Environment) (all : List Part) (insts : List Inst) where
  -- Each part can be allocated.
  abbrev pub EachAdds : ℕ → List Part → List Inst → Type 0
  EachAdds p rest is = (q : ℕ) (m : Module) (i : Inst) → module_at rest q ≡ Some m → slice_get is q ≡ Some i → (t : Store) × (part_store env all insts (p + q) m i ≡ Some t)

  pub stores_there : (s : Store) (p : ℕ) (rest : List Part) (is : List Inst) → EachAdds p rest is → (z : Store) × (stores_from env all insts s p rest is ≡ Some z)
  stores_there s p (part ∷ rest) (i ∷ is) h =
      let t = rw add-zero at (h 0 part.«module» i refl refl) in
      let r = stores_there (joined_stores s t.0) (suc p) rest is (λ q. rw (← add_next p q) (h (suc q))) in
      (r.0, rw (t.1, r.1))
  stores_there s p _ _ h = (s, refl)

-- ---- the lists of the merged module, by part; then what is added to them ----

-- The functions that the segment added by joining declares.
abbrev pub declared_in : List Part → Mode → List ℕ
declared_in parts mode = declared_refs (merged parts (names_of parts mode))

-- The definitions of an index space of the merged module: the renumbered definitions of the parts,
-- by part, and then added ones.
pub record Joins (parts : List Part) (mode : Mode) (k : Space) {A : Type 0} (definitions : Module → List A) (new : ℕ → Module → A → A) (more : List A) : Type 0 where
  pub counts : (m : Module) → defined_count k m ≡ length (definitions m)
  pub is : definitions (joined_module parts mode) ≡ by_part_from (λ p m. map (new p m) (definitions m)) 0 parts ++ more

pub record AllJoin (parts : List Part) (mode : Mode) : Type 0 where
  pub funcs : Joins parts mode Functions (λ m. m.funcs) (λ p m. renumbered_func (map_of parts p m)) (start_calls parts (starts parts))
  pub tables : Joins parts mode Tables (λ m. m.tables) (λ p m t. t) []
  pub mems : Joins parts mode Memories (λ m. m.mems) (λ p m l. l) []
  pub globals : Joins parts mode Globals (λ m. m.globals) (λ p m. merged_global parts p) []
  pub elems : Joins parts mode ElementSegments (λ m. m.elems) (λ p m. merged_elem parts p (map_of parts p m)) (last_segments (declared_in parts mode))
  pub datas : Joins parts mode DataSegments (λ m. m.datas) (λ p m. merged_data parts p (map_of parts p m)) []

pub all_join : (parts : List Part) (mode : Mode) → AllJoin parts mode
unfolding merged defined_funcs
all_join parts mode =
    let d = joined_keeps parts mode in
    record {
      funcs = grind arith;
      tables = grind (arith, map-id, append-nil, by_part_flat (λ m. m.tables) 0 parts);
      mems = grind (arith, map-id, append-nil, by_part_flat (λ m. m.mems) 0 parts);
      globals = grind (arith, append-nil);
      elems = grind arith;
      datas = grind (arith, append-nil);
    }

-- ---- one definition ----

-- The function `f` gives a value for each entry of the list.
abbrev EachThere : {A B : Type 0} → (A → Option B) → List A → Type 0
EachThere {A} {B} f xs = (n : ℕ) (x : A) → slice_get xs n ≡ Some x → (y : B) × (f x ≡ Some y)

module _ (laws : Laws) (env : Environment) (parts : List Part) (mode : Mode) (can : CanBeJoined parts mode) (insts : List Inst) (j : Inst) (each : EachAgrees env parts insts j) (are : insts_from env (one (joined_module parts mode)) 0 (one (joined_module parts mode)) ≡ Some (j ∷ [])) where
  abbrev J : Module
  J = joined_module parts mode

  abbrev M : List Part
  M = one J

  abbrev R : Pairing
  R = sharing env parts

  abbrev v : Instantiated
  v = record { parts = parts; insts = insts }

  abbrev w : Instantiated
  w = record { parts = M; insts = j ∷ [] }

  module _ (p : ℕ) (m : Module) (is : module_at parts p ≡ Some m) where
    globals_alike : (n : ℕ) (g : GlobalDef) → slice_get m.globals n ≡ Some g → GlobalsCorrespond R (values_in env v p) (values_in env w 0) g (merged_global parts p g)
    globals_alike n g h = record { type = refl; init = const_rel laws env parts mode can insts j each are p m _ _ is (global_typed laws m (can.valid p m is) n g h) }

    elems_alike : (n : ℕ) (e : ElemSeg) → slice_get m.elems n ≡ Some e → ElemsAlike R (values_in env v p) (values_in env w 0) e (merged_elem parts p (map_of parts p m) e)
    elems_alike n e h = record {
      declarative = grind arith;
      items = placed_rel _ _ (λ l x at. const_rel laws env parts mode can insts j each are p m _ _ is (item_typed laws m (can.valid p m is) n e h l x at));
    }

  -- ---- the place of a definition in the merged module ----

  module _ {k : Space} {A : Type 0} {definitions : Module → List A} {new : ℕ → Module → A → A} {more : List A} (q : Joins parts mode k definitions new more) where
    -- A definition of a part, and the definition that it becomes in the merged module, at its
    -- number among all.
    module _ (p : ℕ) (m : Module) (is : module_at parts p ≡ Some m) (n : ℕ) (x : A) (h : slice_get (definitions m) n ≡ Some x) where
      becomes : slice_get (definitions J) (defined_before k parts p + n) ≡ Some (new p m x)
      becomes =
          let there = by_part_at (λ p m. map (new p m) (definitions m)) k (λ p m. grind (arith, length-map, q.counts)) 0 parts p m n (new p m x) is (grind (arith, map_at)) in
          grind (arith, q.is, append_at_left)

      abbrev stood : {a : ℕ} → a ≡ base env parts k p + n → DefinedAt env v k definitions a
      stood e = let i = each p m is in record { part = p; of = m; is_part = is; inst = i.0; is_inst = i.1; place = n; definition = x; stands = h; address = e }

      abbrev moved : {a : ℕ} → a ≡ base env parts k p + n → DefinedAt env w k definitions a
      moved e = record { part = 0; of = J; is_part = refl; inst = j; is_inst = refl; place = defined_before k parts p + n; definition = new p m x; stands = becomes; address = omega arith }

    partner : {correspond : ℕ → Inst → A → ℕ → Inst → A → Type 0} → ((p : ℕ) (m : Module) (is : module_at parts p ≡ Some m) (n : ℕ) (x : A) → slice_get (definitions m) n ≡ Some x → correspond p (each p m is).0 x 0 j (new p m x)) →
        (a b : ℕ) → R.of k a b → Partners env v w k definitions correspond a b
    partner alike a b r =
        let same = is_same env parts k a b r in
        elim (stand.stands env parts k a same.1) [
          | stand.own low ↦ partners.own same.0 low
          | stand.defined p m n is low at ↦
              let x = slice_get_there (definitions m) n (grind (arith, q.counts)) in
              partners.defined (stood p m is n x.0 x.1 at) (moved p m is n x.0 x.1 (cc)) (alike p m is n x.0 x.1)
        ]

    -- The function `f` gives a value for each definition of the merged module, if it does for the
    -- renumbered definitions of each part and for those that are added.
    merged_there : {B : Type 0} (f : A → Option B) → ((p : ℕ) (m : Module) → module_at parts p ≡ Some m → EachThere (λ x. f (new p m x)) (definitions m)) → EachThere f more → EachThere f (definitions J)
    merged_there f part last n x h = elim (append_from _ more n x (rw q.is at h)) [
      | inl g ↦
          let r = by_part_back _ 0 parts n x g in
          let o = map_from _ _ r.place x (rw zero-add at r.got) in
          rw (← o.2) (part r.part r.«module» r.is_part r.place o.0 o.1)
      | inr l ↦ last l.0 x l.2
    ]

  abbrev joins : AllJoin parts mode
  joins = all_join parts mode

  pub definitions_correspond : DefinitionsCorrespond R env v w
  definitions_correspond = record {
    funcs = λ a. partner joins.funcs (λ p m is n f h. FuncsAt.alike (funcs_correspond env parts p m _ j (each p m is).2 laws f (list_all_each (fits_func (map_of parts p m)) m.funcs (grind (arith, laws.entries parts p m (can.valid p m is))) n f h))) a;
    tables = partner joins.tables (λ p m is n x h. refl);
    mems = partner joins.mems (λ p m is n x h. refl);
    globals = partner joins.globals globals_alike;
    elems = partner joins.elems (λ p m is n e h. alike_correspond R _ _ (elems_alike p m is n e h));
    datas = partner joins.datas (λ p m is n x h. refl);
  }

  -- ---- both stores exist, or neither ----

  -- Each function of a valid module can be allocated, since its type is among those of the module.
  funcs_there : (m : Module) (i : Inst) → IsValid m → i.types ≡ m.types → EachThere (new_func i) m.funcs
  funcs_there m i valid types n f h =
      is_some_there (new_func i f) (grind (arith, slice_get_there i.types f.ty (rw types (func_typed laws m valid n f h))))

  pub stores_both : OptRel (λ s z. Unit {0}) (stores_from env parts insts (own_store env) 0 parts insts) (stores_from env M (j ∷ []) (own_store env) 0 M (j ∷ []))
  stores_both = both_or_none _ _ (λ s z e f. tt)
      (λ s made.
      let last = laws.declared env J j (merged parts (names_of parts mode)) (grind (arith, func_count laws env J j are, joined_keeps parts mode)) in
      let whole = laws.added env M (j ∷ []) 0 J j
      (funcs_there J j (laws.valid parts mode can) (is_inst laws env J j are).types)
      (merged_there joins.globals _ (λ p m is n g h. right_there (global_rel R _ _ (globals_alike p m is n g h)) ((laws.placed env v s made).globals (stood joins.globals p m is n g h refl)).2) (λ n x h. cc))
      (merged_there joins.elems _ (λ p m is n e h. right_there (elem_rel R _ _ (elems_alike p m is n e h)) ((laws.placed env v s made).elems (stood joins.elems p m is n e h refl)).2)
      -- The segment that declares references can be allocated.
      (λ n e h. let r = all_there_at _ _ _ last.1 n e h in (r.0, r.1))) in
      is_some_there _ (grind (arith, whole)))
      (λ z made. stores_there env parts insts (own_store env) 0 parts insts (λ p m i is there.
      let x = each p m is in
      let same : x.0 ≡ i = cc in
      rw (zero-add, ← same) (laws.added env parts insts p m x.0
      (funcs_there m x.0 (can.valid p m is) x.2.own_types)
      (λ n g h. left_there (global_rel R _ _ (globals_alike p m is n g h)) ((laws.placed env w z made).globals (moved joins.globals p m is n g h refl)).2)
      (λ n e h. left_there (elem_rel R _ _ (elems_alike p m is n e h)) ((laws.placed env w z made).elems (moved joins.elems p m is n e h refl)).2))))
