-- The entities that a part adds to the store are there at the addresses of the part.
use Rattle.base_lists.proofs.Common.{◌≡◌, ℕ, zero, suc, ◌+◌, List, ◌∷◌, length, Option, Some, arith, add-zero, slice_get, same_Some, length-append, length-map, append_at_left, append_right, and_then_is, is_some_there, all_there_length, all_there_from, add_next}
use native.Mathlib.Nat.{add_assoc}
use Rattle.wasm_tree_spec.specs.Prelude.{Space, Functions, Tables, Memories, Globals, ElementSegments, DataSegments, ConstExpr, GlobalDef, ElemSeg, Module}
use Rattle.wasm_tree.specs.declared.module.Func as tree
use Rattle.wasm_meaning.specs.Prelude.{Val, Inst, Func, Global, Elem, Store, Part, module_at, Environment, defined_before, new_func, new_global, elem_of, value_of, store_with, part_store, stores_from}
use Rattle.world_simulation.specs.AllocatedParts.{Adds, AddsWith, Allocates}

-- ---- what one part adds ----

pub adds_with : (value : ConstExpr → Option Val) (m : Module) (i : Inst) (t : Store) → store_with value m i ≡ Some t → AddsWith value m i t
adds_with value m i t h = search arith

-- A part adds as many entities of each kind as it defines.
ruleset counts = (arith, all_there_length, length-map)

pub funcs_allocate : Allocates Functions (λ s. s.funcs)
funcs_allocate = search counts

pub tables_allocate : Allocates Tables (λ s. s.tables)
tables_allocate = search counts

pub mems_allocate : Allocates Memories (λ s. s.mems)
mems_allocate = search counts

pub globals_allocate : Allocates Globals (λ s. s.globals)
globals_allocate = search counts

pub elems_allocate : Allocates ElementSegments (λ s. s.elems)
elems_allocate = search counts

pub datas_allocate : Allocates DataSegments (λ s. s.datas)
datas_allocate = search counts

module _ (env : Environment) (all : List Part) (insts : List Inst) where
  pub adds : (p : ℕ) (m : Module) (i : Inst) (t : Store) → part_store env all insts p m i ≡ Some t → Adds env all insts p m i t
  adds p = adds_with (value_of env all insts p)

  -- ---- what stands in the store ----

  module _ {k : Space} {A : Type 0} {get : Store → List A} (allocates : Allocates k get) where
    pub keeps : (p : ℕ) (rest : List Part) (is : List Inst) (s z : Store) → stores_from env all insts s p rest is ≡ Some z → (n : ℕ) (x : A) → slice_get (get s) n ≡ Some x → slice_get (get z) n ≡ Some x
    keeps p (part ∷ rest) (i ∷ is) s z h n x e =
        let t = and_then_is (part_store env all insts p part.«module» i) _ z h in
        keeps (suc p) rest is _ z t.2 n x (rw allocates.joins (append_at_left _ _ n x e))
    keeps p _ _ s z h n x e = cc

    -- The store has what a part adds, from an address on.
    pub record Stands (z : Store) (from p : ℕ) (m : Module) (i : Inst) : Type 0 where
      pub added : Store
      pub adds : Adds env all insts p m i added
      pub at : (n : ℕ) (x : A) → slice_get (get added) n ≡ Some x → slice_get (get z) (from + n) ≡ Some x

    pub stands : (p : ℕ) (rest : List Part) (is : List Inst) (s z : Store) → stores_from env all insts s p rest is ≡ Some z → (q : ℕ) (m : Module) (i : Inst) → module_at rest q ≡ Some m → slice_get is q ≡ Some i → Stands z (length (get s) + defined_before k rest q) (p + q) m i
    stands p (part ∷ rest) (j ∷ is) s z h zero m i e f =
        let t = and_then_is (part_store env all insts p part.«module» j) _ z h in
        rw (← same_Some _ _ e, ← same_Some _ _ f) (simp add-zero (record {
          added = t.0;
          adds = adds _ _ _ _ t.1;
          at = λ n x g. keeps (suc p) rest is _ z t.2 _ x (rw (allocates.joins, append_right) g);
        }))
    stands p (part ∷ rest) (j ∷ is) s z h (suc q) m i e f =
        let t = and_then_is (part_store env all insts p part.«module» j) _ z h in
        rw (add_next, ← add_assoc) (simp (allocates.joins, length-append, allocates.many _ _ _ _ (adds p part.«module» j t.0 t.1)) at (stands (suc p) rest is _ z t.2 q m i e f))
    stands p _ _ s z h q m i e f = cc

  -- ---- where a part adds something ----

  -- A part is allocated if each function, global and element segment that it defines can be.
  pub part_there : (p : ℕ) (m : Module) (i : Inst) → ((n : ℕ) (f : tree.Func) → slice_get m.funcs n ≡ Some f → (x : Func) × (new_func i f ≡ Some x)) →
      ((n : ℕ) (g : GlobalDef) → slice_get m.globals n ≡ Some g → (x : Global) × (new_global env all insts p g ≡ Some x)) →
      ((n : ℕ) (e : ElemSeg) → slice_get m.elems n ≡ Some e → (x : Elem) × (elem_of env all insts p e ≡ Some x)) → (t : Store) × (part_store env all insts p m i ≡ Some t)
  part_there p m i funcs globals elems =
      is_some_there _ (rw ((all_there_from _ m.funcs funcs).are, (all_there_from _ m.globals globals).are, (all_there_from _ m.elems elems).are))
