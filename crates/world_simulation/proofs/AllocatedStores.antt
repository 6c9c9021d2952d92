-- What allocated stores have at their addresses; stores of which the definitions correspond are
-- related.
use Rattle.base_lists.proofs.Common.{◌≡◌, ℕ, List, Option, Some, refl, sym, ◌∙◌, arith, zero-add, option_and_then, slice_get, slice_get-map, all_there_at, slice_get_there, each_rel, copies_rel, get_rel, then_rel, opt_both, opt_self, self_rel, all_rel}
use Rattle.wasm_tree_spec.specs.Prelude.{Space, Functions, Tables, Memories, Globals, ElementSegments, DataSegments, FuncType, ConstExpr, ElemSeg, GlobalDef, Module}
use Rattle.wasm_tree.specs.declared.module.Func as tree
use Rattle.wasm_meaning.specs.Prelude.{Val, Inst, Func, Global, Elem, Store, ref_of, type_of_func, own_of, Environment, own_memories, new_func, new_global, global_with, elem_with, elem_of, own_store, stores_from}
use Rattle.run_simulation.specs.Prelude.{Pairing, OptRel, none, some, BothRel, both, ListRel, nil, RefRel, ValRel, number, reference, FuncRel, defined, GlobalRel, ElemRel, StoreRel}
use Rattle.world_simulation.specs.Prelude.{SharesOwn, Instantiated, DefinedAt, FuncsCorrespond, FuncsAt, GlobalsCorrespond, ElemsCorrespond, Partners, DefinitionsCorrespond, HasDefinitions, Adds, Allocates, new_data, new_memory, new_table}
use Rattle.world_simulation.specs.CorrespondingDefinitions.{alike, set_apart, declared, kept}
use Rattle.world_simulation.specs.CorrespondingDefinitions as partners
use Rattle.world_simulation.specs.CorrespondingDefinitions.{ElemsAlike}
use Rattle.world_simulation.proofs.AllocatedParts.{funcs_allocate, tables_allocate, mems_allocate, globals_allocate, elems_allocate, datas_allocate, keeps, stands}
use Rattle.world_simulation.proofs.EnvironmentEntities.{null_rel, own_funcs_rel, own_tables_rel, own_globals_rel}

-- ---- what stands at an address ----

module _ (env : Environment) (w : Instantiated) (s : Store) (made : stores_from env w.parts w.insts (own_store env) 0 w.parts w.insts ≡ Some s) where
  -- The store has a definition's entity at its address, as the part of the definition adds it.
  stands_for : {k : Space} {A B : Type 0} {definitions : Module → List A} {get : Store → List B} → Allocates k get → {a : ℕ} (d : DefinedAt env w k definitions a) →
      (t : Store) × Adds env w.parts w.insts d.part d.of d.inst t × ((x : B) → slice_get (get t) d.place ≡ Some x → slice_get (get s) a ≡ Some x)
  stands_for allocates d =
      let r = rw zero-add at (stands env w.parts w.insts allocates 0 w.parts w.insts (own_store env) s made d.part d.of d.inst d.is_part d.is_inst) in
      (r.added, r.adds, λ x h. rw (d.address, ← allocates.own env) (r.at d.place x h))

  pub func_placed : {a : ℕ} (d : DefinedAt env w Functions (λ m. m.funcs) a) → (f : Func) × (slice_get s.funcs a ≡ Some f) × (new_func d.inst d.definition ≡ Some f)
  func_placed d = grind (arith, stands_for funcs_allocate d, all_there_at)

  pub global_placed : {a : ℕ} (d : DefinedAt env w Globals (λ m. m.globals) a) → (g : Global) × (slice_get s.globals a ≡ Some g) × (new_global env w.parts w.insts d.part d.definition ≡ Some g)
  global_placed d = grind (arith, stands_for globals_allocate d, all_there_at)

  pub elem_placed : {a : ℕ} (d : DefinedAt env w ElementSegments (λ m. m.elems) a) → (e : Elem) × (slice_get s.elems a ≡ Some e) × (elem_of env w.parts w.insts d.part d.definition ≡ Some e)
  elem_placed d = grind (arith, stands_for elems_allocate d, all_there_at)

  pub table_placed : {a : ℕ} (d : DefinedAt env w Tables (λ m. m.tables) a) → slice_get s.tables a ≡ Some (new_table d.definition)
  table_placed d = grind (arith, stands_for tables_allocate d, slice_get-map)

  pub memory_placed : {a : ℕ} (d : DefinedAt env w Memories (λ m. m.mems) a) → slice_get s.mems a ≡ Some (new_memory d.definition)
  memory_placed d = grind (arith, stands_for mems_allocate d, slice_get-map)

  pub data_placed : {a : ℕ} (d : DefinedAt env w DataSegments (λ m. m.datas) a) → slice_get s.datas a ≡ Some (new_data d.definition)
  data_placed d = grind (arith, stands_for datas_allocate d, slice_get-map)

  pub has_definitions : HasDefinitions env w s
  has_definitions = record { funcs = func_placed; tables = table_placed; mems = memory_placed; globals = global_placed; elems = elem_placed; datas = data_placed }

-- ---- what corresponds is related ----

module _ (R : Pairing) where
  pub func_rel : {i j : Inst} {f g : tree.Func} → FuncsCorrespond R i j f g → OptRel (FuncRel R) (new_func i f) (new_func j g)
  func_rel k = grind (arith, none, some, defined)

  -- The function at an address of the first store and its partner have the same type and owner, and
  -- are related unless the address is on the list.
  abbrev FuncPair : ℕ → Func → Func → Type 0
  FuncPair a f g = (type_of_func f ≡ type_of_func g) × (own_of f ≡ own_of g) × (¬ R.listed a → FuncRel R f g)

  -- Related functions are such a pair at any address.
  as_pair : (a : ℕ) {f g : Func} → FuncRel R f g → FuncPair a f g
  as_pair _ (defined c) = (refl, refl, λ _. defined c)
  as_pair _ h = (refl, refl, λ _. h)

  pub type_same : {o p : Option Func} → BothRel (FuncRel R) o p → BothRel (◌≡◌ {A = FuncType}) (option_and_then (λ f. Some (type_of_func f)) o) (option_and_then (λ f. Some (type_of_func f)) p)
  type_same (both h) = both (as_pair 0 h).0

  pub own_same : {o p : Option Func} → BothRel (FuncRel R) o p → option_and_then own_of o ≡ option_and_then own_of p
  own_same (both h) = (as_pair 0 h).1

  -- The functions that are allocated for definitions that correspond are such a pair.
  func_pair : {a : ℕ} {i j : Inst} {f g : tree.Func} → FuncsAt R a i j f g → (x y : Func) → new_func i f ≡ Some x → new_func j g ≡ Some y → FuncPair a x y
  func_pair (alike k) x y e h = grind (arith, defined)
  func_pair (set_apart l t) x y e h = grind arith

  pub ref_rel : {v w : Val} → ValRel R v w → OptRel (RefRel R) (ref_of v) (ref_of w)
  ref_rel number = none
  ref_rel (reference r) = some r

  module _ (value second_value : ConstExpr → Option Val) where
    pub global_rel : {g h : GlobalDef} → GlobalsCorrespond R value second_value g h → OptRel (GlobalRel R) (global_with value g) (global_with second_value h)
    global_rel k = search (then_rel, some)

    pub elem_rel : {d e : ElemSeg} → ElemsAlike R value second_value d e → OptRel (ElemRel R) (elem_with value d) (elem_with second_value e)
    elem_rel k = then_rel (all_rel (each_rel (λ _ _ p. then_rel p (λ _ _. ref_rel)) k.items)) (λ _ _ r. some (grind (arith, nil)))

    pub alike_correspond : {d e : ElemSeg} → ElemsAlike R value second_value d e → ElemsCorrespond R value second_value d e
    alike_correspond k = grind (arith, declared, kept)

    -- The element segments that are allocated for segments that correspond are related.
    elem_both : {d e : ElemSeg} → ElemsCorrespond R value second_value d e → (x y : Elem) → elem_with value d ≡ Some x → elem_with second_value e ≡ Some y → ElemRel R x y
    elem_both (declared f g) x y h k = search (arith, nil)
    elem_both {d} {e} (kept f g items) x y h k = opt_both (elem_rel {d = d} {e = e} (record { declarative = f ∙ sym g; items = items })) h k

  -- ---- related stores ----

  module _ (env : Environment) (v w : Instantiated) (shares : SharesOwn R env) (defs : DefinitionsCorrespond R env v w) (s z : Store)
      (s_is : stores_from env v.parts v.insts (own_store env) 0 v.parts v.insts ≡ Some s) (z_is : stores_from env w.parts w.insts (own_store env) 0 w.parts w.insts ≡ Some z) where
    -- The entities at the addresses of partners are related, if those of the environment are and
    -- those of definitions that correspond are.
    stand : {k : Space} {A B : Type 0} {definitions : Module → List A} {correspond : ℕ → Inst → A → ℕ → Inst → A → Type 0} {P : B → B → Type 0} {get : Store → List B} → Allocates k get → ListRel P (get (own_store env)) (get (own_store env)) → {a b : ℕ} →
        Partners env v w k definitions correspond a b →
        ((d : DefinedAt env v k definitions a) (e : DefinedAt env w k definitions b) → correspond d.part d.inst d.definition e.part e.inst e.definition → BothRel P (slice_get (get s) a) (slice_get (get z) b)) → BothRel P (slice_get (get s) a) (slice_get (get z) b)
    stand {get = get} allocates rel {a} (partners.own same low) at_defined =
        let x = slice_get_there (get (own_store env)) a (rw (allocates.own env) low) in
        rw (← same, keeps env v.parts v.insts allocates 0 v.parts v.insts (own_store env) s s_is a x.0 x.1, keeps env w.parts w.insts allocates 0 w.parts w.insts (own_store env) z z_is a x.0 x.1) (both (opt_self (get_rel rel a) x.1))
    stand allocates rel (partners.defined d e c) at_defined = at_defined d e c

    -- The functions at related addresses are such a pair.
    func_pairs : {a b : ℕ} → R.of Functions a b → BothRel (FuncPair a) (slice_get s.funcs a) (slice_get z.funcs b)
    func_pairs {a} r = stand funcs_allocate (each_rel (λ _ _. as_pair a) (own_funcs_rel R env)) (defs.funcs _ _ r)
        (λ d e c.
        let x = func_placed env v s s_is d in
        let y = func_placed env w z z_is e in
        rw (x.1, y.1) (both (func_pair c x.0 y.0 x.2 y.2)))

    pub stores_rel : StoreRel R s z
    stores_rel = record {
      types = λ r. grind (arith, func_pairs r, both);
      owns = λ r. grind (arith, func_pairs r);
      funcs = λ r free. grind (arith, func_pairs r, both);
      tables = λ r. stand tables_allocate (own_tables_rel R env shares) (defs.tables _ _ r)
          (λ d e c. rw (table_placed env v s s_is d, table_placed env w z z_is e, ← c) (search (both, copies_rel, null_rel)));
      mems = λ r. stand mems_allocate (self_rel (own_memories env) (λ x. refl)) (defs.mems _ _ r) (λ d e c. rw (memory_placed env v s s_is d, memory_placed env w z z_is e, c) (both refl));
      globals = λ r. stand globals_allocate (own_globals_rel R env shares) (defs.globals _ _ r)
          (λ d e c.
          let x = global_placed env v s s_is d in
          let y = global_placed env w z z_is e in
          rw (x.1, y.1) (both (opt_both (global_rel _ _ c) x.2 y.2)));
      elems = λ r. stand elems_allocate nil (defs.elems _ _ r)
          (λ d e c. grind (arith, elem_placed env v s s_is d, elem_placed env w z z_is e, elem_both _ _ c, both));
      datas = λ r. stand datas_allocate nil (defs.datas _ _ r) (λ d e c. rw (data_placed env v s s_is d, data_placed env w z z_is e) (both c));
    }
