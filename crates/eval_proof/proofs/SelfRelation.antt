-- A store that is related to itself by the relation of each index of the module with itself.
use Rattle.base_lists.proofs.Common.{◌≡◌, ◌∙◌, ℕ, ◌<◌, ◌≤◌, arith, List, [], length, Bool, true, ◌&&◌, Option, Some, None, slice_get, refl, sym, ap, subst, IsTrue, nat_eq, nat_lt, and_parts, eq-eqb, eqb-true, lt-ltb, ltb-true, same_Some, numbers_is, slice_get_there, both_in}
use Rattle.wasm_tree_spec.specs.Prelude.{Space, Types, Functions, Tables, Memories, Globals, ElementSegments, DataSegments, RefType, ValType, FuncType, Module, funcs_of, tables_of, memories_of, globals_of}
use Rattle.wasm_tree.specs.declared.types.RefType.TheVariants as reft
use Rattle.wasm_tree.specs.declared.types.ValType.TheVariants as valt
use Rattle.wasm_meaning.specs.Prelude.{RefVal, FuncRef, ExternRef, Val, Num, Ref, Global, Store, own_at, type_at, null_of, zero_of}
use Rattle.run_simulation.specs.Prelude.{Pairing, OneToOneWhereWritten, none, some, BothRel, both, ListRel, func, extern, RefRel, ValRel, number, reference, FuncRel, TableRel, GlobalRel, ElemRel, StoreRel, NamesItself, passed}
use Rattle.eval_spec.specs.Prelude.{own_inst}
use Rattle.eval_proof.specs.GlobalValues.{IsThere}

-- The number of indices of an index space; types have no addresses.
abbrev pub count_in : Module → Space → ℕ
count_in m Types = 0
count_in m Functions = length (funcs_of m)
count_in m Tables = length (tables_of m)
count_in m Memories = length (memories_of m)
count_in m Globals = length (globals_of m)
count_in m ElementSegments = length m.elems
count_in m DataSegments = length m.datas

-- The relation of each index of the module with itself.
abbrev pub itself : Module → Space → ℕ → ℕ → Bool
itself m k a b = nat_eq a b && nat_lt a (count_in m k)

abbrev pub R : Module → Pairing
R m = passed (itself m) (itself m) []

module _ (m : Module) where
  pub to_itself : (k : Space) (a : ℕ) → a < count_in m k → IsTrue (itself m k a a)
  to_itself k a lt = let e : nat_eq a a ≡ true = eq-eqb a a refl in let l : nat_lt a (count_in m k) ≡ true = lt-ltb a (count_in m k) lt in rw (e, l)

  pub same : (k : Space) (a b : ℕ) → IsTrue (itself m k a b) → a ≡ b
  same k a b h = eqb-true a b (and_parts (nat_eq a b) (nat_lt a (count_in m k)) h).0

  pub within : (k : Space) (a b : ℕ) → IsTrue (itself m k a b) → a < count_in m k
  within k a b h = ltb-true a (count_in m k) (and_parts (nat_eq a b) (nat_lt a (count_in m k)) h).1

  pub apart : OneToOneWhereWritten (R m)
  apart = record {
    right = λ {k} w a b c p q. sym (same k a b p) ∙ same k a c q;
    left = λ {k} w a b c p q. same k a c p ∙ sym (same k b c q);
  }

  pub names_itself : NamesItself (R m) (own_inst m)
  names_itself = record {
    funcs = λ n a e. let i = numbers_is (count_in m Functions) n a e in to_itself Functions a (subst (λ x. x < count_in m Functions) i.1 i.0);
    tables = λ n a e. let i = numbers_is (count_in m Tables) n a e in to_itself Tables a (subst (λ x. x < count_in m Tables) i.1 i.0);
    mems = λ n a e. let i = numbers_is (count_in m Memories) n a e in to_itself Memories a (subst (λ x. x < count_in m Memories) i.1 i.0);
    globals = λ n a e. let i = numbers_is (count_in m Globals) n a e in to_itself Globals a (subst (λ x. x < count_in m Globals) i.1 i.0);
    elems = λ n a e. let i = numbers_is (count_in m ElementSegments) n a e in to_itself ElementSegments a (subst (λ x. x < count_in m ElementSegments) i.1 i.0);
    datas = λ n a e. let i = numbers_is (count_in m DataSegments) n a e in to_itself DataSegments a (subst (λ x. x < count_in m DataSegments) i.1 i.0);
  }

  -- ---- values ----

  pub null_itself : (t : RefType) → RefRel (R m) (null_of t) (null_of t)
  null_itself reft.Func = func none
  null_itself reft.Extern = extern

  pub zero_itself : (t : ValType) → ValRel (R m) (zero_of t) (zero_of t)
  zero_itself valt.I32 = number
  zero_itself valt.I64 = number
  zero_itself (valt.Ref t) = reference (null_itself t)

  ref_there : (r s : RefVal) → RefRel (R m) r s → IsThere m (Ref r)
  ref_there _ _ (func none) = tt
  ref_there _ _ (func (some {a} {b} h)) = within Functions a b h
  ref_there (ExternRef n) _ extern = tt

  pub value_there : (v w : Val) → ValRel (R m) v w → IsThere m v
  value_there _ _ number = tt
  value_there _ _ (reference {r} {s} h) = ref_there r s h

  -- A value that refers to no function but those of the module is related to itself.
  pub value_itself : (v : Val) → IsThere m v → ValRel (R m) v v
  value_itself (Num w n) h = number
  value_itself (Ref (FuncRef None)) h = reference (func none)
  value_itself (Ref (FuncRef (Some f))) h = reference (func (some (to_itself Functions f h)))
  value_itself (Ref (ExternRef x)) h = reference extern

  -- ---- stores ----

  pub record IsStored (s : Store) : Type 0 where
    pub funcs : ListRel (FuncRel (R m)) s.funcs s.funcs
    pub tables : ListRel (TableRel (R m)) s.tables s.tables
    pub globals : ListRel (GlobalRel (R m)) s.globals s.globals
    pub elems : ListRel (ElemRel (R m)) s.elems s.elems
    pub mems : ListRel (λ x y. x ≡ y) s.mems s.mems
    pub datas : ListRel (λ x y. x.bytes ≡ y.bytes) s.datas s.datas
    pub many_funcs : count_in m Functions ≤ length s.funcs
    pub many_tables : count_in m Tables ≤ length s.tables
    pub many_mems : count_in m Memories ≤ length s.mems
    pub many_globals : count_in m Globals ≤ length s.globals
    pub many_elems : count_in m ElementSegments ≤ length s.elems
    pub many_datas : count_in m DataSegments ≤ length s.datas
    pub few_funcs : length s.funcs ≤ count_in m Functions

  -- Related addresses have related entries, in a list that is related to itself.
  entry : {A : Type 0} (P : A → A → Type 0) (k : Space) (xs : List A) → ListRel P xs xs → count_in m k ≤ length xs → (a b : ℕ) → IsTrue (itself m k a b) → BothRel P (slice_get xs a) (slice_get xs b)
  entry P k xs r le a b h =
      let lt : a < length xs = let w = within k a b h in omega (arith, le, w) in
      subst (λ x. BothRel P (slice_get xs a) (slice_get xs x)) (same k a b h) (both_in r a lt)

  pub stored_related : (s : Store) → IsStored s → StoreRel (R m) s s
  stored_related s i = record {
    types = λ {a} {b} h.
        let le = i.many_funcs in
        let w = within Functions a b h in
        let t = slice_get_there s.funcs a (omega (arith, le, w)) in
        subst (λ x. BothRel (◌≡◌ {A = FuncType}) (type_at s a) (type_at s x)) (same Functions a b h) (rw t.1 (both refl));
    owns = λ {a} {b} h. ap (own_at s) (same Functions a b h);
    funcs = λ {a} {b} h _. entry (FuncRel (R m)) Functions s.funcs i.funcs i.many_funcs a b h;
    tables = λ {a} {b} h. entry (TableRel (R m)) Tables s.tables i.tables i.many_tables a b h;
    mems = λ {a} {b} h. entry (λ x y. x ≡ y) Memories s.mems i.mems i.many_mems a b h;
    globals = λ {a} {b} h. entry (GlobalRel (R m)) Globals s.globals i.globals i.many_globals a b h;
    elems = λ {a} {b} h. entry (ElemRel (R m)) ElementSegments s.elems i.elems i.many_elems a b h;
    datas = λ {a} {b} h. entry (λ x y. x.bytes ≡ y.bytes) DataSegments s.datas i.datas i.many_datas a b h;
  }

  -- A global of the module, in a store that is related to itself, refers to no function but those
  -- of the module.
  pub global_there : (s : Store) → StoreRel (R m) s s → (n : ℕ) (g : Global) → n < count_in m Globals → slice_get s.globals n ≡ Some g → IsThere m g.value
  global_there s h n g lt e = by (slice_get s.globals n) (slice_get s.globals n) (h.globals {a = n} {b = n} (to_itself Globals n lt)) e
    where
      by : (o p : Option Global) → BothRel (GlobalRel (R m)) o p → o ≡ Some g → IsThere m g.value
      by _ _ (both {a} {b} r) q = let is : a ≡ g = same_Some a g q in subst (λ x. IsThere m x.value) is (value_there a.value b.value r.value)
