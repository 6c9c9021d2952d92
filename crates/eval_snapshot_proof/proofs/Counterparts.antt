-- Indices, code and constant expressions of a valid module: which indices denote addresses in an
-- environment, and how code and constant expressions of the quiet run are related to those in the
-- environment.
use Rattle.base_lists.proofs.Common.{◌≡◌, ◌∙◌, sym, ap, subst, refl, ℕ, ◌+◌, ◌<◌, ◌≤◌, List, [], ◌∷◌, length, false, Option, Some, arith, slice_get, option_and_then, IsTrue, nat_lt, and_from, eq-eqb, lt-ltb, same_Some, length-numbers, numbers_at, numbers_is, and_then_is, slice_get_there, opt_at}
use Rattle.base_lists.specs.Places.{numbers}
use Rattle.wasm_tree_spec.specs.Prelude.{Space, Types, Functions, Tables, Memories, Globals, ElementSegments, DataSegments, ConstExpr, Module, funcs_of, tables_of, memories_of, globals_of}
use Rattle.wasm_tree.specs.declared.module.ConstExpr.TheVariants as const
use Rattle.wasm_num.specs.Operations.{W32, W64, wrapped}
use Rattle.wasm_meaning.specs.Prelude.{Val, Num, Ref, FuncRef, Inst, null_of, num_of, Environment, value_of}
use Rattle.run_simulation.specs.Prelude.{Pairing, OptRel, some, ValRel, number, reference, func, CodeRel, passed}
use Rattle.index_remap_proof.specs.Indices.{FuncNamesOnly, with_entry}
use Rattle.wasm_tree.specs.declared.module.Func as tree
use Rattle.world_simulation.specs.Prelude.{one, IsInst}
use Rattle.world_simulation.specs.InstantiatedStores.{is_address}
use Rattle.world_simulation.proofs.EnvironmentEntities.{null_rel}
use Rattle.eval_spec.specs.Prelude.{own_inst, reads_global, value_in}
use Rattle.eval_snapshot_proof.specs.QuietRunAddresses.{addresses_in, names_at, stands_at}
use Rattle.eval_snapshot_proof.proofs.RelatedCode.{IndexAlike, kept_alike}
use Rattle.eval_snapshot_proof.proofs.NamedIndices.{below, each_index}
use Rattle.eval_snapshot_proof.proofs.AddedFunctions.{funcs_many, globals_many, mems_many, tables_many, with_funcs}
use Rattle.eval_snapshot_proof.proofs.IndexRelation.{relates}

module _ (env : Environment) (m : Module) (fs : List tree.Func) (i : Inst) (is : IsInst env (one (with_funcs m fs)) 0 (with_funcs m fs) i) where
  abbrev pub R : Pairing
  R = passed (stands_at m i) (names_at m i) []

  -- ---- indices ----

  -- The number of entries of an index space of the module alone.
  abbrev pub many : Space → ℕ
  many Types = length m.types
  many Functions = length (funcs_of m)
  many Tables = length (tables_of m)
  many Memories = length (memories_of m)
  many Globals = length (globals_of m)
  many ElementSegments = length m.elems
  many DataSegments = length m.datas

  abbrev pub own_addresses : Space → List ℕ
  own_addresses k = addresses_in (own_inst m) k

  -- In the quiet run, each index of the space is its own address, and the instance has at least as
  -- many addresses.
  pub record HasAddresses (k : Space) : Type 0 where
    pub own : own_addresses k ≡ numbers 0 (many k)
    pub no_fewer : many k ≤ length (addresses_in i k)

  funcs_have : HasAddresses Functions
  funcs_have = record { own = refl; no_fewer = let e = funcs_many env m fs i is in omega (arith, e) }

  tables_have : HasAddresses Tables
  tables_have = record { own = refl; no_fewer = let e = tables_many env m fs i is in omega (arith, e) }

  mems_have : HasAddresses Memories
  mems_have = record { own = refl; no_fewer = let e = mems_many env m fs i is in omega (arith, e) }

  globals_have : HasAddresses Globals
  globals_have = record { own = refl; no_fewer = let e = globals_many env m fs i is in omega (arith, e) }

  elems_have : HasAddresses ElementSegments
  elems_have = record { own = refl; no_fewer = let e = ap length is.elems in let f = length-numbers 0 (length m.elems) in omega (arith, e, f) }

  datas_have : HasAddresses DataSegments
  datas_have = record { own = refl; no_fewer = let e = ap length is.datas in let f = length-numbers 0 (length m.datas) in omega (arith, e, f) }

  -- An index of the module names the address that it has in the instance.
  pub named_at : (k : Space) → own_addresses k ≡ numbers 0 (many k) → (n a : ℕ) → n < many k → slice_get (addresses_in i k) n ≡ Some a → R.named k n a
  named_at k own n a lt h =
      let size = ap length own in
      let e = length-numbers 0 (many k) in
      and_from (nat_lt n (length (own_addresses k))) (is_address (slice_get (addresses_in i k) n) a) (lt-ltb n (length (own_addresses k)) (omega (arith, lt, size, e)))
      (ap (λ o. is_address o a) h ∙ eq-eqb a a refl)

  -- An address that an index names.
  pub record NamedAt (k : Space) (n : ℕ) : Type 0 where
    pub address : ℕ
    pub is_there : slice_get (addresses_in i k) n ≡ Some address
    pub named : R.named k n address

  there_for : (k : Space) → HasAddresses k → (n : ℕ) → n < many k → NamedAt k n
  there_for k h n lt =
      let few = h.no_fewer in
      let x = slice_get_there (addresses_in i k) n (omega (arith, lt, few)) in
      record { address = x.0; is_there = x.1; named = named_at k h.own n x.0 lt x.1 }

  pub func_there : (n : ℕ) → n < length (funcs_of m) → NamedAt Functions n
  func_there = there_for Functions funcs_have

  pub table_there : (n : ℕ) → n < length (tables_of m) → NamedAt Tables n
  table_there = there_for Tables tables_have

  pub memory_there : (n : ℕ) → n < length (memories_of m) → NamedAt Memories n
  memory_there = there_for Memories mems_have

  -- An address that a function index names is related to it, also if the function is imported.
  pub func_stands : (n a : ℕ) → R.named Functions n a → R.of Functions n a
  func_stands n a h = relates m i Functions n a refl h

  -- The index of a segment is its address.
  pub elem_itself : (n : ℕ) → n < length m.elems → R.named ElementSegments n n
  elem_itself n lt = named_at ElementSegments refl n n lt (ap (λ l. slice_get l n) is.elems ∙ numbers_at 0 (length m.elems) n lt ∙ ap Some (let e : 0 + n ≡ n = omega arith in e))

  pub data_itself : (n : ℕ) → n < length m.datas → R.named DataSegments n n
  data_itself n lt = named_at DataSegments refl n n lt (ap (λ l. slice_get l n) is.datas ∙ numbers_at 0 (length m.datas) n lt ∙ ap Some (let e : 0 + n ≡ n = omega arith in e))

  -- ---- code ----

  both_named : (k : Space) → HasAddresses k → (n : ℕ) → n < many k → OptRel (R.named k) (slice_get (own_addresses k) n) (slice_get (addresses_in i k) n)
  both_named k h n lt =
      let x = there_for k h n lt in
      let e : 0 + n ≡ n = omega arith in
      opt_at (ap (λ l. slice_get l n) h.own ∙ numbers_at 0 (many k) n lt ∙ ap Some e) x.is_there (some x.named)

  index_alike : (k : Space) (n : ℕ) → IsTrue (with_entry (each_index m) k n) → IndexAlike R (own_inst m) i k n
  index_alike Types n h = ap (λ ts. slice_get ts n) (sym is.types)
  index_alike Functions n h = both_named Functions funcs_have n (below (length (funcs_of m)) n h)
  index_alike Tables n h = both_named Tables tables_have n (below (length (tables_of m)) n h)
  index_alike Memories n h = both_named Memories mems_have n (below (length (memories_of m)) n h)
  index_alike Globals n h = both_named Globals globals_have n (below (length (globals_of m)) n h)
  index_alike ElementSegments n h = both_named ElementSegments elems_have n (below (length m.elems) n h)
  index_alike DataSegments n h = both_named DataSegments datas_have n (below (length m.datas) n h)

  pub body_alike : (f : tree.Func) → FuncNamesOnly (with_entry (each_index m)) f → CodeRel R (own_inst m) i f.body f.body
  body_alike f h = kept_alike R (own_inst m) i (with_entry (each_index m)) index_alike f.body h.1

  -- ---- constant expressions ----

  abbrev pub value_there : ConstExpr → Option Val
  value_there = value_of env (one (with_funcs m fs)) (i ∷ []) 0

  func_ref_alike : (f : ℕ) (v w : Val) → value_in m (const.Func f) ≡ Some v → value_there (const.Func f) ≡ Some w → ValRel R v w
  func_ref_alike f v w h k =
      let x = and_then_is (slice_get (own_inst m).funcs f) (λ a. Some (Ref (FuncRef (Some a)))) v h in
      let y = and_then_is (slice_get i.funcs f) (λ a. Some (Ref (FuncRef (Some a)))) w k in
      let n = numbers_is (length (funcs_of m)) f x.0 x.1 in
      let related : R.of Functions f y.0 = func_stands f y.0 (named_at Functions refl f y.0 n.0 y.1) in
      subst (λ v. ValRel R v w) (same_Some _ v x.2) (subst (λ w. ValRel R (Ref (FuncRef (Some x.0))) w) (same_Some _ w y.2) (reference (func (some (subst (λ g. R.of Functions g y.0) n.1 related)))))

  -- A constant expression that reads no global has related values in both.
  pub value_alike : (e : ConstExpr) (v w : Val) → reads_global e ≡ false → value_in m e ≡ Some v → value_there e ≡ Some w → ValRel R v w
  value_alike (const.I32 n) v w r h k = subst (λ v. ValRel R v w) (same_Some (Num W32 (wrapped 32 n)) v h) (subst (λ w. ValRel R (Num W32 (wrapped 32 n)) w) (same_Some _ w k) number)
  value_alike (const.I64 n) v w r h k = subst (λ v. ValRel R v w) (same_Some (Num W64 (wrapped 64 n)) v h) (subst (λ w. ValRel R (Num W64 (wrapped 64 n)) w) (same_Some _ w k) number)
  value_alike (const.Null t) v w r h k = subst (λ v. ValRel R v w) (same_Some (Ref (null_of t)) v h) (subst (λ w. ValRel R (Ref (null_of t)) w) (same_Some _ w k) (reference (null_rel R t)))
  value_alike (const.Func f) v w r h k = func_ref_alike f v w h k
  value_alike (const.Global x) v w r h k = absurd (let q = r in cc)

  -- An offset that reads no global is the same number in both.
  pub offset_stays : (e : ConstExpr) (n : ℕ) → reads_global e ≡ false → option_and_then (num_of W32) (value_in m e) ≡ Some n → option_and_then (num_of W32) (value_there e) ≡ Some n
  offset_stays (const.I32 v) n r h = h
  offset_stays (const.I64 v) n r h = h
  offset_stays (const.Null t) n r h = h
  offset_stays (const.Func f) n r h =
      let x = and_then_is (value_in m (const.Func f)) (num_of W32) n h in
      let y = and_then_is (slice_get (own_inst m).funcs f) (λ a. Some (Ref (FuncRef (Some a)))) x.0 x.1 in
      absurd (let q = ap (num_of W32) (same_Some _ x.0 y.2) ∙ x.2 in cc)
  offset_stays (const.Global x) n r h = absurd (let q = r in cc)
