-- The state of a valid module before any segment is copied.
use Rattle.base_lists.proofs.Common.{◌≡◌, ℕ, zero, suc, ◌+◌, ◌-◌, ◌*◌, ◌<◌, List, [], map, length, Bool, true, false, cond, ◌&&◌, not, Option, Some, None, refl, sym, ap, ◌∙◌, inl, inr, arith, subst, nat_lt, slice_get, cases_lt, lt-ltb, le-ltb, ltb-true, length-map, same_Some, slice_get_within}
use Rattle.base_lists.proofs.Common.{and_then_is, all_there_at, all_there_from, left_true, numbers_at, append_left, append_right, map_at, slice_get_there, copies_length}
use Rattle.base_lists.specs.Options.{◌>>=◌, all_there}
use Rattle.wasm_tree_spec.specs.Prelude.{RefType, ValType, TableType, GlobalType, ConstExpr, ElemSeg, Module, funcs_of, globals_of, imported_tables, imported_globals}
use Rattle.wasm_tree.specs.declared.types.RefType.TheVariants as reft
use Rattle.wasm_tree.specs.declared.types.ValType.TheVariants as valt
use Rattle.wasm_tree.specs.declared.module.ConstExpr.TheVariants as const
use Rattle.wasm_tree.specs.declared.module.Func as tree
use Rattle.wasm_num.specs.Operations.{W32, W64, wrapped}
use Rattle.wasm_valid_bodies.specs.Typing.{only}
use Rattle.wasm_valid.specs.Prelude.{const_type, ItemsHold}
use Rattle.wasm_valid.specs.declared.kinds.ItemKind.{ItemKind}
use Rattle.wasm_valid.specs.declared.kinds.ItemKind.TheVariants as kind
use Rattle.wasm_meaning.specs.Prelude.{copies, RefVal, FuncRef, ExternRef, Val, Num, Ref, Func, Code, Global, Elem, Table, Store, type_of, zero_of, ref_of, null_of, declared, elem_with, global_with, joined_stores, new_elem, new_func}
use Rattle.eval_spec.specs.Prelude.{State, own_inst, imported_store, none_written, state_at_first, unknown_at_first, value_in}
use Rattle.eval_machine.specs.Prelude.{StartsAs, refs_in, IsSlot, defined_table, slot_count, val_of}
use Rattle.eval_machine.specs.Slots.{StandsAs, null_in, slots_declared}
use Rattle.eval_machine.proofs.SelectAndSet.{none_mapped}
use Rattle.eval_machine.specs.Slots as own
use Rattle.eval_machine.specs.declared.slots.Slot.TheVariants as slot

-- ---- constant expressions ----

zero_type : (t : ValType) → type_of (zero_of t) ≡ t
zero_type valt.I32 = refl
zero_type valt.I64 = refl
zero_type (valt.Ref reft.Func) = refl
zero_type (valt.Ref reft.Extern) = refl

only_is : {A : Type 0} (b : Bool) (o : Option A) (x : A) → only b o ≡ Some x → (b ≡ true) × (o ≡ Some x)
only_is true o x e = (refl, e)
only_is false o x e = absurd (let k = e in cc)

-- An imported global has the zero of its type.
zero_read : (m : Module) (x : ℕ) (t : GlobalType) → slice_get (globals_of m) x ≡ Some t → x < length (imported_globals m.imports) → value_in m (const.Global x) ≡ Some (zero_of t.ty)
zero_read m x t at lt =
    let z : 0 + x ≡ x = omega arith in
    let address : slice_get (own_inst m).globals x ≡ Some x = numbers_at 0 (length (globals_of m)) x (slice_get_within (globals_of m) x t at) ∙ ap Some z in
    let here : slice_get (imported_globals m.imports) x ≡ Some t = sym (append_left (imported_globals m.imports) _ x lt) ∙ at in
    let there : slice_get (imported_store m).globals x ≡ Some (record { ty = t; value = zero_of t.ty }) = map_at (λ t. record { ty = t; value = zero_of t.ty }) (imported_globals m.imports) x t here in
    rw (address, there) refl

-- A constant expression has a value of its type.
pub const_value_is : (m : Module) (x : ConstExpr) (t : ValType) → const_type m x ≡ Some t → (v : Val) × (value_in m x ≡ Some v) × (type_of v ≡ t)
const_value_is m (const.I32 n) t e = (Num W32 (wrapped 32 n), refl, same_Some valt.I32 t e)
const_value_is m (const.I64 n) t e = (Num W64 (wrapped 64 n), refl, same_Some valt.I64 t e)
const_value_is m (const.Null reft.Func) t e = (Ref (FuncRef None), refl, same_Some _ t e)
const_value_is m (const.Null reft.Extern) t e = (Ref (ExternRef None), refl, same_Some _ t e)
const_value_is m (const.Func f) t e =
    let k = only_is (nat_lt f (length (funcs_of m))) (Some (valt.Ref reft.Func)) t e in
    let lt : f < length (funcs_of m) = ltb-true f (length (funcs_of m)) k.0 in
    let z : 0 + f ≡ f = omega arith in
    let address : slice_get (own_inst m).funcs f ≡ Some f = numbers_at 0 (length (funcs_of m)) f lt ∙ ap Some z in
    (Ref (FuncRef (Some f)), rw address refl, same_Some _ t k.1)
const_value_is m (const.Global x) t e =
    let g = and_then_is (slice_get (globals_of m) x) (λ g. only (nat_lt x (length (imported_globals m.imports)) && not g.mutable) (Some g.ty)) t e in
    let k = only_is (nat_lt x (length (imported_globals m.imports)) && not g.0.mutable) (Some g.0.ty) t g.2 in
    (zero_of g.0.ty, zero_read m x g.0 g.1 (ltb-true x (length (imported_globals m.imports)) (left_true _ _ k.0)), zero_type g.0.ty ∙ same_Some g.0.ty t k.1)

-- An initialiser that is a `global.get` has the zero of its type.
pub reads_zero : (m : Module) (x : ℕ) (t : ValType) → const_type m (const.Global x) ≡ Some t → value_in m (const.Global x) ≡ Some (zero_of t)
reads_zero m x t e =
    let g = and_then_is (slice_get (globals_of m) x) (λ g. only (nat_lt x (length (imported_globals m.imports)) && not g.mutable) (Some g.ty)) t e in
    let k = only_is (nat_lt x (length (imported_globals m.imports)) && not g.0.mutable) (Some g.0.ty) t g.2 in
    zero_read m x g.0 g.1 (ltb-true x (length (imported_globals m.imports)) (left_true _ _ k.0)) ∙ ap (λ t. Some (zero_of t)) (same_Some g.0.ty t k.1)

pub names_func : (m : Module) (f : ℕ) (t : ValType) → const_type m (const.Func f) ≡ Some t → value_in m (const.Func f) ≡ Some (Ref (FuncRef (Some f)))
names_func m f t e =
    let k = only_is (nat_lt f (length (funcs_of m))) (Some (valt.Ref reft.Func)) t e in
    let z : 0 + f ≡ f = omega arith in
    let address : slice_get (own_inst m).funcs f ≡ Some f = numbers_at 0 (length (funcs_of m)) f (ltb-true f (length (funcs_of m)) k.0) ∙ ap Some z in
    rw address refl

is_ref : (v : Val) (r : RefType) → type_of v ≡ valt.Ref r → (x : RefVal) × (ref_of v ≡ Some x)
is_ref (Num W32 n) r e = absurd (let k = e in cc)
is_ref (Num W64 n) r e = absurd (let k = e in cc)
is_ref (Ref x) r e = (x, refl)

-- ---- the store before any segment is copied ----

abbrev pub store_at_first : Module → List Func → List Global → List Elem → Store
store_at_first m funcs globals elems = record {
  funcs = funcs;
  globals = globals;
  elems = elems;
  tables = map (λ t. record { ty = t.ty; most = t.limits.max; slots = copies t.limits.min (null_of t.ty) }) m.tables;
  mems = map (λ l. record { most = l.max; pages = l.min; bytes = copies (65536 * l.min) 0 }) m.mems;
  datas = map (λ d. record { bytes = d.bytes; dropped = false }) m.datas;
}

abbrev pub first_state : Module → (turns : ℕ) → List Func → List Global → List Elem → State
first_state m turns funcs globals elems = record { store = joined_stores (imported_store m) (store_at_first m funcs globals elems); unknown = unknown_at_first m; written = none_written m.mems; turns = turns }

module _ (m : Module) (hold : ItemsHold m) where
  pub funcs_there : (funcs : List Func) × (all_there (new_func (own_inst m)) m.funcs ≡ Some funcs)
  funcs_there = let k = all_there_from (new_func (own_inst m)) m.funcs each in (k.results, k.are)
    where
      each : (n : ℕ) (f : tree.Func) → slice_get m.funcs n ≡ Some f → (y : Func) × (new_func (own_inst m) f ≡ Some y)
      each n f at =
          let h = hold kind.Func n (slice_get_within m.funcs n f at) in
          let same : h.0 ≡ f = same_Some h.0 f (sym h.1 ∙ at) in
          let t = slice_get_there m.types f.ty (rw same at h.2) in
          (Code t.0 (own_inst m) (declared f.locals) f.body, rw t.1 refl)

  pub elems_there : (elems : List Elem) × (all_there (elem_with (value_in m)) m.elems ≡ Some elems)
  elems_there = let k = all_there_from (elem_with (value_in m)) m.elems each in (k.results, k.are)
    where
      item : (e : ElemSeg) → ((j : ℕ) (x : ConstExpr) → slice_get e.items j ≡ Some x → const_type m x ≡ Some (valt.Ref e.ty)) → (j : ℕ) (x : ConstExpr) → slice_get e.items j ≡ Some x → (r : RefVal) × ((value_in m x >>= ref_of) ≡ Some r)
      item e typed j x at =
          let v = const_value_is m x (valt.Ref e.ty) (typed j x at) in
          let r = is_ref v.0 e.ty v.2 in
          (r.0, rw v.1 r.1)

      each : (n : ℕ) (e : ElemSeg) → slice_get m.elems n ≡ Some e → (y : Elem) × (elem_with (value_in m) e ≡ Some y)
      each n e at =
          let h = hold kind.Elem n (slice_get_within m.elems n e at) in
          let same : h.0 ≡ e = same_Some h.0 e (sym h.1 ∙ at) in
          let typed : (j : ℕ) (x : ConstExpr) → slice_get e.items j ≡ Some x → const_type m x ≡ Some (valt.Ref e.ty) = rw same at h.2 in
          let k = all_there_from (λ x. value_in m x >>= ref_of) e.items (item e typed) in
          (new_elem e.mode k.results, rw k.are refl)

-- ---- the parts of the store ----

abbrev no_slots : TableType → Table
no_slots t = record { ty = t.ty; most = t.limits.max; slots = [] }

abbrev nulls : TableType → Table
nulls t = record { ty = t.ty; most = t.limits.max; slots = copies t.limits.min (null_of t.ty) }

tables_at : (m : Module) (funcs : List Func) (globals : List Global) (elems : List Elem) (turns t : ℕ) →
    slice_get (first_state m turns funcs globals elems).store.tables t ≡ cond (nat_lt t (length (imported_tables m.imports))) (slice_get (imported_store m).tables t) (slice_get (store_at_first m funcs globals elems).tables (t - length (imported_tables m.imports)))
tables_at m funcs globals elems turns t = elim (cases_lt t (length (imported_tables m.imports))) [
  | inl lt ↦ let b : nat_lt t (length (imported_tables m.imports)) ≡ true = lt-ltb t (length (imported_tables m.imports)) lt in rw b (append_left (imported_store m).tables _ t (omega (arith, lt, many)))
  | inr le ↦
      let b : nat_lt t (length (imported_tables m.imports)) ≡ false = le-ltb t (length (imported_tables m.imports)) le in
      let z : t ≡ length (imported_store m).tables + (t - length (imported_tables m.imports)) = omega (arith, le, many) in
      rw b (ap (slice_get (first_state m turns funcs globals elems).store.tables) z ∙ append_right (imported_store m).tables _ (t - length (imported_tables m.imports)))
]
  where
    many : length (imported_store m).tables ≡ length (imported_tables m.imports)
    many = length-map (imported_tables m.imports) _

mapped : {A B : Type 0} (f : A → B) (xs : List A) (n : ℕ) (o : Option A) → slice_get xs n ≡ o → slice_get (map f xs) n ≡ (o >>= λ x. Some (f x))
mapped f xs n (Some x) e = map_at f xs n x e
mapped f xs n None e = none_mapped f xs n e

copy_at : {A : Type 0} (n p : ℕ) (v : A) → slice_get (copies n v) p ≡ cond (nat_lt p n) (Some v) None
copy_at zero p v = let b : nat_lt p 0 ≡ false = le-ltb p 0 (omega arith) in rw b refl
copy_at (suc n) zero v = let b : nat_lt 0 (suc n) ≡ true = lt-ltb 0 (suc n) (omega arith) in rw b refl
copy_at (suc n) (suc p) v = copy_at n p v ∙ ap (λ b. cond b (Some v) None) same
  where
    same : nat_lt p n ≡ nat_lt (suc p) (suc n)
    same = elim (cases_lt p n) [
      | inl lt ↦ lt-ltb p n lt ∙ sym (lt-ltb (suc p) (suc n) (omega (arith, lt)))
      | inr le ↦ le-ltb p n le ∙ sym (le-ltb (suc p) (suc n) (omega (arith, le)))
    ]

null_is : (t : RefType) → Ref (null_of t) ≡ val_of (own.null_of t)
null_is reft.Func = refl
null_is reft.Extern = refl

null_stands : (p : ℕ) (t : TableType) → StandsAs false (slice_get (copies t.limits.min (null_of t.ty)) p) (null_in (Some t) p)
null_stands p t = subst (λ o. StandsAs false o (null_in (Some t) p)) (sym (copy_at t.limits.min p (null_of t.ty))) (by (nat_lt p t.limits.min))
  where
    by : (b : Bool) → StandsAs false (cond b (Some (null_of t.ty)) None) (cond b (slot.Known (own.null_of t.ty)) slot.OutOfBounds)
    by true = (refl, ap Some (null_is t.ty))
    by false = (refl, refl)

module _ (m : Module) (funcs : List Func) (globals : List Global) (elems : List Elem) (turns : ℕ) where
  abbrev first : State
  first = first_state m turns funcs globals elems

  counts : (t : ℕ) → slot_count first t ≡ slots_declared m t
  counts t = rw (tables_at m funcs globals elems turns t) (elim (cases_lt t (length (imported_tables m.imports))) [
    | inl lt ↦
        let b : nat_lt t (length (imported_tables m.imports)) ≡ true = lt-ltb t (length (imported_tables m.imports)) lt in
        let x = slice_get_there (imported_tables m.imports) t lt in
        rw (b, mapped no_slots (imported_tables m.imports) t (Some x.0) x.1) refl
    | inr le ↦
        let b : nat_lt t (length (imported_tables m.imports)) ≡ false = le-ltb t (length (imported_tables m.imports)) le in
        rw b (by (slice_get m.tables (t - length (imported_tables m.imports))) refl)
  ])
    where
      by : (o : Option TableType) → slice_get m.tables (t - length (imported_tables m.imports)) ≡ o →
          (slice_get (store_at_first m funcs globals elems).tables (t - length (imported_tables m.imports)) >>= λ t. Some (length t.slots)) ≡ (slice_get m.tables (t - length (imported_tables m.imports)) >>= λ t. Some t.limits.min)
      by None e = rw (e, mapped nulls m.tables (t - length (imported_tables m.imports)) None e) refl
      by (Some x) e = rw (e, mapped nulls m.tables (t - length (imported_tables m.imports)) (Some x) e) (ap Some (copies_length x.limits.min (null_of x.ty)))

  slots : (t p : ℕ) → IsSlot first t p (null_in (defined_table m t) p)
  slots t p = subst (λ o. StandsAs false (o >>= λ t. slice_get t.slots p) (null_in (defined_table m t) p)) (sym (tables_at m funcs globals elems turns t)) (elim (cases_lt t (length (imported_tables m.imports))) [
    | inl lt ↦
        let b : nat_lt t (length (imported_tables m.imports)) ≡ true = lt-ltb t (length (imported_tables m.imports)) lt in
        let x = slice_get_there (imported_tables m.imports) t lt in
        rw (b, mapped no_slots (imported_tables m.imports) t (Some x.0) x.1) (refl, refl)
    | inr le ↦
        let b : nat_lt t (length (imported_tables m.imports)) ≡ false = le-ltb t (length (imported_tables m.imports)) le in
        rw b (by (slice_get m.tables (t - length (imported_tables m.imports))) refl)
  ])
    where
      by : (o : Option TableType) → slice_get m.tables (t - length (imported_tables m.imports)) ≡ o →
          StandsAs false (slice_get (store_at_first m funcs globals elems).tables (t - length (imported_tables m.imports)) >>= λ t. slice_get t.slots p) (null_in (slice_get m.tables (t - length (imported_tables m.imports))) p)
      by None e = rw (e, mapped nulls m.tables (t - length (imported_tables m.imports)) None e) (refl, refl)
      by (Some x) e = rw (e, mapped nulls m.tables (t - length (imported_tables m.imports)) (Some x) e) (null_stands p x)

  pub starts_as : all_there (elem_with (value_in m)) m.elems ≡ Some elems → StartsAs m first
  starts_as are = record {
    counts = counts;
    slots = slots;
    known = λ t p. refl;
    items = refl;
    elems = λ n e at.
        let y = all_there_at (elem_with (value_in m)) m.elems elems are n e at in
        let k = and_then_is (refs_in m e.items) (λ items. Some (new_elem e.mode items)) y.0 y.1 in
        (k.0, k.1, y.2 ∙ sym k.2);
  }

  pub is_at_first : all_there (new_func (own_inst m)) m.funcs ≡ Some funcs → all_there (global_with (value_in m)) m.globals ≡ Some globals → all_there (elem_with (value_in m)) m.elems ≡ Some elems → state_at_first m turns ≡ Some first
  is_at_first f g e = rw (f, g, e) refl
