-- The constants of known globals: in the instance of the snapshot they have the values that the
-- machine's run left.
use Rattle.base_lists.proofs.Common.{◌≡◌, ◌∙◌, sym, ap, refl, subst, ℕ, ◌<◌, List, [], length, Bool, true, false, cond, Option, Some, None, arith, slice_get, IsTrue, ◌∷◌, ℤ, nat_lt, and_parts, ltb-true, same_Some, length-numbers, and_then_is}
use Rattle.base_lists.specs.Options.{◌>>=◌}
use Rattle.wasm_tree_spec.specs.Prelude.{Functions, RefType, ConstExpr, Module, funcs_of}
use Rattle.wasm_tree.specs.declared.module.ConstExpr.TheVariants as const
use Rattle.wasm_num.specs.Operations.{W32, W64, wrapped}
use Rattle.wasm_meaning.specs.Prelude.{FuncRef, ExternRef, RefVal, Val, Num, Ref, Text, Inst, Global, null_of, Environment}
use Rattle.run_simulation.specs.Prelude.{Pairing, none, some, func, extern, RefRel, ValRel, number, reference, passed}
use Rattle.world_simulation.specs.Prelude.{one, IsInst}
use Rattle.world_simulation.specs.InstantiatedStores.{is_address}
use Rattle.eval_snapshot_proof.specs.Ranges.{GlobalsAreExpressible, IsExpressible}
use Rattle.eval_spec.specs.Prelude.{State, own_inst, constant, is_unknown_global, value_of_global}
use Rattle.eval_snapshot_spec.specs.Snapshot.{snapshot}
use Rattle.eval_snapshot_proof.proofs.SnapshotParts.{bound}
use Rattle.eval_snapshot_proof.specs.EvaluatedWorlds.{with_empty_func}
use Rattle.eval_snapshot_proof.specs.QuietRunAddresses.{addresses_in, names_at, stands_at}
use Rattle.eval_snapshot_proof.proofs.RelatedInstances.{R, func_shared, second_value}
use Rattle.eval_snapshot_proof.proofs.IndexRelation.{names as names_address}
use Rattle.eval_snapshot_proof.proofs.ConstantsOfValues.{Stands, constant_stands}
use Rattle.eval_snapshot_proof.proofs.SharedAddresses.{to_itself}

-- An expressible value has a constant.
pub has_constant : (x : Val) → IsExpressible x → (e : ConstExpr) × (constant x ≡ Some e)
has_constant (Num W32 n) h = (_, refl)
has_constant (Num W64 n) h = (_, refl)
has_constant (Ref (FuncRef (Some f))) h = (_, refl)
has_constant (Ref (FuncRef None)) h = (_, refl)
has_constant (Ref (ExternRef None)) h = (_, refl)
has_constant (Ref (ExternRef (Some n))) h = absurd h

-- ---- indices and their addresses ----

module _ (m : Module) (i : Inst) where
  abbrev pub Run : Pairing
  Run = passed (stands_at m i) (names_at m i) []

  pub func_at : (f a : ℕ) → IsTrue (stands_at m i Functions f a) → (f < length (funcs_of m)) × (slice_get i.funcs f ≡ Some a)
  func_at f a h =
      let n = (and_parts (names_at m i Functions f a) _ h).0 in
      let lt = ltb-true f (length (addresses_in (own_inst m) Functions)) (and_parts (nat_lt f (length (addresses_in (own_inst m) Functions))) (is_address (slice_get i.funcs f) a) n).0 in
      let c = length-numbers 0 (length (funcs_of m)) in
      (omega (arith, lt, c), names_address m i Functions f a n)

module _ (env : Environment) (m : Module) (s : State) (name : Text) (names kept : List Text) (i j : Inst) (a : IsInst env (one (with_empty_func m)) 0 (with_empty_func m) i)
    (b : IsInst env (one (snapshot m s (name ∷ names) kept)) 0 (snapshot m s (name ∷ names) kept) j) where
  abbrev Q : Pairing
  Q = R env m s name names kept

  abbrev second : ConstExpr → Option Val
  second = second_value env m s name names kept i j a b

  func_again : (f x : ℕ) → IsTrue (stands_at m i Functions f x) → (second (const.Func f) ≡ Some (Ref (FuncRef (Some x)))) × Q.of Functions x x
  func_again f x h =
      let p = func_at m i f x h in
      let o = func_shared env m s name names kept i j a b f p.0 in
      let same : o.address ≡ x = same_Some _ _ (sym o.first ∙ p.1) in (
        ap (λ o. o >>= λ y. Some (Ref (FuncRef (Some y)))) (o.second ∙ ap Some same),
        subst (λ x. Q.of Functions x x) same (to_itself (bound m s name names kept env) Functions o.address o.low),
      )

  -- Two references that are related to one of the quiet run are related to each other.
  both_refs : (r x y : RefVal) → RefRel (Run m i) r x → RefRel (Run m i) r y → RefRel Q x y
  both_refs _ _ _ (func none) (func none) = func none
  both_refs _ _ _ (func (some {a = f} {b = x} h)) (func (some {b = y} k)) =
      let p = func_at m i f x h in let q = func_at m i f y k in
      func (some (subst (λ y. Q.of Functions x y) (same_Some x y (sym p.1 ∙ q.1)) (func_again f x h).1))
  both_refs _ _ _ extern extern = extern

  both_values : (r x y : Val) → ValRel (Run m i) r x → ValRel (Run m i) r y → ValRel Q x y
  both_values _ _ _ number number = number
  both_values _ _ _ (reference h) (reference k) = reference (both_refs _ _ _ h k)

  i32 : (c : ℤ) → second (const.I32 c) ≡ Some (Num W32 (wrapped 32 c))
  i32 c = refl

  i64 : (c : ℤ) → second (const.I64 c) ≡ Some (Num W64 (wrapped 64 c))
  i64 c = refl

  null : (ty : RefType) → second (const.Null ty) ≡ Some (Ref (null_of ty))
  null ty = refl

  stands_again : (x y : Val) → IsExpressible x → ValRel (Run m i) x y → Stands (Run m i) second i32 i64 null x
  stands_again (Num W32 n) y h r = h
  stands_again (Num W64 n) y h r = h
  stands_again (Ref (FuncRef (Some f))) _ h (reference (func (some {b = x} k))) = (x, (func_again f x k).0, k)
  stands_again (Ref (FuncRef None)) y h r = tt
  stands_again (Ref (ExternRef None)) y h r = tt
  stands_again (Ref (ExternRef (Some n))) y h r = absurd h

  -- The constant of an expressible value of the quiet run has, in the instance of the snapshot, a
  -- value that is related to the value of the machine.
  pub constant_again : (x y : Val) → IsExpressible x → ValRel (Run m i) x y → (e : ConstExpr) → constant x ≡ Some e → (w : Val) × (second e ≡ Some w) × ValRel Q y w
  constant_again x y h r e is =
      let k = constant_stands (Run m i) second i32 i64 null x e (stands_again x y h r) is in
      (k.0, k.1, both_values x y k.0 r k.2)

  -- A global with a told constant is known, and the constant is that of its value.
  pub told_known : (q : State) (n : ℕ) (e : ConstExpr) → value_of_global m q n ≡ Some e →
      (is_unknown_global m q n ≡ false) × (g : Global) × (slice_get q.store.globals n ≡ Some g) × (constant g.value ≡ Some e)
  told_known q n e is = by (is_unknown_global m q n) refl is
    where
      by : (c : Bool) → is_unknown_global m q n ≡ c → cond c None (slice_get q.store.globals n >>= λ g. constant g.value) ≡ Some e →
          (is_unknown_global m q n ≡ false) × (g : Global) × (slice_get q.store.globals n ≡ Some g) × (constant g.value ≡ Some e)
      by true u h = absurd (let k = h in cc)
      by false u h = let g = and_then_is (slice_get q.store.globals n) _ e h in (u, g.0, g.1, g.2)

  -- A global without a told constant is unknown if the values of globals are expressible.
  pub untold_unknown : (q : State) → GlobalsAreExpressible q.store → (n : ℕ) (g : Global) → slice_get q.store.globals n ≡ Some g → value_of_global m q n ≡ None → is_unknown_global m q n ≡ true
  untold_unknown q fit n g at is = by (is_unknown_global m q n) refl is
    where
      by : (c : Bool) → is_unknown_global m q n ≡ c → cond c None (slice_get q.store.globals n >>= λ g. constant g.value) ≡ None → is_unknown_global m q n ≡ true
      by true u h = u
      by false u h =
          let e = has_constant g.value (fit n g at) in
          absurd (let k : Some e.0 ≡ None = sym (ap (λ o. o >>= λ (g : Global). constant g.value) at ∙ e.1) ∙ h in cc)
