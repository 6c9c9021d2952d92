-- What the embedder passes to related runs is related, and has its types.
use Rattle.base_lists.proofs.Common.{◌≡◌, ℕ, ◌^◌, List, [], ◌∷◌, Option, Some, Bool, refl, option_and_then, nat_lt, slice_get, then_all, any_there, either_all, then_rel, get_rel}
use Rattle.base_lists.proofs.Related.{either_rel}
use Rattle.base_lists.specs.Related.{IfThere, absent, present}
use Rattle.wasm_tree_spec.specs.Prelude.{Functions, RefType, ValType}
use Rattle.wasm_tree.specs.declared.types.ValType.TheVariants as valt
use Rattle.wasm_tree.specs.declared.types.RefType.TheVariants as reft
use Rattle.wasm_meaning.specs.Prelude.{Gives, Val, typed, ref_of, Shown, Number, Null, OwnFunc, ExternNumber, Function, ExternalValue, FuncKey, Owned, same_key, owned_at, look_up, func_of, func_value, received, received_ref, received_all}
use Rattle.run_simulation.specs.Prelude.{Pairing, OptRel, none, some, ListRel, nil, cons, RefRel, ValRel, number, reference, func, extern, ExternalValueRel, a_func, a_table, a_memory, a_global, KeyRel, HaveTypes}

module _ (R : Pairing) where
  pub look_rel : {K : Type 0} (is : K → Bool) {xs ys : List (K × ExternalValue)} → ListRel (KeyRel R) xs ys → OptRel (ExternalValueRel R) (look_up is xs) (look_up is ys)
  look_rel is nil = none
  look_rel is (cons {b = b} o os) = rw o.key (either_rel (is b.0) (some o.thing) (look_rel is os))

  pub func_of_rel : {x y : ExternalValue} → ExternalValueRel R x y → OptRel (R.of Functions) (func_of x) (func_of y)
  func_of_rel (a_func n) = some n
  func_of_rel (a_table n) = none
  func_of_rel (a_memory n) = none
  func_of_rel (a_global n) = none

  value_rel : {o p : Option ℕ} → OptRel (R.of Functions) o p → OptRel (ValRel R) (option_and_then (λ a. Some (func_value a)) o) (option_and_then (λ a. Some (func_value a)) p)
  value_rel o = then_rel o (λ _ _ p. some (reference (func (some p))))

  pub received_rel : {o p : Owned} {xs ys : List ℕ} (t : ValType) (x : Shown) → ListRel (KeyRel R) o p → ListRel (R.of Functions) xs ys → OptRel (ValRel R) (received o xs t x) (received p ys t x)
  received_rel valt.I32 (Number n) o s = either_rel (nat_lt n (2 ^ 32)) (some number) none
  received_rel valt.I64 (Number n) o s = either_rel (nat_lt n (2 ^ 64)) (some number) none
  received_rel (valt.Ref reft.Func) Null o s = some (reference (func none))
  received_rel (valt.Ref reft.Func) (OwnFunc p t) o s = value_rel (then_rel (look_rel (same_key (FuncKey p t)) o) (λ _ _ x. func_of_rel x))
  received_rel (valt.Ref reft.Func) (Function k) o s = value_rel (get_rel s k)
  received_rel (valt.Ref reft.Extern) Null o s = some (reference extern)
  received_rel (valt.Ref reft.Extern) (ExternNumber n) o s = some (reference extern)
  received_rel _ _ o s = none

  ref_of_rel : {v w : Val} → ValRel R v w → OptRel (RefRel R) (ref_of v) (ref_of w)
  ref_of_rel number = none
  ref_of_rel (reference p) = some p

  pub received_ref_rel : {o p : Owned} {xs ys : List ℕ} (t : RefType) (x : Shown) → ListRel (KeyRel R) o p → ListRel (R.of Functions) xs ys → OptRel (RefRel R) (received_ref o xs t x) (received_ref p ys t x)
  received_ref_rel t x o s = then_rel (received_rel (valt.Ref t) x o s) (λ _ _ v. ref_of_rel v)

  pub received_all_rel : {o p : Owned} {ms ns : List ℕ} (ts : List ValType) (xs : List Shown) → ListRel (KeyRel R) o p → ListRel (R.of Functions) ms ns → OptRel (ListRel (ValRel R)) (received_all o ms ts xs) (received_all p ns ts xs)
  received_all_rel [] [] o s = some nil
  received_all_rel (t ∷ ts) (x ∷ xs) o s = then_rel (received_rel t x o s) (λ _ _ v. then_rel (received_all_rel ts xs o s) (λ _ _ vs. some (cons v vs)))
  received_all_rel [] (x ∷ xs) o s = none
  received_all_rel (t ∷ ts) [] o s = none

-- A value that is received has the type that was asked for.
received_type : (o : Owned) (ms : List ℕ) (t : ValType) (x : Shown) → IfThere (λ v. typed t v ≡ Gives v) (received o ms t x)
received_type o ms valt.I32 (Number n) = either_all (nat_lt n (2 ^ 32)) (present refl) absent
received_type o ms valt.I64 (Number n) = either_all (nat_lt n (2 ^ 64)) (present refl) absent
received_type o ms (valt.Ref reft.Func) Null = present refl
received_type o ms (valt.Ref reft.Func) (OwnFunc p t) = then_all (any_there (option_and_then func_of (owned_at o (FuncKey p t)))) (λ a _. present refl)
received_type o ms (valt.Ref reft.Func) (Function k) = then_all (any_there (slice_get ms k)) (λ a _. present refl)
received_type o ms (valt.Ref reft.Extern) Null = present refl
received_type o ms (valt.Ref reft.Extern) (ExternNumber n) = present refl
received_type o ms _ _ = absent

pub fits_received : (o : Owned) (ms : List ℕ) (ts : List ValType) (xs : List Shown) → IfThere (HaveTypes ts) (received_all o ms ts xs)
fits_received o ms [] [] = present nil
fits_received o ms (t ∷ ts) (x ∷ xs) = then_all (received_type o ms t x) (λ v e. then_all (fits_received o ms ts xs) (λ vs f. present (cons e f)))
fits_received o ms [] (x ∷ xs) = absent
fits_received o ms (t ∷ ts) [] = absent
