-- The result of a `select`, and of writing a value to a local or a global.
use Rattle.base_lists.proofs.Common.{◌≡◌, ℕ, zero, suc, List, [], ◌∷◌, map, true, false, Some, None, Ok, Err, refl, ap, slice_get, slice_set, map_at}
use Rattle.wasm_tree_spec.specs.Prelude.{same_type}
use Rattle.wasm_num.specs.Operations.{W32}
use Rattle.wasm_meaning.specs.Prelude.{Val, Num, type_of, select_of, select_any}
use Rattle.wasm_meaning.specs.Values.{is_number}
use Rattle.eval_spec.specs.declared.stop.Stop.TheVariants as why
use Rattle.eval_machine.specs.declared.value.Value.{Value}
use Rattle.eval_machine.specs.Prelude.{ended, val_of}
use Rattle.eval_machine.specs.DenotedValues.{local_written}

pub any_is : (c : ℕ) (b : Val) (vs rest : List Val) → vs ≡ Num W32 c ∷ b ∷ rest → is_number (type_of b) ≡ true → select_any vs ≡ select_of (type_of b) vs
any_is c b vs rest e f = rw (e, f)

pub any_no_number : (v b : Val) (vs rest : List Val) → vs ≡ v ∷ b ∷ rest → is_number (type_of b) ≡ false → ended (select_any vs) ≡ Err why.Trap
any_no_number v b vs rest e f = rw (e, f)

pub none_mapped : {A B : Type 0} (f : A → B) (xs : List A) (n : ℕ) → slice_get xs n ≡ None → slice_get (map f xs) n ≡ None
none_mapped f [] n e = refl
none_mapped f (x ∷ xs) zero e = cc
none_mapped f (x ∷ xs) (suc n) e = none_mapped f xs n e

pub set_mapped : {A B : Type 0} (f : A → B) (xs : List A) (n : ℕ) (v : A) → slice_set (map f xs) n (f v) ≡ map f (slice_set xs n v)
set_mapped f [] n v = refl
set_mapped f (x ∷ xs) zero v = refl
set_mapped f (x ∷ xs) (suc n) v = ap (λ l. f x ∷ l) (set_mapped f xs n v)

-- A local is set to a value of its type.
pub set_at : (xs : List Value) (n : ℕ) (old v : Value) → slice_get xs n ≡ Some old → same_type (type_of (val_of old)) (type_of (val_of v)) ≡ true → ended (local_written (map val_of xs) n (val_of v)) ≡ Ok (map val_of (slice_set xs n v))
set_at xs n old v e f = rw (map_at val_of xs n old e, f) (ap Ok (set_mapped val_of xs n v))

pub set_none : (xs : List Value) (n : ℕ) (v : Value) → slice_get xs n ≡ None → ended (local_written (map val_of xs) n (val_of v)) ≡ Err why.Trap
set_none xs n v e = rw (none_mapped val_of xs n e)
