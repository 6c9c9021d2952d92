-- What a value of the machine denotes, and how a result of the machine is compared with the rules.
use Rattle.std.specs.Prelude.{◌≡◌, ℕ, Bool, true, false, cond, ◌&&◌, Option, Some, None, Result, Ok, Err, List, [], ◌∷◌, map, slice_set}
use Rattle.wasm_tree_spec.specs.Prelude.{ValType, same_type, ConstExpr}
use Rattle.wasm_num.specs.Operations.{Width, W32, W64, type_of as width_of_number, value_of}
use Rattle.wasm_num.specs.declared.Num.{Num as Number}
use Rattle.wasm_meaning.specs.Prelude.{Outcome, Gives, IllTyped, bind, onto, split_at, with_entry, FuncRef, ExternRef, Val, Num, Ref, Global, type_of, typed, pop, pop_typed}
use Rattle.eval_spec.specs.Prelude.{constant}
use Rattle.eval_spec.specs.declared.stop.Stop.{Stop}
use Rattle.eval_spec.specs.declared.stop.Stop.TheVariants as why
use Rattle.eval_machine.specs.declared.value.Value.{Value}
use Rattle.eval_machine.specs.declared.value.Value.TheVariants as v
use Rattle.eval_machine.specs.declared.globals.GlobalSlot.{GlobalSlot}
use Rattle.eval_machine.specs.declared.globals.Standing.{Standing}
use Rattle.eval_machine.specs.declared.globals.Standing.TheVariants as standing

-- The value of the semantics that a value of the machine denotes.
abbrev pub val_of : Value → Val
val_of (v.I32 n) = Num W32 n
val_of (v.I64 n) = Num W64 n
val_of (v.Func r) = Ref (FuncRef r)
val_of v.Extern = Ref (ExternRef None)

-- The function to which a value refers, if it refers to one.
abbrev pub func_of : Val → Option ℕ
func_of (Ref (FuncRef r)) = r
func_of _ = None

abbrev pub narrow_of : ℕ → Val
narrow_of n = Num W32 n

abbrev pub number_of : Number → Val
number_of n = Num (width_of_number n) (value_of n)

abbrev pub width_of : (wide : Bool) → Width
width_of true = W64
width_of false = W32

abbrev pub global_of : GlobalSlot → Global
global_of g = record { ty = g.ty; value = val_of g.value }

-- The value that the rules give, or else the stop `Trap`.
abbrev pub ended : {A : Type 0} → Outcome A → Result A Stop
ended (Gives a) = Ok a
ended _ = Err why.Trap

-- The result is `a` if there is no stop, and otherwise it is that stop.
abbrev pub Meets : {A : Type 0} → Result A Stop → Option Stop → A → Type 0
Meets r None a = r ≡ Ok a
Meets r (Some x) a = r ≡ Err x

-- The rules give `a` if there is no stop; otherwise they give nothing and the stop is `Trap`.
abbrev pub Comes : {A : Type 0} → Outcome A → Option Stop → A → Type 0
Comes o stop a = Meets (ended o) stop a

-- ---- operands ----

-- The operands without the one on top.
abbrev pub dropped : List Val → Outcome (List Val)
dropped vs = bind (pop vs) (λ p. Gives p.1)

-- The values have these types, and there are as many values as types.
abbrev pub are_typed : List ValType → List Val → Bool
are_typed [] [] = true
are_typed (t ∷ ts) (v ∷ vs) = same_type t (type_of v) && are_typed ts vs
are_typed _ _ = false

-- `count` operands were taken from the top, or there are fewer and they are unchanged.
abbrev pub TakesTop : (count : ℕ) → List Val → Option (List Val) → List Val → Type 0
TakesTop count old None new = (split_at count old ≡ None) × (new ≡ old)
TakesTop count old (Some top) new = split_at count old ≡ Some (top, new)

-- The arguments were taken, or the operands on top do not have these types.
abbrev pub TakesTyped : List ValType → List Val → Option (List Value) → List Val → Type 0
TakesTyped types old None new = pop_typed types old ≡ IllTyped
TakesTyped types old (Some values) new = pop_typed types old ≡ Gives (map val_of values, new)

-- The same as `TakesTyped`, with the arguments as operands of a level.
abbrev pub TakesLevel : List ValType → List Val → Option (List Val) → List Val → Type 0
TakesLevel types old None new = pop_typed types old ≡ IllTyped
TakesLevel types old (Some top) new = (vs : List Val) × (pop_typed types old ≡ Gives (vs, new)) × (top ≡ onto vs [])

-- ---- locals ----

abbrev pub local_written : List Val → (local : ℕ) → Val → Outcome (List Val)
local_written vs n v = with_entry vs n (λ old. bind (typed (type_of old) v) (λ w. Gives (slice_set vs n w)))

-- The value on top is written to a local; a `local.tee` leaves it on top.
abbrev pub local_set_by : (tee : Bool) → List Val → List Val → (local : ℕ) → Outcome (List Val × List Val)
local_set_by tee vs ls n = bind (pop vs) (λ p. bind (local_written ls n p.0) (λ ks. Gives (cond tee vs p.1, ks)))

-- ---- globals ----

abbrev pub is_known : Standing → Bool
is_known standing.Known = true
is_known _ = false

abbrev pub is_of_import : Standing → Bool
is_of_import standing.Imported = true
is_of_import _ = false

abbrev pub is_unset : Standing → Bool
is_unset standing.Unset = true
is_unset _ = false

-- The constant expression of a global's value, if the global exists and its value is known.
abbrev pub constant_of : Option GlobalSlot → Option ConstExpr
constant_of None = None
constant_of (Some g) = cond (is_known g.standing) (constant (val_of g.value)) None

-- What reading a global gives: its value, or the stop.
abbrev pub read_of : Option GlobalSlot → Result Value Stop
read_of None = Err why.Trap
read_of (Some g) = cond (is_known g.standing) (Ok g.value) (Err why.Unknown)

abbrev pub slot_written : List GlobalSlot → (global : ℕ) → GlobalSlot → Option Value → Result (List GlobalSlot) Stop
slot_written gs n g None = Err why.Trap
slot_written gs n g (Some v) = cond (g.ty.mutable && same_type g.ty.ty (type_of (val_of v))) (Ok (slice_set gs n (record g { value = v; standing = standing.Known }))) (Err why.Trap)

-- What setting a global gives: all globals after it, or the stop.
abbrev pub global_written : List GlobalSlot → (global : ℕ) → Option Value → Option GlobalSlot → Result (List GlobalSlot) Stop
global_written gs n value None = Err why.Trap
global_written gs n value (Some g) = cond (is_of_import g.standing) (Err why.Unknown) (slot_written gs n g value)
