-- Numbers in the ranges of their types, and no non-null external references, in the states of an
-- evaluation (WebAssembly Core 2.0, sections 2.2.1, 2.2.2 and 4.2.1).
use Rattle.std.specs.Prelude.{◌≡◌, ℕ, ◌^◌, ◌<◌, ◌≤◌, List, length, Some, None, slice_get}
use Rattle.base_lists.specs.Every.{Every}
use Rattle.wasm_tree_spec.specs.Prelude.{TableType, DataSeg, Module}
use Rattle.wasm_valid.specs.Prelude.{IsValid}
use Rattle.wasm_num.specs.Operations.{bits_of}
use Rattle.wasm_meaning.specs.Prelude.{RefVal, FuncRef, ExternRef, Val, Num, Ref, Memory, Global, Store}
use Rattle.eval_spec.specs.Prelude.{State, Finished, evaluated_within}

-- An i32 is below 2 ^ 32, and an i64 below 2 ^ 64.
abbrev pub ValInRange : Val → Type 0
ValInRange (Num w n) = n < 2 ^ bits_of w
ValInRange (Ref r) = Unit {0}

-- The reference is null or a function.
abbrev pub IsNullOrFunction : RefVal → Type 0
IsNullOrFunction (FuncRef f) = Unit {0}
IsNullOrFunction (ExternRef None) = Unit {0}
IsNullOrFunction (ExternRef (Some n)) = ⊥

-- The value is one that a constant expression can have: a number in its range, null, or a function.
abbrev pub IsExpressible : Val → Type 0
IsExpressible (Num w n) = n < 2 ^ bits_of w
IsExpressible (Ref r) = IsNullOrFunction r

abbrev pub IsByte : ℕ → Type 0
IsByte n = n < 256

abbrev pub HasFewSlots : TableType → Type 0
HasFewSlots t = t.limits.min < 2 ^ 32

abbrev pub HoldsBytes : DataSeg → Type 0
HoldsBytes d = Every IsByte d.bytes

-- What a state takes from the module is in range: tables have fewer than 2 ^ 32 slots, and data
-- segments hold bytes. (Numbers in code need no condition: a constant is taken modulo 2 ^ 32 or 2 ^
-- 64.)
pub record BeginsInRange (m : Module) : Type 0 where
  pub tables : Every HasFewSlots m.tables
  pub datas : Every HoldsBytes m.datas

-- The value of each global is in the range of its type.
abbrev pub GlobalsAreInRange : Store → Type 0
GlobalsAreInRange s = (n : ℕ) (g : Global) → slice_get s.globals n ≡ Some g → ValInRange g.value

-- The value of each global is expressible.
abbrev pub GlobalsAreExpressible : Store → Type 0
GlobalsAreExpressible s = (n : ℕ) (g : Global) → slice_get s.globals n ≡ Some g → IsExpressible g.value

-- Each memory holds numbers below 256, at most 2 ^ 32 of them.
abbrev pub MemoriesAreInRange : Store → Type 0
MemoriesAreInRange s = (n : ℕ) (x : Memory) → slice_get s.mems n ≡ Some x → Every IsByte x.bytes × (length x.bytes ≤ 2 ^ 32)

-- These three hold after the instantiation of a valid module with its start, and after any calls,
-- if the module begins in range.
abbrev pub EvaluatedGlobalsAreInRange : Type 0
EvaluatedGlobalsAreInRange = (m : Module) → IsValid m → BeginsInRange m → (turns : ℕ) (funcs : List ℕ) (s : State) → evaluated_within m turns funcs ≡ Finished s → GlobalsAreInRange s.store

abbrev pub EvaluatedGlobalsAreExpressible : Type 0
EvaluatedGlobalsAreExpressible = (m : Module) → IsValid m → BeginsInRange m → (turns : ℕ) (funcs : List ℕ) (s : State) → evaluated_within m turns funcs ≡ Finished s → GlobalsAreExpressible s.store

abbrev pub EvaluatedMemoriesAreInRange : Type 0
EvaluatedMemoriesAreInRange = (m : Module) → IsValid m → BeginsInRange m → (turns : ℕ) (funcs : List ℕ) (s : State) → evaluated_within m turns funcs ≡ Finished s → MemoriesAreInRange s.store
