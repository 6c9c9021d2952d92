-- Instructions on values, locals and globals (WebAssembly Core 2.0, sections 4.4.1, 4.4.2, 4.4.4
-- and 4.4.5).
use Rattle.std.proofs.Common.{ℕ, List, [], ◌∷◌, ◌++◌, Option, Some, None, Bool, true, false, cond, slice_set}
use Rattle.std.specs.Prelude.{nat_eq}
use Rattle.wasm_tree_spec.specs.Prelude.{RefType, ValType, LocalGroup}
use Rattle.wasm_tree.specs.declared.types.RefType.TheVariants as reft
use Rattle.wasm_tree.specs.declared.types.ValType.TheVariants as valt
pub use Rattle.wasm_tree.specs.SameTypes.{same_ref, same_type, same_types, same_func_type}
use Rattle.wasm_num.specs.declared.UnOp.{UnOp}
use Rattle.wasm_num.specs.declared.BinOp.{BinOp}
use Rattle.wasm_num.specs.Operations.{Width, W32, W64, un_from, un_to, un_value, bin_from, bin_to, bin_value}
use Rattle.wasm_meaning.specs.Outcomes.{Outcome, Gives, IllTyped, or_trap, bind, copies, or_ill_typed, with_entry}
use Rattle.wasm_meaning.specs.State.{RefVal, FuncRef, ExternRef, Val, Num, Ref, Global, Env, Body, Keep, SetGlobal, Act, Goes}

-- ---- types of values ----

abbrev pub type_of_ref : RefVal → RefType
type_of_ref (FuncRef r) = reft.Func
type_of_ref (ExternRef r) = reft.Extern

abbrev pub type_of : Val → ValType
type_of (Num W32 n) = valt.I32
type_of (Num W64 n) = valt.I64
type_of (Ref r) = valt.Ref (type_of_ref r)

-- The value, if it has the type.
abbrev pub typed : ValType → Val → Outcome Val
typed t v = cond (same_type t (type_of v)) (Gives v) IllTyped

-- The null reference of a type, with which locals and table entries begin.
abbrev pub null_of : RefType → RefVal
null_of reft.Func = FuncRef None
null_of reft.Extern = ExternRef None

abbrev pub zero_of : ValType → Val
zero_of valt.I32 = Num W32 0
zero_of valt.I64 = Num W64 0
zero_of (valt.Ref r) = Ref (null_of r)

abbrev pub zeros : List ValType → List Val
zeros [] = []
zeros (t ∷ ts) = zero_of t ∷ zeros ts

-- The types of the locals that the groups declare.
abbrev pub declared : List LocalGroup → List ValType
declared [] = []
declared (g ∷ gs) = copies g.count g.ty ++ declared gs

-- ---- the top of the operand stack ----

abbrev pub pop : List Val → Outcome (Val × List Val)
pop [] = IllTyped
pop (v ∷ vs) = Gives (v, vs)

abbrev pub num_of : Width → Val → Option ℕ
num_of W32 (Num W32 n) = Some n
num_of W64 (Num W64 n) = Some n
num_of _ _ = None

abbrev pub ref_of : Val → Option RefVal
ref_of (Num w n) = None
ref_of (Ref r) = Some r

abbrev pub pop_num : Width → List Val → Outcome (ℕ × List Val)
pop_num w vs = bind (pop vs) (λ p. bind (or_ill_typed (num_of w p.0)) (λ n. Gives (n, p.1)))

abbrev pub pop_ref : List Val → Outcome (RefVal × List Val)
pop_ref vs = bind (pop vs) (λ p. bind (or_ill_typed (ref_of p.0)) (λ r. Gives (r, p.1)))

-- Pops values of these types, the last of which is on top, and gives them in the order of the
-- types.
abbrev pub pop_typed : List ValType → List Val → Outcome (List Val × List Val)
pop_typed [] vs = Gives ([], vs)
pop_typed (t ∷ ts) vs = bind (pop_typed ts vs) (λ p. bind (pop p.1) (λ q. bind (typed t q.0) (λ v. Gives (v ∷ p.0, q.1))))

-- ---- operations (section 4.4.1) ----

abbrev pub unary : UnOp → List Val → Outcome (List Val)
unary o vs = bind (pop_num (un_from o) vs) (λ a. Gives (Num (un_to o) (un_value o a.0) ∷ a.1))

abbrev pub binary : BinOp → List Val → Outcome (List Val)
binary o vs = bind (pop_num (bin_from o) vs) (λ b. bind (pop_num (bin_from o) b.1) (λ a. bind (or_trap (bin_value o a.0 b.0)) (λ n. Gives (Num (bin_to o) n ∷ a.1))))

-- ---- references (section 4.4.2) ----

abbrev pub is_null : RefVal → ℕ
is_null (FuncRef None) = 1
is_null (ExternRef None) = 1
is_null _ = 0

abbrev pub ref_is_null : List Val → Outcome (List Val)
ref_is_null vs = bind (pop_ref vs) (λ r. Gives (Num W32 (is_null r.0) ∷ r.1))

-- ---- select (section 4.4.4) ----

-- Pops a number and two values of type `t` below it, and pushes the lower one, or the upper one if
-- the number is 0.
abbrev pub select_of : ValType → List Val → Outcome (List Val)
select_of t vs =
    bind (pop_num W32 vs) (λ c. bind (pop c.1) (λ b. bind (typed t b.0) (λ b'. bind (pop b.1) (λ a. bind (typed t a.0) (λ a'. Gives (cond (nat_eq c.0 0) b' a' ∷ a.1))))))

abbrev pub is_number : ValType → Bool
is_number valt.I32 = true
is_number valt.I64 = true
is_number (valt.Ref r) = false

-- The type of the value below the number, if that is a number type.
abbrev pub second_type : List Val → Outcome ValType
second_type (c ∷ v ∷ vs) = cond (is_number (type_of v)) (Gives (type_of v)) IllTyped
second_type _ = IllTyped

abbrev pub select_any : List Val → Outcome (List Val)
select_any vs = bind (second_type vs) (λ t. select_of t vs)

abbrev pub select_typed : List ValType → List Val → Outcome (List Val)
select_typed (t ∷ []) vs = select_of t vs
select_typed _ vs = IllTyped

-- ---- acts that do not change the store ----

abbrev pub go : Body → Act
go h = Goes Keep h

abbrev pub with_values : Body → List Val → Body
with_values h vs = record h { values = vs }

abbrev pub on_values : Body → (List Val → Outcome (List Val)) → Outcome Act
on_values h f = bind (f h.values) (λ vs. Gives (go (with_values h vs)))

abbrev pub pushes : Body → Val → Outcome Act
pushes h v = Gives (go (with_values h (v ∷ h.values)))

-- ---- locals and globals (section 4.4.5) ----

abbrev pub local_get : Body → ℕ → Outcome Act
local_get h i = with_entry h.locals i (pushes h)

abbrev pub local_put : Body → ℕ → Val → Outcome Act
local_put h i v = with_entry h.locals i (λ old. bind (typed (type_of old) v) (λ w. Gives (go (record h { locals = slice_set h.locals i w }))))

abbrev pub local_set : Body → ℕ → Outcome Act
local_set h i = bind (pop h.values) (λ p. local_put (with_values h p.1) i p.0)

abbrev pub local_tee : Body → ℕ → Outcome Act
local_tee h i = bind (pop h.values) (λ p. local_put h i p.0)

abbrev pub global_get : Env → Body → ℕ → Outcome Act
global_get env h i = with_entry env.inst.globals i (λ a. with_entry env.store.globals a (λ g. pushes h g.value))

abbrev pub global_put : Body → ℕ → Global → Val → Outcome Act
global_put h a g v = cond g.ty.mutable (bind (typed g.ty.ty v) (λ w. Gives (Goes (SetGlobal a (record g { value = w })) h))) IllTyped

abbrev pub global_set : Env → Body → ℕ → Outcome Act
global_set env h i = with_entry env.inst.globals i (λ a. with_entry env.store.globals a (λ g. bind (pop h.values) (λ p. global_put (with_values h p.1) a g p.0)))

abbrev pub ref_func : Env → Body → ℕ → Outcome Act
ref_func env h i = with_entry env.inst.funcs i (λ a. pushes h (Ref (FuncRef (Some a))))
