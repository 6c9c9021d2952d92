-- What an embedder offers to a world, and the values that it sees and passes.
use Rattle.std.proofs.Common.{ℕ, suc, ◌*◌, ◌^◌, List, [], ◌∷◌, ◌++◌, map, length, Option, Some, None, Bool, true, false, cond, slice_get, ◌&&◌}
use Rattle.std.specs.Prelude.{nat_eq, nat_lt, nat_le}
use Rattle.wasm_tree_spec.specs.Prelude.{RefType, ValType, FuncType, Limits, GlobalType, same_func_type}
use Rattle.wasm_tree.specs.declared.types.RefType.TheVariants as reft
use Rattle.wasm_tree.specs.declared.types.ValType.TheVariants as valt
use Rattle.wasm_num.specs.Operations.{W32, W64}
use Rattle.base_lists.specs.Options.{◌>>=◌}
use Rattle.wasm_meaning.specs.State.{Pair, RefVal, FuncRef, ExternRef, Val, Num, Ref, Func, Own, Table, Memory, Global}
use Rattle.wasm_meaning.specs.Values.{ref_of}
use Rattle.wasm_meaning.specs.Linking.{same_pair}

-- A value as the embedder sees it: a number, null, a function of the environment's own, an external
-- reference by its number, or a function that was shown to it, by its place in the order of first
-- showing.
pub data Shown : Type 0 where
  Number : ℕ → Shown
  Null : Shown
  OwnFunc : Pair → FuncType → Shown
  ExternNumber : ℕ → Shown
  Function : (number : ℕ) → Shown

pub record OwnTable : Type 0 where
  pub ty : RefType
  pub limits : Limits
  pub entries : List Shown

pub record OwnMemory : Type 0 where
  pub limits : Limits
  pub pages : ℕ
  pub bytes : List ℕ

pub record OwnGlobal : Type 0 where
  pub ty : GlobalType
  pub value : Shown

-- What is offered under one module and field name: functions of these types, and at most one table,
-- one memory and one global.
pub record Offer : Type 0 where
  pub pair : Pair
  pub funcs : List FuncType
  pub table : Option OwnTable
  pub memory : Option OwnMemory
  pub global : Option OwnGlobal

-- What an embedder offers for imports.
abbrev pub Environment : Type 0
Environment = List Offer

-- ---- the condition on an environment ----

abbrev pub all_of : {A : Type 0} → (A → Bool) → List A → Bool
all_of is [] = true
all_of is (x ∷ xs) = is x && all_of is xs

abbrev pub any_of : {A : Type 0} → (A → Bool) → List A → Bool
any_of is [] = false
any_of is (x ∷ xs) = cond (is x) true (any_of is xs)

abbrev pub distinct : {A : Type 0} → (A → A → Bool) → List A → Bool
distinct same [] = true
distinct same (x ∷ xs) = cond (any_of (same x) xs) false (distinct same xs)

abbrev pub where_there : {A : Type 0} → (A → Bool) → Option A → Bool
where_there is None = true
where_there is (Some x) = is x

abbrev pub offers_func : Pair → FuncType → Offer → Bool
offers_func pair ty offer = same_pair pair offer.pair && any_of (same_func_type ty) offer.funcs

-- The value has the type. A number is in its type's range. A reference to a function is null or a
-- function that the environment offers; no `Function` is allowed, because none has been shown yet.
-- An external reference is null or has any number.
abbrev pub is_value : Environment → ValType → Shown → Bool
is_value env valt.I32 (Number n) = nat_lt n (2 ^ 32)
is_value env valt.I64 (Number n) = nat_lt n (2 ^ 64)
is_value env (valt.Ref reft.Func) Null = true
is_value env (valt.Ref reft.Func) (OwnFunc pair ty) = any_of (offers_func pair ty) env
is_value env (valt.Ref reft.Extern) Null = true
is_value env (valt.Ref reft.Extern) (ExternNumber n) = true
is_value env _ _ = false

-- The minimum is at most the maximum, and `size` is between them.
abbrev pub is_within : ℕ → Limits → Bool
is_within size l = nat_le l.min size && (where_there (λ most. nat_le l.min most && nat_le size most) l.max)

-- A table has at most 2 ^ 32 - 1 entries; its maximum has no such bound.
abbrev pub is_table : Environment → OwnTable → Bool
is_table env t = is_within (length t.entries) t.limits && ((nat_lt (length t.entries) (2 ^ 32)) && all_of (is_value env (valt.Ref t.ty)) t.entries)

-- The size and both limits of a memory are at most 65,536 pages.
abbrev pub is_memory : OwnMemory → Bool
is_memory m =
    is_within m.pages m.limits && (where_there (λ most. nat_le most 65536) m.limits.max &&
    (nat_le m.pages 65536 && ((nat_eq (length m.bytes) (65536 * m.pages)) && all_of (λ b. nat_lt b 256) m.bytes)))

abbrev pub is_global : Environment → OwnGlobal → Bool
is_global env g = is_value env g.ty.ty g.value

abbrev pub is_offer : Environment → Offer → Bool
is_offer env o =
    distinct same_func_type o.funcs && (where_there (is_table env) o.table && (where_there is_memory o.memory && where_there (is_global env) o.global))

-- Each pair has at most one offer, whose function types differ, whose sizes are within their limits
-- and whose contents have their types.
abbrev pub is_environment : Environment → Bool
is_environment env = distinct same_pair (map (λ o. o.pair) env) && all_of (is_offer env) env

-- ---- the environment's entities in the store ----

-- An entity of the environment's own, identified by its kind, its pair and, for a function, its
-- type.
pub data OwnKey : Type 0 where
  FuncKey : Pair → FuncType → OwnKey
  TableKey : Pair → OwnKey
  MemoryKey : Pair → OwnKey
  GlobalKey : Pair → OwnKey

-- An external value (section 4.2.13): a function, table, memory or global by its address.
pub data ExternalValue : Type 0 where
  FuncAt : ℕ → ExternalValue
  TableAt : ℕ → ExternalValue
  MemoryAt : ℕ → ExternalValue
  GlobalAt : ℕ → ExternalValue

-- The environment's own entities, with their external values.
abbrev pub Owned : Type 0
Owned = List (OwnKey × ExternalValue)

abbrev pub same_key : OwnKey → OwnKey → Bool
same_key (FuncKey p t) (FuncKey q u) = same_pair p q && same_func_type t u
same_key (TableKey p) (TableKey q) = same_pair p q
same_key (MemoryKey p) (MemoryKey q) = same_pair p q
same_key (GlobalKey p) (GlobalKey q) = same_pair p q
same_key _ _ = false

abbrev pub look_up : {K : Type 0} → (K → Bool) → List (K × ExternalValue) → Option ExternalValue
look_up is [] = None
look_up is (x ∷ xs) = cond (is x.0) (Some x.1) (look_up is xs)

abbrev pub owned_at : Owned → OwnKey → Option ExternalValue
owned_at owned key = look_up (same_key key) owned

abbrev pub func_of : ExternalValue → Option ℕ
func_of (FuncAt a) = Some a
func_of _ = None

-- The keys with consecutive addresses from n on.
abbrev pub addressed : (ℕ → ExternalValue) → ℕ → List OwnKey → Owned
addressed thing n [] = []
addressed thing n (key ∷ keys) = (key, thing n) ∷ addressed thing (suc n) keys

abbrev pub one_if : {A B : Type 0} → (A → B) → Option A → List B
one_if f None = []
one_if f (Some a) = f a ∷ []

abbrev pub flat : {A B : Type 0} → (A → List B) → List A → List B
flat f [] = []
flat f (x ∷ xs) = f x ++ flat f xs

-- The environment's entities have the first addresses of each kind, in the order of its offers.
abbrev pub owned_of : Environment → Owned
owned_of env =
    addressed FuncAt 0 (flat (λ o. map (FuncKey o.pair) o.funcs) env) ++ (addressed TableAt 0 (flat (λ o. one_if (λ t. TableKey o.pair) o.table) env)
    ++ (addressed MemoryAt 0 (flat (λ o. one_if (λ m. MemoryKey o.pair) o.memory) env) ++ addressed GlobalAt 0 (flat (λ o. one_if (λ g. GlobalKey o.pair) o.global) env)))

-- ---- values that the embedder passes ----

abbrev pub func_value : ℕ → Val
func_value a = Ref (FuncRef (Some a))

-- The value that the embedder means, if it has this type. `OwnFunc` has to be a function that the
-- environment offers, and the number of a `Function` is its place in `shown`.
abbrev pub received : Owned → (shown : List ℕ) → ValType → Shown → Option Val
received owned shown valt.I32 (Number n) = cond (nat_lt n (2 ^ 32)) (Some (Num W32 n)) None
received owned shown valt.I64 (Number n) = cond (nat_lt n (2 ^ 64)) (Some (Num W64 n)) None
received owned shown (valt.Ref reft.Func) Null = Some (Ref (FuncRef None))
received owned shown (valt.Ref reft.Func) (OwnFunc pair ty) = owned_at owned (FuncKey pair ty) >>= func_of >>= λ a. Some (func_value a)
received owned shown (valt.Ref reft.Func) (Function number) = slice_get shown number >>= λ a. Some (func_value a)
received owned shown (valt.Ref reft.Extern) Null = Some (Ref (ExternRef None))
received owned shown (valt.Ref reft.Extern) (ExternNumber n) = Some (Ref (ExternRef (Some n)))
received owned shown _ _ = None

abbrev pub received_ref : Owned → (shown : List ℕ) → RefType → Shown → Option RefVal
received_ref owned shown ty x = received owned shown (valt.Ref ty) x >>= ref_of

-- The values that the embedder means, one for each type.
abbrev pub received_all : Owned → (shown : List ℕ) → List ValType → List Shown → Option (List Val)
received_all owned shown [] [] = Some []
received_all owned shown (t ∷ ts) (x ∷ xs) = received owned shown t x >>= λ v. received_all owned shown ts xs >>= λ vs. Some (v ∷ vs)
received_all owned shown _ _ = None

-- ---- what is allocated for the environment ----

-- The reference or value, or null or zero if there is none; under `is_environment` there always is
-- one.
abbrev pub or_null : RefType → Option RefVal → RefVal
or_null ty (Some r) = r
or_null reft.Func _ = FuncRef None
or_null reft.Extern _ = ExternRef None

abbrev pub or_zero : ValType → Option Val → Val
or_zero t (Some v) = v
or_zero valt.I32 _ = Num W32 0
or_zero valt.I64 _ = Num W64 0
or_zero (valt.Ref ty) _ = Ref (or_null ty None)

abbrev pub own_funcs : Environment → List Func
own_funcs = flat (λ o. map (Own o.pair) o.funcs)

abbrev pub own_tables : Environment → List Table
own_tables env = flat (λ o. one_if (λ t. record { ty = t.ty; most = t.limits.max; slots = map (λ x. or_null t.ty (received_ref (owned_of env) [] t.ty x)) t.entries }) o.table) env

abbrev pub own_memories : Environment → List Memory
own_memories = flat (λ o. one_if (λ m. record { most = m.limits.max; pages = m.pages; bytes = m.bytes }) o.memory)

abbrev pub own_globals : Environment → List Global
own_globals env = flat (λ o. one_if (λ g. record { ty = g.ty; value = or_zero g.ty.ty (received (owned_of env) [] g.ty.ty g.value) }) o.global) env
