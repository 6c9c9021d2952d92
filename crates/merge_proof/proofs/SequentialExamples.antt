-- Two worlds to which the law of sequential instantiation applies: all its premises hold of them
-- together, and the traces of both ways to run them are computed.
use Rattle.base_lists.proofs.Common.{◌≡◌, refl, ℕ, zero, suc, ◌+◌, List, [], ◌∷◌, slice_get, Some, None, true, arith, pos, Contains, same_Some}
use Rattle.wasm_tree.specs.declared.types.RefType.TheVariants as reft
use Rattle.wasm_tree.specs.declared.types.ValType.TheVariants as valt
use Rattle.wasm_tree_spec.specs.Prelude.{FuncType, TableType, Instr, Func, Import, ConstExpr, Module}
use Rattle.wasm_tree.specs.declared.instr.Instr.{out-Instr}
use Rattle.wasm_tree.specs.declared.instr.Instr.TheVariants as i
use Rattle.wasm_tree.specs.declared.module.ImportDesc.TheVariants as im
use Rattle.wasm_tree.specs.declared.module.ExportDesc.TheVariants as ex
use Rattle.wasm_tree.specs.declared.module.ConstExpr.TheVariants as const
use Rattle.wasm_tree.specs.declared.module.ElemMode.TheVariants as elem
use Rattle.wasm_num.specs.Operations.{wrapped}
use Rattle.wasm_valid_bodies.specs.Typing.{Stack}
use Rattle.wasm_valid.specs.Prelude.{const_type, IsValid}
use Rattle.wasm_meaning.specs.Prelude.{Text, Part, Entity, module_at, joined, Environment, is_environment, Number, World, Event, Linked, Asked, Returned, Move, Call, Answer, IsPrefix, events, events_sequential, JoinsEarlier, NoLateSegments, HasNoActive}
use Rattle.wasm_meaning.specs.Sequential.{BeginsWell}
use Rattle.merge_proof.specs.SequentialEquivalence.{SequentialInstantiationIsEquivalent}

-- ---- shared definitions ----

-- The names own, a, f, g and t.
abbrev own : Text
own = 111 ∷ (119 ∷ (110 ∷ []))

abbrev a : Text
a = 97 ∷ []

abbrev f : Text
f = 102 ∷ []

abbrev g : Text
g = 103 ∷ []

abbrev t : Text
t = 116 ∷ []

abbrev nothing : FuncType
nothing = record { params = []; results = [] }

abbrev to_i32 : FuncType
to_i32 = record { params = []; results = valt.I32 ∷ [] }

abbrev empty : Module
empty = record { types = nothing ∷ (to_i32 ∷ []); imports = []; funcs = []; tables = []; mems = []; globals = []; exports = []; start = None; elems = []; datas = [] }

abbrev code : ℕ → List Instr → Func
code ty body = record { ty = ty; locals = []; body = body }

-- The environment's function f of own, of type [] to [].
abbrev own_func : Import
own_func = record { «module» = own; field = f; desc = im.Func 0 }

abbrev offers_it : Environment
offers_it = record { pair = (own, f); funcs = nothing ∷ []; table = None; memory = None; global = None } ∷ []

it_is_an_environment : is_environment offers_it ≡ true
it_is_an_environment = refl

abbrev two_parts : Module → Module → List Part
two_parts x y = record { name = Some a; «module» = x } ∷ (record { name = None; «module» = y } ∷ [])

abbrev asks : Event
asks = Asked (own, f) nothing []

-- A pair of proofs, for the items of a valid module in order: its imports, functions, tables,
-- exports, start and segments, then the bodies of its functions.
infixr 5 ◌&◌
abbrev ◌&◌ : {A B : Type 0} → A → B → A × B
a & b = (a, b)

-- Each part of two is valid if both modules are.
of_both : (x y : Module) → IsValid x → IsValid y → (p : ℕ) (m : Module) → module_at (two_parts x y) p ≡ Some m → IsValid m
of_both x y first second zero m e = rw (← same_Some _ _ e) first
of_both x y first second (suc zero) m e = rw (← same_Some _ _ e) second
of_both x y first second (suc (suc p)) m e = cc

no_name : {A : Type 0} (x : A) → Contains [] x → ⊥
no_name x (k, h, e) = absurd (omega arith)

abbrev one_number : Stack
one_number = Some valt.I32 ∷ []

-- ---- a start in the first part ----

-- A module whose start calls the environment's function, and whose function f gives 5.
abbrev starts_first : Module
starts_first = record empty {
  imports = own_func ∷ [];
  funcs = code 0 (i.Call 0 ∷ []) ∷ (code 1 (i.I32Const (pos 5) ∷ []) ∷ []);
  exports = record { name = f; desc = ex.Func 2 } ∷ [];
  start = Some 1;
}

-- A module whose function g calls the function f of the other.
abbrev calls_it : Module
calls_it = record empty { imports = record { «module» = a; field = f; desc = im.Func 1 } ∷ []; funcs = code 1 (i.Call 0 ∷ []) ∷ []; exports = record { name = g; desc = ex.Func 1 } ∷ [] }

abbrev first_starts : World
first_starts = record { parts = two_parts starts_first calls_it; view = (g, record { part = 1; what = ex.Func 1 }) ∷ [] }

starts_first_is_valid : IsValid starts_first
unfolding out-Instr denote.Hole.Carrier.out
starts_first_is_valid =
    (_, refl, omega arith)
    & (_, refl, omega arith)
    & (_, refl, omega arith)
    & (_, refl, omega arith, no_name f)
    & (_, _, refl, refl, refl, refl)
    & (_, _, refl, refl, ([], ([], (_, refl, ([], [], refl, tt, refl)), refl), tt))
    & (_, _, refl, refl, (one_number, (one_number, (_, refl, ([], [], refl, tt, refl)), refl), (refl, tt)))
    & tt

calls_it_is_valid : IsValid calls_it
unfolding out-Instr denote.Hole.Carrier.out
calls_it_is_valid =
    (_, refl, omega arith)
    & (_, refl, omega arith)
    & (_, refl, omega arith, no_name g)
    & (_, _, refl, refl, (one_number, (one_number, (_, refl, ([], [], refl, tt, refl)), refl), (refl, tt)))
    & tt

-- ---- a segment and a start in the second part ----

abbrev one_entry : TableType
one_entry = record { ty = reft.Func; limits = record { min = 1; max = Some 1 } }

-- A module that exports its table by the name t.
abbrev has_a_table : Module
has_a_table = record empty { tables = one_entry ∷ []; exports = record { name = t; desc = ex.Table 0 } ∷ [] }

-- A module that puts a function into that table which calls the environment's, and whose start
-- calls through the table.
abbrev fills_it : Module
fills_it = record empty {
  imports = record { «module» = a; field = t; desc = im.Table one_entry } ∷ (own_func ∷ []);
  funcs = code 0 (i.Call 0 ∷ []) ∷ (code 0 (i.I32Const (pos 0) ∷ (i.CallIndirect 0 0 ∷ [])) ∷ []);
  start = Some 2;
  elems = record { mode = elem.Active 0 (const.I32 (pos 0)); ty = reft.Func; items = const.Func 1 ∷ [] } ∷ [];
}

abbrev second_fills : World
second_fills = record { parts = two_parts has_a_table fills_it; view = (t, record { part = 0; what = ex.Table 0 }) ∷ [] }

has_a_table_is_valid : IsValid has_a_table
has_a_table_is_valid = (_, refl, omega arith) & (_, refl, omega arith, no_name t) & tt

its_item : (n : ℕ) (e : ConstExpr) → slice_get (const.Func 1 ∷ []) n ≡ Some e → const_type fills_it e ≡ Some (valt.Ref reft.Func)
its_item zero e is = rw (← same_Some _ _ is)
its_item (suc n) e is = cc

fills_it_is_valid : IsValid fills_it
unfolding out-Instr denote.Hole.Carrier.out
fills_it_is_valid =
    (_, refl, omega arith)
    & (_, refl, omega arith)
    & (_, refl, omega arith)
    & (_, refl, omega arith)
    & (_, _, refl, refl, refl, refl)
    & (_, refl, its_item, (refl, refl))
    & (_, _, refl, refl, ([], ([], (_, refl, ([], [], refl, tt, refl)), refl), tt))
    & (_, _, refl, refl, ([], (one_number, (_, refl, ([], [], refl, tt, refl)), ([], (_, refl, (one_number, [], refl, (refl, tt), refl)), refl)), tt))
    & tt

-- ---- the premises of the law ----

module _ (x y : Module) where
  -- Joined imports lead to earlier parts, if no import of the first part is joined and those of the
  -- second lead to the first.
  joins_earlier : ((n : ℕ) (im : Import) → slice_get x.imports n ≡ Some im → joined (two_parts x y) im ≡ None) →
      ((n : ℕ) (im : Import) (e : Entity) → slice_get y.imports n ≡ Some im → joined (two_parts x y) im ≡ Some e → e.part ≡ 0) → JoinsEarlier (two_parts x y)
  joins_earlier none first zero n m im e at is joins = let k = none n im (rw (← same_Some _ _ at) at is) in cc
  joins_earlier none first (suc zero) n m im e at is joins = omega (arith, first n im e (rw (← same_Some _ _ at) at is) joins)
  joins_earlier none first (suc (suc p)) n m im e at is joins = cc

  -- There are no late segments, if the second part has no active segment when the first has a
  -- start.
  no_late : ((s : ℕ) → x.start ≡ Some s → HasNoActive y) → NoLateSegments (two_parts x y)
  no_late h zero (suc zero) s m n less at bt e = rw (← same_Some _ _ bt) (h s (rw (← same_Some _ _ at) at e))
  no_late h p (suc (suc q)) s m n less at bt e = cc
  no_late h p q s m n less at bt e = absurd (omega arith)

starts_first_joins_none : (n : ℕ) (im : Import) → slice_get starts_first.imports n ≡ Some im → joined first_starts.parts im ≡ None
starts_first_joins_none zero im e = rw (← same_Some _ _ e)
starts_first_joins_none (suc n) im e = cc

calls_it_joins_the_first : (n : ℕ) (im : Import) (e : Entity) → slice_get calls_it.imports n ≡ Some im → joined first_starts.parts im ≡ Some e → e.part ≡ 0
calls_it_joins_the_first zero im e is joins = rw (← same_Some _ _ (rw (← same_Some _ _ is) at joins))
calls_it_joins_the_first (suc n) im e is joins = cc

has_a_table_joins_none : (n : ℕ) (im : Import) → slice_get has_a_table.imports n ≡ Some im → joined second_fills.parts im ≡ None
has_a_table_joins_none n im e = cc

fills_it_joins_the_first : (n : ℕ) (im : Import) (e : Entity) → slice_get fills_it.imports n ≡ Some im → joined second_fills.parts im ≡ Some e → e.part ≡ 0
fills_it_joins_the_first zero im e is joins = rw (← same_Some _ _ (rw (← same_Some _ _ is) at joins))
fills_it_joins_the_first (suc zero) im e is joins = let none = rw (← same_Some _ _ is) at joins in cc
fills_it_joins_the_first (suc (suc n)) im e is joins = cc

first_starts_begins_well : BeginsWell offers_it first_starts
first_starts_begins_well = (_, refl, refl)

second_fills_begins_well : BeginsWell offers_it second_fills
unfolding wrapped
second_fills_begins_well = (_, refl, refl)

-- ---- traces of both ways ----

abbrev answers_and_calls : List Move
answers_and_calls = Answer [] ∷ (Call g [] ∷ [])

abbrev answer : List Move
answer = Answer [] ∷ []

module _ (law : SequentialInstantiationIsEquivalent) where
  first_starts_in_turn : (moves : List Move) (n : ℕ) → IsPrefix (events first_starts offers_it moves n) (events_sequential first_starts offers_it moves (n + 8)) × IsPrefix (events_sequential first_starts offers_it moves n) (events first_starts offers_it moves (n + 8))
  first_starts_in_turn =
      law first_starts (of_both starts_first calls_it starts_first_is_valid calls_it_is_valid) (omega arith) (joins_earlier starts_first calls_it starts_first_joins_none calls_it_joins_the_first) (no_late starts_first calls_it (λ s e. record { elems = refl; datas = refl })) offers_it refl
      first_starts_begins_well

  second_fills_in_turn : (moves : List Move) (n : ℕ) → IsPrefix (events second_fills offers_it moves n) (events_sequential second_fills offers_it moves (n + 8)) × IsPrefix (events_sequential second_fills offers_it moves n) (events second_fills offers_it moves (n + 8))
  second_fills_in_turn =
      law second_fills (of_both has_a_table fills_it has_a_table_is_valid fills_it_is_valid) (omega arith) (joins_earlier has_a_table fills_it has_a_table_joins_none fills_it_joins_the_first) (no_late has_a_table fills_it (λ s e. cc)) offers_it refl second_fills_begins_well

first_starts_at_once : events first_starts offers_it answers_and_calls 14 ≡ asks ∷ (Linked ∷ (Returned (Number 5 ∷ []) ∷ []))
unfolding out-Instr denote.Hole.Carrier.out wrapped
first_starts_at_once = refl

first_starts_one_by_one : events_sequential first_starts offers_it answers_and_calls 22 ≡ asks ∷ (Linked ∷ (Returned (Number 5 ∷ []) ∷ []))
unfolding out-Instr denote.Hole.Carrier.out wrapped
first_starts_one_by_one = refl

second_fills_at_once : events second_fills offers_it answer 10 ≡ asks ∷ (Linked ∷ [])
unfolding out-Instr denote.Hole.Carrier.out wrapped
second_fills_at_once = refl

second_fills_one_by_one : events_sequential second_fills offers_it answer 18 ≡ asks ∷ (Linked ∷ [])
unfolding out-Instr denote.Hole.Carrier.out wrapped
second_fills_one_by_one = refl
