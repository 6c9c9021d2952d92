-- Three wrong sweeps of a small module: each leaves a module with another trace, by computation.
-- The module is valid and its marks are closed, so the law `swept_module_equivalent` applies to it,
-- and each wrong sweep breaks the law.
use Rattle.base_lists.proofs.Common.{◌≡◌, refl, ap, subst, sym, ℕ, zero, suc, List, [], ◌∷◌, Some, None, true, false, arith, slice_get, Contains, get_or, same_Some}
use Rattle.wasm_tree_spec.specs.Prelude.{the_lemmas, FuncType, Space, Types, Functions, Tables, Memories, Globals, ElementSegments, DataSegments, Export, Func, Import, Module}
use Rattle.wasm_tree.specs.declared.instr.Instr.{out-Instr}
use Rattle.wasm_tree.specs.declared.instr.Instr.TheVariants as i
use Rattle.wasm_tree.specs.declared.module.ExportDesc.TheVariants as ex
use Rattle.wasm_tree.specs.declared.module.ImportDesc.TheVariants as im
use Rattle.wasm_num.specs.Operations.{wrapped}
use Rattle.wasm_valid_bodies.specs.Typing.{WellTyped, Gives}
use Rattle.wasm_valid.specs.Prelude.{IsValid, body_context}
use Rattle.wasm_meaning.specs.Prelude.{Text, imports_of, Environment, Offer, alone, Event, Linked, Asked, Returned, BadMove, Move, Answer, Call, IsPrefix, events}
use Rattle.index_remap_proof.specs.Indices.{FuncNamesOnly, ExportNamesOnly, ImportNamesOnly}
use Rattle.base_kept.specs.Kept.{is_marked}
use Rattle.dce_spec.specs.Marks.{Marks, stays}
use Rattle.dce_spec.specs.Closed.{AreClosed}
use Rattle.dce_spec.specs.Swept.{kept_tree, swept}
use Rattle.dce_spec.specs.Unswept.{unswept}
use Rattle.dce_proof.specs.SweptModuleEquivalence.{ObservationallyEquivalent}

-- ---- the module ----

-- The names own, a, b, f and g, as characters.
abbrev own : Text
own = 111 ∷ 119 ∷ 110 ∷ []

abbrev a : Text
a = 97 ∷ []

abbrev b : Text
b = 98 ∷ []

abbrev f : Text
f = 102 ∷ []

abbrev g : Text
g = 103 ∷ []

abbrev nothing : FuncType
nothing = record { params = []; results = [] }

abbrev own_func : Text → Import
own_func field = record { «module» = own; field = field; desc = im.Func 0 }

-- A function that only calls the function at this index.
abbrev calls : ℕ → Func
calls func = record { ty = 0; locals = []; body = i.Call func ∷ [] }

abbrev export : Text → ℕ → Export
export name func = record { name = name; desc = ex.Func func }

-- The function exported as `a` calls `f` and the one exported as `b` calls `g`. Both `f` and `g`
-- come from the environment. The start function is that of `b`.
abbrev whole : Module
whole = record {
  types = nothing ∷ [];
  imports = own_func f ∷ own_func g ∷ [];
  funcs = calls 0 ∷ calls 1 ∷ [];
  tables = [];
  mems = [];
  globals = [];
  exports = export a 2 ∷ export b 3 ∷ [];
  start = Some 3;
  elems = [];
  datas = [];
}

-- These marks keep `b` and what it calls.
abbrev second : Marks
second = record { exports = false ∷ true ∷ []; imports = false ∷ true ∷ []; funcs = false ∷ true ∷ false ∷ true ∷ []; globals = [] }

abbrev left : Module
left = record whole { imports = own_func g ∷ []; funcs = calls 0 ∷ []; exports = export b 1 ∷ []; start = Some 1 }

b_is_left : swept second whole ≡ left
unfolding swept
b_is_left = search (the_lemmas)

-- ---- what the law asks of it ----

first_is_typed : WellTyped (body_context whole (calls 0) nothing) (i.Call 0 ∷ []) [] []
unfolding out-Instr denote.Hole.Carrier.out
first_is_typed = ([], ([], (Gives [] [], refl, ([], [], refl, tt, refl)), refl), tt)

second_is_typed : WellTyped (body_context whole (calls 1) nothing) (i.Call 1 ∷ []) [] []
unfolding out-Instr denote.Hole.Carrier.out
second_is_typed = ([], ([], (Gives [] [], refl, ([], [], refl, tt, refl)), refl), tt)

not_a : Contains (a ∷ []) b → ⊥
not_a (zero, lt, e) = let h : 97 ≡ 98 = ap (λ name. get_or name 0 0) e in absurd (omega (arith, h))
not_a (suc k, lt, e) = absurd (omega (arith, lt))

-- The evidence is listed in this order: imports, functions, exports, start, bodies of functions.
whole_is_valid : IsValid whole
whole_is_valid = (
  (own_func f, refl, omega arith),
  (
    (own_func g, refl, omega arith),
    (
      (calls 0, refl, omega arith),
      (
        (calls 1, refl, omega arith),
        (
          (export a 2, refl, omega arith, λ c. absurd (let l = c.1 in omega (arith, l))),
          ((export b 3, refl, omega arith, not_a), ((3, nothing, refl, refl, refl, refl), ((calls 0, nothing, refl, refl, first_is_typed), ((calls 1, nothing, refl, refl, second_is_typed), tt)))),
        ),
      ),
    ),
  ),
)

second_is_closed : AreClosed second whole
unfolding out-Instr denote.Hole.Carrier.out
second_is_closed = record {
  exports_many = refl;
  imports_many = refl;
  funcs_many = refl;
  globals_many = refl;
  imported = imported;
  names = record {
    imports = imports;
    funcs = funcs;
    globals = λ i x h. cc;
    exports = exports;
    start = λ x h. rw (← same_Some _ _ h) refl;
    items = λ i p x e h k. cc;
    elem_modes = λ i x h. cc;
    data_modes = λ i x h. cc;
  };
}
  where
    imported : (space : Space) (i n : ℕ) → slice_get (imports_of space whole) i ≡ Some n → is_marked second.imports n ≡ stays second space i
    imported Functions zero n h = rw (← same_Some _ _ h) refl
    imported Functions (suc zero) n h = rw (← same_Some _ _ h) refl
    imported Functions (suc (suc i)) n h = cc
    imported Types i n h = cc
    imported Tables i n h = cc
    imported Memories i n h = cc
    imported Globals i n h = cc
    imported ElementSegments i n h = cc
    imported DataSegments i n h = cc

    imports : (i : ℕ) (x : Import) → slice_get (kept_tree second whole).imports i ≡ Some x → ImportNamesOnly (stays second) x.desc
    imports zero x h = rw (← same_Some _ _ h) refl
    imports (suc i) x h = cc

    funcs : (i : ℕ) (x : Func) → slice_get (kept_tree second whole).funcs i ≡ Some x → FuncNamesOnly (stays second) x
    funcs zero x h = rw (← same_Some _ _ h) (refl, ((refl, tt), tt))
    funcs (suc i) x h = cc

    exports : (i : ℕ) (x : Export) → slice_get (kept_tree second whole).exports i ≡ Some x → ExportNamesOnly (stays second) x.desc
    exports zero x h = rw (← same_Some _ _ h) refl
    exports (suc i) x h = cc

-- ---- what is seen ----

abbrev offered : Text → Offer
offered field = record { pair = (own, field); funcs = nothing ∷ []; table = None; memory = None; global = None }

abbrev both : Environment
both = offered f ∷ offered g ∷ []

-- The environment answers the call of the start function, then calls `b` and answers its call.
abbrev moves : List Move
moves = Answer [] ∷ Call b [] ∷ Answer [] ∷ []

abbrev asks : Text → Event
asks field = Asked (own, field) nothing []

abbrev g_twice : List Event
g_twice = asks g ∷ Linked ∷ asks g ∷ Returned [] ∷ []

the_module_asks_for_g : events (unswept second whole) both moves 20 ≡ g_twice
unfolding out-Instr denote.Hole.Carrier.out wrapped
the_module_asks_for_g = refl

what_is_left_asks_for_g : events (alone left) both moves 20 ≡ g_twice
unfolding out-Instr denote.Hole.Carrier.out wrapped
what_is_left_asks_for_g = refl

-- ---- wrong sweeps ----

-- A wrong result: it imports `f`, which is not kept, in place of `g`.
abbrev other_kept : Module
other_kept = record left { imports = own_func f ∷ [] }

-- A wrong result: it has no start function.
abbrev start_forgotten : Module
start_forgotten = record left { start = None }

-- A wrong result: it has no export.
abbrev export_dropped : Module
export_dropped = record left { exports = [] }

abbrev f_twice : List Event
f_twice = asks f ∷ Linked ∷ asks f ∷ Returned [] ∷ []

the_other_asks_for_f : events (alone other_kept) both moves 20 ≡ f_twice
unfolding out-Instr denote.Hole.Carrier.out wrapped
the_other_asks_for_f = refl

without_a_start_it_links : events (alone start_forgotten) both moves 20 ≡ Linked ∷ BadMove ∷ asks g ∷ Returned [] ∷ []
unfolding out-Instr denote.Hole.Carrier.out wrapped
without_a_start_it_links = refl

without_an_export_nothing_is_called : events (alone export_dropped) both moves 20 ≡ asks g ∷ Linked ∷ BadMove ∷ BadMove ∷ []
unfolding out-Instr denote.Hole.Carrier.out wrapped
without_an_export_nothing_is_called = refl

-- No sweep that makes this module of the module above satisfies the law.
abbrev BreaksTheLaw : Module → Type 0
BreaksTheLaw wrong = (sweep : Marks → Module → Module) → sweep second whole ≡ wrong → ((k : Marks) (t : Module) → IsValid t → AreClosed k t → ObservationallyEquivalent k t (sweep k t)) → ⊥

-- Another module is not equivalent to the module if the trace of the module is no prefix of its
-- trace.
refused : (wrong : Module) (xs ys : List Event) → events (unswept second whole) both moves 20 ≡ xs → events (alone wrong) both moves 20 ≡ ys → (IsPrefix xs ys → ⊥) → ObservationallyEquivalent second whole wrong → ⊥
refused wrong xs ys seen shown apart same = apart (rw (← seen) (rw (← shown) (same both refl refl moves 20).0))

breaks : (wrong : Module) (ys : List Event) → events (alone wrong) both moves 20 ≡ ys → (IsPrefix g_twice ys → ⊥) → BreaksTheLaw wrong
breaks wrong ys shown apart sweep gives law =
    refused wrong g_twice ys the_module_asks_for_g shown apart (subst (ObservationallyEquivalent second whole) gives (law second whole whole_is_valid second_is_closed))

-- The field name of the function that the first event asks for.
abbrev asked_first : List Event → Text
asked_first (Asked pair ty xs ∷ es) = pair.1
asked_first _ = []

starts_like_g : (ys : List Event) → IsPrefix g_twice ys → get_or (asked_first ys) 0 0 ≡ 103
starts_like_g ys p = sym (ap (λ es. get_or (asked_first es) 0 0) p.1)

not_f : IsPrefix g_twice f_twice → ⊥
not_f p = let k : 102 ≡ 103 = starts_like_g f_twice p in absurd (omega (arith, k))

the_other_function_breaks_the_law : BreaksTheLaw other_kept
the_other_function_breaks_the_law = breaks other_kept f_twice the_other_asks_for_f not_f

a_forgotten_start_breaks_the_law : BreaksTheLaw start_forgotten
a_forgotten_start_breaks_the_law = breaks start_forgotten _ without_a_start_it_links (λ p. cc)

a_dropped_export_breaks_the_law : BreaksTheLaw export_dropped
a_dropped_export_breaks_the_law = breaks export_dropped _ without_an_export_nothing_is_called (λ p. cc)
