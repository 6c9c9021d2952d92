-- Wrong merges of two small parts each, with names: the parts and such a module do not have the
-- same traces, by computation.
use Rattle.base_lists.proofs.Common.{◌≡◌, refl, ap, ℕ, zero, suc, List, [], ◌∷◌, true, Some, None, pos, IsTrue, arith}
use Rattle.wasm_tree.specs.declared.types.RefType.TheVariants as reft
use Rattle.wasm_tree.specs.declared.types.ValType.TheVariants as valt
use Rattle.wasm_tree_spec.specs.Prelude.{FuncType, Limits, Instr, fold_out-Instr, the_lemmas, Func, Import, Module}
use Rattle.wasm_tree.specs.declared.types.BlockType.TheVariants as bt
use Rattle.wasm_tree.specs.declared.instr.Instr.{out-Instr}
use Rattle.wasm_tree.specs.declared.instr.Instr.TheVariants as i
use Rattle.wasm_tree.specs.declared.module.ImportDesc.TheVariants as im
use Rattle.wasm_tree.specs.declared.module.ConstExpr.TheVariants as const
use Rattle.wasm_tree.specs.declared.module.ElemMode.TheVariants as elem
use Rattle.wasm_num.specs.Operations.{wrapped}
use Rattle.wasm_meaning.specs.Prelude.{Text, Part, Environment, Offer, is_environment, alone, Event, Linked, LinkFault, InstanceTrapped, Asked, BadMove, Move, Answer, IsPrefix, events}
use Rattle.merge_names.specs.declared.mode.Mode.TheVariants as mode
use Rattle.merge_spec.specs.Faults.{link_fault, import_fault, stays, kept_limits, clash_fault, defined_globals}
use Rattle.merge_spec.specs.Merged.{staying, staying_of, place_of_end, new_index, merged_types, place_of_type, map_of, merged_const, merged_import, starts, defined_funcs, all_exports, merged, nullary}
use Rattle.merge_spec.specs.Joined.{joined_module}
use Rattle.merge_spec.specs.declared.parts.Part as given
use Rattle.merge_spec.specs.Prelude.{named_modules, linked_world}
use Rattle.merge_spec.specs.View.{all_entities, merge_view}
use Rattle.merge_proof.specs.MergeEquivalence.{ObservationallyEquivalent}

-- ---- shared definitions ----

-- The names own, a, b, f, g and m.
abbrev own : Text
own = 111 ∷ 119 ∷ 110 ∷ []

abbrev a : Text
a = 97 ∷ []

abbrev b : Text
b = 98 ∷ []

abbrev pub f : Text
f = 102 ∷ []

abbrev pub g : Text
g = 103 ∷ []

abbrev m : Text
m = 109 ∷ []

abbrev from_i32 : FuncType
from_i32 = record { params = valt.I32 ∷ []; results = valt.I32 ∷ [] }

abbrev empty : Module
empty = record { types = []; imports = []; funcs = []; tables = []; mems = []; globals = []; exports = []; start = None; elems = []; datas = [] }

abbrev code : ℕ → List Instr → Func
code ty body = record { ty = ty; locals = []; body = body }

abbrev own_func : Text → ℕ → Import
own_func field ty = record { «module» = own; field = field; desc = im.Func ty }

abbrev offered : Text → Offer
offered field = record { pair = (own, field); funcs = nullary ∷ []; table = None; memory = None; global = None }

abbrev asks : Text → Event
asks field = Asked (own, field) nullary []

-- ---- two starts ----

-- A module whose start calls one function of the environment's own.
abbrev pub starting : Text → Module
starting field = record empty { types = nullary ∷ []; imports = own_func field 0 ∷ []; funcs = code 0 (i.Call 0 ∷ []) ∷ []; start = Some 1 }

-- The merged module of two such modules, with this body of its start function.
abbrev starting_by : List Instr → Module
starting_by body = record empty {
  types = nullary ∷ [];
  imports = own_func f 0 ∷ own_func g 0 ∷ [];
  funcs = code 0 (i.Call 0 ∷ []) ∷ code 0 (i.Call 1 ∷ []) ∷ code 0 body ∷ [];
  start = Some 4;
}

-- The merged module whose start calls both starts in order.
abbrev in_order : Module
in_order = starting_by (i.Call 2 ∷ i.Call 3 ∷ [])

-- ---- an indirect call ----

abbrev calling_body : ℕ → List Instr
calling_body ty = i.I32Const (pos 7) ∷ i.I32Const (pos 0) ∷ i.CallIndirect ty 0 ∷ i.Drop ∷ []

-- A module whose start calls a function of the environment's own through its table.
abbrev pub calling : Module
calling = record empty {
  types = nullary ∷ [];
  imports = own_func f 0 ∷ [];
  funcs = code 0 (calling_body 0) ∷ [];
  tables = record { ty = reft.Func; limits = record { min = 1; max = Some 1 } } ∷ [];
  start = Some 1;
  elems = record { mode = elem.Active 0 (const.I32 (pos 0)); ty = reft.Func; items = const.Func 0 ∷ [] } ∷ [];
}

-- That module merged after a part with another type, with this type index in its indirect call.
abbrev two_types_with : ℕ → Module
two_types_with ty = record calling { types = from_i32 ∷ nullary ∷ []; imports = own_func f 1 ∷ []; funcs = code 1 (calling_body ty) ∷ [] }

-- ---- the limits of a memory ----

abbrev pages_from : ℕ → Limits
pages_from n = record { min = n; max = None }

-- A module that imports a memory with this minimum.
abbrev pub one_memory_from : ℕ → Module
one_memory_from n = record empty { imports = record { «module» = own; field = m; desc = im.Memory (pages_from n) } ∷ [] }

-- An environment that has a memory without a page.
abbrev no_page : Environment
no_page = record { pair = (own, m); funcs = []; table = None; memory = Some (record { limits = pages_from 0; pages = 0; bytes = [] }); global = None } ∷ []

-- ---- a start that does not end ----

-- A module whose start loops for ever.
abbrev pub never_ending : Module
never_ending = record empty { types = nullary ∷ []; funcs = code 0 (i.Loop bt.Empty (i.Br 0 ∷ []) ∷ []) ∷ []; start = Some 0 }

-- ---- the parts and their traces ----

pub data Example : Type 0 where
  two_starts : Example
  two_types : Example
  one_memory : Example
  no_end : Example

-- Two parts and their merged module; an environment, its moves, and the trace of ten steps of the
-- parts there.
pub record Case : Type 0 where
  pub first : Module
  pub second : Module
  pub whole : Module
  pub env : Environment
  pub moves : List Move
  pub shown : List Event

abbrev pub case : Example → Case
case two_starts = record {
  first = starting f;
  second = starting g;
  whole = in_order;
  env = offered f ∷ offered g ∷ [];
  moves = Answer [] ∷ Answer [] ∷ [];
  shown = asks f ∷ asks g ∷ Linked ∷ [];
}
case two_types = record { first = record empty { types = from_i32 ∷ [] }; second = calling; whole = two_types_with 1; env = offered f ∷ []; moves = Answer [] ∷ []; shown = asks f ∷ Linked ∷ [] }
case one_memory = record { first = one_memory_from 0; second = one_memory_from 1; whole = one_memory_from 1; env = no_page; moves = []; shown = LinkFault ∷ [] }
case no_end = record { first = never_ending; second = empty; whole = never_ending; env = []; moves = []; shown = [] }

-- The parts a and b, as `join` is given them.
abbrev pub given_as : Example → List given.Part
given_as e = record { name = a; «module» = (case e).first } ∷ record { name = b; «module» = (case e).second } ∷ []

-- The same parts, in the form that linking by name uses.
abbrev pub parts_of : Example → List Part
parts_of e = named_modules (given_as e)

pub no_fault : (e : Example) → link_fault (parts_of e) true ≡ None
unfolding link_fault import_fault kept_limits clash_fault defined_globals
no_fault e = grind arith

pub joins : (e : Example) → joined_module (parts_of e) mode.Refuse ≡ (case e).whole
unfolding joined_module merged staying staying_of place_of_end new_index merged_types place_of_type map_of merged_const merged_import starts defined_funcs all_exports stays
joins one_memory = refl
joins _ = simp (fold_out-Instr, the_lemmas)

-- The trace of parts whose start does not end is empty, for all moves and any number of steps.
the_parts_show_nothing : (moves : List Move) (n : ℕ) → events (linked_world (parts_of no_end) mode.Refuse) [] moves n ≡ []
unfolding all_entities merge_view
the_parts_show_nothing moves zero = refl
the_parts_show_nothing moves (suc zero) = refl
-- The loop is about to begin.
the_parts_show_nothing moves (suc (suc zero)) = refl
the_parts_show_nothing moves (suc (suc (suc zero))) = simp i.outs-Loop
-- The loop begins again.
the_parts_show_nothing moves (suc (suc (suc (suc n)))) = simp (i.outs-Loop, i.outs-Br) (the_parts_show_nothing moves (suc (suc n)))

-- The environment is well formed, and the trace of the parts in it is the one of the example.
the_parts_show : (e : Example) → IsTrue (is_environment (case e).env) × (events (linked_world (parts_of e) mode.Refuse) (case e).env (case e).moves 10 ≡ (case e).shown)
unfolding out-Instr denote.Hole.Carrier.out wrapped all_entities merge_view
the_parts_show no_end = (refl, the_parts_show_nothing [] 10)
the_parts_show _ = (refl, refl)

-- The trace of a module alone in fourteen steps, four more than the parts have.
abbrev seen_alone : Example → Module → List Event
seen_alone e x = events (alone x) (case e).env (case e).moves 14

-- The merged module has the trace of the parts, if the start ends.
the_merge_shows_the_same : (e : Example) → (e ≡ no_end → ⊥) → seen_alone e (joined_module (parts_of e) mode.Refuse) ≡ (case e).shown
unfolding out-Instr denote.Hole.Carrier.out wrapped
the_merge_shows_the_same no_end ends = absurd (ends refl)
the_merge_shows_the_same e ends = ap (seen_alone e) (joins e)

-- ---- the wrong merges ----

-- The mistakes of the wrong merges.
pub data Mistake : Type 0 where
  -- The second start is not called.
  second_dropped : Mistake
  -- The first start is the start of the merged module.
  first_alone : Mistake
  -- The second start is called first.
  second_first : Mistake
  -- The types are shared, but the type index of an indirect call is unchanged, so the call traps.
  type_index_kept : Mistake
  -- A memory that two parts import keeps the first limits.
  first_limits : Mistake
  -- A start that does not end is left out.
  start_left_out : Mistake

-- The parts that are merged, the module that a mistake gives for them, and the trace of that module
-- alone in fourteen steps.
pub record Wrong : Type 0 where
  pub parts : Example
  pub tree : Module
  pub shown : List Event

abbrev pub wrong : Mistake → Wrong
wrong second_dropped = record { parts = two_starts; tree = starting_by (i.Call 2 ∷ []); shown = asks f ∷ Linked ∷ BadMove ∷ [] }
wrong first_alone = record { parts = two_starts; tree = record in_order { start = Some 2 }; shown = asks f ∷ Linked ∷ BadMove ∷ [] }
wrong second_first = record { parts = two_starts; tree = starting_by (i.Call 3 ∷ i.Call 2 ∷ []); shown = asks g ∷ asks f ∷ Linked ∷ [] }
wrong type_index_kept = record { parts = two_types; tree = two_types_with 0; shown = InstanceTrapped ∷ BadMove ∷ [] }
wrong first_limits = record { parts = one_memory; tree = one_memory_from 0; shown = Linked ∷ [] }
wrong start_left_out = record { parts = no_end; tree = record never_ending { start = None }; shown = Linked ∷ [] }

-- The trace of the module that a mistake gives is computed.
it_shows : (w : Mistake) → seen_alone (wrong w).parts (wrong w).tree ≡ (wrong w).shown
unfolding out-Instr denote.Hole.Carrier.out wrapped
it_shows second_dropped = refl
it_shows _ = refl

-- The module that a mistake gives is observationally equivalent to the parts.
abbrev pub IsEquivalent : Mistake → Type 0
IsEquivalent w = ObservationallyEquivalent (parts_of (wrong w).parts) mode.Refuse (wrong w).tree

-- If the module were equivalent to the parts, the trace of the parts would be a prefix of that of
-- the module.
begins_it : (w : Mistake) → IsEquivalent w → IsPrefix (case (wrong w).parts).shown (wrong w).shown
begins_it w same =
    let e = (wrong w).parts in
    let parts = the_parts_show e in
    rw (← parts.1, ← it_shows w) (same (case e).env parts.0 tt (case e).moves 10).0

-- Each mistake is refused: the trace of the parts is not a prefix of that of the module. Only if a
-- start that does not end is left out, the other half of the equivalence fails: the module has
-- events that the parts do not have.
pub mistakes_are_refused : (w : Mistake) → IsEquivalent w → ⊥
mistakes_are_refused start_left_out same = grind (arith, the_parts_show_nothing [] 6, (same [] refl tt [] 2).1)
mistakes_are_refused w same = grind (arith, (begins_it w same).1)

-- The refusal of each mistake, under a name of its own.

dropped_starts_are_refused : IsEquivalent second_dropped → ⊥
dropped_starts_are_refused = mistakes_are_refused second_dropped

first_starts_alone_are_refused : IsEquivalent first_alone → ⊥
first_starts_alone_are_refused = mistakes_are_refused first_alone

starts_in_reverse_are_refused : IsEquivalent second_first → ⊥
starts_in_reverse_are_refused = mistakes_are_refused second_first

kept_type_indices_are_refused : IsEquivalent type_index_kept → ⊥
kept_type_indices_are_refused = mistakes_are_refused type_index_kept

first_limits_are_refused : IsEquivalent first_limits → ⊥
first_limits_are_refused = mistakes_are_refused first_limits

starts_without_end_are_not_left_out : IsEquivalent start_left_out → ⊥
starts_without_end_are_not_left_out = mistakes_are_refused start_left_out
