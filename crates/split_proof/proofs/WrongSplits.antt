-- Wrong splits and a wrong view, each with a trace that is no trace of the module, by computation.
use Rattle.base_lists.proofs.Common.{◌≡◌, refl, sym, ap, subst, ℕ, zero, ◌+◌, ◌*◌, arith, List, [], ◌∷◌, ◌++◌, Some, Bool, true, false, pos, nat_eq}
use Rattle.wasm_tree.specs.declared.instr.Instr.{out-Instr}
use Rattle.wasm_tree.specs.declared.instr.Instr.TheVariants as i
use Rattle.wasm_tree.specs.declared.types.RefType.TheVariants.{Func as func_ref}
use Rattle.wasm_tree.specs.declared.types.ValType.TheVariants as valt
use Rattle.wasm_tree_spec.specs.Prelude.{FuncType, Module}
use Rattle.wasm_tree.specs.declared.module.ConstExpr.TheVariants as const
use Rattle.wasm_tree.specs.declared.module.ExportDesc.TheVariants as ex
use Rattle.wasm_tree.specs.declared.module.ImportDesc.TheVariants as im
use Rattle.wasm_num.specs.Operations.{wrapped, un_from, un_to, un_value, bin_from, bin_to, bin_value}
use Rattle.index_remap.specs.Prelude.{declaring}
use Rattle.wasm_meaning.specs.Prelude.{Null, Number, Function, alone, Event, Linked, Returned, Trapped, Got, BadMove, Move, Call, Take, Get, Size, Named, IsPrefix, events, LoaderWorld, events_loaded}
use Rattle.split_spec.specs.Examples.{placeholder_word, primary_word, slots_word, shared_word, empty, func, import, export, table, segment, nothing, gives_number, takes_two, slots_import}
use Rattle.split_proof.specs.SplitWorlds.{in_place_of}
use Rattle.split_proof.specs.SplitLaws.{ObservationallyEquivalent}
use Rattle.split_proof.proofs.SmallRuns.{f, g, number, one_slot, two_slots, subtracting, subtracting_primary, subtracting_secondary, subtracting_world}

-- A world is not equivalent to the module where its events in some number of steps are no prefix of
-- those of the module in as many.
refused : (m : Module) (w : LoaderWorld) (most : ℕ) (moves : List Move) (n : ℕ) (xs ys : List Event) →
    events_loaded w [] moves n ≡ xs → events (alone m) [] moves n ≡ ys → (IsPrefix xs ys → ⊥) → ObservationallyEquivalent m w most → ⊥
refused m w most moves n xs ys seen shown apart same = apart (rw (← seen) (rw (← shown) (same [] refl tt moves n).1))

-- A world is not equivalent to the module either where the events of the module are no prefix of
-- those of the world in as many steps as the law allows.
refused_later : (m : Module) (w : LoaderWorld) (most : ℕ) (moves : List Move) (n k : ℕ) (xs ys : List Event) → k ≡ (most + 8) * (n + 1) →
    events (alone m) [] moves n ≡ xs → events_loaded w [] moves k ≡ ys → (IsPrefix xs ys → ⊥) → ObservationallyEquivalent m w most → ⊥
refused_later m w most moves n k xs ys steps seen shown apart same =
    apart (rw (← seen) (rw (← shown) (subst (λ j. IsPrefix (events (alone m) [] moves n) (events_loaded w [] moves j)) (sym steps) (same [] refl tt moves n).0)))

-- The second event returns this number.
abbrev gives_second : ℕ → List Event → Bool
gives_second n (e ∷ (Returned (Number k ∷ []) ∷ es)) = nat_eq n k
gives_second n es = false

-- ---- arguments in reverse ----

abbrev reversing : Module
reversing = record subtracting_primary { funcs = func 0 (i.LocalGet 1 ∷ i.LocalGet 0 ∷ i.I32Const (pos 0) ∷ i.CallIndirect 0 0 ∷ []) ∷ [] }

abbrev subtraction : List Move
subtraction = Call f (Number 5 ∷ (Number 3 ∷ [])) ∷ []

the_difference : events (alone subtracting) [] subtraction 20 ≡ Linked ∷ (number 2 ∷ [])
unfolding out-Instr denote.Hole.Carrier.out wrapped un_from un_to un_value bin_from bin_to bin_value
the_difference = refl

another_difference : events_loaded (in_place_of primary_word subtracting reversing (one_slot takes_two subtracting_secondary)) [] subtraction 20 ≡ Linked ∷ (number 4294967294 ∷ [])
unfolding out-Instr denote.Hole.Carrier.out wrapped un_from un_to un_value bin_from bin_to bin_value
another_difference = refl

arguments_in_reverse_are_refused : ObservationallyEquivalent subtracting (in_place_of primary_word subtracting reversing (one_slot takes_two subtracting_secondary)) 2 → ⊥
arguments_in_reverse_are_refused =
    refused subtracting (in_place_of primary_word subtracting reversing (one_slot takes_two subtracting_secondary)) 2 subtraction 20 _ _ another_difference the_difference (λ p. let k : gives_second 2 (Linked ∷ (number 4294967294 ∷ p.0)) ≡ true = ap (gives_second 2) p.1 in cc)

-- ---- secondary modules that do not link ----

-- This module in place of the secondary one.
abbrev loading : Module → LoaderWorld
loading second = in_place_of primary_word subtracting subtracting_primary (one_slot takes_two second)

-- It imports the slots from the namespace of the placeholders.
abbrev of_the_placeholders : Module
of_the_placeholders = record subtracting_secondary { imports = import placeholder_word slots_word (im.Table (table 1)) ∷ [] }

-- It has a start function, which does nothing.
abbrev with_a_start : Module
with_a_start = record subtracting_secondary { types = takes_two ∷ nothing ∷ []; funcs = subtracting.funcs ++ func 1 [] ∷ []; start = Some 1 }

the_import_has_no_module : events_loaded (loading of_the_placeholders) [] subtraction 20 ≡ Linked ∷ (Trapped ∷ [])
unfolding out-Instr denote.Hole.Carrier.out wrapped un_from un_to un_value bin_from bin_to bin_value
the_import_has_no_module = refl

the_start_is_not_allowed : events_loaded (loading with_a_start) [] subtraction 20 ≡ Linked ∷ (Trapped ∷ [])
unfolding out-Instr denote.Hole.Carrier.out wrapped un_from un_to un_value bin_from bin_to bin_value
the_start_is_not_allowed = refl

a_wrong_namespace_is_refused : ObservationallyEquivalent subtracting (loading of_the_placeholders) 2 → ⊥
a_wrong_namespace_is_refused = refused subtracting (loading of_the_placeholders) 2 subtraction 20 _ _ the_import_has_no_module the_difference (λ p. let k = p.1 in cc)

a_start_is_refused : ObservationallyEquivalent subtracting (loading with_a_start) 2 → ⊥
a_start_is_refused = refused subtracting (loading with_a_start) 2 subtraction 20 _ _ the_start_is_not_allowed the_difference (λ p. let k = p.1 in cc)

-- ---- a view that has the slots ----

abbrev with_slots : LoaderWorld
with_slots = record subtracting_world { view = (slots_word, ex.Table 0) ∷ subtracting_world.view }

no_slots : events (alone subtracting) [] (Size (Named slots_word) ∷ []) 20 ≡ Linked ∷ (BadMove ∷ [])
unfolding out-Instr denote.Hole.Carrier.out wrapped
no_slots = refl

one_is_seen : events_loaded with_slots [] (Size (Named slots_word) ∷ []) 20 ≡ Linked ∷ (Got (Number 1) ∷ [])
unfolding out-Instr denote.Hole.Carrier.out wrapped
one_is_seen = refl

a_view_with_the_slots_is_refused : ObservationallyEquivalent subtracting with_slots 2 → ⊥
a_view_with_the_slots_is_refused = refused subtracting with_slots 2 (Size (Named slots_word) ∷ []) 20 _ _ one_is_seen no_slots (λ p. let k = p.1 in cc)

-- ---- slots filled with another function ----

-- The function f returns 7, g returns 8, and both move.
abbrev two : Module
two = record empty { types = gives_number ∷ []; funcs = func 0 (i.I32Const (pos 7) ∷ []) ∷ func 0 (i.I32Const (pos 8) ∷ []) ∷ []; exports = export f (ex.Func 0) ∷ export g (ex.Func 1) ∷ [] }

abbrev two_primary : Module
two_primary = record two {
  imports = import placeholder_word (48 ∷ []) (im.Func 0) ∷ import placeholder_word (49 ∷ []) (im.Func 0) ∷ [];
  funcs = func 0 (i.I32Const (pos 0) ∷ i.CallIndirect 0 0 ∷ []) ∷ func 0 (i.I32Const (pos 1) ∷ i.CallIndirect 0 0 ∷ []) ∷ [];
  tables = table 2 ∷ [];
  exports = export f (ex.Func 2) ∷ export g (ex.Func 3) ∷ export slots_word (ex.Table 0) ∷ [];
  elems = segment 0 0 (const.Func 0 ∷ const.Func 1 ∷ []) ∷ [];
}

-- The functions of the secondary module are in the slots in this order.
abbrev in_order : (first second : ℕ) → LoaderWorld
in_order first second = in_place_of primary_word two two_primary (two_slots gives_number (record empty { types = gives_number ∷ []; imports = slots_import 2 ∷ []; funcs = two.funcs; elems = segment 0 0 (const.Func first ∷ const.Func second ∷ []) ∷ [] }))

seven_is_seen : events (alone two) [] (Call f [] ∷ []) 20 ≡ Linked ∷ (number 7 ∷ [])
unfolding out-Instr denote.Hole.Carrier.out wrapped
seven_is_seen = refl

seven_is_seen_in_order : events_loaded (in_order 0 1) [] (Call f [] ∷ []) 20 ≡ Linked ∷ (number 7 ∷ [])
unfolding out-Instr denote.Hole.Carrier.out wrapped
seven_is_seen_in_order = refl

eight_is_seen_in_reverse : events_loaded (in_order 1 0) [] (Call f [] ∷ []) 20 ≡ Linked ∷ (number 8 ∷ [])
unfolding out-Instr denote.Hole.Carrier.out wrapped
eight_is_seen_in_reverse = refl

slots_in_reverse_are_refused : ObservationallyEquivalent two (in_order 1 0) 0 → ⊥
slots_in_reverse_are_refused = refused two (in_order 1 0) 0 (Call f [] ∷ []) 20 _ _ eight_is_seen_in_reverse seven_is_seen (λ p. let k : gives_second 7 (Linked ∷ (number 8 ∷ p.0)) ≡ true = ap (gives_second 7) p.1 in cc)

-- ---- a secondary module that names its own function ----

-- The function f returns a reference to itself, and moves.
abbrev gives_reference : FuncType
gives_reference = record { params = []; results = valt.Ref func_ref ∷ [] }

abbrev referring : Module
referring = record empty { types = gives_reference ∷ []; funcs = func 0 (i.RefFunc 0 ∷ []) ∷ []; exports = export f (ex.Func 0) ∷ [] }

abbrev referring_primary : Module
referring_primary = record referring {
  imports = import placeholder_word (48 ∷ []) (im.Func 0) ∷ [];
  funcs = func 0 (i.I32Const (pos 0) ∷ i.CallIndirect 0 0 ∷ []) ∷ [];
  tables = table 1 ∷ [];
  exports = export f (ex.Func 1) ∷ export (shared_word 102 48) (ex.Func 1) ∷ export slots_word (ex.Table 0) ∷ [];
  elems = segment 0 0 (const.Func 0 ∷ []) ∷ [];
}

-- Function 0 is the imported trampoline, and function 1 the own function of the secondary module.
abbrev naming : ℕ → LoaderWorld
naming func_named = in_place_of primary_word referring referring_primary
    (one_slot gives_reference (record empty {
      types = gives_reference ∷ [];
      imports = import primary_word (shared_word 102 48) (im.Func 0) ∷ slots_import 1 ∷ [];
      funcs = func 0 (i.RefFunc func_named ∷ []) ∷ [];
      elems = segment 0 0 (const.Func 1 ∷ []) ∷ declaring (func_named ∷ []) ∷ [];
    }))

abbrev taken_and_called : List Move
taken_and_called = Take f ∷ (Call f [] ∷ [])

one_function_is_shown : events (alone referring) [] taken_and_called 20 ≡ Linked ∷ (Got (Function 0) ∷ (Returned (Function 0 ∷ []) ∷ []))
unfolding out-Instr denote.Hole.Carrier.out wrapped
one_function_is_shown = refl

one_function_is_shown_of_the_trampoline : events_loaded (naming 0) [] taken_and_called 20 ≡ Linked ∷ (Got (Function 0) ∷ (Returned (Function 0 ∷ []) ∷ []))
unfolding out-Instr denote.Hole.Carrier.out wrapped
one_function_is_shown_of_the_trampoline = refl

two_functions_are_shown : events_loaded (naming 1) [] taken_and_called 20 ≡ Linked ∷ (Got (Function 0) ∷ (Returned (Function 1 ∷ []) ∷ []))
unfolding out-Instr denote.Hole.Carrier.out wrapped
two_functions_are_shown = refl

-- The third event returns function 0.
abbrev gives_first : List Event → Bool
gives_first (d ∷ (e ∷ (Returned (Function zero ∷ []) ∷ es))) = true
gives_first es = false

a_secondary_that_names_its_own_is_refused : ObservationallyEquivalent referring (naming 1) 0 → ⊥
a_secondary_that_names_its_own_is_refused = refused referring (naming 1) 0 taken_and_called 20 _ _ two_functions_are_shown one_function_is_shown (λ p. let k : gives_first (Linked ∷ (Got (Function 0) ∷ (Returned (Function 1 ∷ []) ∷ p.0))) ≡ true = ap gives_first p.1 in cc)

-- ---- a function that never ends ----

-- The function f returns 7, and moves.
abbrev pub giving : Module
giving = record empty { types = gives_number ∷ []; funcs = func 0 (i.I32Const (pos 7) ∷ []) ∷ []; exports = export f (ex.Func 0) ∷ [] }

-- The function of the secondary module calls itself.
abbrev pub endless : LoaderWorld
endless = in_place_of primary_word giving
    (record giving {
      imports = import placeholder_word (48 ∷ []) (im.Func 0) ∷ [];
      funcs = func 0 (i.I32Const (pos 0) ∷ i.CallIndirect 0 0 ∷ []) ∷ [];
      tables = table 1 ∷ [];
      exports = export f (ex.Func 1) ∷ export slots_word (ex.Table 0) ∷ [];
      elems = segment 0 0 (const.Func 0 ∷ []) ∷ [];
    })
    (one_slot gives_number (record empty { types = gives_number ∷ []; imports = slots_import 1 ∷ []; funcs = func 0 (i.Call 0 ∷ []) ∷ []; elems = segment 0 0 (const.Func 0 ∷ []) ∷ [] }))

it_gives_seven : events (alone giving) [] (Call f [] ∷ []) 5 ≡ Linked ∷ (number 7 ∷ [])
unfolding out-Instr denote.Hole.Carrier.out wrapped
it_gives_seven = refl

it_gives_nothing : events_loaded endless [] (Call f [] ∷ []) 48 ≡ Linked ∷ []
unfolding out-Instr denote.Hole.Carrier.out wrapped
it_gives_nothing = refl

-- The events of this world are a prefix of those of the module, but the events of the module are no
-- prefix of those of the world.
pub an_endless_function_is_refused : ObservationallyEquivalent giving endless 0 → ⊥
an_endless_function_is_refused = refused_later giving endless 0 (Call f [] ∷ []) 5 48 _ _ (omega arith) it_gives_seven it_gives_nothing (λ p. let k = p.1 in cc)

-- ---- slots in a table of the module ----

-- The function f returns 7, and moves; g is a table with one entry, which is null.
abbrev pub holding : Module
holding = record giving { tables = table 1 ∷ []; exports = export f (ex.Func 0) ∷ export g (ex.Table 0) ∷ [] }

-- The slot is the first entry of the table g, which has this number of entries.
abbrev pub in_own_table : ℕ → LoaderWorld
in_own_table count = record (in_place_of primary_word holding
    (record holding {
      imports = import placeholder_word (48 ∷ []) (im.Func 0) ∷ [];
      funcs = func 0 (i.I32Const (pos 0) ∷ i.CallIndirect 0 0 ∷ []) ∷ [];
      tables = table count ∷ [];
      exports = export f (ex.Func 1) ∷ export g (ex.Table 0) ∷ export slots_word (ex.Table 0) ∷ [];
      elems = segment 0 0 (const.Func 0 ∷ []) ∷ [];
    })
    (one_slot gives_number (record empty { types = gives_number ∷ []; imports = slots_import count ∷ []; funcs = holding.funcs; elems = segment 0 0 (const.Func 0 ∷ []) ∷ [] }))) { slot_table = 0 }

null_is_got : events (alone holding) [] (Get (Named g) 0 ∷ []) 20 ≡ Linked ∷ (Got Null ∷ [])
unfolding out-Instr denote.Hole.Carrier.out wrapped
null_is_got = refl

a_placeholder_is_got : events_loaded (in_own_table 1) [] (Get (Named g) 0 ∷ []) 20 ≡ Linked ∷ (Got (Function 0) ∷ [])
unfolding out-Instr denote.Hole.Carrier.out wrapped
a_placeholder_is_got = refl

pub slots_in_place_of_entries_are_refused : ObservationallyEquivalent holding (in_own_table 1) 0 → ⊥
slots_in_place_of_entries_are_refused = refused holding (in_own_table 1) 0 (Get (Named g) 0 ∷ []) 20 _ _ a_placeholder_is_got null_is_got (λ p. let k = p.1 in cc)

one_entry_is_counted : events (alone holding) [] (Size (Named g) ∷ []) 20 ≡ Linked ∷ (Got (Number 1) ∷ [])
unfolding out-Instr denote.Hole.Carrier.out wrapped
one_entry_is_counted = refl

two_entries_are_counted : events_loaded (in_own_table 2) [] (Size (Named g) ∷ []) 20 ≡ Linked ∷ (Got (Number 2) ∷ [])
unfolding out-Instr denote.Hole.Carrier.out wrapped
two_entries_are_counted = refl

-- The second event gives this number of entries.
abbrev counts_second : ℕ → List Event → Bool
counts_second n (e ∷ (Got (Number k) ∷ es)) = nat_eq n k
counts_second n es = false

pub more_entries_are_refused : ObservationallyEquivalent holding (in_own_table 2) 0 → ⊥
more_entries_are_refused =
    refused holding (in_own_table 2) 0 (Size (Named g) ∷ []) 20 _ _ two_entries_are_counted one_entry_is_counted (λ p. let k : counts_second 1 (Linked ∷ (Got (Number 2) ∷ p.0)) ≡ true = ap (counts_second 1) p.1 in cc)
