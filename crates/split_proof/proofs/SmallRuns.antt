-- Traces of small modules and of their splits under the loader, by computation: with a load in a
-- call, in a start function, while another call waits, and without a load.
use Rattle.base_lists.proofs.Common.{◌≡◌, refl, ap, ◌∙◌, ℕ, ◌+◌, List, [], ◌∷◌, Some, None, rules, pos}
use Rattle.std.specs.Fmt.{digits}
use Rattle.wasm_num.specs.declared.BinOp.TheVariants.{I32Sub}
use Rattle.wasm_tree_spec.specs.Prelude.{the_lemmas, FuncType, Import, Module}
use Rattle.wasm_tree.specs.declared.instr.Instr.{out-Instr}
use Rattle.wasm_tree.specs.declared.instr.Instr.TheVariants as i
use Rattle.wasm_tree.specs.declared.module.ConstExpr.TheVariants as const
use Rattle.wasm_tree.specs.declared.module.ExportDesc.TheVariants as ex
use Rattle.wasm_tree.specs.declared.module.ImportDesc.TheVariants as im
use Rattle.wasm_num.specs.Operations.{wrapped, un_from, un_to, un_value, bin_from, bin_to, bin_value}
use Rattle.wasm_meaning.specs.Prelude.{Text, Environment, Number, Function, alone, Event, Linked, LinkFault, Asked, Returned, Trapped, Got, BadMove, Move, Call, Invoke, Take, Answer, Size, Named, events, Secondary, LoaderWorld, events_loaded}
use Rattle.split_spec.specs.Primary.{primary_with}
use Rattle.split_spec.specs.Secondary.{secondary_with}
use Rattle.split_spec.specs.Examples.{names, primary_word, placeholder_word, slots_word, empty, func, import, export, table, segment, nothing, gives_number, takes_two, slots_import, calling, calling_primary, calling_secondary, numbered_placeholder}
use Rattle.split_proof.specs.SplitWorlds.{in_place_of, split_world, pair_world}

-- ---- what is common ----

-- The names a, f, g and own.
abbrev pub a : Text
a = 97 ∷ []

abbrev pub f : Text
f = 102 ∷ []

abbrev pub g : Text
g = 103 ∷ []

abbrev pub own : Text
own = 111 ∷ 119 ∷ 110 ∷ []

-- The environment provides the function f of the namespace own.
abbrev pub own_function : Import
own_function = import own f (im.Func 0)

abbrev pub offering : Environment
offering = record { pair = (own, f); funcs = nothing ∷ []; table = None; memory = None; global = None } ∷ []

abbrev pub asks : Event
asks = Asked (own, f) nothing []

abbrev pub number : ℕ → Event
number n = Returned (Number n ∷ [])

-- One secondary module, with a placeholder of this type.
abbrev pub one_slot : FuncType → Module → List Secondary
one_slot ty second = record { «module» = second; placeholders = ((placeholder_word, 48 ∷ []), ty) ∷ [] } ∷ []

-- One secondary module, with two placeholders of this type.
abbrev pub two_slots : FuncType → Module → List Secondary
two_slots ty second = record { «module» = second; placeholders = ((placeholder_word, 48 ∷ []), ty) ∷ ((placeholder_word, 49 ∷ []), ty) ∷ [] } ∷ []

-- ---- a function that is exported ----

-- The function is exported as f.
abbrev pub subtracting : Module
subtracting = record empty { types = takes_two ∷ []; funcs = func 0 (i.LocalGet 0 ∷ i.LocalGet 1 ∷ i.Bin I32Sub ∷ []) ∷ []; exports = export f (ex.Func 0) ∷ [] }

abbrev pub subtracting_primary : Module
subtracting_primary = record subtracting {
  imports = import placeholder_word (48 ∷ []) (im.Func 0) ∷ [];
  funcs = func 0 (i.LocalGet 0 ∷ i.LocalGet 1 ∷ i.I32Const (pos 0) ∷ i.CallIndirect 0 0 ∷ []) ∷ [];
  tables = table 1 ∷ [];
  exports = export f (ex.Func 1) ∷ export slots_word (ex.Table 0) ∷ [];
  elems = segment 0 0 (const.Func 0 ∷ []) ∷ [];
}

abbrev pub subtracting_secondary : Module
subtracting_secondary = record empty { types = takes_two ∷ []; imports = slots_import 1 ∷ []; funcs = subtracting.funcs; elems = segment 0 0 (const.Func 0 ∷ []) ∷ [] }

abbrev pub subtracting_world : LoaderWorld
subtracting_world = in_place_of primary_word subtracting subtracting_primary (one_slot takes_two subtracting_secondary)

pub subtracting_is_split : pair_world names subtracting (0 ∷ []) ≡ subtracting_world
unfolding primary_with secondary_with digits
subtracting_is_split = search (rules, the_lemmas)

-- The embedder takes the function, calls it by its name and by its number, and takes it again.
abbrev subtractions : List Move
subtractions = Take f ∷ (Call f (Number 5 ∷ (Number 3 ∷ [])) ∷ (Invoke 0 (Number 9 ∷ (Number 2 ∷ [])) ∷ (Take f ∷ [])))

abbrev differences : List Event
differences = Linked ∷ (Got (Function 0) ∷ (number 2 ∷ (number 7 ∷ (Got (Function 0) ∷ []))))

it_is_seen : events (alone subtracting) [] subtractions 20 ≡ differences
unfolding out-Instr denote.Hole.Carrier.out wrapped un_from un_to un_value bin_from bin_to bin_value
it_is_seen = refl

it_is_seen_under_the_loader : events_loaded subtracting_world [] subtractions 40 ≡ differences
unfolding out-Instr denote.Hole.Carrier.out wrapped un_from un_to un_value bin_from bin_to bin_value
it_is_seen_under_the_loader = refl

the_split_is_seen_so : events_loaded (pair_world names subtracting (0 ∷ [])) [] subtractions 40 ≡ differences
the_split_is_seen_so = ap (λ w. events_loaded w [] subtractions 40) subtracting_is_split ∙ it_is_seen_under_the_loader

-- The slot table is not visible to the embedder.
the_slots_have_no_name : events_loaded subtracting_world [] (Size (Named slots_word) ∷ []) 10 ≡ Linked ∷ (BadMove ∷ [])
unfolding out-Instr denote.Hole.Carrier.out wrapped
the_slots_have_no_name = refl

-- ---- a function that is only called ----

-- The split of `calling`, of which the second function moves.
abbrev pub calling_world : LoaderWorld
calling_world = in_place_of primary_word calling calling_primary (one_slot gives_number calling_secondary)

pub calling_is_split : pair_world names calling (1 ∷ []) ≡ calling_world
unfolding primary_with secondary_with digits
calling_is_split = search (rules, the_lemmas)

-- The first call loads the secondary module, and the second does not.
two_calls_are_seen : events (alone calling) [] (Call f [] ∷ (Call f [] ∷ [])) 20 ≡ Linked ∷ (number 7 ∷ (number 7 ∷ []))
unfolding out-Instr denote.Hole.Carrier.out wrapped
two_calls_are_seen = refl

two_calls_are_computed : events_loaded calling_world [] (Call f [] ∷ (Call f [] ∷ [])) 40 ≡ Linked ∷ (number 7 ∷ (number 7 ∷ []))
unfolding out-Instr denote.Hole.Carrier.out wrapped
two_calls_are_computed = refl

two_calls_are_seen_under_the_loader : events_loaded (pair_world names calling (1 ∷ [])) [] (Call f [] ∷ (Call f [] ∷ [])) 40 ≡ Linked ∷ (number 7 ∷ (number 7 ∷ []))
two_calls_are_seen_under_the_loader = ap (λ w. events_loaded w [] (Call f [] ∷ (Call f [] ∷ [])) 40) calling_is_split ∙ two_calls_are_computed

-- Without a call nothing is loaded.
no_call_is_seen : events_loaded calling_world [] (Take f ∷ (Take g ∷ [])) 20 ≡ Linked ∷ (Got (Function 0) ∷ (BadMove ∷ []))
unfolding out-Instr denote.Hole.Carrier.out wrapped
no_call_is_seen = refl

-- ---- a call while another waits ----

-- The function a calls the environment's function and then function 2, which is exported as g and
-- moves.
abbrev pub waiting : Module
waiting = record empty {
  types = nothing ∷ (gives_number ∷ []);
  imports = own_function ∷ [];
  funcs = func 1 (i.Call 0 ∷ i.Call 2 ∷ []) ∷ func 1 (i.I32Const (pos 7) ∷ []) ∷ [];
  exports = export a (ex.Func 1) ∷ export g (ex.Func 2) ∷ [];
}

abbrev waiting_primary : Module
waiting_primary = record waiting {
  imports = own_function ∷ import placeholder_word (48 ∷ []) (im.Func 1) ∷ [];
  funcs = func 1 (i.Call 0 ∷ i.I32Const (pos 0) ∷ i.CallIndirect 1 0 ∷ []) ∷ func 1 (i.I32Const (pos 0) ∷ i.CallIndirect 1 0 ∷ []) ∷ [];
  tables = table 1 ∷ [];
  exports = export a (ex.Func 2) ∷ export g (ex.Func 3) ∷ export slots_word (ex.Table 0) ∷ [];
  elems = segment 0 0 (const.Func 1 ∷ []) ∷ [];
}

abbrev waiting_secondary : Module
waiting_secondary = record empty { types = waiting.types; imports = slots_import 1 ∷ []; funcs = func 1 (i.I32Const (pos 7) ∷ []) ∷ []; elems = segment 0 0 (const.Func 0 ∷ []) ∷ [] }

abbrev waiting_world : LoaderWorld
waiting_world = in_place_of primary_word waiting waiting_primary (one_slot gives_number waiting_secondary)

waiting_is_split : pair_world names waiting (2 ∷ []) ≡ waiting_world
unfolding primary_with secondary_with digits
waiting_is_split = search (rules, the_lemmas)

-- The embedder calls g while its own function waits, and this call loads the secondary module.
abbrev in_between : List Move
in_between = Call a [] ∷ (Call g [] ∷ (Answer [] ∷ []))

abbrev asked_and_answered : List Event
asked_and_answered = Linked ∷ (asks ∷ (number 7 ∷ (number 7 ∷ [])))

a_call_in_between_is_seen : events (alone waiting) offering in_between 20 ≡ asked_and_answered
unfolding out-Instr denote.Hole.Carrier.out wrapped
a_call_in_between_is_seen = refl

a_call_in_between_is_computed : events_loaded waiting_world offering in_between 40 ≡ asked_and_answered
unfolding out-Instr denote.Hole.Carrier.out wrapped
a_call_in_between_is_computed = refl

a_call_in_between_loads : events_loaded (pair_world names waiting (2 ∷ [])) offering in_between 40 ≡ asked_and_answered
a_call_in_between_loads = ap (λ w. events_loaded w offering in_between 40) waiting_is_split ∙ a_call_in_between_is_computed

-- An environment without the function own.f links neither the module nor its split.
neither_is_linked : (events (alone waiting) [] [] 5 ≡ LinkFault ∷ []) × (events_loaded waiting_world [] [] 5 ≡ LinkFault ∷ [])
unfolding out-Instr denote.Hole.Carrier.out
neither_is_linked = (refl, refl)

-- ---- a start ----

-- The start function moves, and it calls the environment's function.
abbrev starting : Module
starting = record empty { types = nothing ∷ []; imports = own_function ∷ []; funcs = func 0 (i.Call 0 ∷ []) ∷ []; start = Some 1 }

abbrev starting_primary : Module
starting_primary = record starting {
  imports = own_function ∷ import placeholder_word (48 ∷ []) (im.Func 0) ∷ [];
  funcs = func 0 (i.I32Const (pos 0) ∷ i.CallIndirect 0 0 ∷ []) ∷ [];
  tables = table 1 ∷ [];
  exports = export (37 ∷ 102 ∷ 48 ∷ []) (ex.Func 0) ∷ export slots_word (ex.Table 0) ∷ [];
  start = Some 2;
  elems = segment 0 0 (const.Func 1 ∷ []) ∷ [];
}

abbrev starting_secondary : Module
starting_secondary = record empty {
  types = starting.types;
  imports = import primary_word (37 ∷ 102 ∷ 48 ∷ []) (im.Func 0) ∷ slots_import 1 ∷ [];
  funcs = func 0 (i.Call 0 ∷ []) ∷ [];
  elems = segment 0 0 (const.Func 1 ∷ []) ∷ [];
}

abbrev starting_world : LoaderWorld
starting_world = in_place_of primary_word starting starting_primary (one_slot nothing starting_secondary)

starting_is_split : pair_world names starting (1 ∷ []) ≡ starting_world
unfolding primary_with secondary_with digits
starting_is_split = search (rules, the_lemmas)

the_start_is_seen : events (alone starting) offering (Answer [] ∷ []) 20 ≡ asks ∷ (Linked ∷ [])
unfolding out-Instr denote.Hole.Carrier.out wrapped
the_start_is_seen = refl

the_start_is_computed : events_loaded starting_world offering (Answer [] ∷ []) 40 ≡ asks ∷ (Linked ∷ [])
unfolding out-Instr denote.Hole.Carrier.out wrapped
the_start_is_computed = refl

the_start_loads : events_loaded (pair_world names starting (1 ∷ [])) offering (Answer [] ∷ []) 40 ≡ asks ∷ (Linked ∷ [])
the_start_loads = ap (λ w. events_loaded w offering (Answer [] ∷ []) 40) starting_is_split ∙ the_start_is_computed

-- ---- a trap ----

-- The function f traps, and moves.
abbrev trapping : Module
trapping = record empty { types = nothing ∷ []; funcs = func 0 (i.Unreachable ∷ []) ∷ []; exports = export f (ex.Func 0) ∷ [] }

abbrev trapping_primary : Module
trapping_primary = record trapping {
  imports = import placeholder_word (48 ∷ []) (im.Func 0) ∷ [];
  funcs = func 0 (i.I32Const (pos 0) ∷ i.CallIndirect 0 0 ∷ []) ∷ [];
  tables = table 1 ∷ [];
  exports = export f (ex.Func 1) ∷ export slots_word (ex.Table 0) ∷ [];
  elems = segment 0 0 (const.Func 0 ∷ []) ∷ [];
}

abbrev trapping_world : LoaderWorld
trapping_world = in_place_of primary_word trapping trapping_primary (one_slot nothing (record empty { types = nothing ∷ []; imports = slots_import 1 ∷ []; funcs = trapping.funcs; elems = segment 0 0 (const.Func 0 ∷ []) ∷ [] }))

trapping_is_split : pair_world names trapping (0 ∷ []) ≡ trapping_world
unfolding primary_with secondary_with digits
trapping_is_split = search (rules, the_lemmas)

the_traps_are_seen : events (alone trapping) [] (Call f [] ∷ (Call f [] ∷ [])) 20 ≡ Linked ∷ (Trapped ∷ (Trapped ∷ []))
unfolding out-Instr denote.Hole.Carrier.out wrapped
the_traps_are_seen = refl

the_traps_are_computed : events_loaded trapping_world [] (Call f [] ∷ (Call f [] ∷ [])) 40 ≡ Linked ∷ (Trapped ∷ (Trapped ∷ []))
unfolding out-Instr denote.Hole.Carrier.out wrapped
the_traps_are_computed = refl

the_traps_are_seen_under_the_loader : events_loaded (pair_world names trapping (0 ∷ [])) [] (Call f [] ∷ (Call f [] ∷ [])) 40 ≡ Linked ∷ (Trapped ∷ (Trapped ∷ []))
the_traps_are_seen_under_the_loader = ap (λ w. events_loaded w [] (Call f [] ∷ (Call f [] ∷ [])) 40) trapping_is_split ∙ the_traps_are_computed

-- ---- two secondary modules ----

-- Both functions of `calling` move, each to a secondary module of its own: the first module is
-- loaded and calls through the slot of the other, which is loaded then.
abbrev two_primary : Module
two_primary = record calling {
  imports = import (numbered_placeholder 48) (48 ∷ []) (im.Func 0) ∷ import (numbered_placeholder 49) (49 ∷ []) (im.Func 0) ∷ [];
  funcs = func 0 (i.I32Const (pos 0) ∷ i.CallIndirect 0 0 ∷ []) ∷ [];
  tables = table 2 ∷ [];
  exports = export f (ex.Func 2) ∷ export slots_word (ex.Table 0) ∷ [];
  elems = segment 0 0 (const.Func 0 ∷ const.Func 1 ∷ []) ∷ [];
}

abbrev two_world : LoaderWorld
two_world = in_place_of primary_word calling two_primary
    (record {
      «module» = record empty { types = gives_number ∷ []; imports = slots_import 2 ∷ []; funcs = func 0 (i.I32Const (pos 1) ∷ i.CallIndirect 0 0 ∷ []) ∷ []; elems = segment 0 0 (const.Func 0 ∷ []) ∷ [] };
      placeholders = ((numbered_placeholder 48, 48 ∷ []), gives_number) ∷ [];
    }
    ∷ record {
      «module» = record calling_secondary { imports = slots_import 2 ∷ []; elems = segment 0 1 (const.Func 0 ∷ []) ∷ [] };
      placeholders = ((numbered_placeholder 49, 49 ∷ []), gives_number) ∷ [];
    }
    ∷ [])

two_are_split : split_world (λ slot. numbered_placeholder (48 + slot)) names calling (0 ∷ 1 ∷ []) ((0 ∷ []) ∷ (1 ∷ []) ∷ []) ≡ two_world
unfolding primary_with secondary_with digits
two_are_split = search (rules, the_lemmas)

each_is_loaded_in_turn : events_loaded two_world [] (Call f [] ∷ (Call f [] ∷ [])) 40 ≡ Linked ∷ (number 7 ∷ (number 7 ∷ []))
unfolding out-Instr denote.Hole.Carrier.out wrapped
each_is_loaded_in_turn = refl
