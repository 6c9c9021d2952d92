-- A function that is called directly, through a trampoline and through the two instructions,
-- computed; slots that hold no function, or one of another type; and a call that ends under a frame
-- of a trampoline.
use Rattle.base_lists.proofs.Common.{◌≡◌, ◌∙◌, subst, refl, sym, ℕ, zero, suc, List, [], ◌∷◌, Some, None, Bool, true, false, slice_get, pos}
use Rattle.run_simulation.proofs.StepLawRows.{no_more}
use Rattle.wasm_tree_spec.specs.Prelude.{Space, Types, Functions, Tables, Memories, Globals, ElementSegments, DataSegments, I32, FuncType, Instr}
use Rattle.wasm_tree.specs.declared.types.RefType.TheVariants as reft
use Rattle.wasm_tree.specs.declared.instr.Instr.{out-Instr}
use Rattle.wasm_tree.specs.declared.instr.Instr.TheVariants as i
use Rattle.wasm_num.specs.Operations.{W32, wrapped}
use Rattle.base_simulation.specs.Machines.{events_of}
use Rattle.wasm_meaning.specs.Prelude.{Outcome, Gives, Traps, RefVal, FuncRef, Val, Num, Inst, Func, Code, Store, Entry, Running, Mark, Opening, Act, Ran, type_at, own_at, Number, enter_at, step, Returned, Opened, Run, tick}
use Rattle.run_simulation.specs.Related
use Rattle.run_simulation.specs.Prelude.{Pairing, OneToOne, EntryRel, running, NotOpaque, some, ResRel, done, BothRel, both, ListRel, nil, cons, ValRel, number, CodeRel, end, then, StoreRel, NextRel, opened, passed, EntryByEntry, TickSkips, RunsStepTogether, passing, WithPassing, through}
use Rattle.run_simulation.specs.Prelude.{AnsweredInTwo, FramesBetween, slot_call, trampoline, InSlot, go_on, CodeAt}
use Rattle.run_simulation.specs.Trampolines as between
use Rattle.run_simulation.proofs.KnownNames.{entries_known}
use Rattle.run_simulation.proofs.EntryByEntryRuns.{ticks_together}
use Rattle.run_simulation.proofs.FramesBetween.{not_seen}
use Rattle.run_simulation.proofs.SlotCalls.{trampoline_calls}

-- ---- two stores ----

abbrev to_itself : FuncType
to_itself = record { params = I32 ∷ []; results = I32 ∷ [] }

abbrev inst : Inst
inst = record { types = to_itself ∷ []; funcs = 0 ∷ []; tables = 0 ∷ []; mems = []; globals = []; elems = []; datas = [] }

-- The function returns its argument.
abbrev gives_it : Func
gives_it = Code to_itself inst [] (i.LocalGet 0 ∷ [])

abbrev store : List Func → List RefVal → Store
store funcs slots = record { funcs = funcs; tables = record { ty = reft.Func; most = None; slots = slots } ∷ []; mems = []; globals = []; elems = []; datas = [] }

-- The first store has the function itself; the second has a trampoline in its place, and the
-- function in slot 1 of a table.
abbrev direct : Store
direct = store (gives_it ∷ []) []

abbrev by_slot : Store
by_slot = store (trampoline inst to_itself 0 0 (pos 1) ∷ (gives_it ∷ [])) (FuncRef None ∷ (FuncRef (Some 1) ∷ []))

abbrev seven : List Val
seven = Num W32 7 ∷ []

-- The frame of the function, with these values and this code.
abbrev in_it : List Val → List Instr → Entry
in_it values code = Running (record { inst = inst; locals = seven; results = I32 ∷ []; levels = record { values = values; code = code; gives = 1; takes = 1; back = [] } ∷ [] })

abbrev its_frame : Entry
its_frame = in_it [] (i.LocalGet 0 ∷ [])

-- ---- how it is entered ----

directly : (es : List Entry) → enter_at direct 0 seven es ≡ Gives (Ran direct (its_frame ∷ es))
directly es = refl

through_a_trampoline : (es : List Entry) → go_on 3 (enter_at by_slot 0 seven es) ≡ Gives (Ran by_slot (its_frame ∷ (Running (passing inst seven (I32 ∷ [])) ∷ es)))
unfolding out-Instr denote.Hole.Carrier.out wrapped
through_a_trampoline es = refl

-- One step earlier the trampoline has not yet entered the function.
not_in_two_steps : (es : List Entry) → go_on 2 (enter_at by_slot 0 seven es) ≡ Gives (Ran by_slot (in_it (Num W32 1 ∷ seven) (i.CallIndirect 0 0 ∷ []) ∷ es))
unfolding out-Instr denote.Hole.Carrier.out wrapped
not_in_two_steps es = refl

by_two_instructions : (es : List Entry) → go_on 2 (Gives (Ran by_slot (in_it seven (slot_call 0 0 (pos 1)) ∷ es))) ≡ Gives (Ran by_slot (its_frame ∷ (in_it [] [] ∷ es)))
unfolding out-Instr denote.Hole.Carrier.out wrapped
by_two_instructions es = refl

by_a_call : (es : List Entry) → step direct (in_it seven (i.Call 0 ∷ []) ∷ es) ≡ Gives (Ran direct (its_frame ∷ (in_it [] [] ∷ es)))
unfolding out-Instr denote.Hole.Carrier.out
by_a_call es = refl

-- A call through slot 0, which is empty, traps; and so does a call through slot 1 if it holds a
-- function of another type.
an_empty_slot_traps : (es : List Entry) → go_on 2 (Gives (Ran by_slot (in_it seven (slot_call 0 0 (pos 0)) ∷ es))) ≡ Traps
unfolding out-Instr denote.Hole.Carrier.out wrapped
an_empty_slot_traps es = refl

abbrev of_another_type : Store
of_another_type = store (trampoline inst to_itself 0 0 (pos 1) ∷ (Code (record { params = []; results = [] }) inst [] [] ∷ [])) (FuncRef None ∷ (FuncRef (Some 1) ∷ []))

another_type_traps : (es : List Entry) → go_on 3 (enter_at of_another_type 0 seven es) ≡ Traps
unfolding out-Instr denote.Hole.Carrier.out wrapped
another_type_traps es = refl

-- ---- the law ----

-- Function 0 is related to its trampoline, and is on the list.
abbrev zero_alone : Space → ℕ → ℕ → Bool
zero_alone Functions zero zero = true
zero_alone _ _ _ = false

abbrev L : Pairing
L = passed zero_alone zero_alone (0 ∷ [])

types : (a b : ℕ) → L.of Functions a b → BothRel (◌≡◌ {A = FuncType}) (type_at direct a) (type_at by_slot b)
types zero zero h = both refl
types zero (suc b) h = no_more h
types (suc a) b h = no_more h

owners : (a b : ℕ) → L.of Functions a b → own_at direct a ≡ own_at by_slot b
owners zero zero h = refl
owners zero (suc b) h = no_more h
owners (suc a) b h = no_more h

functions : (a b : ℕ) → L.of Functions a b → ¬ L.listed a → BothRel (Related.FuncRel L) (slice_get direct.funcs a) (slice_get by_slot.funcs b)
functions zero zero h free = absurd (free refl)
functions zero (suc b) h free = no_more h
functions (suc a) b h free = no_more h

related : StoreRel L direct by_slot
related = record {
  types = λ {a} {b} h. types a b h;
  owns = λ {a} {b} h. owners a b h;
  funcs = λ {a} {b} h free. functions a b h free;
  tables = λ h. no_more h;
  mems = λ h. no_more h;
  globals = λ h. no_more h;
  elems = λ h. no_more h;
  datas = λ h. no_more h;
}

in_slot_one : InSlot by_slot inst to_itself 0 0 (pos 1) 1
unfolding wrapped
in_slot_one = record { type = refl; address = 0; names = refl; slots = record { ty = reft.Func; most = None; slots = FuncRef None ∷ (FuncRef (Some 1) ∷ []) }; stands = refl; refers = refl; function = gives_it; is_function = refl; typed = refl }

same_code : CodeAt L direct by_slot to_itself 0 1
unfolding out-Instr denote.Hole.Carrier.out
same_code = record { first_inst = inst; second_inst = inst; locals = []; first_code = i.LocalGet 0 ∷ []; second_code = i.LocalGet 0 ∷ []; first = refl; second = refl; related = then Related.local_get end }

the_calls_agree : ResRel (NextRel L (FramesBetween L)) (enter_at direct 0 seven []) (go_on 3 (enter_at by_slot 0 seven []))
the_calls_agree = trampoline_calls L direct by_slot [] [] related between.WithPassing.nil inst to_itself 0 0 (pos 1) 0 0 1 refl in_slot_one same_code seven seven (cons number nil) (cons refl nil)

-- Slot 1 does not hold the trampoline.
not_the_trampoline : InSlot by_slot inst to_itself 0 0 (pos 1) 0 → ⊥
unfolding wrapped
not_the_trampoline h = cc (h.names, h.stands, h.refers)

-- ---- how it ends ----

abbrev at_its_end : Store → List Entry → Run
at_its_end s es = record { store = s; entries = in_it seven [] ∷ es; phase = Opened; shown = []; view = []; owned = []; moves = [] }

its_value_is_returned : events_of tick (at_its_end direct (Mark ∷ [])) 1 ≡ Returned (Number 7 ∷ []) ∷ []
unfolding out-Instr denote.Hole.Carrier.out
its_value_is_returned = refl

passed_on_in_two_steps : events_of tick (at_its_end by_slot (Running (passing inst seven (I32 ∷ [])) ∷ (Mark ∷ []))) 2 ≡ Returned (Number 7 ∷ []) ∷ []
unfolding out-Instr denote.Hole.Carrier.out
passed_on_in_two_steps = refl

not_in_one_step : events_of tick (at_its_end by_slot (Running (passing inst seven (I32 ∷ [])) ∷ (Mark ∷ []))) 1 ≡ []
unfolding out-Instr denote.Hole.Carrier.out
not_in_one_step = refl

-- ---- what begins a call of a function of the list ----

a_start_of_it_begins_a_call : (r : Run) (es : List Entry) → TickSkips L r (Opening (0 ∷ []) ∷ es) → ⊥
a_start_of_it_begins_a_call r es free = free refl

a_start_of_another_does_not : (r : Run) (es : List Entry) → TickSkips L r (Opening (1 ∷ []) ∷ es)
a_start_of_another_does_not r es h = no_more h

-- ---- the laws of runs ----

-- The relation holds of address 0 only, so that it is one to one.
only_zeros : (k : Space) (a b : ℕ) → L.of k a b → (a ≡ 0) × (b ≡ 0)
only_zeros Functions zero zero h = (refl, refl)
only_zeros Functions zero (suc b) h = no_more h
only_zeros Functions (suc a) b h = no_more h
only_zeros Types a b h = no_more h
only_zeros Tables a b h = no_more h
only_zeros Memories a b h = no_more h
only_zeros Globals a b h = no_more h
only_zeros ElementSegments a b h = no_more h
only_zeros DataSegments a b h = no_more h

apart : OneToOne L
apart = record { right = λ {k} a b c h j. (only_zeros k a b h).1 ∙ sym (only_zeros k a c j).1; left = λ {k} a b c h j. (only_zeros k a c h).0 ∙ sym (only_zeros k b c j).0 }

abbrev in_run : Store → List Entry → Run
in_run s es = record { store = s; entries = es; phase = Opened; shown = []; view = []; owned = []; moves = [] }

-- The result of a step, if there is one, is no call of a function on the list.
abbrev NoOpaque : Outcome Act → Type 0
NoOpaque (Gives x) = NotOpaque L x
NoOpaque _ = Unit {0}

-- The frame takes a reference to the function on the list.
abbrev refers : Entry
refers = in_it [] (i.RefFunc 0 ∷ [])

a_reference_is_taken : RunsStepTogether L (EntryByEntry L) (in_run direct (refers ∷ [])) (in_run by_slot (refers ∷ [])) (tick (in_run direct (refers ∷ []))) (tick (in_run by_slot (refers ∷ [])))
unfolding out-Instr denote.Hole.Carrier.out
a_reference_is_taken =
    let e : EntryRel L refers refers = running (record { locals = cons number nil; results = refl; levels = cons (record { values = nil; code = then (Related.ref_func (some refl)) end; gives = refl; takes = refl; back = end }) nil }) in
    ticks_together L apart (in_run direct (refers ∷ [])) (in_run by_slot (refers ∷ [])) (record { store = related; entries = cons e nil; phase = opened; shown = nil; view = nil; owned = nil; moves = refl }) (λ x is. subst NoOpaque is tt)
    (entries_known L (λ k a b h. h) (refers ∷ []) (refers ∷ []))

-- The stack of the second run when the function ends has the frame of the trampoline below.
abbrev under_the_trampoline : List Entry
under_the_trampoline = in_it seven [] ∷ (Running (passing inst seven (I32 ∷ [])) ∷ (Mark ∷ []))

it_ends_alike : AnsweredInTwo L (in_run direct (in_it seven [] ∷ (Mark ∷ []))) (in_run by_slot under_the_trampoline)
it_ends_alike =
    let stacks : WithPassing L (in_it seven [] ∷ (Mark ∷ [])) under_the_trampoline =
    through (record { locals = cons number nil; results = refl; levels = cons (record { values = cons number nil; code = end; gives = refl; takes = refl; back = end }) nil }) inst seven (between.WithPassing.cons Related.mark between.WithPassing.nil) in
    not_seen L apart (in_run direct (in_it seven [] ∷ (Mark ∷ []))) (in_run by_slot under_the_trampoline) (record { store = related; entries = stacks; phase = opened; shown = nil; view = nil; owned = nil; moves = refl }) (λ x is. subst NoOpaque is tt)
    (entries_known L (λ k a b h. h) (in_it seven [] ∷ (Mark ∷ [])) under_the_trampoline)

-- A frame that waits for fewer results does not pass the results of the function on.
not_of_other_results : WithPassing L (in_it seven [] ∷ (Mark ∷ [])) (in_it seven [] ∷ (Running (passing inst seven []) ∷ (Mark ∷ []))) → ⊥
not_of_other_results (between.WithPassing.cons e (between.WithPassing.cons other more)) = elim other [ ]
