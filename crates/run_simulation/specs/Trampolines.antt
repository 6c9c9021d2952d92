-- Calls through slots of a table. A trampoline is a function whose body passes its parameters on to
-- the function in a slot; the last two instructions of such a body may also stand in place of a
-- direct call. A passing frame is the frame of a trampoline between two others; it only passes
-- results on.
use Rattle.std.proofs.Common.{◌≡◌, ℕ, suc, ◌+◌, ◌≤◌, List, [], ◌∷◌, ◌++◌, length, Some, Bool, false, slice_get}
use Rattle.std.specs.Prelude.{ℤ}
use Rattle.wasm_tree_spec.specs.Prelude.{Space, ValType, FuncType, Instr, Call, LocalGet, I32Const, CallIndirect}
use Rattle.wasm_num.specs.Operations.{wrapped}
use Rattle.base_simulation.specs.Machines.{events_of, state_after}
use Rattle.wasm_meaning.specs.Prelude.{Outcome, Gives, FuncRef, Val, Inst, Func, Code, Table, Store, Level, Frame, Entry, Running, Next, Ran, typed, pop_typed, type_of_func, enter_at, step, Run}
use Rattle.wasm_meaning.specs.Prelude.{transition, tick, Shown, Owned, received_all}
use Rattle.run_simulation.specs.Related.{Pairing, OneToOne, ResRel, ListRel, ValRel, CodeRel, StoreRel, FrameRel, EntryRel, NextRel}
use Rattle.run_simulation.specs.RelatedRuns.{turned, KeepsOthers, IsBegun, RunRel}
use Rattle.run_simulation.specs.Laws.{CodeTest, passed_with, EntriesKnown}
use Rattle.run_simulation.specs.OpaqueRuns.{TickSkips, calls_placeholder}

-- ---- passing frames ----

-- A frame at the end of its body, which waits for results of these types and ends with them.
abbrev pub passing : Inst → (locals : List Val) → (results : List ValType) → Frame
passing inst locals results = record { inst = inst; locals = locals; results = results; levels = record { values = []; code = []; gives = length results; takes = length results; back = [] } ∷ [] }

-- Stacks that are related entry by entry, except that under a frame of the second there may be a
-- passing frame, to which it gives its results.
pub data WithPassing (R : Pairing) : List Entry → List Entry → Type 0 where
  nil : WithPassing R [] []
  cons : {e f : Entry} {es fs : List Entry} → EntryRel R e f → WithPassing R es fs → WithPassing R (e ∷ es) (f ∷ fs)
  through : {f g : Frame} {es fs : List Entry} → FrameRel R f g → (inst : Inst) (locals : List Val) → WithPassing R es fs →
      WithPassing R (Running f ∷ es) (Running g ∷ (Running (passing inst locals g.results) ∷ fs))

abbrev pub FramesBetween : Pairing → Store → Store → List Entry → List Entry → Type 0
FramesBetween R s t = WithPassing R

-- One or two steps of the second run answer a step of the first: they have the same events and lead
-- to related runs, and if the step of the first calls no placeholder, they call none. Once both are
-- instantiated, the functions and what is at addresses without a partner in the other store are as
-- they were.
pub record AnsweredInTwo (R : Pairing) (r q : Run) : Type 0 where
  pub further : ℕ
  pub bound : suc further ≤ 2
  pub shown : events_of tick q (suc further) ≡ events_of tick r 1
  pub run : RunRel R (FramesBetween R) (FramesBetween R) (tick r).0 (state_after tick q (suc further))
  pub plain : calls_placeholder (transition r) ≡ false → (k : ℕ) → k ≤ further → calls_placeholder (transition (state_after tick q k)) ≡ false
  pub first : IsBegun r.phase → KeepsOthers (turned R) r.store (tick r).0.store
  pub second : IsBegun r.phase → KeepsOthers R q.store (state_after tick q (suc further)).store

-- The law for a step of the first run that begins no call of an opaque function, if the next
-- instructions name related addresses and the relation is one to one, functions included.
abbrev pub PassingFramesStutter : Type 0
PassingFramesStutter =
    (of named : Space → ℕ → ℕ → Bool) (l : List ℕ) (stands : CodeTest) → OneToOne (passed_with of named l stands) → (r q : Run) →
    RunRel (passed_with of named l stands) (FramesBetween (passed_with of named l stands)) (FramesBetween (passed_with of named l stands)) r q →
    TickSkips (passed_with of named l stands) r r.entries → EntriesKnown (passed_with of named l stands) r.entries q.entries → AnsweredInTwo (passed_with of named l stands) r q

-- ---- calls through a slot ----

-- The call of the function in a slot of a table, as a function of type `ty`.
abbrev pub slot_call : (ty table : ℕ) → (slot : ℤ) → List Instr
slot_call ty table slot = I32Const slot ∷ (CallIndirect ty table ∷ [])

-- Gets the locals from `n` on, one for each type.
abbrev pub gets : ℕ → List ValType → List Instr
gets n [] = []
gets n (t ∷ ts) = LocalGet n ∷ gets (suc n) ts

-- A function of this instance and type that passes its parameters on to the function in the slot.
abbrev pub trampoline : Inst → FuncType → (ty table : ℕ) → (slot : ℤ) → Func
trampoline inst u ty table slot = Code u inst [] (gets 0 u.params ++ slot_call ty table slot)

-- By these indices of the instance, the function at address `c` is in the slot and has this type.
pub record InSlot (t : Store) (inst : Inst) (u : FuncType) (ty table : ℕ) (slot : ℤ) (c : ℕ) : Type 0 where
  pub type : slice_get inst.types ty ≡ Some u
  pub address : ℕ
  pub names : slice_get inst.tables table ≡ Some address
  pub slots : Table
  pub stands : slice_get t.tables address ≡ Some slots
  pub refers : slice_get slots.slots (wrapped 32 slot) ≡ Some (FuncRef (Some c))
  pub function : Func
  pub is_function : slice_get t.funcs c ≡ Some function
  pub typed : type_of_func function ≡ u

-- The result of `n` more steps, if each step before the last goes on without an event.
abbrev pub go_on : ℕ → Outcome Next → Outcome Next
go_on (suc n) (Gives (Ran s es)) = go_on n (step s es)
go_on n o = o

-- Each value has its type.
abbrev pub HaveTypes : List ValType → List Val → Type 0
HaveTypes = ListRel (λ t v. typed t v ≡ Gives v)

-- The values that are popped as having these types have them.
abbrev pub PoppedValuesHaveTypes : Type 0
PoppedValuesHaveTypes = (ts : List ValType) (vs taken left : List Val) → pop_typed ts vs ≡ Gives (taken, left) → HaveTypes ts taken

-- The values that the embedder passes for parameters of these types have them.
abbrev pub PassedValuesHaveTypes : Type 0
PassedValuesHaveTypes = (owned : Owned) (shown : List ℕ) (ts : List ValType) (xs : List Shown) (vs : List Val) → received_all owned shown ts xs ≡ Some vs → HaveTypes ts vs

-- A trampoline that was entered has, after a step for each parameter and two more, entered the
-- function in its slot with the same values, over a passing frame. The function may also be a
-- placeholder.
abbrev pub TrampolinesEnterSlots : Type 0
TrampolinesEnterSlots =
    (t : Store) (inst : Inst) (u : FuncType) (ty table : ℕ) (slot : ℤ) (b c : ℕ) → slice_get t.funcs b ≡ Some (trampoline inst u ty table slot) → InSlot t inst u ty table slot c →
    (ws : List Val) (fs : List Entry) → HaveTypes u.params ws → go_on (length u.params + 2) (enter_at t b ws fs) ≡ enter_at t c ws (Running (passing inst ws u.results) ∷ fs)

-- The frame with these values and this code in its innermost level.
abbrev pub at_code : Frame → Level → List Level → List Val → List Instr → Frame
at_code f l ls values code = record f { levels = record l { values = values; code = code } ∷ ls }

-- In place of a direct call, the two instructions have, after two steps, entered the function in
-- the slot with the values on top, over the frame that goes on.
abbrev pub SlotCallsEnterSlots : Type 0
SlotCallsEnterSlots =
    (t : Store) (g : Frame) (m : Level) (ms : List Level) (u : FuncType) (ty table : ℕ) (slot : ℤ) (c : ℕ) → InSlot t g.inst u ty table slot c →
    (ws left more : List Val) (d : List Instr) (fs : List Entry) → pop_typed u.params more ≡ Gives (ws, left) →
    go_on 2 (Gives (Ran t (Running (at_code g m ms more (slot_call ty table slot ++ d)) ∷ fs))) ≡ enter_at t c ws (Running (at_code g m ms left d) ∷ fs)

-- ---- against the direct call ----

-- The functions at these addresses are defined, have this type, and have related code.
pub record CodeAt (R : Pairing) (s t : Store) (u : FuncType) (a c : ℕ) : Type 0 where
  pub first_inst : Inst
  pub second_inst : Inst
  pub locals : List ValType
  pub first_code : List Instr
  pub second_code : List Instr
  pub first : slice_get s.funcs a ≡ Some (Code u first_inst locals first_code)
  pub second : slice_get t.funcs c ≡ Some (Code u second_inst locals second_code)
  pub related : CodeRel R first_inst second_inst first_code second_code

-- From related stores and stacks, and with related values, the first enters a function, and the
-- second enters a trampoline and through its slot a function with related code. Then both are
-- related, with a passing frame between.
abbrev pub TrampolineCallsAgree : Type 0
TrampolineCallsAgree =
    (of named : Space → ℕ → ℕ → Bool) (l : List ℕ) (stands : CodeTest) (s t : Store) (es fs : List Entry) → StoreRel (passed_with of named l stands) s t →
    WithPassing (passed_with of named l stands) es fs →
    (inst : Inst) (u : FuncType) (ty table : ℕ) (slot : ℤ) (a b c : ℕ) → slice_get t.funcs b ≡ Some (trampoline inst u ty table slot) → InSlot t inst u ty table slot c →
    CodeAt (passed_with of named l stands) s t u a c →
    (vs ws : List Val) → ListRel (ValRel (passed_with of named l stands)) vs ws → HaveTypes u.params ws →
    ResRel (NextRel (passed_with of named l stands) (FramesBetween (passed_with of named l stands))) (enter_at s a vs es) (go_on (length u.params + 2) (enter_at t b ws fs))

-- From related stores and stacks, the first makes a direct call, and the second executes the two
-- instructions, through whose slot it calls a function with related code. The one step and the two
-- steps give related results, or both trap, or both are ill typed.
abbrev pub SlotCallsAgree : Type 0
SlotCallsAgree =
    (of named : Space → ℕ → ℕ → Bool) (l : List ℕ) (stands : CodeTest) (s t : Store) (es fs : List Entry) → StoreRel (passed_with of named l stands) s t →
    (f g : Frame) (o m : Level) (os ms : List Level) (c d : List Instr) →
    WithPassing (passed_with of named l stands) (Running (at_code f o os o.values c) ∷ es) (Running (at_code g m ms m.values d) ∷ fs) →
    (u : FuncType) (n ty table : ℕ) (slot : ℤ) (a b : ℕ) → slice_get f.inst.funcs n ≡ Some a → InSlot t g.inst u ty table slot b → CodeAt (passed_with of named l stands) s t u a b →
    ResRel (NextRel (passed_with of named l stands) (FramesBetween (passed_with of named l stands))) (step s (Running (at_code f o os o.values (Call n ∷ c)) ∷ es))
    (go_on 2 (Gives (Ran t (Running (at_code g m ms m.values (slot_call ty table slot ++ d)) ∷ fs))))

-- From related stores and stacks, both make direct calls of functions with related code, as when a
-- function that was moved calls another one that was moved. The steps give related results, or both
-- trap, or both are ill typed.
abbrev pub DirectCallsAgree : Type 0
DirectCallsAgree =
    (of named : Space → ℕ → ℕ → Bool) (l : List ℕ) (stands : CodeTest) (s t : Store) (es fs : List Entry) → StoreRel (passed_with of named l stands) s t →
    (f g : Frame) (o m : Level) (os ms : List Level) (c d : List Instr) →
    WithPassing (passed_with of named l stands) (Running (at_code f o os o.values c) ∷ es) (Running (at_code g m ms m.values d) ∷ fs) →
    (u : FuncType) (n k a b : ℕ) → slice_get f.inst.funcs n ≡ Some a → slice_get g.inst.funcs k ≡ Some b → CodeAt (passed_with of named l stands) s t u a b →
    ResRel (NextRel (passed_with of named l stands) (FramesBetween (passed_with of named l stands))) (step s (Running (at_code f o os o.values (Call n ∷ c)) ∷ es))
    (step t (Running (at_code g m ms m.values (Call k ∷ d)) ∷ fs))
