-- The embedder's moves, and runs. A run instantiates its world, runs the start functions, opens the
-- view, and then makes steps and takes moves. What others see of it are its events.
use Rattle.std.proofs.Common.{ℕ, suc, ◌+◌, ◌*◌, List, [], ◌∷◌, ◌++◌, length, Option, Some, None, Bool, true, false, cond, slice_get}
use Rattle.wasm_tree_spec.specs.Prelude.{Space, Tables, Memories, ValType, FuncType}
pub use Rattle.base_simulation.specs.Machines.{events_of, IsPrefix}
use Rattle.std.specs.Prelude.{nat_lt, nat_eq, IsTrue}
use Rattle.wasm_num.specs.Operations.{W32}
use Rattle.base_lists.specs.Options.{◌>>=◌}
use Rattle.wasm_meaning.specs.Outcomes.{Outcome, Gives, Traps, IllTyped, overwrite, copies}
use Rattle.wasm_meaning.specs.State.{Text, Pair, RefVal, FuncRef, ExternRef, Val, Num, Ref, Table, Memory, Store, Change, SetGlobal, SetMemory, SetTable, Growth, GrowMemory, GrowTable, Entry, Running}
use Rattle.wasm_meaning.specs.State.{Caller, Host, Starter, Mark, Opening, Waiting, Ended, Growing, Next, Ran, CallsOwn, WaitsGrowth, CallsPlaceholder, EndsCall}
use Rattle.wasm_meaning.specs.Values.{null_of}
use Rattle.wasm_meaning.specs.Memory.{memory_may_grow}
use Rattle.wasm_meaning.specs.Tables.{table_may_grow}
use Rattle.wasm_meaning.specs.Control.{type_at, own_at}
use Rattle.wasm_meaning.specs.Step.{give, enter_at, step, to_mark, changed}
use Rattle.wasm_meaning.specs.Linking.{same_text}
use Rattle.wasm_meaning.specs.Environment.{Environment, is_environment, owned_of, Shown, Number, Null, OwnFunc, ExternNumber, Function, ExternalValue, FuncAt, TableAt, MemoryAt, GlobalAt, TableKey}
use Rattle.wasm_meaning.specs.Environment.{MemoryKey, GlobalKey, Owned, owned_at, look_up, func_of, received, received_ref, received_all}
use Rattle.wasm_meaning.specs.World.{World, Begun, own_store, instantiate}

-- ---- events and moves ----

-- An observable action of a run.
pub data Event : Type 0 where
  -- Instantiation. `Linked`: the view is open. `LinkFault`: an import does not match, a constant
  -- read has no end, or a name of the view denotes nothing. `InstanceTrapped`: a segment or a start
  -- function trapped.
  Linked : Event
  LinkFault : Event
  InstanceTrapped : Event
  -- The end of a call that the embedder made.
  Returned : List Shown → Event
  Trapped : Event
  -- A function of the environment's own is called; a memory or table is to grow from `size` by
  -- `count`.
  Asked : Pair → FuncType → List Shown → Event
  GrowAsked : Space → (size count : ℕ) → Event
  -- The answers to moves: a value that was read, a move that was made, a move that cannot be made.
  Got : Shown → Event
  Done : Event
  BadMove : Event

-- A table, memory or global: one of the environment's own, by its pair, or the one that the view
-- has under a name.
pub data Place : Type 0 where
  TableOf : Pair → Place
  MemoryOf : Pair → Place
  GlobalOf : Pair → Place
  Named : Text → Place

-- What the embedder does next: it calls a function of the view (`Call`) or one that it was shown
-- (`Invoke`), is shown a function of the view (`Take`), answers a call of the environment's own
-- function (`Answer`, or `Refuse` for a trap), grants or denies a growth, reads or sets an entry of
-- a place, reads its size, or grows it (`Extend`).
pub data Move : Type 0 where
  Call : Text → List Shown → Move
  Invoke : (number : ℕ) → List Shown → Move
  Take : Text → Move
  Answer : List Shown → Move
  Refuse : Move
  Grant : Move
  Deny : Move
  Get : Place → (index : ℕ) → Move
  Size : Place → Move
  Set : Place → (index : ℕ) → Shown → Move
  Extend : Place → (count : ℕ) → Move

-- ---- the state of a run ----

pub data Phase : Type 0 where
  -- Before the instantiation, which has this result; `None` is a link fault.
  Fresh : Option Begun → Phase
  -- Instantiated: the start functions run, and then this view opens.
  Pending : (view : List (Text × ExternalValue)) → Phase
  Opened : Phase
  -- The instantiation failed (`LinkFault`) or trapped (`InstanceTrapped`).
  Closed : Phase

pub record Run : Type 0 where
  pub store : Store
  pub entries : List Entry
  pub phase : Phase
  -- The addresses of the functions that the embedder was shown, in the order of first showing.
  pub shown : List ℕ
  pub view : List (Text × ExternalValue)
  pub owned : Owned
  pub moves : List Move

-- A run after a step, and the event of the step, if it has one.
abbrev pub Out : Type 0
Out = Run × Option Event

-- ---- look-ups ----

abbrev pub viewed_at : Run → Text → Option ExternalValue
viewed_at r name = look_up (same_text name) r.view

abbrev pub place_at : Run → Place → Option ExternalValue
place_at r (TableOf pair) = owned_at r.owned (TableKey pair)
place_at r (MemoryOf pair) = owned_at r.owned (MemoryKey pair)
place_at r (GlobalOf pair) = owned_at r.owned (GlobalKey pair)
place_at r (Named name) = viewed_at r name

-- ---- values shown ----

abbrev pub place_of : List ℕ → ℕ → Option ℕ
place_of [] a = None
place_of (x ∷ xs) a = cond (nat_eq x a) (Some 0) (place_of xs a >>= λ k. Some (suc k))

-- A function that was shown keeps its number; another one gets the next number.
abbrev pub numbered : List ℕ → ℕ → Option ℕ → Shown × List ℕ
numbered shown a (Some k) = (Function k, shown)
numbered shown a None = (Function (length shown), shown ++ a ∷ [])

abbrev pub show_func : List ℕ → ℕ → Option (Pair × FuncType) → Shown × List ℕ
show_func shown a (Some own) = (OwnFunc own.0 own.1, shown)
show_func shown a None = numbered shown a (place_of shown a)

-- A value as the embedder sees it, and the functions that the embedder has been shown after that.
abbrev pub show : Store → List ℕ → Val → Shown × List ℕ
show s shown (Num w n) = (Number n, shown)
show s shown (Ref (FuncRef None)) = (Null, shown)
show s shown (Ref (FuncRef (Some a))) = show_func shown a (own_at s a)
show s shown (Ref (ExternRef None)) = (Null, shown)
show s shown (Ref (ExternRef (Some n))) = (ExternNumber n, shown)

abbrev pub show_all : Store → List ℕ → List Val → List Shown × List ℕ
show_all s shown [] = ([], shown)
show_all s shown (v ∷ vs) = let one = show s shown v in let rest = show_all s one.1 vs in (one.0 ∷ rest.0, rest.1)

-- ---- after a step of the machine ----

-- A trap removes everything down to the nearest mark. If that is the mark of a start, the trap
-- removes everything and closes the world.
abbrev pub trapped_at : Run → Caller → List Entry → Out
trapped_at r Host es = (record r { entries = es }, Some Trapped)
trapped_at r Starter es = (record r { entries = []; phase = Closed }, Some InstanceTrapped)

-- A trap down to the nearest mark. If the stack has none, which is ill typed, everything is
-- removed.
abbrev pub trapped_to : Run → Outcome (Caller × List Entry) → Out
trapped_to r (Gives w) = trapped_at r w.0 w.1
trapped_to r _ = (record r { entries = [] }, Some Trapped)

abbrev pub showing : Run → Store → List Entry → List Val → (List Shown → Event) → Out
showing r s es vs event = let x = show_all s r.shown vs in (record r { store = s; entries = es; shown = x.1 }, Some (event x.0))

abbrev pub kind_of_growth : Growth → Space
kind_of_growth (GrowMemory a n) = Memories
kind_of_growth (GrowTable a n v) = Tables

-- What follows from a step of the machine. The call of a placeholder traps here. Without a loader,
-- nothing supplies a function for it; under a loader, this is a call through a slot that still
-- holds a placeholder.
abbrev pub run_after : Run → Outcome Next → Out
run_after r (Gives (Ran s es)) = (record r { store = s; entries = es }, None)
run_after r (Gives (CallsOwn pair ty vs s es)) = showing r s es vs (Asked pair ty)
run_after r (Gives (WaitsGrowth g size count s es)) = (record r { store = s; entries = es }, Some (GrowAsked (kind_of_growth g) size count))
run_after r (Gives (CallsPlaceholder slot vs s es)) = trapped_to (record r { store = s; entries = es }) (to_mark es)
run_after r (Gives (EndsCall vs s es)) = showing r s es vs Returned
run_after r Traps = trapped_to r (to_mark r.entries)
run_after r IllTyped = trapped_to r (to_mark r.entries)

-- ---- transitions ----

-- The next step of a run: a step of the machine over this run, with its result, or a step that the
-- run makes itself, for instance a move that reads a global.
pub data Transition : Type 0 where
  Steps : Run → Outcome Next → Transition
  Makes : Out → Transition

abbrev pub made : Transition → Out
made (Steps r n) = run_after r n
made (Makes o) = o

-- ---- moves: the transition of each, or `None` if it cannot be made ----

-- Calls a function on top of these entries; each argument has to have its parameter's type.
abbrev pub called : Run → List Entry → List Shown → ℕ → Option Transition
called r es xs a = type_at r.store a >>= λ t. received_all r.owned r.shown t.params xs >>= λ vs. Some (Steps r (enter_at r.store a vs es))

abbrev pub is_mark : List Entry → Bool
is_mark (Mark ∷ es) = true
is_mark _ = false

-- Gives an answer to the entry that waits for it. If that is the mark of a call that the embedder
-- itself made, this call ends at the next step.
abbrev pub delivered : Run → List Val → List Entry → Transition
delivered r vs es = cond (is_mark es) (Makes (record r { entries = Ended vs ∷ es }, None)) (Steps r (give r.store vs es))

abbrev pub answered : Run → List Shown → List Entry → Option Transition
answered r xs (Waiting ts ∷ es) = received_all r.owned r.shown ts xs >>= λ vs. Some (delivered r vs es)
answered r xs _ = None

abbrev pub refused : Run → List Entry → Option Transition
refused r (Waiting ts ∷ es) = Some (Steps r Traps)
refused r _ = None

abbrev pub grown_memory : Memory → ℕ → Memory
grown_memory m n = record m { pages = m.pages + n; bytes = m.bytes ++ copies (65536 * n) 0 }

abbrev pub grown_table : Table → ℕ → RefVal → Table
grown_table t n v = record t { slots = t.slots ++ copies n v }

abbrev pub with_change : Run → Change → Run
with_change r c = record r { store = changed r.store c }

-- Grows the memory or table; the result is the old size.
abbrev pub granted : Run → Growth → List Entry → Option Transition
granted r (GrowMemory a n) es = slice_get r.store.mems a >>= λ m. Some (delivered (with_change r (SetMemory a (grown_memory m n))) (Num W32 m.pages ∷ []) es)
granted r (GrowTable a n v) es = slice_get r.store.tables a >>= λ t. Some (delivered (with_change r (SetTable a (grown_table t n v))) (Num W32 (length t.slots) ∷ []) es)

-- While a growth waits, the embedder can only grant or deny it.
abbrev pub decided : Run → Move → Growth → List Entry → Option Transition
decided r Grant g es = granted r g es
decided r Deny g es = Some (delivered r (Num W32 4294967295 ∷ []) es)
decided r _ g es = None

abbrev pub shows : Run → Val → Option Transition
shows r v = let x = show r.store r.shown v in Some (Makes (record r { shown = x.1 }, Some (Got x.0)))

-- A global has only the index 0.
abbrev pub got : Run → ExternalValue → ℕ → Option Transition
got r (FuncAt a) n = None
got r (TableAt a) n = slice_get r.store.tables a >>= λ t. slice_get t.slots n >>= λ v. shows r (Ref v)
got r (MemoryAt a) n = slice_get r.store.mems a >>= λ m. slice_get m.bytes n >>= λ b. shows r (Num W32 b)
got r (GlobalAt a) n = slice_get r.store.globals a >>= λ g. cond (nat_eq n 0) (shows r g.value) None

-- The size: of a table in entries, of a memory in pages, and of a global 1.
abbrev pub size_of : Run → ExternalValue → Option Transition
size_of r (FuncAt a) = None
size_of r (TableAt a) = slice_get r.store.tables a >>= λ t. shows r (Num W32 (length t.slots))
size_of r (MemoryAt a) = slice_get r.store.mems a >>= λ m. shows r (Num W32 m.pages)
size_of r (GlobalAt a) = slice_get r.store.globals a >>= λ g. shows r (Num W32 1)

abbrev pub does : Run → Change → Option Transition
does r c = Some (Makes (with_change r c, Some Done))

abbrev pub byte_of : Shown → Option ℕ
byte_of (Number n) = cond (nat_lt n 256) (Some n) None
byte_of _ = None

abbrev pub set : Run → ExternalValue → ℕ → Shown → Option Transition
set r (FuncAt a) n x = None
set r (TableAt a) n x =
    slice_get r.store.tables a >>= λ t. received_ref r.owned r.shown t.ty x >>= λ v. overwrite t.slots n (v ∷ []) >>= λ slots. does r (SetTable a (record t { slots = slots }))
set r (MemoryAt a) n x =
    slice_get r.store.mems a >>= λ m. byte_of x >>= λ b. overwrite m.bytes n (b ∷ []) >>= λ bytes. does r (SetMemory a (record m { bytes = bytes }))
set r (GlobalAt a) n x =
    slice_get r.store.globals a >>= λ g. cond (nat_eq n 0) (cond g.ty.mutable (received r.owned r.shown g.ty.ty x >>= λ v. does r (SetGlobal a (record g { value = v }))) None) None

abbrev pub extended : Run → ExternalValue → ℕ → Option Transition
extended r (FuncAt a) n = None
extended r (TableAt a) n = slice_get r.store.tables a >>= λ t. cond (table_may_grow t n) (does r (SetTable a (grown_table t n (null_of t.ty)))) None
extended r (MemoryAt a) n = slice_get r.store.mems a >>= λ m. cond (memory_may_grow m n) (does r (SetMemory a (grown_memory m n))) None
extended r (GlobalAt a) n = None

-- A move while no growth waits.
abbrev pub moved : Run → Move → Option Transition
moved r (Call name xs) = viewed_at r name >>= λ x. func_of x >>= called r (Mark ∷ r.entries) xs
moved r (Invoke number xs) = slice_get r.shown number >>= called r (Mark ∷ r.entries) xs
moved r (Take name) = viewed_at r name >>= λ x. func_of x >>= λ a. shows r (Ref (FuncRef (Some a)))
moved r (Answer xs) = answered r xs r.entries
moved r Refuse = refused r r.entries
moved r Grant = None
moved r Deny = None
moved r (Get p n) = place_at r p >>= λ x. got r x n
moved r (Size p) = place_at r p >>= size_of r
moved r (Set p n v) = place_at r p >>= λ x. set r x n v
moved r (Extend p n) = place_at r p >>= λ x. extended r x n

abbrev pub at_entries : Run → Move → List Entry → Option Transition
at_entries r m (Growing g ∷ es) = decided r m g es
at_entries r m _ = moved r m

-- A move that cannot be made changes nothing.
abbrev pub or_bad : Run → Option Transition → Transition
or_bad r (Some t) = t
or_bad r None = Makes (r, Some BadMove)

-- If a move is due and none is left, nothing happens.
abbrev pub next_move : Run → List Move → Transition
next_move r [] = Makes (r, None)
next_move r (m ∷ ms) = let q = record r { moves = ms } in or_bad q (at_entries q m q.entries)

abbrev pub is_own_place : Place → Bool
is_own_place (Named name) = false
is_own_place _ = true

-- In a closed world the embedder can only read, set and grow the environment's own entities.
abbrev pub is_taken_closed : Move → Bool
is_taken_closed (Get p n) = is_own_place p
is_taken_closed (Size p) = is_own_place p
is_taken_closed (Set p n v) = is_own_place p
is_taken_closed (Extend p n) = is_own_place p
is_taken_closed _ = false

abbrev pub closed_move : Run → List Move → Transition
closed_move r [] = Makes (r, None)
closed_move r (m ∷ ms) = let q = record r { moves = ms } in or_bad q (cond (is_taken_closed m) (moved q m) None)

-- ---- one step of a run ----

abbrev pub began : Run → Option Begun → Out
began r None = (record r { entries = []; phase = Closed }, Some LinkFault)
began r (Some b) = cond b.trapped
    (record r { store = b.store; entries = []; phase = Closed; owned = b.owned }, Some InstanceTrapped)
    (record r { store = b.store; entries = Opening b.starts ∷ []; phase = Pending b.view; owned = b.owned }, None)

abbrev pub view_of : Run → Phase → List (Text × ExternalValue)
view_of r (Pending view) = view
view_of r _ = r.view

-- A start function has no parameters and no results; a function of another type is not started.
abbrev pub nothing_in : List ValType → Option (List ValType)
nothing_in [] = Some []
nothing_in (t ∷ ts) = None

abbrev pub started : Run → (starts : List ℕ) → List Entry → ℕ → Option Transition
started r starts es a = type_at r.store a >>= λ t. nothing_in t.results >>= λ u. called r (Opening starts ∷ es) [] a

abbrev pub or_closed : Run → Option Transition → Transition
or_closed r (Some t) = t
or_closed r None = Makes (record r { entries = []; phase = Closed }, Some InstanceTrapped)

-- Begins the next start function, or opens the view if none is left.
abbrev pub open_next : Run → (starts : List ℕ) → List Entry → Transition
open_next r [] es = Makes (record r { entries = es; phase = Opened; view = view_of r r.phase }, Some Linked)
open_next r (a ∷ starts) es = or_closed r (started r starts es a)

-- The transition when the stack is empty. While start functions run that is ill typed, because
-- their `Opening` is on the stack.
abbrev pub in_phase : Run → Phase → Transition
in_phase r (Fresh b) = Makes (began r b)
in_phase r (Pending view) = Steps r IllTyped
in_phase r Opened = next_move r r.moves
in_phase r Closed = closed_move r r.moves

-- The transition by what is on top. A mark on top is ill typed, because the end of a call removes
-- its mark.
abbrev pub transition_at : Run → List Entry → Transition
transition_at r [] = in_phase r r.phase
transition_at r (Running f ∷ es) = Steps r (step r.store r.entries)
transition_at r (Mark ∷ es) = Steps r IllTyped
transition_at r (Opening starts ∷ es) = open_next r starts es
transition_at r (Waiting ts ∷ es) = next_move r r.moves
transition_at r (Ended vs ∷ es) = Steps r (give r.store vs es)
transition_at r (Growing g ∷ es) = next_move r r.moves

abbrev pub transition : Run → Transition
transition r = transition_at r r.entries

-- One step of a run: the instantiation, the beginning of a start function, the opening of the view,
-- a move, or a step of the machine.
abbrev pub tick : Run → Out
tick r = made (transition r)

-- ---- runs ----

-- A run before its instantiation, which has the result `b`. The store holds the environment's own
-- entities, even if `b` is `None`.
abbrev pub fresh_run : Environment → Option Begun → List Move → Run
fresh_run env b moves =
    record {
      store = own_store env;
      entries = [];
      phase = Fresh b;
      shown = [];
      view = [];
      owned = owned_of env;
      moves = moves;
    }

-- The trace of the first n steps of a world that is instantiated at once, in an environment and
-- with the moves of an embedder.
abbrev pub events : World → Environment → List Move → ℕ → List Event
events w env moves n = events_of tick (fresh_run env (instantiate env w) moves) n

-- Two ways to run (at once, sequentially or under a loader), each given by the trace of its first n
-- steps, are observationally equivalent: in each environment for which `named` holds, for each list
-- of moves and each n, the trace of n steps of `v` is a prefix of the trace of `f n` steps of `w`,
-- and the trace of n steps of `w` is a prefix of the trace of `g n` steps of `v`.
abbrev pub Same : (named : Environment → Type 0) → (v w : Environment → List Move → ℕ → List Event) → (f g : ℕ → ℕ) → Type 0
Same named v w f g =
    (env : Environment) → IsTrue (is_environment env) → named env → (moves : List Move) (n : ℕ) →
    IsPrefix (v env moves n) (w env moves (f n)) × IsPrefix (w env moves n) (v env moves (g n))
