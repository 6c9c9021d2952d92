-- Unknown places of a store, beside a relation of addresses: what is there need not be related.
-- Imported entities are no unknown places: they have addresses in the code relation in both stores,
-- and are not related.
use Rattle.std.proofs.Common.{◌≡◌, ℕ, suc, ◌+◌, ◌<◌, ◌≤◌, List, [], ◌∷◌, ◌++◌, length, Bool, true, false, not, slice_get, Some}
use Rattle.base_lists.specs.Members.{is_among}
use Rattle.std.specs.Prelude.{nat_eq, ◌↔◌, ◌&&◌}
use Rattle.std.specs.List.{list_any, filter}
use Rattle.wasm_tree_spec.specs.Prelude.{Space, Functions, Tables, Memories, Globals, ElementSegments, DataSegments, FuncType, Instr, out-Instr}
use Rattle.wasm_tree.specs.declared.instr.Instr.TheOpen.{Instr-F}
use Rattle.wasm_num.specs.Operations.{W32}
use Rattle.wasm_meaning.specs.Prelude.{Outcome, Gives, IllTyped, bind, with_entry, Val, RefVal, Inst, Table, Global, Store, Level, Entry, Running, Env, Change, SetGlobal, SetTable, Act, Goes, Next}
use Rattle.wasm_meaning.specs.Prelude.{Ran, pop_num, pop_three, type_at, own_at, act, changed, step}
use Rattle.run_simulation.specs.Related.{Pairing, OneToOneWhereWritten, OptRel, BothRel, ResRel, ListRel, RefRel, ValRel, FuncRel, StoreRel, EntryRel, ChangeRel, ActRelBy, NextRelBy, TopSkips}
use Rattle.run_simulation.specs.Laws.{passed, Above, Touches, EntriesKnown}

-- Unknown places, by their addresses in the first store: globals that were not set yet, and slots
-- of tables and items of element segments, each with its position.
pub record Unknowns : Type 0 where
  pub globals : List ℕ
  pub slots : List (ℕ × ℕ)
  pub items : List (ℕ × ℕ)

abbrev pub none_unknown : Unknowns
none_unknown = record { globals = []; slots = []; items = [] }

abbrev pub is_place_among : List (ℕ × ℕ) → (address place : ℕ) → Bool
is_place_among xs a n = list_any (λ x. nat_eq x.0 a && nat_eq x.1 n) xs

-- The types of the globals are equal, and their values are related if they are known.
pub record GlobalOff (R : Pairing) (known : Bool) (g h : Global) : Type 0 where
  pub type : g.ty ≡ h.ty
  pub value : known ≡ true → ValRel R g.value h.value

-- The lists have the same length, and the references at a place are related if that is known.
pub record RefsOff (R : Pairing) (known : ℕ → Bool) (xs ys : List RefVal) : Type 0 where
  pub size : length xs ≡ length ys
  pub each : (n : ℕ) → known n ≡ true → OptRel (RefRel R) (slice_get xs n) (slice_get ys n)

pub record TableOff (R : Pairing) (known : ℕ → Bool) (t u : Table) : Type 0 where
  pub type : t.ty ≡ u.ty
  pub most : t.most ≡ u.most
  pub slots : RefsOff R known t.slots u.slots

-- Related addresses hold entities with related contents, except at unknown places.
pub record StoreRelOff (R : Pairing) (u : Unknowns) (s t : Store) : Type 0 where
  pub types : {a b : ℕ} → R.of Functions a b → BothRel (◌≡◌ {A = FuncType}) (type_at s a) (type_at t b)
  pub owns : {a b : ℕ} → R.of Functions a b → own_at s a ≡ own_at t b
  pub funcs : {a b : ℕ} → R.of Functions a b → ¬ R.listed a → BothRel (FuncRel R) (slice_get s.funcs a) (slice_get t.funcs b)
  pub tables : {a b : ℕ} → R.of Tables a b → BothRel (TableOff R (λ n. not (is_place_among u.slots a n))) (slice_get s.tables a) (slice_get t.tables b)
  pub mems : {a b : ℕ} → R.of Memories a b → BothRel (λ m n. m ≡ n) (slice_get s.mems a) (slice_get t.mems b)
  pub globals : {a b : ℕ} → R.of Globals a b → BothRel (GlobalOff R (not (is_among u.globals a))) (slice_get s.globals a) (slice_get t.globals b)
  pub elems : {a b : ℕ} → R.of ElementSegments a b → BothRel (λ e f. RefsOff R (λ n. not (is_place_among u.items a n)) e.items f.items) (slice_get s.elems a) (slice_get t.elems b)
  pub datas : {a b : ℕ} → R.of DataSegments a b → BothRel (λ d e. d.bytes ≡ e.bytes) (slice_get s.datas a) (slice_get t.datas b)

-- A global that is set is known from then on.
abbrev pub learnt : Unknowns → (address : ℕ) → Unknowns
learnt u a = record u { globals = filter (λ b. not (nat_eq b a)) u.globals }

-- ---- what a step reads, and what it leaves unknown ----

-- A read of what may be unknown: nothing, a global, or a range of references of a table or of an
-- element segment.
pub data ReadPlace : Type 0 where
  ReadsNothing : ReadPlace
  ReadsGlobal : (address : ℕ) → ReadPlace
  ReadsSlots : (address place count : ℕ) → ReadPlace
  ReadsItems : (address place count : ℕ) → ReadPlace

-- The position of the slot is on top of the stack.
abbrev pub slot_read : ℕ → List Val → Outcome ReadPlace
slot_read a vs = bind (pop_num W32 vs) (λ i. Gives (ReadsSlots a i.0 1))

-- Of the three numbers on top of the stack, the middle one is where the range begins, and the top
-- one is its length.
abbrev pub range_read : (place_count : ℕ → ℕ → ReadPlace) → List Val → Outcome ReadPlace
range_read f vs = bind (pop_three vs) (λ p. Gives (f p.0.1 p.0.2))

-- What an instruction reads of what may be unknown: the global of `global.get`, the slot of
-- `table.get` and `call_indirect`, and the references that `table.copy` and `table.init` copy.
abbrev pub read_by : Instr-F Instr → Env → List Val → Outcome ReadPlace
read_by (Instr-F.GlobalGet n) env vs = with_entry env.inst.globals n (λ a. Gives (ReadsGlobal a))
read_by (Instr-F.TableGet n) env vs = with_entry env.inst.tables n (λ a. slot_read a vs)
read_by (Instr-F.CallIndirect t n) env vs = with_entry env.inst.tables n (λ a. slot_read a vs)
read_by (Instr-F.TableCopy n m) env vs = with_entry env.inst.tables m (λ a. range_read (ReadsSlots a) vs)
read_by (Instr-F.TableInit s n) env vs = with_entry env.inst.elems s (λ a. range_read (ReadsItems a) vs)
read_by _ env vs = Gives ReadsNothing

abbrev pub read_next : Env → List Val → List Instr → Outcome ReadPlace
read_next env vs [] = Gives ReadsNothing
read_next env vs (i ∷ is) = read_by (out-Instr i) env vs

abbrev pub read_levels : Env → List Level → Outcome ReadPlace
read_levels env [] = IllTyped
read_levels env (l ∷ ls) = read_next env l.values l.code

-- No unknown place is read.
abbrev pub IsKnown : Unknowns → ReadPlace → Type 0
IsKnown u ReadsNothing = Unit {0}
IsKnown u (ReadsGlobal a) = is_among u.globals a ≡ false
IsKnown u (ReadsSlots a place count) = (n : ℕ) → place ≤ n → n < place + count → is_place_among u.slots a n ≡ false
IsKnown u (ReadsItems a place count) = (n : ℕ) → place ≤ n → n < place + count → is_place_among u.items a n ≡ false

abbrev pub ReadsKnown : Unknowns → Outcome ReadPlace → Type 0
ReadsKnown u o = (r : ReadPlace) → o ≡ Gives r → IsKnown u r

-- The step of these entries reads no unknown place.
abbrev pub StepReadsKnown : Unknowns → Store → List Entry → Type 0
StepReadsKnown u s (Running f ∷ es) = ReadsKnown u (read_levels (record { store = s; inst = f.inst }) f.levels)
StepReadsKnown u s _ = Unit {0}

-- What is unknown after a change: a global that was set is known.
abbrev pub left_by : Unknowns → Change → Unknowns
left_by u (SetGlobal a g) = learnt u a
left_by u _ = u

abbrev pub left_after : Unknowns → Outcome Act → Unknowns
left_after u (Gives (Goes c h)) = left_by u c
left_after u _ = u

-- What is unknown after the step of these entries.
abbrev pub left_unknown : Unknowns → Store → List Entry → Unknowns
left_unknown u s (Running f ∷ es) = left_after u (act s f)
left_unknown u s _ = u

-- Both write related contents, except that the unknown slots of a table need not be related.
pub data ChangeOff (R : Pairing) (u : Unknowns) : Change → Change → Type 0 where
  known : {c d : Change} → ChangeRel R c d → ChangeOff R u c d
  off_slots : {a b : ℕ} {t v : Table} → R.of Tables a b → TableOff R (λ n. not (is_place_among u.slots a n)) t v → ChangeOff R u (SetTable a t) (SetTable b v)

abbrev pub ActOff : Pairing → Unknowns → Inst → Inst → Act → Act → Type 0
ActOff R u = ActRelBy R (ChangeOff R u)

abbrev pub NextOff : Pairing → Unknowns → (Store → Store → List Entry → List Entry → Type 0) → Next → Next → Type 0
NextOff R u = NextRelBy R (StoreRelOff R u)

-- ---- runs of the machine ----

-- n steps, each of which goes on without an event.
pub data GoesOn : ℕ → Store → List Entry → Store → List Entry → Type 0 where
  here : {s : Store} {es : List Entry} → GoesOn 0 s es s es
  step_on : {n : ℕ} {s t r : Store} {es fs gs : List Entry} → step s es ≡ Gives (Ran t fs) → GoesOn n t fs r gs → GoesOn (suc n) s es r gs

-- n steps that each go on, read no unknown place, begin no call of an opaque function and name
-- related addresses, with what is unknown before and after them.
pub data KnownSteps (R : Pairing) : ℕ → Unknowns → Store → List Entry → Unknowns → Store → List Entry → Type 0 where
  none_left : {u : Unknowns} {s : Store} {es : List Entry} → KnownSteps R 0 u s es u s es
  known_step : {n : ℕ} {u v : Unknowns} {s t r : Store} {es fs gs : List Entry} → StepReadsKnown u s es → TopSkips R s es → ((hs : List Entry) → ListRel (EntryRel R) es hs → EntriesKnown R es hs) →
      step s es ≡ Gives (Ran t fs) →
      KnownSteps R n (left_unknown u s es) t fs v r gs → KnownSteps R (suc n) u s es v r gs

-- n steps lead from `t` and `fs` to a store that is related to `s` except at unknown places, and to
-- entries that are related to `es`.
pub record FollowsOff (R : Pairing) (n : ℕ) (u : Unknowns) (s : Store) (es : List Entry) (t : Store) (fs : List Entry) : Type 0 where
  pub store : Store
  pub entries : List Entry
  pub steps : GoesOn n t fs store entries
  pub related : StoreRelOff R u s store
  pub stack : ListRel (EntryRel R) es entries

-- ---- laws ----

-- If there are no unknown places, stores are related except at these exactly if they are related.
abbrev pub NothingUnknown : Type 0
NothingUnknown =
    (of named : Space → ℕ → ℕ → Bool) (l : List ℕ) (s t : Store) → StoreRelOff (passed of named l) none_unknown s t ↔ StoreRel (passed of named l) s t

-- If stores are related except at unknown places, by a relation that is one to one except for
-- functions, and two related globals are set to related values, the stores are then related except
-- at the other unknown places.
abbrev pub SetGlobalsAreKnown : Type 0
SetGlobalsAreKnown =
    (of named : Space → ℕ → ℕ → Bool) (l : List ℕ) → OneToOneWhereWritten (passed of named l) → (u : Unknowns) (s t : Store) (a b : ℕ) (g h : Global) (v w : Val) →
    StoreRelOff (passed of named l) u s t → (passed of named l).of Globals a b → slice_get s.globals a ≡ Some g → slice_get t.globals b ≡ Some h → ValRel (passed of named l) v w →
    StoreRelOff (passed of named l) (learnt u a) (changed s (SetGlobal a (record g { value = v }))) (changed t (SetGlobal b (record h { value = w })))

-- The law of steps holds for stores that are related except at unknown places, if the step reads
-- none of these. Then the stores are related except at what is still unknown.
abbrev pub StepsAgreeOff : Type 0
StepsAgreeOff =
    (of named : Space → ℕ → ℕ → Bool) (l : List ℕ) → OneToOneWhereWritten (passed of named l) → (u : Unknowns) (s t : Store) (es fs cs ds : List Entry) →
    StoreRelOff (passed of named l) u s t → ListRel (EntryRel (passed of named l)) es fs → Touches s es cs ds → TopSkips (passed of named l) s es → EntriesKnown (passed of named l) es fs →
    StepReadsKnown u s es →
    ResRel (NextOff (passed of named l) (left_unknown u s es) (Above (passed of named l) cs ds)) (step s (es ++ cs)) (step t (fs ++ ds))

-- The steps of `KnownSteps` are followed one by one from a store that is related except at unknown
-- places, and from related entries. Then the stores are related except at what is still unknown.
abbrev pub RunsAgreeOff : Type 0
RunsAgreeOff =
    (of named : Space → ℕ → ℕ → Bool) (l : List ℕ) → OneToOneWhereWritten (passed of named l) → (n : ℕ) (u v : Unknowns) (s r t : Store) (es gs fs : List Entry) →
    StoreRelOff (passed of named l) u s t → ListRel (EntryRel (passed of named l)) es fs → KnownSteps (passed of named l) n u s es v r gs → FollowsOff (passed of named l) n v r gs t fs
