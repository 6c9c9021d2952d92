-- The laws of steps and of runs.
use Rattle.std.proofs.Common.{◌≡◌, ℕ, List, [], ◌∷◌, ◌++◌, Bool, true, false, slice_get, Some}
use Rattle.wasm_tree_spec.specs.Prelude.{Space, Functions, Tables, Memories, Globals, ElementSegments, DataSegments, Instr}
use Rattle.std.specs.Prelude.{IsTrue, nat_eq}
use Rattle.std.specs.List.{list_any}
use Rattle.wasm_meaning.specs.Prelude.{Gives, Inst, Val, Store, Entry, Running, Mark, Opening, Caller, Act, Ends, act, step, to_mark, Run, Out, show_all, tick, events_of}
use Rattle.run_simulation.specs.RelatedRuns.{ShowRel, RunRel, OutRel, turned, KeepsOthers, IsBegun}
use Rattle.run_simulation.specs.Related.{CodeRel, Pairing, OneToOne, OneToOneWhereWritten, ResRel, ListRel, ValRel, StoreRel, EntryRel, NextRel, TopSkips, TopKnown}

-- A test of the code that may stand in place of a call, over an instance.
abbrev pub CodeTest : Type 0
CodeTest = Inst → (function : ℕ) → List Instr → Bool

-- Addresses that pass `of` are related, and those that pass `named` are in the code relation; the
-- functions of the list are opaque, and code that passes `stands` may stand in place of calls of
-- them.
abbrev pub passed_with : (of named : Space → ℕ → ℕ → Bool) → List ℕ → CodeTest → Pairing
passed_with of named l stands = record { of = λ k a b. IsTrue (of k a b); named = λ k a b. IsTrue (named k a b); listed = λ a. IsTrue (list_any (nat_eq a) l); stands = λ j a e. IsTrue (stands j a e) }

-- Any code may stand in place of calls of opaque functions.
abbrev pub passed : (of named : Space → ℕ → ℕ → Bool) → List ℕ → Pairing
passed of named l = passed_with of named l (λ j a e. true)

-- The stacks are related entry by entry above `cs` and `ds`, which need not be related.
pub record Above (R : Pairing) (cs ds : List Entry) (s t : Store) (es fs : List Entry) : Type 0 where
  pub first : List Entry
  pub second : List Entry
  pub related : ListRel (EntryRel R) first second
  pub left : es ≡ first ++ cs
  pub right : fs ≡ second ++ ds

abbrev pub NoneBelow : (cs ds : List Entry) → Type 0
NoneBelow cs ds = (cs ≡ []) × (ds ≡ [])

-- A step that ends a frame also touches the entry below it, if there is one; this has to be one of
-- `es`.
abbrev pub NeedsBelow : (es cs ds : List Entry) → Act → Type 0
NeedsBelow (e ∷ es) cs ds (Ends vs) = Unit {0}
NeedsBelow [] cs ds (Ends vs) = NoneBelow cs ds
NeedsBelow es cs ds _ = Unit {0}

-- The entries that the step touches are among `es`, or nothing is below.
abbrev pub Touches : Store → (es cs ds : List Entry) → Type 0
Touches s [] cs ds = NoneBelow cs ds
Touches s (Running f ∷ es) cs ds = (x : Act) → act s f ≡ Gives x → NeedsBelow es cs ds x
Touches s (e ∷ es) cs ds = Unit {0}

-- If the next instructions of the top frames are related as other code is, they name related
-- addresses.
abbrev pub EntriesKnown : Pairing → List Entry → List Entry → Type 0
EntriesKnown R (Running f ∷ es) (Running g ∷ fs) = TopKnown R f.inst g.inst f.levels g.levels
EntriesKnown R _ _ = Unit {0}

-- Take stores that are related, by a relation that is one to one except for functions, and stacks
-- whose upper entries are related, among them those that the step touches. If the next instructions
-- name related addresses and the step begins no call of an opaque function, one step of each gives
-- related results, stores and upper entries, or both trap, or both are ill typed.
abbrev pub StepsAgree : Type 0
StepsAgree =
    (of named : Space → ℕ → ℕ → Bool) (l : List ℕ) → OneToOneWhereWritten (passed of named l) → (s t : Store) (es fs cs ds : List Entry) →
    StoreRel (passed of named l) s t → ListRel (EntryRel (passed of named l)) es fs → Touches s es cs ds → TopSkips (passed of named l) s es → EntriesKnown (passed of named l) es fs →
    ResRel (NextRel (passed of named l) (Above (passed of named l) cs ds)) (step s (es ++ cs)) (step t (fs ++ ds))

-- If all of the code relation is related, any next instructions name related addresses.
abbrev pub NamedAreKnown : Type 0
NamedAreKnown = (of named : Space → ℕ → ℕ → Bool) (l : List ℕ) → ((k : Space) (a b : ℕ) → IsTrue (named k a b) → IsTrue (of k a b)) → (es fs : List Entry) → EntriesKnown (passed of named l) es fs

-- For related values, in stores that are related by a relation that is one to one, functions
-- included, the embedder is shown equal values, if the functions that were shown before are
-- related, number by number; they are so again afterwards.
abbrev pub ShownAgree : Type 0
ShownAgree =
    (of named : Space → ℕ → ℕ → Bool) (l : List ℕ) → OneToOne (passed of named l) → (s t : Store) (vs ws : List Val) (xs ys : List ℕ) → StoreRel (passed of named l) s t →
    ListRel (ValRel (passed of named l)) vs ws →
    ListRel (λ a b. IsTrue (of Functions a b)) xs ys → ShowRel (passed of named l) (show_all s xs vs) (show_all t ys ws)

-- A trap ends at this entry.
abbrev pub ends_trap : Entry → Bool
ends_trap Mark = true
ends_trap (Opening xs) = true
ends_trap _ = false

abbrev pub NoMark : List Entry → Type 0
NoMark [] = Unit {0}
NoMark (e ∷ es) = (ends_trap e ≡ false) × NoMark es

-- A trap removes everything down to the nearest mark. If the two nearest marks are related, the
-- same caller waits at both, and what is below them stays. Nothing above them needs to be related.
abbrev pub TrapsAgree : Type 0
TrapsAgree =
    (of named : Space → ℕ → ℕ → Bool) (l : List ℕ) (above beyond es fs : List Entry) (e f : Entry) → NoMark above → NoMark beyond → ends_trap e ≡ true → EntryRel (passed of named l) e f →
    (c : Caller) × (to_mark (above ++ (e ∷ es)) ≡ Gives (c, es)) × (to_mark (beyond ++ (f ∷ fs)) ≡ Gives (c, fs))

-- Stacks that are related entry by entry, whatever the stores.
abbrev pub EntryByEntry : Pairing → Store → Store → List Entry → List Entry → Type 0
EntryByEntry R s t = ListRel (EntryRel R)

-- Runs whose stacks are related entry by entry.
abbrev pub RelatedRuns : Pairing → Run → Run → Type 0
RelatedRuns R = RunRel R (EntryByEntry R) (EntryByEntry R)

-- The same event, and again such runs.
abbrev pub RelatedOuts : Pairing → Out → Out → Type 0
RelatedOuts R = OutRel R (EntryByEntry R) (EntryByEntry R)

-- If the simulation relation is one to one, functions included, and is also the code relation, and
-- if no function is opaque, related runs have equal traces.
abbrev pub RelatedRunsHaveEqualTraces : Type 0
RelatedRunsHaveEqualTraces =
    (of : Space → ℕ → ℕ → Bool) → OneToOne (passed of of []) → (r q : Run) → RelatedRuns (passed of of []) r q → (n : ℕ) → events_of tick r n ≡ events_of tick q n

-- One step of each of two such runs has the same event and leaves them related.
abbrev pub RelatedTicksAgree : Type 0
RelatedTicksAgree =
    (of : Space → ℕ → ℕ → Bool) → OneToOne (passed of of []) → (r q : Run) → RelatedRuns (passed of of []) r q →
    RelatedOuts (passed of of []) (tick r) (tick q)

-- Once both are instantiated, a step of each leaves the functions as they were, and everything else
-- that has no partner in the other store.
abbrev pub OthersStay : Type 0
OthersStay =
    (of : Space → ℕ → ℕ → Bool) → OneToOne (passed of of []) → (r q : Run) → RelatedRuns (passed of of []) r q → IsBegun r.phase →
    KeepsOthers (passed of of []) q.store (tick q).0.store × KeepsOthers (turned (passed of of [])) r.store (tick r).0.store

-- Each address of the instance is in the code relation with itself.
pub record NamesItself (R : Pairing) (i : Inst) : Type 0 where
  pub funcs : (n a : ℕ) → slice_get i.funcs n ≡ Some a → R.named Functions a a
  pub tables : (n a : ℕ) → slice_get i.tables n ≡ Some a → R.named Tables a a
  pub mems : (n a : ℕ) → slice_get i.mems n ≡ Some a → R.named Memories a a
  pub globals : (n a : ℕ) → slice_get i.globals n ≡ Some a → R.named Globals a a
  pub elems : (n a : ℕ) → slice_get i.elems n ≡ Some a → R.named ElementSegments a a
  pub datas : (n a : ℕ) → slice_get i.datas n ≡ Some a → R.named DataSegments a a

-- Code is related to itself over such an instance.
abbrev pub CodeIsRelatedToItself : Type 0
CodeIsRelatedToItself = (of named : Space → ℕ → ℕ → Bool) (l : List ℕ) (i : Inst) (code : List Instr) → NamesItself (passed of named l) i → CodeRel (passed of named l) i i code code
