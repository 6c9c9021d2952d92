-- Quiet steps as steps of the machine that read no unknown place and name, of imports, only
-- functions, whatever is outside the module.
use Rattle.std.specs.Prelude.{◌≡◌, ℕ, Bool, false, not, ◌&&◌, List, [], ◌∷◌, Some, slice_get, IsTrue}
use Rattle.wasm_tree_spec.specs.Prelude.{Space, Functions, Module, same_space}
use Rattle.wasm_meaning.specs.Prelude.{Gives, Val, Inst, Func, Code, Entry, Running, EndsCall, step}
use Rattle.run_simulation.specs.Prelude.{Pairing, TopSkips, passed, EntriesKnown, StepReadsKnown, left_unknown, KnownSteps}
use Rattle.eval_spec.specs.Prelude.{State, Going, Finished, is_imported, ComesTo, own_inst}

-- Each pair of the code relation is in the simulation relation, except for imported tables,
-- memories and globals.
abbrev pub RelatesAllButImports : Module → (of named : Space → ℕ → ℕ → Bool) → Type 0
RelatesAllButImports m of named = (k : Space) (a b : ℕ) → not (same_space k Functions) && is_imported m k a ≡ false → IsTrue (named k a b) → IsTrue (of k a b)

-- The frames run code of this instance.
abbrev pub FramesOf : Inst → List Entry → Type 0
FramesOf i [] = Unit {0}
FramesOf i (Running f ∷ es) = (f.inst ≡ i) × FramesOf i es
FramesOf i (_ ∷ es) = FramesOf i es

-- If the function is code, it is code of this instance.
abbrev pub IsCodeOf : Inst → Func → Type 0
IsCodeOf i (Code t j locals body) = j ≡ i
IsCodeOf i _ = Unit {0}

-- The functions that are code are code of this instance.
abbrev pub FuncsOf : Inst → List Func → Type 0
FuncsOf i funcs = (a : ℕ) (f : Func) → slice_get funcs a ≡ Some f → IsCodeOf i f

-- Quiet steps that go on are steps of the machine. Each of these goes on, reads no unknown place
-- and names related addresses, and what they leave unknown is the same. (So
-- `steps_agree_off_unknown_places` of run_simulation gives as many steps from any related store and
-- entries.)
abbrev pub QuietStepsAreKnown : Type 0
QuietStepsAreKnown =
    (m : Module) (of named : Space → ℕ → ℕ → Bool) → RelatesAllButImports m of named → (s t : State) (es fs : List Entry) → FuncsOf (own_inst m) s.store.funcs → FramesOf (own_inst m) es →
    ComesTo m (Going s es) (Going t fs) → (n : ℕ) × KnownSteps (passed of named []) n s.unknown s.store es t.unknown t.store fs

-- The same for a whole call: steps of this kind, and a last one that ends the call.
pub record EndsAsTheMachine (R : Pairing) (s : State) (es : List Entry) (t : State) : Type 0 where
  pub number : ℕ
  pub last : State
  pub entries : List Entry
  pub steps : KnownSteps R number s.unknown s.store es last.unknown last.store entries
  pub reads : StepReadsKnown last.unknown last.store entries
  pub skips : TopSkips R last.store entries
  pub known : (hs : List Entry) → EntriesKnown R entries hs
  pub values : List Val
  pub rest : List Entry
  pub ends : step last.store entries ≡ Gives (EndsCall values t.store rest)
  pub unknown : t.unknown ≡ left_unknown last.unknown last.store entries

-- A quiet call that finishes is a call of this kind.
abbrev pub QuietCallsAreKnown : Type 0
QuietCallsAreKnown =
    (m : Module) (of named : Space → ℕ → ℕ → Bool) → RelatesAllButImports m of named → (s t : State) (es : List Entry) → FuncsOf (own_inst m) s.store.funcs → FramesOf (own_inst m) es →
    ComesTo m (Going s es) (Finished t) → EndsAsTheMachine (passed of named []) s es t
