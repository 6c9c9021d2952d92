-- In which ways the first of two related runs takes a step, as to calls of opaque functions; the
-- second may have frames of trampolines in between.
use Rattle.std.proofs.Common.{◌≡◌, ℕ, List, ◌∷◌, ◌++◌, Bool, false, Some, slice_get}
use Rattle.wasm_tree_spec.specs.Prelude.{Space, Functions, FuncType, Instr, Call}
use Rattle.wasm_meaning.specs.Prelude.{Val, Level, Frame, Entry, Running, type_at, enter_at, step, Move, Run, Steps, transition, tick}
use Rattle.run_simulation.specs.Prelude.{Pairing, OneToOne, ListRel, ValRel, IsBegun, passed_with, TickSkips, calls_placeholder, WithPassing, HaveTypes, at_code}
use Rattle.run_simulation.specs.Laws.{CodeTest}
use Rattle.split_proof.specs.SplitInstantiation.{RunsRelated}

-- Both enter functions that are partners, with related values of the first's type, over related
-- stacks; the first is opaque. `moves` are the moves that are left.
pub record EntersInBoth (R : Pairing) (r q : Run) : Type 0 where
  pub first : ℕ
  pub second : ℕ
  pub listed : R.listed first
  pub partners : R.of Functions first second
  pub type : FuncType
  pub typed : type_at r.store first ≡ Some type
  pub values : List Val
  pub second_values : List Val
  pub related : ListRel (ValRel R) values second_values
  pub have_types : HaveTypes type.params second_values
  pub below : List Entry
  pub second_below : List Entry
  pub stacks : WithPassing R below second_below
  pub moves : List Move
  pub step : transition r ≡ Steps (record r { moves = moves }) (enter_at r.store first values below)
  pub second_step : transition q ≡ Steps (record q { moves = moves }) (enter_at q.store second second_values second_below)

-- The first run calls an opaque function directly, and other code replaces that call in the second.
pub record ReplacementCode (R : Pairing) (r q : Run) : Type 0 where
  pub frame : Frame
  pub second_frame : Frame
  pub level : Level
  pub second_level : Level
  pub outer : List Level
  pub second_outer : List Level
  pub rest : List Instr
  pub second_rest : List Instr
  pub below : List Entry
  pub second_below : List Entry
  pub index : ℕ
  pub address : ℕ
  pub names : slice_get frame.inst.funcs index ≡ Some address
  pub listed : R.listed address
  pub code : List Instr
  pub stands : R.stands second_frame.inst address code
  pub stacks : WithPassing R (Running (at_code frame level outer level.values rest) ∷ below) (Running (at_code second_frame second_level second_outer second_level.values second_rest) ∷ second_below)
  pub top : (f : Frame) × (r.entries ≡ Running f ∷ below)
  pub step : step r.store r.entries ≡ step r.store (Running (at_code frame level outer level.values (Call index ∷ rest)) ∷ below)
  pub second_top : q.entries ≡ Running (at_code second_frame second_level second_outer second_level.values (code ++ second_rest)) ∷ second_below

-- No call begins, because the arguments or the type do not fit: both steps have the same event and
-- lead to related runs, neither changes its store, and the second calls no placeholder.
pub record NoCallBegins (R : Pairing) (r q : Run) : Type 0 where
  pub event : (tick r).1 ≡ (tick q).1
  pub runs : RunsRelated R (tick r).0 (tick q).0
  pub first_store : (tick r).0.store ≡ r.store
  pub second_store : (tick q).0.store ≡ q.store
  pub plain : calls_placeholder (transition q) ≡ false

-- the four ways; in the first, the step begins no call of an opaque function
pub data StepsCallMovedTogether (R : Pairing) (r q : Run) : Type 0 where
  skips : TickSkips R r r.entries → StepsCallMovedTogether R r q
  enters : EntersInBoth R r q → StepsCallMovedTogether R r q
  instead : ReplacementCode R r q → StepsCallMovedTogether R r q
  wrong : NoCallBegins R r q → StepsCallMovedTogether R r q

-- Each step goes one of these ways, if the code relation is the simulation relation.
abbrev pub EveryStepCallsMovedTogether : Type 0
EveryStepCallsMovedTogether =
    (of : Space → ℕ → ℕ → Bool) (l : List ℕ) (stands : CodeTest) → OneToOne (passed_with of of l stands) → (r q : Run) → IsBegun r.phase → RunsRelated (passed_with of of l stands) r q →
    StepsCallMovedTogether (passed_with of of l stands) r q
