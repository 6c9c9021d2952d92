-- What a snapshot has of the globals and data segments of its module, and code that names data
-- segments.
use Rattle.std.specs.Prelude.{◌≡◌, ℕ, ◌+◌, List, length, Bool, true, ◌||◌, not, Some, slice_get}
use Rattle.wasm_tree_spec.specs.Prelude.{DataSeg, GlobalDef, Instr, Module, Operand, AnyInside, PassesInside, PassesLayerByLayer, all_operands_pass, names_data, uses_data}
use Rattle.eval_spec.specs.Prelude.{State}
use Rattle.eval_snapshot_spec.specs.Snapshot.{global_left, globals_left, segments_left}

-- Each global of a snapshot is what is left of the global at its place, counted from `n` on.
abbrev pub EachGlobalIsLeft : Type 0
EachGlobalIsLeft = (m : Module) (s : State) (n : ℕ) (gs : List GlobalDef) (i : ℕ) (h : GlobalDef) → slice_get (globals_left m s n gs) i ≡ Some h → (g : GlobalDef) × (slice_get gs i ≡ Some g) ×
    (h ≡ global_left m s (n + i) g)

-- What is left of a list of data segments is a list of the same length.
abbrev pub AsManySegmentsAreLeft : Type 0
AsManySegmentsAreLeft = (s : State) (n : ℕ) (ds : List DataSeg) → length (segments_left s n ds) ≡ length ds

-- The operand names no data segment, unless `so`.
abbrev pub no_data_or : Bool → Operand → Bool
no_data_or so o = not (names_data o) || so

-- If the code does not use data segments, none of its operands names one.
abbrev pub DataOperandsPass : Type 0
DataOperandsPass = (so : Bool) (is : List Instr) → (uses_data is ≡ true → so ≡ true) → all_operands_pass (no_data_or so) is ≡ true

-- What the clauses of `operands_pass_layer_by_layer` say.
pub record CodeLaws : Type 0 where
  pub inside : PassesInside
  pub any : AnyInside
  pub layers : PassesLayerByLayer
