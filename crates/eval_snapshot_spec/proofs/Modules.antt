-- Small modules with exports, and what their snapshots are made of.
use Rattle.base_lists.proofs.Common.{ℕ, pos, List, [], ◌∷◌, None, true, false}
use Rattle.wasm_tree_spec.specs.Prelude.{I32, GlobalType, Limits, Instr, I32Store8, ConstExpr, DataSeg, Export, Func, GlobalDef, Import, ImportDesc, Module}
use Rattle.wasm_tree.specs.declared.instr.Instr.TheVariants as i
use Rattle.wasm_tree.specs.declared.module.ConstExpr.TheVariants as const
use Rattle.wasm_tree.specs.declared.module.DataMode.TheVariants as data'
use Rattle.wasm_tree.specs.declared.module.ExportDesc.TheVariants as ex
use Rattle.wasm_meaning.specs.Prelude.{Text}

-- ---- names ----

abbrev pub a : Text
a = 97 ∷ []

abbrev pub b : Text
b = 98 ∷ []

abbrev pub c : Text
c = 99 ∷ []

-- ---- modules ----

-- A module whose type 0 has no parameters and no results, and that has nothing else.
abbrev pub empty : Module
empty = record { types = record { params = []; results = [] } ∷ []; imports = []; funcs = []; tables = []; mems = []; globals = []; exports = []; start = None; elems = []; datas = [] }

abbrev pub func : List Instr → Func
func body = record { ty = 0; locals = []; body = body }

abbrev pub export : Text → (func : ℕ) → Export
export name func = record { name = name; desc = ex.Func func }

abbrev pub import : ImportDesc → Import
import d = record { «module» = 101 ∷ 110 ∷ 118 ∷ []; field = 102 ∷ []; desc = d }

abbrev pub page : Limits
page = record { min = 1; max = None }

abbrev pub mutable_i32 : GlobalType
mutable_i32 = record { ty = I32; mutable = true }

abbrev pub fixed_i32 : GlobalType
fixed_i32 = record { ty = I32; mutable = false }

abbrev pub global : GlobalType → ConstExpr → GlobalDef
global ty init = record { ty = ty; init = init }

-- ---- code ----

abbrev pub num : ℕ → Instr
num n = i.I32Const (pos n)

-- Code that stores a byte in memory 0.
abbrev pub stores : (place value : ℕ) → List Instr
stores place value = num place ∷ num value ∷ i.Store I32Store8 (record { align = 0; offset = 0; memory = 0 }) ∷ []

-- ---- data segments ----

-- An active data segment of memory 0.
abbrev pub at : ℕ → List ℕ → DataSeg
at place bytes = record { mode = data'.Active 0 (const.I32 (pos place)); bytes = bytes }

abbrev pub passive : List ℕ → DataSeg
passive bytes = record { mode = data'.Passive; bytes = bytes }
