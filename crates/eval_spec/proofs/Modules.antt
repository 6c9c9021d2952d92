-- Small modules that are evaluated, and the results of their evaluations.
use Rattle.base_lists.proofs.Common.{ℕ, pos, List, [], ◌∷◌, Option, Some, None, true, false, slice_get}
use Rattle.base_lists.specs.Options.{◌>>=◌}
use Rattle.wasm_num.specs.declared.BinOp.TheVariants.{I32Sub}
use Rattle.wasm_tree.specs.declared.types.RefType.TheVariants.{Func as func_ref}
use Rattle.wasm_tree_spec.specs.Prelude.{I32, Ref, GlobalType, Limits, TableType, Instr, I32Store8, ConstExpr, DataSeg, Func, ImportDesc, Module}
use Rattle.wasm_tree.specs.declared.types.BlockType.TheVariants as bt
use Rattle.wasm_tree.specs.declared.instr.Instr.TheVariants as i
use Rattle.wasm_tree.specs.declared.module.ConstExpr.TheVariants as const
use Rattle.wasm_tree.specs.declared.module.ElemMode.TheVariants as elem
use Rattle.wasm_tree.specs.declared.module.DataMode.TheVariants as data'
use Rattle.wasm_tree.specs.declared.module.ImportDesc.TheVariants as im
use Rattle.eval_spec.specs.declared.stop.Stop.{Stop}
use Rattle.eval_spec.specs.Prelude.{State, stop_of, evaluated, evaluated_within, memory_bytes}

-- ---- modules ----

-- A module that has three types and nothing else: 0 to 2 are [] to [], [] to [i32] and [i32] to [].
abbrev pub empty : Module
empty = record {
  types = record { params = []; results = [] } ∷ record { params = []; results = I32 ∷ [] } ∷ record { params = I32 ∷ []; results = [] } ∷ [];
  imports = [];
  funcs = [];
  tables = [];
  mems = [];
  globals = [];
  exports = [];
  start = None;
  elems = [];
  datas = [];
}

abbrev pub func : List Instr → Func
func body = record { ty = 0; locals = []; body = body }

-- A module whose function 0 has this body.
abbrev pub does : List Instr → Module
does body = record empty { funcs = func body ∷ [] }

-- The limits of one page, of a memory that is defined (`with_page`) or imported.
abbrev pub page : Limits
page = record { min = 1; max = None }

abbrev pub with_page : Module → Module
with_page m = record m { mems = page ∷ [] }

abbrev pub imports : ImportDesc → Module → Module
imports d m = record m { imports = record { «module» = 101 ∷ []; field = 102 ∷ []; desc = d } ∷ [] }

-- A module that imports function 0, of this type, and whose function 1 has this body.
abbrev pub after_import : ℕ → List Instr → Module
after_import ty body = imports (im.Func ty) (does body)

abbrev pub three_slots : TableType
three_slots = record { ty = func_ref; limits = record { min = 3; max = None } }

-- The module with a table of three slots, into which these items are copied from the second slot
-- on.
abbrev pub with_slots : List ConstExpr → Module → Module
with_slots items m = record m { tables = three_slots ∷ []; elems = record { mode = elem.Active 0 (const.I32 (pos 1)); ty = func_ref; items = items } ∷ [] }

abbrev pub mutable_i32 : GlobalType
mutable_i32 = record { ty = I32; mutable = true }

abbrev pub fixed_i32 : GlobalType
fixed_i32 = record { ty = I32; mutable = false }

abbrev pub fixed_ref : GlobalType
fixed_ref = record { ty = Ref func_ref; mutable = false }

-- A module that imports global 0, and whose global 1 begins with its value.
abbrev pub with_global : List Instr → Module
with_global body = record (imports (im.Global fixed_i32) (does body)) { globals = record { ty = mutable_i32; init = const.Global 0 } ∷ [] }

-- An active data segment of these bytes, which are copied to this offset.
abbrev pub data_at : ConstExpr → List ℕ → DataSeg
data_at offset bytes = record { mode = data'.Active 0 offset; bytes = bytes }

-- ---- code ----

abbrev pub num : ℕ → Instr
num n = i.I32Const (pos n)

-- The instructions that store a byte at a place.
abbrev pub stores : (place value : ℕ) → List Instr
stores place value = num place ∷ num value ∷ i.Store I32Store8 (record { align = 0; offset = 0; memory = 0 }) ∷ []

-- A module whose function 0 has a local and makes `n` rounds of a loop before `rest`.
abbrev pub rounds : ℕ → List Instr → Module
rounds n rest = record empty {
  funcs = record {
    ty = 0;
    locals = record { count = 1; ty = I32 } ∷ [];
    body = num n ∷ i.LocalSet 0 ∷ i.Loop bt.Empty (i.LocalGet 0 ∷ num 1 ∷ i.Bin I32Sub ∷ i.LocalTee 0 ∷ i.BrIf 0 ∷ []) ∷ rest;
  } ∷ [];
}

-- ---- results ----

-- What stops the call of function 0, with the whole budget or with a number of turns
-- (`stops_within`).
abbrev pub stops : Module → Option Stop
stops m = stop_of (evaluated m (0 ∷ []))

abbrev pub stops_within : ℕ → Module → Option Stop
stops_within turns m = stop_of (evaluated_within m turns (0 ∷ []))

abbrev pub turns_left : Option State → Option ℕ
turns_left s = s >>= λ s. Some s.turns

abbrev pub byte : Module → ℕ → Option State → Option ℕ
byte m place s = s >>= λ s. slice_get (memory_bytes m s) place
