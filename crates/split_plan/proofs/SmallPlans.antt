-- Plans for a small module.
use Rattle.base_lists.proofs.Common.{◌≡◌, refl, ℕ, List, [], ◌∷◌, Some, None}
use Rattle.wasm_tree.specs.declared.module.ImportDesc.TheVariants as import
use Rattle.wasm_tree.specs.declared.module.ExportDesc.TheVariants as export
use Rattle.wasm_tree_spec.specs.Prelude.{Func, Module, Instr}
use Rattle.wasm_names.specs.declared.func_name.FuncName.{FuncName}
use Rattle.split_plan.specs.declared.fault.PlanFault.TheVariants.{NoSuchFunction, AmbiguousFunction, KeptAndSplit}
use Rattle.split_plan.specs.NamedFunctions.{function_of}
use Rattle.split_plan.specs.PlannedMoves.{plan_fault, plan_of}

abbrev func : List Instr → Func
func body = record { ty = 0; locals = []; body = body }

-- Function 0 is imported, function 1 does nothing, function 2 does nothing and is exported as `g`.
abbrev small : Module
small = record {
  types = record { params = []; results = [] } ∷ [];
  imports = record { «module» = 0x6D ∷ []; field = 0x66 ∷ []; desc = import.Func 0 } ∷ [];
  funcs = func [] ∷ func [] ∷ [];
  tables = [];
  mems = [];
  globals = [];
  exports = record { name = 0x67 ∷ []; desc = export.Func 2 } ∷ record { name = 0x69 ∷ []; desc = export.Func 0 } ∷ [];
  start = None;
  elems = [];
  datas = [];
}

abbrev called : ℕ → ℕ → FuncName
called index letter = record { index = index; name = letter ∷ [] }

-- The name `i` is of the imported function 0, `a` of function 1, and `s` of both defined functions.
abbrev names : List FuncName
names = called 0 0x69 ∷ called 1 0x61 ∷ called 1 0x73 ∷ called 2 0x73 ∷ called 9 0x6E ∷ []

abbrev word : ℕ → List ℕ
word letter = letter ∷ []

by_name : function_of small names (word 0x61) ≡ Some 1
by_name = refl

-- A word that is no name of a function names the defined function that is exported under it.
by_export : function_of small names (word 0x67) ≡ Some 2
by_export = refl

-- A word never names an imported function, even one that is exported.
no_import : plan_fault small names (Some (word 0x61 ∷ word 0x69 ∷ [])) None ≡ Some (NoSuchFunction (word 0x69))
no_import = refl

not_there : plan_fault small names (Some (word 0x6E ∷ [])) None ≡ Some (NoSuchFunction (word 0x6E))
not_there = refl

-- Faults of words to split are reported before those of words to keep, and both before a function
-- that is kept and split.
in_order : plan_fault small names (Some (word 0x61 ∷ word 0x73 ∷ [])) (Some (word 0x69 ∷ word 0x61 ∷ [])) ≡ Some (AmbiguousFunction (word 0x73))
in_order = refl

keep_too : plan_fault small names (Some (word 0x61 ∷ [])) (Some (word 0x61 ∷ word 0x69 ∷ [])) ≡ Some (NoSuchFunction (word 0x69))
keep_too = refl

both_ways : plan_fault small names (Some (word 0x67 ∷ word 0x61 ∷ [])) (Some (word 0x61 ∷ [])) ≡ Some (KeptAndSplit (word 0x61))
both_ways = refl

-- The functions that the words to split name move, in the order of their indices.
moved : plan_of small names (Some (word 0x67 ∷ word 0x61 ∷ word 0x67 ∷ [])) None ≡ record { moved = 1 ∷ 2 ∷ []; kept = [] }
moved = refl

-- Without words to split, each defined function moves that no word to keep names.
others : plan_of small names None (Some (word 0x61 ∷ [])) ≡ record { moved = 2 ∷ []; kept = [] }
others = refl
