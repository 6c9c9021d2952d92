-- A small module whose constructor sets a global to -1. The constant of that value in the snapshot
-- has a sign; without it the number is out of range.
use Rattle.base_lists.proofs.Common.{◌≡◌, refl, arith, pos, negsuc, List, [], ◌∷◌, Bool, true, Some, None, ints}
use Rattle.wasm_num.specs.Operations.{W32, signed, wrapped}
use Rattle.wasm_tree_spec.specs.Prelude.{I32, FuncType, GlobalType, Instr, fold_out-Instr, Module, all_pass_step}
use Rattle.wasm_tree.specs.declared.instr.Instr.{out-Instr}
use Rattle.wasm_tree.specs.declared.instr.Instr.TheVariants as i
use Rattle.wasm_tree.specs.declared.module.ConstExpr.TheVariants as const
use Rattle.wasm_tree.specs.declared.module.ExportDesc.TheVariants as ex
use Rattle.wasm_meaning.specs.Prelude.{Text, Num, Code}
use Rattle.wasm_write_proof.specs.Ranges.{all_in_range, number_step, small_operand}
use Rattle.wasm_valid_proof.specs.Numbers.{ConstNumberInRange}
use Rattle.eval_spec.specs.Prelude.{State, Finished, evaluated, own_inst, value_of_global}
use Rattle.eval_snapshot_proof.specs.Ranges.{BeginsInRange}
use Rattle.eval_snapshot_spec.specs.After.{IsAfter}
use Rattle.eval_snapshot_spec.specs.Evaluated.{funcs_named}

abbrev nothing : FuncType
nothing = record { params = []; results = [] }

abbrev mutable_i32 : GlobalType
mutable_i32 = record { ty = I32; mutable = true }

abbrev body : List Instr
body = i.I32Const (negsuc 0) ∷ i.GlobalSet 0 ∷ []

abbrev name : Text
name = 97 ∷ []

abbrev sets : Module
sets = record {
  types = nothing ∷ [];
  imports = [];
  funcs = record { ty = 0; locals = []; body = body } ∷ [];
  tables = [];
  mems = [];
  globals = record { ty = mutable_i32; init = const.I32 (pos 0) } ∷ [];
  exports = record { name = name; desc = ex.Func 0 } ∷ [];
  start = None;
  elems = [];
  datas = [];
}

abbrev end : State
end = record {
  store = record { funcs = Code nothing (own_inst sets) [] body ∷ []; tables = []; mems = []; globals = record { ty = mutable_i32; value = Num W32 4294967295 } ∷ []; elems = []; datas = [] };
  unknown = record { globals = []; slots = []; items = [] };
  written = [];
  turns = 49999998;
}

its_end : evaluated sets (funcs_named sets (name ∷ [])) ≡ Finished end
unfolding out-Instr denote.Hole.Carrier.out wrapped
its_end = refl

is_after : IsAfter sets (name ∷ []) end
is_after = record { named = refl; end = end; quiet = its_end; told = record { globals = λ n. refl; bytes = refl; dropped = λ n. refl } }

begins : BeginsInRange sets
begins = record { tables = tt; datas = tt }

body_in_range : all_in_range body ≡ true
unfolding out-Instr denote.Hole.Carrier.out
body_in_range = simp (fold_out-Instr Bool (all_pass_step small_operand), fold_out-Instr Bool number_step) refl

its_constant : value_of_global sets end 0 ≡ Some (const.I32 (negsuc 0))
unfolding signed
its_constant = refl

in_range : ConstNumberInRange (const.I32 (negsuc 0))
in_range = (omega (arith, ints), omega (arith, ints))

without_its_sign : ConstNumberInRange (const.I32 (pos 4294967295)) → ⊥
without_its_sign h = let below = h.1 in omega (arith, ints, below)
