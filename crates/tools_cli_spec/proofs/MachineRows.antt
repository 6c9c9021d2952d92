-- What the claim that constructors are evaluated as by the machine says of a small module, and of one
-- of which it is refuted.
use Rattle.base_lists.proofs.Common.{◌≡◌, ◌∙◌, ap, sym, refl, option_map, ℕ, pos, List, [], ◌∷◌, Some, None, true, same_Some}
use Rattle.wasm_tree.specs.declared.instr.Instr.{out-Instr}
use Rattle.wasm_tree.specs.declared.instr.Instr.TheVariants as i
use Rattle.wasm_tree.specs.declared.module.ConstExpr.TheVariants as const
use Rattle.wasm_tree.specs.declared.module.ExportDesc.TheVariants as ex
use Rattle.wasm_tree_spec.specs.Prelude.{I32, GlobalType, Instr, Module}
use Rattle.wasm_num.specs.Operations.{W32, wrapped}
use Rattle.wasm_meaning.specs.Prelude.{Text, Num, Global, Begun, own_store}
use Rattle.eval_spec.specs.Prelude.{State, Finished, evaluated, state_of}
use Rattle.eval_snapshot_proof.specs.EvaluatedWorlds.{evaluated_begun}
use Rattle.eval_snapshot_proof.specs.QuietRunAddresses.{EnvironmentStays, IsTheMachines}
use Rattle.tools_cli_spec.specs.Trees.{EvaluatedAsByTheMachine}

abbrev a : Text
a = 97 ∷ []

abbrev mutable_i32 : GlobalType
mutable_i32 = record { ty = I32; mutable = true }

-- A module with a global, whose function a has this body.
abbrev does : List Instr → Module
does body = record {
  types = record { params = []; results = [] } ∷ [];
  imports = [];
  funcs = record { ty = 0; locals = []; body = body } ∷ [];
  tables = [];
  mems = [];
  globals = record { ty = mutable_i32; init = const.I32 (pos 0) } ∷ [];
  exports = record { name = a; desc = ex.Func 0 } ∷ [];
  start = None;
  elems = [];
  datas = [];
}

abbrev sets : Module
sets = does (i.I32Const (pos 7) ∷ i.GlobalSet 0 ∷ [])

abbrev seven : List Global
seven = record { ty = mutable_i32; value = Num W32 7 } ∷ []

its_state : option_map (λ (s : State). s.store.globals) (state_of (evaluated sets (0 ∷ []))) ≡ Some seven
unfolding out-Instr denote.Hole.Carrier.out wrapped
its_state = refl

-- The state is that of the evaluation, and the machine leaves it in an environment.
pub record IsSeven (end : State) : Type 0 where
  pub globals : end.store.globals ≡ seven
  pub machines : IsTheMachines [] sets (a ∷ []) [] end

it_is_seven : EvaluatedAsByTheMachine sets (a ∷ []) [] → (end : State) × IsSeven end
it_is_seven h = (h.0, record { globals = same_Some _ _ (ap (λ t. option_map (λ (s : State). s.store.globals) (state_of t)) (sym h.1) ∙ its_state); machines = h.2 [] refl refl })

-- Wrong: a constructor that traps is evaluated.
trapping_is_refused : ¬ EvaluatedAsByTheMachine (does (i.Unreachable ∷ [])) (a ∷ []) []
unfolding out-Instr denote.Hole.Carrier.out
trapping_is_refused h = let f = ap state_of h.1 in cc
