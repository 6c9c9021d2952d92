-- Each index space with a state that steps may write has the addresses of the imports first, and
-- then consecutive addresses of the definitions, in the instance of a module with additional
-- functions.
use Rattle.base_lists.proofs.Common.{◌≡◌, ◌∙◌, sym, ap, refl, arith, ◌++◌, length, List, [], Some, true, true≢false, and_then_is, all_there_length}
use Rattle.base_lists.specs.Places.{numbers}
use Rattle.wasm_tree_spec.specs.Prelude.{Space, Types, Functions, Tables, Memories, Globals, ElementSegments, DataSegments, Module}
use Rattle.wasm_tree.specs.declared.module.Func as tree
use Rattle.wasm_meaning.specs.Prelude.{Inst, imports_of, Environment, defined_count, own_count, own_tables, own_memories, own_globals, space}
use Rattle.run_simulation.specs.Prelude.{is_written}
use Rattle.world_simulation.specs.Prelude.{addresses, import_places, one, IsInst}
use Rattle.eval_snapshot_proof.specs.QuietRunAddresses.{addresses_in}
use Rattle.eval_snapshot_proof.proofs.AddedFunctions.{space_from, with_funcs}
use Rattle.eval_snapshot_proof.proofs.IndexRelation.{InARow}

module _ (env : Environment) (m : Module) (fs : List tree.Func) (i : Inst) (is : IsInst env (one (with_funcs m fs)) 0 (with_funcs m fs) i) where
  in_space : (k : Space) → imports_of k (with_funcs m fs) ≡ imports_of k m → space env (one (with_funcs m fs)) k 0 (with_funcs m fs) ≡ Some (addresses_in i k) → InARow m i k
  in_space k same h =
      let t = with_funcs m fs in
      let x = and_then_is (addresses env t.types t.imports k) _ (addresses_in i k) (sym (space_from env t k _ refl) ∙ h) in
      let all : x.0 ++ numbers (own_count k env) (defined_count k t) ≡ addresses_in i k = cc in
      record { imported = x.0; many = let size = all_there_length _ (import_places k t.imports) x.0 x.1 ∙ ap length same in omega (arith, size); base = own_count k env; count = defined_count k t; all = sym all }

  pub rows : (k : Space) → is_written k ≡ true → InARow m i k
  rows Functions w = absurd (true≢false (sym w))
  rows Types w = record { imported = []; many = omega arith; base = 0; count = 0; all = refl }
  rows Tables w = in_space Tables refl is.tables
  rows Memories w = in_space Memories refl is.mems
  rows Globals w = in_space Globals refl is.globals
  rows ElementSegments w = record { imported = []; many = omega arith; base = 0; count = length m.elems; all = is.elems }
  rows DataSegments w = record { imported = []; many = omega arith; base = 0; count = length m.datas; all = is.datas }

  -- What a module defines comes after what the environment owns.
  pub bases : ((rows Tables refl).base ≡ length (own_tables env)) × ((rows Memories refl).base ≡ length (own_memories env)) × ((rows Globals refl).base ≡ length (own_globals env))
  unfolding rows in_space
  bases = (refl, refl, refl)
