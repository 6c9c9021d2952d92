-- The parts of the snapshot of a module, and the number of addresses of each index space that it
-- shares with the module in an environment.
use Rattle.base_lists.proofs.Common.{◌≡◌, ◌∙◌, ap, sym, refl, ℕ, suc, ◌+◌, ◌≤◌, List, [], ◌∷◌, length, Bool, true, false, cond, arith, list_any, append-nil, length-append}
use Rattle.wasm_tree_spec.specs.Prelude.{any_uses_data, Space, Types, Functions, Tables, Memories, Globals, ElementSegments, DataSegments, Func, GlobalDef, Module, imported_globals}
use Rattle.wasm_meaning.specs.Prelude.{Text, Environment, own_count}
use Rattle.index_remap.specs.Prelude.{declared_refs, with_declared}
use Rattle.world_simulation.specs.Prelude.{IsWithDeclared, last_segments}
use Rattle.eval_spec.specs.Prelude.{State}
use Rattle.eval_snapshot_spec.specs.Snapshot.{added_funcs, declared_snapshot, empty_func, globals_left, is_kept, memory_segments, old_segments, segments_left, snapshot, snapshot_tree}
use Rattle.eval_snapshot_proof.specs.GlobalsAndSegments.{AsManySegmentsAreLeft}

module _ (m : Module) (s : State) where
  globals_many : (n : ℕ) (gs : List GlobalDef) → length (globals_left m s n gs) ≡ length gs
  globals_many n [] = refl
  globals_many n (g ∷ gs) = ap suc (globals_many (suc n) gs)

module _ (m : Module) (s : State) (name : Text) (names kept : List Text) where
  -- The snapshot before its references are declared.
  abbrev pub plain : Module
  plain = snapshot_tree m s (name ∷ names) kept

  abbrev taken : Module
  taken = snapshot m s (name ∷ names) kept

  abbrev pub refs : List ℕ
  refs = declared_refs plain

  abbrev pub more : List Func
  more = added_funcs m (name ∷ names) kept

  pub shape : IsWithDeclared plain taken refs
  unfolding declared_snapshot
  shape = by refs
    where
      by : (fs : List ℕ) → IsWithDeclared plain (with_declared plain fs) fs
      by [] = assumption (sym (append-nil plain.elems))
      by (f ∷ fs) = assumption

  pub funcs_many : length taken.funcs ≡ length m.funcs + length more
  funcs_many = ap length shape.funcs ∙ length-append m.funcs more

  pub more_few : length more ≤ 1
  more_few = by (list_any (λ e. is_kept (name ∷ names) kept e.name) m.exports)
    where
      by : (b : Bool) → length (cond b (empty_func m ∷ []) []) ≤ 1
      by true = omega arith
      by false = omega arith

  pub left_globals_many : length taken.globals ≡ length m.globals
  left_globals_many = ap length shape.globals ∙ globals_many m s (length (imported_globals m.imports)) m.globals

  pub elems_more : length m.elems ≤ length taken.elems
  elems_more = let e : length taken.elems ≡ length m.elems + length (last_segments refs) = ap length shape.elems ∙ length-append m.elems (last_segments refs) in omega (arith, e)

  pub datas_more : AsManySegmentsAreLeft → any_uses_data m.funcs ≡ true → length m.datas ≤ length taken.datas
  datas_more none_lost uses =
      let e : length taken.datas ≡ length (old_segments m s) + length (memory_segments m s) = ap length shape.datas ∙ length-append (old_segments m s) (memory_segments m s) in
      let f : length (old_segments m s) ≡ length m.datas = ap (λ b. length (cond b (segments_left s 0 m.datas) [])) uses ∙ none_lost s 0 m.datas in
      omega (arith, e, f)

  -- The addresses of each index space that the module and the snapshot share are those below this
  -- bound. The data segments of the module are shared if code names any.
  abbrev pub bound : Environment → Space → ℕ
  bound env Types = 0
  bound env Functions = own_count Functions env + length taken.funcs
  bound env Tables = own_count Tables env + length m.tables
  bound env Memories = own_count Memories env + length m.mems
  bound env Globals = own_count Globals env + length m.globals
  bound env ElementSegments = length m.elems
  bound env DataSegments = cond (any_uses_data m.funcs) (length m.datas) 0

  pub room : (env : Environment) (k : Space) → own_count k env ≤ bound env k
  room env Types = omega arith
  room env Functions = omega arith
  room env Tables = omega arith
  room env Memories = omega arith
  room env Globals = omega arith
  room env ElementSegments = omega arith
  room env DataSegments = omega arith
