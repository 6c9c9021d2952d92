-- How a snapshot is computed in parts: whether its code names data segments and functions is
-- computed separately, by a fold of the code.
use Rattle.base_lists.proofs.Common.{◌≡◌, ◌∙◌, ap, Bool, List, [], ◌∷◌, ◌++◌, length, take, cond, Option, Some, None}
use Rattle.std.proofs.Common.{filter_map}
use Rattle.wasm_tree_spec.specs.Prelude.{Module, any_uses_data, imported_globals, funcs_of}
use Rattle.wasm_meaning.specs.Prelude.{Text}
use Rattle.index_remap.specs.Prelude.{declared}
use Rattle.eval_spec.specs.Prelude.{State, state_at_end}
use Rattle.eval_snapshot_spec.specs.Snapshot.{added_funcs, declared_snapshot, export_left, globals_left, memory_segments, segments_left, snapshot_tree}
use Rattle.eval_snapshot_spec.specs.Evaluated.{evaluated_count, evaluated_tree, funcs_named, tree_in}

-- The tree of the snapshot, where it is given whether a body names a data segment.
abbrev tree_where : Bool → Module → State → (evaluated kept : List Text) → Module
tree_where names m s evaluated kept =
    record m {
      funcs = m.funcs ++ added_funcs m evaluated kept;
      globals = globals_left m s (length (imported_globals m.imports)) m.globals;
      exports = filter_map (export_left evaluated kept (length (funcs_of m))) m.exports;
      start = None;
      datas = cond names (segments_left s 0 m.datas) [] ++ memory_segments m s;
    }

abbrev pub tree_in_where : Bool → Module → Option State → (evaluated kept : List Text) → Option Module
tree_in_where names m None evaluated kept = None
tree_in_where names m (Some s) evaluated kept = Some (tree_where names m s evaluated kept)

module _ (m : Module) (name : Text) (names kept : List Text) (uses : Bool) (t u : Module) (used : any_uses_data m.funcs ≡ uses) (refs : declared t ≡ u) where
  in_state : (o : Option State) → tree_in_where uses m o (name ∷ names) kept ≡ Some t → tree_in m (name ∷ names) kept o ≡ u
  unfolding declared_snapshot
  in_state None e = absurd (let f = e in cc)
  in_state (Some s) e =
      let same : tree_where uses m s (name ∷ names) kept ≡ t = cc in
      let here : snapshot_tree m s (name ∷ names) kept ≡ tree_where uses m s (name ∷ names) kept = ap (λ b. tree_where b m s (name ∷ names) kept) used in
      ap declared (here ∙ same) ∙ refs

  pub made : (ctors : List Text) → take (evaluated_count m ctors) ctors ≡ name ∷ names → tree_in_where uses m (state_at_end m (funcs_named m ctors)) (name ∷ names) kept ≡ Some t → evaluated_tree m ctors kept ≡ u
  made ctors count e = ap (λ ns. tree_in m ns kept (state_at_end m (funcs_named m ctors))) count ∙ in_state (state_at_end m (funcs_named m ctors)) e
