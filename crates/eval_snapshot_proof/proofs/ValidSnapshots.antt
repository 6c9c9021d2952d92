-- A snapshot is valid and bounded, and it has no additional memory.
use Rattle.base_lists.proofs.Common.{◌≡◌, sym, subst, refl, ℕ, ◌+◌, ◌^◌, ◌<◌, ◌≤◌, List, [], ◌∷◌, length, map, Some, None, true, slice_get, arith, ⊎_elim, length-append, length-map, filter_map_most}
use Rattle.wasm_tree_spec.specs.Prelude.{FuncType, Func, Module, IsBounded, local_count, param_count, func_of, funcs_of, imported_funcs}
use Rattle.wasm_valid.specs.Prelude.{IsSingle, IsValid, ItemsHold, ValidWhereItemsHold}
use Rattle.wasm_meaning.specs.Prelude.{Text}
use Rattle.module_limits.specs.Counts.{CountsAreWithin, CountsAreWithinWhereNoneIsOver, over_limit}
use Rattle.index_remap.specs.Prelude.{declared, declared_refs, declaring, with_declared}
use Rattle.index_remap_proof.specs.ButForReferences.{IsValidButForReferences}
use Rattle.eval_spec.specs.Prelude.{State, takes_and_gives_nothing}
use Rattle.eval_snapshot_spec.specs.Snapshot.{declared_snapshot, empty_func, export_left, snapshot, snapshot_tree, too_much}
use Rattle.eval_snapshot_proof.specs.GlobalsAndSegments.{CodeLaws}
use Rattle.eval_snapshot_proof.specs.SuitableStates.{HasEmptyType, HasEmptyTypeFor, Suits}
use Rattle.eval_snapshot_proof.proofs.SnapshotItems.{added_type, func_from, globals_are, items_hold}

-- The laws of other crates that the lemmas below use.
pub record Laws : Type 0 where
  pub code : CodeLaws
  pub items : ValidWhereItemsHold
  pub valid : (t : Module) → IsValidButForReferences t → IsValid (declared t)
  pub single : (t : Module) → IsSingle t → IsSingle (declared t)
  pub bounded : (t : Module) → IsBounded t → length t.elems + 1 < 2 ^ 32 → IsBounded (declared t)
  pub within : CountsAreWithinWhereNoneIsOver

-- ---- declaring adds an element segment, at most ----

-- The counts of a module compared with those of the module with declared functions.
record Beside (t d : Module) : Type 0 where
  imports : length d.imports ≡ length t.imports
  funcs : length d.funcs ≡ length t.funcs
  elems : length t.elems ≤ length d.elems
  datas : length d.datas ≡ length t.datas

beside : (t : Module) (fs : List ℕ) → Beside t (with_declared t fs)
beside t [] = record { imports = refl; funcs = refl; elems = omega arith; datas = refl }
beside t (f ∷ fs) = record { imports = refl; funcs = refl; elems = (let n = length-append t.elems (declaring (f ∷ fs) ∷ []) in omega (arith, n)); datas = refl }

module _ (laws : Laws) (m : Module) (s : State) (evaluated kept : List Text) (valid : IsValid m) (suits : Suits m s) (has_empty : HasEmptyType m) where
  abbrev u : Module
  u = snapshot_tree m s evaluated kept

  abbrev holds : ItemsHold m
  holds = (laws.items m).0 valid

  snapshot_valid : IsValid (declared_snapshot m s evaluated kept)
  unfolding declared_snapshot
  snapshot_valid = laws.valid u (items_hold laws.code m s evaluated kept holds suits has_empty)

  -- The parameters and locals of a function of the snapshot are those of a function of the module,
  -- or it has none.
  locals_few : IsBounded m → (j : ℕ) (f : Func) → slice_get u.funcs j ≡ Some f → local_count m.types f < 2 ^ 32
  locals_few few j f at = ⊎_elim (λ h. few.locals j f h) (λ h. subst (λ g. local_count m.types g < 2 ^ 32) (sym h) none) (func_from laws.code m s evaluated kept holds suits has_empty j f at)
    where
      no_params : (t : FuncType) → takes_and_gives_nothing t ≡ true → length t.params ≡ 0
      no_params t h = grind (arith, h)

      none : local_count m.types (empty_func m) < 2 ^ 32
      none =
          let t = added_type laws.code m s evaluated kept holds suits has_empty in
          let zero = no_params t.0 t.2 in
          subst (λ o. param_count o + 0 < 2 ^ 32) (sym t.1) (omega (arith, zero))

  tree_bounded : IsBounded m → CountsAreWithin (declared u) → IsBounded u
  tree_bounded few most =
      let funcs = most.funcs in
      let datas = most.datas in
      let elems = most.elems in
      let imports = most.imports in
      let counts = beside u (declared_refs u) in
      let same_f = counts.funcs in
      let same_d = counts.datas in
      let same_i = counts.imports in
      let fewer = counts.elems in
      let all = length-append (imported_funcs m.imports) (map (λ f. f.ty) u.funcs) in
      let own = length-map u.funcs (λ f. f.ty) in
      let some = filter_map_most (λ i. func_of i.desc) m.imports in
      let exports = filter_map_most (export_left evaluated kept (length (funcs_of m))) m.exports in
      let old = few.exports in
      record {
        types = few.types;
        imports = few.imports;
        funcs = omega (arith, funcs, same_f, imports, same_i, all, own, some);
        tables = few.tables;
        memories = few.memories;
        globals = subst (λ gs. length gs < 2 ^ 32) (sym (globals_are laws.code m s evaluated kept holds suits has_empty)) few.globals;
        exports = omega (arith, exports, old);
        elems = omega (arith, elems, fewer);
        datas = omega (arith, datas, same_d);
        locals = locals_few few;
      }

  snapshot_bounded : IsBounded m → over_limit (declared_snapshot m s evaluated kept) ≡ None → IsBounded (declared_snapshot m s evaluated kept)
  unfolding declared_snapshot
  snapshot_bounded few none =
      let most = laws.within (declared u) none in
      let elems = most.elems in
      let fewer = (beside u (declared_refs u)).elems in
      laws.bounded u (tree_bounded few most) (omega (arith, elems, fewer))

module _ (laws : Laws) (m : Module) (s : State) (kept : List Text) where
  pub valid_in_all : (evaluated : List Text) → IsValid m → Suits m s → HasEmptyTypeFor m evaluated → IsValid (snapshot m s evaluated kept)
  valid_in_all [] valid suits has = valid
  valid_in_all (name ∷ names) valid suits has = snapshot_valid laws m s (name ∷ names) kept valid suits has

  pub single_in_all : (evaluated : List Text) → IsSingle m → IsSingle (snapshot m s evaluated kept)
  unfolding declared_snapshot
  single_in_all [] one = one
  single_in_all (name ∷ names) one = laws.single (snapshot_tree m s (name ∷ names) kept) one

  pub bounded_in_all : (evaluated : List Text) → IsValid m → Suits m s → HasEmptyTypeFor m evaluated → IsBounded m → too_much m s evaluated kept ≡ None → IsBounded (snapshot m s evaluated kept)
  bounded_in_all [] valid suits has few none = few
  bounded_in_all (name ∷ names) valid suits has few none = snapshot_bounded laws m s (name ∷ names) kept valid suits has few none
