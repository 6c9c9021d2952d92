-- Functions, tables and element segments of a module and of its snapshot, each alone in an
-- environment: those at the same address in both are related.
use Rattle.base_lists.proofs.Common.{◌≡◌, ◌∙◌, sym, ap, refl, subst, ℕ, ◌+◌, ◌-◌, ◌<◌, List, Some, inl, inr, ⊎_elim, arith, slice_get, ◌∷◌, cases_lt, same_Some, and_then_is, append_at_left, append_from, slice_get_there, copies_rel, get_rel, both_at, opt_both}
use Rattle.wasm_tree_spec.specs.Prelude.{Functions, Tables, ElementSegments, Module}
use Rattle.wasm_tree.specs.declared.module.Func as tree
use Rattle.wasm_meaning.specs.Prelude.{Text, Inst, Table, Store, null_of, Environment, own_funcs, own_tables, own_count, own_store}
use Rattle.run_simulation.specs.Prelude.{Pairing, BothRel, CodeRel, end, ListRel, RefRel, FuncRel, TableRel, ElemRel}
use Rattle.index_remap_proof.specs.Indices.{TreeNamesOnly, with_entry}
use Rattle.world_simulation.specs.Prelude.{one, FuncsCorrespond, new_table, IsInst, last_segments}
use Rattle.world_simulation.specs.InstantiatedStores.{Leaves, Stands, all_over, elem_copies, table_left}
use Rattle.world_simulation.proofs.EnvironmentEntities.{null_rel, own_funcs_rel, own_tables_rel}
use Rattle.world_simulation.proofs.AllocatedStores.{func_rel}
use Rattle.eval_spec.specs.Prelude.{State}
use Rattle.eval_snapshot_spec.specs.Snapshot.{snapshot}
use Rattle.eval_snapshot_proof.specs.EvaluatedWorlds.{with_empty_func}
use Rattle.eval_snapshot_proof.proofs.RelatedInstances.{SnapshotLaws, R, code_same, enough, first_value, second_value}
use Rattle.eval_snapshot_proof.proofs.NamedIndices.{each_index}
use Rattle.eval_snapshot_proof.proofs.RelatedElementCopies.{copies_itself, copies_same, left_itself, left_same, segments_name}
use Rattle.eval_snapshot_proof.proofs.SharedAddresses.{shares_own}
use Rattle.eval_snapshot_proof.proofs.SnapshotParts.{more, refs, shape, bound}
use Rattle.eval_snapshot_proof.proofs.SnapshotAllocation.{func_also, last_place}

module _ (laws : SnapshotLaws) (env : Environment) (m : Module) (s : State) (name : Text) (names kept : List Text) (i j : Inst) (a : IsInst env (one (with_empty_func m)) 0 (with_empty_func m) i)
    (b : IsInst env (one (snapshot m s (name ∷ names) kept)) 0 (snapshot m s (name ∷ names) kept) j)
    (named : TreeNamesOnly (with_entry (each_index m)) m) (x y : Store) (left : Leaves (first_value env m s name names kept i j a b) (with_empty_func m) i (own_store env) x)
    (right : Leaves (second_value env m s name names kept i j a b) (snapshot m s (name ∷ names) kept) j (own_store env) y) where
  abbrev first : Module
  first = with_empty_func m

  abbrev second : Module
  second = snapshot m s (name ∷ names) kept

  abbrev Q : Pairing
  Q = R env m s name names kept

  -- ---- functions ----

  code_alike : (n : ℕ) (f : tree.Func) → slice_get second.funcs n ≡ Some f → CodeRel Q i j f.body f.body
  code_alike n f h = ⊎_elim
      (λ old. code_same env m s name names kept i j a b laws named n f old)
      (λ new. subst (λ (f : tree.Func). CodeRel Q i j f.body f.body) (last_place env m s name names kept i a new.0 f new.2).1 end)
      (append_from m.funcs (more m s name names kept) n f (ap (λ l. slice_get l n) (sym (shape m s name names kept).funcs) ∙ h))

  pub funcs_alike : (n : ℕ) → n < bound m s name names kept env Functions → BothRel (FuncRel Q) (slice_get x.funcs n) (slice_get y.funcs n)
  funcs_alike n lt = elim (cases_lt n (own_count Functions env)) [
    | inl own ↦
        let f = slice_get_there (own_funcs env) n own in
        both_at x.funcs y.funcs n n f.0 f.0 (left.earlier_funcs n f.0 f.1) (right.earlier_funcs n f.0 f.1) (opt_both (get_rel (own_funcs_rel Q env) n) f.1 f.1)
    | inr le ↦
        let k = n - own_count Functions env in
        let n_is : n ≡ own_count Functions env + k = omega (arith, le) in
        let f = slice_get_there second.funcs k (omega (arith, n_is, lt)) in
        let p = left.funcs k f.0 (func_also env m s name names kept i a k f.0 f.1) in
        let q = right.funcs k f.0 f.1 in
        let types : i.types ≡ j.types = a.types ∙ sym (shape m s name names kept).types ∙ sym b.types in
        let same : FuncsCorrespond Q i j f.0 f.0 = record { type = ap (λ ts. slice_get ts f.0.ty) types; locals = refl; code = code_alike k f.0 f.1 } in
        both_at x.funcs y.funcs n n p.0 q.0 (ap (slice_get x.funcs) n_is ∙ p.2) (ap (slice_get y.funcs) n_is ∙ q.2) (opt_both (func_rel Q same) p.1 q.1)
  ]

  -- ---- tables ----

  table_alike : (n : ℕ) (u : Table) → ListRel (RefRel Q) u.slots u.slots →
      Stands x.tables n (table_left u (all_over n (elem_copies (first_value env m s name names kept i j a b) i m.elems) u.slots)) →
      Stands y.tables n (table_left u (all_over n (elem_copies (second_value env m s name names kept i j a b) j second.elems) u.slots)) →
      BothRel (TableRel Q) (slice_get x.tables n) (slice_get y.tables n)
  table_alike n u r p q =
      let same = ap (λ es. all_over n (elem_copies (second_value env m s name names kept i j a b) j es) u.slots) (shape m s name names kept).elems
      ∙ copies_same laws.constants env m s name names kept i j a b n (refs m s name names kept) m.elems (segments_name m named) u.slots in
      let one_table : q.0 ≡ p.0 = same_Some _ _ (sym q.1 ∙ ap (table_left u) same ∙ p.1) in
      let zs = and_then_is (all_over n (elem_copies (first_value env m s name names kept i j a b) i m.elems) u.slots) _ p.0 p.1 in
      let slots = copies_itself laws.constants env m s name names kept i j a b n m.elems (segments_name m named) u.slots zs.0 r zs.1 in
      let itself : TableRel Q (record u { slots = zs.0 }) (record u { slots = zs.0 }) = record { type = refl; most = refl; slots = slots } in
      both_at x.tables y.tables n n p.0 p.0 p.2 (q.2 ∙ ap Some one_table) (subst (λ z. TableRel Q z z) (same_Some _ _ zs.2) itself)

  pub tables_alike : (n : ℕ) → n < bound m s name names kept env Tables → BothRel (TableRel Q) (slice_get x.tables n) (slice_get y.tables n)
  tables_alike n lt = elim (cases_lt n (own_count Tables env)) [
    | inl own ↦
        let u = slice_get_there (own_tables env) n own in
        let r = opt_both (get_rel (own_tables_rel Q env (shares_own (bound m s name names kept env) env (enough env m s name names kept))) n) u.1 u.1 in
        table_alike n u.0 r.slots (left.earlier_tables n u.0 u.1) (right.earlier_tables n u.0 u.1)
    | inr le ↦
        let k = n - own_count Tables env in
        let n_is : own_count Tables env + k ≡ n = omega (arith, le) in
        let l = slice_get_there m.tables k (omega (arith, n_is, lt)) in
        let again : slice_get second.tables k ≡ Some l.0 = ap (λ ts. slice_get ts k) (shape m s name names kept).tables ∙ l.1 in
        subst (λ n. BothRel (TableRel Q) (slice_get x.tables n) (slice_get y.tables n)) n_is
        (table_alike (own_count Tables env + k) (new_table l.0) (copies_rel (null_of l.0.ty) (null_of l.0.ty) l.0.limits.min (null_rel Q l.0.ty)) (left.tables k l.0 l.1) (right.tables k l.0 again))
  ]

  -- ---- element segments ----

  pub elems_alike : (n : ℕ) → n < bound m s name names kept env ElementSegments → BothRel (ElemRel Q) (slice_get x.elems n) (slice_get y.elems n)
  elems_alike n lt =
      let e = slice_get_there m.elems n lt in
      let again : slice_get second.elems n ≡ Some e.0 = ap (λ l. slice_get l n) (shape m s name names kept).elems ∙ append_at_left m.elems (last_segments (refs m s name names kept)) n e.0 e.1 in
      let p = left.elems n e.0 e.1 in
      let q = right.elems n e.0 again in
      let items = (segments_name m named n e.0 e.1).0 in
      let z : n ≡ 0 + n = omega arith in
      let one_elem : q.0 ≡ p.0 = same_Some _ _ (sym q.1 ∙ sym (left_same laws.constants env m s name names kept i j a b e.0 e.0.mode items) ∙ p.1) in
      both_at x.elems y.elems n n p.0 p.0 (ap (slice_get x.elems) z ∙ p.2) (ap (slice_get y.elems) z ∙ q.2 ∙ ap Some one_elem) (left_itself laws.constants env m s name names kept i j a b e.0 e.0.mode p.0 items p.1)
