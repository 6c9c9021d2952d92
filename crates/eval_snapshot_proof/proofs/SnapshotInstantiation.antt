-- The snapshot is instantiated in each environment in which the module with one more function is,
-- and none of its segments traps.
use Rattle.base_lists.proofs.Common.{◌≡◌, ◌∙◌, sym, ap, refl, subst, ℕ, zero, suc, ◌+◌, List, [], ◌∷◌, ◌++◌, map, length, false, cond, Option, Some, ⊎_elim, arith, slice_get, length-append, same_Some, all_there_at, and_then_is, append_from, map_from, length-map}
use Rattle.base_lists.specs.Options.{◌>>=◌}
use Rattle.wasm_tree_spec.specs.Prelude.{Tables, ConstExpr, ElemMode, ElemSeg, DataSeg, Module, tables_of}
use Rattle.wasm_tree.specs.declared.module.ElemMode.TheVariants as elem
use Rattle.wasm_meaning.specs.Prelude.{Text, Inst, RefVal, Val, Table, Elem, Store, ref_of, Environment, own_memories, own_tables, Filled, all_there, and_then, elem_with, joined_stores, new_elem, own_count, own_store, part_store, segments}
use Rattle.index_remap_proof.specs.Indices.{ElemModeNamesOnly, TreeNamesOnly, with_entry}
use Rattle.world_simulation.specs.Prelude.{one, new_memory, new_table, Adds, IsInst, last_segments, new_data}
use Rattle.world_simulation.specs.InstantiatedStores.{Copy, Leaves, all_over, data_copies, elem_copies, elem_copy, table_left}
use Rattle.world_simulation.proofs.SegmentCopies.{all_stay}
use Rattle.world_simulation.specs.SegmentCopies.{AreOf, IsOf, SegmentsAloneRunAsCopies, memories, runs, tables}
use Rattle.eval_spec.specs.Prelude.{State}
use Rattle.eval_snapshot_spec.specs.Snapshot.{snapshot}
use Rattle.world_simulation.specs.ConstantValues.{ConstantsAloneReadTheEnvironment}
use Rattle.eval_snapshot_proof.specs.EvaluatedWorlds.{with_empty_func}
use Rattle.eval_snapshot_proof.proofs.RelatedInstances.{first_value, second_value, table_shared}
use Rattle.eval_snapshot_proof.proofs.NamedIndices.{below, each_index}
use Rattle.eval_snapshot_proof.proofs.RelatedElementCopies.{copies_same, segments_name}
use Rattle.eval_snapshot_proof.proofs.RelatedDataCopies.{AreBytesOf, all, all_is, bytes, second_are_of, second_fits, second_goes}
use Rattle.eval_snapshot_proof.proofs.FittingSegments.{Fit, GoesSomewhere, runs_fit}
use Rattle.eval_snapshot_proof.proofs.QuietSegments.{IsQuietlyMade}
use Rattle.eval_snapshot_proof.proofs.SnapshotParts.{refs, shape}

module _ (constants : ConstantsAloneReadTheEnvironment) (env : Environment) (m : Module) (s : State) (name : Text) (names kept : List Text) (i j : Inst) (a : IsInst env (one (with_empty_func m)) 0 (with_empty_func m) i)
    (b : IsInst env (one (snapshot m s (name ∷ names) kept)) 0 (snapshot m s (name ∷ names) kept) j)
    (made : IsQuietlyMade m) (named : TreeNamesOnly (with_entry (each_index m)) m) (are : AreBytesOf m (bytes env m s name names kept i j a b made named)) where
  abbrev first : Module
  first = with_empty_func m

  abbrev second : Module
  second = snapshot m s (name ∷ names) kept

  abbrev value : ConstExpr → Option Val
  value = first_value env m s name names kept i j a b

  abbrev again : ConstExpr → Option Val
  again = second_value env m s name names kept i j a b

  abbrev cs : List (Copy RefVal)
  cs = elem_copies again j second.elems

  module _ (after : Store) (left : Leaves value first i (own_store env) after) (z : Store) (z_is : part_store env (one second) (j ∷ []) 0 second j ≡ Some z) where
    abbrev start : Store
    start = joined_stores (own_store env) z

    added : Adds env (one second) (j ∷ []) 0 second j z
    added = search (arith, z_is)

    -- ---- element segments ----

    elem_is_of : (e : ElemSeg) (mode : ElemMode) (y : Elem) (items : List RefVal) → all_there (λ x. again x >>= ref_of) e.items ≡ Some items → Some (new_elem mode items) ≡ Some y →
        IsOf tables (elem_copy again j e mode) y
    elem_is_of e (elem.Active x offset) y items h same = h ∙ ap (λ (y : Elem). Some y.items) (same_Some _ _ same)
    elem_is_of e elem.Passive y items h same = tt
    elem_is_of e elem.Declarative y items h same = tt

    elems_are_of : AreOf tables start 0 cs
    elems_are_of n c h =
        let e = map_from (λ e. elem_copy again j e e.mode) second.elems n c h in
        let y = all_there_at (elem_with again) second.elems z.elems added.elems n e.0 e.1 in
        let r = and_then_is (all_there (λ x. again x >>= ref_of) e.0.items) _ y.0 y.1 in
        let at : 0 + n ≡ n = omega arith in
        (y.0, ap (slice_get start.elems) at ∙ y.2, subst (λ c. IsOf tables c y.0) e.2 (elem_is_of e.0 e.0.mode y.0 r.0 r.1 r.2))

    tables_are : start.tables ≡ own_tables env ++ map new_table m.tables
    tables_are = ap (λ ts. own_tables env ++ ts) (added.tables ∙ ap (map new_table) (shape m s name names kept).tables)

    goes_by : (e : ElemSeg) (mode : ElemMode) → ElemModeNamesOnly (with_entry (each_index m)) mode → GoesSomewhere tables start (elem_copy again j e mode)
    goes_by e (elem.Active x offset) h =
        let o = table_shared env m s name names kept i j a b x (below (length (tables_of m)) x h.0) in
        let size = ap length tables_are ∙ length-append (own_tables env) (map new_table m.tables) in
        let many = length-map m.tables new_table in
        let low = o.low in
        (o.address, o.second, omega (arith, size, many, low))
    goes_by e elem.Passive h = tt
    goes_by e elem.Declarative h = tt

    goes_last : (fs : List ℕ) (n : ℕ) (e : ElemSeg) → slice_get (last_segments fs) n ≡ Some e → e.mode ≡ elem.Declarative
    goes_last [] n e h = absurd (let k = h in cc)
    goes_last (f ∷ fs) zero e h = ap (λ (e : ElemSeg). e.mode) (sym (same_Some _ _ h))
    goes_last (f ∷ fs) (suc n) e h = absurd (let k = h in cc)

    elems_go : (n : ℕ) (c : Copy RefVal) → slice_get cs n ≡ Some c → GoesSomewhere tables start c
    elems_go n c h =
        let e = map_from (λ e. elem_copy again j e e.mode) second.elems n c h in
        subst (GoesSomewhere tables start) e.2 (⊎_elim
        (λ old. goes_by e.0 e.0.mode (segments_name m named n e.0 old).1)
        (λ new. subst (λ mode. GoesSomewhere tables start (elem_copy again j e.0 mode)) (sym (goes_last (refs m s name names kept) new.0 e.0 new.2)) tt)
        (append_from m.elems (last_segments (refs m s name names kept)) n e.0 (ap (λ l. slice_get l n) (sym (shape m s name names kept).elems) ∙ e.1)))

    over_there : (address : ℕ) (x : Table) (o : Table) → table_left x (all_over address (elem_copies value i m.elems) x.slots) ≡ Some o → (xs : List RefVal) × (all_over address cs x.slots ≡ Some xs)
    over_there address x o h =
        let r = and_then_is (all_over address (elem_copies value i m.elems) x.slots) _ o h in (
          r.0,
          ap (λ es. all_over address (elem_copies again j es) x.slots) (shape m s name names kept).elems
              ∙ copies_same constants env m s name names kept i j a b address (refs m s name names kept) m.elems (segments_name m named) x.slots ∙ r.1,
        )

    elems_fit : Fit tables start cs
    elems_fit address c h = ⊎_elim
        (λ old. let x = left.earlier_tables address c old in over_there address c x.0 x.1)
        (λ new.
        let l = map_from new_table m.tables new.0 c new.2 in
        let x = left.tables new.0 l.0 l.1 in
        let y = over_there (own_count Tables env + new.0) (new_table l.0) x.0 x.1 in
        (y.0, ap (λ k. all_over k cs c.slots) new.1 ∙ ap (λ (c : Table). all_over (own_count Tables env + new.0) cs c.slots) (sym l.2) ∙ y.1))
        (append_from (own_tables env) (map new_table m.tables) address c (ap (λ l. slice_get l address) (sym tables_are) ∙ h))

    elems_went : (runs tables start 0 cs).trapped ≡ false
    elems_went = runs_fit tables cs start 0 elems_are_of elems_go elems_fit

    -- ---- data segments ----

    abbrev half : Store
    half = (runs tables start 0 cs).store

    abbrev contents_of : List DataSeg
    contents_of = all env m s name names kept i j a b made named are

    mems_are : half.mems ≡ own_memories env ++ map new_memory m.mems
    mems_are = all_stay tables (λ s. s.mems) (λ s a c. refl) (λ s n. refl) cs start 0 elems_went ∙ ap (λ ms. own_memories env ++ ms) (added.mems ∙ ap (map new_memory) (shape m s name names kept).mems)

    datas_are : half.datas ≡ map new_data contents_of
    datas_are = all_stay tables (λ s. s.datas) (λ s a c. refl) (λ s n. refl) cs start 0 elems_went ∙ added.datas ∙ ap (map new_data) (all_is env m s name names kept i j a b made named are)

    datas_went : (runs memories half 0 (data_copies again j second.datas)).trapped ≡ false
    datas_went = ap (λ ds. (runs memories half 0 (data_copies again j ds)).trapped) (all_is env m s name names kept i j a b made named are)
        ∙ runs_fit memories (data_copies again j contents_of) half 0 (second_are_of env m s name names kept i j a b made named are half mems_are datas_are)
        (second_goes env m s name names kept i j a b made named are half mems_are datas_are) (second_fits env m s name names kept i j a b made named are half mems_are datas_are)

    both_went : (f : Filled) (g : Store → Filled) → f.trapped ≡ false → (g f.store).trapped ≡ false → (and_then f g).trapped ≡ false
    both_went f g h k = ap (λ b. (cond b f (g f.store)).trapped) h ∙ k

    pub untrapped : SegmentsAloneRunAsCopies → (segments env (one second) (j ∷ []) start).trapped ≡ false
    untrapped run_alone =
        ap (λ (f : Filled). f.trapped) (run_alone env second j 0 0 b.elems b.datas start) ∙ both_went (runs tables start 0 cs) (λ s. runs memories s 0 (data_copies again j second.datas)) elems_went datas_went
