-- Two wrong secondary modules, for which it is false that the secondary module always loads: one
-- imports what the primary module does not export, and a segment of the other one traps.
use Rattle.base_lists.proofs.Common.{◌≡◌, ◌∙◌, refl, sym, subst, ℕ, List, [], ◌∷◌, true, Option, Some, None, slice_get, pos, codes}
use Rattle.std.specs.Fmt.{digits}
use Rattle.wasm_tree.specs.declared.instr.Instr.{out-Instr}
use Rattle.wasm_num.specs.Operations.{wrapped}
use Rattle.wasm_tree_spec.specs.Prelude.{Module}
use Rattle.wasm_meaning.specs.Prelude.{Store, Inst, LoaderWorld, LoaderRun, Secondary, Added, Move, Call}
use Rattle.wasm_meaning.specs.Loader.{secondary_added}
use Rattle.split_proof.specs.SplitLaws.{AlwaysLoads, CanBeLoaded}
use Rattle.tools_cli_spec.specs.Faithful.{written_pair}
use Rattle.wasm_tree.specs.declared.module.ConstExpr.TheVariants as const
use Rattle.wasm_tree.specs.declared.module.ElemMode.TheVariants as elem
use Rattle.wasm_tree.specs.declared.module.ImportDesc.TheVariants as im
use Rattle.wasm_tree.specs.declared.types.RefType.TheVariants.{Func as func_ref}
use Rattle.tools_cli_spec.proofs.FaithfulRows.{a, f, asking, with, import, splitting, keeping, moving, offering, f_moves}

abbrev added_under : LoaderWorld → Inst → Module → Store → Option Added
added_under w i m s = secondary_added w.import_namespace w.primary i m s

-- Where a module is not added to the store, or traps when it is added, it cannot be loaded.
not_linked : (w : LoaderWorld) (q : LoaderRun) (j : ℕ) (s : Store) (i : Inst) (l : Secondary) → q.inst ≡ Some i → slice_get w.secondaries j ≡ Some l → added_under w i l.«module» s ≡ None → CanBeLoaded w q j s → ⊥
not_linked w q j s i l inst found none c =
    let both : Some i ≡ Some c.inst = sym inst ∙ c.is_inst in
    let same : i ≡ c.inst = cc in
    let two : Some l ≡ Some c.loads = sym found ∙ c.is_secondary in
    let one : l ≡ c.loads = cc in
    let links = c.links in
    let here : added_under w c.inst c.loads.«module» s ≡ None = subst (λ (x : Inst). added_under w x c.loads.«module» s ≡ None) same (subst (λ (x : Secondary). added_under w i x.«module» s ≡ None) one none) in
    cc

traps : (w : LoaderWorld) (q : LoaderRun) (j : ℕ) (s : Store) (i : Inst) (l : Secondary) (d : Added) → q.inst ≡ Some i → slice_get w.secondaries j ≡ Some l → added_under w i l.«module» s ≡ Some d → d.filled.trapped ≡ true → CanBeLoaded w q j s → ⊥
traps w q j s i l d inst found some trapped c =
    let both : Some i ≡ Some c.inst = sym inst ∙ c.is_inst in
    let same : i ≡ c.inst = cc in
    let two : Some l ≡ Some c.loads = sym found ∙ c.is_secondary in
    let one : l ≡ c.loads = cc in
    let here : added_under w c.inst c.loads.«module» s ≡ Some d = subst (λ (x : Inst). added_under w x c.loads.«module» s ≡ Some d) same (subst (λ (x : Secondary). added_under w i x.«module» s ≡ Some d) one some) in
    let three : Some d ≡ Some c.added = sym here ∙ c.links in
    let last : d ≡ c.added = cc in
    let fills = c.fills in
    let over : c.added.filled.trapped ≡ true = subst (λ (x : Added). x.filled.trapped ≡ true) last trapped in
    cc

-- The secondary module imports a function that the primary module does not export.
abbrev unlinked : Module
unlinked = record (moving asking) { imports = import a (codes "%f1") (im.Func 1) ∷ [] }

-- The segment of the secondary module lies past the end of the table of slots.
abbrev overlong : Module
overlong = record (moving asking) { elems = record { mode = elem.Active 0 (const.I32 (pos 1)); ty = func_ref; items = const.Func 1 ∷ [] } ∷ [] }

abbrev f_is_called : List Move
f_is_called = Call f [] ∷ []

a_pair_that_does_not_link_is_refused : AlwaysLoads (written_pair splitting (with asking) [] unlinked keeping) → ⊥
unfolding out-Instr denote.Hole.Carrier.out wrapped digits
a_pair_that_does_not_link_is_refused = rw f_moves (λ h. not_linked _ _ 0 _ _ _ refl refl refl (h offering refl f_is_called 4 _ _ _ _ _ refl 0 refl refl))

a_pair_whose_segment_traps_is_refused : AlwaysLoads (written_pair splitting (with asking) [] overlong keeping) → ⊥
unfolding out-Instr denote.Hole.Carrier.out wrapped digits
a_pair_whose_segment_traps_is_refused = rw f_moves (λ h. traps _ _ 0 _ _ _ _ refl refl refl refl (h offering refl f_is_called 4 _ _ _ _ _ refl 0 refl refl))
