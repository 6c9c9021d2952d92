-- The store that instantiation leaves in the quiet run, which has the one module alone.
use Rattle.base_lists.proofs.Common.{subst, refl, false, same_Some, and_then_is, ◌≡◌}
use Rattle.wasm_tree_spec.specs.Prelude.{Module}
use Rattle.wasm_meaning.specs.Prelude.{Added, const_value, store_with}
use Rattle.world_simulation.specs.InstantiatedStores.{Leaves}
use Rattle.world_simulation.specs.SegmentCopies.{OwnSegmentsLeave}
use Rattle.eval_spec.specs.Prelude.{State, imported_store, own_inst, value_in}
use Rattle.eval_proof.specs.QuietInstantiations.{InstantiatedAs}

pub quiet_leaves : OwnSegmentsLeave → (m : Module) (s : State) → InstantiatedAs m s → Leaves (value_in m) m (own_inst m) (imported_store m) s.store
quiet_leaves leave m s q =
    let i = own_inst m in
    let value = const_value (imported_store m).globals i in
    let t = and_then_is (store_with value m i) _ q.added q.is in
    let same = same_Some _ _ t.2 in
    subst (λ x. Leaves value m i (imported_store m) x) q.store
    (subst (λ (a : Added). a.filled.trapped ≡ false → Leaves value m i (imported_store m) a.filled.store) same
    (leave value m i (imported_store m) t.0 t.1 refl refl) q.untrapped)
