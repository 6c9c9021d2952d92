use Rattle.base_lists.proofs.Common.{◌∙◌, ap, ap₂, sym, refl, subst, append-nil, List, ◌++◌, ◌≤◌, length}
use Rattle.wasm_tree_spec.specs.Prelude.{DataSeg, Module}
use Rattle.eval_machine.specs.Prelude.{state_in}
use Rattle.eval_snapshot_spec.specs.Contents.{contents}
use Rattle.eval_snapshot_spec.specs.Snapshot.{old_segments}
use Rattle.eval_snapshot.proofs.MemoryBytes.{no_segments, small_memory}
use Rattle.eval_snapshot.proofs.tree.put_segments.Goals as goal

pub add_contents-requires : goal.add_contents-requires
add_contents-requires c =
    let m = c.args.tree.now in
    let k = c.args.machine.now in
    record { small = subst (λ bs. length bs ≤ 4294967296) (sym (c.in-Some.ensures.bytes m c.requires.fits)) (small_memory m k ((c.valid_where_items_hold.ensures m).0 c.requires.valid) c.requires.fits) }

pub returns-in_ok-add_contents : goal.returns-in_ok-add_contents
returns-in_ok-add_contents c =
    let m = c.args.tree.now in
    let old = old_segments m (state_in m c.args.machine.now) in
    let behind = contents c.imported_memories-imported.result c.in-Some.paged.now.now.bytes in
    ap {A = Module} (λ t. record t { datas = c.add_contents.new.segments }) c.leave_segments.ensures
    ∙ ap {A = List DataSeg} {B = Module} (λ ds. record m { datas = ds })
    (c.in_ok-add_contents.ensures ∙ ap (λ t. t.datas ++ behind) c.leave_segments.ensures ∙ ap₂ (λ n bs. old ++ contents n bs) c.imported_memories-imported.ensures.value (c.in-Some.ensures.bytes m c.requires.fits))

pub returns-in_default : goal.returns-in_default
returns-in_default c =
    let m = c.args.tree.now in
    let k = c.args.machine.now in
    let old = old_segments m (state_in m k) in
    let none = no_segments m k ((c.in_default.ensures.none m c.requires.fits).0 refl) in
    c.leave_segments.ensures ∙ ap {A = List DataSeg} {B = Module} (λ ds. record m { datas = ds }) (sym (ap (λ ds. old ++ ds) none ∙ append-nil old))
