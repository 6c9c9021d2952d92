use Rattle.std.proofs.Common.{◌∙◌, ap, sym, subst, inr}
use Rattle.wasm_tree.specs.Bounds.{IsBounded}
use Rattle.wasm_valid.specs.Validity.{IsValid}
use Rattle.module_limits.specs.Counts.{over_limit}
use Rattle.eval_machine.specs.Kept.{state_in}
use Rattle.eval_snapshot_spec.specs.Snapshot.{snapshot}
use Rattle.eval_snapshot_proof.specs.SuitableStates.{Suits}
use Rattle.eval_snapshot_proof.specs.Ranges.{BeginsInRange}
use Rattle.eval_snapshot_proof.specs.EquivalenceLaws.{ObservationallyEquivalent}
use Rattle.eval_snapshot.specs.Outcome.{outcome}
use Rattle.eval_snapshot.proofs.MemoryBytes.{no_bytes}
use Rattle.eval_snapshot.proofs.Parts.{of_same}
use Rattle.eval_snapshot.proofs.snapshots.snapshot.Goals as goal

pub known-requires-clause-valid : goal.known-requires-clause-valid
known-requires-clause-valid c =
    let k = c.args.machine.now in
    let m = c.args.input in
    let s = state_in m k in
    let evaluated = c.args.evaluated.now in
    let kept = c.args.kept.now in
    let made = of_same m c.into_module.result c.in_ok-made.made k evaluated c.as_slice.result.now kept c.as_slice-2.result.now c.in_ok-made.ensures.tree c.into_module.ensures.value c.as_slice.ensures c.as_slice-2.ensures in
    let valid = subst IsValid c.into_module.ensures.value c.into_module.ensures.valid in
    let suits : Suits m s = record { globals = c.evaluated_states_suit.ensures.typed m evaluated s valid c.requires.after; memory = no_bytes m k } in
    subst IsValid (sym made) (c.snapshots_are_valid.ensures.valid m s evaluated kept valid suits (c.evaluated_states_suit.ensures.empty_type m evaluated s c.requires.after))

pub known-requires-clause-bounded : goal.known-requires-clause-bounded
known-requires-clause-bounded c =
    let k = c.args.machine.now in
    let m = c.args.input in
    let s = state_in m k in
    let evaluated = c.args.evaluated.now in
    let kept = c.args.kept.now in
    let made = of_same m c.into_module.result c.in_ok-made.made k evaluated c.as_slice.result.now kept c.as_slice-2.result.now c.in_ok-made.ensures.tree c.into_module.ensures.value c.as_slice.ensures c.as_slice-2.ensures in
    let valid = subst IsValid c.into_module.ensures.value c.into_module.ensures.valid in
    let bounded = subst IsBounded c.into_module.ensures.value c.into_module.ensures.bounded in
    let suits : Suits m s = record { globals = c.evaluated_states_suit.ensures.typed m evaluated s valid c.requires.after; memory = no_bytes m k } in
    subst IsBounded (sym made)
    (c.snapshots_are_valid.ensures.bounded m s evaluated kept valid suits (c.evaluated_states_suit.ensures.empty_type m evaluated s c.requires.after) bounded (ap over_limit (sym made) ∙ sym c.in-None.ensures))

pub returns-in-Some-clause-fault : goal.returns-in-Some-clause-fault
returns-in-Some-clause-fault c =
    let k = c.args.machine.now in
    let m = c.args.input in
    let evaluated = c.args.evaluated.now in
    let kept = c.args.kept.now in
    let made = of_same m c.into_module.result c.in_ok-made.made k evaluated c.as_slice.result.now kept c.as_slice-2.result.now c.in_ok-made.ensures.tree c.into_module.ensures.value c.as_slice.ensures c.as_slice-2.ensures in
    inr (ap (λ o. outcome o (snapshot m (state_in m k) evaluated kept)) (ap over_limit (sym made) ∙ sym c.in-Some.ensures))

pub returns-in-None-clause-behaves : goal.returns-in-None-clause-behaves
returns-in-None-clause-behaves c =
    let k = c.args.machine.now in
    let m = c.args.input in
    let s = state_in m k in
    let evaluated = c.args.evaluated.now in
    let kept = c.args.kept.now in
    let made = of_same m c.into_module.result c.in_ok-made.made k evaluated c.as_slice.result.now kept c.as_slice-2.result.now c.in_ok-made.ensures.tree c.into_module.ensures.value c.as_slice.ensures c.as_slice-2.ensures in
    let valid = subst IsValid c.into_module.ensures.value c.into_module.ensures.valid in
    let begins = subst BeginsInRange c.module.ensures.value c.begins_in_range.ensures in
    subst (ObservationallyEquivalent m evaluated kept) (sym (c.known.ensures ∙ made)) (c.snapshot_equivalent.ensures.equivalent m evaluated kept s valid begins c.requires.after)
