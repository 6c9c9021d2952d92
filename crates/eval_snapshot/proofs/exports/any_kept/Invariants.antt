use Rattle.base_lists.proofs.Common.{◌≡◌, drop, List, list_any}
use Rattle.wasm_meaning.specs.Prelude.{Text}
use Rattle.eval_snapshot_spec.specs.Snapshot.{is_kept}
use Rattle.eval_snapshot.specs.Names.{HasEvaluated}
use Rattle.eval_snapshot.proofs.exports.any_kept.Given as goal

abbrev pub invariant-loop-export : goal.invariant-loop-export
invariant-loop-export l = (evaluated kept : List Text) → HasEvaluated evaluated kept l.names → list_any (λ e. is_kept evaluated kept e.name) l.exports ≡ list_any (λ e. is_kept evaluated kept e.name) (drop l.export-index l.exports)
