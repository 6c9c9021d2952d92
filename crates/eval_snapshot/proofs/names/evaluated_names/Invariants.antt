use Rattle.base_lists.proofs.Common.{◌≡◌, List, ℕ, take, cond, Some, None, get_by, nat_cmp, slice_cmp}
use Rattle.eval_snapshot_spec.specs.Snapshot.{is_among_names}
use Rattle.eval_snapshot.proofs.names.evaluated_names.Given as goal

abbrev pub invariant-loop-name : goal.invariant-loop-name
invariant-loop-name l = (name : List ℕ) → get_by (λ k. slice_cmp nat_cmp name k.now) l.all ≡ cond (is_among_names (take l.name-index l.evaluated) name) (Some (is_among_names l.fn.kept name)) None
