use Rattle.std.specs.Prelude.{◌∷◌}
use Rattle.eval_snapshot_proof.proofs.NamedIndices.{NamingLaws}
use Rattle.eval_snapshot_proof.proofs.InstantiatedStores.{both_instantiated}
use Rattle.eval_snapshot_proof.proofs.QuietRuns.{quiet_run}
use Rattle.eval_snapshot_proof.proofs.QuietStarts.{start_is}
use Rattle.eval_snapshot_proof.proofs.behaves.quiet_runs_are_the_machines.Goals as goal

pub returns : goal.returns
returns c =
    let calls = c.quiet_steps_are_known.ensures.calls in
    let lead = c.quiet_calls_simulate.ensures.simulate in
    let off = c.steps_agree_off_unknown_places.ensures in
    let reached = c.quiet_runs_end.ensures.reached in
    let typing = c.renumbering_keeps_typing.ensures in
    let places = c.index_spaces_list_imports_and_definitions.ensures in
    let naming : NamingLaws = record { entries = typing.tree_entries; named = typing.tree_named; spaces = places.spaces; indices = places.indices } in
    let made = c.corresponding_worlds_have_equal_traces.ensures.made in
    record {
      machines = λ m name names kept t valid none quiet env is linked.
          let b = both_instantiated naming made env m name names kept t valid none quiet linked in
          let r = quiet_run calls lead off.steps off.runs reached env m (name ∷ names) kept t b quiet in
          r.machines;
      starts = λ m t valid quiet env is linked. start_is calls lead off.steps off.runs reached naming env m t made valid quiet linked;
    }
