use Rattle.run_simulation.specs.Laws.{passed_with}
use Rattle.run_simulation.proofs.EntryByEntryRuns.{ticks_together}
use Rattle.run_simulation.proofs.EqualTraces.{together, same_events}
use Rattle.run_simulation.proofs.related_runs_have_equal_traces.Goals as goal

pub returns : goal.returns
returns c = record {
  events = λ of apart r q h n. same_events of apart n r q h;
  steps = λ of apart r q h. (together of apart r q h).out;
  unrelated = λ of apart r q h begun. let o = together of apart r q h in (o.second begun, o.first begun);
  opaque = λ of named l stands apart r q h skips known. ticks_together (passed_with of named l stands) apart r q h skips known;
}
