use Rattle.dce_spec.specs.Reached.{marks_of}
use Rattle.tools_cli_decide.proofs.MetadceDecided.{sweep_fails}
use Rattle.tools_cli_decide.proofs.sweeping.sweep_by.Goals as goal

pub returns-in_ok-refuse_sweep-in-Err-clause-stops : goal.returns-in_ok-refuse_sweep-in-Err-clause-stops
returns-in_ok-refuse_sweep-in-Err-clause-stops c = sweep_fails (marks_of c.args.marks.now) c.args.module _ c.in-Err.fault c.in-Err.ensures.fault c.in_ok-refuse_sweep-in-Err.ensures
