use Rattle.std.proofs.Common.{inr, refl, map, string_bytes, subst, Result}
use Rattle.tools_cli_spec.specs.Run.{HostState}
use Rattle.tools_cli.specs.Work.{IsUsage}
use Rattle.tools_cli_decide.specs.declared.stop.Stop.{Stop}
use Rattle.tools_cli.proofs.Running.{done_status, usage_told, no_stop_is_done, refusal_told, usage_at_stop, says_nothing, says_a_line, outside_cause, complete_at_stop}
use Rattle.tools_cli.proofs.FaithfulEnds.{end_is_faithful}
use Rattle.tools_cli.proofs.FaithfulEnds.{strings_are_text}
use Rattle.tools_cli.proofs.top.run.Goals as goal

pub returns-in-Ok-clause-faithful : goal.returns-in-Ok-clause-faithful
returns-in-Ok-clause-faithful g c is =
    end_is_faithful c.done_jobs_are_faithful.ensures.faithful (g.F.Files.contents c.args.files.now) (g.F.Files.contents c.run_command.new.files) (map string_bytes c.args.words.now) (g.O.Sink.bytes c.args.out.now) (g.O.Sink.bytes c.run_command.new.out)
    (λ split asked. strings_are_text c.args.words.now) c.in-Ok.ensures.bytes c.in-Ok.ensures.done

pub returns-in-Ok-clause-complete : goal.returns-in-Ok-clause-complete
returns-in-Ok-clause-complete g c =
    inr (inr (done_status c.jobs_are_determined.ensures (map string_bytes c.args.words.now) (g.F.Files.contents c.args.files.now) (g.F.Files.contents c.run_command.new.files) (g.O.Sink.bytes c.args.out.now) (g.O.Sink.bytes c.run_command.new.out) _
    c.in-Ok.ensures.inputs c.in-Ok.ensures.done refl))

pub returns-in-Ok-clause-says : goal.returns-in-Ok-clause-says
returns-in-Ok-clause-says g c = says_nothing _

pub returns-clause-says : goal.returns-clause-says
returns-clause-says g c =
    let old : HostState = record { files = g.F.Files.contents c.args.files.now; reads = g.F.Files.read_faults c.args.files.now; writes = g.F.Files.write_faults c.args.files.now; out = g.O.Sink.bytes c.args.out.now; out_faults = g.O.Sink.faults c.args.out.now } in
    let new : HostState = record { files = g.F.Files.contents c.run_command.new.files; reads = g.F.Files.read_faults c.run_command.new.files; writes = g.F.Files.write_faults c.run_command.new.files; out = g.O.Sink.bytes c.run_command.new.out; out_faults = g.O.Sink.faults c.run_command.new.out } in
    says_a_line (map string_bytes c.args.words.now) old new c.in-Err.stop _ _ c.in-Err.ensures.stops c.report.ensures.prefix

pub returns-clause-outside : goal.returns-clause-outside
returns-clause-outside g c is =
    let old : HostState = record { files = g.F.Files.contents c.args.files.now; reads = g.F.Files.read_faults c.args.files.now; writes = g.F.Files.write_faults c.args.files.now; out = g.O.Sink.bytes c.args.out.now; out_faults = g.O.Sink.faults c.args.out.now } in
    let new : HostState = record { files = g.F.Files.contents c.run_command.new.files; reads = g.F.Files.read_faults c.run_command.new.files; writes = g.F.Files.write_faults c.run_command.new.files; out = g.O.Sink.bytes c.run_command.new.out; out_faults = g.O.Sink.faults c.run_command.new.out } in
    outside_cause (map string_bytes c.args.words.now) old new c.in-Err.stop _ _ _ _ c.report.result c.in-Err.ensures.stops c.report.ensures.reports is

pub returns-clause-complete : goal.returns-clause-complete
returns-clause-complete g c =
    let old : HostState = record { files = g.F.Files.contents c.args.files.now; reads = g.F.Files.read_faults c.args.files.now; writes = g.F.Files.write_faults c.args.files.now; out = g.O.Sink.bytes c.args.out.now; out_faults = g.O.Sink.faults c.args.out.now } in
    let new : HostState = record { files = g.F.Files.contents c.run_command.new.files; reads = g.F.Files.read_faults c.run_command.new.files; writes = g.F.Files.write_faults c.run_command.new.files; out = g.O.Sink.bytes c.run_command.new.out; out_faults = g.O.Sink.faults c.run_command.new.out } in
    complete_at_stop c.jobs_are_determined.ensures (map string_bytes c.args.words.now) old new c.in-Err.stop _ _ _ _ c.report.result c.in-Err.ensures.stops c.report.ensures.reports

pub returns-clause-no_task : goal.returns-clause-no_task
returns-clause-no_task g c none =
    let P = λ (r : Result (Unit {0}) Stop). IsUsage r in
    usage_at_stop c.in-Err.stop _ _ _ _ c.report.result (subst P c.in-Err.is (c.run_command.ensures.no_task none)) c.report.ensures.reports

pub returns-clause-usage : goal.returns-clause-usage
returns-clause-usage g c is =
    let old : HostState = record { files = g.F.Files.contents c.args.files.now; reads = g.F.Files.read_faults c.args.files.now; writes = g.F.Files.write_faults c.args.files.now; out = g.O.Sink.bytes c.args.out.now; out_faults = g.O.Sink.faults c.args.out.now } in
    let new : HostState = record { files = g.F.Files.contents c.run_command.new.files; reads = g.F.Files.read_faults c.run_command.new.files; writes = g.F.Files.write_faults c.run_command.new.files; out = g.O.Sink.bytes c.run_command.new.out; out_faults = g.O.Sink.faults c.run_command.new.out } in
    usage_told (map string_bytes c.args.words.now) old new c.in-Err.stop _ _ _ _ c.report.result c.in-Err.ensures.stops c.report.ensures.reports is

pub returns-clause-done : goal.returns-clause-done
returns-clause-done g c is = absurd (no_stop_is_done c.in-Err.stop _ _ _ _ c.report.result c.report.ensures.reports is)

pub returns-clause-refused : goal.returns-clause-refused
returns-clause-refused g c is =
    let old : HostState = record { files = g.F.Files.contents c.args.files.now; reads = g.F.Files.read_faults c.args.files.now; writes = g.F.Files.write_faults c.args.files.now; out = g.O.Sink.bytes c.args.out.now; out_faults = g.O.Sink.faults c.args.out.now } in
    let new : HostState = record { files = g.F.Files.contents c.run_command.new.files; reads = g.F.Files.read_faults c.run_command.new.files; writes = g.F.Files.write_faults c.run_command.new.files; out = g.O.Sink.bytes c.run_command.new.out; out_faults = g.O.Sink.faults c.run_command.new.out } in
    refusal_told (map string_bytes c.args.words.now) old new c.in-Err.stop _ _ _ _ c.report.result c.in-Err.ensures.stops c.report.ensures.reports is
