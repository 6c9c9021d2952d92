use Rattle.base_lists.proofs.Common.{◌≡◌, refl, map, rules, arith, string_bytes, Some, Err, IfErr-weaker}
use Rattle.tools_cli_decide.specs.Prelude.{task_value}
use Rattle.tools_cli.specs.Writes.{write_entries}
use Rattle.tools_cli_spec.specs.Prelude.{task_of, HostState}
use Rattle.tools_cli.specs.Causes.{StopsFinishing}
use Rattle.tools_cli.specs.Work.{StopsWork}
use Rattle.tools_cli.proofs.Running.{words_at, changes_from_cut, prints_from_lines, ends_done, finish_stops, prepare_stops, has_no_lines}
use Rattle.tools_cli.proofs.FaithfulEnds.{on_ok, words_read}
use Rattle.tools_cli.proofs.work.run_command.Goals as goal

pub returns-clause-files : goal.returns-clause-files
returns-clause-files g c =
    let asked : task_of (map string_bytes c.args.words.now) ≡ Some (task_value c.in-Some.task) = search rules in
    changes_from_cut _ _ _ _ _ _ asked c.in_ok-plan.ensures.plan (rw c.prepare.ensures.stays at c.finish.ensures.cut)

pub returns-clause-prints : goal.returns-clause-prints
returns-clause-prints g c =
    let asked : task_of (map string_bytes c.args.words.now) ≡ Some (task_value c.in-Some.task) = search rules in
    prints_from_lines _ _ _ _ _ _ _ _ asked c.in_ok-plan.ensures.plan (rw c.prepare.ensures.stays at c.finish.ensures.prints)

pub returns-clause-done : goal.returns-clause-done
returns-clause-done g c =
    let asked : task_of (map string_bytes c.args.words.now) ≡ Some (task_value c.in-Some.task) = search rules in
    ends_done c.finish.result _ _ _ _ _ _ _ _ asked c.in_ok-plan.ensures.plan (rw c.prepare.ensures.stays at c.finish.ensures.done) c.finish.ensures.printed

pub returns-clause-stops : goal.returns-clause-stops
returns-clause-stops g c =
    let words = map string_bytes c.args.words.now in
    let t = task_value c.in-Some.task in
    let entries = write_entries c.in_ok-plan.plan.writes.items in
    let asked : task_of words ≡ Some t = search rules in
    let old : HostState = record { files = g.F.Files.contents c.args.files.now; reads = g.F.Files.read_faults c.args.files.now; writes = g.F.Files.write_faults c.args.files.now; out = g.O.Sink.bytes c.args.out.now; out_faults = g.O.Sink.faults c.args.out.now } in
    let new : HostState = record { files = g.F.Files.contents c.finish.new.files; reads = g.F.Files.read_faults c.finish.new.files; writes = g.F.Files.write_faults c.finish.new.files; out = g.O.Sink.bytes c.finish.new.out; out_faults = g.O.Sink.faults c.finish.new.out } in
    IfErr-weaker c.finish.result
    (StopsFinishing (g.F.Files.write_faults c.prepare.new.files) new.writes old.out_faults new.out_faults old.files new.files old.out new.out entries)
    (StopsWork words old new)
    (λ s. finish_stops words t old new (g.F.Files.write_faults c.prepare.new.files) entries c.in_ok-plan.plan.lines.items s asked c.prepare.ensures.writes c.in_ok-plan.ensures.plan c.in_ok-plan.ensures.outputs)
    (rw c.prepare.ensures.stays at c.finish.ensures.stops)

pub returns-in_err-plan-clause-stops : goal.returns-in_err-plan-clause-stops
returns-in_err-plan-clause-stops g c =
    let words = map string_bytes c.args.words.now in
    let t = task_value c.in-Some.task in
    let asked : task_of words ≡ Some t = search rules in
    let old : HostState = record { files = g.F.Files.contents c.args.files.now; reads = g.F.Files.read_faults c.args.files.now; writes = g.F.Files.write_faults c.args.files.now; out = g.O.Sink.bytes c.args.out.now; out_faults = g.O.Sink.faults c.args.out.now } in
    let new : HostState = record { files = g.F.Files.contents c.prepare.new.files; reads = g.F.Files.read_faults c.prepare.new.files; writes = g.F.Files.write_faults c.prepare.new.files; out = g.O.Sink.bytes c.args.out.now; out_faults = g.O.Sink.faults c.args.out.now } in
    let stop = c.in_err-plan.field-0.0 in
    let gone : c.from_residual-in_err-plan.result ≡ Err stop = grind arith in
    rw gone (prepare_stops words t old new stop asked c.prepare.ensures.stays refl c.in_err-plan.ensures.stops)

pub returns-clause-no_lines : goal.returns-clause-no_lines
returns-clause-no_lines g c nothing =
    let asked : task_of (map string_bytes c.args.words.now) ≡ Some (task_value c.in-Some.task) = search rules in
    c.finish.ensures.silent (has_no_lines _ _ _ asked c.in_ok-plan.ensures.lines nothing)

pub returns-clause-bytes : goal.returns-clause-bytes
returns-clause-bytes g c =
    let asked : task_of (map string_bytes c.args.words.now) ≡ Some (task_value c.in-Some.task) = search rules in
    on_ok c.finish.result (words_read (g.F.Files.contents c.args.files.now) (map string_bytes c.args.words.now) (task_value c.in-Some.task) asked c.in_ok-plan.ensures.bytes)

pub returns-clause-inputs : goal.returns-clause-inputs
returns-clause-inputs g c =
    let asked : task_of (map string_bytes c.args.words.now) ≡ Some (task_value c.in-Some.task) = search rules in
    on_ok c.finish.result (words_at (g.F.Files.contents c.args.files.now) (map string_bytes c.args.words.now) (task_value c.in-Some.task) asked c.in_ok-plan.ensures.inputs)
