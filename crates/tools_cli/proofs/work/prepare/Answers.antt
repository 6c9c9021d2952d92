use Rattle.base_lists.proofs.Common.{◌≡◌, rules, IfSome, Some, None, Err, arith, IfOk-weaker, IfErr-weaker}
use Rattle.base_lists.specs.Every.{Every}
use Rattle.wasm_bytes.specs.Prelude.{IsBytes}
use Rattle.tools_cli_spec.specs.Prelude.{NamedFile, Text, inputs_of, written_names, InputsJob, TaskJob, Done, Refused, Whole, gathered, refused_before, most_input}
use Rattle.tools_cli_decide.specs.Prelude.{task_value, input_entries, refusal_text, StopsWith}
use Rattle.tools_cli.specs.Writes.{write_entries}
use Rattle.tools_cli.specs.Causes.{PrintsAsAllowed}
use Rattle.tools_cli.specs.Causes.{AreOutputs, StopsPreparing}
use Rattle.tools_cli.proofs.Deciding.{text_contents, inputs_job_allowed}
use Rattle.tools_cli.proofs.Running.{inputs_at, texts_held, decided_at, not_begun_at, preparing_from_planning, preparing_from_gathering}
use Rattle.tools_cli.proofs.FaithfulEnds.{on_ok, read_bytes}
use Rattle.tools_cli.proofs.work.prepare.Goals as goal

pub returns-clause-plan : goal.returns-clause-plan
returns-clause-plan g c =
    let held = g.F.Files.contents c.args.files.now in
    let t = task_value c.args.task.now in
    let inputs = input_entries c.as_slice.result.now in
    let begun : refused_before t ≡ None = search rules in
    let whole : IfSome held (λ a. gathered (inputs_of t) a most_input ≡ Whole inputs) = rw c.as_slice.ensures.value c.in_ok-inputs.ensures.whole in
    IfOk-weaker c.plan.result
    (λ plan. InputsJob t inputs (Done (write_entries plan.writes.items) plan.lines.items))
    (λ plan. IfSome held (λ a. TaskJob t a (Done (write_entries plan.writes.items) plan.lines.items)))
    (λ plan d. decided_at held t inputs (Done (write_entries plan.writes.items) plan.lines.items) begun whole d)
    c.plan.ensures.plan

pub returns-clause-outputs : goal.returns-clause-outputs
returns-clause-outputs g c =
    let held = g.F.Files.contents c.args.files.now in
    let t = task_value c.args.task.now in
    let inputs = input_entries c.as_slice.result.now in
    let whole : IfSome held (λ a. gathered (inputs_of t) a most_input ≡ Whole inputs) = rw c.as_slice.ensures.value c.in_ok-inputs.ensures.whole in
    IfOk-weaker c.plan.result
    (λ plan. InputsJob t inputs (Done (write_entries plan.writes.items) plan.lines.items))
    (λ plan. AreOutputs t held (written_names (write_entries plan.writes.items)))
    (λ plan d name there. (text_contents t inputs, texts_held held t inputs whole, (inputs_job_allowed t inputs (Done (write_entries plan.writes.items) plan.lines.items) d).0 name there))
    c.plan.ensures.plan

pub returns-clause-lines : goal.returns-clause-lines
returns-clause-lines g c =
    let t = task_value c.args.task.now in
    let inputs = input_entries c.as_slice.result.now in
    IfOk-weaker c.plan.result
    (λ plan. InputsJob t inputs (Done (write_entries plan.writes.items) plan.lines.items))
    (λ plan. PrintsAsAllowed t plan.lines.items)
    (λ plan d. (inputs_job_allowed t inputs (Done (write_entries plan.writes.items) plan.lines.items) d).1)
    c.plan.ensures.plan

pub returns-clause-stops : goal.returns-clause-stops
returns-clause-stops g c =
    let held = g.F.Files.contents c.args.files.now in
    let before = g.F.Files.read_faults c.args.files.now in
    let now = g.F.Files.read_faults c.read_inputs.new.files in
    let t = task_value c.args.task.now in
    let inputs = input_entries c.as_slice.result.now in
    let begun : refused_before t ≡ None = search rules in
    let whole : IfSome held (λ a. gathered (inputs_of t) a most_input ≡ Whole inputs) = rw c.as_slice.ensures.value c.in_ok-inputs.ensures.whole in
    let are : Every (λ (e : NamedFile). IsBytes e.1) inputs = rw c.as_slice.ensures.value c.in_ok-inputs.ensures.bytes in
    let P : Text → Type 0 = λ text. InputsJob t inputs (Refused text) in
    IfErr-weaker c.plan.result (StopsWith P) (StopsPreparing held before now t) (λ s d. preparing_from_planning held before now t inputs s begun whole are d) c.plan.ensures.stops

pub returns-in_err-inputs-clause-stops : goal.returns-in_err-inputs-clause-stops
returns-in_err-inputs-clause-stops g c =
    let t = task_value c.args.task.now in
    let begun : refused_before t ≡ None = search rules in
    let stop = c.in_err-inputs.field-0.0 in
    let gone : c.from_residual.result ≡ Err stop = grind arith in
    rw gone (preparing_from_gathering _ _ _ t stop begun c.in_err-inputs.ensures.stops)

pub returns-in-Some-clause-stops : goal.returns-in-Some-clause-stops
returns-in-Some-clause-stops g c =
    let t = task_value c.args.task.now in
    let told : refused_before t ≡ Some (refusal_text c.in-Some.refusal) = search rules in
    not_begun_at _ t (refusal_text c.in-Some.refusal) told

pub returns-clause-bytes : goal.returns-clause-bytes
returns-clause-bytes g c =
    let held = g.F.Files.contents c.args.files.now in
    let t = task_value c.args.task.now in
    let inputs = input_entries c.in_ok-inputs.inputs.items in
    on_ok c.plan.result (read_bytes held t inputs c.in_ok-inputs.ensures.whole c.in_ok-inputs.ensures.bytes)

pub returns-clause-inputs : goal.returns-clause-inputs
returns-clause-inputs g c =
    let held = g.F.Files.contents c.args.files.now in
    let t = task_value c.args.task.now in
    let inputs = input_entries c.in_ok-inputs.inputs.items in
    on_ok c.plan.result (inputs_at held t inputs c.in_ok-inputs.ensures.whole c.in_ok-inputs.ensures.bytes)
