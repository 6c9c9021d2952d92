use Rattle.base_lists.proofs.Common.{◌≡◌, ◌∙◌, refl, ap, false, Err, arith, IfOk-weaker, IfErr-weaker}
use Rattle.tools_cli_spec.specs.Prelude.{Text, Decides, Refuses, Done, Refused, OneFails, InputsJob, job_of}
use Rattle.tools_cli_decide.specs.Prelude.{task_value, decision_value, input_entries, input_texts, total, StopsWith}
use Rattle.tools_cli.specs.Writes.{write_entries}
use Rattle.tools_cli_proof.proofs.Loads.{as_many}
use Rattle.tools_cli.proofs.Loading.{stops_weaker, loads_within, inputs_once}
use Rattle.tools_cli.proofs.Deciding.{total_first, entries_first, input_contents, modules_there, inputs_there, job_made, job_not_loaded}
use Rattle.tools_cli.proofs.work.plan.Goals as goal

pub split_at-requires : goal.split_at-requires
split_at-requires c =
    let there = modules_there (task_value c.args.task.now) c.args.inputs.now c.requires.names in
    let count = c.module_count.ensures in
    omega arith

pub load_all-requires : goal.load_all-requires
load_all-requires c =
    let inputs = c.args.inputs.now in
    let first = total_first c.module_count.result (input_entries inputs) in
    let same = ap total (ap input_entries c.split_at.ensures.front ∙ entries_first c.module_count.result inputs) in
    let room = c.requires.room in
    omega arith

pub decide-requires-clause-each : goal.decide-requires-clause-each
decide-requires-clause-each c =
    as_many false (input_entries c.split_at.result.0.now) c.in_ok-modules.modules.items c.in_ok-modules.ensures.loaded ∙ inputs_once c.split_at.result.0.now ∙ c.split_at.ensures.front_len ∙ c.module_count.ensures

pub decide-requires-clause-within : goal.decide-requires-clause-within
decide-requires-clause-within c = loads_within false (input_entries c.split_at.result.0.now) c.in_ok-modules.modules.items c.in_ok-modules.ensures.loaded

pub decide-requires-clause-all : goal.decide-requires-clause-all
decide-requires-clause-all c = inputs_there (task_value c.args.task.now) c.args.inputs.now c.requires.names

pub returns-in_err-modules-clause-stops : goal.returns-in_err-modules-clause-stops
returns-in_err-modules-clause-stops c =
    let t = task_value c.args.task.now in
    let inputs = c.args.inputs.now in
    let files = input_entries c.split_at.result.0.now in
    let first = ap input_entries c.split_at.ensures.front ∙ entries_first c.module_count.result inputs in
    let stop = c.in_err-modules.field-0.0 in
    let gone : c.from_residual.result ≡ Err stop = grind arith in
    let Q : Text → Type 0 = λ text. InputsJob t (input_entries inputs) (Refused text) in
    rw gone (stops_weaker (OneFails false files) Q (job_not_loaded t (input_entries inputs) c.module_count.result files c.module_count.ensures first) stop c.in_err-modules.ensures.stops)

pub returns-in_err-decision-clause-stops : goal.returns-in_err-decision-clause-stops
returns-in_err-decision-clause-stops c =
    let t = task_value c.args.task.now in
    let inputs = c.args.inputs.now in
    let n = c.module_count.result in
    let files = input_entries c.split_at.result.0.now in
    let contents = input_texts inputs in
    let trees = c.in_ok-modules.modules.items in
    let first = ap input_entries c.split_at.ensures.front ∙ entries_first n inputs in
    let stop = c.in_err-decision.field-0.0 in
    let gone : c.from_residual-in_err-decision.result ≡ Err stop = grind arith in
    let P : Text → Type 0 = λ text. Decides t trees contents (Refuses text) in
    let Q : Text → Type 0 = λ text. InputsJob t (input_entries inputs) (Refused text) in
    rw gone (stops_weaker P Q (λ text h. job_made t (input_entries inputs) n files trees contents (Refuses text) (Refused text) c.module_count.ensures first (input_contents inputs) c.in_ok-modules.ensures.loaded h refl) stop c.in_err-decision.ensures.stops)

pub returns-clause-plan : goal.returns-clause-plan
returns-clause-plan c =
    let t = task_value c.args.task.now in
    let inputs = c.args.inputs.now in
    let n = c.module_count.result in
    let decision = decision_value c.in_ok-decision.decision in
    let files = input_entries c.split_at.result.0.now in
    let contents = input_texts inputs in
    let first = ap input_entries c.split_at.ensures.front ∙ entries_first n inputs in
    IfOk-weaker c.encode.result (λ plan. job_of decision ≡ Done (write_entries plan.writes.items) plan.lines.items) (λ plan. InputsJob t (input_entries inputs) (Done (write_entries plan.writes.items) plan.lines.items))
    (λ plan is. job_made t (input_entries inputs) n files c.in_ok-modules.modules.items contents decision _ c.module_count.ensures first (input_contents inputs) c.in_ok-modules.ensures.loaded c.in_ok-decision.ensures.decided is)
    c.encode.ensures.plan

pub returns-clause-stops : goal.returns-clause-stops
returns-clause-stops c =
    let t = task_value c.args.task.now in
    let inputs = c.args.inputs.now in
    let n = c.module_count.result in
    let decision = decision_value c.in_ok-decision.decision in
    let files = input_entries c.split_at.result.0.now in
    let contents = input_texts inputs in
    let first = ap input_entries c.split_at.ensures.front ∙ entries_first n inputs in
    let P : Text → Type 0 = λ text. job_of decision ≡ Refused text in
    let Q : Text → Type 0 = λ text. InputsJob t (input_entries inputs) (Refused text) in
    IfErr-weaker c.encode.result (StopsWith P) (StopsWith Q)
    (λ s h. stops_weaker P Q (λ text is. job_made t (input_entries inputs) n files c.in_ok-modules.modules.items contents decision (Refused text) c.module_count.ensures first (input_contents inputs) c.in_ok-modules.ensures.loaded c.in_ok-decision.ensures.decided is) s h)
    c.encode.ensures.stops
