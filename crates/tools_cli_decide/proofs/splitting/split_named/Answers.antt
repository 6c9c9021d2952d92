use Rattle.base_lists.proofs.Common.{◌≡◌, ◌∙◌, ap, ap₂, Err, List, arith}
use Rattle.wasm_tree_spec.specs.Prelude.{Module}
use Rattle.wasm_names.specs.declared.func_name.FuncName.{FuncName}
use Rattle.tools_cli_spec.specs.Prelude.{Text, Splits, Refuses, kept_lines}
use Rattle.tools_cli_decide.specs.Prelude.{split_value, decision_value}
use Rattle.tools_cli_spec.specs.Job.{GivesPlan}
use Rattle.tools_cli_decide.specs.Causes.{PlanFails, SplitFails}
use Rattle.tools_cli_decide.proofs.Stops.{stops_weaker}
use Rattle.tools_cli_decide.proofs.SplitDecided.{plan_refused, split_refused, parted_made}
use Rattle.tools_cli_decide.proofs.splitting.split_named.Goals as goal

pub returns-in_err-plan-clause-stops : goal.returns-in_err-plan-clause-stops
returns-in_err-plan-clause-stops c =
    let split = split_value c.args.task.now in
    let names = c.args.names.now in
    let Q : Text → Type 0 = λ says. Splits split c.args.module c.args.bytes.now (Refuses says) in
    let stop = c.in_err-plan.field-0.0 in
    let gone : c.from_residual.result ≡ Err stop = grind arith in
    rw gone (stops_weaker (PlanFails split c.args.module names) Q (λ says h. plan_refused split c.args.module c.args.bytes.now names c.requires says h) stop c.in_err-plan.ensures.stops)

pub returns-in_err-pair-clause-stops : goal.returns-in_err-pair-clause-stops
returns-in_err-pair-clause-stops c =
    let split = split_value c.args.task.now in
    let names = c.args.names.now in
    let p = c.in_ok-plan.plan in
    let given : GivesPlan split c.args.bytes.now c.args.module names = record { named = c.requires; planned = c.in_ok-plan.ensures.none } in
    let Q : Text → Type 0 = λ says. Splits split c.args.module c.args.bytes.now (Refuses says) in
    let stop = c.in_err-pair.field-0.0 in
    let gone : c.from_residual-in_err-pair.result ≡ Err stop = grind arith in
    rw gone (stops_weaker (SplitFails split c.args.module p.moved) Q (λ says h. split_refused split c.args.module c.args.bytes.now names p given c.in_ok-plan.ensures.plan says h) stop c.in_err-pair.ensures.stops)

pub returns-clause-decided : goal.returns-clause-decided
returns-clause-decided c =
    let split = split_value c.args.task.now in
    let names = c.args.names.now in
    let p = c.in_ok-plan.plan in
    let pair = c.in_ok-pair.pair in
    let lines = c.in_ok-lines.lines.items in
    let given : GivesPlan split c.args.bytes.now c.args.module names = record { named = c.requires; planned = c.in_ok-plan.ensures.none } in
    let told = c.in_ok-lines.ensures ∙ ap (λ (m : Module). kept_lines m c.as_slice.result.now c.as_slice-2.result.now) c.module-2.ensures.value ∙ ap₂ (λ (ns : List FuncName) ks. kept_lines c.args.module ns ks) c.as_slice.ensures c.as_slice-2.ensures in
    parted_made split c.args.module c.args.bytes.now names p pair.secondary pair.primary lines (decision_value c.in_ok-both_outputs.field-0) given c.in_ok-plan.ensures.plan c.in_ok-pair.ensures.none c.in_ok-pair.ensures.secondary c.in_ok-pair.ensures.primary told c.in_ok-both_outputs.ensures
