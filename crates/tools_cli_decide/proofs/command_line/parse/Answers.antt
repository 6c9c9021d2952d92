use Rattle.std.proofs.Common.{◌≡◌, ◌∙◌, rules, map, option_map, string_bytes, Some, None}
use Rattle.std.proofs.lemmas.Result.{IfOk-weaker}
use Rattle.tools_cli_spec.specs.CommandLine.{task_of, task_of_arguments, tool_in, said_to_tool}
use Rattle.tools_cli_decide.specs.Command.{task_value, arguments_value}
use Rattle.tools_cli_decide.proofs.Lines.{task_is, no_said}
use Rattle.tools_cli_decide.proofs.command_line.parse.Goals as goal

pub returns-in-Ok-None : goal.returns-in-Ok-None
returns-in-Ok-None c =
    let words = map string_bytes c.args.words.now in
    let nothing : None ≡ said_to_tool words = search rules in
    no_said words nothing

pub returns-in-Some : goal.returns-in-Some
returns-in-Some c =
    let words = map string_bytes c.args.words.now in
    let arguments = arguments_value c.in-Ok-Some.arguments in
    let said : Some arguments ≡ said_to_tool words = search rules in
    let named : Some c.in-Some.tool ≡ tool_in words = search rules in
    IfOk-weaker c.task_of_arguments.result (λ task. option_map task_value task ≡ task_of_arguments c.in-Some.tool arguments) (λ task. option_map task_value task ≡ task_of words) (λ task is. is ∙ task_is words c.in-Some.tool arguments named said) (search rules)
