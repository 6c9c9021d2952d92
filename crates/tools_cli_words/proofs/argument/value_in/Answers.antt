use Rattle.std.proofs.Common.{◌∙◌, ap, sym, ◌++◌, option_and_then}
use Rattle.tools_cli_words.specs.Arguments.{value_behind}
use Rattle.tools_cli_words.proofs.Lines.{behind_found, behind_lacks}
use Rattle.tools_cli_words.proofs.argument.value_in.Goals as goal

pub returns-in-Some : goal.returns-in-Some
returns-in-Some c =
    let option = c.args.option.now in
    let word = c.args.word.now in
    let (n, found, is, long) = c.in-Some.ensures.cases in
    c.value_behind.ensures ∙ ap (option_and_then (value_behind option)) (sym (behind_found option word c.in-Some.rest.now (found.1 ∙ ap (λ l. option ++ l) (sym is))))

pub returns-in-None : goal.returns-in-None
returns-in-None c =
    let option = c.args.option.now in
    let word = c.args.word.now in
    ap (option_and_then (value_behind option)) (sym (behind_lacks option word (λ rest e. c.in-None.ensures.cases rest e)))
