use Rattle.std.proofs.Common.{◌∙◌, ap, sym, ◌++◌, codes}
use Rattle.std.specs.Prelude.{unwrap_or}
use Rattle.tools_cli_words.proofs.Lines.{behind_found, behind_lacks}
use Rattle.tools_cli_words.proofs.command.long_name.Goals as goal

pub returns-in-Some : goal.returns-in-Some
returns-in-Some c =
    let word = c.args.word.now in
    let (n, found, is, long) = c.in-Some.ensures.cases in
    ap (λ o. unwrap_or o word) (sym (behind_found (codes "--") word c.in-Some.name.now (found.1 ∙ ap (λ l. codes "--" ++ l) (sym is))))

pub returns-in-None : goal.returns-in-None
returns-in-None c =
    let word = c.args.word.now in
    ap (λ o. unwrap_or o word) (sym (behind_lacks (codes "--") word (λ rest e. c.in-None.ensures.cases rest e)))
