use Rattle.base_lists.proofs.Common.{rules, ◌≡◌, ◌∙◌, sym, ap, ap₂, map, string_bytes, true, false, inl, inr, [], ◌∷◌, left_true}
use Rattle.clap.specs.Words.{App, app_of, fault_of, matches_of, is_simple, is_simple_and_free, kind_of, HasKind}
use Rattle.clap.specs.declared.error.kind.ErrorKind.TheVariants as kind
use Rattle.tools_cli_words.specs.Vocabularies.{vocabulary_of}
use Rattle.tools_cli_words.specs.Reader.{app_of_vocabulary}
use Rattle.tools_cli_words.proofs.Readers.{tool_reads}
use Rattle.tools_cli_words.proofs.Lookups.{no_kind}
use Rattle.tools_cli_words.proofs.reading.parse.Goals as goal

pub returns-in-Ok : goal.returns-in-Ok
returns-in-Ok c =
    let words = map string_bytes c.args.words.now in
    let app_is : app_of c.in_ok-command.command ≡ app_of_vocabulary (vocabulary_of c.args.tool) = c.in_ok-command.ensures
    ∙ ap₂ (λ o f. app_of_vocabulary (record { options = o; flags = f })) c.options.ensures c.flags.ensures in
    let simple : is_simple_and_free (app_of c.in_ok-command.command) ≡ true = ap is_simple_and_free app_is ∙ (tool_reads c.args.tool).simple in
    let alone : is_simple (app_of c.in_ok-command.command) ≡ true = left_true _ _ simple in
    (sym (ap (λ (a : App). fault_of a words) app_is) ∙ c.in-Ok.ensures.kinds simple, (c.in-Ok.ensures.matches alone).0 ∙ ap (λ (a : App). matches_of a words) app_is)

pub returns : goal.returns
returns c none =
    let words = map string_bytes c.args.words.now in
    let app_is : app_of c.in_ok-command.command ≡ app_of_vocabulary (vocabulary_of c.args.tool) = c.in_ok-command.ensures
    ∙ ap₂ (λ o f. app_of_vocabulary (record { options = o; flags = f })) c.options.ensures c.flags.ensures in
    let simple : is_simple_and_free (app_of c.in_ok-command.command) ≡ true = ap is_simple_and_free app_is ∙ (tool_reads c.args.tool).simple in
    no_kind c.in-Err.error (fault_of (app_of c.in_ok-command.command) words) (ap (λ (a : App). fault_of a words) app_is ∙ none) (λ e. let same : c.eq.result ≡ true = search (rules, e) in
    absurd (cc)) (c.in-Err.ensures.kinds simple)
