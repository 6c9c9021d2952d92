use Rattle.base_lists.proofs.Common.{◌≡◌, ◌∙◌, ap, sym, subst, true, false, List, ℕ, ◌+◌, ◌++◌, ◌∷◌, [], drop, drop-cons, add-one, get_or, length, ◌<◌, map, Bor, map-append}
use Rattle.base_lists.specs.Every.{Every}
use Rattle.clap.specs.Words.{found_of}
use Rattle.tools_cli_words.specs.Arguments.{Text, said_flags}
use Rattle.tools_cli_words.specs.Reader.{GivesFlag}
use Rattle.tools_cli_words.specs.Meaning.{names_of}
use Rattle.tools_cli_words.proofs.Given.{flag_set, flag_unset}
use Rattle.tools_cli_words.proofs.matches.flags_in.Goals.{then-get_flag+in_ok-push, else-get_flag}
use Rattle.tools_cli_words.proofs.matches.flags_in.Goals as goal

no_flag : Bor Text
no_flag = record { ref_ptr = (0, 0); now = [] }

pub loop-flag-preserved : goal.loop-flag-preserved
unfolding no_flag
loop-flag-preserved c said gives =
    let found = found_of c.args.matches.now in
    let flags = c.args.flags.now in
    let i = c.loop-flag.flag-index in
    let given = names_of c.loop-flag.given.items in
    let flag = get_or flags i no_flag in
    let rest = names_of (drop (i + 1) flags) in
    let lt : i < length flags = c.loop-flag-test.true in
    let at : names_of (drop i flags) ≡ flag.now ∷ rest = ap names_of (drop-cons flags i no_flag lt) ∙ ap (λ n. flag.now ∷ names_of (drop n flags)) (sym (add-one i)) in
    let both = c.loop-flag.invariant said gives in
    let all : Every (GivesFlag found said) (flag.now ∷ rest) = subst (Every (GivesFlag found said)) at both.0 in
    let before : given ++ said_flags (flag.now ∷ rest) said ≡ said_flags (names_of flags) said = ap (λ l. given ++ said_flags l said) (sym at) ∙ both.1 in
    elim c.if-get_flag.branch [
      | then-get_flag+in_ok-push w ↦ (
        all.1,
        ap (λ l. names_of l.items ++ said_flags rest said) w.given-is
            ∙ ap (λ l. names_of l ++ said_flags rest said) w.in_ok-push.ensures.items ∙ ap (λ l. l ++ said_flags rest said) (map-append (λ (t : Bor Text). t.now) c.loop-flag.given.items (flag ∷ []))
            ∙ flag_set found said flag.now given rest _ c.get_flag.result all.0 c.get_flag.ensures.value c.get_flag.ensures.other w.if-get_flag.true before,
      )
      | else-get_flag w ↦ (
        all.1,
        ap (λ l. names_of l.items ++ said_flags rest said) w.given-is
            ∙ flag_unset found said flag.now given rest _ c.get_flag.result all.0 c.get_flag.ensures.value c.get_flag.ensures.other w.if-get_flag.false before,
      )
    ]
