use Rattle.base_lists.proofs.Common.{◌≡◌, ◌∙◌, sym, ap, true, false, rules, ◌+◌, drop, map, option_map, string_bytes, Some, None, ◌&&◌, is_none}
use Rattle.tools_cli_words.specs.Arguments.{Vocabulary, said_from, arguments_of, takes_value, next_argument}
use Rattle.tools_cli_words.specs.Meaning.{said_value, argument_value, names_of}
use Rattle.tools_cli_words.proofs.Lines.{and_then_arguments, arguments_from, none_before, words_at, begun_word, fresh_word, now_due, wrong_word, right_word}
use Rattle.tools_cli_words.proofs.pass.said_by.Goals as goal

pub loop-word-init : goal.loop-word-init
loop-word-init c =
    let v : Vocabulary = record { options = names_of c.args.options.now; flags = names_of c.args.flags.now } in
    rw c.new-said.ensures (sym (none_before (option_map arguments_of (said_from v None (map string_bytes c.args.words.now)))))

pub loop-word-preserved-then-begins_option : goal.loop-word-preserved-then-begins_option
loop-word-preserved-then-begins_option c =
    let v : Vocabulary = record { options = names_of c.args.options.now; flags = names_of c.args.flags.now } in
    let words = c.args.words.now in
    let i = c.loop-word.word-index in
    let line = said_value c.loop-word.said in
    let word = string_bytes c.word-item.result in
    let rest = map string_bytes (drop (i + 1) words) in
    let begins : (is_none c.loop-word.due && takes_value v.options word) ≡ true = search rules in
    let both = begun_word c.loop-word.due (takes_value v.options word) begins in
    let name : c.long_name.result.now ≡ _ = search rules in
    now_due v line _ word rest both.1
    (c.loop-word.invariant ∙ ap (λ d. and_then_arguments line (arguments_from v d (map string_bytes (drop i words)))) both.0
    ∙ ap (λ l. and_then_arguments line (arguments_from v None l)) (words_at string_bytes words i c.word-item.result c.loop-word-test.true c.word-item.is))
    ∙ ap (λ n. and_then_arguments line (arguments_from v (Some n) rest)) (sym name)

pub returns-in_default : goal.returns-in_default
returns-in_default c =
    let v : Vocabulary = record { options = names_of c.args.options.now; flags = names_of c.args.flags.now } in
    let words = c.args.words.now in
    let i = c.loop-word.word-index in
    let due = option_map (λ o. o.now) c.loop-word.due in
    let line = said_value c.loop-word.said in
    let word = string_bytes c.word-item.result in
    let rest = map string_bytes (drop (i + 1) words) in
    let other : (is_none c.loop-word.due && takes_value v.options word) ≡ false = search rules in
    let nothing : next_argument v due word ≡ None = search rules in
    sym (wrong_word v due line _ word rest (fresh_word c.loop-word.due (takes_value v.options word) other) nothing
    (c.loop-word.invariant ∙ ap (λ l. and_then_arguments line (arguments_from v due l)) (words_at string_bytes words i c.word-item.result c.loop-word-test.true c.word-item.is)))

pub loop-word-preserved : goal.loop-word-preserved
loop-word-preserved c =
    let v : Vocabulary = record { options = names_of c.args.options.now; flags = names_of c.args.flags.now } in
    let words = c.args.words.now in
    let i = c.loop-word.word-index in
    let due = option_map (λ o. o.now) c.loop-word.due in
    let line = said_value c.loop-word.said in
    let word = string_bytes c.word-item.result in
    let rest = map string_bytes (drop (i + 1) words) in
    let other : (is_none c.loop-word.due && takes_value v.options word) ≡ false = search rules in
    let something : next_argument v due word ≡ Some (argument_value c.in-Some.argument) = search rules in
    right_word v due line _ word (argument_value c.in-Some.argument) rest (fresh_word c.loop-word.due (takes_value v.options word) other) something
    (c.loop-word.invariant ∙ ap (λ l. and_then_arguments line (arguments_from v due l)) (words_at string_bytes words i c.word-item.result c.loop-word-test.true c.word-item.is))
    ∙ ap (λ l. and_then_arguments l (arguments_from v None rest)) (sym c.in_ok-add.ensures)
