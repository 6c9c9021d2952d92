use Rattle.base_lists.proofs.Common.{rules, ◌≡◌, ◌∙◌, sym, ap, ap₂, subst, map, string_bytes, option_map, option_and_then, true, false, Bool, [], ◌∷◌, codes, Option, Some, None, ℕ, ◌<◌, ◌^◌, length, arith, Bor, length-map}
use Rattle.tools_cli_words.specs.Arguments.{Text, Arguments, said_from, arguments_of, said_once, said_together, arranged_words, are_apart, options_and_flags, in_order}
use Rattle.tools_cli_words.specs.Vocabularies.{vocabulary_of}
use Rattle.tools_cli_words.specs.Reader.{Parsed, ReadFrom, app_of_vocabulary}
use Rattle.tools_cli_words.specs.Meaning.{arguments_value, said_value}
use Rattle.tools_cli_words.proofs.Proper.{words_proper}
use Rattle.tools_cli_words.proofs.Readers.{tool_reads}
use Rattle.tools_cli_words.proofs.Lookups.{matches_said, no_matches_said}
use Rattle.tools_cli_words.proofs.reading.read_arguments.Goals as goal

pub returns-in-Some-2 : goal.returns-in-Some-2
returns-in-Some-2 c =
    let v = vocabulary_of c.args.tool in
    let words = map string_bytes c.args.words.now in
    let said = said_value c.in-Some.said in
    let is : Some said ≡ option_map arguments_of (said_from v None words) = search rules in
    let arranged : map string_bytes c.as_slice.result.now ≡ codes "binkit" ∷ arranged_words said = search rules in
    let parsed : Parsed (app_of_vocabulary v) (map string_bytes c.as_slice.result.now) (Some c.in-Some-2.matches) = search rules in
    let short : length said.plain < 2 ^ 64 = let same = length-map c.in-Some.said.plain.items (λ (w : Bor Text). w.now) in omega arith in
    matches_said v (tool_reads c.args.tool) words said c.in-Some-2.matches (arguments_value c.in_ok-arguments_in-in-Some-2.field-0) is short
    (subst (λ l. Parsed (app_of_vocabulary v) l (Some c.in-Some-2.matches)) arranged parsed) c.in_ok-arguments_in-in-Some-2.ensures

pub returns : goal.returns
returns c =
    let v = vocabulary_of c.args.tool in
    let words = map string_bytes c.args.words.now in
    let said = said_value c.in-Some.said in
    let is : Some said ≡ option_map arguments_of (said_from v None words) = search rules in
    let arranged : map string_bytes c.as_slice.result.now ≡ codes "binkit" ∷ arranged_words said = search rules in
    let parsed : Parsed (app_of_vocabulary v) (map string_bytes c.as_slice.result.now) None = search rules in
    let short : length said.plain < 2 ^ 64 = let same = length-map c.in-Some.said.plain.items (λ (w : Bor Text). w.now) in omega arith in
    no_matches_said v (tool_reads c.args.tool) words said is short (subst (λ l. Parsed (app_of_vocabulary v) l None) arranged parsed)
