-- The `clap` command that reads arguments by a vocabulary. No definition of what arguments mean
-- depends on it.
use Rattle.std.specs.Prelude.{◌≡◌, List, [], ◌∷◌, Option, Some, None, if◌then◌else◌, unwrap_or, option_map, fold, bytes_eq, codes}
use Rattle.std.specs.List.{list_any}
use Rattle.base_lists.specs.Every.{Every}
use Rattle.clap.specs.Words.{App, Rule, new_app, new_rule, with_rule, fault_of, matches_of, rows_of, found_of, first_value, one_text, raw_values, matched_of}
use Rattle.clap.specs.declared.parser.matches.Found.{Found}
use Rattle.clap.specs.declared.parser.matches.ArgMatches.{ArgMatches}
use Rattle.clap.specs.declared.builder.action.ArgAction.TheVariants as action
use Rattle.tools_cli_words.specs.Arguments.{Text, Vocabulary, OptionValue, Arguments, behind, with_value, said_flags}

-- The name of an option or a flag, without its hyphens.
abbrev pub long_of_option : Text → Text
long_of_option option = unwrap_or (behind (codes "--") option) option

-- The rules of `clap` for an option, for a flag, and for positional arguments.
abbrev pub option_rule : Text → Rule
option_rule option = record (new_rule option) { long = Some (long_of_option option); action = Some action.Set }

abbrev pub flag_rule : Text → Rule
flag_rule flag = record (new_rule flag) { long = Some (long_of_option flag); action = Some action.SetTrue }

-- The id of the positional arguments.
abbrev pub plain_id : Text
plain_id = codes "words"

abbrev pub plain_rule : Rule
plain_rule = record (new_rule plain_id) { action = Some action.Append; range = Some (record { start_inclusive = 1; end_inclusive = 18446744073709551615 }) }

abbrev pub with_options : App → List Text → App
with_options = fold (λ a option. with_rule a (option_rule option))

abbrev pub with_flags : App → List Text → App
with_flags = fold (λ a flag. with_rule a (flag_rule flag))

abbrev pub app_of_vocabulary : Vocabulary → App
app_of_vocabulary v = with_rule (with_flags (with_options (new_app (codes "binkit")) v.options) v.flags) plain_rule

-- Those of the options that have a value in the matches, each with its value.
abbrev pub matched_options : Found → List Text → List OptionValue
matched_options found [] = []
matched_options found (option ∷ options) = with_value option (first_value found option) (matched_options found options)

-- The matches report the flag as set exactly if it is in `said`.
abbrev pub GivesFlag : Found → (said : List Text) → Text → Type 0
GivesFlag found said flag = one_text found flag ≡ Some (if list_any (bytes_eq flag) said then codes "true" else codes "false")

-- The result of a parse: `None` if the arguments have a fault, and otherwise their matches.
abbrev pub Parsed : App → List Text → Option ArgMatches → Type 0
Parsed app words None = fault_of app words ≡ [] → ⊥
Parsed app words (Some m) = (fault_of app words ≡ []) × (rows_of (found_of m) ≡ matches_of app words)

-- The arguments are those of the matches. The flags are those in `said`, if the matches report
-- exactly these.
pub record ReadFrom (v : Vocabulary) (found : Found) (arguments : Arguments) : Type 0 where
  pub values : arguments.values ≡ matched_options found v.options
  pub flags : (said : List Text) → Every (GivesFlag found said) v.flags → arguments.flags ≡ said_flags v.flags said
  pub plain : arguments.plain ≡ unwrap_or (option_map raw_values (matched_of found plain_id)) []
