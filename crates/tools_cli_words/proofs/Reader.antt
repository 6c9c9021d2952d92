-- The reading of one word by `clap`, with the command of a vocabulary.
use Rattle.base_lists.proofs.Common.{◌≡◌, ℕ, Bool, true, false, List, [], ◌∷◌, ◌++◌, Option, Some, None, codes, fold, ◌==◌, ◌||◌, not, ◌&&◌, if◌then◌else◌, list_all, list_any, bytes_eq}
use Rattle.std.specs.Prelude.{unwrap_or}
use Rattle.base_lists.specs.Every.{Every}
use Rattle.clap.specs.Words.{Row, Rule, Shape, built, fault_of, matches_of, is_simple_and_free}
use Rattle.clap.specs.Faults.{turn_fault, repeat_fault, check_fault, given_default_fault, level_fault}
use Rattle.clap.specs.Kinds.{Kinds, or_else}
use Rattle.clap.specs.Walk.{Walk, walked, with_values, without, positional, idle, arg_by_id, reading_by, is_empty, nothing_held, rows_after}
use Rattle.clap.specs.declared.builder.action.ArgAction.TheVariants as action
use Rattle.clap.specs.declared.parser.matches.ValueSource.TheVariants.{CommandLine}
use Rattle.clap.specs.declared.builder.value_parser.Reading.{Reading}
use Rattle.clap.specs.declared.builder.value_parser.Reading.TheVariants as reading
use Rattle.clap.specs.declared.parser.matches.ValueSource.TheVariants as valued
use Rattle.clap.specs.declared.builder.value_parser.ValueParser.TheVariants as vp
use Rattle.tools_cli_words.specs.Arguments.{Text, Vocabulary}
use Rattle.tools_cli_words.specs.Reader.{plain_id, plain_rule, app_of_vocabulary}

-- ---- one word

-- A word that uses an option or a flag, and the id and value that it adds to the matches.
pub record Use : Type 0 where
  pub word : Text
  pub id : Text
  pub value : Text

abbrev pub row : Use → Row
row u = record { id = u.id; values = u.value ∷ []; count = None; source = Some CommandLine; reading = reading.AsWritten }

abbrev pub put : List Row → Use → List Row
put rows u = with_values u.id reading.AsWritten CommandLine (u.value ∷ []) (without u.id rows)

abbrev pub option_use : Text → Text → Use
option_use option value = record { word = option ++ codes "=" ++ value; id = option; value = value }

abbrev pub flag_use : Text → Use
flag_use flag = record { word = flag; id = flag; value = codes "true" }

-- The state of `clap` before the positional arguments, and after some of them.
abbrev pub begun : List Row → Walk
begun rows = record { held = record { rows = rows; pending = None; skip = 0 }; waiting = idle; position = 1; is_trailing = false; stopped = None }

abbrev pub after_plain : List Row → List Text → Walk
after_plain rows words = record { held = record { rows = rows; pending = Some (plain_id, words); skip = 0 }; waiting = positional; position = 1; is_trailing = false; stopped = None }

-- The word of a use adds its row, and is a fault exactly if its option or flag is repeated.
abbrev pub Turns : Shape → Use → Type 0
Turns top u = (rows : List Row) → (walked top.rules [] (begun rows) u.word ≡ begun (put rows u)) × (turn_fault top [] (begun rows) u.word ≡ or_else (or_else (repeat_fault false u.id rows) []) [])

-- The row that an id has by its defaults.
abbrev pub has_some : List Text → Bool
has_some [] = false
has_some (x ∷ xs) = true

abbrev pub default_row : Text → List Rule → Option Row
default_row id [] = None
default_row id (a ∷ rules) = if bytes_eq a.id id && has_some a.defaults then Some
    (record { id = a.id; values = a.defaults; count = None; source = Some (valued.DefaultValue); reading = reading_by a }) else default_row id rules

abbrev pub is_nothing : Kinds → Bool
is_nothing [] = true
is_nothing (k ∷ ks) = false

abbrev pub is_harmless : Rule → Bool
is_harmless a = is_empty a.defaults || is_nothing (given_default_fault a a.defaults)

-- The rule of the positional arguments in the command after it is built.
abbrev pub built_plain : Rule
built_plain = record plain_rule { index = Some 1; parser = Some vp.String }

-- The command reads an option, whose id has no default and is that of no flag and not that of the
-- positional arguments.
abbrev pub ReadsOption : Shape → Vocabulary → Text → Type 0
ReadsOption top v option = ((value : Text)
    → Turns top (option_use option value)) × (default_row option top.rules ≡ None) × (list_any (bytes_eq option) v.flags ≡ false) × (bytes_eq plain_id option ≡ false)

abbrev pub false_row : Text → Row
false_row flag = record { id = flag; values = codes "false" ∷ []; count = None; source = Some valued.DefaultValue; reading = reading.AsWritten }

abbrev pub ReadsFlag : Shape → Vocabulary → Text → Type 0
ReadsFlag top v flag = Turns top (flag_use flag) × (default_row flag top.rules ≡ Some (false_row flag)) × (list_any (bytes_eq flag) v.options ≡ false) × (bytes_eq plain_id flag ≡ false)

pub record IsReader (top : Shape) (v : Vocabulary) : Type 0 where
  pub options : Every (ReadsOption top v) v.options
  pub flags : Every (ReadsFlag top v) v.flags
  pub first_plain : (rows : List Row) (c : ℕ) (text : Text) → (c == 45) ≡ false
      → (walked top.rules [] (begun rows) (c ∷ text) ≡ after_plain rows ((c ∷ text) ∷ [])) × (turn_fault top [] (begun rows) (c ∷ text) ≡ [])
  pub next_plain : (rows : List Row) (words : List Text) (c : ℕ) (text : Text) → (c == 45) ≡ false
      → (walked top.rules [] (after_plain rows words) (c ∷ text) ≡ after_plain rows (words ++ (c ∷ text) ∷ [])) × (turn_fault top [] (after_plain rows words) (c ∷ text) ≡ [])
  pub plain : arg_by_id top.rules plain_id ≡ Some built_plain
  pub plain_default : default_row plain_id top.rules ≡ None
  pub plain_option : list_any (bytes_eq plain_id) v.options ≡ false
  pub plain_flag : list_any (bytes_eq plain_id) v.flags ≡ false
  pub harmless : list_all is_harmless top.rules ≡ true
  pub no_check : (rows : List Row) → check_fault top rows false ≡ []

-- The command of a vocabulary reads its options and flags, and the faults and rows of `clap` are
-- known for it.
pub record Reads (v : Vocabulary) : Type 0 where
  pub reader : IsReader (built (app_of_vocabulary v)).top v
  pub simple : is_simple_and_free (app_of_vocabulary v) ≡ true
  pub fault : (word : Text) (words : List Text) → fault_of (app_of_vocabulary v) (word ∷ words) ≡ level_fault (built (app_of_vocabulary v)).top [] nothing_held words false []
  pub rows : (word : Text) (words : List Text) → matches_of (app_of_vocabulary v) (word ∷ words) ≡ rows_after (built (app_of_vocabulary v)).top.rules [] words
