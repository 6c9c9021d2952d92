-- What the arguments after the name of a command mean: values of options, flags, and positional
-- arguments (plain words).
use Rattle.std.specs.Prelude.{ℕ, Bool, true, false, not, ◌&&◌, ◌==◌, if◌then◌else◌, List, [], ◌∷◌, ◌++◌, map, Option, Some, None, unwrap_or, option_map, option_and_then, bytes_eq, codes}
use Rattle.std.specs.Option.{option_or}
use Rattle.std.specs.List.{filter, list_any, slice_split}

-- A text, or the contents of a file, as a list of bytes.
abbrev pub Text : Type 0
Text = List ℕ

-- The options and the flags of a command. Each option takes a value, and a flag takes none.
pub record Vocabulary : Type 0 where
  pub options : List Text
  pub flags : List Text

-- One parsed argument: an option with its value, a flag, or a positional argument.
pub data Argument : Type 0 where
  Value : (option value : Text) → Argument
  Flag : Text → Argument
  Plain : Text → Argument

-- ---- one argument ----

-- The argument may be positional, or a value: it is not empty and does not begin with `-`.
abbrev pub is_plain : Text → Bool
is_plain [] = false
is_plain (c ∷ _) = not (c == 45)

-- The rest of a text after this beginning, if it begins so.
abbrev pub behind : Text → Text → Option Text
behind [] text = Some text
behind (c ∷ beginning) [] = None
behind (c ∷ beginning) (d ∷ text) = if c == d then behind beginning text else None

-- The output option of each command that has one output. `-o` is short for it.
abbrev pub output_option : Text
output_option = codes "--output"

abbrev pub long_name : Text → Text
long_name word = if bytes_eq word (codes "-o") then output_option else word

-- The argument is an option whose value is the next argument.
abbrev pub takes_value : List Text → Text → Bool
takes_value options word = list_any (bytes_eq (long_name word)) options

-- The option with the next argument as its value, if this can be a value.
abbrev pub own_value : Text → Text → Option Argument
own_value option word = if is_plain word then Some (Value option word) else None

-- The option with this value, unless it is empty. It may begin with `-`.
abbrev pub some_value : Text → Text → Option Argument
some_value option [] = None
some_value option (c ∷ value) = Some (Value option (c ∷ value))

-- An option and its value, after `=`, in one argument: from the rest of the argument after the
-- option, and from the argument, for any of the options.
abbrev pub value_behind : Text → Text → Option Argument
value_behind option rest = option_and_then (some_value option) (behind (codes "=") rest)

abbrev pub joined_value : List Text → Text → Option Argument
joined_value [] word = None
joined_value (option ∷ options) word = option_or (option_and_then (value_behind option) (behind option word)) (joined_value options word)

-- What any other argument means.
abbrev pub other_word : Vocabulary → Text → Option Argument
other_word vocabulary word =
    if is_plain word then Some (Plain word)
    else (if list_any (bytes_eq word) vocabulary.flags then Some (Flag word) else joined_value vocabulary.options word)

-- What an argument means, if `due` is an option before it that needs its value.
abbrev pub next_argument : Vocabulary → Option Text → Text → Option Argument
next_argument vocabulary None word = other_word vocabulary word
next_argument vocabulary (Some option) word = own_value option word

-- ---- all arguments ----

abbrev pub add_argument : Option Argument → Option (List Argument) → Option (List Argument)
add_argument (Some first) (Some rest) = Some (first ∷ rest)
add_argument _ _ = None

-- Parses arguments in order; `due` is an option before them that needs its value. `None` if one of
-- them does not parse, or if the last is an option that needs its value.
abbrev pub said_from : Vocabulary → (due : Option Text) → List Text → Option (List Argument)
said_from vocabulary None [] = Some []
said_from vocabulary (Some option) [] = None
said_from vocabulary (Some option) (word ∷ rest) = add_argument (next_argument vocabulary (Some option) word) (said_from vocabulary None rest)
said_from vocabulary None (word ∷ rest) = if takes_value vocabulary.options word then said_from vocabulary (Some (long_name word)) rest else add_argument (next_argument vocabulary None word)
    (said_from vocabulary None rest)

-- An option and its value.
pub record OptionValue : Type 0 where
  pub option : Text
  pub value : Text

-- Parsed arguments by kind: the options with their values, the flags and the positional arguments,
-- each in order.
pub record Arguments : Type 0 where
  pub values : List OptionValue
  pub flags : List Text
  pub plain : List Text

abbrev pub add_to_arguments : Argument → Arguments → Arguments
add_to_arguments (Value option value) arguments = record arguments { values = record { option = option; value = value } ∷ arguments.values }
add_to_arguments (Flag word) arguments = record arguments { flags = word ∷ arguments.flags }
add_to_arguments (Plain word) arguments = record arguments { plain = word ∷ arguments.plain }

abbrev pub arguments_of : List Argument → Arguments
arguments_of [] = record { values = []; flags = []; plain = [] }
arguments_of (said ∷ rest) = add_to_arguments said (arguments_of rest)

-- The first value of an option, if the option is given.
abbrev pub value_of : Text → List OptionValue → Option Text
value_of option [] = None
value_of option (valued ∷ rest) = if bytes_eq valued.option option then Some valued.value else value_of option rest

abbrev pub with_value : Text → Option Text → List OptionValue → List OptionValue
with_value option None rest = rest
with_value option (Some value) rest = record { option = option; value = value } ∷ rest

-- Those of the options that are given, each with its value.
abbrev pub valued_options : (options : List Text) → List OptionValue → List OptionValue
valued_options [] said = []
valued_options (option ∷ options) said = with_value option (value_of option said) (valued_options options said)

-- Those of the flags that are given.
abbrev pub said_flags : (flags : List Text) → (said : List Text) → List Text
said_flags flags said = filter (λ flag. list_any (bytes_eq flag) said) flags

-- The same arguments, with options and flags in the order of the vocabulary.
abbrev pub in_order : Vocabulary → Arguments → Arguments
in_order vocabulary said = record { values = valued_options vocabulary.options said.values; flags = said_flags vocabulary.flags said.flags; plain = said.plain }

-- No two of the texts are equal.
abbrev pub are_apart : List Text → Bool
are_apart [] = true
are_apart (text ∷ texts) = not (list_any (bytes_eq text) texts) && are_apart texts

-- The options and the flags that are given.
abbrev pub options_and_flags : Arguments → List Text
options_and_flags said = map (λ v. v.option) said.values ++ said.flags

-- The arguments `in_order`, if no option and no flag is repeated.
abbrev pub said_once : Vocabulary → Arguments → Option Arguments
said_once vocabulary said = if are_apart (options_and_flags said) then Some (in_order vocabulary said) else None

-- Parses the arguments of a command. `None` if one of them does not parse, or if an option or a
-- flag is repeated.
abbrev pub said_together : Vocabulary → List Text → Option Arguments
said_together vocabulary words = option_and_then (said_once vocabulary) (option_map arguments_of (said_from vocabulary None words))

-- ---- the same arguments in another order ----

-- An option and its value as one argument.
abbrev pub option_word : OptionValue → Text
option_word valued = valued.option ++ codes "=" ++ valued.value

-- The options first, each with its value in one argument, then the flags, and the positional
-- arguments last.
abbrev pub arranged_words : Arguments → List Text
arranged_words said = map option_word said.values ++ said.flags ++ said.plain

-- ---- looking up arguments ----

-- The values of an option, in order.
abbrev pub values_of : Text → List OptionValue → List Text
values_of option [] = []
values_of option (valued ∷ rest) = if bytes_eq valued.option option then valued.value ∷ values_of option rest else values_of option rest

-- The text, if there is exactly one.
abbrev pub only_text : List Text → Option Text
only_text (text ∷ []) = Some text
only_text _ = None

-- The value of an option that is given exactly once.
abbrev pub only_value : Text → Arguments → Option Text
only_value option arguments = only_text (values_of option arguments.values)

-- No text or the one text; `None` if there are more.
abbrev pub at_most_one : List Text → Option (Option Text)
at_most_one [] = Some None
at_most_one (text ∷ []) = Some (Some text)
at_most_one _ = None

-- The value of an option that may be absent; `None` if the option is repeated.
abbrev pub value_if_any : Text → Arguments → Option (Option Text)
value_if_any option arguments = at_most_one (values_of option arguments.values)

-- The same, with `default` as the value of an absent option.
abbrev pub value_or : Text → (default : Text) → Arguments → Option Text
value_or option default arguments = option_map (λ value. unwrap_or value default) (value_if_any option arguments)

-- The entries of a list, which is cut at each comma. An empty piece is an empty entry.
abbrev pub listed_words : Text → List Text
listed_words text = slice_split (λ c. c == 44) text
