-- What the types of the code denote in the definitions.
use Rattle.std.specs.Prelude.{ℕ, List, ◌++◌, map, string_bytes}
use Rattle.std.specs.Borrow.{Bor}
use Rattle.tools_cli_words.specs.Arguments.{Text}
use Rattle.tools_cli_words.specs.Arguments as said
use Rattle.tools_cli_words.specs.declared.argument.Argument.{Argument}
use Rattle.tools_cli_words.specs.declared.argument.Argument.TheVariants as word
use Rattle.tools_cli_words.specs.declared.pass.SaidOption.{SaidOption}
use Rattle.tools_cli_words.specs.declared.pass.Said.{Said}
use Rattle.tools_cli_words.specs.declared.arguments.OptionValue.{OptionValue}
use Rattle.tools_cli_words.specs.declared.arguments.Arguments.{Arguments}

-- The texts of borrowed strings.
abbrev pub names_of : List (Bor Text) → List Text
names_of words = map (λ w. w.now) words

-- One parsed argument, and all of them in their order.
abbrev pub argument_value : Argument → said.Argument
argument_value (word.Value option value) = said.Value option.now value.now
argument_value (word.Flag flag) = said.Flag flag.now
argument_value (word.Plain text) = said.Plain text.now

abbrev pub said_option : SaidOption → said.OptionValue
said_option v = record { option = v.option.now; value = v.value.now }

abbrev pub said_value : Said → said.Arguments
said_value s = record { values = map said_option s.values.items; flags = names_of s.flags.items; plain = names_of s.plain.items }

-- The arguments of `first` and then those of `more`.
abbrev pub join_arguments : said.Arguments → said.Arguments → said.Arguments
join_arguments first more = record { values = first.values ++ more.values; flags = first.flags ++ more.flags; plain = first.plain ++ more.plain }

-- The arguments of a command.
abbrev pub option_value : OptionValue → said.OptionValue
option_value v = record { option = v.option.now; value = string_bytes v.value }

abbrev pub arguments_value : Arguments → said.Arguments
arguments_value a = record { values = map option_value a.values.items; flags = names_of a.flags.items; plain = map string_bytes a.plain.items }
