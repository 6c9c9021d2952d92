-- The sources of a merge, as values of the definitions.
use Rattle.std.specs.Prelude.{List, map}
use Rattle.tools_cli_spec.specs.CommandLine.{Text}
use Rattle.tools_cli_decide.specs.declared.merge.Source.{Source}
use Rattle.tools_cli_spec.specs.CommandLine as words

-- A source and the sources of a merge; then their files and their names.
abbrev pub source_value : Source → words.Source
source_value source = record { file = source.file.now; name = source.name.now }

abbrev pub source_values : List Source → List words.Source
source_values sources = map source_value sources

abbrev pub files_of : List Source → List Text
files_of sources = map (λ s. s.file) (source_values sources)

abbrev pub source_names : List Source → List Text
source_names sources = map (λ s. s.name.now) sources
