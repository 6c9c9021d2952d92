-- What the files that are to be written denote in the definitions.
use Rattle.std.specs.Prelude.{List, map, string_bytes}
pub use Rattle.tools_cli_words.specs.Meaning.{names_of, arguments_value}
use Rattle.tools_cli_spec.specs.Effects.{NamedFile}
use Rattle.tools_cli.specs.declared.perform.Write.{Write}

-- Files to be written.
abbrev pub write_entry : Write → NamedFile
write_entry write = (string_bytes write.name, write.bytes.items)

abbrev pub write_entries : List Write → List NamedFile
write_entries writes = map write_entry writes
