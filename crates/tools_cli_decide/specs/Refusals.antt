-- The text of a refusal.
use Rattle.tools_cli_spec.specs.CommandLine.{Text}
use Rattle.tools_cli_spec.specs.Texts.{invalid_text, import_mismatch, import_cycle, limits_clash, global_cycle, too_many_memories, export_conflict, not_module, malformed}
use Rattle.tools_cli_spec.specs.Texts.{malformed_body, unsupported, unsupported_body, over_limit, too_many_parts, too_many, not_json, wrong_shape, node_twice}
use Rattle.tools_cli_spec.specs.Texts.{unknown_node, no_function, several_functions, kept_and_split, namespace_taken, prefix_taken, no_exported_function}
use Rattle.tools_cli_decide.specs.declared.refusal.Refusal.{Refusal}
use Rattle.tools_cli_decide.specs.declared.refusal.Refusal.TheVariants.{NotModule, Malformed, MalformedBody, Unsupported, UnsupportedBody, Limit, Invalid, TooManyParts, ImportMismatch}
use Rattle.tools_cli_decide.specs.declared.refusal.Refusal.TheVariants.{ImportCycle, LimitsClash, TooManyMemories, GlobalCycle, ExportConflict, TooMany, GraphText, GraphShape}
use Rattle.tools_cli_decide.specs.declared.refusal.Refusal.TheVariants.{NodeTwice, UnknownNode, NoSuchFunction, AmbiguousFunction, KeptAndSplit, NamespaceTaken, PrefixTaken, NoSuchExport}

-- The text of a refusal.
abbrev pub refusal_text : Refusal → Text
refusal_text (NotModule file) = not_module file.now
refusal_text (Malformed file section) = malformed file.now section.number
refusal_text (MalformedBody file func) = malformed_body file.now func.number
refusal_text (Unsupported file section) = unsupported file.now section.number
refusal_text (UnsupportedBody file func) = unsupported_body file.now func.number
refusal_text (Limit file which) = over_limit file.now which
refusal_text (Invalid file kind index) = invalid_text file.now (record { kind = kind; index = index.number })
refusal_text TooManyParts = too_many_parts
refusal_text (ImportMismatch file import) = import_mismatch file.now import.number
refusal_text (ImportCycle file import) = import_cycle file.now import.number
refusal_text (LimitsClash file import) = limits_clash file.now import.number
refusal_text TooManyMemories = too_many_memories
refusal_text (GlobalCycle file global) = global_cycle file.now global.number
refusal_text (ExportConflict name) = export_conflict name
refusal_text (TooMany which) = too_many which
refusal_text (GraphText file) = not_json file.now
refusal_text (GraphShape file entry) = wrong_shape file.now entry.number
refusal_text (NodeTwice file name) = node_twice file.now name
refusal_text (UnknownNode file name) = unknown_node file.now name
refusal_text (NoSuchFunction name) = no_function name
refusal_text (AmbiguousFunction name) = several_functions name
refusal_text (KeptAndSplit name) = kept_and_split name
refusal_text (NamespaceTaken file import) = namespace_taken file.now import.number
refusal_text (PrefixTaken name) = prefix_taken name
refusal_text (NoSuchExport name) = no_exported_function name
