-- Names that other modules use, passed on from one place. Declares nothing.
pub use Rattle.tools_cli_decide.specs.Causes.{IsWithinLimits, StopsWith, total}
pub use Rattle.tools_cli_decide.specs.Command.{decision_value, input_entries, input_entry, input_texts, merge_value, names_of, output_values, split_value, task_value}
pub use Rattle.tools_cli_decide.specs.Refusals.{refusal_text}
pub use Rattle.tools_cli_decide.specs.Sources.{source_names, source_values}
