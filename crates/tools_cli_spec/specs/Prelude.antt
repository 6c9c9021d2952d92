-- Names that other modules use, passed on from one place. Declares nothing.
pub use Rattle.tools_cli_spec.specs.CommandLine.{CtorEval, CtorEvalTask, Merge, MergeTask, Metadce, MetadceTask, Sample, SampleTask, Source, Split, SplitTask, Task, Text, are_apart, inputs_of}
pub use Rattle.tools_cli_spec.specs.CommandLine.{many_of, modules_of, source_files, task_of, texts_of}
pub use Rattle.tools_cli_spec.specs.Effects.{AreWrittenInPart, NamedFile, made, written_names}
pub use Rattle.tools_cli_spec.specs.Job.{AllLoad, AreMerged, Decides, Decision, Done, Evaluates, Gathered, HasJob, InputsJob, IsAccepted, IsReadAs, Job, Lacks, LoadsFile, Makes, Merges, OneFails}
pub use Rattle.tools_cli_spec.specs.Job.{Output, Refused, Refuses, Samples, Splits, SweepsByGraph, TaskJob, TooLong, Usage, Whole, add_file, add_first, all_read, asked, contents_of, decided}
pub use Rattle.tools_cli_spec.specs.Job.{evaluated, faulty, gathered, invalid, is_within, job_of, loaded, merged, missing, module_files, most_input, most_output, no_graph, no_plan, no_task}
pub use Rattle.tools_cli_spec.specs.Job.{not_begun, not_evaluated, not_joined, not_linked, not_loaded, not_merged, not_parted, not_swept, parted, parts_of, refused_before, sample_merge}
pub use Rattle.tools_cli_spec.specs.Job.{sample_modules, sample_parts, sampled, spelled_output, swept_by_marks, too_long, words_plan}
pub use Rattle.tools_cli_spec.specs.KeptFuncs.{kept_lines}
pub use Rattle.tools_cli_spec.specs.Run.{HostState}
pub use Rattle.tools_cli_spec.specs.Texts.{fault_text, link_text, over_limit}
pub use Rattle.tools_cli_spec.specs.Unmarked.{unmarked_from, unmarked_names}
pub use Rattle.tools_cli_spec.specs.Unused.{unused_lines}
