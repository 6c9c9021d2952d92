use Rattle.base_lists.proofs.Common.{◌≡◌, ℕ, List, Option, Contains}
use Rattle.std.specs.Vec.Iter.{into_iter_items}  -- the elements that are still to come
use Rattle.tool_io.specs.FilesAndSinks.{FileContents, NoneFell, Becomes}
use Rattle.tools_cli_spec.specs.Prelude.{made, AreWrittenInPart, written_names}
use Rattle.tools_cli.specs.Writes.{write_entries}
use Rattle.tools_cli.proofs.perform.write_outputs.Given as goal

abbrev pub invariant-loop-output : goal.invariant-loop-output
invariant-loop-output g l = record {
  cut : (new : Option FileContents) → Becomes (g.F.Files.contents l.files) new (AreWrittenInPart (write_entries (into_iter_items l.output-iterator))) → Becomes (g.F.Files.contents l.initial.files) new (AreWrittenInPart (write_entries l.fn.outputs.items));
  made : (new : Option FileContents) → Becomes (g.F.Files.contents l.files) new (λ old new. new ≡ made (write_entries (into_iter_items l.output-iterator)) old) → Becomes (g.F.Files.contents l.initial.files) new (λ old new. new ≡ made (write_entries l.fn.outputs.items) old);
  names : (name : List ℕ) → Contains (written_names (write_entries (into_iter_items l.output-iterator))) name → Contains (written_names (write_entries l.fn.outputs.items)) name;
  reads : NoneFell (g.F.Files.read_faults l.initial.files) (g.F.Files.read_faults l.files);
  writes : NoneFell (g.F.Files.write_faults l.initial.files) (g.F.Files.write_faults l.files);
}
