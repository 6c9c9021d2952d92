use Rattle.base_lists.proofs.Common.{ap, arith, into_iter_items}
use Rattle.tool_io.specs.FilesAndSinks.{Becomes}
use Rattle.tools_cli.specs.Writes.{write_entries}
use Rattle.tools_cli_spec.specs.Prelude.{written_names}
use Rattle.tools_cli.specs.Writes.{write_entry}
use Rattle.tools_cli.proofs.Gathering.{contains_later}
use Rattle.tools_cli.proofs.Performing.{Writes, cut_more, made_more}
use Rattle.tools_cli.proofs.perform.write_outputs.Goals as goal

pub loop-output-preserved : goal.loop-output-preserved
loop-output-preserved g c =
    let w = write_entry c.in-Some.output in
    let rest = write_entries (into_iter_items c.next.new.self) in
    let same = ap write_entries c.in-Some.ensures.steps.0 in
    let written : Becomes (g.F.Files.contents c.loop-output.files) (g.F.Files.contents c.write.new.self) (Writes w) = rw (c.as_str.ensures.value, c.as_slice.ensures.value) at c.in-Ok.ensures.written in
    record {
      cut = λ new p. c.loop-output.invariant.cut new (rw same (cut_more _ _ new w rest written p));
      made = λ new p. c.loop-output.invariant.made new (rw same (made_more _ _ new w rest written p));
      names = λ name p. c.loop-output.invariant.names name (rw same (contains_later w.0 (written_names rest) name p));
      reads = λ name. let a = c.loop-output.invariant.reads name in let b = c.write.ensures.reads name in omega arith;
      writes = λ name. let a = c.loop-output.invariant.writes name in let b = c.write.ensures.writes name in omega arith;
    }
