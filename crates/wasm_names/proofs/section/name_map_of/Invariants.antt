use Rattle.std.proofs.Common.{length}
use Rattle.wasm_names.specs.Reading.{lent_option}
use Rattle.wasm_names.proofs.Subsections.{GoesOn}
use Rattle.wasm_names.proofs.section.name_map_of.Given as goal

abbrev pub invariant-loop-id : goal.invariant-loop-id
invariant-loop-id l = GoesOn l.content (lent_option l.found) l.cursor

abbrev pub decreases-loop-id : goal.decreases-loop-id
decreases-loop-id l = length l.cursor
