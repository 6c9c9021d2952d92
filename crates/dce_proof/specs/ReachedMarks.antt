-- The law of marks on exactly what is reached.
use Rattle.wasm_tree_spec.specs.Prelude.{Module}
use Rattle.wasm_valid.specs.Prelude.{IsValid}
use Rattle.dce_graph.specs.declared.graph.Graph.{Graph}
use Rattle.dce_graph.specs.declared.marks.Reached.{Reached}
use Rattle.dce_graph.specs.Prelude.{AreExact}
use Rattle.dce_spec.specs.Closed.{AreClosed}
use Rattle.dce_spec.specs.Reached.{marks_of}

-- marks on exactly what is reached from the roots of a graph and a valid module are closed
abbrev pub ReachedMarksAreClosed : Type 0
ReachedMarksAreClosed = (g : Graph) (m : Module) (r : Reached) → IsValid m → AreExact g m r → AreClosed (marks_of r) m
