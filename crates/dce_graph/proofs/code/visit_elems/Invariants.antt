use Rattle.base_lists.proofs.Common.{take, flat_map}
use Rattle.dce_graph.specs.Prelude.{Spread, elem_points}
use Rattle.dce_graph.proofs.code.visit_elems.Given as goal

abbrev pub invariant-loop-segment : goal.invariant-loop-segment
invariant-loop-segment l = Spread l.initial.search (flat_map (λ s. elem_points s.mode s.items) (take l.segment-index l.segments)) l.search
