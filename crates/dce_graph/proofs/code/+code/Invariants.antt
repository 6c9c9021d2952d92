use Rattle.base_lists.proofs.Common.{take}
use Rattle.dce_graph.specs.Prelude.{Spread, body_points}
use Rattle.dce_graph.proofs.code.+code.Given as goal

abbrev pub invariant-visit_body-loop-instr : goal.invariant-visit_body-loop-instr
invariant-visit_body-loop-instr l = Spread l.initial.search (body_points (take l.instr-index l.body)) l.search
