use Rattle.base_lists.proofs.Common.{take, filter_map}
use Rattle.dce_graph.specs.Prelude.{Spread, const_point}
use Rattle.dce_graph.proofs.code.visit_items.Given as goal

abbrev pub invariant-loop-item : goal.invariant-loop-item
invariant-loop-item l = Spread l.initial.search (filter_map const_point (take l.item-index l.items)) l.search
