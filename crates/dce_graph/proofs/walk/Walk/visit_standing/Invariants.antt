use Rattle.dce_graph.specs.Walks.{IsMeeting, is_of_pair, ahead}
use Rattle.dce_graph.proofs.walk.Walk.visit_standing.Given as goal

abbrev pub invariant-loop-next : goal.invariant-loop-next
invariant-loop-next l = IsMeeting l.self.graph.now.nodes (is_of_pair l.import.«module» l.import.field) l.next l.initial.search l.search

abbrev pub decreases-loop-next : goal.decreases-loop-next
decreases-loop-next l = ahead l.next
