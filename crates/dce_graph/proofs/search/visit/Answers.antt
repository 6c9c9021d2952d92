use Rattle.std.proofs.Common.{sym}
use Rattle.dce_graph.proofs.Marking.{spread_new}
use Rattle.dce_graph.proofs.search.visit.Goals as goal

pub returns : goal.returns
returns c = rw (c.mark.ensures, c.in_ok-keep.ensures.ok) (spread_new c.args.search.now c.args.point (sym c.if-not-is_unmet.ensures))
