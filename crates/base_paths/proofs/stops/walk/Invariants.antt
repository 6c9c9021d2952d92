use Rattle.std.proofs.Common.{count_by, is_none}
use Rattle.base_paths.proofs.stops.walk.Given as goal
use Rattle.base_paths.proofs.Marks.{Walking}

abbrev pub invariant-walk : goal.invariant-walk
invariant-walk l = Walking l.steps l.fn.marks.items l.marks.items l.answers.items l.start l.at

abbrev pub decreases-walk : goal.decreases-walk
decreases-walk l = count_by is_none l.marks.items
