use Rattle.base_lists.proofs.Common.{◌≡◌, part}
use Rattle.merge_join.proofs.moved.rewrite_each.Given as goal

abbrev pub invariant-loop-at : goal.invariant-loop-at
invariant-loop-at g l = l.items ≡ part (g.T.Moved.renewed l.entries l.values) l.initial.items l.at
