use Rattle.base_lists.proofs.Common.{◌≡◌, part}
use Rattle.index_remap.proofs.in_place.rewrite_each.Given as goal

abbrev pub invariant-loop-at : goal.invariant-loop-at
invariant-loop-at g l = l.items ≡ part (g.T.Renumber.renewed l.entries) l.initial.items l.at
