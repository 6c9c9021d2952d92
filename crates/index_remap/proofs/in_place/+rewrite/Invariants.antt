use Rattle.base_lists.proofs.Common.{◌≡◌, part}
use Rattle.index_remap.specs.Prelude.{renumbered}
use Rattle.index_remap.proofs.in_place.+rewrite.Given as goal

abbrev pub invariant-rewrite_all-loop-at : goal.invariant-rewrite_all-loop-at
invariant-rewrite_all-loop-at l = l.body ≡ part (renumbered l.map) l.initial.body l.at
