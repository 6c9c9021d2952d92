use Rattle.base_lists.proofs.Common.{◌∙◌, sym, ap, ◌++◌, ◌∷◌, [], List, Option, Some, None, map, take, arith, slice_get-get_or, take_more, map_push}
use Rattle.merge_link.specs.declared.part_tables.Ending.{Ending}
use Rattle.merge_link.proofs.matching.known_ends.Goals as goal
use Rattle.merge_link.proofs.matching.known_ends.Goals.{in-None, in-Some+in_ok-push-in-Some}

pub loop-end-preserved : goal.loop-end-preserved
loop-end-preserved c =
    elim c.match-end.branch [
      | in-None w ↦ absurd (c.requires c.loop-end.end-index (slice_get-get_or c.args.ends.now c.loop-end.end-index None (omega arith) ∙ ap Some w.in-None.is))
      | in-Some+in_ok-push-in-Some w ↦
          rw w.known-is (ap (map Some) w.in_ok-push-in-Some.ensures.items ∙ map_push Some c.loop-end.known.items w.in-Some.end ∙ ap (λ (xs : List (Option Ending)). xs ++ Some w.in-Some.end ∷ []) c.loop-end.invariant
          ∙ ap (λ (o : Option Ending). take c.loop-end.end-index c.args.ends.now ++ o ∷ []) (sym w.in-Some.is) ∙ sym (take_more c.args.ends.now c.loop-end.end-index None (omega arith)))
    ]
