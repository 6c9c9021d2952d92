use Rattle.base_lists.proofs.Common.{◌≡◌, ◌+◌, ◌++◌, ◌∷◌, [], cond, is_some, Some, slice_get, set, arith, ap, ◌∙◌, sym, none_past}
use Rattle.split_slots.specs.SlotLookup.{slot_at}
use Rattle.split_slots.specs.DividedDefinitions.{parted_func}
use Rattle.split_slots.proofs.DividedFunctions.{own_more, parted_at, parted_more}
use Rattle.split_slots.proofs.function_division.part_funcs.Goals as goal
use Rattle.split_slots.proofs.function_division.part_funcs.Goals.{in-Some+in_ok-part_one, in_default}

pub loop-at-preserved : goal.loop-at-preserved
loop-at-preserved c =
    let types = c.args.types.now in
    let calls = c.args.calls.now in
    let first = c.args.first in
    let fs = c.args.funcs.now in
    let i = c.loop-at.at in
    elim c.match-get_mut.branch [
      | in-Some+in_ok-part_one w ↦
          let f = w.in-Some.func.now in
          let at : Some f ≡ slice_get fs i = w.in-Some.ensures.value ∙ ap (λ ys. slice_get ys i) c.loop-at.invariant.left ∙ parted_at types calls first fs i in
          let slot : w.slot_at-slot.result ≡ slot_at calls.slots.now (first + i) = w.slot_at-slot.ensures in
          record {
            left =
                w.funcs-is ∙ ap (set c.loop-at.funcs i) (w.in_ok-part_one.ensures.left ∙ ap (λ o. parted_func types calls o f) slot)
                ∙ ap (λ ys. set ys i (parted_func types calls (slot_at calls.slots.now (first + i)) f)) c.loop-at.invariant.left ∙ parted_more types calls first fs i f at;
            own =
                w.own-is ∙ w.in_ok-part_one.ensures.own ∙ ap (λ o. c.loop-at.own ++ cond (is_some o) (f ∷ []) []) slot
                ∙ ap (λ xs. xs ++ cond (is_some (slot_at calls.slots.now (first + i))) (f ∷ []) []) c.loop-at.invariant.own ∙ sym (own_more types calls first fs i f at);
          }
      | in_default w ↦
          let past = none_past fs i (w.in_default.ensures.value ∙ ap (λ ys. slice_get ys i) c.loop-at.invariant.left ∙ parted_at types calls first fs i) in
          absurd (omega (arith, past, c.loop-at-test.true, c.len-at-end.ensures))
    ]

pub part_one-requires-clause-params : goal.part_one-requires-clause-params
part_one-requires-clause-params c =
    let fs = c.args.funcs.now in
    let i = c.loop-at.at in
    let at : Some c.in-Some.func.now ≡ slice_get fs i = c.in-Some.ensures.value ∙ ap (λ ys. slice_get ys i) c.loop-at.invariant.left ∙ parted_at c.args.types.now c.args.calls.now c.args.first fs i in
    c.requires.params i c.in-Some.func.now (sym at)
