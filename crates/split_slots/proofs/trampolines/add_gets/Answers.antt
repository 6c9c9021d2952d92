use Rattle.base_lists.proofs.Common.{◌++◌, ◌∷◌, [], append_assoc, ap, sym, ◌∙◌}
use Rattle.wasm_tree_spec.specs.Prelude.{LocalGet}
use Rattle.split_slots.proofs.TrampolineBodies.{counted_more}
use Rattle.split_slots.proofs.trampolines.add_gets.Goals as goal

pub loop-local-preserved : goal.loop-local-preserved
loop-local-preserved c =
    c.in_ok-keep.ensures.ok ∙ ap (λ is. is ++ LocalGet c.loop-local.local ∷ []) c.loop-local.invariant
    ∙ append_assoc c.args.body.now _ (LocalGet c.loop-local.local ∷ []) ∙ ap (λ is. c.args.body.now ++ is) (sym (counted_more LocalGet c.loop-local.local))
