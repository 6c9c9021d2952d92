use Rattle.base_lists.proofs.Common.{length, map, ◌++◌, ap, sym, ◌∙◌, pos}
use Rattle.base_lists.specs.Places.{numbers}
use Rattle.wasm_tree_spec.specs.Prelude.{LocalGet}
use Rattle.run_simulation.specs.Prelude.{slot_call}
use Rattle.split_slots.proofs.TrampolineBodies.{gets_are}
use Rattle.split_slots.proofs.trampolines.trampoline_body.Goals as goal

pub returns : goal.returns
returns c =
    let call = slot_call c.args.ty c.args.table (pos c.args.slot) in
    c.in_ok-add_slot_call.ensures ∙ ap (λ is. is ++ call) (c.in_ok-add_gets.ensures ∙ ap (λ is. is ++ map LocalGet (numbers 0 (length c.args.params.now))) c.new-body.ensures ∙ sym (gets_are 0 c.args.params.now))
