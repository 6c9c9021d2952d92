use Rattle.base_lists.proofs.Common.{◌≡◌, ◌∙◌, Some, ap, length, refl, subst, sym, slice_get, slice_get_read}
use Rattle.wasm_tree_spec.specs.Prelude.{global_of}
use Rattle.eval_machine.proofs.InitialContents.{none_imported, one_imported}
use Rattle.eval_machine.proofs.initial.imported_slots.Goals.{in-Some+in_ok-keep-in-Some, in-None}
use Rattle.eval_machine.proofs.initial.imported_slots.Goals as goal

pub loop-i-preserved : goal.loop-i-preserved
loop-i-preserved c =
    let at : slice_get c.args.input.now.imports c.loop-i.i ≡ Some c.index-imports-i.result = subst (λ l. slice_get l c.loop-i.i ≡ Some c.index-imports-i.result) c.as_slice-imports.ensures
    (slice_get_read c.as_slice-imports.result.now (length c.as_slice-imports.result.now) c.loop-i.i c.index-imports-i.result refl c.loop-i-test.true c.index-imports-i.is) in
    elim c.match-global.branch [
      | in-Some+in_ok-keep-in-Some w ↦
          rw (w.slots-is, w.in_ok-keep-in-Some.ensures.ok)
          (one_imported c.args.input.now c.loop-i.slots c.loop-i.i c.index-imports-i.result at c.loop-i.invariant w.in-Some.ty w.imported_slot.result (ap (λ x. global_of x.desc) c.index-imports-i.is ∙ (sym c.global.ensures ∙ w.in-Some.is)) w.imported_slot.ensures.ty w.imported_slot.ensures.value
          w.imported_slot.ensures.standing)
      | in-None w ↦ rw w.slots-is (none_imported c.args.input.now c.loop-i.slots c.loop-i.i c.index-imports-i.result at c.loop-i.invariant (ap (λ x. global_of x.desc) c.index-imports-i.is ∙ (sym c.global.ensures ∙ w.in-None.is)))
    ]
