use Rattle.std.proofs.Common.{true, false, Some, append-nil, ap, sym, ◌∙◌}
use Rattle.split_slots.specs.ImportList.{import_of}
use Rattle.split_slots.proofs.AddedExports.{mark_there}
use Rattle.split_slots.proofs.AddedImports.{one_chosen}
use Rattle.split_slots.proofs.imports_from_primary.add_marked.Goals.{then-marks-at+in_ok-add_one, else-marks-at}
use Rattle.split_slots.proofs.imports_from_primary.add_marked.Goals as goal

pub loop-at-preserved : goal.loop-at-preserved
loop-at-preserved c =
    let marks = c.args.marks.now in
    let k = c.loop-at.at in
    let old = c.args.imports.now in
    let now = c.loop-at.imports in
    let there = mark_there marks k c.loop-at-test.true in
    elim c.if-marks-at.branch [
      | then-marks-at+in_ok-add_one w ↦
          one_chosen (import_of c.args.names.now c.args.space c.args.entities.now) marks k true (there ∙ ap Some w.if-marks-at.true) old now c.if-marks-at.imports
          (w.imports-is ∙ w.in_ok-add_one.ensures) c.loop-at.invariant
      | else-marks-at w ↦
          one_chosen (import_of c.args.names.now c.args.space c.args.entities.now) marks k false (there ∙ ap Some w.if-marks-at.false) old now c.if-marks-at.imports
          (w.imports-is ∙ sym (append-nil now)) c.loop-at.invariant
    ]
