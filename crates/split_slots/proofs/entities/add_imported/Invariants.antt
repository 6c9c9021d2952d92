use Rattle.std.proofs.Common.{◌≡◌, ◌++◌, take}
use Rattle.split_slots.specs.EntityDescriptions.{imported_in}
use Rattle.split_slots.proofs.entities.add_imported.Given as goal

abbrev pub invariant-loop-import : goal.invariant-loop-import
invariant-loop-import l = l.all ≡ l.initial.all ++ imported_in l.space (take l.import-index l.imports)
