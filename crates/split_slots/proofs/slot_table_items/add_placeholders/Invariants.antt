use Rattle.std.proofs.Common.{◌≡◌, ◌++◌, take}
use Rattle.split_slots.specs.PlaceholderList.{placeholders_of}
use Rattle.split_slots.proofs.slot_table_items.add_placeholders.Given as goal

abbrev pub invariant-loop-slot : goal.invariant-loop-slot
invariant-loop-slot l = l.imports ≡ l.initial.imports ++ placeholders_of l.namespace l.types 0 (take l.slot l.moved)
