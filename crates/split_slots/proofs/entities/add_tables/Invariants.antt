use Rattle.std.proofs.Common.{◌≡◌, ◌++◌, map, take}
use Rattle.wasm_tree.specs.declared.module.ImportDesc.TheVariants as im
use Rattle.split_slots.proofs.entities.add_tables.Given as goal

abbrev pub invariant-loop-table : goal.invariant-loop-table
invariant-loop-table l = l.all ≡ l.initial.all ++ map (λ t. im.Table t) (take l.table-index l.tables)
