use Rattle.std.proofs.Common.{◌≡◌, map}
use Rattle.base_lists.specs.Places.{numbers}
use Rattle.wasm_tree.specs.declared.module.ConstExpr.TheVariants.{Func}
use Rattle.split_slots.proofs.slot_table_items.refs_from.Given as goal

abbrev pub invariant-loop-at : goal.invariant-loop-at
invariant-loop-at l = l.all ≡ map Func (numbers l.base l.at)
