use Rattle.base_lists.proofs.Common.{◌≡◌, drop, ℕ, List, option_map}
use Rattle.split_plan.specs.declared.named.Named.TheVariants.{Exported}
use Rattle.split_plan.specs.NamedFunctions.{exported_among}
use Rattle.split_plan.specs.NameTable.{held_of}
use Rattle.split_plan.proofs.named.exported.Given as goal

abbrev pub invariant-loop-at : goal.invariant-loop-at
invariant-loop-at l = (word : List ℕ) → held_of l.table word ≡ option_map Exported (exported_among l.module (drop l.at l.exports) word)
