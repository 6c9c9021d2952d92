use Rattle.std.proofs.Common.{◌≡◌, drop, ℕ, List}
use Rattle.split_plan.specs.NameTable.{held_of, entry_of}
use Rattle.split_plan.proofs.named.named_functions.Given as goal

abbrev pub invariant-loop-at : goal.invariant-loop-at
invariant-loop-at l = (word : List ℕ) → held_of l.table word ≡ entry_of l.module (drop l.at l.names) word
