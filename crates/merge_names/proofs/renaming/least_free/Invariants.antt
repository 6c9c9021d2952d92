use Rattle.base_lists.proofs.Common.{◌≡◌, ℕ, ◌<◌, ◌≤◌, ◌+◌, ◌-◌, true, contains_text, btree_set_len}
use Rattle.merge_names.specs.Names.{numbered}
use Rattle.merge_names.proofs.renaming.least_free.Given as goal

abbrev pub invariant-number : goal.invariant-number
invariant-number l = record {
  from_one : 1 ≤ l.k;
  tried : (j : ℕ) → 1 ≤ j → j < l.k → contains_text l.taken (numbered l.name j) ≡ true;
}

abbrev pub decreases-number : goal.decreases-number
decreases-number l = btree_set_len l.taken + 1 - l.k
