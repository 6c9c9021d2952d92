use Rattle.base_lists.proofs.Common.{◌≡◌, ◌≤◌, ℕ, List, take, contains_text, btree_set_len}
use Rattle.merge_names.specs.Names.{among}
use Rattle.merge_names.specs.Given.{texts}
use Rattle.merge_names.proofs.renaming.set_of.Given as goal

abbrev pub invariant-loop-place : goal.invariant-loop-place
invariant-loop-place l = record {
  has : (q : List ℕ) → contains_text l.taken q ≡ among (take l.place (texts l.names)) q;
  few : btree_set_len l.taken ≤ l.place;
}
