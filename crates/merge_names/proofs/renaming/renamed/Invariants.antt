use Rattle.base_lists.proofs.Common.{◌≡◌, ◌≤◌, ◌+◌, map, take, length, Some, contains_text, btree_set_len, bytes_eq}
use Rattle.std.specs.HashMap.{get_by}
use Rattle.merge_names.specs.Names.{renamed}
use Rattle.merge_names.specs.Given.{texts}
use Rattle.merge_names.proofs.Coming.{HasCome}
use Rattle.merge_names.proofs.renaming.renamed.Given as goal

abbrev pub invariant-loop-place : goal.invariant-loop-place
invariant-loop-place l = record {
  made : l.news ≡ map Some (take l.place (renamed (texts l.names)));
  come : HasCome (texts l.names) l.place (take l.place (renamed (texts l.names))) (contains_text l.taken) (λ q. get_by (λ k. bytes_eq q k.now) l.tried);
  few : btree_set_len l.taken ≤ length l.names + l.place;
}
