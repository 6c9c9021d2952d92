use Rattle.base_lists.proofs.Common.{◌≡◌, ℕ, List, map, take, drop, Some, is_some, bytes_eq}
use Rattle.std.specs.HashMap.{get_by}
use Rattle.merge_names.specs.Names.{among, conflict_behind, first_repeated}
use Rattle.merge_names.specs.Given.{texts}
use Rattle.merge_names.proofs.keeping.all_of.Given as goal

abbrev pub invariant-loop-place : goal.invariant-loop-place
invariant-loop-place l = record {
  came : (q : List ℕ) → is_some (get_by (λ k. bytes_eq q k.now) l.came) ≡ among (take l.place (texts l.names)) q;
  made : l.all ≡ map Some (take l.place (texts l.names));
  ahead : first_repeated (texts l.names) ≡ conflict_behind (take l.place (texts l.names)) (drop l.place (texts l.names));
}
