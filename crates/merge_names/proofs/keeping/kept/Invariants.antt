use Rattle.base_lists.proofs.Common.{◌≡◌, ◌++◌, [], ℕ, List, take, drop, is_some, bytes_eq}
use Rattle.std.specs.HashMap.{get_by}
use Rattle.merge_names.specs.Names.{among, kept_behind}
use Rattle.merge_names.specs.Given.{texts}
use Rattle.merge_names.proofs.keeping.kept.Given as goal

abbrev pub invariant-loop-place : goal.invariant-loop-place
invariant-loop-place l = record {
  came : (q : List ℕ) → is_some (get_by (λ k. bytes_eq q k.now) l.came) ≡ among (take l.place (texts l.names)) q;
  ahead : kept_behind [] (texts l.names) ≡ l.all ++ kept_behind (take l.place (texts l.names)) (drop l.place (texts l.names));
}
