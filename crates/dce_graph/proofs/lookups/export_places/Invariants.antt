use Rattle.base_lists.proofs.Common.{◌≡◌, ℕ, List, drop, bytes_eq}
use Rattle.base_lists.specs.Places.{first_place}
use Rattle.dce_graph.specs.Prelude.{place_in_map}
use Rattle.dce_graph.proofs.lookups.export_places.Given as goal

abbrev pub invariant-loop-place : goal.invariant-loop-place
invariant-loop-place l = (q : List ℕ) → place_in_map l.places q ≡ first_place (λ e. bytes_eq q e.name) (drop l.place l.exports) l.place
