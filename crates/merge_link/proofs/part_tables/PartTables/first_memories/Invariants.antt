use Rattle.base_lists.proofs.Common.{drop, List, ℕ, ◌≡◌, get_by, nat_cmp, ordering_then, slice_cmp}
use Rattle.merge_link.specs.Prelude.{first_memory}
use Rattle.merge_link.proofs.part_tables.PartTables.first_memories.Given as goal

abbrev pub invariant-loop-at : goal.invariant-loop-at
invariant-loop-at l =
    (a b : List ℕ) → get_by (λ k. ordering_then (slice_cmp nat_cmp a k.0.now) (slice_cmp nat_cmp b k.1.now)) l.firsts ≡ first_memory l.self.parts.now (a, b) (drop l.at l.sites)
