use Rattle.std.proofs.Common.{drop, ◌++◌, ◌≡◌}
use Rattle.wasm_meaning.specs.Linking as linking
use Rattle.merge_link.proofs.tables.places.Given as goal

abbrev pub invariant-loop-at : goal.invariant-loop-at
invariant-loop-at l =
    l.places.items ++ linking.places (linking.has_kind l.space) (drop l.at l.imports) l.at ≡ linking.places (linking.has_kind l.space) l.imports 0
