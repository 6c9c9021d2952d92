-- The addresses that the parts, linked by name, and their merged module both have: those of the
-- environment's entities, and of what the parts define. They are the same numbers, because both
-- allocate what the parts define part by part.
use Rattle.std.specs.Prelude.{ℕ, length, List, [], Bool, nat_eq, nat_lt, ◌&&◌}
use Rattle.wasm_tree_spec.specs.Prelude.{Space}
use Rattle.wasm_meaning.specs.Prelude.{Part, Environment, base}
use Rattle.run_simulation.specs.Prelude.{Pairing, passed}

-- how many shared addresses an index space has
abbrev pub shared_count : Environment → List Part → Space → ℕ
shared_count env parts k = base env parts k (length parts)

-- an address and itself, if both have it
abbrev pub is_shared : Environment → List Part → Space → ℕ → ℕ → Bool
is_shared env parts k a b = nat_eq a b && nat_lt a (shared_count env parts k)

abbrev pub sharing : Environment → List Part → Pairing
sharing env parts = passed (is_shared env parts) (is_shared env parts) []
