-- That a merged module is observationally equivalent to its parts, linked by name.
use Rattle.std.specs.Prelude.{◌+◌, List}
use Rattle.wasm_tree_spec.specs.Prelude.{Module}
use Rattle.wasm_meaning.specs.Prelude.{Part, alone, Same, events}
use Rattle.merge_names.specs.declared.mode.Mode.{Mode}
use Rattle.merge_spec.specs.Prelude.{joined_module, linked_world}
use Rattle.merge_proof.specs.Joinable.{CanBeJoined}

-- In every environment and for each list of moves, the trace of n steps of the parts, linked by
-- name, is a prefix of the trace of n + 4 steps of this module alone, and the other way round. The
-- 4 covers the function that calls the starts of several parts.
abbrev pub ObservationallyEquivalent : List Part → Mode → Module → Type 0
ObservationallyEquivalent parts mode tree = Same (λ env. Unit {0}) (events (linked_world parts mode)) (events (alone tree)) (λ n. n + 4) (λ n. n + 4)

-- This holds for the merged module, if the parts can be joined.
abbrev pub MergedModuleEquivalent : Type 0
MergedModuleEquivalent = (parts : List Part) (mode : Mode) → CanBeJoined parts mode → ObservationallyEquivalent parts mode (joined_module parts mode)
