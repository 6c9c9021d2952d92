-- That sequential instantiation of parts is observationally equivalent to instantiation at once.
use Rattle.std.specs.Prelude.{◌≡◌, ℕ, ◌+◌, ◌*◌, ◌<◌, length, Some}
use Rattle.wasm_tree_spec.specs.Prelude.{Module}
use Rattle.wasm_valid.specs.Prelude.{IsValid}
use Rattle.wasm_meaning.specs.Prelude.{module_at, World, Same, events, events_sequential, JoinsEarlier, NoLateSegments}
use Rattle.wasm_meaning.specs.Sequential.{BeginsWell}

-- In each environment that links the world at once and in which no segment traps, and for each list
-- of moves, the trace of n steps of the world at once is a prefix of the trace of its sequential
-- instantiation with four more steps for each part, and the other way round.
abbrev pub SequentiallyEquivalent : World → Type 0
SequentiallyEquivalent w = Same (λ env. BeginsWell env w) (events w) (events_sequential w) (λ n. n + 4 * length w.parts) (λ n. n + 4 * length w.parts)

-- This holds if there is at least one part, each joined import leads to an earlier part, and no
-- part after one with a start has an active segment.
abbrev pub SequentialInstantiationEquivalent : World → Type 0
SequentialInstantiationEquivalent w = 0 < length w.parts → JoinsEarlier w.parts → NoLateSegments w.parts → SequentiallyEquivalent w

-- It holds for every world of valid parts. (Validity is needed: without it a part could initialise
-- a global from another part's mutable global, which a start could have set.)
abbrev pub SequentialInstantiationIsEquivalent : Type 0
SequentialInstantiationIsEquivalent = (w : World) → ((p : ℕ) (m : Module) → module_at w.parts p ≡ Some m → IsValid m) → SequentialInstantiationEquivalent w
