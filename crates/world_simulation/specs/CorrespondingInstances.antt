-- Two worlds whose instances correspond.
use Rattle.std.specs.Prelude.{◌≡◌, ℕ, Bool, List, [], Option}
use Rattle.wasm_tree_spec.specs.Prelude.{Space}
use Rattle.wasm_meaning.specs.Prelude.{Environment, World, Begun, instantiate, Move, tick, events_of, fresh_run, events}
use Rattle.run_simulation.specs.Prelude.{OneToOne, OptRel, BegunRel, passed, EntryByEntry}

-- If neither world can be instantiated, or both can, with results that correspond, their runs have
-- equal traces. Before the instantiation the stores have only what the environment offers, so they
-- need not correspond.
abbrev pub RelatedInstancesHaveEqualTraces : Type 0
RelatedInstancesHaveEqualTraces =
    (of : Space → ℕ → ℕ → Bool) → OneToOne (passed of of []) → (v w : World) (env : Environment) →
    OptRel (BegunRel (passed of of []) (EntryByEntry (passed of of []))) (instantiate env v) (instantiate env w) → (moves : List Move) (n : ℕ) → events v env moves n ≡ events w env moves n

-- The same for any results of instantiation, whatever the worlds are.
abbrev pub RelatedBegunHaveEqualTraces : Type 0
RelatedBegunHaveEqualTraces =
    (of : Space → ℕ → ℕ → Bool) → OneToOne (passed of of []) → (env : Environment) (b c : Option Begun) →
    OptRel (BegunRel (passed of of []) (EntryByEntry (passed of of []))) b c → (moves : List Move) (n : ℕ) → events_of tick (fresh_run env b moves) n ≡ events_of tick (fresh_run env c moves) n
