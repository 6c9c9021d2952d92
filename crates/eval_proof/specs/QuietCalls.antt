-- What a quiet call corresponds to over another store.
use Rattle.std.specs.Prelude.{◌≡◌, ℕ, Bool, List, []}
use Rattle.wasm_tree_spec.specs.Prelude.{Space, Module}
use Rattle.wasm_meaning.specs.Prelude.{Gives, Val, Store, Entry, EndsCall, step}
use Rattle.run_simulation.specs.Prelude.{Pairing, OneToOneWhereWritten, ListRel, EntryRel, passed, StoreRelOff}
use Rattle.run_simulation.specs.UnknownPlaces.{GoesOn}
use Rattle.eval_spec.specs.Prelude.{State, Going, Finished, ComesTo, own_inst}
use Rattle.eval_proof.specs.KnownQuietSteps.{RelatesAllButImports, FramesOf, FuncsOf}
use Rattle.eval_proof.specs.UnrelatedPlaces.{LeavesAlone}

-- From this store and these entries, steps that go on, and one that ends the call, lead to a store
-- that is related except for what is unknown after the quiet call.
pub record IsLed (R : Pairing) (t : State) (x : Store) (fs : List Entry) : Type 0 where
  pub number : ℕ
  pub store : Store
  pub entries : List Entry
  pub steps : GoesOn number x fs store entries
  pub values : List Val
  pub after : Store
  pub rest : List Entry
  pub ends : step store entries ≡ Gives (EndsCall values after rest)
  pub related : StoreRelOff R t.unknown t.store after
  -- What is not related, or still unknown, is unchanged.
  pub alone : LeavesAlone R t.unknown x after

-- A quiet call leads the same call over any related store and entries to such an end, if the
-- relation is one-to-one except for functions. Nothing need be known of imported tables, memories
-- and globals, nor of what is unknown.
abbrev pub QuietCallsSimulate : Type 0
QuietCallsSimulate =
    (m : Module) (of named : Space → ℕ → ℕ → Bool) → RelatesAllButImports m of named → OneToOneWhereWritten (passed of named []) → (s t : State) (es : List Entry) →
    FuncsOf (own_inst m) s.store.funcs → FramesOf (own_inst m) es →
    ComesTo m (Going s es) (Finished t) → (x : Store) (fs : List Entry) → StoreRelOff (passed of named []) s.unknown s.store x → ListRel (EntryRel (passed of named [])) es fs →
    IsLed (passed of named []) t x fs
