-- One law for two worlds: their traces are equal if what their parts define corresponds under a
-- one-to-one relation of addresses, their segments, starts and views are in the same order, and the
-- environment links both or neither.
use Rattle.std.specs.Prelude.{◌≡◌, ℕ, Bool, List, [], Some, true}
use Rattle.wasm_tree_spec.specs.Prelude.{Space, Functions}
use Rattle.wasm_meaning.specs.Prelude.{Inst, Store, Text, Environment, ExternalValue, all_of, sites, World, Begun, insts_from, stores_from, own_store, all_there, seen_as, starts_of, is_matched}
use Rattle.wasm_meaning.specs.Prelude.{segments, begun, instantiate, links, Move, events}
use Rattle.run_simulation.specs.Prelude.{Pairing, OneToOne, OptRel, ListRel, StoreRel, KeyRel, BegunRel, passed, EntryByEntry}
use Rattle.world_simulation.specs.EnvironmentEntities.{SharesOwn}
use Rattle.world_simulation.specs.CorrespondingDefinitions.{Instantiated, DefinitionsCorrespond}
use Rattle.world_simulation.specs.SegmentsInOrder.{ElemsInOrder, DatasInOrder}

-- ---- a world that is instantiated ----

-- What the instantiation of a world makes: the instances of its parts, the store that is allocated
-- for them, and what the names of its view denote. All imports match, and then the segments are
-- copied.
pub record IsInstantiated (env : Environment) (w : World) (b : Begun) : Type 0 where
  pub insts : List Inst
  pub are_insts : insts_from env w.parts 0 w.parts ≡ Some insts
  pub allocated : Store
  pub is_allocated : stores_from env w.parts insts (own_store env) 0 w.parts insts ≡ Some allocated
  pub view : List (Text × ExternalValue)
  pub is_view : all_there (seen_as insts) w.view ≡ Some view
  pub matched : all_of (is_matched env w.parts allocated) (sites w.parts) ≡ true
  pub is : begun env w insts view (segments env w.parts insts allocated) ≡ b

abbrev pub WhatIsInstantiated : Type 0
WhatIsInstantiated = (env : Environment) (w : World) (b : Begun) → instantiate env w ≡ Some b → IsInstantiated env w b

abbrev pub in_world : World → List Inst → Instantiated
in_world w insts = record { parts = w.parts; insts = insts }

-- ---- what has to correspond ----

-- two worlds correspond, whose parts have the instances `is` and `js` in an environment
pub record WorldsCorrespond (R : Pairing) (env : Environment) (v w : World) (is js : List Inst) : Type 0 where
  -- each of the environment's own entities is related to itself
  pub own : SharesOwn R env
  pub definitions : DefinitionsCorrespond R env (in_world v is) (in_world w js)
  pub elems : ElemsInOrder R env (in_world v is) (in_world w js)
  pub datas : DatasInOrder R env (in_world v is) (in_world w js)
  -- the same names, in the same order, for related external values
  pub view : ListRel (λ x y. OptRel (KeyRel R) (seen_as is x) (seen_as js y)) v.view w.view

-- they correspond for all instances that the environment gives their parts
abbrev pub AreSimilar : Pairing → Environment → World → World → Type 0
AreSimilar R env v w = (is js : List Inst) → insts_from env v.parts 0 v.parts ≡ Some is → insts_from env w.parts 0 w.parts ≡ Some js → WorldsCorrespond R env v w is js

-- with such instances, related functions are started, in the same order
abbrev pub StartsCorrespond : Pairing → Environment → World → World → Type 0
StartsCorrespond R env v w = (is js : List Inst) → insts_from env v.parts 0 v.parts ≡ Some is → insts_from env w.parts 0 w.parts ≡ Some js →
    ListRel (R.of Functions) (starts_of v.parts is) (starts_of w.parts js)

-- ---- the laws ----

-- what two worlds are instantiated to, without what they start: related stores, trapped both or
-- neither, and the same names for related external values
abbrev pub BegunRelated : Pairing → Begun → Begun → Type 0
BegunRelated R = BegunRel R (λ s t es fs. Unit {0})

-- Before segments are copied, the allocated stores are related, whichever functions are opaque.
abbrev pub AllocatedStoresCorrespond : Type 0
AllocatedStoresCorrespond =
    (of named : Space → ℕ → ℕ → Bool) (l : List ℕ) (env : Environment) (v w : World) (is js : List Inst) (s z : Store) → SharesOwn (passed of named l) env →
    DefinitionsCorrespond (passed of named l) env (in_world v is) (in_world w js) →
    stores_from env v.parts is (own_store env) 0 v.parts is ≡ Some s → stores_from env w.parts js (own_store env) 0 w.parts js ≡ Some z → StoreRel (passed of named l) s z

-- If both are instantiated, the results correspond, except for what they start, whichever functions
-- are opaque.
abbrev pub CorrespondingWorldsBeginRelated : Type 0
CorrespondingWorldsBeginRelated =
    (of named : Space → ℕ → ℕ → Bool) (l : List ℕ) → OneToOne (passed of named l) → (env : Environment) (v w : World) → AreSimilar (passed of named l) env v w →
    (b c : Begun) → instantiate env v ≡ Some b → instantiate env w ≡ Some c → BegunRelated (passed of named l) b c

-- Neither is instantiated, or both are, to related states, trapped both or neither; and so their
-- traces are equal, step by step.
abbrev pub CorrespondingWorldsAreInstantiatedRelated : Type 0
CorrespondingWorldsAreInstantiatedRelated =
    (of : Space → ℕ → ℕ → Bool) → OneToOne (passed of of []) → (env : Environment) (v w : World) → links env v ≡ links env w → AreSimilar (passed of of []) env v w →
    StartsCorrespond (passed of of []) env v w →
    OptRel (BegunRel (passed of of []) (EntryByEntry (passed of of []))) (instantiate env v) (instantiate env w)

abbrev pub CorrespondingWorldsHaveEqualTraces : Type 0
CorrespondingWorldsHaveEqualTraces =
    (of : Space → ℕ → ℕ → Bool) → OneToOne (passed of of []) → (env : Environment) (v w : World) → links env v ≡ links env w → AreSimilar (passed of of []) env v w →
    StartsCorrespond (passed of of []) env v w →
    (moves : List Move) (n : ℕ) → events v env moves n ≡ events w env moves n
