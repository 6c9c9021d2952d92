-- Related runs: a relation of addresses relates their states, and given relations relate their
-- stacks.
use Rattle.std.proofs.Common.{◌≡◌, ℕ, List, [], ◌∷◌, Option, slice_get}
use Rattle.wasm_tree_spec.specs.Prelude.{Space, Functions, Tables, Memories, Globals, ElementSegments, DataSegments}
use Rattle.wasm_meaning.specs.Prelude.{Text, Store, Entry, Opening, ExternalValue, FuncAt, TableAt, MemoryAt, GlobalAt, Begun, Phase, Fresh, Pending, Opened, Closed, Run, Out}
use Rattle.run_simulation.specs.Related.{Pairing, OptRel, ListRel, StoreRel}

pub data ExternalValueRel (R : Pairing) : ExternalValue → ExternalValue → Type 0 where
  a_func : {a b : ℕ} → R.of Functions a b → ExternalValueRel R (FuncAt a) (FuncAt b)
  a_table : {a b : ℕ} → R.of Tables a b → ExternalValueRel R (TableAt a) (TableAt b)
  a_memory : {a b : ℕ} → R.of Memories a b → ExternalValueRel R (MemoryAt a) (MemoryAt b)
  a_global : {a b : ℕ} → R.of Globals a b → ExternalValueRel R (GlobalAt a) (GlobalAt b)

pub record KeyRel (R : Pairing) {K : Type 0} (x y : K × ExternalValue) : Type 0 where
  pub key : x.0 ≡ y.0
  pub thing : ExternalValueRel R x.1 y.1

-- The same is shown, and the functions that were shown are related, number by number.
pub record ShowRel (R : Pairing) {A : Type 0} (x y : A × List ℕ) : Type 0 where
  pub same : x.0 ≡ y.0
  pub shown : ListRel (R.of Functions) x.1 y.1

-- The results of two instantiations are related, field by field, the start functions by the entry
-- `Opening` that holds them. Empty stacks are related, too.
pub record BegunRel (R : Pairing) (B : Store → Store → List Entry → List Entry → Type 0) (b c : Begun) : Type 0 where
  pub store : StoreRel R b.store c.store
  pub entries : B b.store c.store (Opening b.starts ∷ []) (Opening c.starts ∷ [])
  pub closed : B b.store c.store [] []
  pub trapped : b.trapped ≡ c.trapped
  pub view : ListRel (KeyRel R) b.view c.view
  pub owned : ListRel (KeyRel R) b.owned c.owned

pub data PhaseRel (R : Pairing) (B : Store → Store → List Entry → List Entry → Type 0) : Phase → Phase → Type 0 where
  fresh : {b c : Option Begun} → OptRel (BegunRel R B) b c → PhaseRel R B (Fresh b) (Fresh c)
  pending : {vs ws : List (Text × ExternalValue)} → ListRel (KeyRel R) vs ws → PhaseRel R B (Pending vs) (Pending ws)
  opened : PhaseRel R B Opened Opened
  closed : PhaseRel R B Closed Closed

-- The runs are related, field by field, their stacks by `B`. Before the instantiation, its results
-- are related, too, with the stacks that it leaves related by `F`.
pub record RunRel (R : Pairing) (B F : Store → Store → List Entry → List Entry → Type 0) (r q : Run) : Type 0 where
  pub store : StoreRel R r.store q.store
  pub entries : B r.store q.store r.entries q.entries
  pub phase : PhaseRel R F r.phase q.phase
  pub shown : ListRel (R.of Functions) r.shown q.shown
  pub view : ListRel (KeyRel R) r.view q.view
  pub owned : ListRel (KeyRel R) r.owned q.owned
  pub moves : r.moves ≡ q.moves

-- The steps have the same event and lead to related runs.
pub record OutRel (R : Pairing) (B F : Store → Store → List Entry → List Entry → Type 0) (o p : Out) : Type 0 where
  pub event : o.1 ≡ p.1
  pub run : RunRel R B F o.0 p.0

-- The same addresses, read from the second store to the first, without opaque functions.
abbrev pub turned : Pairing → Pairing
turned R = record { of = λ k a b. R.of k b a; named = λ k a b. R.named k b a; listed = λ a. ⊥; stands = λ j a e. ⊥ }

-- Nothing is related to this address of the second store. (For an address of the first store, use
-- `turned`.)
abbrev pub HasNoPartner : Pairing → Space → ℕ → Type 0
HasNoPartner R k b = (a : ℕ) → R.of k a b → ⊥

-- The functions, and what is at addresses without a partner, are as they were.
pub record KeepsOthers (R : Pairing) (before after : Store) : Type 0 where
  pub funcs : after.funcs ≡ before.funcs
  pub tables : (b : ℕ) → HasNoPartner R Tables b → slice_get after.tables b ≡ slice_get before.tables b
  pub mems : (b : ℕ) → HasNoPartner R Memories b → slice_get after.mems b ≡ slice_get before.mems b
  pub globals : (b : ℕ) → HasNoPartner R Globals b → slice_get after.globals b ≡ slice_get before.globals b
  pub elems : (b : ℕ) → HasNoPartner R ElementSegments b → slice_get after.elems b ≡ slice_get before.elems b
  pub datas : (b : ℕ) → HasNoPartner R DataSegments b → slice_get after.datas b ≡ slice_get before.datas b

-- The instantiation is done.
abbrev pub IsBegun : Phase → Type 0
IsBegun (Fresh b) = ⊥
IsBegun _ = Unit {0}
