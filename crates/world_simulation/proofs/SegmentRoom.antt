-- Stores with room for the segments that are copied, what holds at the places of a list after a
-- write, and what is kept when segments without partners are copied.
use Rattle.base_lists.proofs.Common.{◌≡◌, ℕ, ◌*◌, ◌≤◌, List, length, Option, Some, true, arith, option_and_then, slice_get, slice_set, ◌∙◌, sym, set_other}
use native.Mathlib.Decide.{ℕ_discrete}
use Rattle.wasm_tree_spec.specs.Prelude.{Space, Tables, Memories, ElementSegments, DataSegments}
use Rattle.wasm_meaning.specs.Prelude.{Store, Environment, Filled, or_trapped}
use Rattle.base_lists.proofs.Related.{at_put_here}
use Rattle.world_simulation.specs.Prelude.{Instantiated, DefinedAt}
use Rattle.world_simulation.specs.SegmentsInOrder.{RelatedStay}

-- ---- lists ----

-- The list has an item at the place, and P holds of this item.
abbrev pub Holds : {A : Type 0} → (A → Type 0) → List A → ℕ → Type 0
Holds {A} P xs n = (x : A) × (slice_get xs n ≡ Some x) × P x

-- What holds of the items at some places still holds after `v` is written at one of these, if it
-- holds of `v` whenever it held of the item that was there.
pub set_holds : {A : Type 0} {D : ℕ → Type 0} {P : (m : ℕ) → D m → A → Type 0} (xs : List A) (n : ℕ) (v : A) → ((m : ℕ) (d : D m) → Holds (P m d) xs m) →
    ((m : ℕ) (d : D m) (old : A) → slice_get xs n ≡ Some old → P m d old → P m d v) → (m : ℕ) (d : D m) → Holds (P m d) (slice_set xs n v) m
set_holds xs n v all new m d =
    let k = all m d in
    elim (ℕ_discrete n m) [ yes e ↦ (v, grind (arith, at_put_here), grind (arith, new)) | no e ↦ (k.0, set_other xs n m v (λ z. e (sym z)) ∙ k.1, k.2) ]

-- ---- stores with room ----

-- Tables and memories are at least as large as their definitions say, and segments hold no more
-- items than their definitions.
pub record HasRoom (env : Environment) (w : Instantiated) (s : Store) : Type 0 where
  pub tables : (a : ℕ) (d : DefinedAt env w Tables (λ m. m.tables) a) → Holds (λ t. d.definition.limits.min ≤ length t.slots) s.tables a
  pub mems : (a : ℕ) (d : DefinedAt env w Memories (λ m. m.mems) a) → Holds (λ m. 65536 * d.definition.min ≤ length m.bytes) s.mems a
  pub elems : (a : ℕ) (d : DefinedAt env w ElementSegments (λ m. m.elems) a) → Holds (λ e. length e.items ≤ length d.definition.items) s.elems a
  pub datas : (a : ℕ) (d : DefinedAt env w DataSegments (λ m. m.datas) a) → Holds (λ e. length e.bytes ≤ length d.definition.bytes) s.datas a

-- Q holds of the result of a look-up and what follows it, if it holds of a trap, and of what
-- follows each value that may be found.
pub then_holds : {A : Type 0} (Q : Filled → Type 0) (s : Store) (o : Option A) (f : A → Option Filled) → Q (record { store = s; trapped = true }) → ((a : A) → o ≡ Some a → Q (or_trapped s (f a))) → Q (or_trapped s (option_and_then f o))
then_holds Q s o f t h = grind arith

-- ---- a segment without partner ----

pub nothing_kept : (related : Space → ℕ → Type 0) (s : Store) → RelatedStay related s s
nothing_kept related s = assumption
