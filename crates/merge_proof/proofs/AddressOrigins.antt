-- The origin of an address: it is that of an entity of the environment's own, or of a definition of
-- a part.
use Rattle.base_lists.proofs.Common.{◌≡◌, ℕ, suc, ◌+◌, ◌-◌, ◌<◌, List, [], ◌∷◌, length, Some, inl, inr, refl, arith, cases_lt}
use Rattle.wasm_tree_spec.specs.Prelude.{Space, Module}
use Rattle.wasm_meaning.specs.Prelude.{Part, module_at, Environment, own_count, base, defined_before, defined_count}

-- A number below that of all definitions is that of a definition of some part.
defined_among : (k : Space) (parts : List Part) (n : ℕ) → n < defined_before k parts (length parts) → (p : ℕ) × (m : Module) × (x : ℕ) × (module_at parts p ≡ Some m) × (x < defined_count k m) × (n ≡ defined_before k parts p + x)
defined_among k [] n h = absurd (omega arith)
defined_among k (part ∷ parts) n h = elim (cases_lt n (defined_count k part.«module»)) [
  | inl low ↦ (0, part.«module», n, refl, low, omega arith)
  | inr high ↦ let r = defined_among k parts (n - defined_count k part.«module») (omega arith) in (suc r.0, r.1, r.2, r.3, r.4, omega arith)
]

-- An address that both worlds have is that of an entity of the environment's own, or of a
-- definition of a part.
pub data Stands (env : Environment) (parts : List Part) (k : Space) (a : ℕ) : Type 0 where
  own : a < own_count k env → Stands env parts k a
  defined : (p : ℕ) (m : Module) (x : ℕ) → module_at parts p ≡ Some m → x < defined_count k m → a ≡ base env parts k p + x → Stands env parts k a

pub stands : (env : Environment) (parts : List Part) (k : Space) (a : ℕ) → a < base env parts k (length parts) → Stands env parts k a
stands env parts k a h = elim (cases_lt a (own_count k env)) [
  | inl low ↦ own low
  | inr high ↦ let r = defined_among k parts (a - own_count k env) (omega arith) in defined r.0 r.1 r.2 r.3 r.4 (omega arith)
]
