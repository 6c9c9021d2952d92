-- A module alone: all its imports stay, so that its types and imports determine what the imports
-- denote and what is read through them.
use Rattle.base_lists.proofs.Common.{◌≡◌, arith, ℕ, ◌++◌, Option, Some, add-zero, option_and_then, slice_get}
use Rattle.wasm_tree_spec.specs.Prelude.{Space, ImportDesc, ConstExpr, Module}
use Rattle.wasm_meaning.specs.Prelude.{Pair, Outside, end_of, read_of, Environment, own_key_of, imported_external_value, numbers, own_count, defined_count, space}
use Rattle.world_simulation.specs.Prelude.{one, site, key_in, external_value_in, addresses, read_in}

-- ---- what an import denotes ----

pub key_is : (t : Module) (pair : Pair) (d : ImportDesc) → own_key_of t pair d ≡ key_in t.types pair d
key_is t pair d = grind arith

pub ends_outside : (t : Module) (n : ℕ) → end_of (one t) (site n) ≡ option_and_then (λ i. Some (Outside (site n))) (slice_get t.imports n)
ends_outside t n = grind arith

pub on_some : {A B : Type 0} (o : Option A) {f g : A → Option B} → ((a : A) → f a ≡ g a) → option_and_then f o ≡ option_and_then g o
on_some o h = grind arith

pub thing_is : (env : Environment) (t : Module) (n : ℕ) → imported_external_value env (one t) (site n) ≡ external_value_in env t.types (slice_get t.imports n)
thing_is env t n = grind (arith, ends_outside, key_is)

-- ---- index spaces ----

pub space_is : (env : Environment) (t : Module) (k : Space) → space env (one t) k 0 t ≡ option_and_then (λ l. Some (l ++ numbers (own_count k env) (defined_count k t))) (addresses env t.types t.imports k)
space_is env t k = simp (thing_is env t, add-zero)

-- ---- what is read ----

pub read_is : (t : Module) (e : ConstExpr) → read_of (one t) 0 e ≡ read_in t.imports e
read_is t e = grind (arith, ends_outside)
