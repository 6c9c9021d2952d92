-- The addresses that the environment and the first parts have, each of which is related to itself.
use Rattle.base_lists.proofs.Common.{◌≡◌, ◌∙◌, refl, sym, ℕ, suc, ◌<◌, ◌≤◌, List, [], ◌∷◌, Some, Bool, true, arith, ◌&&◌, nat_eq, nat_lt, ltb-true, lt-ltb, eq-eqb, eqb-true, and_parts, opt_self}
use Rattle.wasm_tree_spec.specs.Prelude.{Space, Functions, Tables, Memories, Globals}
use Rattle.wasm_meaning.specs.Prelude.{Part, Environment, OwnKey, owned_of, owned_at, same_key, ExternalValue, defined_before, base, address_of}
use Rattle.run_simulation.specs.Prelude.{Pairing, OneToOne, passed}
use Rattle.world_simulation.specs.Prelude.{SharesOwn, OwnEntitiesCorrespond}
use Rattle.world_simulation.proofs.EnvironmentEntities.{address_rel, look_rel}

abbrev pub count_upto : Environment → List Part → ℕ → Space → ℕ
count_upto env parts p k = base env parts k p

abbrev pub is_reached : Environment → List Part → ℕ → Space → ℕ → ℕ → Bool
is_reached env parts p k a b = nat_eq a b && nat_lt a (count_upto env parts p k)

abbrev pub reaching : Environment → List Part → ℕ → Pairing
reaching env parts p = passed (is_reached env parts p) (is_reached env parts p) []

pub reached_at : (env : Environment) (parts : List Part) (p : ℕ) (k : Space) (a : ℕ) → a < count_upto env parts p k → is_reached env parts p k a a ≡ true
reached_at env parts p k a l = rw (eq-eqb a a refl, lt-ltb a (count_upto env parts p k) l)

pub reached_is : (env : Environment) (parts : List Part) (p : ℕ) (k : Space) (a b : ℕ) → is_reached env parts p k a b ≡ true → (a ≡ b) × (a < count_upto env parts p k)
reached_is env parts p k a b h = let c = and_parts _ _ h in (eqb-true a b c.0, ltb-true a (count_upto env parts p k) c.1)

pub one_to_one : (env : Environment) (parts : List Part) (p : ℕ) → OneToOne (reaching env parts p)
one_to_one env parts p = record {
  right = λ {k} a b c h i. sym (reached_is env parts p k a b h).0 ∙ (reached_is env parts p k a c i).0;
  left = λ {k} a b c h i. (reached_is env parts p k a c h).0 ∙ sym (reached_is env parts p k b c i).0;
}

-- ---- counts ----

pub defined_more : (k : Space) (parts : List Part) (p q : ℕ) → p ≤ q → defined_before k parts p ≤ defined_before k parts q
defined_more k (part ∷ parts) (suc p) (suc q) l = omega (arith, defined_more k parts p q (omega arith))
defined_more k _ p q l = omega arith

-- ---- the environment's own ----

pub shares_own : (env : Environment) (parts : List Part) (p : ℕ) → SharesOwn (reaching env parts p) env
shares_own env parts p = record {
  funcs = λ a l. reached_at env parts p Functions a (omega arith);
  tables = λ a l. reached_at env parts p Tables a (omega arith);
  mems = λ a l. reached_at env parts p Memories a (omega arith);
  globals = λ a l. reached_at env parts p Globals a (omega arith);
}

-- An entity of the environment's own has an address below the count of the environment and the
-- first parts.
pub own_low : OwnEntitiesCorrespond → (env : Environment) (parts : List Part) (p : ℕ) (key : OwnKey) (x : ExternalValue) → owned_at (owned_of env) key ≡ Some x → (k : Space) (a : ℕ) → address_of k x ≡ Some a → a < base env parts k p
own_low law env parts p key x h k a e =
    let shares = shares_own env parts p in
    let thing = opt_self (look_rel (reaching env parts p) env shares (same_key key) (law (is_reached env parts p) env shares).owned) h in
    (reached_is env parts p k a a (opt_self (address_rel (reaching env parts p) k thing) e)).1
