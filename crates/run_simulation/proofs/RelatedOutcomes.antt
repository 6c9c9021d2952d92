-- Outcomes that are related, and what is written at related addresses.
use Rattle.base_lists.proofs.Common.{◌≡◌, ℕ, List, Option, Some, None, true, option_and_then, slice_get, refl, sym, subst, slice_set, set_other}
use Rattle.base_lists.proofs.Related.{at_put_here}
use Rattle.wasm_tree_spec.specs.Prelude.{Space}
use native.Mathlib.Decide.{ℕ_discrete}
use Rattle.wasm_meaning.specs.Prelude.{Outcome, Gives, Traps, IllTyped, or_trap, bind, or_ill_typed}
use Rattle.wasm_meaning.proofs.Outcomes.{AllOf, ill_typed, stopped, just}
pub use Rattle.wasm_meaning.proofs.Outcomes.{bind_same}
use Rattle.run_simulation.specs.Prelude.{Pairing, OneToOne, OneToOneWhereWritten, is_written, OptRel, none, some, BothRel, both, ResRel, done, trap, wrong}

-- ---- outcomes ----

pub bind_rel : {A B C D : Type 0} {P : A → B → Type 0} {Q : C → D → Type 0} {o : Outcome A} {p : Outcome B} {f : A → Outcome C} {g : B → Outcome D} → ResRel P o p → ((a : A) (b : B) → P a b → ResRel Q (f a) (g b)) → ResRel Q (bind o f) (bind p g)
bind_rel trap h = trap
bind_rel wrong h = wrong
bind_rel (done q) h = h _ _ q

pub bind_eq : {A C D : Type 0} {Q : C → D → Type 0} {f : A → Outcome C} {g : A → Outcome D} {o p : Outcome A} → o ≡ p → ((a : A) → ResRel Q (f a) (g a)) → ResRel Q (bind o f) (bind p g)
bind_eq {Q = Q} {f = f} {g = g} {o = o} e h = subst (λ x. ResRel Q (bind o f) (bind x g)) e (bind_same o h)

-- The same for continuations that agree on the result of the first outcome.
pub bind_rel_is : {A B C D : Type 0} {P : A → B → Type 0} {Q : C → D → Type 0} {o : Outcome A} {p : Outcome B} {f : A → Outcome C} {g : B → Outcome D} → ResRel P o p → ((a : A) (b : B) → o ≡ Gives a → P a b → ResRel Q (f a) (g b)) → ResRel Q (bind o f) (bind p g)
bind_rel_is trap h = trap
bind_rel_is wrong h = wrong
bind_rel_is (done q) h = h _ _ refl q

-- Two look-ups, of which a failure is ill typed, are followed by continuations that agree on what
-- was found.
pub bind_found : {A B C D : Type 0} {P : A → B → Type 0} {Q : C → D → Type 0} {o : Option A} {p : Option B} {f : A → Outcome C} {g : B → Outcome D} → OptRel P o p → ((a : A) (b : B) → P a b → ResRel Q (f a) (g b)) → ResRel Q (bind (or_ill_typed o) f) (bind (or_ill_typed p) g)
bind_found none h = wrong
bind_found (some q) h = h _ _ q

-- The same for continuations that agree on what the first look-up found.
pub bind_found_is : {A B C D : Type 0} {P : A → B → Type 0} {Q : C → D → Type 0} {o : Option A} {p : Option B} {f : A → Outcome C} {g : B → Outcome D} → OptRel P o p → ((a : A) (b : B) → o ≡ Some a → P a b → ResRel Q (f a) (g b)) → ResRel Q (bind (or_ill_typed o) f) (bind (or_ill_typed p) g)
bind_found_is none h = wrong
bind_found_is (some q) h = h _ _ refl q

-- The same for equal look-ups, with the value that was found.
pub bind_is : {A C D : Type 0} {Q : C → D → Type 0} {f : A → Outcome C} {g : A → Outcome D} {o p : Option A} → o ≡ p → ((a : A) → o ≡ Some a → ResRel Q (f a) (g a)) → ResRel Q (bind (or_ill_typed o) f) (bind (or_ill_typed p) g)
bind_is {Q = Q} {f = f} {g = g} {o = o} e h = subst (λ x. ResRel Q (bind (or_ill_typed o) f) (bind (or_ill_typed x) g)) e (go o h)
  where
    go : (x : Option _) → ((a : _) → x ≡ Some a → ResRel Q (f a) (g a)) → ResRel Q (bind (or_ill_typed x) f) (bind (or_ill_typed x) g)
    go None h = wrong
    go (Some a) h = h a refl

pub bind_all : {A C : Type 0} {P : A → Type 0} {Q : C → Type 0} {o : Outcome A} {f : A → Outcome C} → AllOf P o → ((a : A) → o ≡ Gives a → P a → AllOf Q (f a)) → AllOf Q (bind o f)
bind_all ill_typed h = ill_typed
bind_all stopped h = stopped
bind_all (just p) h = h _ refl p

pub any : {A : Type 0} (o : Outcome A) → AllOf (λ a. Unit {0}) o
any IllTyped = ill_typed
any Traps = stopped
any (Gives a) = just tt

-- ---- a write at related addresses ----

-- A relation that is one to one is so in the index spaces that are written.
pub written : {R : Pairing} → OneToOne R → OneToOneWhereWritten R
written apart = record { right = λ _. apart.right; left = λ _. apart.left }

-- Related lists stay related by Q after a write at related addresses, if Q holds of what is written
-- and follows from P at all other addresses.
module _ (R : Pairing) (apart : OneToOneWhereWritten R) (k : Space) (may : is_written k ≡ true) {A B : Type 0} (P Q : ℕ → A → B → Type 0) (xs : List A) (ys : List B) (v : A) (w : B) where
  pub write_each : {a b : ℕ} → R.of k a b → ((c d : ℕ) → R.of k c d → BothRel (P c) (slice_get xs c) (slice_get ys d)) → ((c : ℕ) (x : A) (y : B) → (a ≡ c → ⊥) → P c x y → Q c x y) → Q a v w →
      (c d : ℕ) → R.of k c d → BothRel (Q c) (slice_get (slice_set xs a v) c) (slice_get (slice_set ys b w) d)
  write_each {a} {b} r all other p c d q = go (ℕ_discrete a c) (ℕ_discrete b d)
    where
      written : {o : Option A} {p' : Option B} → BothRel (P a) o p' → BothRel (Q a) (option_and_then (λ old. Some v) o) (option_and_then (λ old. Some w) p')
      written (both q) = both p

      elsewhere : {o : Option A} {p' : Option B} → (a ≡ c → ⊥) → BothRel (P c) o p' → BothRel (Q c) o p'
      elsewhere n (both x) = both (other c _ _ n x)

      go : Dec (a ≡ c) → Dec (b ≡ d) → BothRel (Q c) (slice_get (slice_set xs a v) c) (slice_get (slice_set ys b w) d)
      go (yes e) (yes f) = rw (← e, ← f, at_put_here xs a v, at_put_here ys b w) (written (all a b r))
      go (yes e) (no f) = absurd (f (apart.right may a b d r (subst (λ x. R.of k x d) (sym e) q)))
      go (no e) (yes f) = absurd (e (apart.left may a c b r (subst (λ x. R.of k c x) (sym f) q)))
      go (no e) (no f) = rw (set_other xs a c v (λ z. e (sym z)), set_other ys b d w (λ z. f (sym z))) (elsewhere e (all c d q))

module _ (R : Pairing) (apart : OneToOneWhereWritten R) (k : Space) (may : is_written k ≡ true) {A B : Type 0} (P : A → B → Type 0) (xs : List A) (ys : List B) (v : A) (w : B) where
  pub write_rel : {a b : ℕ} → R.of k a b → ((c d : ℕ) → R.of k c d → BothRel P (slice_get xs c) (slice_get ys d)) → P v w → (c d : ℕ) → R.of k c d → BothRel P (slice_get (slice_set xs a v) c) (slice_get (slice_set ys b w) d)
  write_rel r all p = write_each R apart k may (λ _. P) (λ _. P) xs ys v w r all (λ _ _ _ _ q. q) p

pub or_trap_rel : {A B : Type 0} {P : A → B → Type 0} {o : Option A} {p : Option B} → OptRel P o p → ResRel P (or_trap o) (or_trap p)
or_trap_rel none = trap
or_trap_rel (some q) = done q

pub res_map : {A B : Type 0} {P Q : A → B → Type 0} {o : Outcome A} {p : Outcome B} → ((a : A) (b : B) → P a b → Q a b) → ResRel P o p → ResRel Q o p
res_map f (done r) = done (f _ _ r)
res_map f trap = trap
res_map f wrong = wrong
