-- Properties of the value of an outcome, if it gives one, and outcomes that are related.
use Rattle.std.proofs.Common.{◌≡◌, Bool, true, false, cond, Option, Some, None, refl, ap, subst}
use Rattle.wasm_meaning.specs.Outcomes.{Outcome, Gives, Traps, IllTyped, ResRel, trap, wrong, bind, or_trap, or_ill_typed}

-- The property P holds of the value, if the outcome gives one.
pub data AllOf {A : Type 0} (P : A → Type 0) : Outcome A → Type 0 where
  ill_typed : AllOf P IllTyped
  stopped : AllOf P Traps
  just : {a : A} → P a → AllOf P (Gives a)

pub all_at : {A : Type 0} {P : A → Type 0} {o : Outcome A} {a : A} → AllOf P o → o ≡ Gives a → P a
all_at {P = P} h e = go (subst (AllOf P) e h)
  where
    go : {b : _} → AllOf P (Gives b) → P b
    go (just p) = p

pub cond_all : {A : Type 0} {P : A → Type 0} (b : Bool) {x y : Outcome A} → AllOf P x → AllOf P y → AllOf P (cond b x y)
cond_all true p q = p
cond_all false p q = q

-- A property of what follows an outcome holds if it holds of what follows each value given.
pub with_is : {A C : Type 0} {Q : C → Type 0} (o : Outcome A) (f : A → Outcome C) → ((a : A) → o ≡ Gives a → AllOf Q (f a)) → AllOf Q (bind o f)
with_is Traps f h = stopped
with_is IllTyped f h = ill_typed
with_is (Gives a) f h = h a refl

-- A property of what follows a look-up holds if it holds of what follows each value found; a
-- missing value is ill typed.
pub with_found : {A C : Type 0} {Q : C → Type 0} (o : Option A) (f : A → Outcome C) → ((a : A) → o ≡ Some a → AllOf Q (f a)) → AllOf Q (bind (or_ill_typed o) f)
with_found None f h = ill_typed
with_found (Some a) f h = h a refl

-- A property of what follows a look-up holds if it holds of what follows each value found; a
-- missing value is a trap.
pub with_within : {A C : Type 0} {Q : C → Type 0} (o : Option A) (f : A → Outcome C) → ((a : A) → o ≡ Some a → AllOf Q (f a)) → AllOf Q (bind (or_trap o) f)
with_within None f h = stopped
with_within (Some a) f h = h a refl

pub then_given : {A B : Type 0} {o : Outcome A} {a : A} (f : A → Outcome B) → o ≡ Gives a → bind o f ≡ f a
then_given f e = ap (λ x. bind x f) e

pub then_found : {A B : Type 0} {o : Option A} {a : A} (f : A → Outcome B) → o ≡ Some a → bind (or_ill_typed o) f ≡ f a
then_found f e = ap (λ x. bind (or_ill_typed x) f) e

-- ---- related outcomes ----

-- What follows one outcome in two ways is related if what follows each value given is.
pub bind_same : {A C D : Type 0} {Q : C → D → Type 0} {f : A → Outcome C} {g : A → Outcome D} (o : Outcome A) → ((a : A) → ResRel Q (f a) (g a)) → ResRel Q (bind o f) (bind o g)
bind_same Traps h = trap
bind_same IllTyped h = wrong
bind_same (Gives a) h = h a
