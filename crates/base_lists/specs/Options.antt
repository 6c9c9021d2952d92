-- Chains of look-ups, each of which may find nothing; an option that has whatever another has, and
-- one that is there only if a test is true.
use Rattle.std.specs.Prelude.{◌≡◌, List, [], ◌∷◌, Bool, cond, Option, Some, None, option_and_then}
use Rattle.std.specs.Option.{option_or}

-- What `f` gives for the value, if there is one, as `Option::and_then`.
infixl 10 ◌>>=◌
abbrev pub ◌>>=◌ : {A B : Type 0} → Option A → (A → Option B) → Option B
o >>= f = option_and_then f o

-- What `f` gives for each element, if it gives something for all.
abbrev pub all_there : {A B : Type 0} → (A → Option B) → List A → Option (List B)
all_there f [] = Some []
all_there f (x ∷ xs) = f x >>= λ y. all_there f xs >>= λ ys. Some (y ∷ ys)

-- If there is a value in the first, the same value is in the second.
abbrev pub Keeps : {A : Type 0} → Option A → Option A → Type 0
Keeps {A} x y = (v : A) → x ≡ Some v → y ≡ Some v

-- The value, if the test is true.
abbrev pub only : {A : Type 0} → Bool → Option A → Option A
only b m = cond b m None

-- The first thing that `f` gives for an element.
abbrev pub first_given : {A B : Type 0} → (A → Option B) → List A → Option B
first_given f [] = None
first_given f (x ∷ xs) = option_or (f x) (first_given f xs)
