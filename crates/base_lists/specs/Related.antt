-- Options and lists that are related by a relation of their elements.
use Rattle.std.specs.Prelude.{◌≡◌, ℕ, List, [], ◌∷◌, Option, Some, None, slice_get}

-- Both are there and related, or neither is there.
pub data OptRel {A B : Type 0} (P : A → B → Type 0) : Option A → Option B → Type 0 where
  none : OptRel P None None
  some : {a : A} {b : B} → P a b → OptRel P (Some a) (Some b)

-- Both are there, and related.
pub data BothRel {A B : Type 0} (P : A → B → Type 0) : Option A → Option B → Type 0 where
  both : {a : A} {b : B} → P a b → BothRel P (Some a) (Some b)

-- The lists have the same length and are related place by place.
pub data ListRel {A B : Type 0} (P : A → B → Type 0) : List A → List B → Type 0 where
  nil : ListRel P [] []
  cons : {a : A} {b : B} {xs : List A} {ys : List B} → P a b → ListRel P xs ys → ListRel P (a ∷ xs) (b ∷ ys)

-- At each place of the first list, the second has something too, and both are related.
abbrev pub EachRelated : {A : Type 0} → (A → A → Type 0) → List A → List A → Type 0
EachRelated {A} P xs ys = (a : ℕ) (x : A) → slice_get xs a ≡ Some x → (y : A) × (slice_get ys a ≡ Some y) × P x y

-- What is there, if anything, has the property.
pub data IfThere {A : Type 0} (P : A → Type 0) : Option A → Type 0 where
  absent : IfThere P None
  present : {a : A} → P a → IfThere P (Some a)

-- The firsts are related, and the seconds.
pub record PairRel {A B C D : Type 0} (P : A → B → Type 0) (Q : C → D → Type 0) (a : A × C) (b : B × D) : Type 0 where
  pub first : P a.0 b.0
  pub second : Q a.1 b.1
