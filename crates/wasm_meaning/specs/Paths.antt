-- Paths: a point has no step, or its step ends with something or leads to another point.
use Rattle.std.proofs.Common.{◌≡◌, ℕ, zero, suc, List, ◌∷◌, Option, Some, None}

pub data PathStep (A E : Type 0) : Type 0 where
  EndsWith : E → PathStep A E
  LeadsTo : A → PathStep A E

-- A path leads from a point to what it ends with.
pub data Path {A E : Type 0} (next : A → Option (PathStep A E)) : A → E → Type 0 where
  ends : {a : A} {e : E} → next a ≡ Some (EndsWith e) → Path next a e
  goes : {a b : A} {e : E} → next a ≡ Some (LeadsTo b) → Path next b e → Path next a e

abbrev pub walk_on : {A E : Type 0} → (A → Option E) → Option (PathStep A E) → Option E
walk_on more None = None
walk_on more (Some (EndsWith e)) = Some e
walk_on more (Some (LeadsTo b)) = more b

-- What the path from a point ends with, if it has at most `most` points.
abbrev pub walk : {A E : Type 0} → (A → Option (PathStep A E)) → (most : ℕ) → A → Option E
walk next zero a = None
walk next (suc most) a = walk_on (walk next most) (next a)

pub data In {A : Type 0} (x : A) : List A → Type 0 where
  here : {xs : List A} → In x (x ∷ xs)
  there : {y : A} {xs : List A} → In x xs → In x (y ∷ xs)
