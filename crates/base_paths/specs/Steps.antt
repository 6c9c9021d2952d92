-- Places that go on to others, end with something, or lead nowhere.
use Rattle.std.specs.Prelude.{◌≡◌, ℕ, ◌<◌, List, Option, Some, None, length, slice_get}
use Rattle.base_paths.specs.declared.follow.Step.{Step}
use Rattle.base_paths.specs.declared.follow.Step.TheVariants.{Leads, Stops, Nowhere}

-- The path from n ends with e.
pub data LeadsTo {E : Type 0} (steps : List (Step E)) : ℕ → E → Type 0 where
  there : (n : ℕ) (e : E) → slice_get steps n ≡ Some (Stops e) → LeadsTo steps n e
  on : (n m : ℕ) (e : E) → slice_get steps n ≡ Some (Leads m) → LeadsTo steps m e → LeadsTo steps n e

-- What the path from a place ends with, or `None` if it never ends or leads nowhere.
abbrev pub IsEnding : {E : Type 0} → List (Step E) → ℕ → Option E → Type 0
IsEnding steps n (Some e) = LeadsTo steps n e
IsEnding {E = E} steps n None = (e : E) → LeadsTo steps n e → ⊥

-- `all` has for each place what its path ends with.
pub record AreEndings {E : Type 0} (steps : List (Step E)) (all : List (Option E)) : Type 0 where
  pub one_each : length all ≡ length steps
  pub right : (n : ℕ) (end : Option E) → slice_get all n ≡ Some end → IsEnding steps n end

-- Each place that a step goes to is a place of the list.
abbrev pub AreNamed : {E : Type 0} → List (Step E) → Type 0
AreNamed steps = (n m : ℕ) → slice_get steps n ≡ Some (Leads m) → m < length steps

abbrev pub next_place : {E : Type 0} → Step E → Option ℕ
next_place (Leads m) = Some m
next_place (Stops e) = None
next_place Nowhere = None

abbrev pub ending_of : {E : Type 0} → Step E → Option E
ending_of (Leads m) = None
ending_of Nowhere = None
ending_of (Stops e) = Some e
