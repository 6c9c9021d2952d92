-- What paths end with, by the places at which they stop.
use Rattle.base_lists.proofs.Common.{◌≡◌, ◌∙◌, sym, ap, refl, subst, ℕ, ◌<◌, List, Option, Some, None, map, slice_get, slice_get-map, length-map}
use Rattle.std.specs.Option.{option_and_then, option_map}
use Rattle.base_paths.specs.declared.follow.Step.{Step}
use Rattle.base_paths.specs.declared.follow.Step.TheVariants.{Leads, Stops, Nowhere}
use Rattle.base_paths.specs.Paths.{Reaches, IsEnd, AreEnds, AreThere}
use Rattle.base_paths.specs.Paths.Reaches.{stop, go}
use Rattle.base_paths.specs.Steps.{LeadsTo, IsEnding, AreEndings, AreNamed, next_place, ending_of}
use Rattle.base_paths.specs.Steps.LeadsTo.{there, on}

-- A place that has a next place leads to it.
went : {E : Type 0} (steps : List (Step E)) (n m : ℕ) → slice_get (map next_place steps) n ≡ Some (Some m) → slice_get steps n ≡ Some (Leads m)
went {E = E} steps n m h = by (slice_get steps n) refl (sym (slice_get-map next_place steps n) ∙ h)
  where
    by : (o : Option (Step E)) → slice_get steps n ≡ o → option_map next_place o ≡ Some (Some m) → slice_get steps n ≡ Some (Leads m)
    by None is k = cc
    by (Some (Leads j)) is k = let same : j ≡ m = cc in is ∙ ap (λ (x : ℕ). Some (Leads x)) same
    by (Some (Stops e)) is k = cc
    by (Some Nowhere) is k = cc

pub named_there : {E : Type 0} (steps : List (Step E)) → AreNamed steps → AreThere (map next_place steps)
named_there steps named n m h = subst (λ (k : ℕ). m < k) (sym (length-map steps next_place)) (named n m (went steps n m h))

leads : {E : Type 0} (steps : List (Step E)) (n m : ℕ) (e : E) → Reaches (map next_place steps) n m → slice_get steps m ≡ Some (Stops e) → LeadsTo steps n e
leads steps n m e (stop _ h) at = there n e at
leads steps n m e (go _ k _ h r) at = on n k e (went steps n k h) (leads steps k m e r at)

reaches : {E : Type 0} (steps : List (Step E)) (n : ℕ) (e : E) → LeadsTo steps n e → (m : ℕ) × Reaches (map next_place steps) n m
reaches steps n e (there _ _ h) = (n, stop n (slice_get-map next_place steps n ∙ ap (option_map next_place) h))
reaches steps n e (on _ m _ h l) = let r = reaches steps m e l in (r.0, go n m r.0 (slice_get-map next_place steps n ∙ ap (option_map next_place) h) r.1)

-- The place at which a path stops is a place that holds what the path ends with.
stop_leads : {E : Type 0} (steps : List (Step E)) (n m : ℕ) (e : E) → Reaches (map next_place steps) n m → LeadsTo steps n e → slice_get steps m ≡ Some (Stops e)
stop_leads steps n m e (stop _ h) (there _ _ k) = k
stop_leads steps n m e (stop _ h) (on _ j _ k l) = let x = slice_get-map next_place steps n ∙ ap (option_map next_place) k in absurd (cc)
stop_leads steps n m e (go _ j _ h r) (there _ _ k) = let x = slice_get-map next_place steps n ∙ ap (option_map next_place) k in absurd (cc)
stop_leads steps n m e (go _ j _ h r) (on _ i _ k l) =
    let x = slice_get-map next_place steps n ∙ ap (option_map next_place) k in
    let same : i ≡ j = cc in
    stop_leads steps j m e r (subst (λ (y : ℕ). LeadsTo steps y e) same l)

one_ending : {E : Type 0} (steps : List (Step E)) (n : ℕ) (end : Option ℕ) → IsEnd (map next_place steps) n end → IsEnding steps n (option_and_then (λ m. option_and_then ending_of (slice_get steps m)) end)
one_ending steps n None h = λ e l. let r = reaches steps n e l in h r.0 r.1
one_ending {E = E} steps n (Some m) h = by (slice_get steps m) refl
  where
    by : (o : Option (Step E)) → slice_get steps m ≡ o → IsEnding steps n (option_and_then ending_of o)
    by None is = λ e l. let x = stop_leads steps n m e h l in absurd (cc)
    by (Some (Leads j)) is = λ e l. let x = stop_leads steps n m e h l in absurd (cc)
    by (Some (Stops d)) is = leads steps n m d h is
    by (Some Nowhere) is = λ e l. let x = stop_leads steps n m e h l in absurd (cc)

-- The endings of all paths are those of the places at which they stop.
pub endings_right : {E : Type 0} (steps : List (Step E)) (ends : List (Option ℕ)) → AreEnds (map next_place steps) ends
    → AreEndings steps (map (option_and_then (λ m. option_and_then ending_of (slice_get steps m))) ends)
endings_right {E = E} steps ends are = record {
  one_each = length-map ends _ ∙ are.one_each ∙ length-map steps next_place;
  right = λ n end h. by n end (slice_get ends n) refl (sym (slice_get-map _ ends n) ∙ h);
}
  where
    by : (n : ℕ) (end : Option E) (o : Option (Option ℕ)) → slice_get ends n ≡ o → option_map (option_and_then (λ m. option_and_then ending_of (slice_get steps m))) o ≡ Some end → IsEnding steps n end
    by n end None is k = cc
    by n end (Some place) is k =
        let same : option_and_then (λ m. option_and_then ending_of (slice_get steps m)) place ≡ end = cc in
        subst (IsEnding steps n) same (one_ending steps n place (are.right n place is))
