-- Steps between numbers, and the paths between the points that have these numbers.
use Rattle.base_lists.proofs.Common.{◌≡◌, ◌∙◌, sym, ap, refl, subst, ℕ, zero, suc, ◌<◌, List, [], ◌∷◌, Option, Some, None, length, map, slice_get, arith, ◌↔◌, ◌++◌, inl, inr, cases_eq, slice_get_within, slice_get-map, length-map, push_last, push_before, slice_get_there}
use Rattle.std.specs.Option.{option_map}
use Rattle.wasm_meaning.specs.Paths as paths
use Rattle.wasm_meaning.specs.Paths.Path.{ends, goes}
use Rattle.base_paths.specs.declared.follow.Step.{Step}
use Rattle.base_paths.specs.declared.follow.Step.TheVariants.{Leads, Stops, Nowhere}
use Rattle.base_paths.specs.Steps.{LeadsTo, AreEndings, AreNamed}
use Rattle.base_paths.specs.Steps.LeadsTo.{there, on}
use Rattle.merge_link.specs.Prelude.{IsStep, AreSteps}

pub lists_same : {A : Type 0} (xs ys : List A) → length xs ≡ length ys → ((n : ℕ) → n < length xs → slice_get xs n ≡ slice_get ys n) → xs ≡ ys
lists_same [] [] h all = refl
lists_same [] (y ∷ ys) h all = absurd (omega arith)
lists_same (x ∷ xs) [] h all = absurd (omega arith)
lists_same (x ∷ xs) (y ∷ ys) h all =
    let e : Some x ≡ Some y = all 0 (omega arith) in
    let rest : xs ≡ ys = lists_same xs ys (omega arith) (λ n k. all (suc n) (omega arith)) in
    cc

-- Each number of a point has a step.
step_at : {A E F : Type 0} (next : A → Option (paths.PathStep A E)) (points : List A) (meaning : F → E) (steps : List (Step F)) → AreSteps next points meaning points steps
    → (n : ℕ) (a : A) → slice_get points n ≡ Some a → (s : Step F) × (slice_get steps n ≡ Some s) × IsStep next points meaning a s
step_at next points meaning steps are n a h =
    let within : n < length points = slice_get_within points n a h in
    let s = slice_get_there steps n (omega (arith, are.one_each)) in
    (s.0, s.1, are.right n a s.0 h s.1)

to_path : {A E F : Type 0} (next : A → Option (paths.PathStep A E)) (points : List A) (meaning : F → E) (steps : List (Step F)) → AreSteps next points meaning points steps
    → (n : ℕ) (a : A) (e : F) → slice_get points n ≡ Some a → LeadsTo steps n e → paths.Path next a (meaning e)
to_path next points meaning steps are n a e h (there _ _ k) = ends (are.right n a (Stops e) h k)
to_path next points meaning steps are n a e h (on _ m _ k l) =
    let g = are.right n a (Leads m) h k in
    goes g.2 (to_path next points meaning steps are m g.0 e g.1 l)

from_path : {A E F : Type 0} (next : A → Option (paths.PathStep A E)) (points : List A) (meaning : F → E) (steps : List (Step F)) → AreSteps next points meaning points steps
    → (n : ℕ) (a : A) (e : E) → slice_get points n ≡ Some a → paths.Path next a e → (f : F) × LeadsTo steps n f
from_path {F = F} next points meaning steps are n a e h (ends k) = let s = step_at next points meaning steps are n a h in by s.0 s.1 s.2
  where
    by : (s : Step F) → slice_get steps n ≡ Some s → IsStep next points meaning a s → (f : F) × LeadsTo steps n f
    by (Leads m) at is = let b = is.2 in absurd (cc)
    by (Stops f) at is = (f, there n f at)
    by Nowhere at is = absurd (cc)
from_path {F = F} next points meaning steps are n a e h (goes {b = b} k l) =
    let s = step_at next points meaning steps are n a h in by s.0 s.1 s.2 (λ m at. from_path next points meaning steps are m b e at l)
  where
    by : (s : Step F) → slice_get steps n ≡ Some s → IsStep next points meaning a s → ((m : ℕ) → slice_get points m ≡ Some b → (f : F) × LeadsTo steps m f) → (f : F) × LeadsTo steps n f
    by (Leads m) at is more =
        let same : is.0 ≡ b = let x = is.2 in cc in
        let r = more m (is.1 ∙ ap Some same) in (r.0, on n m r.0 at r.1)
    by (Stops f) at is more = absurd (cc)
    by Nowhere at is more = absurd (cc)

-- The ending of a point is the one that a function for the ends of paths gives.
pub ending_told : {A E F : Type 0} (next : A → Option (paths.PathStep A E)) (points : List A) (meaning : F → E) (steps : List (Step F)) (all : List (Option F))
    → AreSteps next points meaning points steps → AreEndings steps all
    → (tell : A → Option E) → ((a : A) (e : E) → paths.Path next a e ↔ (tell a ≡ Some e))
    → (n : ℕ) (a : A) (o : Option F) → slice_get points n ≡ Some a → slice_get all n ≡ Some o → option_map meaning o ≡ tell a
ending_told next points meaning steps all are endings tell law n a (Some f) h k =
    sym ((law a (meaning f)).0 (to_path next points meaning steps are n a f h (endings.right n (Some f) k)))
ending_told {E = E} next points meaning steps all are endings tell law n a None h k = by (tell a) refl
  where
    by : (t : Option E) → tell a ≡ t → None ≡ t
    by None is = refl
    by (Some e) is = let f = from_path next points meaning steps are n a e h ((law a e).1 is) in absurd (endings.right n None k f.0 f.1)

-- The endings of all points are those that the function gives.
pub endings_told : {A E F : Type 0} (next : A → Option (paths.PathStep A E)) (points : List A) (meaning : F → E) (steps : List (Step F)) (all : List (Option F))
    → AreSteps next points meaning points steps → AreEndings steps all
    → (tell : A → Option E) → ((a : A) (e : E) → paths.Path next a e ↔ (tell a ≡ Some e))
    → map (option_map meaning) all ≡ map tell points
endings_told next points meaning steps all are endings tell law =
    lists_same (map (option_map meaning) all) (map tell points)
    (length-map all (option_map meaning) ∙ endings.one_each ∙ are.one_each ∙ sym (length-map points tell))
    (λ n h.
    let o = slice_get_there all n (omega (arith, length-map all (option_map meaning))) in
    let a = slice_get_there points n (omega (arith, length-map all (option_map meaning), endings.one_each, are.one_each)) in
    slice_get-map (option_map meaning) all n ∙ ap (option_map (option_map meaning)) o.1
    ∙ ap Some (ending_told next points meaning steps all are endings tell law n a.0 o.0 a.1 o.1)
    ∙ sym (slice_get-map tell points n ∙ ap (option_map tell) a.1))

-- Each number that a step leads to is the number of a point.
pub steps_named : {A E F : Type 0} (next : A → Option (paths.PathStep A E)) (points : List A) (meaning : F → E) (steps : List (Step F)) → AreSteps next points meaning points steps → AreNamed steps
steps_named next points meaning steps are n m h =
    let a = slice_get_there points n (let k = slice_get_within steps n (Leads m) h in omega (arith, are.one_each)) in
    let is = are.right n a.0 (Leads m) a.1 h in
    let k = slice_get_within points m is.0 is.1 in
    omega (arith, are.one_each)

-- The list of steps stays right when one more step is appended.
pub steps_more : {A E F : Type 0} (next : A → Option (paths.PathStep A E)) (points : List A) (meaning : F → E) (froms : List A) (steps : List (Step F)) (i : ℕ) (a : A) (s : Step F) → length steps ≡ i
    → slice_get froms i ≡ Some a → IsStep next points meaning a s
    → ((n : ℕ) (b : A) (t : Step F) → slice_get froms n ≡ Some b → slice_get steps n ≡ Some t → IsStep next points meaning b t)
    → (n : ℕ) (b : A) (t : Step F) → slice_get froms n ≡ Some b → slice_get (steps ++ s ∷ []) n ≡ Some t → IsStep next points meaning b t
steps_more {A = A} next points meaning froms steps i a s size at is all n b t h k = elim (cases_eq n (length steps)) [
  | inl e ↦
      let same : s ≡ t = let l : slice_get (steps ++ s ∷ []) n ≡ Some s = ap (slice_get (steps ++ s ∷ [])) e ∙ push_last steps s in cc in
      let from : a ≡ b = let l : slice_get froms n ≡ Some a = ap (slice_get froms) (e ∙ size) ∙ at in cc in
      subst (λ (x : A). IsStep next points meaning x t) from (subst (IsStep next points meaning a) same is)
  | inr ne ↦ all n b t h (push_before steps s n t ne k)
]

-- A path ends with something that some point ends with in one step.
pub last_step : {A E : Type 0} (next : A → Option (paths.PathStep A E)) (a : A) (e : E) → paths.Path next a e → (b : A) × (next b ≡ Some (paths.EndsWith e))
last_step next a e (ends {a = b} k) = (b, k)
last_step next a e (goes {b = b} k l) = last_step next b e l

-- The empty list of steps is right.
pub no_steps : {A E F : Type 0} (next : A → Option (paths.PathStep A E)) (points : List A) (meaning : F → E) (froms : List A) (steps : List (Step F)) → steps ≡ []
    → (n : ℕ) (a : A) (s : Step F) → slice_get froms n ≡ Some a → slice_get steps n ≡ Some s → IsStep next points meaning a s
no_steps next points meaning froms steps e n a s h k = let l = ap (λ ys. slice_get ys n) e in absurd (cc)

-- An ending is something that some point ends with in one step.
pub ending_stops : {A E F : Type 0} (next : A → Option (paths.PathStep A E)) (points : List A) (meaning : F → E) (steps : List (Step F)) (all : List (Option F))
    → AreSteps next points meaning points steps → AreEndings steps all
    → (n : ℕ) (f : F) → slice_get all n ≡ Some (Some f) → (b : A) × (next b ≡ Some (paths.EndsWith (meaning f)))
ending_stops next points meaning steps all are endings n f h =
    let a = slice_get_there points n (let k = slice_get_within all n (Some f) h in omega (arith, endings.one_each, are.one_each)) in
    last_step next a.0 (meaning f) (to_path next points meaning steps are n a.0 f a.1 (endings.right n (Some f) h))
