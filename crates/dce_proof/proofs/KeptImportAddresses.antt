-- The addresses of the imports that are kept.
use Rattle.base_lists.proofs.Common.{◌≡◌, ◌∙◌, ap, sym, subst, refl, ℕ, ◌+◌, ◌≤◌, List, [], ◌∷◌, length, Option, Some, None, is_some, Bool, true, false, cond, arith, option_and_then, cons_option, places_many, and_then_is}
use Rattle.std.proofs.Common.{filter, filter_map}
use Rattle.base_lists.proofs.Filtered.{at_places}
use Rattle.wasm_tree_spec.specs.Prelude.{Space, FuncType, Import}
use Rattle.wasm_meaning.specs.Prelude.{has_kind, Environment, address_of, all_there}
use Rattle.world_simulation.specs.Prelude.{external_value_in, addresses, import_places}
use Rattle.world_simulation.specs.ModulesAlone.{address_in}
use Rattle.base_kept.specs.Kept.{kept}
use Rattle.base_kept.proofs.Laws.{AreKeptAlike, kept_chosen}

pub all_kept : {A B : Type 0} (f : A → Option B) (cs : List Bool) (xs : List A) (ys : List B) → all_there f xs ≡ Some ys → all_there f (kept cs xs) ≡ Some (kept cs ys)
all_kept f [] xs ys h = refl
all_kept f (c ∷ cs) [] ys h = let same : [] ≡ ys = cc in ap (λ zs. Some (kept (c ∷ cs) zs)) same
all_kept {A} {B} f (c ∷ cs) (x ∷ xs) ys h =
    let y = and_then_is (f x) _ ys h in
    let rest = and_then_is (all_there f xs) _ ys y.2 in
    let same : y.0 ∷ rest.0 ≡ ys = cc in
    subst (λ zs. all_there f (kept (c ∷ cs) (x ∷ xs)) ≡ Some (kept (c ∷ cs) zs)) same (by c y.0 y.1 rest.0 (all_kept f cs xs rest.0 rest.1))
  where
    by : (c : Bool) (y : B) → f x ≡ Some y → (zs : List B) → all_there f (kept cs xs) ≡ Some (kept cs zs) → all_there f (cond c (x ∷ kept cs xs) (kept cs xs)) ≡ Some (cond c (y ∷ kept cs zs) (kept cs zs))
    by true y e zs k = rw (e, k) refl
    by false y e zs k = k

-- The element itself if it passes the test, and none otherwise.
abbrev chosen : {A : Type 0} → (A → Bool) → A → Option A
chosen test x = cond (test x) (Some x) None

chosen_if : {A : Type 0} (test : A → Bool) (x : A) → is_some (chosen test x) ≡ test x
chosen_if test x = by (test x)
  where
    by : (b : Bool) → is_some (cond b (Some x) None) ≡ b
    by true = refl
    by false = refl

filter_is : {A : Type 0} (test : A → Bool) (xs : List A) → filter test xs ≡ filter_map (chosen test) xs
filter_is test [] = refl
filter_is {A} test (x ∷ xs) = by (test x) (filter_is test xs)
  where
    by : (b : Bool) → filter test xs ≡ filter_map (chosen test) xs → cond b (x ∷ filter test xs) (filter test xs) ≡ cons_option (cond b (Some x) None) (filter_map (chosen test) xs)
    by true e = ap (λ ys. x ∷ ys) e
    by false e = e

module _ (env : Environment) (types : List FuncType) (k : Space) where
  abbrev address : Import → Option ℕ
  address i = option_and_then (address_of k) (external_value_in env types (Some i))

  addresses_are : (is : List Import) → addresses env types is k ≡ all_there address (filter (has_kind k) is)
  addresses_are is = at_places (has_kind k) address is 0 (address_in env types is k) (λ n i e. ap (address_in env types is k) (let z : 0 + n ≡ n = omega arith in z) ∙ ap (λ o. option_and_then (address_of k) (external_value_in env types o)) e)

  -- The addresses of the imports that are kept are the kept ones of all addresses, if an import is
  -- kept exactly if the entry that it adds to the index space is.
  pub kept_addresses : (bs cs : List Bool) (is : List Import) (all : List ℕ) → addresses env types is k ≡ Some all → length bs ≡ length is → length (import_places k is) ≤ length cs → AreKeptAlike (has_kind k) bs cs is 0 →
      addresses env types (kept bs is) k ≡ Some (kept cs all)
  kept_addresses bs cs is all h many most alike =
      let counts : length (filter_map (chosen (has_kind k)) is) ≤ length cs = (let p = places_many (has_kind k) (chosen (has_kind k)) is (chosen_if (has_kind k)) 0 in omega (arith, p, most)) in
      addresses_are (kept bs is)
      ∙ ap (all_there address) (filter_is (has_kind k) (kept bs is) ∙ kept_chosen (has_kind k) (chosen (has_kind k)) (chosen_if (has_kind k)) bs cs is 0 many counts alike ∙ ap (kept cs) (sym (filter_is (has_kind k) is)))
      ∙ all_kept address cs (filter (has_kind k) is) all (sym (addresses_are is) ∙ h)
