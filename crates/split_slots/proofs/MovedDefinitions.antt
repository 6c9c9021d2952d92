-- The functions that are taken out of a module are the definitions of the moved functions, in the
-- order of their slots.
use Rattle.base_lists.proofs.Common.{◌≡◌, ◌≢◌, ℕ, zero, suc, ◌+◌, ◌-◌, ◌<◌, ◌≤◌, arith, Bool, true, false, ◌||◌, cond, List, [], ◌∷◌, nat_eq, nat_lt, is_some, refl, sym, ap, ap₂, ◌∙◌, subst, slice_get, slice_index, cons_option, filter_map, IsStrictlyIncreasing, eq-eqb, eqb-false, ltb-false}
use Rattle.base_lists.proofs.Common.{ltb-true, same_number}
use Rattle.base_lists.specs.Members.{is_among}
use Rattle.wasm_tree_spec.specs.Prelude.{Func}
use Rattle.split_slots.specs.declared.call_replacement.Calls.{Calls}
use Rattle.split_slots.specs.SlotLookup.{slot_at}
use Rattle.split_slots.specs.DividedDefinitions.{own_funcs}
use Rattle.split_slots.proofs.SlotTables.{no_number}

-- The numbers of the list are strictly increasing, and the first is at least this number.
abbrev pub Ascends : ℕ → List ℕ → Type 0
Ascends a [] = Unit {0}
Ascends a (x ∷ xs) = (a ≤ x) × Ascends (suc x) xs

pub ascends : (a x : ℕ) (xs : List ℕ) → a ≤ x → IsStrictlyIncreasing (x ∷ xs) → Ascends a (x ∷ xs)
ascends a x [] le inc = (le, tt)
ascends a x (y ∷ ys) le inc =
    let next : x < y = inc 0 (omega arith) in
    (le, ascends (suc x) y ys (omega (arith, next)) (λ i lt. let e : suc i + 1 ≡ suc (i + 1) = omega arith in subst (λ n. slice_index (y ∷ ys) i < slice_index (x ∷ (y ∷ ys)) n) e (inc (suc i) (omega (arith, lt)))))

pub higher : (a b : ℕ) (xs : List ℕ) → a ≤ b → Ascends b xs → Ascends a xs
higher a b [] le up = tt
higher a b (x ∷ xs) le up = (omega (arith, le, up.0), up.1)

pub not_before : (a f : ℕ) (xs : List ℕ) → f < a → Ascends a xs → is_among xs f ≡ false
not_before a f [] lt up = refl
not_before a f (x ∷ xs) lt up =
    let later = not_before (suc x) f xs (omega (arith, lt, up.0)) up.1 in
    ap₂ (λ b c. b || c) (no_number f x (λ e. absurd (omega (arith, e, lt, up.0)))) later

none_there : (a : ℕ) (ms : List ℕ) → filter_map (λ func. slice_get {X = Func} [] (func - a)) ms ≡ []
none_there a [] = refl
none_there a (x ∷ xs) = none (x - a) (none_there a xs)
  where
    none : (k : ℕ) → filter_map (λ func. slice_get {X = Func} [] (func - a)) xs ≡ [] → cons_option (slice_get {X = Func} [] k) (filter_map (λ func. slice_get {X = Func} [] (func - a)) xs) ≡ []
    none zero later = later
    none (suc k) later = later

-- The first function can be dropped where all indices on the list are above its index.
one_less : (a : ℕ) (f : Func) (fs : List Func) (ms : List ℕ) → Ascends (suc a) ms → filter_map (λ func. slice_get (f ∷ fs) (func - a)) ms ≡ filter_map (λ func. slice_get fs (func - suc a)) ms
one_less a f fs [] up = refl
one_less a f fs (x ∷ xs) up =
    let e : x - a ≡ suc (x - suc a) = omega (arith, up.0) in
    ap₂ (λ o ys. cons_option o ys) (ap (slice_get (f ∷ fs)) e) (one_less a f fs xs (higher (suc a) (suc x) xs (omega (arith, up.0)) up.1))

module _ (c : Calls) where
  abbrev pub Tells : ℕ → List ℕ → Type 0
  Tells a ms = (f : ℕ) → a ≤ f → is_some (slot_at c.slots.now f) ≡ is_among ms f

  skip : (a : ℕ) (f : Func) (fs : List Func) (ms : List ℕ) → Ascends (suc a) ms → Tells a ms → own_funcs c (suc a) fs ≡ filter_map (λ func. slice_get fs (func - suc a)) ms → own_funcs c a (f ∷ fs) ≡ filter_map (λ func. slice_get (f ∷ fs) (func - a)) ms
  skip a f fs ms up tells later =
      let le : a ≤ a = omega arith in
      let lt : a < suc a = omega arith in
      ap (λ b. cond b (f ∷ own_funcs c (suc a) fs) (own_funcs c (suc a) fs)) (tells a le ∙ not_before (suc a) a ms lt up) ∙ later ∙ sym (one_less a f fs ms up)

  same_first : (a : ℕ) (f : Func) (fs : List Func) (x : ℕ) (xs : List ℕ) → a ≡ x → Ascends (suc a) xs → Tells a (x ∷ xs) → own_funcs c (suc a) fs ≡ filter_map (λ func. slice_get fs (func - suc a)) xs → own_funcs c a (f ∷ fs) ≡ filter_map (λ func. slice_get (f ∷ fs) (func - a)) (x ∷ xs)
  same_first a f fs x xs same up tells later =
      let le : a ≤ a = omega arith in
      let zero_off : zero ≡ x - a = omega (arith, same) in
      ap (λ b. cond b (f ∷ own_funcs c (suc a) fs) (own_funcs c (suc a) fs)) (tells a le ∙ ap (λ b. b || is_among xs a) (eq-eqb a x same))
      ∙ ap (λ ys. f ∷ ys) (later ∙ sym (one_less a f fs xs up)) ∙ ap (λ k. cons_option (slice_get (f ∷ fs) k) (filter_map (λ func. slice_get (f ∷ fs) (func - a)) xs)) zero_off

  step : (a : ℕ) (f : Func) (fs : List Func) → ((ms : List ℕ) → Ascends (suc a) ms → Tells (suc a) ms → own_funcs c (suc a) fs ≡ filter_map (λ func. slice_get fs (func - suc a)) ms) →
      (ms : List ℕ) → Ascends a ms → Tells a ms → own_funcs c a (f ∷ fs) ≡ filter_map (λ func. slice_get (f ∷ fs) (func - a)) ms
  step a f fs rest [] up tells = skip a f fs [] tt tells (rest [] tt (λ g le. tells g (omega (arith, le))))
  step a f fs rest (x ∷ xs) up tells = split (nat_eq a x) refl
    where
      split : (b : Bool) → nat_eq a x ≡ b → own_funcs c a (f ∷ fs) ≡ filter_map (λ func. slice_get (f ∷ fs) (func - a)) (x ∷ xs)
      split true e =
          let same = same_number a x e in
          let above : Ascends (suc a) xs = higher (suc a) (suc x) xs (omega (arith, up.0)) up.1 in
          same_first a f fs x xs same above tells
          (rest xs above (λ g le. let lower : a ≤ g = omega (arith, le) in tells g lower ∙ ap (λ b. b || is_among xs g) (no_number g x (λ is. absurd (omega (arith, le, is, same))))))
      split false e =
          let other : a ≢ x = eqb-false a x e in
          let above : Ascends (suc a) (x ∷ xs) = (less a x up.0 other, up.1) in
          skip a f fs (x ∷ xs) above tells (rest (x ∷ xs) above (λ g le. tells g (omega (arith, le))))
        where
          less : (k n : ℕ) → k ≤ n → k ≢ n → k < n
          less k n le other = either (nat_lt k n) refl
            where
              either : (b : Bool) → nat_lt k n ≡ b → k < n
              either true is = ltb-true k n is
              either false is = absurd (other (let ge = ltb-false k n is in omega (arith, le, ge)))

  pub own_are : (a : ℕ) (fs : List Func) (ms : List ℕ) → Ascends a ms → Tells a ms → own_funcs c a fs ≡ filter_map (λ func. slice_get fs (func - a)) ms
  own_are a [] ms up tells = sym (none_there a ms)
  own_are a (f ∷ fs) ms up tells = step a f fs (own_are (suc a) fs) ms up tells
