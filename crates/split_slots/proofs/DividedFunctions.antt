-- The loop that divides the defined functions, one function at a time.
use Rattle.base_lists.proofs.Common.{◌≡◌, ℕ, zero, suc, ◌+◌, arith, Bool, true, false, cond, List, [], ◌∷◌, ◌++◌, take, drop, set, Some, is_some, refl, ap, ◌∙◌, slice_get}
use Rattle.wasm_tree_spec.specs.Prelude.{FuncType, Func}
use Rattle.split_slots.specs.declared.call_replacement.Calls.{Calls}
use Rattle.split_slots.specs.SlotLookup.{slot_at}
use Rattle.split_slots.specs.DividedDefinitions.{own_funcs, parted_func, parted_funcs}

module _ (types : List FuncType) (c : Calls) where
  -- The functions of which those before a place are divided, and the others are unchanged.
  abbrev pub parted_to : (first : ℕ) → List Func → ℕ → List Func
  parted_to first fs i = parted_funcs types c first (take i fs) ++ drop i fs

  pub parted_at : (first : ℕ) (fs : List Func) (i : ℕ) → slice_get (parted_to first fs i) i ≡ slice_get fs i
  parted_at first [] zero = refl
  parted_at first [] (suc i) = refl
  parted_at first (f ∷ fs) zero = refl
  parted_at first (f ∷ fs) (suc i) = parted_at (suc first) fs i

  parted_suc : (first : ℕ) (fs : List Func) (i k : ℕ) (f : Func) → k ≡ first + i → Some f ≡ slice_get fs i → set (parted_to first fs i) i (parted_func types c (slot_at c.slots.now k) f) ≡ parted_to first fs (suc i)
  parted_suc first [] i k f e at = cc
  parted_suc first (g ∷ fs) zero k f e at =
      let same : f ≡ g = cc in
      let here : k ≡ first = omega (arith, e) in
      ap (λ (z : Func). parted_func types c (slot_at c.slots.now k) z ∷ fs) same ∙ ap (λ n. parted_func types c (slot_at c.slots.now n) g ∷ fs) here
  parted_suc first (g ∷ fs) (suc i) k f e at =
      let there : k ≡ suc first + i = omega (arith, e) in
      ap (λ zs. parted_func types c (slot_at c.slots.now first) g ∷ zs) (parted_suc (suc first) fs i k f there at)

  pub parted_more : (first : ℕ) (fs : List Func) (i : ℕ) (f : Func) → Some f ≡ slice_get fs i → set (parted_to first fs i) i (parted_func types c (slot_at c.slots.now (first + i)) f) ≡ parted_to first fs (i + 1)
  parted_more first fs i f at = let one : suc i ≡ i + 1 = omega arith in parted_suc first fs i (first + i) f refl at ∙ ap (parted_to first fs) one

  own_suc : (first : ℕ) (fs : List Func) (i k : ℕ) (f : Func) → k ≡ first + i → Some f ≡ slice_get fs i → own_funcs c first (take (suc i) fs) ≡ own_funcs c first (take i fs) ++ cond (is_some (slot_at c.slots.now k)) (f ∷ []) []
  own_suc first [] i k f e at = cc
  own_suc first (g ∷ fs) zero k f e at =
      let same : g ≡ f = cc in
      let here : first ≡ k = omega (arith, e) in
      ap (λ (z : Func). cond (is_some (slot_at c.slots.now first)) (z ∷ []) []) same ∙ ap (λ n. cond (is_some (slot_at c.slots.now n)) (f ∷ []) []) here
  own_suc first (g ∷ fs) (suc i) k f e at =
      let there : k ≡ suc first + i = omega (arith, e) in
      split (is_some (slot_at c.slots.now first)) (own_suc (suc first) fs i k f there at)
    where
      later : List Func
      later = own_funcs c (suc first) (take i fs)

      more : List Func
      more = cond (is_some (slot_at c.slots.now k)) (f ∷ []) []

      split : (b : Bool) → own_funcs c (suc first) (take (suc i) fs) ≡ later ++ more → cond b (g ∷ own_funcs c (suc first) (take (suc i) fs)) (own_funcs c (suc first) (take (suc i) fs)) ≡ cond b (g ∷ later) later ++ more
      split true is = ap (λ zs. g ∷ zs) is
      split false is = is

  pub own_more : (first : ℕ) (fs : List Func) (i : ℕ) (f : Func) → Some f ≡ slice_get fs i → own_funcs c first (take (i + 1) fs) ≡ own_funcs c first (take i fs) ++ cond (is_some (slot_at c.slots.now (first + i))) (f ∷ []) []
  own_more first fs i f at = let one : i + 1 ≡ suc i = omega arith in ap (λ n. own_funcs c first (take n fs)) one ∙ own_suc first fs i (first + i) f refl at
