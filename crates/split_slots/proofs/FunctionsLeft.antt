-- The survey of a module, with the functions that are left in the primary module, is that of the
-- definitions of a split.
use Rattle.base_lists.proofs.Common.{◌≡◌, ℕ, zero, suc, ◌+◌, ◌<◌, arith, Bool, false, ◌||◌, not, List, [], ◌∷◌, ◌++◌, map, length, is_some, unwrap_or, Option, refl, ap, ap₂, ◌∙◌, slice_get, cons_option, length-numbers, length-map}
use Rattle.base_lists.specs.Every.{Every}
use Rattle.base_lists.specs.Places.{numbers}
use Rattle.base_kept.specs.Marks.{named_from}
use Rattle.wasm_tree_spec.specs.Prelude.{Module, funcs_of}
use Rattle.wasm_valid.specs.declared.kinds.ItemKind.TheVariants as kind
use Rattle.wasm_valid.specs.Prelude.{refs_of, HoldsAt}
use Rattle.split_spec.specs.Prelude.{is_left, left_marks, place_among}
use Rattle.split_slots.specs.SlotLookup.{slot_at}
use Rattle.split_slots.proofs.ReferencesOutsideBodies.{RefsAreDeclared, marks_tell}
use Rattle.split_slots.proofs.SharedEntities.{slots_for}
use Rattle.split_slots.proofs.SlotTables.{has_place, table_tells}

map_same : (p q : ℕ → Bool) (a n : ℕ) → ((i : ℕ) → i < a + n → p i ≡ q i) → map p (numbers a n) ≡ map q (numbers a n)
map_same p q a zero h = refl
map_same p q a (suc n) h = ap₂ (λ b bs. b ∷ bs) (h a (omega arith)) (map_same p q (suc a) n (λ i lt. h i (omega (arith, lt))))

module _ (refs_declared : RefsAreDeclared) (m : Module) (holds : (i : ℕ) → i < length m.funcs → HoldsAt m kind.Body i) (moved : List ℕ) (there : Every (λ f. f < length (funcs_of m)) moved) where
  one_left : (slots : List (Option ℕ)) (needed : List Bool) → slots ≡ slots_for m moved → needed ≡ named_from (refs_of m ++ cons_option m.start []) 0 (length (funcs_of m)) →
      (f : ℕ) → f < length (funcs_of m) → (not (is_some (slot_at slots f)) || unwrap_or (slice_get needed f) false) ≡ is_left m moved f
  one_left slots needed is tells f lt =
      ap₂ (λ a b. not a || b) (ap (λ ss. is_some (slot_at ss f)) is ∙ ap is_some (table_tells moved (length (funcs_of m)) there f) ∙ has_place moved f 0)
      (ap (λ bs. unwrap_or (slice_get bs f) false) tells ∙ ap (λ o. unwrap_or o false) (marks_tell refs_declared m holds f lt))

  pub left_are : (slots : List (Option ℕ)) (needed : List Bool) → slots ≡ slots_for m moved → needed ≡ named_from (refs_of m ++ cons_option m.start []) 0 (length (funcs_of m)) →
      map (λ f. not (is_some (slot_at slots f)) || unwrap_or (slice_get needed f) false) (numbers 0 (length slots)) ≡ left_marks m moved
  left_are slots needed is tells =
      let test : ℕ → Bool = λ f. not (is_some (slot_at slots f)) || unwrap_or (slice_get needed f) false in
      let many : length slots ≡ length (funcs_of m) = ap length is ∙ length-map (numbers 0 (length (funcs_of m))) (place_among moved) ∙ length-numbers 0 (length (funcs_of m)) in
      ap (λ n. map test (numbers 0 n)) many ∙ map_same test (is_left m moved) 0 (length (funcs_of m)) (λ f lt. one_left slots needed is tells f (omega (arith, lt)))
