-- The loops that mark the operands of code, one operand at a time.
use Rattle.base_lists.proofs.Common.{◌≡◌, ℕ, zero, suc, ◌+◌, ◌-◌, ◌≤◌, arith, map, take, replicate, Bool, true, false, ◌&&◌, ◌||◌, not, List, [], ◌∷◌, ◌++◌, length, Option, Some, None, is_some, option_map, refl, sym, ap, ap₂, ◌∙◌, nat_eq, slice_get, cons_option, list_any, filter_map-append}
use Rattle.base_lists.proofs.Common.{or_assoc, or-false, and-false, list_any-append, same_number}
use Rattle.base_lists.specs.Places.{numbers}
use Rattle.wasm_tree_spec.specs.Prelude.{Func, Module, imported_funcs, Space, Operand, listed, same_space}
use Rattle.split_spec.specs.Prelude.{defined_at}
use Rattle.split_slots.proofs.SlotTables.{take_one}
use Rattle.wasm_tree.specs.declared.space.Operands.{Operands}
use Rattle.split_slots.specs.declared.named_entities.Marks.{Marks}
use Rattle.split_slots.specs.SlotLookup.{slot_at}
use Rattle.split_slots.specs.OperandMarks.{Notes, marks_in, named_by}

-- ---- one mark ----

pub unmarked : (o : Option Bool) (b : Bool) → b ≡ false → o ≡ option_map (λ mark. mark || b) o
unmarked None b e = refl
unmarked (Some mark) b e = ap Some (sym (or-false mark) ∙ ap (λ c. mark || c) (sym e))

-- ---- one after the other ----

twice : (o : Option Bool) (t u : Bool) → option_map (λ mark. mark || u) (option_map (λ mark. mark || t) o) ≡ option_map (λ mark. mark || (t || u)) o
twice None t u = refl
twice (Some mark) t u = ap Some (or_assoc mark t u)

pub then_notes : (t u : Space → ℕ → Bool) (a b c : Marks) → Notes t a b → Notes u b c → Notes (λ s i. t s i || u s i) a c
then_notes t u a b c first second s i = second s i ∙ ap (option_map (λ mark. mark || u s i)) (first s i) ∙ twice (slice_get (marks_in a s) i) (t s i) (u s i)

pub notes_as : (t u : Space → ℕ → Bool) (a b : Marks) → ((s : Space) (i : ℕ) → t s i ≡ u s i) → Notes t a b → Notes u a b
notes_as t u a b same h s i = h s i ∙ ap (λ x. option_map (λ mark. mark || x) (slice_get (marks_in a s) i)) (same s i)

-- ---- one operand ----

module _ (slots : List (Option ℕ)) (o : Operand) where
  pub moved_call : o.called && is_some (slot_at slots o.index) ≡ true → (s : Space) (i : ℕ) → named_by slots s i o ≡ false
  moved_call h s i = split (nat_eq o.index i) refl
    where
      split : (b : Bool) → nat_eq o.index i ≡ b → named_by slots s i o ≡ false
      split true e =
          let at : o.index ≡ i = same_number o.index i e in
          let here : o.called && is_some (slot_at slots i) ≡ true = ap (λ n. o.called && is_some (slot_at slots n)) (sym at) ∙ h in
          ap (λ b. same_space o.space s && (b && not (o.called && is_some (slot_at slots i)))) e ∙ ap (λ b. same_space o.space s && not b) here ∙ and-false (same_space o.space s)
      split false e = ap (λ b. same_space o.space s && (b && not (o.called && is_some (slot_at slots i)))) e ∙ and-false (same_space o.space s)

-- ---- the operands of an instruction, and what it holds ----

pub both_listed : (test : Operand → Bool) (os : Operands) → (list_any test (cons_option os.first []) || list_any test (cons_option os.second [])) ≡ list_any test (listed os)
both_listed test os = split os.first
  where
    split : (first : Option Operand) → (list_any test (cons_option first []) || list_any test (cons_option os.second [])) ≡ list_any test (cons_option first (cons_option os.second []))
    split None = refl
    split (Some o) = ap (λ b. b || list_any test (cons_option os.second [])) (or-false (test o))

-- ---- all marks of an index space ----

noted_from : (test : ℕ → Bool) (a n : ℕ) (xs : List Bool) → ((i : ℕ) → slice_get xs i ≡ option_map (λ mark. mark || test (a + i)) (slice_get (replicate n false) i)) → xs ≡ map test (numbers a n)
noted_from test a zero [] h = refl
noted_from test a zero (x ∷ xs) h = let e = h 0 in cc
noted_from test a (suc n) [] h = let e = h 0 in cc
noted_from test a (suc n) (x ∷ xs) h =
    let here : a + zero ≡ a = omega arith in
    let first : Some x ≡ Some (test (a + zero)) = h 0 in
    let is : x ≡ test (a + zero) = cc in
    ap₂ (λ y ys. y ∷ ys) (is ∙ ap test here) (noted_from test (suc a) n xs (λ i. let there : a + suc i ≡ suc a + i = omega arith in h (suc i) ∙ ap (λ k. option_map (λ mark. mark || test k) (slice_get (replicate n false) i)) there))

pub all_noted : (test : Space → ℕ → Bool) (none marks : Marks) (s : Space) (n : ℕ) → marks_in none s ≡ replicate n false → Notes test none marks → marks_in marks s ≡ map (test s) (numbers 0 n)
all_noted test none marks s n is h =
    noted_from (test s) 0 n (marks_in marks s)
    (λ i. let e : i ≡ 0 + i = omega arith in h s i ∙ ap (λ xs. option_map (λ mark. mark || test s i) (slice_get xs i)) is ∙ ap (λ k. option_map (λ mark. mark || test s k) (slice_get (replicate n false) i)) e)

-- ---- one function more ----

pub one_func : (test : Space → ℕ → Func → Bool) (m : Module) (own : List ℕ) (k f : ℕ) → slice_get own k ≡ Some f → (s : Space) (i : ℕ) →
    (list_any (test s i) (defined_at m (take k own)) || list_any (test s i) (cons_option (slice_get m.funcs (f - length (imported_funcs m.imports))) [])) ≡ list_any (test s i) (defined_at m (take (k + 1) own))
one_func test m own k f at s i =
    sym (ap (λ fs. list_any (test s i) (defined_at m fs)) taken ∙ ap (list_any (test s i)) (filter_map-append look (take k own) (f ∷ [])) ∙ list_any-append (test s i) (defined_at m (take k own)) (cons_option (look f) []))
  where
    look : ℕ → Option Func
    look g = slice_get m.funcs (g - length (imported_funcs m.imports))

    taken : take (k + 1) own ≡ take k own ++ f ∷ []
    taken = let e : k + 1 ≡ suc k = omega arith in ap (λ n. take n own) e ∙ take_one own k f at

pub take_all : {A : Type 0} (xs : List A) (n : ℕ) → length xs ≤ n → take n xs ≡ xs
take_all [] zero le = refl
take_all [] (suc n) le = refl
take_all (x ∷ xs) zero le = absurd (omega (arith, le))
take_all (x ∷ xs) (suc n) le = let less : length xs ≤ n = omega (arith, le) in ap (λ ys. x ∷ ys) (take_all xs n less)
