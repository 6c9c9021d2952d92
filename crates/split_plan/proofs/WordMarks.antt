-- Marks of the functions that words name.
use Rattle.base_lists.proofs.Common.{◌≡◌, ◌≢◌, ℕ, ◌<◌, List, [], ◌∷◌, ◌++◌, length, replicate, Bool, true, false, ◌||◌, Option, Some, None, refl, sym, ap, ◌∙◌, arith, slice_set, slice_get, ◌==◌, list_any, or-false, length-replicate, eqb-true, eq-eqb, list_any-append, set_at, set_other, replicate_at}
use Rattle.std.proofs.Common.{length-set}
use Rattle.std.proofs.Math.Bool.{or-true}
use Rattle.split_plan.specs.declared.named.Named.{Named}
use Rattle.split_plan.specs.declared.fault.PlanFault.TheVariants.{KeptAndSplit}
use Rattle.split_plan.specs.PlannedMoves.{kept_fault}
use Rattle.split_plan.specs.NameTable.{AreMarks, enters_func, func_in}

module _ (entry : List ℕ → Option Named) (count : ℕ) where
  pub no_marks : (marks : List Bool) → marks ≡ replicate count false → AreMarks entry [] count marks
  no_marks marks is = record {
    one_each = rw is (length-replicate count false);
    right = λ func lt. rw is (replicate_at false count func lt);
  }

  pub one_more_mark : (ws : List (List ℕ)) (w : List ℕ) (func : ℕ) (marks new : List Bool) → func_in (entry w) ≡ Some func → new ≡ slice_set marks func true → AreMarks entry ws count marks → AreMarks entry (ws ++ w ∷ []) count new
  one_more_mark ws w func marks new named is old = record {
    one_each = rw is (length-set marks func true ∙ old.one_each);
    right = λ g lt. rw (is, list_any-append (enters_func entry g) ws (w ∷ []), named) (split g lt (func == g) refl);
  }
    where
      split : (g : ℕ) → g < count → (b : Bool) → (func == g) ≡ b → slice_get (slice_set marks func true) g ≡ Some (list_any (enters_func entry g) ws || (b || false))
      split g lt true e =
          let same : func ≡ g = eqb-true func g e in
          let there : func < length marks = omega (arith, old.one_each) in
          ap (λ k. slice_get (slice_set marks func true) k) (sym same) ∙ set_at marks func true there ∙ ap Some (sym (or-true (list_any (enters_func entry g) ws)))
      split g lt false e =
          let other : g ≢ func = λ same. (let yes = sym (eq-eqb func g (sym same)) ∙ e in cc) in
          set_other marks func g true other ∙ old.right g lt ∙ ap Some (sym (or-false (list_any (enters_func entry g) ws)))

-- ---- words whose functions are kept

pub is_refused : (is_kept : ℕ → Bool) (named : Option ℕ) (func : ℕ) (word : List ℕ) → named ≡ Some func → is_kept func ≡ true → kept_fault is_kept named word ≡ Some (KeptAndSplit word)
is_refused is_kept named func word is kept = rw (is, kept) refl

pub is_let_go : (is_kept : ℕ → Bool) (named : Option ℕ) (func : ℕ) (word : List ℕ) → named ≡ Some func → is_kept func ≡ false → kept_fault is_kept named word ≡ None
is_let_go is_kept named func word is kept = rw (is, kept) refl
