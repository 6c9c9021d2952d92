-- Stuttering steps of a run under a loader, and the steps of the machine that they consist of.
use Rattle.base_lists.proofs.Common.{◌≡◌, ◌∙◌, refl, ap, sym, ℕ, zero, suc, ◌≤◌, List, [], ◌∷◌, None, arith}
use Rattle.base_simulation.proofs.StutteringSteps.{StutteringSteps, here, before}
use Rattle.wasm_meaning.specs.Prelude.{Outcome, Gives, Traps, IllTyped, CallsOwn, CallsPlaceholder, Ended, EndsCall, Entry, Growing, Mark, Next, Opening, Ran, Running, Store, WaitsGrowth, Waiting, LoaderRun, LoaderWorld, loader_made, tick_loader, Run, Steps, transition, step}
use Rattle.run_simulation.specs.Prelude.{go_on}

-- ---- steps of the machine ----

-- The run with this store and stack.
abbrev pub at : Run → Store → List Entry → Run
at r s es = record r { store = s; entries = es }

-- A step of the machine that does not trap is the step of the run.
pub step_is : (r : Run) (s : Store) (es : List Entry) (n : Next) → step s es ≡ Gives n → transition (at r s es) ≡ Steps (at r s es) (Gives n)
step_is r s (Running f ∷ es) n e = ap (Steps (at r s (Running f ∷ es))) e
step_is r s [] n e = cc
step_is r s (Mark ∷ es) n e = cc
step_is r s (Opening xs ∷ es) n e = cc
step_is r s (Waiting ts ∷ es) n e = cc
step_is r s (Ended vs ∷ es) n e = cc
step_is r s (Growing g ∷ es) n e = cc

-- A step of the run that shows no event is one stuttering step under the loader.
pub ran_is : (w : LoaderWorld) (q : LoaderRun) (x y : Run) (s : Store) (es : List Entry) → transition x ≡ Steps y (Gives (Ran s es)) → tick_loader w (record q { run = x }) ≡ (record q { run = at y s es }, None)
ran_is w q x y s es e = ap (loader_made w (record q { run = x })) e

-- The run makes this number of stuttering steps, or has another outcome before that.
pub data Reaches (w : LoaderWorld) (q : LoaderRun) (r : Run) (n : ℕ) (s : Store) (es : List Entry) (o : Outcome Next) : Type 0 where
  whole : (t : Store) (fs : List Entry) → StutteringSteps (tick_loader w) n (record q { run = at r s es }) (record q { run = at r t fs }) → o ≡ Gives (Ran t fs) → Reaches w q r n s es o
  part : (k : ℕ) → suc k ≤ n → (t : Store) (fs : List Entry) → StutteringSteps (tick_loader w) k (record q { run = at r s es }) (record q { run = at r t fs }) → step t fs ≡ o → ((u : Store) (gs : List Entry) → o ≡ Gives (Ran u gs) → ⊥) → Reaches w q r n s es o

pub reaches : (w : LoaderWorld) (q : LoaderRun) (r : Run) (n : ℕ) (s : Store) (es : List Entry) (o : Outcome Next) → go_on n (Gives (Ran s es)) ≡ o → Reaches w q r n s es o
reaches w q r zero s es o e = whole s es here (sym e)
reaches w q r (suc n) s es o e = by (step s es) refl e (λ t fs f. reaches w q r n t fs o f)
  where
    stops : (x : Outcome Next) → step s es ≡ x → x ≡ o → ((t : Store) (fs : List Entry) → x ≡ Gives (Ran t fs) → ⊥) → Reaches w q r (suc n) s es o
    stops x is f other = part 0 (omega arith) s es here (is ∙ f) (λ t fs g. other t fs (f ∙ g))

    further : (t : Store) (fs : List Entry) → step s es ≡ Gives (Ran t fs) → Reaches w q r n t fs o → Reaches w q r (suc n) s es o
    further t fs is (whole u gs rest f) = whole u gs (before (ran_is w q (at r s es) (at r s es) t fs (step_is r s es (Ran t fs) is)) rest) f
    further t fs is (part k lt u gs rest f other) = part (suc k) (omega (arith, lt)) u gs (before (ran_is w q (at r s es) (at r s es) t fs (step_is r s es (Ran t fs) is)) rest) f other

    same : (x : Outcome Next) → ((t : Store) (fs : List Entry) → x ≡ Gives (Ran t fs) → ⊥) → go_on n x ≡ x
    same x other = at_count n x other
      where
        at_count : (n : ℕ) (x : Outcome Next) → ((t : Store) (fs : List Entry) → x ≡ Gives (Ran t fs) → ⊥) → go_on n x ≡ x
        at_count zero x other = refl
        at_count (suc n) Traps other = refl
        at_count (suc n) IllTyped other = refl
        at_count (suc n) (Gives (Ran t fs)) other = absurd (other t fs refl)
        at_count (suc n) (Gives (CallsOwn p u vs t fs)) other = refl
        at_count (suc n) (Gives (WaitsGrowth g m k t fs)) other = refl
        at_count (suc n) (Gives (CallsPlaceholder k vs t fs)) other = refl
        at_count (suc n) (Gives (EndsCall vs t fs)) other = refl

    by : (x : Outcome Next) → step s es ≡ x → go_on n x ≡ o → ((t : Store) (fs : List Entry) → go_on n (Gives (Ran t fs)) ≡ o → Reaches w q r n t fs o) → Reaches w q r (suc n) s es o
    by (Gives (Ran t fs)) is e rest = further t fs is (rest t fs e)
    by Traps is e rest = stops Traps is (sym (same Traps (λ t fs f. cc)) ∙ e) (λ t fs f. cc)
    by IllTyped is e rest = stops IllTyped is (sym (same IllTyped (λ t fs f. cc)) ∙ e) (λ t fs f. cc)
    by (Gives (CallsOwn p u vs t fs)) is e rest = stops _ is (sym (same (Gives (CallsOwn p u vs t fs)) (λ t fs f. cc)) ∙ e) (λ t fs f. cc)
    by (Gives (WaitsGrowth g m k t fs)) is e rest = stops _ is (sym (same (Gives (WaitsGrowth g m k t fs)) (λ t fs f. cc)) ∙ e) (λ t fs f. cc)
    by (Gives (CallsPlaceholder k vs t fs)) is e rest = stops _ is (sym (same (Gives (CallsPlaceholder k vs t fs)) (λ t fs f. cc)) ∙ e) (λ t fs f. cc)
    by (Gives (EndsCall vs t fs)) is e rest = stops _ is (sym (same (Gives (EndsCall vs t fs)) (λ t fs f. cc)) ∙ e) (λ t fs f. cc)
