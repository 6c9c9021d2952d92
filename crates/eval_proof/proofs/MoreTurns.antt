-- An evaluation with more turns does the same, unless it stops because turns run out.
use Rattle.base_lists.proofs.Common.{◌≡◌, ◌∙◌, ℕ, ◌+◌, ◌-◌, ◌<◌, List, [], ◌∷◌, Option, Some, None, Bool, true, false, refl, sym, ap, subst, slice_get, arith, nat_eq, nat_lt, eqb-false, ltb-false, ne_eqb, le-ltb}
use Rattle.wasm_tree_spec.specs.Prelude.{Instr, Module}
use Rattle.wasm_tree.specs.declared.instr.Instr.TheOpen.{Instr-F}
use Rattle.wasm_meaning.specs.Prelude.{Outcome, Gives, Traps, IllTyped, Val, Func, Entry, Mark, Env, Next, Ran, CallsOwn, WaitsGrowth, CallsPlaceholder, EndsCall, step, enter, touched_by}
use Rattle.run_simulation.specs.Prelude.{left_unknown}
use Rattle.eval_spec.specs.declared.stop.Stop.{Stop}
use Rattle.eval_spec.specs.declared.stop.Stop.TheVariants as why
use Rattle.eval_spec.specs.Prelude.{State, Stage, Going, Stopped, Finished, Test, first_held, stopped_or, is_going, Beginning, beginning, further_turns, frame_turns, written_after, test, tests_at, tests, instruction_tests, host_tests, spent_at, spent, came_to, quiet_step, ComesTo, here, on}
use Rattle.eval_spec.specs.Prelude.{host_opened, host_opened_if_there, host_call, run_end, call_end, called_in_order}
use Rattle.eval_proof.specs.Budgets.{more_turns, with_turns, HasTurns}
use Rattle.eval_proof.proofs.RunEnds.{runs_end, ends_are_reached, quiet_ends_are_unique}
use Rattle.eval_proof.proofs.QuietSteps.{none_held}

-- ---- tests with more turns ----

-- Two lists of tests whose stops are the same, test by test: a test of the first list that holds,
-- and is not for turns, holds in the second with `d` more turns left, and one that does not hold
-- does not hold in the second.
SameTests : ℕ → List Test → List Test → Type 0
SameTests d [] [] = Unit {0}
SameTests d [] (u ∷ us) = ⊥
SameTests d (t ∷ ts) [] = ⊥
SameTests d (t ∷ ts) (u ∷ us) = (t.stop ≡ u.stop) × (((t.holds ≡ true) → ¬ (t.stop ≡ why.Steps) → (u.holds ≡ true) × (u.left ≡ t.left + d)) × (t.holds ≡ false → (u.holds ≡ false) × SameTests d ts us))

no_tests : (d : ℕ) → SameTests d [] []
unfolding SameTests
no_tests d = tt

-- A test that does not depend on turns is first in both lists.
same_test : (d : ℕ) (b : Bool) (x : Stop) (l k : ℕ) (ts us : List Test) → k ≡ l + d → SameTests d ts us → SameTests d (test b x l ∷ ts) (test b x k ∷ us)
unfolding SameTests
same_test d b x l k ts us e rest = (refl, ((λ h n. (h, e)), (λ h. (h, rest))))

-- A test for turns is first in both lists.
turn_test : (d : ℕ) (b c : Bool) (l k : ℕ) (ts us : List Test) → (b ≡ false → c ≡ false) → (b ≡ false → SameTests d ts us) → SameTests d (test b why.Steps l ∷ ts) (test c why.Steps k ∷ us)
unfolding SameTests
turn_test d b c l k ts us f g = (refl, ((λ h n. absurd (n refl)), (λ h. (f h, g h))))

same_first : (d : ℕ) (t u : Test) (ts us : List Test) → SameTests d (t ∷ ts) (u ∷ us) → t.holds ≡ true → ¬ (t.stop ≡ why.Steps) → (t.stop ≡ u.stop) × ((u.holds ≡ true) × (u.left ≡ t.left + d))
unfolding SameTests
same_first d t u ts us s h n = (s.0, s.1.0 h n)

same_rest : (d : ℕ) (t u : Test) (ts us : List Test) → SameTests d (t ∷ ts) (u ∷ us) → t.holds ≡ false → (u.holds ≡ false) × SameTests d ts us
unfolding SameTests
same_rest d t u ts us s h = s.1.1 h

no_more : (d : ℕ) (u : Test) (us : List Test) → ¬ SameTests d [] (u ∷ us)
unfolding SameTests
no_more d u us s = s

no_fewer : (d : ℕ) (t : Test) (ts : List Test) → ¬ SameTests d (t ∷ ts) []
unfolding SameTests
no_fewer d t ts s = s

held : (t : Test) (ts : List Test) → t.holds ≡ true → first_held (t ∷ ts) ≡ Some t
held t ts h = rw h refl

not_held : (t : Test) (ts : List Test) → t.holds ≡ false → first_held (t ∷ ts) ≡ first_held ts
not_held t ts h = rw h refl

some_tried : (t u : Test) (d : ℕ) (x y : Stage) → t.stop ≡ u.stop → u.left ≡ t.left + d → stopped_or (Some u) y ≡ with_turns d (stopped_or (Some t) x)
some_tried t u d x y e f = rw (e, f) refl

same_tried : (d : ℕ) (ts us : List Test) (x y : Stage) → SameTests d ts us → (first_held ts ≡ None → y ≡ with_turns d x) → HasTurns (stopped_or (first_held ts) x) → stopped_or (first_held us) y ≡ with_turns d (stopped_or (first_held ts) x)
same_tried d [] [] x y s p q = p refl
same_tried d [] (u ∷ us) x y s p q = absurd (no_more d u us s)
same_tried d (t ∷ ts) [] x y s p q = absurd (no_fewer d t ts s)
same_tried d (t ∷ ts) (u ∷ us) x y s p q = by t.holds refl (same_tried d ts us x y)
  where
    by : (b : Bool) → t.holds ≡ b → (SameTests d ts us → (first_held ts ≡ None → y ≡ with_turns d x) → HasTurns (stopped_or (first_held ts) x) → stopped_or (first_held us) y ≡ with_turns d (stopped_or (first_held ts) x)) →
        stopped_or (first_held (u ∷ us)) y ≡ with_turns d (stopped_or (first_held (t ∷ ts)) x)
    by true h more =
        let k = same_first d t u ts us s h (λ z. subst (λ o. HasTurns (stopped_or o x)) (held t ts h) q (ap Some z)) in
        ap (λ o. stopped_or o y) (held u us k.1.0) ∙ (some_tried t u d x y k.0 k.1.1 ∙ ap (λ o. with_turns d (stopped_or o x)) (sym (held t ts h)))
    by false h more =
        let k = same_rest d t u ts us s h in
        ap (λ o. stopped_or o y) (not_held u us k.0)
        ∙ (more k.1 (λ n. p (not_held t ts h ∙ n)) (subst (λ o. HasTurns (stopped_or o x)) (not_held t ts h) q) ∙ ap (λ o. with_turns d (stopped_or o x)) (sym (not_held t ts h)))

-- ---- a step ----

there : (n : ℕ) → nat_eq n 0 ≡ false → 0 < n
there n e = omega (arith, λ (z : n ≡ 0). eqb-false n 0 e z)

still_there : (n d : ℕ) → nat_eq n 0 ≡ false → nat_eq (n + d) 0 ≡ false
still_there n d e = let h = there n e in ne_eqb (n + d) 0 (λ z. absurd (omega (arith, h, z)))

first_left : (n d : ℕ) → nat_eq n 0 ≡ false → n + d - 1 ≡ n - 1 + d
first_left n d e = let h = there n e in omega (arith, h)

further_left : (n d k : ℕ) → nat_eq n 0 ≡ false → nat_lt (n - 1) k ≡ false → n + d - 1 - k ≡ n - 1 - k + d
further_left n d k e f = let h = there n e in let l = ltb-false (n - 1) k f in omega (arith, h, l)

still_enough : (n d k : ℕ) → nat_eq n 0 ≡ false → nat_lt (n - 1) k ≡ false → nat_lt (n + d - 1) k ≡ false
still_enough n d k e f = let h = there n e in let l = ltb-false (n - 1) k f in le-ltb (n + d - 1) k (omega (arith, h, l))

module _ (m : Module) (d : ℕ) where
  instruction_same : (s : State) (es : List Entry) (o : Instr-F Instr) (env : Env) (vs : List Val) → SameTests d (instruction_tests m s es o env vs) (instruction_tests m (more_turns d s) es o env vs)
  instruction_same s es o env vs =
      turn_test d _ _ _ _ _ _ (still_there s.turns d) (λ e.
      same_test d _ _ _ _ _ _ (first_left s.turns d e) (same_test d _ _ _ _ _ _ (first_left s.turns d e) (same_test d _ _ _ _ _ _ (first_left s.turns d e) (same_test d _ _ _ _ _ _ (first_left s.turns d e) (same_test d _ _ _ _ _ _ (first_left s.turns d e)
      (turn_test d _ _ _ _ _ _ (still_enough s.turns d (further_turns o env vs) e) (λ f.
      same_test d _ _ _ _ _ _ (further_left s.turns d (further_turns o env vs) e f) (same_test d _ _ _ _ _ _ (further_left s.turns d (further_turns o env vs) e f) (no_tests d)))))))))

  tests_same : (s : State) (es : List Entry) (b : Option Beginning) → SameTests d (tests_at m s es b) (tests_at m (more_turns d s) es b)
  tests_same s es (Some b) = instruction_same s es b.instr (record { store = s.store; inst = b.inst }) b.values
  tests_same s es None = same_test d _ _ _ _ [] [] refl (no_tests d)

  spent_same_at : (s : State) (es : List Entry) (b : Option Beginning) → first_held (tests_at m s es b) ≡ None → spent_at (more_turns d s) b ≡ more_turns d (spent_at s b)
  spent_same_at s es None n = refl
  spent_same_at s es (Some b) n =
      let env : Env = record { store = s.store; inst = b.inst } in
      let all = none_held (instruction_tests m s es b.instr env b.values) n in
      ap (λ t. record s { turns = t; written = written_after s.written (touched_by b.instr env b.values) }) (further_left s.turns d (further_turns b.instr env b.values) all.0 all.1.1.1.1.1.1.0)

  spent_same : (s : State) (es : List Entry) → first_held (tests m s es) ≡ None → spent (more_turns d s) es ≡ more_turns d (spent s es)
  spent_same s es n = ap {A = State} (λ x. record x { unknown = left_unknown s.unknown s.store es }) (spent_same_at s es (beginning es) n)

  came_same : (s : State) (o : Outcome Next) → came_to (more_turns d s) o ≡ with_turns d (came_to s o)
  came_same s Traps = refl
  came_same s IllTyped = refl
  came_same s (Gives (Ran t fs)) = refl
  came_same s (Gives (CallsOwn pair ty vs t fs)) = refl
  came_same s (Gives (WaitsGrowth g size count t fs)) = refl
  came_same s (Gives (CallsPlaceholder slot vs t fs)) = refl
  came_same s (Gives (EndsCall vs t fs)) = refl

  quiet_same : (s : State) (es : List Entry) → HasTurns (quiet_step m s es) → quiet_step m (more_turns d s) es ≡ with_turns d (quiet_step m s es)
  quiet_same s es q = same_tried d (tests m s es) (tests m (more_turns d s) es) (came_to (spent s es) (step s.store es)) (came_to (spent (more_turns d s) es) (step s.store es)) (tests_same s es (beginning es))
      (λ n. ap (λ x. came_to x (step s.store es)) (spent_same s es n) ∙ came_same (spent s es) (step s.store es)) q

  -- ---- a run ----

  had_turns : {t u : Stage} → ComesTo m t u → HasTurns u → HasTurns t
  had_turns here q = q
  had_turns (on p) q = λ e. absurd (let k = e in cc)

  comes_same : {t u : Stage} → ComesTo m t u → HasTurns u → ComesTo m (with_turns d t) (with_turns d u)
  comes_same here q = here
  comes_same {u = u} (on {s = s} {es = es} p) q = on (subst (λ t. ComesTo m t (with_turns d u)) (sym (quiet_same s es (had_turns p q))) (comes_same p q))

  ends_same : (t : Stage) → is_going (with_turns d t) ≡ is_going t
  ends_same (Going s es) = refl
  ends_same (Stopped x left) = refl
  ends_same (Finished s) = refl

  run_same : (t : Stage) → HasTurns (run_end m t) → run_end m (with_turns d t) ≡ with_turns d (run_end m t)
  run_same t q = quiet_ends_are_unique m (with_turns d t) (with_turns d (run_end m t)) (comes_same (ends_are_reached m t) q) (ends_same (run_end m t) ∙ runs_end m t)

  -- ---- a call by the embedder ----

  host_same : (s : State) (f : Func) → SameTests d (host_tests s f) (host_tests (more_turns d s) f)
  host_same s f =
      same_test d _ _ _ _ _ _ refl (same_test d _ _ _ _ _ _ refl (turn_test d _ _ _ _ [] [] (λ e. let l = ltb-false s.turns (frame_turns f) e in le-ltb (s.turns + d) (frame_turns f) (omega (arith, l))) (λ e. no_tests d)))

  opened_same : (s : State) (f : Func) → HasTurns (host_opened s f) → host_opened (more_turns d s) f ≡ with_turns d (host_opened s f)
  opened_same s f q = same_tried d (host_tests s f) (host_tests (more_turns d s) f) _ _ (host_same s f) went q
    where
      went : first_held (host_tests s f) ≡ None → came_to (record s { turns = s.turns + d - frame_turns f }) (Gives (enter s.store f [] (Mark ∷ []))) ≡ with_turns d (came_to (record s { turns = s.turns - frame_turns f }) (Gives (enter s.store f [] (Mark ∷ []))))
      went n =
          let all = none_held (host_tests s f) n in
          let l = ltb-false s.turns (frame_turns f) all.1.1.0 in
          let e : s.turns + d - frame_turns f ≡ s.turns - frame_turns f + d = omega (arith, l) in
          ap (λ t. came_to (record s { turns = t }) (Gives (enter s.store f [] (Mark ∷ [])))) e ∙ came_same (record s { turns = s.turns - frame_turns f }) (Gives (enter s.store f [] (Mark ∷ [])))

  there_same : (s : State) (f : Option Func) → HasTurns (host_opened_if_there s f) → host_opened_if_there (more_turns d s) f ≡ with_turns d (host_opened_if_there s f)
  there_same s (Some f) q = opened_same s f q
  there_same s None q = refl

  pub call_same : (s : State) (func : ℕ) → HasTurns (call_end m s func) → call_end m (more_turns d s) func ≡ with_turns d (call_end m s func)
  call_same s func q =
      let began = had_turns (ends_are_reached m (host_call s func)) q in
      ap (run_end m) (there_same s (slice_get s.store.funcs func) began) ∙ run_same (host_call s func) q

  -- Calls in order stop for want of turns if the stage before them did.
  pub kept_turns : (t : Stage) (funcs : List ℕ) → HasTurns (called_in_order m t funcs) → HasTurns t
  kept_turns (Finished s) funcs q = λ e. absurd (let k = e in cc)
  kept_turns (Going s es) funcs q = q
  kept_turns (Stopped x left) funcs q = q

  pub calls_same : (t : Stage) (funcs : List ℕ) → HasTurns (called_in_order m t funcs) → called_in_order m (with_turns d t) funcs ≡ with_turns d (called_in_order m t funcs)
  calls_same (Finished s) [] q = refl
  calls_same (Finished s) (f ∷ funcs) q = ap (λ t. called_in_order m t funcs) (call_same s f (kept_turns (call_end m s f) funcs q)) ∙ calls_same (call_end m s f) funcs q
  calls_same (Going s es) funcs q = refl
  calls_same (Stopped x left) funcs q = refl
