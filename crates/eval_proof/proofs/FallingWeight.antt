-- A quiet step that goes on leaves less weight: an instruction spends a turn and opens at most one
-- frame or label, and any other step ends a frame or label.
use Rattle.base_lists.proofs.Common.{◌≡◌, ℕ, suc, ◌+◌, ◌-◌, ◌*◌, ◌<◌, length, List, [], ◌∷◌, Option, Some, None, Bool, true, false, cond, drop, refl, ap, arith, nat_eq, eqb-false}
use Rattle.wasm_tree_spec.specs.Prelude.{Instr, out-Instr, Module}
use Rattle.wasm_meaning.specs.Prelude.{Outcome, Gives, Traps, IllTyped, Level, Frame, Entry, Running, Mark, Opening, Waiting, Ended, Growing, Next, Ran, CallsOwn, WaitsGrowth, CallsPlaceholder, EndsCall, step}
use Rattle.wasm_meaning.proofs.Outcomes.{AllOf, just}
use Rattle.eval_spec.specs.declared.stop.Stop.TheVariants as why
use Rattle.eval_spec.specs.Prelude.{State, Stage, Going, Stopped, Finished, Test, first_held, stopped_or, tried, Beginning, beginning, stack_depth, test, tests_at, tests, spent_at, spent, came_to, quiet_step, weight}
use Rattle.run_simulation.specs.Prelude.{left_unknown}
use Rattle.eval_proof.proofs.Depth.{DepthAtMost, end_depth, instr_depth}

-- The stage is an end, or its weight is less than `w`.
abbrev pub Less : ℕ → Stage → Type 0
Less w (Going s es) = weight (Going s es) < w
Less w (Stopped x left) = Unit {0}
Less w (Finished s) = Unit {0}

stopped_less : (o : Option Test) (u : Stage) (w : ℕ) → Less w u → Less w (stopped_or o u)
stopped_less (Some t) u w p = tt
stopped_less None u w p = p

tried_less : (ts : List Test) (u : Stage) (w : ℕ) → Less w u → Less w (tried ts u)
tried_less ts u w p = stopped_less (first_held ts) u w p

-- It suffices that the stage has less weight if the first test does not hold.
first_less : (t : Test) (ts : List Test) (u : Stage) (w : ℕ) → (t.holds ≡ false → Less w u) → Less w (tried (t ∷ ts) u)
first_less t ts u w p = by t.holds refl
  where
    by : (b : Bool) → t.holds ≡ b → Less w (stopped_or (cond b (Some t) (first_held ts)) u)
    by true e = tt
    by false e = tried_less ts u w (p e)

came_less : (s : State) (o : Outcome Next) (n w : ℕ) → AllOf (DepthAtMost n) o → 2 * s.turns + n < w → Less w (came_to s o)
came_less s Traps n w p lt = tt
came_less s IllTyped n w p lt = tt
came_less s (Gives (Ran t fs)) n w (just p) lt = omega (arith, p, lt)
came_less s (Gives (CallsOwn pair ty vs t fs)) n w p lt = tt
came_less s (Gives (WaitsGrowth g size count t fs)) n w p lt = tt
came_less s (Gives (CallsPlaceholder slot vs t fs)) n w p lt = tt
came_less s (Gives (EndsCall vs t fs)) n w p lt = tt

-- The step to which no rule applies stops the run.
none_less : (s : State) (o : Outcome Next) (w : ℕ) → o ≡ IllTyped → Less w (came_to s o)
none_less s o w e = rw e tt

-- The end of a level or frame leaves less weight.
end_less : (m : Module) (s : State) (es : List Entry) (n w : ℕ) → beginning es ≡ None → AllOf (DepthAtMost n) (step s.store es) → 2 * s.turns + n < w → Less w (quiet_step m s es)
end_less m s es n w is all lt = tried_less (tests m s es) _ w (came_less (spent s es) _ n w all (rw is lt))

-- The first test before an instruction is that of its one turn.
first_turn : (m : Module) (s : State) (es : List Entry) (b : Beginning) (u : Stage) (w : ℕ) → (nat_eq s.turns 0 ≡ false → Less w u) → Less w (stopped_or (first_held (tests_at m s es (Some b))) u)
first_turn m s es b u w p = first_less (test (nat_eq s.turns 0) why.Steps s.turns) (drop 1 (tests_at m s es (Some b))) u w p

instr_less : (m : Module) (s : State) (es : List Entry) (b : Beginning) (n w : ℕ) → beginning es ≡ Some b → AllOf (DepthAtMost n) (step s.store es) → (0 < s.turns → 2 * (s.turns - 1) + n < w) → Less w (quiet_step m s es)
instr_less m s es b n w is all lt =
    rw is (first_turn m s es b _ w (λ (e : nat_eq s.turns 0 ≡ false). let some : 0 < s.turns = omega (arith, λ (z : s.turns ≡ 0). eqb-false s.turns 0 e z) in let l = lt some in
    came_less (record (spent_at s (Some b)) { unknown = left_unknown s.unknown s.store es }) (step s.store es) n w all (omega (arith, l))))

levels_less : (m : Module) (s : State) (f : Frame) (es : List Entry) (ls : List Level) → f.levels ≡ ls → Less (weight (Going s (Running f ∷ es))) (quiet_step m s (Running f ∷ es))
levels_less m s f es [] e = tried_less (tests m s (Running f ∷ es)) (came_to (spent s (Running f ∷ es)) (step s.store (Running f ∷ es))) (weight (Going s (Running f ∷ es))) (none_less (spent s (Running f ∷ es)) (step s.store (Running f ∷ es)) (weight (Going s (Running f ∷ es))) (rw e refl))
levels_less m s f es (l ∷ ls) e = by l.code refl
  where
    by : (c : List Instr) → l.code ≡ c → Less (weight (Going s (Running f ∷ es))) (quiet_step m s (Running f ∷ es))
    by [] c = let k = ap length e in end_less m s (Running f ∷ es) (length ls + stack_depth es) _ (rw (e, c) refl) (end_depth s.store f es l ls e c) (omega (arith, k))
    by (o ∷ rest) c =
        let k = ap length e in
        instr_less m s (Running f ∷ es) (record { instr = out-Instr o; inst = f.inst; values = l.values }) (suc (suc (length ls)) + stack_depth es) _ (rw (e, c) refl) (instr_depth s.store f es l ls o rest e c) (λ some. omega (arith, k, some))

pub falls : (m : Module) (s : State) (es : List Entry) → Less (weight (Going s es)) (quiet_step m s es)
falls m s [] = tried_less (tests m s []) (came_to (spent s []) (step s.store [])) (weight (Going s [])) tt
falls m s (Running f ∷ es) = levels_less m s f es f.levels refl
falls m s (Mark ∷ es) = tried_less (tests m s (Mark ∷ es)) (came_to (spent s (Mark ∷ es)) (step s.store (Mark ∷ es))) (weight (Going s (Mark ∷ es))) tt
falls m s (Opening xs ∷ es) = tried_less (tests m s (Opening xs ∷ es)) (came_to (spent s (Opening xs ∷ es)) (step s.store (Opening xs ∷ es))) (weight (Going s (Opening xs ∷ es))) tt
falls m s (Waiting ts ∷ es) = tried_less (tests m s (Waiting ts ∷ es)) (came_to (spent s (Waiting ts ∷ es)) (step s.store (Waiting ts ∷ es))) (weight (Going s (Waiting ts ∷ es))) tt
falls m s (Ended vs ∷ es) = tried_less (tests m s (Ended vs ∷ es)) (came_to (spent s (Ended vs ∷ es)) (step s.store (Ended vs ∷ es))) (weight (Going s (Ended vs ∷ es))) tt
falls m s (Growing g ∷ es) = tried_less (tests m s (Growing g ∷ es)) (came_to (spent s (Growing g ∷ es)) (step s.store (Growing g ∷ es))) (weight (Going s (Growing g ∷ es))) tt
