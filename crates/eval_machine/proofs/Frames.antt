-- The quiet steps of opened levels, of frames and of calls, as the machine makes them.
use Rattle.base_lists.proofs.Common.{◌≡◌, ℕ, zero, suc, ◌+◌, ◌-◌, ◌/◌, ◌<◌, ◌≤◌, arith, List, [], ◌∷◌, ◌++◌, length, drop, get_or, slice_get, Bool, true, false, Option, Some, None, refl, sym, ap, ◌∙◌, subst, nat_le, nat_lt, lt-leb, lt-ltb, le-ltb}
use Rattle.wasm_tree_spec.specs.Prelude.{ValType, FuncType, Instr, Module}
use Rattle.wasm_meaning.specs.Prelude.{Outcome, Gives, Traps, IllTyped, bind, onto, or_ill_typed, split_at, Pair, Val, Code, Own, Entry, Running, Act, Ends, Next, pop_typed, zeros, give, perform}
use Rattle.eval_spec.specs.declared.limits.TheConstants.{MOST_DEPTH}
use Rattle.eval_spec.specs.declared.stop.Stop.TheVariants as why
use Rattle.eval_spec.specs.Prelude.{State, Stage, Stopped, tried, gives_nothing, stack_depth, test, ComesTo, here, on, came_to, own_inst}
use Rattle.eval_machine.specs.declared.registers.Registers.{Registers}
use Rattle.eval_machine.specs.declared.registers.Opening.{Opening}
use Rattle.eval_machine.specs.declared.registers.Flow.{Flow}
use Rattle.eval_machine.specs.declared.registers.Flow.TheVariants as flow
use Rattle.eval_machine.specs.Prelude.{state_in, store_in, LevelPlace, called, depth, frame_at, running}
use Rattle.eval_machine.specs.Flows.{RunsCode, back_of, entered, given, level_at, opened_by, outcome}
use Rattle.eval_machine.proofs.Levels.{and_then, inner, inner_depth}
use Rattle.eval_machine.proofs.TypedOperands.{results_cut}

shallow : (d : ℕ) → d < MOST_DEPTH → nat_le MOST_DEPTH d ≡ false
shallow d lt = lt-leb MOST_DEPTH d lt

deep : (d : ℕ) → d ≡ MOST_DEPTH → nat_le MOST_DEPTH d ≡ true
deep d e = rw e

enough : (n k : ℕ) → k ≤ n → nat_lt n k ≡ false
enough n k le = le-ltb n k le

too_few : (n k : ℕ) → n < k → nat_lt n k ≡ true
too_few n k lt = lt-ltb n k lt

pub came : {m : Module} {a b t : Stage} → a ≡ b → ComesTo m b t → ComesTo m a t
came {m = m} {t = t} e q = subst (λ x. ComesTo m x t) (sym e) q

-- ---- code ----

pub code_more : (xs : List Instr) (i : ℕ) (x : Instr) → i < length xs → x ≡ get_or xs i x → drop i xs ≡ x ∷ drop (i + 1) xs
code_more [] i x lt e = absurd (omega (arith, lt))
code_more (y ∷ ys) zero x lt e = ap (λ z. z ∷ ys) (sym e)
code_more (y ∷ ys) (suc i) x lt e = let less : i < length ys = omega (arith, lt) in let n : suc i + 1 ≡ suc (i + 1) = omega arith in rw n (code_more ys i x less e)

pub code_end : (xs : List Instr) (i : ℕ) → length xs ≤ i → drop i xs ≡ []
code_end [] zero le = refl
code_end [] (suc i) le = refl
code_end (y ∷ ys) zero le = absurd (omega (arith, le))
code_end (y ∷ ys) (suc i) le = code_end ys i (omega (arith, le))

-- ---- a level ----

module _ (m : Module) (r : Registers) (b : Opening) (o : Instr) (rest : List Instr) (p : LevelPlace) (es : List Entry) where
  -- The level that the instruction opens, over these operands.
  abbrev pub level_in : (below : List Val) → LevelPlace
  level_in below = inner b.gives b.takes (back_of o b.again) below rest p

  -- The level is opened, and its code runs.
  pub level_runs : (vs below top : List Val) (new : Registers) (flow : Flow) (d : ℕ) (u : Stage) → depth p es ≡ d → d < MOST_DEPTH → pop_typed b.params.now r.operands ≡ Gives (vs, below) → top ≡ onto vs [] →
      RunsCode m b.body.now (d + 1) (record r { operands = top }) flow new → ComesTo m (outcome m flow new (level_in below) es) u → ComesTo m (opened_by m r b o rest p es) u
  level_runs vs below top new flow d u e lt cut is runs q =
      let inside = and_then (runs (level_in below) es (inner_depth b.gives b.takes (back_of o b.again) below rest p es d e)) q in rw (cut, shallow (depth p es) (omega (arith, e, lt))) (rw is at inside)

  pub level_short : pop_typed b.params.now r.operands ≡ IllTyped → ComesTo m (opened_by m r b o rest p es) (Stopped why.Trap r.kept.turns)
  level_short e = rw e here

  pub level_deep : (vs below : List Val) → pop_typed b.params.now r.operands ≡ Gives (vs, below) → depth p es ≡ MOST_DEPTH → ComesTo m (opened_by m r b o rest p es) (Stopped why.Depth r.kept.turns)
  level_deep vs below e f = rw (e, deep (depth p es) f) here

pub back_again : (o : Instr) (again : Bool) (rest : List Instr) → again ≡ true → back_of o again ++ rest ≡ o ∷ rest
back_again o again rest e = rw e

pub back_on : (o : Instr) (again : Bool) (rest : List Instr) → again ≡ false → back_of o again ++ rest ≡ rest
back_on o again rest e = rw e

-- ---- a frame ----

abbrev pub body_place : List ValType → LevelPlace
body_place results = record { gives = length results; takes = length results; back = []; outer = []; results = results }

abbrev pub with_turns : Registers → ℕ → Registers
with_turns r n = record r { kept = record r.kept { turns = n } }

module _ (m : Module) (r : Registers) (ty : FuncType) (args : List Val) (locals : List ValType) (body : List Instr) (es : List Entry) where
  -- The frame is entered, and its code runs.
  pub frame_runs : (left : ℕ) (inside new : Registers) (code : List Instr) (flow : Flow) (d : ℕ) (u : Stage) → stack_depth es ≡ d → d < MOST_DEPTH → length locals / 64 ≤ r.kept.turns → left ≡ r.kept.turns - length locals / 64 →
      inside ≡ record { kept = record r.kept { turns = left }; operands = []; locals = args ++ zeros locals } → code ≡ body → RunsCode m code (d + 1) inside flow new →
      ComesTo m (outcome m flow new (body_place ty.results) es) u → ComesTo m (entered m r ty args locals body es) u
  frame_runs left inside new code flow d u e lt le f g h runs q =
      let in_frame = and_then (runs (body_place ty.results) es (omega (arith, e))) q in rw (enough r.kept.turns (length locals / 64) le, shallow (stack_depth es) (omega (arith, e, lt))) (rw (g, f, h) at in_frame)

  pub entered_slow : r.kept.turns < length locals / 64 → ComesTo m (entered m r ty args locals body es) (Stopped why.Steps r.kept.turns)
  entered_slow lt = rw (too_few r.kept.turns (length locals / 64) lt) here

  pub entered_deep : (left : ℕ) → length locals / 64 ≤ r.kept.turns → stack_depth es ≡ MOST_DEPTH → left ≡ r.kept.turns - length locals / 64 → ComesTo m (entered m r ty args locals body es) (Stopped why.Depth left)
  entered_deep left le e f = rw (enough r.kept.turns (length locals / 64) le, deep (stack_depth es) e, f) here

-- The stage after the frame ends, with those of its operands that are its results.
abbrev pub ended_with : Module → Registers → List ValType → List Entry → Stage
ended_with m r results es = came_to (state_in m r.kept) (bind (pop_typed results r.operands) (λ p. give (store_in m r.kept) p.0 es))

bind_twice : {A B C : Type 0} (o : Outcome A) (f : A → B) (g : B → Outcome C) → bind (bind o (λ a. Gives (f a))) g ≡ bind o (λ a. g (f a))
bind_twice Traps f g = refl
bind_twice IllTyped f g = refl
bind_twice (Gives a) f g = refl

trap_or : (s : State) (next : Outcome Next) → tried (test (gives_nothing next) why.Trap s.turns ∷ []) (came_to s next) ≡ came_to s next
trap_or s Traps = refl
trap_or s IllTyped = refl
trap_or s (Gives n) = refl

module _ (m : Module) (r : Registers) (results : List ValType) (es : List Entry) where
  abbrev acts_on : Act → Outcome Next
  acts_on = perform (store_in m r.kept) (frame_at m r [] (body_place results)) es

  -- The end of the frame gives the same if as many operands as there are results are taken off
  -- before they are taken by their types.
  cut_down : bind (bind (or_ill_typed (split_at (length results) r.operands)) (λ q. Gives (Ends q.0))) acts_on ≡ bind (pop_typed results r.operands) (λ p. give (store_in m r.kept) p.0 es)
  cut_down = bind_twice (or_ill_typed (split_at (length results) r.operands)) (λ q. Ends q.0) acts_on ∙ results_cut (λ xs. give (store_in m r.kept) xs es) results r.operands

  frame_fell : ComesTo m (outcome m flow.Fell r (body_place results) es) (ended_with m r results es)
  frame_fell = fell_at (split_at (length results) r.operands) refl
    where
      fell_at : (o : Option (List Val × List Val)) → split_at (length results) r.operands ≡ o → ComesTo m (outcome m flow.Fell r (body_place results) es) (ended_with m r results es)
      fell_at None e = on (rw e (subst (λ n. ComesTo m (Stopped why.Trap r.kept.turns) (came_to (state_in m r.kept) n)) (rw e at cut_down) here))
      fell_at (Some q) e = on (rw e (came (trap_or (state_in m r.kept) (acts_on (Ends q.0))) (subst (λ n. ComesTo m (came_to (state_in m r.kept) (acts_on (Ends q.0))) (came_to (state_in m r.kept) n)) (rw e at cut_down) here)))

  frame_left : (n : ℕ) → n ≡ 0 → outcome m (flow.Branch n) r (body_place results) es ≡ ended_with m r results es
  frame_left n e = rw e (ap (came_to (state_in m r.kept)) cut_down)

  -- The code of the frame leads to the end of the frame: it runs out, branches to its label or
  -- returns.
  abbrev pub EndsFrame : Flow → Type 0
  EndsFrame flow.Fell = Unit {0}
  EndsFrame (flow.Branch n) = n ≡ 0
  EndsFrame flow.Return = Unit {0}
  EndsFrame (flow.Stopped x) = ⊥

  pub frame_ends : (flow : Flow) → EndsFrame flow → ComesTo m (outcome m flow r (body_place results) es) (ended_with m r results es)
  frame_ends flow.Fell e = frame_fell
  frame_ends (flow.Branch n) e = came (frame_left n e) here
  frame_ends flow.Return e = here
  frame_ends (flow.Stopped x) e = elim e [ ]

  pub frame_past : (n : ℕ) → 0 < n → outcome m (flow.Branch n) r (body_place results) es ≡ Stopped why.Trap r.kept.turns
  frame_past zero lt = absurd (omega (arith, lt))
  frame_past (suc n) lt = refl

  pub ended_given : (new : Registers) (vs below : List Val) → pop_typed results r.operands ≡ Gives (vs, below) → new.kept ≡ r.kept → ended_with m r results es ≡ given m new vs es
  ended_given new vs below e f = rw (e, f)

  pub ended_short : pop_typed results r.operands ≡ IllTyped → ended_with m r results es ≡ Stopped why.Trap r.kept.turns
  ended_short e = rw e

-- ---- a call ----

module _ (m : Module) (r : Registers) (func : ℕ) (rest : List Instr) (p : LevelPlace) (es : List Entry) where
  abbrev pub waiting : (below : List Val) → Entry
  waiting below = Running (record (frame_at m r rest p) { levels = level_at p below rest ∷ p.outer })

  pub call_none : slice_get (store_in m r.kept).funcs func ≡ None → ComesTo m (called m r func rest p es) (Stopped why.Trap r.kept.turns)
  call_none e = rw e here

  pub call_import : (pair : Pair) (t : FuncType) → slice_get (store_in m r.kept).funcs func ≡ Some (Own pair t) → ComesTo m (called m r func rest p es) (Stopped why.Import r.kept.turns)
  call_import pair t e = rw e here

  module _ (t : FuncType) (locals : List ValType) (body : List Instr) (is : slice_get (store_in m r.kept).funcs func ≡ Some (Code t (own_inst m) locals body)) where
    pub call_short : pop_typed t.params r.operands ≡ IllTyped → ComesTo m (called m r func rest p es) (Stopped why.Trap r.kept.turns)
    call_short e = rw (is, e) here

    pub call_in : (args below : List Val) (inside : Registers) (u : Stage) → pop_typed t.params r.operands ≡ Gives (args, below) → inside.kept ≡ r.kept →
        ComesTo m (entered m inside t args locals body (waiting below ∷ es)) u → ComesTo m (called m r func rest p es) u
    call_in args below inside u e f q = rw (is, e) (rw f at q)

  pub call_back : (inside new : Registers) (below vs : List Val) → new ≡ record { kept = inside.kept; operands = onto vs below; locals = r.locals } → given m inside vs (waiting below ∷ es) ≡ running m new rest p es
  call_back inside new below vs e = rw e
