-- Starts one after the other, and one start that calls them.
use Rattle.base_lists.proofs.Common.{◌≡◌, ℕ, ◌+◌, List, [], ◌∷◌, ◌++◌, Some, map, refl, add-zero, slice_get, option_map_is, cond_two, each_rel}
use Rattle.wasm_tree.specs.declared.instr.Instr.{out-Instr}
use Rattle.wasm_tree.specs.declared.instr.Instr.TheVariants as i
use Rattle.wasm_meaning.specs.Prelude.{Gives, Inst, Func, Code, Own, Placeholder, Store, Entry, Running, Opening, Waiting, type_of_func, enter, Environment, Begun, Phase, Pending, Move, Run, Out, run_after, tick, events_of, IsPrefix, fresh_run, GivesNothing, a_frame, a_call, AgreeOnFrames, ended}
use Rattle.wasm_meaning.specs.Prelude.{trapped, StartDependsOnlyOnItsFrames}
use Rattle.wasm_meaning.specs.StartFrames.{goes_on}
use Rattle.run_simulation.specs.Prelude.{ListRel, nil, cons}
use Rattle.world_simulation.specs.StartFunctions.{from_nothing_to_nothing, NamesStart, CallsEach}
use Rattle.base_simulation.proofs.StepwiseSimulation.{NextStepsAreRelated, both, second, stuttering_traces_are_equal}

-- The entries at the bottom of the stack: the starts that are left to open; and, where one start
-- calls them, its own frame with the calls that are left.
abbrev openings : List ℕ → List Entry
openings xs = Opening xs ∷ []

abbrev calls : Inst → List ℕ → List Entry
calls j ns = Running (record { inst = j; locals = []; results = []; levels = record { values = []; code = map i.Call ns; gives = 0; takes = 0; back = [] } ∷ [] }) ∷ Opening [] ∷ []

-- The run with the starts one after the other is alike to the run with the one start; `d` is the
-- number of steps that the second has left to make alone.
data Alike : ℕ → Run → Run → Type 0 where
  the_same : {d : ℕ} (r : Run) → Alike d r r
  fresh : (env : Environment) (b : Begun) (a : ℕ) (moves : List Move) → CallsEach b.store a b.starts → Alike 2 (fresh_run env (Some b) moves) (fresh_run env (Some (record b { starts = a ∷ [] })) moves)
  unopened : (r : Run) (xs : List ℕ) (a : ℕ) → CallsEach r.store a xs → Alike 2 (record r { entries = openings xs }) (record r { entries = openings (a ∷ []) })
  between : (r : Run) (xs ns : List ℕ) (j : Inst) → ListRel (NamesStart r.store j) ns xs → Alike 1 (record r { entries = openings xs }) (record r { entries = calls j ns })
  inside : (r : Run) (es : List Entry) (xs ns : List ℕ) (j : Inst) → GivesNothing es → ListRel (NamesStart r.store j) ns xs → Alike 1 (record r { entries = es ++ openings xs }) (record r { entries = es ++ calls j ns })

-- Two steps show the same event, and lead to runs that are alike.
abbrev Agree : ℕ → Out → Out → Type 0
Agree d o p = (o.1 ≡ p.1) × Alike d o.0 p.0

-- ---- a start is opened, or called ----

module _ (xs ns : List ℕ) (j : Inst) where
  entered : (r : Run) (f : Func) → type_of_func f ≡ from_nothing_to_nothing →
      AgreeOnFrames (openings xs) (calls j ns) r.phase r.phase r.store.funcs (run_after r (Gives (enter r.store f [] (openings xs)))) (run_after r (Gives (enter r.store f [] (calls j ns))))
  entered r (Code t c ls is) e = goes_on r (_ ∷ []) refl (a_frame (rw e refl))
  entered r (Own pair t) e = goes_on r (Waiting t.results ∷ []) refl (rw e a_call)
  entered r (Placeholder n t) e = trapped r

  -- The same functions are named in every store with these functions.
  still_named : {s t : Store} → ListRel (NamesStart s j) ns xs → t.funcs ≡ s.funcs → ListRel (NamesStart t j) ns xs
  still_named l e = each_rel (λ _ _ x. record { named = x.named; typed = rw e x.typed }) l

  unseen : {s : Store} {phase : Phase} {o p : Out} → ListRel (NamesStart s j) ns xs → AgreeOnFrames (openings xs) (calls j ns) phase phase s.funcs o p → Agree 1 o p
  unseen {phase = phase} l (goes_on r es n g) = (refl, inside (record r { phase = phase }) es xs ns j g (still_named l n))
  unseen {phase = phase} l (ended r n) = (refl, between (record r { phase = phase }) xs ns j (still_named l n))
  unseen l (trapped r) = (refl, the_same _)

  opens : {n a : ℕ} (r : Run) → NamesStart r.store j n a → ListRel (NamesStart r.store j) ns xs → Agree 1 (tick (record r { entries = openings (a ∷ xs) })) (tick (record r { entries = calls j (n ∷ ns) }))
  unfolding out-Instr denote.Hole.Carrier.out
  opens {a = a} r x l =
      let f = option_map_is type_of_func (slice_get r.store.funcs a) _ x.typed in
      rw (x.named, f.1, f.2) (unseen l (entered r f.0 f.2))

-- ---- the whole of it ----

module _ (below : StartDependsOnlyOnItsFrames) where
  next : (d e : ℕ) (r q : Run) → Alike d r q → NextStepsAreRelated tick tick (λ d _. Alike d) d e r q
  next d e r q (the_same x) = both refl (the_same _)
  next d e r q (fresh env b a moves c) =
      let opened = record (fresh_run env (Some b) moves) { store = b.store; phase = Pending b.view; owned = b.owned } in
      let k = cond_two (Agree 2) b.trapped (refl, the_same _) (refl, unopened opened b.starts a c) in
      both k.0 k.1
  next d e r q (unopened x xs a c) = second (rw c.code refl) (rw c.code (between x xs c.calls c.inst c.each))
  next d e r q (between x xs ns j nil) = second refl (the_same _)
  next d e r q (between x xs ns j (cons y l)) = let k = opens _ _ j x y l in both k.0 k.1
  next d e r q (inside x es xs ns j g l) = let k = unseen xs ns j l (below (openings xs) (calls j ns) es x.phase x.phase x (assumption) (assumption) g) in both k.0 k.1

  pub one_start : (env : Environment) (b : Begun) (a : ℕ) → CallsEach b.store a b.starts → (moves : List Move) (n : ℕ) →
      IsPrefix (events_of tick (fresh_run env (Some b) moves) n) (events_of tick (fresh_run env (Some (record b { starts = a ∷ [] })) moves) (n + 2))
      × IsPrefix (events_of tick (fresh_run env (Some (record b { starts = a ∷ [] })) moves) n) (events_of tick (fresh_run env (Some b) moves) n)
  one_start env b a c moves n = rw (add-zero n) at (stuttering_traces_are_equal tick tick (λ d _. Alike d) next 2 0 _ _ (fresh env b a moves c) n)
