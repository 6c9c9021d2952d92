-- The step that begins an instruction, and the stage to which it leads, by the kind of the
-- instruction.
use Rattle.base_lists.proofs.Common.{◌≡◌, ℕ, zero, suc, ◌-◌, ◌<◌, arith, List, [], ◌∷◌, drop, slice_get, Bool, true, false, Option, Some, None, Err, refl, ap, ◌∙◌, nat_eq, nat_le, nat_lt, le-ltb, ne_eqb}
use Rattle.wasm_tree_spec.specs.Prelude.{ValType, Instr, out-Instr, Module}
use Rattle.wasm_tree.specs.declared.instr.Instr.TheOpen.{Instr-F}
use Rattle.wasm_meaning.specs.Prelude.{Outcome, Gives, Traps, IllTyped, bind, or_ill_typed, split_at, Val, Level, Entry, Body, Act, Next, go, pop_typed, Nothing, touched_by, branch, resume, open_level}
use Rattle.run_simulation.specs.Prelude.{left_after}
use Rattle.eval_spec.specs.declared.limits.TheConstants.{MOST_DEPTH}
use Rattle.eval_spec.specs.declared.stop.Stop.TheVariants as why
use Rattle.eval_spec.specs.Prelude.{State, Stage, Stopped, first_held, stopped_or, tried, calls_import, changes_table, further_turns, gives_nothing, grows, opens, test, uses_unknown, writes_too_many, written_after, ComesTo, on, came_to}
use Rattle.eval_machine.specs.declared.registers.Registers.{Registers}
use Rattle.eval_machine.specs.Prelude.{ended, state_in, LevelPlace, body_at, depth, running, begun, begun_by, done_by, env_in}
use Rattle.eval_machine.specs.Flows.{acted, opened}
use Rattle.eval_machine.specs.Instructions.{next_by}
use Rattle.eval_machine.proofs.Levels.{resume_same}

not_zero : (n : ℕ) → 0 < n → nat_eq n 0 ≡ false
not_zero n lt = ne_eqb n 0 (λ e. omega (arith, lt, e))

-- The step that begins an instruction spends its one turn.
pub spends : (m : Module) (r s : Registers) (o : Instr) (rest : List Instr) (p : LevelPlace) (es : List Entry) (t : Stage) → 0 < r.kept.turns → s ≡ record r { kept = record r.kept { turns = r.kept.turns - 1 } } →
    ComesTo m (begun m s o rest p es) t → ComesTo m (running m r (o ∷ rest) p es) t
spends m r s o rest p es t lt e q = on (rw (not_zero r.kept.turns lt) (rw e at q))

-- The step that begins an instruction depends only on the outer layer of the instruction.
pub by_layer : (m : Module) (r : Registers) (o : Instr) (z : Instr-F Instr) (rest : List Instr) (p : LevelPlace) (es : List Entry) (t : Stage) → out-Instr o ≡ z → begun_by m r o z rest p es (done_by m r z rest p) ≡ t → begun m r o rest p es ≡ t
by_layer m r o z rest p es t e q = ap (λ z. begun_by m r o z rest p es (done_by m r z rest p)) e ∙ q

-- ---- an instruction that only a trap can stop ----

module _ (m : Module) (r : Registers) (o : Instr) (z : Instr-F Instr) (rest : List Instr) (p : LevelPlace) (es : List Entry) where
  -- The instruction grows no memory, writes no table or memory, uses nothing unknown, calls no
  -- import, takes no further turns and opens no label or frame.
  pub record IsStill : Type 0 where
    pub grow : grows z ≡ false
    pub table : changes_table z ≡ false
    pub unknown : uses_unknown m (state_in m r.kept).unknown z (env_in m r.kept) r.operands ≡ false
    pub import : calls_import z (env_in m r.kept) r.operands ≡ false
    pub further : further_turns z (env_in m r.kept) r.operands ≡ 0
    pub opens : opens z ≡ false
    pub few : writes_too_many (state_in m r.kept).written (touched_by z (env_in m r.kept) r.operands) ≡ false
    pub written : written_after (state_in m r.kept).written (touched_by z (env_in m r.kept) r.operands) ≡ (state_in m r.kept).written

  -- The stage after such an instruction.
  abbrev pub stilly : Outcome Act → Stage
  stilly done = came_to (record (state_in m r.kept) { unknown = left_after (state_in m r.kept).unknown done }) (next_by m r o rest p es done)

  trap_alone : (n : ℕ) (s : State) (w : Bool) (next : Outcome Next) → s.turns ≡ n → w ≡ false →
      stopped_or (first_held (test (gives_nothing next) why.Trap n ∷ test (nat_lt n 0) why.Steps n ∷ test false why.Depth n ∷ test w why.Memory n ∷ [])) (came_to s next) ≡ came_to s next
  trap_alone n s w Traps e f = rw e
  trap_alone n s w IllTyped e f = rw e
  trap_alone n s w (Gives x) e f = let g : nat_lt n 0 ≡ false = le-ltb n 0 (omega arith) in rw (g, f)

  pub still : IsStill → (done : Outcome Act) → begun_by m r o z rest p es done ≡ stilly done
  still i done =
      let n : r.kept.turns - 0 ≡ r.kept.turns = omega arith in
      rw (i.grow, i.table, i.unknown, i.import, i.further, i.opens, i.few, i.written, n) (trap_alone r.kept.turns (record (state_in m r.kept) { unknown = left_after (state_in m r.kept).unknown done }) false (next_by m r o rest p es done) refl refl)

  pub still_goes : (done : Outcome Act) (new : Registers) → done ≡ Gives (go (body_at new rest p)) → new.kept ≡ r.kept → stilly done ≡ running m new rest p es
  still_goes done new e f = rw (e, f)

  pub still_stops : (done : Outcome Act) → ended done ≡ Err why.Trap → stilly done ≡ Stopped why.Trap r.kept.turns
  still_stops Traps e = refl
  still_stops IllTyped e = refl
  still_stops (Gives x) e = absurd (let f = e in cc)

  -- The use of an unknown place is tested before traps, turns, depth and blocks.
  pub unknown_stops : grows z ≡ false → changes_table z ≡ false → uses_unknown m (state_in m r.kept).unknown z (env_in m r.kept) r.operands ≡ true → (done : Outcome Act) → begun_by m r o z rest p es done ≡ Stopped why.Unknown r.kept.turns
  unknown_stops a b c done = rw (a, b, c)

  -- The three ends of such an instruction: it uses an unknown place, it traps, or it goes on.
  pub ends_unknown : out-Instr o ≡ z → grows z ≡ false → changes_table z ≡ false → uses_unknown m (state_in m r.kept).unknown z (env_in m r.kept) r.operands ≡ true → begun m r o rest p es ≡ Stopped why.Unknown r.kept.turns
  ends_unknown e a b c = by_layer m r o z rest p es (Stopped why.Unknown r.kept.turns) e (unknown_stops a b c (done_by m r z rest p))

  pub ends_trap : out-Instr o ≡ z → IsStill → ended (done_by m r z rest p) ≡ Err why.Trap → begun m r o rest p es ≡ Stopped why.Trap r.kept.turns
  ends_trap e i d = by_layer m r o z rest p es (Stopped why.Trap r.kept.turns) e (still i (done_by m r z rest p) ∙ still_stops (done_by m r z rest p) d)

  pub ends_on : out-Instr o ≡ z → IsStill → (new : Registers) → done_by m r z rest p ≡ Gives (go (body_at new rest p)) → new.kept ≡ r.kept → begun m r o rest p es ≡ running m new rest p es
  ends_on e i new d s = by_layer m r o z rest p es (running m new rest p es) e (still i (done_by m r z rest p) ∙ still_goes (done_by m r z rest p) new d s)

  -- A trap is tested before the turns and blocks of a write.
  trap_first : grows z ≡ false → changes_table z ≡ false → uses_unknown m (state_in m r.kept).unknown z (env_in m r.kept) r.operands ≡ false → calls_import z (env_in m r.kept) r.operands ≡ false → (done : Outcome Act) → ended done ≡ Err why.Trap →
      begun_by m r o z rest p es done ≡ Stopped why.Trap r.kept.turns
  trap_first a b c d Traps e = rw (a, b, c, d)
  trap_first a b c d IllTyped e = rw (a, b, c, d)
  trap_first a b c d (Gives x) e = absurd (let f = e in cc)

  pub ends_trap_first : out-Instr o ≡ z → grows z ≡ false → changes_table z ≡ false → uses_unknown m (state_in m r.kept).unknown z (env_in m r.kept) r.operands ≡ false → calls_import z (env_in m r.kept) r.operands ≡ false →
      ended (done_by m r z rest p) ≡ Err why.Trap → begun m r o rest p es ≡ Stopped why.Trap r.kept.turns
  ends_trap_first e a b c d h = by_layer m r o z rest p es (Stopped why.Trap r.kept.turns) e (trap_first a b c d (done_by m r z rest p) h)

  -- ---- a branch ----

  abbrev same_acted : Outcome Act → Type 0
  same_acted done = stilly done ≡ acted m r p es done

  resumed : (h : Body) (vs : List Val) (c : List Instr) (ls : List Level) → same_acted (resume h vs c ls)
  resumed h vs c [] = refl
  resumed h vs c (l ∷ ls) = refl

  carried : (h k : Body) (q : Option (List Val × List Val)) (c : List Instr) (ls : List Level) → h.locals ≡ k.locals →
      stilly (bind (or_ill_typed q) (λ q. resume h q.0 c ls)) ≡ acted m r p es (bind (or_ill_typed q) (λ q. resume k q.0 c ls))
  carried h k None c ls e = refl
  carried h k (Some q) c ls e = resumed h q.0 c ls ∙ ap (acted m r p es) (resume_same h k q.0 c ls e)

  found : (h k : Body) (l : Option Level) (ls : List Level) → h.locals ≡ k.locals → h.values ≡ k.values →
      stilly (bind (or_ill_typed l) (λ t. bind (or_ill_typed (split_at t.takes h.values)) (λ q. resume h q.0 t.back ls))) ≡ acted m r p es (bind (or_ill_typed l) (λ t. bind (or_ill_typed (split_at t.takes k.values)) (λ q. resume k q.0 t.back ls)))
  found h k None ls e f = refl
  found h k (Some t) ls e f = rw f (carried h k (split_at t.takes k.values) t.back ls e)

  pub branched : (n : ℕ) → stilly (branch (body_at r rest p) n) ≡ acted m r p es (branch (body_at r [] p) n)
  branched zero = carried (body_at r rest p) (body_at r [] p) (split_at p.takes r.operands) p.back p.outer refl
  branched (suc n) = found (body_at r rest p) (body_at r [] p) (slice_get p.outer n) (drop (suc n) p.outer) refl refl

  -- ---- a block, loop or if ----

  pub record OpensStill : Type 0 where
    pub grow : grows z ≡ false
    pub table : changes_table z ≡ false
    pub unknown : uses_unknown m (state_in m r.kept).unknown z (env_in m r.kept) r.operands ≡ false
    pub import : calls_import z (env_in m r.kept) r.operands ≡ false
    pub further : further_turns z (env_in m r.kept) r.operands ≡ 0
    pub opens : opens z ≡ true
    pub touched : touched_by z (env_in m r.kept) r.operands ≡ Gives Nothing

  abbrev opens_tests : Outcome Next → Stage → Stage
  opens_tests next t =
      stopped_or (first_held (test (gives_nothing next) why.Trap r.kept.turns ∷ test (nat_lt r.kept.turns 0) why.Steps r.kept.turns ∷ test (nat_le MOST_DEPTH (depth p es)) why.Depth r.kept.turns ∷ test false why.Memory r.kept.turns ∷ [])) t

  opened_as : (new : Registers) (f : List Val × List Val → Body) (b : Bool) (o' : Outcome (List Val × List Val)) → new.kept ≡ r.kept → nat_le MOST_DEPTH (depth p es) ≡ b →
      let done : Outcome Act = bind o' (λ q. Gives (go (f q))) in
      opens_tests (next_by m r o rest p es done) (stilly done) ≡
      tried (test (gives_nothing o') why.Trap new.kept.turns ∷ test (nat_le MOST_DEPTH (depth p es)) why.Depth new.kept.turns ∷ []) (acted m new p es done)
  opened_as new f b Traps e g = rw e
  opened_as new f b IllTyped e g = rw e
  opened_as new f true (Gives q) e g = let h : nat_lt r.kept.turns 0 ≡ false = le-ltb r.kept.turns 0 (omega arith) in rw (e, g, h)
  opened_as new f false (Gives q) e g = let h : nat_lt r.kept.turns 0 ≡ false = le-ltb r.kept.turns 0 (omega arith) in rw (e, g, h)

  pub opens_still : OpensStill → (done : Outcome Act) (new : Registers) (params : List ValType) (gives takes : ℕ) (body back : List Instr) → new.kept ≡ r.kept →
      done ≡ open_level (body_at new rest p) new.operands params gives takes body back → begun_by m r o z rest p es done ≡ opened m new params gives takes body back rest p es
  opens_still i done new params gives takes body back e f =
      let n : r.kept.turns - 0 ≡ r.kept.turns = omega arith in
      rw (f, i.grow, i.table, i.unknown, i.import, i.further, i.opens, i.touched, n) (opened_as new _ (nat_le MOST_DEPTH (depth p es)) (pop_typed params new.operands) e refl)

  pub opens_not : OpensStill → (done : Outcome Act) → ended done ≡ Err why.Trap → begun_by m r o z rest p es done ≡ Stopped why.Trap r.kept.turns
  opens_not i Traps e = rw (i.grow, i.table, i.unknown, i.import)
  opens_not i IllTyped e = rw (i.grow, i.table, i.unknown, i.import)
  opens_not i (Gives x) e = absurd (let f = e in cc)
