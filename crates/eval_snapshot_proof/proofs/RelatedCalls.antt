-- A quiet call has a corresponding call of the machine over each store that is related to its own:
-- that call ends, in no more steps than a call may make.
use Rattle.base_lists.proofs.Common.{◌≡◌, ◌∙◌, sym, ap, refl, subst, ℕ, suc, ◌+◌, ◌-◌, ◌<◌, ◌≤◌, List, [], ◌∷◌, length, Bool, true, Option, Some, None, arith, slice_get, same_Some}
use Rattle.base_lists.specs.Members.{is_among}
use Rattle.wasm_tree_spec.specs.Prelude.{Space, Functions, ValType, RefType, Module}
use Rattle.wasm_tree.specs.declared.types.ValType.TheVariants as valt
use Rattle.wasm_tree.specs.declared.types.RefType.TheVariants as reft
use Rattle.wasm_meaning.specs.Prelude.{Outcome, Gives, bind, or_ill_typed, Val, Func, Code, Store, Entry, Running, Mark, Next, Ran, EndsCall, zeros, zero_of, null_of, enter, step}
use Rattle.run_simulation.specs.Prelude.{Pairing, OneToOneWhereWritten, ResRel, done, none, BothRel, both, ListRel, nil, cons, RefRel, func, extern, ValRel, number, reference, end, FuncRel, defined, own, slot, EntryRel, running, mark, returned, passed, Above, Unknowns, StoreRelOff, StepsAgreeOff}
use Rattle.run_simulation.specs.Prelude.{RunsAgreeOff, NextOff, left_unknown}
use Rattle.run_simulation.proofs.AboveSteps.{whole}
use Rattle.eval_spec.specs.declared.limits.TheConstants.{MOST_TURNS}
use Rattle.eval_spec.specs.Prelude.{State, Stage, Going, Stopped, Finished, Test, first_held, stopped_or, frame_turns, host_tests, called_in_order, ComesTo, call_end, came_to, host_opened_if_there, run_end, weight, own_inst}
use Rattle.eval_proof.specs.KnownQuietSteps.{RelatesAllButImports, FramesOf, FuncsOf, QuietCallsAreKnown}
use Rattle.eval_proof.specs.UnrelatedPlaces.{LeavesAlone}
use Rattle.eval_proof.specs.QuietCalls.{QuietCallsSimulate}
use Rattle.eval_proof.specs.EndsAndCounts.{EndsAreReached}
use Rattle.eval_snapshot_proof.specs.EvaluatedWorlds.{all_called, called_to_end, most_steps, store_at_end}
use Rattle.eval_snapshot_proof.proofs.MachineCalls.{ends_after, ends_in_more, goes_within, known_go_on}
use Rattle.eval_snapshot_proof.proofs.QuietCallEnds.{never, over}

-- The call ends in a related store, and what is not related is unchanged.
pub record EndsAlike (R : Pairing) (t : State) (x : Store) (o : Option Store) : Type 0 where
  pub after : Store
  pub ends : o ≡ Some after
  pub related : StoreRelOff R t.unknown t.store after
  pub alone : LeavesAlone R t.unknown x after

module _ (known : QuietCallsAreKnown) (lead : QuietCallsSimulate) (agree : StepsAgreeOff) (runs : RunsAgreeOff) (reached : EndsAreReached) (m : Module) (of named : Space → ℕ → ℕ → Bool) (all : RelatesAllButImports m of named) (apart : OneToOneWhereWritten (passed of named [])) where
  abbrev R : Pairing
  R = passed of named []

  -- The last step of a call: if one of two related stacks ends the call, so does the other.
  last_step : (v : Unknowns) (s t : Store) (vs : List Val) (gs : List Entry) (y : Store) (hs : List Entry) (o : Outcome Next) → ResRel (NextOff R v (Above R [] [])) o (step y hs) → o ≡ Gives (EndsCall vs t gs) →
      (ws : List Val) × (z : Store) × (ks : List Entry) × (step y hs ≡ Gives (EndsCall ws z ks))
  last_step v s t vs gs y hs o r e = go (step y hs) refl (subst (λ p. ResRel (NextOff R v (Above R [] [])) p (step y hs)) e r)
    where
      go : (p : Outcome Next) → step y hs ≡ p → ResRel (NextOff R v (Above R [] [])) (Gives (EndsCall vs t gs)) p → (ws : List Val) × (z : Store) × (ks : List Entry) × (step y hs ≡ Gives (EndsCall ws z ks))
      go _ i (done (returned values h a)) = (_, _, _, i)

  pub stack_ends : (s t : State) (es : List Entry) → FuncsOf (own_inst m) s.store.funcs → FramesOf (own_inst m) es → run_end m (Going s es) ≡ Finished t →
      (x : Store) (fs : List Entry) → StoreRelOff R s.unknown s.store x → ListRel (EntryRel R) es fs → EndsAlike R t x (store_at_end (suc (weight (Going s es))) (Gives (Ran x fs)))
  stack_ends s t es funcs frames e x fs related stack =
      let n = suc (weight (Going s es)) in
      let comes : ComesTo m (Going s es) (Finished t) = subst (ComesTo m (Going s es)) e (reached m (Going s es)) in
      let k = known m of named all s t es funcs frames comes in
      let o = over m n s es t e in
      let less : k.number < n = goes_within k.number n s.store k.last.store t.store es k.entries (known_go_on R k.number s.unknown k.last.unknown s.store k.last.store es k.entries k.steps) o.ends in
      let f = runs of named [] apart k.number s.unknown k.last.unknown s.store k.last.store x es k.entries fs related stack k.steps in
      let both_step = whole (λ xs ys. ResRel (NextOff R (left_unknown k.last.unknown k.last.store k.entries) (Above R [] [])) (step k.last.store xs) (step f.store ys)) k.entries f.entries
      (agree of named [] apart k.last.unknown k.last.store f.store k.entries f.entries [] [] f.related f.stack (grind arith) k.skips (k.known f.entries) k.reads) in
      let l = last_step (left_unknown k.last.unknown k.last.store k.entries) k.last.store t.store k.values k.rest f.store f.entries (step k.last.store k.entries) both_step k.ends in
      let here = ends_in_more (suc k.number) n (omega (arith, less)) (Gives (Ran x fs)) l.1 (ends_after k.number x f.store l.1 fs f.entries l.2 l.0 f.steps l.3) in
      let led = lead m of named all apart s t es funcs frames comes x fs related stack in
      let there = ends_after led.number x led.store led.after fs led.entries led.rest led.values led.steps led.ends in
      let far = n + suc led.number in
      let same : l.1 ≡ led.after = same_Some l.1 led.after (sym (ends_in_more n far (omega arith) (Gives (Ran x fs)) l.1 here) ∙ ends_in_more (suc led.number) far (omega arith) (Gives (Ran x fs)) led.after there) in
      record { after = led.after; ends = here ∙ ap Some same; related = led.related; alone = led.alone }

  -- ---- a call that the host makes ----

  null_alike : (t : RefType) → RefRel R (null_of t) (null_of t)
  null_alike reft.Func = func none
  null_alike reft.Extern = extern

  zero_alike : (t : ValType) → ValRel R (zero_of t) (zero_of t)
  zero_alike valt.I32 = number
  zero_alike valt.I64 = number
  zero_alike (valt.Ref t) = reference (null_alike t)

  zeros_alike : (ts : List ValType) → ListRel (ValRel R) (zeros ts) (zeros ts)
  zeros_alike [] = nil
  zeros_alike (t ∷ ts) = cons (zero_alike t) (zeros_alike ts)

  -- The function at a related address is called to its end. The functions are unchanged, no turns
  -- are added and no globals become unknown, which the next call requires.
  pub record CalledAlike (s t : State) (x : Store) (a : ℕ) : Type 0 where
    pub ends : EndsAlike R t x (called_to_end x a)
    pub funcs : t.store.funcs ≡ s.store.funcs
    pub turns : t.turns ≤ s.turns
    pub was : (b : ℕ) → is_among t.unknown.globals b ≡ true → is_among s.unknown.globals b ≡ true

  opened : (s t : State) (x : Store) (a : ℕ) → FuncsOf (own_inst m) s.store.funcs → s.turns ≤ MOST_TURNS → StoreRelOff R s.unknown s.store x → (f g : Func) (n : ℕ) → slice_get s.store.funcs n ≡ Some f → slice_get x.funcs a ≡ Some g → FuncRel R f g →
      run_end m (came_to (record s { turns = s.turns - frame_turns f }) (Gives (enter s.store f [] (Mark ∷ [])))) ≡ Finished t → CalledAlike s t x a
  opened s t x a funcs few related _ _ n is there (own {p = p} {t = u}) e = absurd (never m 1 _ _ t e)
  opened s t x a funcs few related _ _ n is there (slot {n = k} {t = u}) e = absurd (never m 1 _ _ t e)
  opened s t x a funcs few related _ _ n is there (defined {t = u} {i = i} {j = j} {ls = ls} {c = c} {d = d} code) e =
      let q = record s { turns = s.turns - frame_turns (Code u i ls c) } in
      let es = Running (record { inst = i; locals = zeros ls; results = u.results; levels = record { values = []; code = c; gives = length u.results; takes = length u.results; back = [] } ∷ [] }) ∷ Mark ∷ [] in
      let fs = Running (record { inst = j; locals = zeros ls; results = u.results; levels = record { values = []; code = d; gives = length u.results; takes = length u.results; back = [] } ∷ [] }) ∷ Mark ∷ [] in
      let stack : ListRel (EntryRel R) es fs = cons (running (record { locals = zeros_alike ls; results = refl; levels = cons (record { values = nil; code = code; gives = refl; takes = refl; back = end }) nil })) (cons mark nil) in
      let r = stack_ends q t es funcs (funcs n (Code u i ls c) is, tt) e x fs related stack in
      let o = over m (suc (weight (Going q es))) q es t e in
      let less : suc (weight (Going q es)) ≤ most_steps = omega (arith, few) in
      let entered : called_to_end x a ≡ store_at_end most_steps (Gives (Ran x fs)) = ap (λ p. store_at_end most_steps (bind (or_ill_typed p) (λ f. Gives (enter x f [] (Mark ∷ []))))) there in
      let fewer = o.turns in
      record {
        ends = record { after = r.after; ends = entered ∙ ends_in_more (suc (weight (Going q es))) most_steps less (Gives (Ran x fs)) r.after r.ends; related = r.related; alone = r.alone };
        funcs = o.funcs;
        turns = omega (arith, fewer);
        was = o.was;
      }

  tested : (s t : State) (x : Store) (a : ℕ) → FuncsOf (own_inst m) s.store.funcs → s.turns ≤ MOST_TURNS → StoreRelOff R s.unknown s.store x → (f g : Func) (n : ℕ) → slice_get s.store.funcs n ≡ Some f → slice_get x.funcs a ≡ Some g → FuncRel R f g →
      (o : Option Test) → run_end m (stopped_or o (came_to (record s { turns = s.turns - frame_turns f }) (Gives (enter s.store f [] (Mark ∷ []))))) ≡ Finished t → CalledAlike s t x a
  tested s t x a funcs few related f g n is there r None e = opened s t x a funcs few related f g n is there r e
  tested s t x a funcs few related f g n is there r (Some y) e = absurd (never m 1 y.stop y.left t e)

  -- A call of a function of the module, and of the one at its address.
  pub called_alike : (s t : State) (x : Store) (n a : ℕ) → FuncsOf (own_inst m) s.store.funcs → s.turns ≤ MOST_TURNS → StoreRelOff R s.unknown s.store x → R.of Functions n a → call_end m s n ≡ Finished t → CalledAlike s t x a
  called_alike s t x n a funcs few related h e = go (slice_get s.store.funcs n) (slice_get x.funcs a) refl refl (related.funcs {a = n} {b = a} h (λ p. let k = p in cc)) e
    where
      go : (o p : Option Func) → slice_get s.store.funcs n ≡ o → slice_get x.funcs a ≡ p → BothRel (FuncRel R) o p → run_end m (host_opened_if_there s o) ≡ Finished t → CalledAlike s t x a
      go _ _ is there (both {a = f} {b = g} r) e = tested s t x a funcs few related f g n is there r (first_held (host_tests s f)) e

  -- ---- several calls ----

  both_alone : (u v : Unknowns) (x y z : Store) → ((b : ℕ) → is_among v.globals b ≡ true → is_among u.globals b ≡ true) → LeavesAlone R u x y → LeavesAlone R v y z → LeavesAlone R v x z
  both_alone u v x y z was p q = record {
    funcs = q.funcs ∙ p.funcs;
    tables = q.tables ∙ p.tables;
    elems = q.elems ∙ p.elems;
    mems = λ b n. q.mems b n ∙ p.mems b n;
    globals = λ b n. q.globals b n ∙ p.globals b (λ a r. was a (n a r));
    datas = λ b n. q.datas b n ∙ p.datas b n;
  }

  none_alone : (u : Unknowns) (x : Store) → LeavesAlone R u x x
  none_alone u x = record { funcs = refl; tables = refl; elems = refl; mems = λ b n. refl; globals = λ b n. refl; datas = λ b n. refl }

  stopped_at : (x : _) (left : ℕ) (ns : List ℕ) (t : State) → called_in_order m (Stopped x left) ns ≡ Finished t → ⊥
  stopped_at x left [] t e = let f = e in cc
  stopped_at x left (n ∷ ns) t e = let f = e in cc

  going_at : (s : State) (es : List Entry) (ns : List ℕ) (t : State) → called_in_order m (Going s es) ns ≡ Finished t → ⊥
  going_at s es [] t e = let f = e in cc
  going_at s es (n ∷ ns) t e = let f = e in cc

  -- The result of several calls: they end, and a global that is unknown at the end was unknown
  -- before.
  pub record AllAlike (s t : State) (x : Store) (o : Option Store) : Type 0 where
    pub ends : EndsAlike R t x o
    pub was : (b : ℕ) → is_among t.unknown.globals b ≡ true → is_among s.unknown.globals b ≡ true

  abbrev Alike : State → List ℕ → State → Store → List ℕ → Type 0
  Alike s ns t x addresses = FuncsOf (own_inst m) s.store.funcs → s.turns ≤ MOST_TURNS → StoreRelOff R s.unknown s.store x → called_in_order m (Finished s) ns ≡ Finished t → AllAlike s t x (all_called x addresses)

  -- Calls of functions of the module, and of those at their addresses, one after the other.
  pub calls_alike : (ns addresses : List ℕ) → ListRel (R.of Functions) ns addresses → (s t : State) (x : Store) → Alike s ns t x addresses
  calls_alike _ _ nil s t x = λ funcs few related e. let same : s ≡ t = cc in
      record {
        ends = record { after = x; ends = refl; related = subst (λ (q : State). StoreRelOff R q.unknown q.store x) same related; alone = none_alone t.unknown x };
        was = λ b h. subst (λ (q : State). is_among q.unknown.globals b ≡ true) (sym same) h;
      }
  calls_alike _ _ (cons {a = n} {b = a} {xs = ns} {ys = addresses} h hs) s t x = go (λ q y. calls_alike ns addresses hs q t y) (call_end m s n) refl
    where
      go : ((q : State) (y : Store) → Alike q ns t y addresses) → (c : Stage) → call_end m s n ≡ c → Alike s (n ∷ ns) t x (a ∷ addresses)
      go again (Stopped y left) is = λ funcs few related e. absurd (stopped_at y left ns t (ap (λ c. called_in_order m c ns) (sym is) ∙ e))
      go again (Going q es) is = λ funcs few related e. absurd (going_at q es ns t (ap (λ c. called_in_order m c ns) (sym is) ∙ e))
      go again (Finished q) is = λ funcs few related e.
          let one = called_alike s q x n a funcs few related h is in
          let less = one.turns in
          let first = one.ends in
          let more = again q first.after (subst (FuncsOf (own_inst m)) (sym one.funcs) funcs) (omega (arith, less, few)) first.related (ap (λ c. called_in_order m c ns) (sym is) ∙ e) in
          let rest = more.ends in
          record {
            ends = record { after = rest.after; ends = rw (first.ends) (rest.ends); related = rest.related; alone = both_alone q.unknown t.unknown x first.after rest.after more.was first.alone rest.alone };
            was = λ b h. one.was b (more.was b h);
          }
