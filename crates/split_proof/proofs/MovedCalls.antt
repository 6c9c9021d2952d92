-- A step of two related runs begins no call of an opaque function, or both enter functions, or the
-- second has replacement code instead of the call, or both fail alike.
use Rattle.base_lists.proofs.Common.{◌≡◌, ◌∙◌, refl, sym, ap, subst, ℕ, List, [], ◌∷◌, ◌++◌, Option, Some, None, Bool, true, false, ◌⊎◌, inl, inr, ⊎_elim, arith, slice_get, option_and_then, nat_eq, true≢false, list_any, then_rel, get_rel, length_rel, both_map}
use Rattle.wasm_tree_spec.specs.Prelude.{Space, Functions, ValType, FuncType, Instr, Call}
use Rattle.wasm_tree.specs.declared.instr.Instr.{out-Instr}
use Rattle.wasm_tree.specs.declared.instr.Instr.TheOpen.{Instr-F}
use Rattle.wasm_meaning.specs.Prelude.{Outcome, Gives, Traps, IllTyped, bind, or_ill_typed, split_at, RefVal, Val, Inst, Store, Level, Frame, Entry, Running, Caller, Host, Starter, Mark, Opening, Env, Body, Act, Goes, Calls, AsksGrow, Ends, pop_typed, with_values, type_at, end_level, resume, exec}
use Rattle.wasm_meaning.specs.Prelude.{step_code, step_levels, act, frame_of, enter_at, perform, step, to_mark, same_text, Shown, func_of, look_up, received_all, Run, Move, Transition, Steps, Makes, Phase, Closed, InstanceTrapped, BadMove, trapped_to, made, called, moved, at_entries, or_bad}
use Rattle.wasm_meaning.specs.Prelude.{next_move, nothing_in, started, or_closed, in_phase, transition_at, transition}
use Rattle.wasm_meaning.specs.Run as run
use Rattle.run_simulation.specs.Prelude.{Pairing, OneToOne, OptRel, none, some, ResRel, done, trap, wrong, BothRel, both, ListRel, nil, cons, ValRel, CodeRel, end, then, instead, StoreRel, LevelRel, FrameRel, BodyRel, calls, NotOpaque, PhaseRel, fresh, pending, opened, closed, IsBegun, passed_with}
use Rattle.run_simulation.specs.Prelude.{MoveSkips, NextMoveSkips, TickSkips, calls_placeholder, WithPassing, FramesBetween, HaveTypes, at_code, none_unknown, RefsOff, StoreRelOff, ActOff}
use Rattle.run_simulation.specs.Related as to
use Rattle.run_simulation.specs.Trampolines as with_frames
use Rattle.run_simulation.specs.Groups.{group_of}
use Rattle.run_simulation.proofs.RelatedOutcomes.{written}
use Rattle.base_lists.specs.Related.{PairRel}
use Rattle.run_simulation.proofs.ValueSteps.{pop_typed_rel}
use Rattle.run_simulation.proofs.KnownNames.{op_known}
use Rattle.run_simulation.proofs.StepsAgree.{frame_rel, left_rel, each_group}
use Rattle.run_simulation.proofs.FramesBetween.{frames as top_frames, again, between}
use Rattle.run_simulation.specs.Trampolines.{PassedValuesHaveTypes, PoppedValuesHaveTypes}
use Rattle.split_proof.specs.SplitInstantiation.{RunsRelated}
use Rattle.split_proof.specs.MovedCalls.{EntersInBoth, ReplacementCode, NoCallBegins, StepsCallMovedTogether, skips, enters, EveryStepCallsMovedTogether}
use Rattle.split_proof.specs.MovedCalls as way
use Rattle.run_simulation.proofs.PassedValues.{look_rel, func_of_rel, received_all_rel}

-- ---- what calls ----

-- The end of a level is no call.
ends_call : (h : Body) (a : ℕ) (vs : List Val) (k : Body) → end_level h ≡ Gives (Calls a vs k) → ⊥
ends_call h a vs k e = by (split_at h.gives h.values) e
  where
    out : (p : List Val × List Val) (ls : List Level) → resume h p.0 [] ls ≡ Gives (Calls a vs k) → ⊥
    out p [] e = cc
    out p (l ∷ ls) e = cc

    by : (o : Option (List Val × List Val)) → bind (or_ill_typed o) (λ p. resume h p.0 [] h.outer) ≡ Gives (Calls a vs k) → ⊥
    by None e = cc
    by (Some p) e = out p h.outer e

-- ---- nothing is unknown ----

refs_off : (R : Pairing) (known : ℕ → Bool) (xs ys : List RefVal) → ListRel (to.RefRel R) xs ys → RefsOff R known xs ys
refs_off R known xs ys r = record { size = length_rel r; each = λ n _. get_rel r n }

to_off : (R : Pairing) (s t : Store) → StoreRel R s t → StoreRelOff R none_unknown s t
to_off R s t r = record {
  types = r.types;
  owns = r.owns;
  funcs = r.funcs;
  tables = λ n. both_map (λ t u x. record { type = x.type; most = x.most; slots = refs_off R _ t.slots u.slots x.slots }) (r.tables n);
  mems = r.mems;
  globals = λ n. both_map (λ g h x. record { type = x.type; value = λ _. x.value }) (r.globals n);
  elems = λ n. both_map (λ e f x. refs_off R _ e.items f.items x.items) (r.elems n);
  datas = r.datas;
}

-- Each of the two steps is a call, and the called functions are related.
record BothCall (R : Pairing) (i j : Inst) (o p : Outcome Act) : Type 0 where
  pub first : ℕ
  pub second : ℕ
  pub partners : R.of Functions first second
  pub values : List Val
  pub second_values : List Val
  pub related : ListRel (ValRel R) values second_values
  pub body : Body
  pub second_body : Body
  pub bodies : BodyRel R i j body second_body
  pub first_is : o ≡ Gives (Calls first values body)
  pub second_is : p ≡ Gives (Calls second second_values second_body)

both_call : (R : Pairing) (i j : Inst) (o p : Outcome Act) (a : ℕ) (vs : List Val) (h : Body) → o ≡ Gives (Calls a vs h) → ResRel (ActOff R none_unknown i j) o p → BothCall R i j o p
both_call R i j _ _ a vs h e trap = absurd (let k = e in cc)
both_call R i j _ _ a vs h e wrong = absurd (let k = e in cc)
both_call R i j _ _ a vs h e (done (calls n v r)) = record { first = _; second = _; partners = n; values = _; second_values = _; related = v; body = _; second_body = _; bodies = r; first_is = refl; second_is = refl }
both_call R i j _ _ a vs h e (done (to.goes c r)) = absurd (let k = e in cc)
both_call R i j _ _ a vs h e (done (to.asks_grow g r)) = absurd (let k = e in cc)
both_call R i j _ _ a vs h e (done (to.ends v)) = absurd (let k = e in cc)

module _ (popped_typed : PoppedValuesHaveTypes) (passed_typed : PassedValuesHaveTypes) (R : Pairing) (apart : OneToOne R) (known : (k : Space) (a b : ℕ) → R.named k a b → R.of k a b) (decide : (a : ℕ) → R.listed a ⊎ (R.listed a → ⊥)) (r q : Run) (begun : IsBegun r.phase) (h : RunsRelated R r q)
  where
    -- ---- both go wrong ----

    trapped_rel : (o p : Outcome (Caller × List Entry)) → ResRel (PairRel (◌≡◌ {A = Caller}) (WithPassing R)) o p → ((trapped_to r o).1 ≡ (trapped_to q p).1) × RunsRelated R (trapped_to r o).0 (trapped_to q p).0 × ((trapped_to r o).0.store ≡ r.store) × ((trapped_to q p).0.store ≡ q.store)
    trapped_rel _ _ trap = (refl, record { store = h.store; entries = with_frames.nil; phase = h.phase; shown = h.shown; view = h.view; owned = h.owned; moves = h.moves }, refl, refl)
    trapped_rel _ _ wrong = (refl, record { store = h.store; entries = with_frames.nil; phase = h.phase; shown = h.shown; view = h.view; owned = h.owned; moves = h.moves }, refl, refl)
    trapped_rel _ _ (done {a = (Host, es)} {b = (Host, fs)} p) = (refl, record { store = h.store; entries = p.second; phase = h.phase; shown = h.shown; view = h.view; owned = h.owned; moves = h.moves }, refl, refl)
    trapped_rel _ _ (done {a = (Starter, es)} {b = (Starter, fs)} p) = (refl, record { store = h.store; entries = with_frames.nil; phase = closed; shown = h.shown; view = h.view; owned = h.owned; moves = h.moves }, refl, refl)
    trapped_rel _ _ (done {a = (Host, es)} {b = (Starter, fs)} p) = absurd (let k = p.first in cc)
    trapped_rel _ _ (done {a = (Starter, es)} {b = (Host, fs)} p) = absurd (let k = p.first in cc)

    ill_typed : transition r ≡ Steps r IllTyped → transition q ≡ Steps q IllTyped → NoCallBegins R r q
    ill_typed e f =
        let t = trapped_rel (to_mark r.entries) (to_mark q.entries) ((between R apart).marks h.entries) in
        record {
          event = ap (λ t. (made t).1) e ∙ t.0 ∙ sym (ap (λ t. (made t).1) f);
          runs = rw (e, f) t.1;
          first_store = ap (λ t. (made t).0.store) e ∙ t.2;
          second_store = ap (λ t. (made t).0.store) f ∙ t.3;
          plain = ap calls_placeholder f;
        }

    trap_too : transition r ≡ Steps r Traps → transition q ≡ Steps q Traps → NoCallBegins R r q
    trap_too e f =
        let t = trapped_rel (to_mark r.entries) (to_mark q.entries) ((between R apart).marks h.entries) in
        record {
          event = ap (λ t. (made t).1) e ∙ t.0 ∙ sym (ap (λ t. (made t).1) f);
          runs = rw (e, f) t.1;
          first_store = ap (λ t. (made t).0.store) e ∙ t.2;
          second_store = ap (λ t. (made t).0.store) f ∙ t.3;
          plain = ap calls_placeholder f;
        }

    -- ---- a frame on top ----

    module _ (f g : Frame) (es fs : List Entry) (top : r.entries ≡ Running f ∷ es) (second_top : q.entries ≡ Running g ∷ fs) (stack : WithPassing R (Running f ∷ es) (Running g ∷ fs)) where
      frames : FrameRel R f g
      frames = top_frames R stack

      steps_first : transition r ≡ Steps r (step r.store (Running f ∷ es))
      steps_first = ap (transition_at r) top ∙ ap (λ xs. Steps r (step r.store xs)) top

      steps_second : transition q ≡ Steps q (step q.store (Running g ∷ fs))
      steps_second = ap (transition_at q) second_top ∙ ap (λ xs. Steps q (step q.store xs)) second_top

      skip : ((x : Act) → act r.store f ≡ Gives x → NotOpaque R x) → TickSkips R r r.entries
      skip s = subst (TickSkips R r) (sym top) s

      -- The case in which both call: the arguments are popped.
      from_calls : BothCall R f.inst g.inst (act r.store f) (act q.store g) → ((a : ℕ) (vs : List Val) (k : Body) → act r.store f ≡ Gives (Calls a vs k) → R.listed a) → StepsCallMovedTogether R r q
      from_calls c listed = by (type_at r.store c.first) refl (type_at q.store c.second) refl (h.store.types c.partners)
        where
          first_is : step r.store (Running f ∷ es) ≡ perform r.store f es (Calls c.first c.values c.body)
          first_is = ap (λ o. bind o (perform r.store f es)) c.first_is

          second_is : step q.store (Running g ∷ fs) ≡ perform q.store g fs (Calls c.second c.second_values c.second_body)
          second_is = ap (λ o. bind o (perform q.store g fs)) c.second_is

          popped : (u : FuncType) → type_at r.store c.first ≡ Some u → type_at q.store c.second ≡ Some u → (o p : Outcome (List Val × List Val)) → pop_typed u.params c.values ≡ o → pop_typed u.params c.second_values ≡ p →
              ResRel (PairRel (ListRel (ValRel R)) (ListRel (ValRel R))) o p → StepsCallMovedTogether R r q
          popped u a b _ _ x y trap = way.wrong (trap_too (steps_first ∙ ap (Steps r) (first_is ∙ rw (a, x) refl)) (steps_second ∙ ap (Steps q) (second_is ∙ rw (b, y) refl)))
          popped u a b _ _ x y wrong = way.wrong (ill_typed (steps_first ∙ ap (Steps r) (first_is ∙ rw (a, x) refl)) (steps_second ∙ ap (Steps q) (second_is ∙ rw (b, y) refl)))
          popped u a b _ _ x y (done {a = v} {b = w} z) =
              enters (record {
                first = c.first;
                second = c.second;
                listed = listed c.first c.values c.body c.first_is;
                partners = c.partners;
                type = u;
                typed = a;
                values = v.0;
                second_values = w.0;
                related = z.first;
                have_types = popped_typed u.params c.second_values w.0 w.1 y;
                below = Running (frame_of f (with_values c.body v.1)) ∷ es;
                second_below = Running (frame_of g (with_values c.second_body w.1)) ∷ fs;
                stacks = again R stack refl (frame_rel R (written apart) frames (left_rel R (written apart) c.bodies z.second));
                moves = r.moves;
                step = steps_first ∙ ap (Steps r) (first_is ∙ rw (a, x) refl);
                second_step = steps_second ∙ ap (Steps q) (second_is ∙ rw (b, y) refl) ∙ ap (λ ms. Steps (record q { moves = ms }) (enter_at q.store c.second w.0 (Running (frame_of g (with_values c.second_body w.1)) ∷ fs))) (sym h.moves);
              })

          by : (o : Option FuncType) → type_at r.store c.first ≡ o → (p : Option FuncType) → type_at q.store c.second ≡ p → BothRel (◌≡◌ {A = FuncType}) o p → StepsCallMovedTogether R r q
          by _ a _ b (both {a = u} e) = popped u a (b ∙ ap Some (sym e)) (pop_typed u.params c.values) (pop_typed u.params c.second_values) refl refl (pop_typed_rel R u.params c.related)

      -- A step depends only on the code that remains in the level.
      called_as_code : (f : Frame) (l : Level) (ls : List Level) (c : List Instr) (n : ℕ) (es : List Entry) →
          bind (exec (Instr-F.Call n) (record { store = r.store; inst = f.inst }) (record { locals = f.locals; values = l.values; rest = c; gives = l.gives; takes = l.takes; back = l.back; outer = ls })) (perform r.store f es) ≡ step r.store (Running (at_code f l ls l.values (Call n ∷ c)) ∷ es)
      unfolding out-Instr denote.Hole.Carrier.out
      called_as_code f l ls c n es = by _
        where
          by : (o : Outcome Act) → bind o (perform r.store f es) ≡ bind o (perform r.store (at_code f l ls l.values (Call n ∷ c)) es)
          by Traps = refl
          by IllTyped = refl
          by (Gives (Goes k b)) = refl
          by (Gives (Calls a vs b)) = refl
          by (Gives (AsksGrow g i k b)) = refl
          by (Gives (Ends vs)) = refl

      -- The cases of the next instruction.
      module _ (a : ℕ) (vs : List Val) (k : Body) (acts : act r.store f ≡ Gives (Calls a vs k)) (listed : R.listed a) where
        all_listed : (b : ℕ) (ws : List Val) (l : Body) → act r.store f ≡ Gives (Calls b ws l) → R.listed b
        all_listed b ws l e = subst R.listed (same (sym acts ∙ e)) listed
          where
            same : {x y : Body} {us vs : List Val} {c d : ℕ} → Gives (Calls c us x) ≡ Gives (Calls d vs y) → c ≡ d
            same e = cc

        abbrev env : Env
        env = record { store = r.store; inst = f.inst }

        abbrev second_env : Env
        second_env = record { store = q.store; inst = g.inst }

        in_code : (l n : Level) (ls ns : List Level) → f.levels ≡ l ∷ ls → g.levels ≡ n ∷ ns → LevelRel R f.inst g.inst l n → ListRel (LevelRel R f.inst g.inst) ls ns → (c d : List Instr) → l.code ≡ c → n.code ≡ d → CodeRel R f.inst g.inst c d → StepsCallMovedTogether R r q
        in_code l n ls ns x y lr outer _ _ c_is d_is end =
            absurd (ends_call (record { locals = f.locals; values = l.values; rest = []; gives = l.gives; takes = l.takes; back = l.back; outer = ls }) a vs k
            (sym (ap (step_levels env f.locals) x ∙ ap (step_code env (record { locals = f.locals; values = l.values; rest = []; gives = l.gives; takes = l.takes; back = l.back; outer = ls })) c_is) ∙ acts))
        in_code l n ls ns x y lr outer _ _ c_is d_is (then {o = o} {p = p} {c = c} {d = d} op rest) =
            let one : Body = record { locals = f.locals; values = l.values; rest = []; gives = l.gives; takes = l.takes; back = l.back; outer = ls } in
            let two : Body = record { locals = g.locals; values = n.values; rest = []; gives = n.gives; takes = n.takes; back = n.back; outer = ns } in
            let first_is : act r.store f ≡ exec (out-Instr o) env (record one { rest = c }) = ap (step_levels env f.locals) x ∙ ap (step_code env one) c_is in
            let second_is : act q.store g ≡ exec (out-Instr p) second_env (record two { rest = d }) = ap (step_levels second_env g.locals) y ∙ ap (step_code second_env two) d_is in
            let bodies : BodyRel R f.inst g.inst (record one { rest = c }) (record two { rest = d }) = record { locals = frames.locals; values = lr.values; rest = rest; gives = lr.gives; takes = lr.takes; back = lr.back; outer = outer } in
            let related = each_group (group_of (out-Instr o)) R none_unknown env second_env (to_off R r.store q.store h.store) (record one { rest = c }) (record two { rest = d }) bodies (out-Instr o) (out-Instr p) (op_known R known f.inst g.inst op) (λ r _. grind arith) refl in
            from_calls (both_call R f.inst g.inst (act r.store f) (act q.store g) a vs k acts (subst (λ z. ResRel (ActOff R none_unknown f.inst g.inst) z (act q.store g)) (sym first_is) (subst (ResRel (ActOff R none_unknown f.inst g.inst) _) (sym second_is) related))) all_listed
        in_code l n ls ns x y lr outer _ _ c_is d_is (instead {o = o} {n = index} {a = b} {c = c} {d = d} e calls_it names set_apart stands rest) =
            let one : Body = record { locals = f.locals; values = l.values; rest = []; gives = l.gives; takes = l.takes; back = l.back; outer = ls } in
            let first_is : act r.store f ≡ exec (Instr-F.Call index) env (record one { rest = c }) = ap (step_levels env f.locals) x ∙ ap (step_code env one) c_is ∙ ap (λ z. exec z env (record one { rest = c })) calls_it in
            let second_frame : g ≡ at_code g n ns n.values (e ++ d) = rw (← d_is, ← y) refl in
            way.instead (record {
              frame = f;
              second_frame = g;
              level = l;
              second_level = n;
              outer = ls;
              second_outer = ns;
              rest = c;
              second_rest = d;
              below = es;
              second_below = fs;
              index = index;
              address = b;
              names = names;
              listed = set_apart;
              code = e;
              stands = stands;
              stacks = again R stack refl (record { locals = frames.locals; results = frames.results; levels = cons (record { values = lr.values; code = rest; gives = lr.gives; takes = lr.takes; back = lr.back }) outer });
              top = (f, top);
              step = ap (step r.store) top ∙ ap (λ o. bind o (perform r.store f es)) first_is ∙ called_as_code f l ls c index es;
              second_top = second_top ∙ ap (λ z. Running z ∷ fs) second_frame;
            })

        in_levels : (ls ms : List Level) → f.levels ≡ ls → g.levels ≡ ms → ListRel (LevelRel R f.inst g.inst) ls ms → StepsCallMovedTogether R r q
        in_levels _ _ x y nil = absurd (let k = sym (ap (step_levels env f.locals) x) ∙ acts in let z = k in cc)
        in_levels _ _ x y (cons {a = l} {b = n} {xs = ls} {ys = ns} lr outer) = in_code l n ls ns x y lr outer l.code n.code refl refl lr.code

      from_frame : StepsCallMovedTogether R r q
      from_frame = by (act r.store f) refl
        where
          other : (x : Act) → act r.store f ≡ Gives x → NotOpaque R x → StepsCallMovedTogether R r q
          other x e free = skips (skip (λ z s. subst (NotOpaque R) (same (sym e ∙ s)) free))
            where
              same : {x y : Act} → Gives x ≡ Gives y → x ≡ y
              same e = cc

          by : (o : Outcome Act) → act r.store f ≡ o → StepsCallMovedTogether R r q
          by Traps e = skips (skip (λ z s. absurd (let k : Traps ≡ Gives z = sym e ∙ s in let l = k in cc)))
          by IllTyped e = skips (skip (λ z s. absurd (let k : IllTyped ≡ Gives z = sym e ∙ s in let l = k in cc)))
          by (Gives (Goes c k)) e = other (Goes c k) e tt
          by (Gives (AsksGrow n m c k)) e = other (AsksGrow n m c k) e tt
          by (Gives (Ends vs)) e = other (Ends vs) e tt
          by (Gives (Calls a vs k)) e = ⊎_elim (λ l. in_levels a vs k e l f.levels g.levels refl refl frames.levels) (λ free. other (Calls a vs k) e free) (decide a)

    -- ---- starts and moves ----

    -- A function is called with arguments from the embedder.
    module _ (es fs : List Entry) (xs : List Shown) (ms : List Move) (a b : ℕ) (listed : R.listed a) (n : R.of Functions a b) (stack : WithPassing R es fs) where
      abbrev first_run : Run
      first_run = record r { moves = ms }

      abbrev second_run : Run
      second_run = record q { moves = ms }

      data Called : Option Transition → Option Transition → Type 0 where
        neither : Called None None
        enter : (u : FuncType) (vs ws : List Val) → type_at r.store a ≡ Some u → ListRel (ValRel R) vs ws → HaveTypes u.params ws → Called (Some (Steps first_run (enter_at r.store a vs es))) (Some (Steps second_run (enter_at q.store b ws fs)))

      called_both : Called (called first_run es xs a) (called second_run fs xs b)
      called_both = by (type_at r.store a) refl (type_at q.store b) refl (h.store.types n)
        where
          passed : (u : FuncType) → type_at r.store a ≡ Some u → (o p : Option (List Val)) → received_all q.owned q.shown u.params xs ≡ p → OptRel (ListRel (ValRel R)) o p →
              Called (option_and_then (λ vs. Some (Steps first_run (enter_at r.store a vs es))) o) (option_and_then (λ ws. Some (Steps second_run (enter_at q.store b ws fs))) p)
          passed u e _ _ got none = neither
          passed u e _ _ got (some {a = vs} {b = ws} v) = enter u vs ws e v (passed_typed q.owned q.shown u.params xs ws got)

          by : (o : Option FuncType) → type_at r.store a ≡ o → (p : Option FuncType) → type_at q.store b ≡ p → BothRel (◌≡◌ {A = FuncType}) o p →
              Called (option_and_then (λ t. option_and_then (λ vs. Some (Steps first_run (enter_at r.store a vs es))) (received_all r.owned r.shown t.params xs)) o)
              (option_and_then (λ t. option_and_then (λ ws. Some (Steps second_run (enter_at q.store b ws fs))) (received_all q.owned q.shown t.params xs)) p)
          by _ e _ f (both {a = u} same) =
              subst (λ t. Called (option_and_then (λ vs. Some (Steps first_run (enter_at r.store a vs es))) (received_all r.owned r.shown u.params xs)) (option_and_then (λ ws. Some (Steps second_run (enter_at q.store b ws fs))) (received_all q.owned q.shown t.params xs))) same
              (passed u e (received_all r.owned r.shown u.params xs) (received_all q.owned q.shown u.params xs) refl (received_all_rel R u.params xs h.owned h.shown))

      -- Where neither function is called, both runs have the same result.
      from_called : (f g : Option Transition → Transition) → ((t : Transition) → f (Some t) ≡ t) → ((t : Transition) → g (Some t) ≡ t) → transition r ≡ f (called first_run es xs a) → transition q ≡ g (called second_run fs xs b) →
          (transition r ≡ f None → transition q ≡ g None → NoCallBegins R r q) → (o p : Option Transition) → called first_run es xs a ≡ o → called second_run fs xs b ≡ p → Called o p → StepsCallMovedTogether R r q
      from_called f g ff gg e i bad _ _ x y neither = way.wrong (bad (e ∙ ap f x) (i ∙ ap g y))
      from_called f g ff gg e i bad _ _ x y (enter u vs ws typed v have) =
          enters (record {
            first = a;
            second = b;
            listed = listed;
            partners = n;
            type = u;
            typed = typed;
            values = vs;
            second_values = ws;
            related = v;
            have_types = have;
            below = es;
            second_below = fs;
            stacks = stack;
            moves = ms;
            step = e ∙ ap f x ∙ ff _;
            second_step = i ∙ ap g y ∙ gg _;
          })

    -- A start function that cannot be called closes the world.
    closes : (o p : Transition) → o ≡ Makes (record r { entries = []; phase = Closed }, Some InstanceTrapped) → p ≡ Makes (record q { entries = []; phase = Closed }, Some InstanceTrapped) → transition r ≡ o → transition q ≡ p → NoCallBegins R r q
    closes o p a b e f =
        let x = e ∙ a in
        let y = f ∙ b in
        record {
          event = ap (λ t. (made t).1) x ∙ sym (ap (λ t. (made t).1) y);
          runs = rw (x, y) (record { store = h.store; entries = with_frames.nil; phase = closed; shown = h.shown; view = h.view; owned = h.owned; moves = h.moves });
          first_store = ap (λ t. (made t).0.store) x;
          second_store = ap (λ t. (made t).0.store) y;
          plain = ap calls_placeholder y;
        }

    -- An invalid move of the embedder is skipped.
    left_out : (ms : List Move) → transition r ≡ Makes (record r { moves = ms }, Some BadMove) → transition q ≡ Makes (record q { moves = ms }, Some BadMove) → NoCallBegins R r q
    left_out ms x y = record {
      event = ap (λ t. (made t).1) x ∙ sym (ap (λ t. (made t).1) y);
      runs = rw (x, y) (record { store = h.store; entries = h.entries; phase = h.phase; shown = h.shown; view = h.view; owned = h.owned; moves = refl });
      first_store = ap (λ t. (made t).0.store) x;
      second_store = ap (λ t. (made t).0.store) y;
      plain = ap calls_placeholder y;
    }

    -- The next start function is called.
    from_start : (a b : ℕ) (starts second_starts : List ℕ) (es fs : List Entry) → r.entries ≡ Opening (a ∷ starts) ∷ es → q.entries ≡ Opening (b ∷ second_starts) ∷ fs → R.listed a → R.of Functions a b → ListRel (R.of Functions) starts second_starts → WithPassing R es fs →
        StepsCallMovedTogether R r q
    from_start a b starts second_starts es fs top second_top listed n rest stack = by (type_at r.store a) refl (type_at q.store b) refl (h.store.types n)
      where
        first_is : transition r ≡ or_closed r (started r starts es a)
        first_is = ap (transition_at r) top

        second_is : transition q ≡ or_closed q (started q second_starts fs b)
        second_is = ap (transition_at q) second_top

        typed : (u : FuncType) → type_at r.store a ≡ Some u → type_at q.store b ≡ Some u → (ts : List ValType) → u.results ≡ ts → StepsCallMovedTogether R r q
        typed u e f [] results =
            let x : started r starts es a ≡ called r (Opening starts ∷ es) [] a =
            ap (λ o. option_and_then (λ t. option_and_then (λ _. called r (Opening starts ∷ es) [] a) (nothing_in t.results)) o) e ∙ ap (λ ts. option_and_then (λ _. called r (Opening starts ∷ es) [] a) (nothing_in ts)) results in
            let y : started q second_starts fs b ≡ called q (Opening second_starts ∷ fs) [] b =
            ap (λ o. option_and_then (λ t. option_and_then (λ _. called q (Opening second_starts ∷ fs) [] b) (nothing_in t.results)) o) f ∙ ap (λ ts. option_and_then (λ _. called q (Opening second_starts ∷ fs) [] b) (nothing_in ts)) results in
            from_called (Opening starts ∷ es) (Opening second_starts ∷ fs) [] r.moves a b listed n (with_frames.cons (to.opening rest) stack) (or_closed r) (or_closed q) (λ t. refl) (λ t. refl) (first_is ∙ ap (or_closed r) x)
            (second_is ∙ ap (or_closed q) y ∙ ap (λ ms. or_closed q (called (record q { moves = ms }) (Opening second_starts ∷ fs) [] b)) (sym h.moves)) (λ e f. closes (or_closed r None) (or_closed q None) refl refl e f) _ _ refl refl
            (called_both (Opening starts ∷ es) (Opening second_starts ∷ fs) [] r.moves a b listed n (with_frames.cons (to.opening rest) stack))
        typed u e f (t ∷ ts) results =
            let x : started r starts es a ≡ None =
            ap (λ o. option_and_then (λ t. option_and_then (λ _. called r (Opening starts ∷ es) [] a) (nothing_in t.results)) o) e ∙ ap (λ ts. option_and_then (λ _. called r (Opening starts ∷ es) [] a) (nothing_in ts)) results in
            let y : started q second_starts fs b ≡ None =
            ap (λ o. option_and_then (λ t. option_and_then (λ _. called q (Opening second_starts ∷ fs) [] b) (nothing_in t.results)) o) f ∙ ap (λ ts. option_and_then (λ _. called q (Opening second_starts ∷ fs) [] b) (nothing_in ts)) results in
            way.wrong (closes (or_closed r None) (or_closed q None) refl refl (first_is ∙ ap (or_closed r) x) (second_is ∙ ap (or_closed q) y))

        by : (o : Option FuncType) → type_at r.store a ≡ o → (p : Option FuncType) → type_at q.store b ≡ p → BothRel (◌≡◌ {A = FuncType}) o p → StepsCallMovedTogether R r q
        by _ e _ f (both {a = u} same) = typed u e (f ∙ ap Some (sym same)) u.results refl

    -- The next move of the embedder.
    module _ (first_is : transition r ≡ next_move r r.moves) (second_is : transition q ≡ next_move q q.moves) (skip : NextMoveSkips R r.view r.shown r.moves → TickSkips R r r.entries)
        (first_moved : (m : Move) (ms : List Move) → at_entries (record r { moves = ms }) m r.entries ≡ moved (record r { moves = ms }) m) (second_moved : (m : Move) (ms : List Move) → at_entries (record q { moves = ms }) m q.entries ≡ moved (record q { moves = ms }) m) where
      from_func : (m : Move) (ms : List Move) (xs : List Shown) → r.moves ≡ m ∷ ms → (o p : Option ℕ) → moved (record r { moves = ms }) m ≡ option_and_then (called (record r { moves = ms }) (Mark ∷ r.entries) xs) o →
          moved (record q { moves = ms }) m ≡ option_and_then (called (record q { moves = ms }) (Mark ∷ q.entries) xs) p → (((a : ℕ) → o ≡ Some a → R.listed a → ⊥) → MoveSkips R r.view r.shown m) → OptRel (R.of Functions) o p → StepsCallMovedTogether R r q
      from_func m ms xs e _ _ f g free none = skips (skip (subst (NextMoveSkips R r.view r.shown) (sym e) (free (λ a i l. let k = i in cc))))
      from_func m ms xs e _ _ f g free (some {a = a} {b = b} n) = ⊎_elim
          (λ listed.
          from_called (Mark ∷ r.entries) (Mark ∷ q.entries) xs ms a b listed n (with_frames.cons to.mark h.entries) (or_bad (record r { moves = ms })) (or_bad (record q { moves = ms })) (λ t. refl) (λ t. refl)
          (first_is ∙ ap (next_move r) e ∙ ap (or_bad (record r { moves = ms })) (first_moved m ms ∙ f)) (second_is ∙ ap (next_move q) (sym h.moves ∙ e) ∙ ap (or_bad (record q { moves = ms })) (second_moved m ms ∙ g)) (λ x y. left_out ms x y) _ _ refl refl
          (called_both (Mark ∷ r.entries) (Mark ∷ q.entries) xs ms a b listed n (with_frames.cons to.mark h.entries)))
          (λ not_listed. skips (skip (subst (NextMoveSkips R r.view r.shown) (sym e) (free (λ c i. subst (λ c. R.listed c → ⊥) (same_address i) not_listed)))))
          (decide a)
        where
          same_address : {c d : ℕ} → Some c ≡ Some d → c ≡ d
          same_address e = cc

      -- Two look-ups in sequence associate.
      then_then : {A B : Type 0} (f : A → Option ℕ) (g : ℕ → Option B) (o : Option A) → option_and_then (λ x. option_and_then g (f x)) o ≡ option_and_then g (option_and_then f o)
      then_then f g None = refl
      then_then f g (Some x) = refl

      other_move : (m : Move) (ms : List Move) → r.moves ≡ m ∷ ms → MoveSkips R r.view r.shown m → StepsCallMovedTogether R r q
      other_move m ms e free = skips (skip (subst (NextMoveSkips R r.view r.shown) (sym e) free))

      from_move : StepsCallMovedTogether R r q
      from_move = by r.moves refl
        where
          by : (l : List Move) → r.moves ≡ l → StepsCallMovedTogether R r q
          by [] e = skips (skip (subst (NextMoveSkips R r.view r.shown) (sym e) tt))
          by (run.Call name xs ∷ ms) e =
              from_func (run.Call name xs) ms xs e (option_and_then func_of (look_up (same_text name) r.view)) (option_and_then func_of (look_up (same_text name) q.view)) (then_then func_of _ (look_up (same_text name) r.view)) (then_then func_of _ (look_up (same_text name) q.view)) (λ free. free)
              (then_rel (look_rel R (same_text name) h.view) (λ _ _ x. func_of_rel R x))
          by (run.Invoke number xs ∷ ms) e = from_func (run.Invoke number xs) ms xs e (slice_get r.shown number) (slice_get q.shown number) refl refl (λ free. free) (get_rel h.shown number)
          by (run.Take name ∷ ms) e = other_move (run.Take name) ms e tt
          by (run.Answer xs ∷ ms) e = other_move (run.Answer xs) ms e tt
          by (run.Refuse ∷ ms) e = other_move run.Refuse ms e tt
          by (run.Grant ∷ ms) e = other_move run.Grant ms e tt
          by (run.Deny ∷ ms) e = other_move run.Deny ms e tt
          by (run.Get p n ∷ ms) e = other_move (run.Get p n) ms e tt
          by (run.Size p ∷ ms) e = other_move (run.Size p) ms e tt
          by (run.Set p n v ∷ ms) e = other_move (run.Set p n v) ms e tt
          by (run.Extend p n ∷ ms) e = other_move (run.Extend p n) ms e tt

    -- ---- by what is on top ----

    pub one_way : StepsCallMovedTogether R r q
    one_way = by r.entries q.entries refl refl h.entries
      where
        quiet : (es : List Entry) → r.entries ≡ es → TickSkips R r es → StepsCallMovedTogether R r q
        quiet es e s = skips (subst (TickSkips R r) (sym e) s)

        in_the_phase : r.entries ≡ [] → q.entries ≡ [] → (p o : Phase) → r.phase ≡ p → q.phase ≡ o → PhaseRel R (FramesBetween R) p o → StepsCallMovedTogether R r q
        in_the_phase x y _ _ e f (fresh b) = absurd (subst IsBegun e begun)
        in_the_phase x y _ _ e f (pending v) = quiet [] x (λ opened. absurd (let k = sym e ∙ opened in let z = k in cc))
        in_the_phase x y _ _ e f closed = quiet [] x (λ opened. absurd (let k = sym e ∙ opened in let z = k in cc))
        in_the_phase x y _ _ e f opened =
            from_move (ap (transition_at r) x ∙ ap (in_phase r) e) (ap (transition_at q) y ∙ ap (in_phase q) f) (λ s. subst (TickSkips R r) (sym x) (λ _. s)) (λ m ms. ap (at_entries (record r { moves = ms }) m) x) (λ m ms. ap (at_entries (record q { moves = ms }) m) y)

        by : (es fs : List Entry) → r.entries ≡ es → q.entries ≡ fs → WithPassing R es fs → StepsCallMovedTogether R r q
        by _ _ x y with_frames.nil = in_the_phase x y r.phase q.phase refl refl h.phase
        by _ _ x y (with_frames.cons to.mark e) = quiet _ x tt
        by _ _ x y (with_frames.cons (to.opening nil) e) = quiet _ x tt
        by _ _ x y (with_frames.cons (to.opening (cons {a = a} {b = b} {xs = xs} {ys = ys} n rest)) e) = ⊎_elim (λ listed. from_start a b xs ys _ _ x y listed n rest e) (λ free. quiet _ x free) (decide a)
        by _ _ x y (with_frames.cons to.waiting e) = from_move (ap (transition_at r) x) (ap (transition_at q) y) (λ s. subst (TickSkips R r) (sym x) s) (λ m ms. ap (at_entries (record r { moves = ms }) m) x) (λ m ms. ap (at_entries (record q { moves = ms }) m) y)
        by _ _ x y (with_frames.cons (to.ended v) e) = quiet _ x tt
        by _ _ x y (with_frames.cons (to.growing n) e) = quiet _ x tt
        by _ _ x y (with_frames.cons {es = es} {fs = fs} (to.running {f = f} {g = g} p) e) = from_frame f g es fs x y (with_frames.cons (to.running p) e)
        by _ _ x y (with_frames.through {f = f} {g = g} {es = es} p inst locals e) = from_frame f g es _ x y (with_frames.through p inst locals e)

pub steps_call_moved_functions_together : PoppedValuesHaveTypes → PassedValuesHaveTypes → EveryStepCallsMovedTogether
steps_call_moved_functions_together popped_typed passed_typed of l stands apart r q begun h = one_way popped_typed passed_typed (passed_with of of l stands) apart (λ k a b n. n) (λ a. listed_or_not a (list_any (nat_eq a) l) refl) r q begun h
  where
    listed_or_not : (a : ℕ) (b : Bool) → list_any (nat_eq a) l ≡ b → (list_any (nat_eq a) l ≡ true) ⊎ ((list_any (nat_eq a) l ≡ true) → ⊥)
    listed_or_not a true e = inl e
    listed_or_not a false e = inr (λ f. true≢false (sym f ∙ e))
