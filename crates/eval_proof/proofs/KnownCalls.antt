-- Quiet calls are known steps, up to the one that ends the call.
use Rattle.base_lists.proofs.Common.{◌≡◌, ℕ, suc, List, Bool, ◌∙◌, refl, sym, subst}
use Rattle.wasm_tree_spec.specs.Prelude.{Space, Module}
use Rattle.wasm_meaning.specs.Prelude.{Entry}
use Rattle.run_simulation.specs.Prelude.{KnownSteps, none_left, known_step}
use Rattle.eval_spec.specs.Prelude.{State, Stage, Going, Stopped, Finished, ComesTo, here, on, quiet_step, own_inst}
use Rattle.eval_proof.specs.KnownQuietSteps.{RelatesAllButImports, FramesOf, FuncsOf, EndsAsTheMachine, QuietCallsAreKnown}
use Rattle.eval_proof.proofs.FrameInstances.{step_keeps}
use Rattle.eval_proof.proofs.QuietSteps.{goes_on_quietly, finishes_quietly}
use Rattle.eval_proof.proofs.KnownSteps as steps

module _ (m : Module) (of named : Space → ℕ → ℕ → Bool) (all : RelatesAllButImports m of named) where
  abbrev EndsAlike : State → List Entry → State → Type 0
  EndsAlike s es t = FuncsOf (own_inst m) s.store.funcs → FramesOf (own_inst m) es → EndsAsTheMachine (steps.R m of named all) s es t

  abbrev Between : Stage → Stage → Type 0
  Between (Going s es) (Finished t) = EndsAlike s es t
  Between (Going s es) _ = Unit {0}
  Between (Stopped x left) y = y ≡ Stopped x left
  Between (Finished s) y = y ≡ Finished s

  -- The step that ends a quiet call.
  last_step : (s t : State) (es : List Entry) → quiet_step m s es ≡ Finished t → EndsAlike s es t
  last_step s t es e = λ funcs frames.
      let f = finishes_quietly m s es t e in
      let uses = steps.top_uses m of named all s es f.none_held in
      record {
        number = 0;
        last = s;
        entries = es;
        steps = none_left;
        reads = steps.step_reads m of named all s es uses;
        skips = steps.skips m of named all s.store es;
        known = λ hs. steps.entries_known m of named all s es hs frames uses;
        values = f.values;
        rest = f.rest;
        ends = f.ends;
        unknown = f.unknown;
      }

  one_more : (s t : State) (es : List Entry) (q : Stage) → quiet_step m s es ≡ q → Between q (Finished t) → EndsAlike s es t
  one_more s t es (Stopped x left) e b = absurd (let h = b in cc)
  one_more s t es (Finished r) e b = last_step s t es (let same : Finished r ≡ Finished t = sym b in e ∙ same)
  one_more s t es (Going r gs) e b = λ funcs frames.
      let g = goes_on_quietly m s es r gs e in
      let uses = steps.top_uses m of named all s es g.none_held in
      let kept = step_keeps (own_inst m) s.store funcs es r.store gs frames g.steps in
      let later = b (subst (FuncsOf (own_inst m)) (sym kept.0) funcs) kept.1 in
      record {
        number = suc later.number;
        last = later.last;
        entries = later.entries;
        steps = known_step (steps.step_reads m of named all s es uses) (steps.skips m of named all s.store es) (λ hs _. steps.entries_known m of named all s es hs frames uses) g.steps
            (subst (λ u. KnownSteps (steps.R m of named all) later.number u r.store gs later.last.unknown later.last.store later.entries) g.unknown later.steps);
        reads = later.reads;
        skips = later.skips;
        known = later.known;
        values = later.values;
        rest = later.rest;
        ends = later.ends;
        unknown = later.unknown;
      }

  between : {x y : Stage} → ComesTo m x y → Between x y
  between {x = Going s es} here = tt
  between {x = Stopped x left} here = refl
  between {x = Finished s} here = refl
  between {y = Finished t} (on {s = s} {es = es} p) = one_more s t es (quiet_step m s es) refl (between p)
  between {y = Stopped x left} (on p) = tt
  between {y = Going t fs} (on p) = tt

pub quiet_calls_are_known : QuietCallsAreKnown
quiet_calls_are_known m of named all s t es funcs frames p = between m of named all p funcs frames
