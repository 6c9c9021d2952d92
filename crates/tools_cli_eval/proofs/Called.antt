-- The state of a machine after some of the calls in order.
use Rattle.base_lists.proofs.Common.{◌≡◌, ◌∙◌, ap, sym, refl, ℕ, suc, ◌+◌, ◌<◌, ◌≤◌, arith, List, [], ◌∷◌, ◌++◌, length, take, drop, get_or, false, cond, Some, None, drop_all, drop_more, take_more}
use Rattle.wasm_tree_spec.specs.Prelude.{Module}
use Rattle.eval_spec.specs.declared.stop.Stop.{Stop}
use Rattle.eval_spec.specs.Prelude.{State, Stage, Going, Stopped, Finished, is_finished, stop_of, call_end, called_in_order, calls_finished, done_count, evaluated}
use Rattle.eval_snapshot_proof.specs.ConstructorLists.{AddedAreEvaluated}
use Rattle.eval_machine.specs.declared.kept.Kept.{Kept}
use Rattle.eval_machine.specs.Prelude.{SameButForTurns, StopsCall, Rests, state_in}
use Rattle.tools_cli_eval.specs.Calls.{HaveEnded}

-- The first `n` calls came to their ends, and the others are made from the machine's state.
pub record Stands (m : Module) (funcs : List ℕ) (n : ℕ) (k : Kept) : Type 0 where
  pub rests : Rests m k
  pub rest : evaluated m funcs ≡ called_in_order m (Finished (state_in m k)) (drop n funcs)
  pub counted : done_count m funcs ≡ n + calls_finished m (Finished (state_in m k)) (drop n funcs)
  pub quiet : evaluated m (take n funcs) ≡ Finished (state_in m k)

module _ (m : Module) (funcs : List ℕ) (n : ℕ) (k : Kept) (stands : Stands m funcs n k) (within : n < length funcs) where
  abbrev f : ℕ
  f = get_or funcs n 0

  abbrev rest : List ℕ
  rest = drop (n + 1) funcs

  abbrev s : State
  s = state_in m k

  next : drop n funcs ≡ f ∷ rest
  next = drop_more funcs n 0 within

  goes_on : evaluated m funcs ≡ called_in_order m (call_end m s f) rest
  goes_on = stands.rest ∙ ap (called_in_order m (Finished s)) next

  counts_on : done_count m funcs ≡ n + cond (is_finished (call_end m s f)) (suc (calls_finished m (call_end m s f) rest)) 0
  counts_on = stands.counted ∙ ap (λ l. n + calls_finished m (Finished s) l) next

  pub stands_more : AddedAreEvaluated → (j : Kept) → call_end m s f ≡ Finished (state_in m j) → Rests m j → Stands m funcs (n + 1) j
  stands_more added j e rests = record {
    rests = rests;
    rest = goes_on ∙ ap (λ t. called_in_order m t rest) e;
    counted =
        let on : done_count m funcs ≡ n + suc (calls_finished m (Finished (state_in m j)) rest) = counts_on ∙ ap (λ t. n + cond (is_finished t) (suc (calls_finished m t rest)) 0) e in
        omega (arith, on);
    quiet = ap (evaluated m) (take_more funcs n 0 within) ∙ added m (take n funcs) f s (state_in m j) stands.quiet e;
  }

  stops_all : (t : Stage) (x : Stop) (l : List ℕ) → stop_of t ≡ Some x → stop_of (called_in_order m t l) ≡ Some x
  stops_all (Stopped y left) x [] e = e
  stops_all (Stopped y left) x (g ∷ gs) e = e
  stops_all (Going u es) x l e = absurd (cc)
  stops_all (Finished u) x l e = absurd (cc)

  not_finished : (t : Stage) (x : Stop) → stop_of t ≡ Some x → is_finished t ≡ false
  not_finished (Stopped y left) x e = refl
  not_finished (Going u es) x e = absurd (cc)
  not_finished (Finished u) x e = absurd (cc)

  -- Something stops the next call.
  pub stopped_here : (x : Stop) (j : Kept) → StopsCall m f k x j → SameButForTurns m k j → HaveEnded m funcs (record { count = n; stopped = Some x }) j
  stopped_here x j stops left = record {
    few = omega (arith, within);
    count =
        let on : done_count m funcs ≡ n + 0 = counts_on ∙ ap (λ b. n + cond b (suc (calls_finished m (call_end m s f) rest)) 0) (not_finished (call_end m s f) x stops.stop) in
        omega (arith, on);
    stopped = sym (ap stop_of goes_on ∙ stops_all (call_end m s f) x rest stops.stop);
    end = s;
    quiet = stands.quiet;
    state = left.state;
  }

-- All calls came to their ends.
pub stopped_nowhere : (m : Module) (funcs : List ℕ) (n : ℕ) (k : Kept) → Stands m funcs n k → length funcs ≤ n → n ≤ length funcs → HaveEnded m funcs (record { count = length funcs; stopped = None }) k
stopped_nowhere m funcs n k stands all few =
    let none : drop n funcs ≡ [] = drop_all n funcs all in
    let on : done_count m funcs ≡ n + 0 = stands.counted ∙ ap (λ l. n + calls_finished m (Finished (state_in m k)) l) none in
    let same : n ≡ length funcs = omega (arith, all, few) in
    record {
      few = omega arith;
      count = omega (arith, on, same);
      stopped = sym (ap stop_of (stands.rest ∙ ap (called_in_order m (Finished (state_in m k))) none));
      end = state_in m k;
      quiet = ap (λ i. evaluated m (take i funcs)) (sym same) ∙ stands.quiet;
      state = refl;
    }
