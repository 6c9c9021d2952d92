-- A step keeps to the code of one instance.
use Rattle.base_lists.proofs.Common.{◌≡◌, List, [], ◌∷◌, slice_get, refl}
use Rattle.wasm_meaning.specs.Prelude.{Gives, Val, Inst, Func, Code, Own, Placeholder, Level, Store, Change, Keep, SetGlobal, SetMemory, SetTable, DropElem, DropData, Frame, Entry, Running, Mark, Opening, Waiting, Ended, Growing, Act, Goes, Calls, AsksGrow, Ends, Next, Ran, pop_typed, type_at, act}
use Rattle.wasm_meaning.specs.Prelude.{changed, give, give_levels, enter, perform, step}
use Rattle.wasm_meaning.proofs.Outcomes.{AllOf, ill_typed, just, with_is, with_found, all_at}
use Rattle.eval_proof.specs.KnownQuietSteps.{FramesOf, IsCodeOf, FuncsOf}

module _ (i : Inst) (s : Store) (funcs : FuncsOf i s.funcs) where
  -- The functions are unchanged, and the frames run code of the instance.
  abbrev NextOf : Next → Type 0
  NextOf (Ran t fs) = (t.funcs ≡ s.funcs) × FramesOf i fs
  NextOf _ = Unit {0}

  changed_keeps : (c : Change) → (changed s c).funcs ≡ s.funcs
  changed_keeps Keep = refl
  changed_keeps (SetGlobal a g) = refl
  changed_keeps (SetMemory a m) = refl
  changed_keeps (SetTable a t) = refl
  changed_keeps (DropElem a) = refl
  changed_keeps (DropData a) = refl

  levels_of : (vs : List Val) (f : Frame) (ls : List Level) (es : List Entry) → f.inst ≡ i → FramesOf i es → AllOf NextOf (give_levels s vs f ls es)
  levels_of vs f [] es e o = ill_typed
  levels_of vs f (l ∷ ls) es e o = just (refl, (e, o))

  give_of : (vs : List Val) (es : List Entry) → FramesOf i es → AllOf NextOf (give s vs es)
  give_of vs [] o = ill_typed
  give_of vs (Running f ∷ es) o = levels_of vs f f.levels es o.0 o.1
  give_of vs (Mark ∷ es) o = just tt
  give_of vs (Opening xs ∷ es) o = just (refl, o)
  give_of vs (Waiting ts ∷ es) o = ill_typed
  give_of vs (Ended ws ∷ es) o = ill_typed
  give_of vs (Growing g ∷ es) o = ill_typed

  enter_of : (f : Func) (args : List Val) (es : List Entry) → IsCodeOf i f → FramesOf i es → NextOf (enter s f args es)
  enter_of (Code t j ls c) args es e o = (refl, (e, o))
  enter_of (Own p t) args es e o = tt
  enter_of (Placeholder n t) args es e o = tt

  perform_of : (f : Frame) (es : List Entry) (x : Act) → f.inst ≡ i → FramesOf i es → AllOf NextOf (perform s f es x)
  perform_of f es (Goes c h) e o = just (changed_keeps c, (e, o))
  perform_of f es (Calls a vs h) e o = with_found (type_at s a) _ (λ t _. with_is (pop_typed t.params vs) _ (λ p _. with_found (slice_get s.funcs a) _ (λ g is. just (enter_of g p.0 _ (funcs a g is) (e, o)))))
  perform_of f es (AsksGrow g size count h) e o = just tt
  perform_of f es (Ends vs) e o = with_is (pop_typed f.results vs) _ (λ p _. give_of p.0 es o)

  step_of : (es : List Entry) → FramesOf i es → AllOf NextOf (step s es)
  step_of [] o = ill_typed
  step_of (Running f ∷ es) o = with_is (act s f) _ (λ x _. perform_of f es x o.0 o.1)
  step_of (Mark ∷ es) o = ill_typed
  step_of (Opening xs ∷ es) o = ill_typed
  step_of (Waiting ts ∷ es) o = ill_typed
  step_of (Ended vs ∷ es) o = ill_typed
  step_of (Growing g ∷ es) o = ill_typed

  pub step_keeps : (es : List Entry) (t : Store) (fs : List Entry) → FramesOf i es → step s es ≡ Gives (Ran t fs) → (t.funcs ≡ s.funcs) × FramesOf i fs
  step_keeps es t fs o e = all_at (step_of es o) e
