-- Calls in order, and the calls of a list with one more function.
use Rattle.base_lists.proofs.Common.{◌≡◌, ◌∙◌, ℕ, List, [], ◌∷◌, ◌++◌, refl, sym, ap}
use Rattle.wasm_tree_spec.specs.Prelude.{Module}
use Rattle.eval_spec.specs.declared.limits.TheConstants.{MOST_TURNS}
use Rattle.eval_spec.specs.Prelude.{State, Stage, Going, Stopped, Finished, call_end, booted, called_in_order, evaluated}
use Rattle.eval_snapshot_proof.specs.ConstructorLists.{AddedAreEvaluated, EvaluatedAreAdded, NoneIsTheInstantiation}

pub no_calls : (m : Module) (t : Stage) → called_in_order m t [] ≡ t
no_calls m (Finished s) = refl
no_calls m (Stopped x left) = refl
no_calls m (Going s es) = refl

one_more : (m : Module) (funcs : List ℕ) (func : ℕ) (t : Stage) → called_in_order m t (funcs ++ func ∷ []) ≡ called_in_order m (called_in_order m t funcs) (func ∷ [])
one_more m [] func (Finished s) = refl
one_more m (f ∷ funcs) func (Finished s) = one_more m funcs func (call_end m s f)
one_more m [] func (Stopped x left) = refl
one_more m (f ∷ funcs) func (Stopped x left) = refl
one_more m [] func (Going s es) = refl
one_more m (f ∷ funcs) func (Going s es) = refl

pub added : AddedAreEvaluated
added m funcs func s t e h = one_more m funcs func (booted m MOST_TURNS) ∙ (ap (λ u. called_in_order m u (func ∷ [])) e ∙ (no_calls m (call_end m s func) ∙ h))

pub parted : EvaluatedAreAdded
parted m funcs func t e = by (evaluated m funcs) refl (sym (one_more m funcs func (booted m MOST_TURNS)) ∙ e)
  where
    by : (u : Stage) → evaluated m funcs ≡ u → called_in_order m (evaluated m funcs) (func ∷ []) ≡ Finished t → (s : State) × (evaluated m funcs ≡ Finished s) × (call_end m s func ≡ Finished t)
    by (Finished s) is h = (s, is, sym (no_calls m (call_end m s func)) ∙ (sym (ap (λ u. called_in_order m u (func ∷ [])) is) ∙ h))
    by (Stopped x left) is h = absurd (let k : called_in_order m (Stopped x left) (func ∷ []) ≡ Finished t = sym (ap (λ u. called_in_order m u (func ∷ [])) is) ∙ h in cc)
    by (Going s es) is h = absurd (let k : called_in_order m (Going s es) (func ∷ []) ≡ Finished t = sym (ap (λ u. called_in_order m u (func ∷ [])) is) ∙ h in cc)

pub none : NoneIsTheInstantiation
none m = no_calls m (booted m MOST_TURNS)
