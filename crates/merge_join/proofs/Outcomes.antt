-- The consequences of each outcome of joining.
use Rattle.base_lists.proofs.Common.{◌≡◌, ◌∙◌, ap, refl, Option, Some, None, Ok, Err}
use Rattle.wasm_tree_spec.specs.Prelude.{Which, Module}
use Rattle.wasm_meaning.specs.Prelude.{Text}
use Rattle.merge_spec.specs.declared.faults.JoinFault.TheVariants.{TooMany}
use Rattle.merge_spec.specs.Joined.{outcome}

-- Joining gives a module only if there is no conflict of names and no count above its limit.
pub record IsJoined (name : Option Text) (which : Option Which) (m t : Module) : Type 0 where
  pub no_name : name ≡ None
  pub no_count : which ≡ None
  pub same : m ≡ t

pub joined_from : (name : Option Text) (which : Option Which) (m t : Module) → outcome name which m ≡ Ok t → IsJoined name which m t
joined_from (Some name) which m t h = cc
joined_from None (Some which) m t h = cc
joined_from None None m t h = record { no_name = refl; no_count = refl; same = cc }

pub many_is : (o : Option Text) (w : Option Which) (which : Which) (m : Module) → o ≡ None → w ≡ Some which → outcome o w m ≡ Err (TooMany which)
many_is o w which m e f = ap (λ x. outcome x w m) e ∙ ap (λ x. outcome None x m) f

pub module_is : (o : Option Text) (w : Option Which) (m t : Module) → o ≡ None → w ≡ None → m ≡ t → outcome o w m ≡ Ok t
module_is o w m t e f same = ap (λ x. outcome x w m) e ∙ ap (λ x. outcome None x m) f ∙ ap Ok same
