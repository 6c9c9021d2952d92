use Rattle.base_lists.proofs.Common.{ap, refl, subst, ◌∙◌, ◌≡◌, IfOk, arith, length, map}
use Rattle.wasm_tree_spec.specs.Prelude.{Module}
use Rattle.split_slots.specs.declared.call_replacement.Calls.{Calls}
use Rattle.split_slots.specs.declared.module_drafts.Draft.{Draft}
use Rattle.split_slots.specs.DividedDefinitions.{own_func}
use Rattle.split_slots.proofs.CallsAndFunctions.{SecondaryCalls}
use Rattle.split_slots.proofs.PrimaryTrees.{few_slots}
use Rattle.split_slots.proofs.ReferencesOutsideBodies.{all_there}
use Rattle.split_slots.proofs.SecondaryTrees.{own_funcs_are, own_many, secondary_tree_is}
use Rattle.split_slots.proofs.module_drafts.parted.Goals as goal

pub secondary_draft-requires-clause-few : goal.secondary_draft-requires-clause-few
secondary_draft-requires-clause-few c =
    let calls : Calls = record { types = c.as_slice.result; slots = c.deref.result; table = c.args.survey.now.table; base = c.func_space-base.result; first = 0; end = length c.args.moved.now } in
    few_slots c.args.tree.now c.args.moved.now c.requires.can calls (c.deref.ensures.value ∙ c.requires.survey.slots) c.requires.few
    c.func_space-base.ensures (c.as_slice.ensures ∙ c.requires.survey.types)

pub secondary_draft-requires-clause-own : goal.secondary_draft-requires-clause-own
secondary_draft-requires-clause-own c =
    let own = ap length c.in_ok-own.ensures.own ∙ own_many c.args.tree.now c.args.moved.now c.requires.can in
    omega (arith, own, c.func_space-base.ensures, c.requires.few)

pub returns-clause-secondary : goal.returns-clause-secondary
returns-clause-secondary c =
    let names = c.args.names.now in
    let m = c.args.tree.now in
    let moved = c.args.moved.now in
    let own = c.in_ok-own.own in
    let frame = c.in_ok-frame.frame in
    let calls : Calls = record { types = c.as_slice.result; slots = c.deref.result; table = c.args.survey.now.table; base = c.func_space-base.result; first = 0; end = length moved } in
    let is : SecondaryCalls m moved calls = record {
      types = c.as_slice.ensures ∙ c.requires.survey.types;
      slots = c.deref.ensures.value ∙ c.requires.survey.slots;
      base = c.func_space-base.ensures;
      from = refl;
      end = refl;
    } in
    subst (λ (t : Module). IfOk c.secondary_draft.result (λ (draft : Draft). draft.tree ≡ t))
    (secondary_tree_is names m moved frame.types frame.imports (map (own_func calls) own) c.args.survey.now.table c.func_space-base.result (length own)
    c.in_ok-frame.ensures.types c.in_ok-frame.ensures.imports (own_funcs_are m moved (all_there m moved c.requires.can) calls is own c.in_ok-own.ensures.own)
    c.requires.survey.table c.func_space-base.ensures (ap length c.in_ok-own.ensures.own ∙ own_many m moved c.requires.can)) c.secondary_draft.ensures.tree
