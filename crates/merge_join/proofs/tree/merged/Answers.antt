use Rattle.base_lists.proofs.Common.{◌≡◌, ◌∙◌, sym, subst, ◌<◌, ◌^◌, length, List, Option}
use Rattle.wasm_tree_spec.specs.Prelude.{Module, funcs_of}
use Rattle.wasm_meaning.specs.Prelude.{Text}
use Rattle.merge_spec.specs.declared.parts.Part.{Part}
use Rattle.merge_spec.specs.Prelude.{named_modules}
use Rattle.merge_join.specs.declared.tree.Plan.{Plan}
use Rattle.merge_join.specs.Moved.{AreAllValues}
use Rattle.merge_join.specs.Planned.{IsMergePlan}
use Rattle.merge_join.specs.LinkedParts.{AreMaps}
use Rattle.merge_join.proofs.MergedTrees.{funcs_few, merged_is}
use Rattle.merge_join.proofs.tree.merged.Goals as goal

planned : (parts lent : List Part) (names : List (Option Text)) (plan : Plan) → lent ≡ parts → IsMergePlan (named_modules lent) names plan → IsMergePlan (named_modules parts) names plan
planned parts lent names plan is made = subst (λ (xs : List Part). IsMergePlan (named_modules xs) names plan) is made

pub moved_parts-moved-requires : goal.moved_parts-moved-requires
moved_parts-moved-requires c =
    let ps = named_modules c.args.parts in
    let plan = planned c.args.parts c.as_slice.result.now c.args.names.now c.in_ok-plan.plan c.as_slice.ensures c.in_ok-plan.ensures in
    record {
      hold = c.requires.linked.hold;
      maps = subst (AreMaps ps) (sym c.as_slice-2.ensures) plan.maps;
      values = subst (AreAllValues ps) (sym c.as_slice-3.ensures) plan.values;
    }

pub returns-clause-is : goal.returns-clause-is
returns-clause-is c =
    let plan = planned c.args.parts c.as_slice.result.now c.args.names.now c.in_ok-plan.plan c.as_slice.ensures c.in_ok-plan.ensures in
    c.in_ok-put_frame.ensures ∙ merged_is (named_modules c.args.parts) c.args.names.now c.in_ok-plan.plan.frame c.in_ok-tree.tree plan.frame c.in_ok-tree.ensures

pub returns-clause-few : goal.returns-clause-few
returns-clause-few c =
    let ps = named_modules c.args.parts in
    let plan = planned c.args.parts c.as_slice.result.now c.args.names.now c.in_ok-plan.plan c.as_slice.ensures c.in_ok-plan.ensures in
    let is = c.in_ok-put_frame.ensures ∙ merged_is ps c.args.names.now c.in_ok-plan.plan.frame c.in_ok-tree.tree plan.frame c.in_ok-tree.ensures in
    subst (λ (m : Module). length (funcs_of m) < 2 ^ 32) (sym is) (funcs_few ps c.args.names.now c.requires.linked.few)
