use Rattle.std.proofs.Common.{◌<◌, ap, sym, subst, refl, ◌∙◌, arith, length, drop}
use Rattle.base_kept.specs.Kept.{kept}
use Rattle.base_lists.specs.Every.{Every}
use Rattle.wasm_tree.specs.Spaces.{imported_funcs}
use Rattle.split_slots.specs.declared.call_replacement.Calls.{Calls}
use Rattle.split_slots.specs.DividedDefinitions.{FewParams, own_funcs, parted_funcs}
use Rattle.split_slots.proofs.CallsAndFunctions.{PrimaryCalls}
use Rattle.split_slots.proofs.PrimaryTrees.{all_func_space, few_params, few_slots, left_funcs_are, left_many, moved_are, tree_is}
use Rattle.split_slots.proofs.ReferencesOutsideBodies.{all_there}
use Rattle.split_slots.proofs.primary_module.part_module.Goals as goal

pub part-requires-clause-few : goal.part-requires-clause-few
part-requires-clause-few c =
    let calls : Calls = record { types = c.as_slice-types.result; slots = c.deref.result; table = c.args.survey.now.table; base = c.func_space.result; first = 0; end = 0 } in
    few_slots c.args.tree.now c.args.moved.now c.requires.can calls (c.deref.ensures.value ∙ c.requires.survey.slots) c.requires.few c.func_space.ensures (c.as_slice-types.ensures ∙ c.requires.survey.types)

pub part-requires-clause-params : goal.part-requires-clause-params
part-requires-clause-params c i f at = subst (λ ts. FewParams ts f) (sym c.as_slice.ensures) (few_params c.args.tree.now c.requires.bounded i f at)

pub part-requires-clause-there : goal.part-requires-clause-there
part-requires-clause-there c =
    let m = c.args.tree.now in
    let left = ap length (c.as_slice-left.ensures ∙ c.requires.survey.left) ∙ left_many m c.args.moved.now in
    omega (arith, all_func_space m, c.imported_funcs-first.ensures.value, left)

pub add_parts-requires : goal.add_parts-requires
add_parts-requires c =
    let types = ap length (c.as_slice-types.ensures ∙ c.requires.survey.types) in
    record {
      typed = subst (λ n. Every (λ f. f < n) c.args.moved.now) (sym types) (all_there c.args.tree.now c.args.moved.now c.requires.can);
      few = omega (arith, types, c.requires.few);
    }

pub returns : goal.returns
returns c =
    let m = c.args.tree.now in
    let moved = c.args.moved.now in
    let k = length (imported_funcs m.imports) in
    let calls : Calls = record { types = c.as_slice-types.result; slots = c.deref.result; table = c.args.survey.now.table; base = c.func_space.result; first = 0; end = 0 } in
    let types = c.as_slice-types.ensures ∙ c.requires.survey.types in
    let slots = c.deref.ensures.value ∙ c.requires.survey.slots in
    let is : PrimaryCalls m moved calls = record { types = types; slots = slots; table = c.requires.survey.table; none = refl } in
    let left = c.as_slice-left.result.now in
    let funcs =
    c.in_ok-own.ensures.left ∙ ap (λ n. kept (drop n left) (parted_funcs c.as_slice.result.now calls n m.funcs)) c.imported_funcs-first.ensures.value
    ∙ ap (λ ts. kept (drop k left) (parted_funcs ts calls k m.funcs)) c.as_slice.ensures
    ∙ left_funcs_are m moved c.requires.can calls is left (c.as_slice-left.ensures ∙ c.requires.survey.left) in
    record {
      tree =
          c.in_ok-add_parts.ensures
          ∙ tree_is c.args.names.now.placeholder_namespace c.args.names.now.export_prefix m moved c.as_slice-types.result.now c.args.survey.now.table (length c.as_slice-types.result.now) c.part.new.funcs c.args.added.now
          types c.requires.survey.table (ap length types) c.requires.added funcs;
      own =
          c.in_ok-own.ensures.own ∙ ap (λ n. own_funcs calls n m.funcs) c.imported_funcs-first.ensures.value
          ∙ moved_are m moved c.requires.can calls slots c.requires.ascend;
    }
