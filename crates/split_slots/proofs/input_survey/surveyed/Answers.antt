use Rattle.base_lists.proofs.Common.{◌≡◌, ◌<◌, ◌∙◌, ap, sym, subst, arith, length, map, length-map, length-numbers}
use Rattle.base_lists.specs.Every.{Every}
use Rattle.base_lists.specs.Places.{numbers}
use Rattle.wasm_tree_spec.specs.Prelude.{funcs_of}
use Rattle.wasm_valid.specs.declared.kinds.ItemKind.TheVariants as kind
use Rattle.split_spec.specs.Prelude.{place_among}
use Rattle.split_slots.proofs.FunctionsLeft.{left_are}
use Rattle.split_slots.proofs.ReferencesOutsideBodies.{all_there}
use Rattle.split_slots.proofs.PlannedFunctions.{all_defined, few_ascend}
use Rattle.split_slots.proofs.SharedEntities.{marks_are, slots_for}
use Rattle.split_slots.proofs.input_survey.surveyed.Goals as goal

pub slots_of-requires : goal.slots_of-requires
slots_of-requires c =
    let m = c.args.module.now in
    let moved = c.args.moved.now in
    let many : length (funcs_of m) ≡ c.len.result = sym (c.len.ensures ∙ ap length c.in_ok-types.ensures) in
    let there = all_there m moved c.requires.can in
    let few = few_ascend (length (funcs_of m)) moved c.requires.ascend there in
    let bounded = c.requires.bounded.funcs in
    record { ascend = c.requires.ascend; there = subst (λ n. Every (λ f. f < n) moved) many there; few = omega (arith, few, bounded) }

pub left_marks-requires : goal.left_marks-requires
left_marks-requires c =
    let slots = ap length c.deref.ensures.value ∙ ap length c.in_ok-slots.ensures ∙ length-map (numbers 0 c.len.result) (place_among c.args.moved.now) ∙ length-numbers 0 c.len.result in
    let many : c.len.result ≡ length (funcs_of c.args.module.now) = c.len.ensures ∙ ap length c.in_ok-types.ensures in
    let bounded = c.requires.bounded.funcs in
    record { few = omega (arith, slots, many, bounded) }

pub named_marks-requires : goal.named_marks-requires
named_marks-requires c = record { defined = all_defined c.args.module.now c.args.moved.now c.requires.can }

pub returns : goal.returns
returns c =
    let m = c.args.module.now in
    let moved = c.args.moved.now in
    let there = all_there m moved c.requires.can in
    let holds = (c.valid_where_items_hold.ensures m).0 c.requires.valid kind.Body in
    let slots : c.in_ok-slots.slots.items ≡ slots_for m moved = c.in_ok-slots.ensures ∙ ap (λ n. map (place_among moved) (numbers 0 n)) (c.len.ensures ∙ ap length c.in_ok-types.ensures) in
    record {
      types = c.in_ok-types.ensures;
      slots = slots;
      left = c.in_ok-left.ensures ∙ left_are c.well_typed_bodies_name_declared_functions.ensures m holds moved there c.deref.result.now c.deref-2.result.now (c.deref.ensures.value ∙ slots) (c.deref-2.ensures.value ∙ c.in_ok-needed.ensures);
      marks = λ space. c.in_ok-marks.ensures space ∙ marks_are m moved there c.deref-3.result.now (c.deref-3.ensures.value ∙ slots) moved space;
      table = c.table_space.ensures;
    }
