use Rattle.std.proofs.Common.{ap, ◌∙◌, arith, length}
use Rattle.split_slots.specs.RemapsFromMarks.{primary_map_by}
use Rattle.split_slots.proofs.PrimaryTrees.{all_func_space, left_many}
use Rattle.split_slots.proofs.module_drafts.drafted.Goals as goal

pub primary_map-requires-clause-there : goal.primary_map-requires-clause-there
primary_map-requires-clause-there c =
    let left = ap length (c.as_slice.ensures ∙ c.requires.survey.left) ∙ left_many c.args.module c.args.moved.now in
    omega (arith, left, all_func_space c.args.module)

pub primary_map-requires-clause-few : goal.primary_map-requires-clause-few
primary_map-requires-clause-few c =
    let left = ap length (c.as_slice.ensures ∙ c.requires.survey.left) ∙ left_many c.args.module c.args.moved.now in
    omega (arith, left, c.requires.few)

pub returns : goal.returns
returns c =
    record {
      primary = c.in_ok-secondary.ensures.primary;
      primary_map_is = c.in_ok-map.ensures ∙ ap (λ left. primary_map_by c.args.module left (length c.args.moved.now)) (c.as_slice.ensures ∙ c.requires.survey.left);
      secondary = c.in_ok-secondary.ensures.secondary;
      secondary_map_is = c.in_ok-secondary.ensures.map;
    }
