use Rattle.std.proofs.Common.{ap, ◌∙◌, arith, length, length-drop}
use Rattle.split_slots.proofs.PrimaryTrees.{parted_length}
use Rattle.split_slots.proofs.ShiftedPlaces.{rest_is}
use Rattle.split_slots.proofs.primary_module.part.Goals as goal

pub keep_marked-requires : goal.keep_marked-requires
keep_marked-requires c =
    let many = ap length c.in_ok-own.ensures.left ∙ parted_length c.args.types.now c.args.calls.now c.args.first c.args.funcs.now in
    let rest = ap length (rest_is c.args.left.now c.args.first) ∙ length-drop c.args.first c.args.left.now in
    omega (arith, many, rest, c.requires.there, ap length c.replace-all.ensures.value)
