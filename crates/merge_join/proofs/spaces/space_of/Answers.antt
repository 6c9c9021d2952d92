use Rattle.std.proofs.Common.{ap, arith}
use Rattle.wasm_meaning.specs.World.{defined_before}
use Rattle.merge_spec.specs.Parts.{named_modules}
use Rattle.merge_join.proofs.ByPart.{named_length}
use Rattle.merge_join.proofs.Counts.{staying_few}
use Rattle.merge_join.proofs.spaces.space_of.Goals as goal

pub firsts_of-requires : goal.firsts_of-requires
firsts_of-requires c =
    let ps = named_modules c.args.parts.now in
    let k = c.args.space in
    let all = ap (defined_before k ps) (named_length c.args.parts.now) in
    record { few = omega (arith, all, c.in_ok-staying.ensures.count, staying_few ps k, c.requires.few.entries k) }
