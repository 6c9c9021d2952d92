use Rattle.std.proofs.Common.{◌∙◌}
use Rattle.merge_link.proofs.Types.{types_same, type_same}
use Rattle.merge_link.proofs.externals.same_types.Goals as goal

pub returns : goal.returns
returns c = c.eq.ensures ∙ types_same _ type_same c.args.a.now c.args.b.now
