use Rattle.std.proofs.Common.{ap, sym, ◌∙◌}
use Rattle.block_pool.specs.Pages.{size}
use Rattle.block_pool.proofs.Written.{size_is}
use Rattle.block_pool.proofs.paged.Paged.size.Goals as goal

pub returns : goal.returns
returns c = sym (size_is c.self.inside.table) ∙ ap size c.self.view_is
