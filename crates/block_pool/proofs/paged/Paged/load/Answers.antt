use Rattle.std.proofs.Common.{◌+◌}
use Rattle.block_pool.proofs.Opened.{inside_table}
use Rattle.block_pool.proofs.paged.Paged.load.Goals as goal

pub load-requires-clause-inside : goal.load-requires-clause-inside
load-requires-clause-inside c = inside_table c.self.inside.table c.args.self.now (c.args.at + c.args.width) c.self.view_is c.requires.inside
