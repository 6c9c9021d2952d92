use Rattle.std.proofs.Common.{◌+◌}
use Rattle.block_pool.proofs.Opened.{inside_table}
use Rattle.block_pool.proofs.paged.Paged.fill.Goals as goal

pub has_room-requires-clause-inside : goal.has_room-requires-clause-inside
has_room-requires-clause-inside c = inside_table c.self.inside.table c.args.self.now (c.args.at + c.args.count) c.self.view_is c.requires.inside

pub fill-requires-clause-inside : goal.fill-requires-clause-inside
fill-requires-clause-inside c = inside_table c.self.inside.table c.args.self.now (c.args.at + c.args.count) c.self.view_is c.requires.inside
