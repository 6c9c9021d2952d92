use Rattle.std.proofs.Common.{◌+◌}
use Rattle.block_pool.proofs.Opened.{inside_table}
use Rattle.block_pool.proofs.paged.Paged.copy.Goals as goal

pub has_room-requires-clause-inside : goal.has_room-requires-clause-inside
has_room-requires-clause-inside c = inside_table c.self.inside.table c.args.self.now (c.args.to + c.args.count) c.self.view_is c.requires.inside

pub copy-requires-clause-inside : goal.copy-requires-clause-inside
copy-requires-clause-inside c = inside_table c.self.inside.table c.args.self.now (c.args.to + c.args.count) c.self.view_is c.requires.inside

pub copy-requires-clause-source : goal.copy-requires-clause-source
copy-requires-clause-source c = inside_table c.self.inside.table c.args.self.now (c.args.from + c.args.count) c.self.view_is c.requires.source
