use Rattle.std.proofs.Common.{◌+◌, length}
use Rattle.block_pool.proofs.Opened.{inside_table}
use Rattle.block_pool.proofs.paged.Paged.write.Goals as goal

pub has_room-requires-clause-inside : goal.has_room-requires-clause-inside
has_room-requires-clause-inside c = inside_table c.self.inside.table c.args.self.now (c.args.at + length c.args.bytes.now) c.self.view_is c.requires.inside

pub put-requires-clause-inside : goal.put-requires-clause-inside
put-requires-clause-inside c = inside_table c.self.inside.table c.args.self.now (c.args.at + length c.args.bytes.now) c.self.view_is c.requires.inside
