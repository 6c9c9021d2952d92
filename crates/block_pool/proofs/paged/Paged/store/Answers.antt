use Rattle.std.proofs.Common.{◌+◌}
use Rattle.block_pool.proofs.Opened.{inside_table}
use Rattle.block_pool.proofs.paged.Paged.store.Goals as goal

pub store_ready-requires-clause-inside : goal.store_ready-requires-clause-inside
store_ready-requires-clause-inside c = inside_table c.self.inside.table c.args.self.now (c.args.at + c.args.width) c.self.view_is c.requires.inside

pub store_anew-requires-clause-inside : goal.store_anew-requires-clause-inside
store_anew-requires-clause-inside c = rw (c.store_ready.ensures.same c.if-store_ready.false) (inside_table c.self.inside.table c.args.self.now (c.args.at + c.args.width) c.self.view_is c.requires.inside)
