use Rattle.block_pool.proofs.Scanned.{zero_block, found_in, none_in}
use Rattle.block_pool.proofs.table.Table.nonzero_in_block.Goals as goal

pub returns-in-Some-first_nonzero-clause-some : goal.returns-in-Some-first_nonzero-clause-some
returns-in-Some-first_nonzero-clause-some c =
    found_in c.args.self.now c.args.at c.in-Some.bytes.now c.min-end.result c.in-Some.ensures.some c.requires.inside c.min-end.ensures c.in-Some-first_nonzero.found c.in-Some-first_nonzero.ensures.some

pub returns-in-None-first_nonzero-clause-none : goal.returns-in-None-first_nonzero-clause-none
returns-in-None-first_nonzero-clause-none c =
    none_in c.args.self.now c.args.at c.in-Some.bytes.now c.min-end.result c.in-Some.ensures.some c.requires.inside c.min-end.ensures c.in-None-first_nonzero.ensures.none

pub returns-in-None-clause-none : goal.returns-in-None-clause-none
returns-in-None-clause-none c = zero_block c.args.self.now c.args.at c.in-None.ensures.none
