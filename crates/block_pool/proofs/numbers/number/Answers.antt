use Rattle.std.proofs.Common.{◌∙◌, arith}
use Rattle.block_pool.proofs.Spelled.{little_8}
use Rattle.block_pool.proofs.numbers.number.Goals as goal

pub returns-in-len8-clause-value : goal.returns-in-len8-clause-value
returns-in-len8-clause-value c = c.from_le_bytes-in-len8.ensures ∙ little_8 c.args.bytes.now (omega arith)
