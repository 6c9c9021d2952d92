use Rattle.base_lists.proofs.Common.{sym, ◌∙◌, eqb-true}
use Rattle.block_pool.proofs.Spelled.{zero_word}
use Rattle.block_pool.proofs.numbers.is_zero_word.Goals as goal

pub returns-clause-zero : goal.returns-clause-zero
returns-clause-zero c e = zero_word c.args.bytes.now c.args.at 8 (sym c.number.ensures.value ∙ eqb-true c.number.result 0 e)
