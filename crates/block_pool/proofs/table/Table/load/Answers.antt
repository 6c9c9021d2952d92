use Rattle.std.proofs.Common.{ℕ, ◌≡◌, ◌+◌, ◌*◌, ◌/◌, ◌%◌, List, sym, ap, ◌∙◌, arith}
use Rattle.block_pool.specs.Pages.{part, little}
use Rattle.block_pool.specs.Table.{pages_of}
use Rattle.block_pool.proofs.Rooms.{next_piece}
use Rattle.block_pool.proofs.Reading.{block_part, zero_part}
use Rattle.block_pool.proofs.Spelled.{little_zero}
use Rattle.block_pool.proofs.table.Table.load.Goals as goal

pub returns-in-Some-clause-value : goal.returns-in-Some-clause-value
returns-in-Some-clause-value c =
    let at : ℕ = c.args.at in
    let xs : List ℕ = (pages_of c.args.self.now).now.bytes in
    let e : 4096 * (at / 4096) + at % 4096 ≡ at = omega arith in
    c.number.ensures.value ∙ ap little (next_piece c.in-Some.bytes.now (at % 4096) c.args.width ∙ (block_part c.args.self.now (at / 4096) (at % 4096) c.args.width (omega arith) (omega arith) c.in-Some.bytes.now c.in-Some.ensures.some ∙ ap (λ a. part xs a c.args.width) e))

pub returns-in-None-clause-value : goal.returns-in-None-clause-value
returns-in-None-clause-value c =
    let at : ℕ = c.args.at in
    let xs : List ℕ = (pages_of c.args.self.now).now.bytes in
    let e : 4096 * (at / 4096) + at % 4096 ≡ at = omega arith in
    sym (little_zero c.args.width) ∙ ap little (zero_part c.args.self.now (at / 4096) (at % 4096) c.args.width (omega arith) (omega arith) c.in-None.ensures.none ∙ ap (λ a. part xs a c.args.width) e)
