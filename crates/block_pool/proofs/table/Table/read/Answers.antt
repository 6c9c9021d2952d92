use Rattle.std.proofs.Common.{ℕ, ◌≡◌, ◌+◌, ◌-◌, ◌*◌, ◌/◌, ◌%◌, List, length, ap, ap₂, ◌∙◌, ◌++◌, arith}
use Rattle.block_pool.specs.Pages.{part}
use Rattle.block_pool.specs.Table.{pages_of}
use Rattle.block_pool.proofs.Reading.{part_joined}
use Rattle.block_pool.proofs.Written.{size_is}
use Rattle.block_pool.proofs.table.Table.read.Goals as goal

pub returns-else-out-first : goal.returns-else-out-first
returns-else-out-first c =
    let xs : List ℕ = (pages_of c.args.self.now).now.bytes in
    let at : ℕ = c.args.at in
    let n : ℕ = 4096 - at % 4096 in
    let all : ℕ = length c.args.out.now in
    let s = c.split_at_mut-front.ensures in
    let f : length c.split_at_mut-front.result.0.now ≡ n = omega (arith, s.front_len) in
    let g : length c.split_at_mut-front.result.1.now ≡ all - n = omega (arith, s.front_len, s.back_len) in
    let e : 4096 * (at / 4096) + at % 4096 ≡ at = omega arith in
    let h : 4096 * (at / 4096 + 1) + 0 ≡ at + n = omega arith in
    let whole : n + (all - n) ≡ all = omega arith in
    ap₂ (λ ys zs. ys ++ zs)
    (c.read_in_block-else-out-first.ensures ∙ ap₂ (λ a m. part xs a m) e f)
    (c.read_in_block-else-out-first-2.ensures ∙ ap₂ (λ a m. part xs a m) h g)
    ∙ (part_joined xs at n (all - n) (rw (size_is c.args.self.now) (omega arith)) ∙ ap (part xs at) whole)
