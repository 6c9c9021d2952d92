use Rattle.base_lists.proofs.Common.{◌≤◌, ◌^◌, ◌-◌, arith, ints, pow_mono}
use Rattle.wasm_bytes.proofs.Sizes.{joined_signed}
use Rattle.wasm_bytes.specs.Prelude.{join_signed, IsWithin}
use Rattle.wasm_bytes.proofs.numbers.signed_joined.Goals as goal

pub overflow_mul-result : goal.overflow_mul-result
overflow_mul-result c =
    let k : c.args.bits - 7 - 1 ≤ 56 = omega arith in
    let most : 2 ^ (c.args.bits - 7 - 1) ≤ 2 ^ 56 = pow_mono k in
    let low = c.requires.high.0 in
    let high = c.requires.high.1 in
    omega (arith, ints)

pub returns-clause-value : goal.returns-clause-value
returns-clause-value c =
    let k : c.args.bits - 7 - 1 ≤ 56 = omega arith in
    let most : 2 ^ (c.args.bits - 7 - 1) ≤ 2 ^ 56 = pow_mono k in
    let low = c.requires.high.0 in
    let high = c.requires.high.1 in
    omega (arith, ints)

pub returns-clause-fits : goal.returns-clause-fits
returns-clause-fits c =
    let within : IsWithin c.args.bits (join_signed c.args.first c.args.high) = joined_signed c.args.first c.args.bits c.args.high c.requires.first (omega arith) c.requires.high c.requires.bits in
    rw (returns-clause-value c) within
