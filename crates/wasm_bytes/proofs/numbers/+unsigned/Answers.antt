use Rattle.std.proofs.Common.{◌<◌, arith}
use Rattle.wasm_bytes.proofs.Sizes.{joined, joined_fits}
use Rattle.wasm_bytes.proofs.numbers.+unsigned.Goals as goal

pub overflow_mul-result : goal.overflow_mul-result
overflow_mul-result t c =
    let small : c.from-first.result < 256 = omega (arith, c.type_inv.bytes 0) in
    let p = joined_fits c.from-first.result c.in_ok-high.high c.args.bits small c.in_ok-high.ensures.fits (omega arith) c.requires in
    omega arith

pub overflow_add-result : goal.overflow_add-result
overflow_add-result t c =
    let small : c.from-first.result < 256 = omega (arith, c.type_inv.bytes 0) in
    let p = joined_fits c.from-first.result c.in_ok-high.high c.args.bits small c.in_ok-high.ensures.fits (omega arith) c.requires in
    omega arith

pub returns-clause-fits : goal.returns-clause-fits
returns-clause-fits t c =
    let small : c.from-first.result < 256 = omega (arith, c.type_inv.bytes 0) in
    joined c.from-first.result c.in_ok-high.high c.args.bits small c.in_ok-high.ensures.fits (omega arith)
