use Rattle.base_lists.proofs.Common.{◌≤◌, ◌^◌, sym, arith, lt-leb, pow_mono}
use Rattle.wasm_valid_bodies.proofs.memories.is_aligned.Goals as goal

pub returns-in_default : goal.returns-in_default
returns-in_default c =
    let four : 4 ≤ c.args.align = omega arith in
    let large = pow_mono four in sym (lt-leb (2 ^ c.args.align) c.args.width (omega arith))
