use Rattle.base_lists.proofs.Common.{arith, ints}
use Rattle.wasm_bytes.proofs.SignedShortest.{signed_shortest}
use Rattle.wasm_bytes.proofs.out.Out.s32.Goals as goal

pub returns-clause-shortest : goal.returns-clause-shortest
returns-clause-shortest c = signed_shortest 5 32 c.args.value (omega arith) (omega arith) (omega (arith, ints), omega (arith, ints))
