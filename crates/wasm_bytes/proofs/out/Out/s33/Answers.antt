use Rattle.std.proofs.Common.{arith}
use Rattle.wasm_bytes.proofs.SignedShortest.{signed_shortest}
use Rattle.wasm_bytes.proofs.out.Out.s33.Goals as goal

pub returns-clause-shortest : goal.returns-clause-shortest
returns-clause-shortest c = signed_shortest 5 33 c.args.value (omega arith) (omega arith) c.requires
