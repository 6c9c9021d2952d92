use Rattle.std.proofs.Common.{arith}
use Rattle.wasm_bytes.proofs.Shortest.{u32_shortest}
use Rattle.wasm_bytes.proofs.out.Out.u32.Goals as goal

pub returns-clause-shortest : goal.returns-clause-shortest
returns-clause-shortest c = u32_shortest c.args.value (omega arith)
