use Rattle.std.proofs.Common.{arith}
use Rattle.wasm_bytes.proofs.Shortest.{u32_shortest}
use Rattle.wasm_bytes.proofs.SignedShortest.{signed_shortest}
use Rattle.wasm_bytes.proofs.laws.shortest_encodings.Goals as goal

pub returns-clause-unsigned : goal.returns-clause-unsigned
returns-clause-unsigned c = u32_shortest

pub returns-clause-s32 : goal.returns-clause-s32
returns-clause-s32 c z within = signed_shortest 5 32 z (omega arith) (omega arith) within

pub returns-clause-s33 : goal.returns-clause-s33
returns-clause-s33 c z within = signed_shortest 5 33 z (omega arith) (omega arith) within

pub returns-clause-s64 : goal.returns-clause-s64
returns-clause-s64 c z within = signed_shortest 10 64 z (omega arith) (omega arith) within
