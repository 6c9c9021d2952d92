use Rattle.wasm_bytes.proofs.NumberRanges.{unsigned_in, signed_in}
use Rattle.wasm_bytes.proofs.laws.encoded_numbers_are_in_range.Goals as goal

pub returns-clause-unsigned : goal.returns-clause-unsigned
returns-clause-unsigned c = unsigned_in

pub returns-clause-signed : goal.returns-clause-signed
returns-clause-signed c = signed_in
