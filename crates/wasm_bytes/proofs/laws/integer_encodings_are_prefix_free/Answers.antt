use Rattle.wasm_bytes.specs.Numbers.{last_unsigned, join_unsigned, last_signed, join_signed}
use Rattle.wasm_bytes.proofs.NumberLaws.{ends_itself}
use Rattle.wasm_bytes.proofs.laws.integer_encodings_are_prefix_free.Goals as goal

pub returns-clause-unsigned : goal.returns-clause-unsigned
returns-clause-unsigned c = ends_itself last_unsigned join_unsigned

pub returns-clause-signed : goal.returns-clause-signed
returns-clause-signed c = ends_itself last_signed join_signed
