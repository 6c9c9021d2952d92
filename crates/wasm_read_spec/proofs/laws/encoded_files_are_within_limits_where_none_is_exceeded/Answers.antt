use Rattle.wasm_read_spec.proofs.WithinLaws.{within_where_nothing_is_over}
use Rattle.wasm_read_spec.proofs.laws.encoded_files_are_within_limits_where_none_is_exceeded.Goals as goal

pub returns : goal.returns
returns c = λ bytes many m small h. within_where_nothing_is_over c.frames_are_read.ensures bytes many m small h
