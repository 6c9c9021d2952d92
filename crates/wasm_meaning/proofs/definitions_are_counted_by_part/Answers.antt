use Rattle.wasm_meaning.proofs.Counts.{defined_none, defined_next, defined_low}
use Rattle.wasm_meaning.proofs.definitions_are_counted_by_part.Goals as goal

pub returns : goal.returns
returns c = record { none = defined_none; next = defined_next; all = defined_low }
