use Rattle.wasm_meaning.proofs.Linked.{ends_are, reads_are}
use Rattle.wasm_meaning.proofs.ends_and_reads_are_paths.Goals as goal

pub returns : goal.returns
returns c = record { ends = ends_are; reads = reads_are }
