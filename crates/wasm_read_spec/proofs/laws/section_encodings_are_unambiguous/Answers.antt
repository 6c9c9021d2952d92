use Rattle.wasm_read_spec.proofs.SectionLaws.{items_prefix_free}
use Rattle.wasm_read_spec.proofs.FileLaws.{one_framing}
use Rattle.wasm_read_spec.proofs.laws.section_encodings_are_unambiguous.Goals as goal

pub returns : goal.returns
returns c = record { items = items_prefix_free; frames = one_framing c.frames_are_read.ensures }
