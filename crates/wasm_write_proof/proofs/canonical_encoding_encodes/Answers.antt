use Rattle.wasm_write_proof.proofs.Parts.{TextLaws}
use Rattle.wasm_write_proof.proofs.FileTexts.{plain_spelled, plain_within}
use Rattle.wasm_write_proof.proofs.canonical_encoding_encodes.Goals as goal

pub returns : goal.returns
returns c =
    let sections = c.section_encodings_are_unambiguous.ensures in
    let numbers = c.shortest_encodings.ensures in
    let laws : TextLaws = record { u32 = numbers.unsigned; s32 = numbers.s32; s33 = numbers.s33; s64 = numbers.s64; inside = c.operands_pass_layer_by_layer.ensures.inside } in
    record { spells = plain_spelled laws sections.items; within = plain_within laws sections.items sections.frames }
