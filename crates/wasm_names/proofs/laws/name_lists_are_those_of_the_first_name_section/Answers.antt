use Rattle.wasm_names.proofs.NameLists.{names_law}
use Rattle.wasm_names.proofs.laws.name_lists_are_those_of_the_first_name_section.Goals as goal

pub returns : goal.returns
returns c =
    let frames = c.framing_is_decided.ensures in
    let reading = c.reading_is_exact.ensures in
    names_law (record { framed = frames.framed; contents = frames.contents }) (record { numbers = reading.numbers; names = reading.names; sized = reading.sized })
