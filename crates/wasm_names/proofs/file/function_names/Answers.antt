use Rattle.wasm_names.proofs.NameLists.{only_list}
use Rattle.wasm_names.proofs.file.function_names.Goals as goal

pub returns-clause-only : goal.returns-clause-only
returns-clause-only c = λ ns are. only_list c.args.bytes.now ns c.read_name_list.result c.read_name_list.ensures.list ((c.name_lists_are_those_of_the_first_name_section.ensures c.args.bytes.now ns c.read_name_list.ensures.bytes).0 are)
