-- The canonical encoding of a module, from its parts.
use Rattle.base_lists.proofs.Common.{◌≡◌, ◌++◌, refl}
use Rattle.wasm_tree_spec.specs.Prelude.{Module}
use Rattle.wasm_write_spec.specs.PlainValues.{data_text}
use Rattle.wasm_write_spec.specs.PlainCode.{entry_text}
use Rattle.wasm_write_spec.specs.Plain.{list_section, count_section, plain}
use Rattle.wasm_write.specs.Parts.{text_up_to_globals, text_before_code}

pub plain_parts : (m : Module) → plain m ≡ text_before_code m ++ count_section m ++ list_section 10 entry_text m.funcs ++ list_section 11 data_text m.datas
unfolding plain text_up_to_globals text_before_code
plain_parts m = refl
