-- The names of reading, passed on from one place. This file declares nothing.
pub use Rattle.wasm_read_spec.specs.Bodies.{CodeEntry, HasSmallCode, Nests, SmallCode, SpellsBody, SpellsCode, SpellsEntry, SpellsGroup, code_in, code_read, codes_read, depth_of, no_more, one_block}
pub use Rattle.wasm_read_spec.specs.Bodies.{one_if, one_if_else, one_loop, one_plain}
pub use Rattle.wasm_read_spec.specs.BodyReading.{ReadResult, after_token, arg_at, behind, block_at, body_at, code_at, code_of, enclosed, memory_at, prefixed_at, sequence_at, simple_of, token_at}
pub use Rattle.wasm_read_spec.specs.BodyReading.{token_of, whole}
pub use Rattle.wasm_read_spec.specs.Causes.{Cause, EntryOf}
pub use Rattle.wasm_read_spec.specs.Contents.{agrees, codes_at, contents_at, custom_at, entry_at, framed_at, in_place, next_func, parts_at, placed, put_at, read_at, read_fault, section_at}
pub use Rattle.wasm_read_spec.specs.Files.{SectionContents, SectionIsSmall, Spells, SpellsCustom, Within, nothing, section_form, small_form, tree_of, typed, untyped, with_codes, with_count}
pub use Rattle.wasm_read_spec.specs.Files.{with_datas, with_elems, with_exports, with_func_types, with_globals, with_imports, with_mems, with_start, with_tables, with_types}
pub use Rattle.wasm_read_spec.specs.Operations.{bin_of, load_of, store_of, un_of}
pub use Rattle.wasm_read_spec.specs.Reading.{Fails, Reader, block_type_at, byte_at, chosen_at, const_at, data_at, each_at, each_from, elem_at, fault_at, func_type_at, func_type_of, global_at}
pub use Rattle.wasm_read_spec.specs.Reading.{global_def_at, import_at, import_desc_at, limits_at, list_at, local_at, locals_at, mapped_at, mut_at, name_at, or_malformed, pair_at, ref_at, sized_at}
pub use Rattle.wasm_read_spec.specs.Reading.{table_at, tag_at, tagged_at, u32_at, val_at, vector_at, when_at, whole_at, with_front, with_group}
pub use Rattle.wasm_read_spec.specs.Sections.{ConstItems, FuncItems, SpellsData, SpellsElem, SpellsExport, SpellsGlobalDef, SpellsImport, data0, data1, data2, data_form, elem0, elem1, elem2, elem3}
pub use Rattle.wasm_read_spec.specs.Sections.{elem5, elem6, elem7, elem_form, export_form, import_form}
pub use Rattle.wasm_read_spec.specs.SpellingForms.{After, Any, Both, Byte, Few, Limited, MadeFrom, Never, When, WhenSmall}
pub use Rattle.wasm_read_spec.specs.Stops.{NoStop, NotSupported, Over, Stop}
pub use Rattle.wasm_read_spec.specs.Tokens.{FollowsOpcode, Form, Simple, SpellsMemArg, SpellsMemory, SpellsToken, access, arg_form, const32, const64, else', end', memories, memory, null, number}
pub use Rattle.wasm_read_spec.specs.Tokens.{numbers, open', plain, prefixed, rest_form, sub_form, table, the_form, unknown, unsupported, with_memory}
pub use Rattle.wasm_read_spec.specs.Values.{SmallFuncType, SpellsBlockType, SpellsConst, SpellsFuncType, SpellsGlobal, SpellsLimits, SpellsRef, SpellsTable, SpellsVal, at_least, between, const_form}
pub use Rattle.wasm_read_spec.specs.Values.{limits_form, mut_of_code, ref_of_code, val_of_code}
