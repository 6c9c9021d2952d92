-- The first faults of small files with names, or with a body that names a data segment, computed.
use Rattle.std.proofs.Common.{◌≡◌, refl, Bool, ℕ, List, [], ◌∷◌, ◌++◌, map, false, Some, None}
use Rattle.std.specs.Char.{encode_utf8}
use Rattle.std.specs.Str.{chars, is_utf8}
use Rattle.wasm_bytes.specs.Frames.{header, frame_at, frames_at}
use Rattle.wasm_bytes.specs.Reading.{unsigned_at, name_at as text_at}
use Rattle.wasm_read_spec.specs.declared.fault.ReadFault.TheVariants.{Malformed, MalformedBody, Unsupported}
use Rattle.wasm_read_spec.specs.Values.{val_of_code, mut_of_code}
use Rattle.wasm_read_spec.specs.Tokens.{rest_form, sub_form, the_form}
use Rattle.wasm_read_spec.specs.Operations.{un_of, bin_of, load_of, store_of}
use Rattle.wasm_read_spec.specs.Reading.{each_from, func_type_at, list_at, local_at, locals_at, tag_at, val_at, mut_at, global_at, import_at, import_desc_at, vector_at, whole_at}
use Rattle.wasm_read_spec.specs.BodyReading.{body_at, code_at, prefixed_at, sequence_at, simple_of, token_at}
use Rattle.wasm_read_spec.specs.Contents.{agrees, codes_at, contents_at, entry_at, framed_at, parts_at, read_at, read_fault, section_at}
use Rattle.wasm_tree.specs.declared.instr.Instr.{out-Instr, fold_out-Instr}
use Rattle.wasm_tree.specs.Operands.{any_pass_step}
use Rattle.wasm_tree.specs.DataUse.{names_data}
use Rattle.wasm_read_spec.proofs.FaultRows.{types, functions, section}

-- The import of a function `b` of type 0 from a module `a`.
abbrev an_import : List ℕ
an_import = 0x02 ∷ 0x07 ∷ 0x01 ∷ 0x01 ∷ 0x61 ∷ 0x01 ∷ 0x62 ∷ 0x00 ∷ 0x00 ∷ []

abbrev named : List (List ℕ)
named =
    -- Imported functions count in the index of a function, and custom sections in the number of
    -- sections, also if a rule on the whole file is broken.
    (header ++ types ++ an_import ++ functions ++ section 10 (0x01 ∷ 0x02 ∷ 0x00 ∷ 0xFE ∷ []))
    ∷ (header ++ section 0 (0x01 ∷ 0x61 ∷ []) ++ types ++ functions)
    -- An imported global of a type that is not supported, and a name that is not UTF-8.
    ∷ (header ++ section 2 (0x01 ∷ 0x00 ∷ 0x00 ∷ 0x03 ∷ 0x7D ∷ []))
    ∷ (header ++ section 2 (0x01 ∷ 0x01 ∷ 0x80 ∷ 0x00 ∷ 0x03 ∷ 0x7D ∷ []))
    ∷ []

names_are_passed : map (λ bytes. read_fault bytes false) named ≡ Some (MalformedBody 1) ∷ Some (Malformed 3) ∷ Some (Unsupported 0 None) ∷ Some (Malformed 0) ∷ []
unfolding is_utf8 chars encode_utf8 text_at import_at import_desc_at global_at mut_at mut_of_code read_at parts_at framed_at frames_at frame_at contents_at section_at agrees whole_at vector_at list_at
    each_from func_type_at val_at val_of_code tag_at unsigned_at codes_at entry_at code_at locals_at local_at body_at sequence_at token_at the_form un_of bin_of load_of store_of rest_form simple_of
names_are_passed = refl

-- A body that drops data segment 0 in a file without a data count is a fault.
a_drop_needs_a_count : read_fault (header ++ types ++ functions ++ section 10 (0x01 ∷ 0x05 ∷ 0x00 ∷ 0xFC ∷ 0x09 ∷ 0x00 ∷ 0x0B ∷ [])) false ≡ Some (Malformed 3)
unfolding out-Instr denote.Hole.Carrier.out read_at parts_at framed_at frames_at frame_at contents_at section_at agrees whole_at vector_at list_at each_from func_type_at val_at val_of_code tag_at
    unsigned_at codes_at entry_at code_at locals_at local_at body_at sequence_at token_at prefixed_at the_form un_of bin_of load_of store_of rest_form sub_form simple_of
a_drop_needs_a_count = simp (fold_out-Instr Bool (any_pass_step names_data)) refl
