-- The first faults of small files, computed: a file for each kind of fault and for each limit, and
-- files with several faults.
use Rattle.std.proofs.Common.{◌≡◌, refl, ℕ, zero, suc, List, [], ◌∷◌, ◌++◌, map, length, true, false, Option, Some, None}
use Rattle.wasm_tree.specs.declared.which.Which.TheVariants.{Types, Imports, Functions, Tables, Memories, Globals, Exports, ElementSegments, DataSegments, Nesting, Locals, Parameters, Results}
use Rattle.wasm_bytes.specs.Frames.{header, frame_at, frames_at}
use Rattle.wasm_bytes.specs.Reading.{unsigned_at, signed_at, name_at as text_at}
use Rattle.std.specs.Prelude.{Err}
use Rattle.wasm_read_spec.specs.declared.fault.Fault.TheVariants as fault
use Rattle.wasm_read_spec.specs.declared.fault.ReadFault.{ReadFault}
use Rattle.wasm_read_spec.specs.declared.fault.ReadFault.TheVariants.{Malformed, MalformedBody, Unsupported, Limit}
use Rattle.wasm_read_spec.specs.Values.{val_of_code, ref_of_code, mut_of_code}
use Rattle.wasm_read_spec.specs.Tokens.{rest_form, sub_form, the_form}
use Rattle.wasm_read_spec.specs.Operations.{un_of, bin_of, load_of, store_of}
use Rattle.wasm_read_spec.specs.Reading.{each_from, func_type_at, list_at, local_at, locals_at, tag_at, val_at, ref_at, mut_at, limits_at, table_at, global_at, const_at, import_at, import_desc_at, global_def_at, elem_at, data_at, block_type_at, vector_at, whole_at}
use Rattle.wasm_read_spec.specs.BodyReading.{arg_at, memory_at, block_at, body_at, code_at, prefixed_at, sequence_at, simple_of, token_at}
use Rattle.wasm_read_spec.specs.Contents.{agrees, codes_at, contents_at, entry_at, framed_at, parts_at, read_at, read_fault, section_at}

-- A type section with one type of no parameters and no results; the function section after it has
-- one function of this type.
abbrev pub types : List ℕ
types = 0x01 ∷ 0x04 ∷ 0x01 ∷ 0x60 ∷ 0x00 ∷ 0x00 ∷ []

abbrev pub functions : List ℕ
functions = 0x03 ∷ 0x02 ∷ 0x01 ∷ 0x00 ∷ []

abbrev pub section : ℕ → List ℕ → List ℕ
section id content = id ∷ length content ∷ content

-- A file whose only function has a code entry with this content.
abbrev of_entry : List ℕ → List ℕ
of_entry content = header ++ types ++ functions ++ section 0x0A (0x01 ∷ length content ∷ content)

-- A file whose only function has no locals and these bytes after them.
abbrev of_body : List ℕ → List ℕ
of_body body = of_entry (0x00 ∷ body)

abbrev faults : List (List ℕ) → List (Option ReadFault)
faults = map (λ bytes. read_fault bytes false)

-- ---- each limit: a count of one more than the limit, and nothing after it

abbrev over_a_count : List (List ℕ)
over_a_count =
    (header ++ section 1 (0xC1 ∷ 0x84 ∷ 0x3D ∷ []))
    ∷ (header ++ section 2 (0xC1 ∷ 0x84 ∷ 0x3D ∷ []))
    ∷ (header ++ section 3 (0xC1 ∷ 0x84 ∷ 0x3D ∷ []))
    ∷ (header ++ section 4 (0x91 ∷ 0x4E ∷ []))
    ∷ (header ++ section 5 (0x91 ∷ 0x4E ∷ []))
    ∷ (header ++ section 6 (0xC1 ∷ 0x84 ∷ 0x3D ∷ []))
    ∷ (header ++ section 7 (0xC1 ∷ 0x84 ∷ 0x3D ∷ []))
    ∷ (header ++ section 9 (0xE1 ∷ 0xA7 ∷ 0x12 ∷ []))
    ∷ (header ++ section 10 (0xC1 ∷ 0x84 ∷ 0x3D ∷ []))
    ∷ (header ++ section 11 (0xE1 ∷ 0xA7 ∷ 0x12 ∷ []))
    ∷ (header ++ section 1 (0x01 ∷ 0x60 ∷ 0xE9 ∷ 0x07 ∷ []))
    ∷ (header ++ section 1 (0x01 ∷ 0x60 ∷ 0x00 ∷ 0xE9 ∷ 0x07 ∷ []))
    ∷ []

each_count_has_its_limit : faults over_a_count ≡ Some (Limit Types) ∷ Some (Limit Imports) ∷ Some (Limit Functions) ∷ Some (Limit Tables) ∷ Some (Limit Memories) ∷ Some (Limit Globals) ∷ Some (Limit Exports) ∷ Some (Limit ElementSegments) ∷ Some (Limit Functions)
    ∷ Some (Limit DataSegments) ∷ Some (Limit Parameters) ∷ Some (Limit Results) ∷ []
unfolding read_at parts_at framed_at frames_at frame_at contents_at section_at agrees whole_at vector_at list_at each_from func_type_at val_at tag_at unsigned_at codes_at
each_count_has_its_limit = refl

-- A count that is equal to its limit is no fault of the limit: the files are malformed as the items
-- are missing.
abbrev at_a_count : List (List ℕ)
at_a_count =
    (header ++ section 1 (0xC0 ∷ 0x84 ∷ 0x3D ∷ []))
    ∷ (header ++ section 4 (0x90 ∷ 0x4E ∷ []))
    ∷ (header ++ section 9 (0xE0 ∷ 0xA7 ∷ 0x12 ∷ []))
    ∷ (header ++ section 10 (0xC0 ∷ 0x84 ∷ 0x3D ∷ []))
    ∷ (header ++ section 1 (0x01 ∷ 0x60 ∷ 0xE8 ∷ 0x07 ∷ []))
    ∷ []

a_limit_may_be_reached : faults at_a_count ≡ Some (Malformed 0) ∷ Some (Malformed 0) ∷ Some (Malformed 0) ∷ Some (Malformed 0) ∷ Some (Malformed 0) ∷ []
unfolding read_at parts_at framed_at frames_at frame_at contents_at section_at agrees whole_at vector_at list_at each_from func_type_at val_at tag_at unsigned_at codes_at entry_at table_at ref_at elem_at
a_limit_may_be_reached = refl

-- 50,000 locals are within the limit; 50,001 in two groups are not, even if the type of the second
-- group is not supported.
locals_enough : read_fault (of_entry (0x01 ∷ 0xD0 ∷ 0x86 ∷ 0x03 ∷ 0x7F ∷ 0xFD ∷ [])) false ≡ Some (Unsupported 2 (Some 0))
unfolding read_at parts_at framed_at frames_at frame_at contents_at section_at agrees whole_at vector_at list_at each_from func_type_at val_at val_of_code tag_at unsigned_at codes_at entry_at code_at
    locals_at local_at body_at sequence_at token_at the_form un_of bin_of load_of store_of rest_form simple_of
locals_enough = refl

too_many_locals : read_fault (of_entry (0x02 ∷ 0x01 ∷ 0x7F ∷ 0xD0 ∷ 0x86 ∷ 0x03 ∷ 0x7D ∷ [])) false ≡ Some (Limit Locals)
unfolding read_at parts_at framed_at frames_at frame_at contents_at section_at agrees whole_at vector_at list_at each_from func_type_at val_at val_of_code tag_at unsigned_at codes_at entry_at code_at locals_at local_at
too_many_locals = refl

-- Blocks that are nested in one another.
abbrev blocks : ℕ → List ℕ → List ℕ
blocks zero rest = rest
blocks (suc n) rest = 0x02 ∷ 0x40 ∷ blocks n rest

-- 1,001 nested blocks are over the limit, and 1,000 are not; a malformed type of block 1,001 comes
-- before the limit.
a_block_too_many : code_at false (0x00 ∷ blocks 1001 []) ≡ Err (fault.Limit Nesting)
unfolding each_from code_at locals_at local_at body_at sequence_at block_at block_type_at token_at the_form un_of bin_of load_of store_of rest_form simple_of val_at unsigned_at
a_block_too_many = refl

blocks_enough : code_at false (0x00 ∷ blocks 1000 []) ≡ Err fault.Malformed
unfolding each_from code_at locals_at local_at body_at sequence_at block_at block_type_at token_at the_form un_of bin_of load_of store_of rest_form simple_of val_at unsigned_at
blocks_enough = refl

-- A file with 1,001 nested blocks in a body.
blocks_in_a_file : read_fault (header ++ types ++ functions ++ 0x0A ∷ 0xD6 ∷ 0x0F ∷ 0x01 ∷ 0xD3 ∷ 0x0F ∷ 0x00 ∷ blocks 1001 []) false ≡ Some (Limit Nesting)
unfolding read_at parts_at framed_at frames_at frame_at contents_at section_at agrees whole_at vector_at list_at each_from func_type_at val_at tag_at unsigned_at codes_at entry_at code_at locals_at
    local_at body_at sequence_at block_at block_type_at token_at the_form un_of bin_of load_of store_of rest_form simple_of
blocks_in_a_file = refl

a_misspelled_block_too_many : code_at false (0x00 ∷ blocks 1000 (0x02 ∷ 0xFF ∷ 0x7F ∷ [])) ≡ Err fault.Malformed
unfolding each_from code_at locals_at local_at body_at sequence_at block_at block_type_at token_at the_form un_of bin_of load_of store_of rest_form simple_of val_at unsigned_at signed_at
a_misspelled_block_too_many = refl

-- ---- what is not supported, and what is malformed

-- Float and vector types as types of parameters, tables and globals; constants of these types as
-- initialisers, items and offsets; an opcode that is no constant; an element flag above 7; an empty
-- custom section.
abbrev other_types : List (List ℕ)
other_types =
    (header ++ section 1 (0x01 ∷ 0x60 ∷ 0x01 ∷ 0x7D ∷ []))
    ∷ (header ++ section 1 (0x01 ∷ 0x60 ∷ 0x01 ∷ 0x7B ∷ []))
    ∷ (header ++ section 1 (0x01 ∷ 0x60 ∷ 0x01 ∷ 0x7A ∷ []))
    ∷ (header ++ section 4 (0x01 ∷ 0x7D ∷ 0x00 ∷ 0x00 ∷ []))
    ∷ (header ++ section 6 (0x01 ∷ 0x7C ∷ []))
    ∷ (header ++ section 6 (0x01 ∷ 0x7F ∷ 0x00 ∷ 0x43 ∷ []))
    ∷ (header ++ section 6 (0x01 ∷ 0x7F ∷ 0x00 ∷ 0xFD ∷ []))
    ∷ (header ++ section 6 (0x01 ∷ 0x7F ∷ 0x00 ∷ 0x6A ∷ []))
    ∷ (header ++ section 9 (0x01 ∷ 0x00 ∷ 0x44 ∷ []))
    ∷ (header ++ section 11 (0x01 ∷ 0x02 ∷ 0x00 ∷ 0x43 ∷ []))
    ∷ (header ++ section 9 (0x01 ∷ 0x08 ∷ []))
    ∷ (header ++ section 0 [])
    ∷ []

a_type_or_constant_is_told : faults other_types ≡ Some (Unsupported 0 None) ∷ Some (Unsupported 0 None) ∷ Some (Malformed 0) ∷ Some (Malformed 0) ∷ Some (Unsupported 0 None) ∷ Some (Unsupported 0 None) ∷ Some (Unsupported 0 None) ∷ Some (Malformed 0)
    ∷ Some (Unsupported 0 None) ∷ Some (Unsupported 0 None) ∷ Some (Malformed 0) ∷ Some (Malformed 0) ∷ []
unfolding read_at parts_at framed_at frames_at frame_at contents_at section_at agrees whole_at vector_at list_at each_from func_type_at val_at val_of_code ref_at ref_of_code mut_at mut_of_code table_at limits_at global_at global_def_at const_at elem_at data_at tag_at unsigned_at text_at
a_type_or_constant_is_told = refl

abbrev bodies : List (List ℕ)
bodies =
    -- f32.load, FC 0, FC 7, a padded FC 0 and FD; float and vector types of a block, a typed select
    -- and a local.
    of_body (0x2A ∷ [])
    ∷ of_body (0xFC ∷ 0x00 ∷ [])
    ∷ of_body (0xFC ∷ 0x07 ∷ [])
    ∷ of_body (0xFC ∷ 0x80 ∷ 0x00 ∷ [])
    ∷ of_body (0xFD ∷ [])
    ∷ of_body (0x02 ∷ 0x7D ∷ [])
    ∷ of_body (0x1C ∷ 0x01 ∷ 0x7C ∷ [])
    ∷ of_entry (0x01 ∷ 0x01 ∷ 0x7B ∷ [])
    -- A float type as a reference type, unknown or missing opcodes, and negative block types of two
    -- bytes.
    ∷ of_body (0xD0 ∷ 0x7D ∷ [])
    ∷ of_body (0xFE ∷ [])
    ∷ of_body (0xFC ∷ 0x18 ∷ [])
    ∷ of_body (0xFC ∷ [])
    ∷ of_body (0x02 ∷ 0xFF ∷ 0x7F ∷ [])
    ∷ of_body (0x02 ∷ 0xC0 ∷ 0x7F ∷ [])
    -- A padded memory index, and an alignment of 66 where memories have no indices.
    ∷ of_body (0x3F ∷ 0x80 ∷ 0x00 ∷ 0xFD ∷ [])
    ∷ of_body (0x28 ∷ 0x42 ∷ 0x00 ∷ 0xFD ∷ [])
    -- Bytes after the end of the body, and an `else` outside an `if`.
    ∷ of_body (0x0B ∷ 0xFD ∷ [])
    ∷ of_body (0x05 ∷ 0xFD ∷ [])
    ∷ of_body (0x02 ∷ 0x40 ∷ 0x05 ∷ 0xFD ∷ [])
    -- An unsupported opcode inside a loop, in an `if` and after its `else`; and one after an `else`
    -- or the end of the body.
    ∷ of_body (0x01 ∷ 0x03 ∷ 0x40 ∷ 0x01 ∷ 0xFD ∷ [])
    ∷ of_body (0x04 ∷ 0x40 ∷ 0xFD ∷ [])
    ∷ of_body (0x04 ∷ 0x40 ∷ 0x01 ∷ 0x05 ∷ 0xFD ∷ [])
    ∷ of_body (0x04 ∷ 0x40 ∷ 0x0B ∷ 0x0B ∷ 0xFD ∷ [])
    -- A padded type index and a padded number after FC are allowed: the fault is the unsupported
    -- opcode after them.
    ∷ of_body (0x02 ∷ 0x80 ∷ 0x80 ∷ 0x80 ∷ 0x80 ∷ 0x00 ∷ 0xFD ∷ [])
    ∷ of_body (0xFC ∷ 0x8B ∷ 0x00 ∷ 0x00 ∷ 0xFD ∷ [])
    ∷ []

a_token_is_told : faults bodies ≡ Some (Unsupported 2 (Some 0)) ∷ Some (Unsupported 2 (Some 0)) ∷ Some (Unsupported 2 (Some 0)) ∷ Some (Unsupported 2 (Some 0)) ∷ Some (Unsupported 2 (Some 0)) ∷ Some (Unsupported 2 (Some 0)) ∷ Some (Unsupported 2 (Some 0)) ∷ Some (Unsupported 2 (Some 0))
    ∷ Some (MalformedBody 0) ∷ Some (MalformedBody 0) ∷ Some (MalformedBody 0) ∷ Some (MalformedBody 0) ∷ Some (MalformedBody 0)
    ∷ Some (MalformedBody 0) ∷ Some (MalformedBody 0) ∷ Some (Unsupported 2 (Some 0))
    ∷ Some (MalformedBody 0) ∷ Some (MalformedBody 0) ∷ Some (MalformedBody 0)
    ∷ Some (Unsupported 2 (Some 0)) ∷ Some (Unsupported 2 (Some 0)) ∷ Some (Unsupported 2 (Some 0)) ∷ Some (MalformedBody 0)
    ∷ Some (Unsupported 2 (Some 0)) ∷ Some (Unsupported 2 (Some 0)) ∷ []
unfolding read_at parts_at framed_at frames_at frame_at contents_at section_at agrees whole_at vector_at list_at each_from func_type_at val_at val_of_code ref_at ref_of_code tag_at unsigned_at
    signed_at codes_at entry_at code_at locals_at local_at body_at sequence_at block_at block_type_at token_at prefixed_at memory_at arg_at the_form un_of bin_of load_of store_of rest_form sub_form
    simple_of
a_token_is_told = refl

-- Where memories have indices, a memory index follows an alignment of 64 to 127, and 128 is no
-- alignment.
a_memory_is_named : map (λ bytes. read_fault bytes true) (of_body (0x28 ∷ 0x42 ∷ 0x00 ∷ 0x00 ∷ 0xFD ∷ []) ∷ of_body (0x28 ∷ 0xC2 ∷ 0x00 ∷ 0x00 ∷ 0x00 ∷ 0xFD ∷ []) ∷ of_body (0x28 ∷ 0x80 ∷ 0x01 ∷ 0x00 ∷ 0x00 ∷ 0xFD ∷ []) ∷ [])
    ≡ Some (Unsupported 2 (Some 0)) ∷ Some (Unsupported 2 (Some 0)) ∷ Some (MalformedBody 0) ∷ []
unfolding read_at parts_at framed_at frames_at frame_at contents_at section_at agrees whole_at vector_at list_at each_from func_type_at val_at val_of_code tag_at unsigned_at codes_at entry_at code_at
    locals_at local_at body_at sequence_at token_at memory_at arg_at the_form un_of bin_of load_of store_of rest_form simple_of
a_memory_is_named = refl

-- ---- files with several faults

abbrev several : List (List ℕ)
several =
    -- A malformed frame comes before a limit in an earlier section, and a limit before missing
    -- items in a later section.
    (header ++ section 1 (0xC1 ∷ 0x84 ∷ 0x3D ∷ []) ++ 0x0D ∷ [])
    ∷ (header ++ section 1 (0xC1 ∷ 0x84 ∷ 0x3D ∷ []) ++ section 3 (0x01 ∷ []))
    -- A body comes before the size of the next entry, the size of the first entry before its body,
    -- and a body before a rule on the whole file.
    ∷ (header ++ types ++ section 3 (0x02 ∷ 0x00 ∷ 0x00 ∷ []) ++ section 10 (0x02 ∷ 0x02 ∷ 0x00 ∷ 0xFE ∷ 0x7F ∷ []))
    ∷ (header ++ types ++ section 3 (0x02 ∷ 0x00 ∷ 0x00 ∷ []) ++ section 10 (0x02 ∷ 0x7F ∷ 0x00 ∷ 0xFE ∷ []))
    ∷ (header ++ types ++ section 10 (0x01 ∷ 0x02 ∷ 0x00 ∷ 0xFE ∷ []))
    -- A malformed size after a body, a malformed second body, and bytes that are left over after
    -- the bodies.
    ∷ (header ++ types ++ section 3 (0x02 ∷ 0x00 ∷ 0x00 ∷ []) ++ section 10 (0x02 ∷ 0x02 ∷ 0x00 ∷ 0x0B ∷ 0x7F ∷ []))
    ∷ (header ++ types ++ section 3 (0x02 ∷ 0x00 ∷ 0x00 ∷ []) ++ section 10 (0x02 ∷ 0x02 ∷ 0x00 ∷ 0x0B ∷ 0x02 ∷ 0x00 ∷ 0xFE ∷ []))
    ∷ (header ++ types ++ functions ++ section 10 (0x01 ∷ 0x02 ∷ 0x00 ∷ 0x0B ∷ 0x00 ∷ []))
    -- Custom sections count in the number of a malformed section; an initialiser has two constants.
    ∷ (header ++ section 0 (0x00 ∷ []) ++ section 0 (0x00 ∷ []) ++ 0x0D ∷ [])
    ∷ (header ++ section 6 (0x01 ∷ 0x7F ∷ 0x00 ∷ 0x41 ∷ 0x00 ∷ 0x41 ∷ 0x00 ∷ 0x0B ∷ []))
    -- The number of bodies and the data count break a rule on the whole file.
    ∷ (header ++ types ++ functions)
    ∷ (header ++ section 12 (0x01 ∷ []))
    ∷ []

the_first_is_told : faults several ≡ Some (Malformed 1) ∷ Some (Limit Types) ∷ Some (MalformedBody 0) ∷ Some (Malformed 2) ∷ Some (MalformedBody 0)
    ∷ Some (Malformed 2) ∷ Some (MalformedBody 1) ∷ Some (Malformed 2)
    ∷ Some (Malformed 2) ∷ Some (Malformed 0)
    ∷ Some (Malformed 2) ∷ Some (Malformed 1) ∷ []
unfolding read_at parts_at framed_at frames_at frame_at contents_at section_at agrees whole_at vector_at list_at each_from func_type_at val_at val_of_code mut_at mut_of_code tag_at unsigned_at
    signed_at text_at codes_at entry_at code_at locals_at local_at body_at sequence_at token_at prefixed_at the_form un_of bin_of load_of store_of rest_form sub_form simple_of import_at import_desc_at
    global_at global_def_at const_at
the_first_is_told = refl
