-- Small files, computed: the tree that they encode, or their first fault. The rows show that the
-- conditions of the laws can be met and that each kind of fault occurs, also in a file that encodes
-- a tree over a limit.
use Rattle.base_lists.proofs.Common.{◌≡◌, refl, ℕ, List, [], ◌∷◌, ◌++◌, false, Some, None, Ok}
use Rattle.wasm_tree_spec.specs.Prelude.{FuncType, Module, Locals}
use Rattle.wasm_tree.specs.declared.which.Which.TheVariants.{Types}
use Rattle.wasm_bytes.specs.Prelude.{header}
use Rattle.wasm_bytes.specs.Frames.{frame_at, frames_at}
use Rattle.wasm_bytes.specs.Reading.{unsigned_at}
use Rattle.wasm_read_spec.specs.declared.fault.ReadFault.TheVariants.{NotModule, Malformed, MalformedBody, Unsupported, Limit}
use Rattle.wasm_read_spec.specs.Values.{val_of_code}
use Rattle.wasm_read_spec.specs.Tokens.{rest_form, the_form}
use Rattle.wasm_read_spec.specs.Operations.{un_of, bin_of, load_of, store_of}
use Rattle.wasm_read_spec.specs.Prelude.{nothing, tree_of, read_fault}
use Rattle.wasm_read_spec.specs.Reading.{each_from, func_type_at, list_at, local_at, locals_at, tag_at, val_at, vector_at, whole_at}
use Rattle.wasm_read_spec.specs.BodyReading.{body_at, code_at, sequence_at, simple_of, token_at}
use Rattle.wasm_read_spec.specs.Contents.{agrees, codes_at, contents_at, entry_at, framed_at, parts_at, read_at, section_at}

-- A type of no parameters and no results, and a function of this type.
abbrev a_type : FuncType
a_type = record { params = []; results = [] }

abbrev of_type : Module
of_type = record (tree_of nothing) { types = a_type ∷ [] }

abbrev of_function : Module
of_function = record of_type { funcs = record { ty = 0; locals = []; body = [] } ∷ [] }

-- The type section, and the function section after it.
abbrev types : List ℕ
types = 0x01 ∷ 0x04 ∷ 0x01 ∷ 0x60 ∷ 0x00 ∷ 0x00 ∷ []

abbrev functions : List ℕ
functions = 0x03 ∷ 0x02 ∷ 0x01 ∷ 0x00 ∷ []

-- ---- encoded ----

the_header_alone : read_at false header ≡ Ok (tree_of nothing)
unfolding read_at parts_at framed_at frames_at contents_at agrees
the_header_alone = refl

a_type_is_spelled : read_at false (header ++ types) ≡ Ok of_type
unfolding read_at parts_at framed_at frames_at frame_at contents_at section_at agrees whole_at vector_at list_at each_from func_type_at val_at tag_at unsigned_at
a_type_is_spelled = refl

-- A size that is padded to two bytes is another encoding of the same tree.
with_a_padded_size_too : read_at false (header ++ 0x01 ∷ 0x84 ∷ 0x00 ∷ 0x01 ∷ 0x60 ∷ 0x00 ∷ 0x00 ∷ []) ≡ Ok of_type
unfolding read_at parts_at framed_at frames_at frame_at contents_at section_at agrees whole_at vector_at list_at each_from func_type_at val_at tag_at unsigned_at
with_a_padded_size_too = refl

a_function_is_spelled : read_at false (header ++ types ++ functions ++ 0x0A ∷ 0x04 ∷ 0x01 ∷ 0x02 ∷ 0x00 ∷ 0x0B ∷ []) ≡ Ok of_function
unfolding read_at parts_at framed_at frames_at frame_at contents_at section_at agrees whole_at vector_at list_at each_from func_type_at val_at tag_at unsigned_at codes_at entry_at code_at locals_at local_at body_at sequence_at token_at the_form un_of bin_of load_of store_of rest_form simple_of
a_function_is_spelled = refl

-- ---- faults ----

another_version : read_fault (0x00 ∷ 0x61 ∷ 0x73 ∷ 0x6D ∷ 0x02 ∷ 0x00 ∷ 0x00 ∷ 0x00 ∷ []) false ≡ Some NotModule
unfolding read_at parts_at framed_at
another_version = refl

no_such_section : read_fault (header ++ 0x0D ∷ 0x00 ∷ []) false ≡ Some (Malformed 0)
unfolding read_at parts_at framed_at frames_at frame_at unsigned_at
no_such_section = refl

sections_out_of_order : read_fault (header ++ functions ++ types) false ≡ Some (Malformed 1)
unfolding read_at parts_at framed_at frames_at frame_at unsigned_at
sections_out_of_order = refl

a_byte_after_the_entries : read_fault (header ++ 0x01 ∷ 0x05 ∷ 0x01 ∷ 0x60 ∷ 0x00 ∷ 0x00 ∷ 0x00 ∷ []) false ≡ Some (Malformed 0)
unfolding read_at parts_at framed_at frames_at frame_at contents_at section_at whole_at vector_at list_at each_from func_type_at val_at tag_at unsigned_at
a_byte_after_the_entries = refl

-- All sections are encoded; the number of sections in the fault says that a rule on the whole file
-- is broken.
a_function_without_a_body : read_fault (header ++ types ++ functions) false ≡ Some (Malformed 2)
unfolding read_at parts_at framed_at frames_at frame_at contents_at section_at agrees whole_at vector_at list_at each_from func_type_at val_at tag_at unsigned_at
a_function_without_a_body = refl

a_body_without_an_end : read_fault (header ++ types ++ functions ++ 0x0A ∷ 0x03 ∷ 0x01 ∷ 0x01 ∷ 0x00 ∷ []) false ≡ Some (MalformedBody 0)
unfolding read_at parts_at framed_at frames_at frame_at contents_at section_at whole_at vector_at list_at each_from func_type_at val_at tag_at unsigned_at codes_at entry_at code_at locals_at local_at body_at sequence_at token_at
a_body_without_an_end = refl

-- A parameter has type f32.
a_float_type : read_fault (header ++ 0x01 ∷ 0x05 ∷ 0x01 ∷ 0x60 ∷ 0x01 ∷ 0x7D ∷ 0x00 ∷ []) false ≡ Some (Unsupported 0 None)
unfolding read_at parts_at framed_at frames_at frame_at contents_at section_at whole_at vector_at list_at each_from func_type_at val_at val_of_code tag_at unsigned_at
a_float_type = refl

-- A body has f32.const 0.
a_float_constant : read_fault (header ++ types ++ functions ++ 0x0A ∷ 0x09 ∷ 0x01 ∷ 0x07 ∷ 0x00 ∷ 0x43 ∷ 0x00 ∷ 0x00 ∷ 0x00 ∷ 0x00 ∷ 0x0B ∷ []) false ≡ Some (Unsupported 2 (Some 0))
unfolding read_at parts_at framed_at frames_at frame_at contents_at section_at whole_at vector_at list_at each_from func_type_at val_at tag_at unsigned_at codes_at entry_at code_at locals_at local_at body_at sequence_at token_at the_form un_of bin_of load_of store_of rest_form simple_of
a_float_constant = refl

-- A count of 1,000,001 types is over the limit; none of the types is there.
too_many_types : read_fault (header ++ 0x01 ∷ 0x03 ∷ 0xC1 ∷ 0x84 ∷ 0x3D ∷ []) false ≡ Some (Limit Types)
unfolding read_at parts_at framed_at frames_at frame_at contents_at section_at whole_at vector_at unsigned_at
too_many_types = refl

-- A function has 50,001 locals of type i32: the file encodes a tree, which is over a limit.
too_many_locals : read_fault (header ++ types ++ functions ++ 0x0A ∷ 0x08 ∷ 0x01 ∷ 0x06 ∷ 0x01 ∷ 0xD1 ∷ 0x86 ∷ 0x03 ∷ 0x7F ∷ 0x0B ∷ []) false ≡ Some (Limit Locals)
unfolding read_at parts_at framed_at frames_at frame_at contents_at section_at whole_at vector_at list_at each_from func_type_at val_at tag_at unsigned_at codes_at entry_at code_at locals_at local_at
too_many_locals = refl
