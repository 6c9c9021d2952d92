-- The names of functions in small files, computed.
use Rattle.std.proofs.Common.{◌≡◌, refl, ℕ, List, [], ◌∷◌, ◌++◌, length}
use Rattle.std.specs.Char.{encode_utf8}
use Rattle.std.specs.Str.{chars, is_utf8}
use Rattle.wasm_bytes.specs.Frames.{header, frame_at, frames_at}
use Rattle.wasm_bytes.specs.Reading.{unsigned_at, name_at as text_at}
use Rattle.wasm_read_spec.specs.Contents.{framed_at}
use Rattle.wasm_read_spec.specs.Reading.{each_from, whole_at}
use Rattle.wasm_names.specs.declared.func_name.FuncName.{FuncName}
use Rattle.wasm_names.specs.Reading.{func_name_at, func_names_at, name_map_at, names_at, first_content, names_found, name_list}

-- A section with this short content.
abbrev section : ℕ → List ℕ → List ℕ
section id content = id ∷ length content ∷ content

-- The name section with these subsections.
abbrev name_section : List ℕ → List ℕ
name_section subsections = section 0 (0x04 ∷ 0x6E ∷ 0x61 ∷ 0x6D ∷ 0x65 ∷ subsections)

abbrev names : ℕ → ℕ → FuncName
names index letter = record { index = index; name = letter ∷ [] }

-- A subsection that names function 1 `g`.
abbrev g_named : List ℕ
g_named = 0x01 ∷ 0x04 ∷ 0x01 ∷ 0x01 ∷ 0x01 ∷ 0x67 ∷ []

-- The subsections of the names of the module and of locals, which are not read: the second is
-- malformed.
abbrev others : List ℕ
others = 0x00 ∷ 0x02 ∷ 0x01 ∷ 0x6D ∷ 0x02 ∷ 0x01 ∷ 0xFF ∷ []

-- A file without a name section has no names, and neither have bytes that are no file.
no_names : name_list (header ++ section 0 (0x01 ∷ 0x61 ∷ [])) ≡ []
unfolding names_found framed_at frames_at frame_at first_content text_at unsigned_at is_utf8 chars encode_utf8
no_names = refl

no_frames : name_list (header ++ name_section g_named ++ 0x0D ∷ []) ≡ []
unfolding names_found framed_at frames_at frame_at first_content text_at unsigned_at is_utf8 chars encode_utf8
no_frames = refl

-- Other subsections are skipped by their size.
named : name_list (header ++ name_section (others ++ g_named ++ others)) ≡ names 1 0x67 ∷ []
unfolding names_found framed_at frames_at frame_at first_content names_at name_map_at whole_at func_names_at func_name_at each_from text_at unsigned_at is_utf8 chars encode_utf8
named = refl

-- Numbers may be padded, and a function that does not exist may have a name.
padded : name_list (header ++ name_section (0x01 ∷ 0x88 ∷ 0x00 ∷ 0x02 ∷ 0x80 ∷ 0x00 ∷ 0x01 ∷ 0x66 ∷ 0x09 ∷ 0x01 ∷ 0x67 ∷ [])) ≡ names 0 0x66 ∷ names 9 0x67 ∷ []
unfolding names_found framed_at frames_at frame_at first_content names_at name_map_at whole_at func_names_at func_name_at each_from text_at unsigned_at is_utf8 chars encode_utf8
padded = refl

-- A repeated index makes the name section malformed.
again : name_list (header ++ name_section (0x01 ∷ 0x07 ∷ 0x02 ∷ 0x01 ∷ 0x01 ∷ 0x66 ∷ 0x01 ∷ 0x01 ∷ 0x67 ∷ [])) ≡ []
unfolding names_found framed_at frames_at frame_at first_content names_at name_map_at whole_at func_names_at func_name_at each_from text_at unsigned_at is_utf8 chars encode_utf8
again = refl

-- A second subsection of function names is malformed, and so are bytes after the names.
twice : name_list (header ++ name_section (g_named ++ g_named)) ≡ []
unfolding names_found framed_at frames_at frame_at first_content names_at name_map_at whole_at func_names_at func_name_at each_from text_at unsigned_at is_utf8 chars encode_utf8
twice = refl

more : name_list (header ++ name_section (0x01 ∷ 0x05 ∷ 0x01 ∷ 0x01 ∷ 0x01 ∷ 0x67 ∷ 0x00 ∷ [])) ≡ []
unfolding names_found framed_at frames_at frame_at first_content names_at name_map_at whole_at func_names_at func_name_at each_from text_at unsigned_at is_utf8 chars encode_utf8
more = refl

-- Only the first section named `name` counts, even if it is malformed.
first : name_list (header ++ section 0 (0x01 ∷ 0x61 ∷ []) ++ name_section g_named ++ name_section (g_named ++ g_named)) ≡ names 1 0x67 ∷ []
unfolding names_found framed_at frames_at frame_at first_content names_at name_map_at whole_at func_names_at func_name_at each_from text_at unsigned_at is_utf8 chars encode_utf8
first = refl

first_malformed : name_list (header ++ name_section (g_named ++ g_named) ++ name_section g_named) ≡ []
unfolding names_found framed_at frames_at frame_at first_content names_at name_map_at whole_at func_names_at func_name_at each_from text_at unsigned_at is_utf8 chars encode_utf8
first_malformed = refl
