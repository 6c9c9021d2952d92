-- Reading function names from the left, and the name list of a file as a function of its bytes.
use Rattle.std.specs.Prelude.{◌≡◌, ◌==◌, ℕ, zero, suc, ◌+◌, List, [], ◌∷◌, length, Option, Some, None, Result, Ok, Err, nat_lt, is_some, unwrap_or, option_and_then, if◌then◌else◌}
use Rattle.std.specs.Result.{result_ok}
use Rattle.std.specs.Str.{bytes_eq}
use Rattle.std.specs.Borrow.{Bor}
use Rattle.std.specs.Option.{option_or}
use Rattle.wasm_bytes.specs.Prelude.{◌>>=◌, Section}
use Rattle.wasm_read_spec.specs.declared.fault.Fault.{Fault}
use Rattle.wasm_read_spec.specs.declared.fault.Fault.TheVariants.{Malformed}
use Rattle.wasm_read_spec.specs.Prelude.{Reader, Fails, u32_at, name_at, sized_at, each_from, whole_at, framed_at}
use Rattle.wasm_names.specs.declared.func_name.FuncName.{FuncName}
use Rattle.wasm_names.specs.NameList.{section_name}

-- ---- a name map

-- an index that is at least `least`, and a name
unfoldable pub func_name_at : ℕ → Reader FuncName
func_name_at least bs = u32_at bs >>= (λ i. if nat_lt i.0 least then Err Malformed else (name_at i.1 >>= (λ n. Ok (record { index = i.0; name = n.0 }, n.1))))

-- the least index that may follow an entry
abbrev pub least_after : ℕ → FuncName → ℕ
least_after least n = n.index + 1

-- a name map: a vector of indices and names, each index greater than the one before
unfoldable pub func_names_at : Reader (List FuncName)
func_names_at bs = u32_at bs >>= (λ n. each_from func_name_at least_after n.0 0 n.1)

-- ---- the subsections

-- what is found after one more subsection; a second one that names functions is malformed
abbrev pub found_after : Option (List ℕ) → Section → Result (Option (List ℕ)) Fault
found_after found s = if s.0 == 1 then (if is_some found then Err Malformed else Ok (Some s.1)) else Ok found

-- the content of the one subsection that names functions, if there is one; `found` is the content
-- that was found before these bytes, and `fuel` has to be at least the number of the bytes
unfoldable pub name_map_at : ℕ → Option (List ℕ) → List ℕ → Result (Option (List ℕ)) Fault
name_map_at fuel found [] = Ok found
name_map_at zero found (b ∷ bs) = Err Malformed
name_map_at (suc fuel) found (b ∷ bs) = sized_at bs >>= (λ s. found_after found (b, s.0) >>= (λ next. name_map_at fuel next s.1))

abbrev pub names_of_map : Option (List ℕ) → Result (List FuncName) Fault
names_of_map None = Ok []
names_of_map (Some content) = whole_at func_names_at content

-- the names in the content of a name section after its name
unfoldable pub names_at : List ℕ → Result (List FuncName) Fault
names_at content = name_map_at (length content) None content >>= names_of_map

-- ---- the name section

abbrev pub behind_name : Result (List ℕ × List ℕ) Fault → Option (List ℕ)
behind_name (Ok n) = if bytes_eq n.0 section_name then Some n.1 else None
behind_name (Err e) = None

-- what follows the name of a custom section named `name`
abbrev pub content_of_names : Section → Option (List ℕ)
content_of_names s = if s.0 == 0 then behind_name (name_at s.1) else None

-- what follows the name of the first custom section named `name`
unfoldable pub first_content : List Section → Option (List ℕ)
first_content [] = None
first_content (s ∷ ss) = option_or (content_of_names s) (first_content ss)

-- the names in the content of a name section after its name, unless that is malformed
abbrev pub names_in : List ℕ → Option (List FuncName)
names_in content = result_ok (names_at content)

-- the names in the first custom section named `name`, if there is one and it is not malformed
unfoldable pub names_found : List ℕ → Option (List FuncName)
names_found bytes = option_and_then names_in (option_and_then first_content (result_ok (framed_at bytes)))

-- the name list of a file; it is empty if no names are found
abbrev pub name_list : List ℕ → List FuncName
name_list bytes = unwrap_or (names_found bytes) []

-- ---- results of functions: what reading gives, unless memory ran out

-- the bytes of a slice, if there is one
abbrev pub lent_option : Option (Bor (List ℕ)) → Option (List ℕ)
lent_option (Some s) = Some s.now
lent_option None = None

abbrev pub GivesMap : Result (Option (Bor (List ℕ))) Fault → Result (Option (List ℕ)) Fault → Type 0
GivesMap (Ok found) read = read ≡ Ok (lent_option found)
GivesMap (Err e) read = Fails e read
