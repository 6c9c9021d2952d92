-- Reading functions for the contents of the sections, in the order of the file, and the first fault
-- of the file.
use Rattle.std.specs.Prelude.{◌≡◌, ℕ, ◌+◌, List, [], ◌∷◌, length, take, drop, Bool, true, false, Result, Ok, Err, Option, Some, None, nat_lt, ◌==◌, ◌&&◌, if◌then◌else◌}
use Rattle.base_lists.specs.Every.{Every}
use Rattle.wasm_bytes.specs.Prelude.{◌>>=◌, Section, IsBytes, frames_at, header}
use Rattle.wasm_tree_spec.specs.Prelude.{Imports, Exports, Module, imported_funcs, limit, any_uses_data}
use Rattle.wasm_tree.specs.declared.which.Which.TheVariants.{Types, Functions, Tables, Memories, Globals, ElementSegments, DataSegments}
use Rattle.wasm_read_spec.specs.declared.fault.Fault.{Fault}
use Rattle.wasm_read_spec.specs.declared.fault.Fault.TheVariants as fault
use Rattle.wasm_read_spec.specs.declared.fault.ReadFault.{ReadFault}
use Rattle.wasm_read_spec.specs.declared.fault.ReadFault.TheVariants.{NoMemory, NotModule, Malformed, MalformedBody, Unsupported, Limit}
use Rattle.wasm_read_spec.specs.declared.parts.Parts.{Parts}
use Rattle.wasm_read_spec.specs.Files.{nothing, with_types, with_imports, with_func_types, with_tables, with_mems, with_globals, with_exports, with_start, with_elems, with_codes, with_datas}
use Rattle.wasm_read_spec.specs.Files.{with_count, tree_of}
use Rattle.wasm_read_spec.specs.Reading.{u32_at, name_at, sized_at, each_from, vector_at, whole_at, func_type_at, import_at, table_at, limits_at, global_def_at, export_at, elem_at, data_at}
use Rattle.wasm_read_spec.specs.Bodies.{CodeEntry}
use Rattle.wasm_read_spec.specs.BodyReading.{code_at}

-- A fault in a section, or in the entry of a function in it, as a fault of the file.
abbrev pub placed : ℕ → Option ℕ → Fault → ReadFault
placed section func fault.NoMemory = NoMemory
placed section None fault.Malformed = Malformed section
placed section (Some f) fault.Malformed = MalformedBody f
placed section func fault.Unsupported = Unsupported section func
placed section func (fault.Limit which) = Limit which

abbrev pub in_place : {A : Type 0} → ℕ → Option ℕ → Result A Fault → Result A ReadFault
in_place section func (Ok x) = Ok x
in_place section func (Err e) = Err (placed section func e)

-- ---- the result of a call is that of the reading function, unless memory ran out
-- (with a fault of the file, `ReadFault`; `Fails`, `Gives` and `GivesAll` of `Reading` are the same for
-- a fault without its place)

abbrev pub FileFails : {Y : Type 0} → ReadFault → Result Y ReadFault → Type 0
FileFails NoMemory read = Unit {0}
FileFails NotModule read = read ≡ Err NotModule
FileFails (Malformed s) read = read ≡ Err (Malformed s)
FileFails (MalformedBody f) read = read ≡ Err (MalformedBody f)
FileFails (Unsupported s f) read = read ≡ Err (Unsupported s f)
FileFails (Limit w) read = read ≡ Err (Limit w)

abbrev pub FileGives : {A : Type 0} → Result A ReadFault → List ℕ → Result (A × List ℕ) ReadFault → Type 0
FileGives (Ok x) rest read = read ≡ Ok (x, rest)
FileGives (Err e) rest read = FileFails e read

abbrev pub FileGivesAll : {A : Type 0} → Result A ReadFault → Result A ReadFault → Type 0
FileGivesAll (Ok x) read = read ≡ Ok x
FileGivesAll (Err e) read = FileFails e read

abbrev pub GivesAfter : {A : Type 0} → Result (Unit {0}) ReadFault → A → Result A ReadFault → Type 0
GivesAfter (Ok x) new read = read ≡ Ok new
GivesAfter (Err e) new read = FileFails e read

-- ---- the code section: each entry has a size; faults inside an entry are the function's

unfoldable pub entry_at : Bool → ℕ → ℕ → List ℕ → Result (CodeEntry × List ℕ) ReadFault
entry_at many section func bs = in_place section None (sized_at bs) >>= (λ s. in_place section (Some func) (code_at many s.0) >>= (λ c. Ok (c, s.1)))

abbrev pub next_func : {A : Type 0} → ℕ → A → ℕ
next_func func x = func + 1

unfoldable pub codes_at : Bool → ℕ → ℕ → List ℕ → Result (List CodeEntry) ReadFault
codes_at many section func bs = in_place section None (u32_at bs) >>= (λ n.
    if nat_lt (limit Functions) n.0 then Err (Limit Functions)
    else (each_from (entry_at many section) next_func n.0 func n.1 >>= (λ r. if length r.1 == 0 then Ok r.0 else Err (Malformed section))))

-- ---- a section

-- A custom section begins with a name.
abbrev pub custom_at : List ℕ → Result (Unit {0}) Fault
custom_at bs = name_at bs >>= (λ n. Ok tt)

abbrev pub put_at : {A : Type 0} → ℕ → (A → Parts) → Result A Fault → Result Parts ReadFault
put_at n make read = in_place n None read >>= (λ x. Ok (make x))

unfoldable pub section_at : Bool → ℕ → Parts → Section → Result Parts ReadFault
section_at many n p s =
    if s.0 == 0 then put_at n (λ u. p) (custom_at s.1)
    else (if s.0 == 1 then put_at n (with_types p) (whole_at (vector_at Types func_type_at) s.1)
    else (if s.0 == 2 then put_at n (with_imports p) (whole_at (vector_at Imports import_at) s.1)
    else (if s.0 == 3 then put_at n (with_func_types p) (whole_at (vector_at Functions u32_at) s.1)
    else (if s.0 == 4 then put_at n (with_tables p) (whole_at (vector_at Tables table_at) s.1)
    else (if s.0 == 5 then put_at n (with_mems p) (whole_at (vector_at Memories limits_at) s.1)
    else (if s.0 == 6 then put_at n (with_globals p) (whole_at (vector_at Globals global_def_at) s.1)
    else (if s.0 == 7 then put_at n (with_exports p) (whole_at (vector_at Exports export_at) s.1)
    else (if s.0 == 8 then put_at n (with_start p) (whole_at u32_at s.1)
    else (if s.0 == 9 then put_at n (with_elems p) (whole_at (vector_at ElementSegments elem_at) s.1)
    else (if s.0 == 10 then (codes_at many n (length (imported_funcs p.imports)) s.1 >>= (λ xs. Ok (with_codes p xs)))
    else (if s.0 == 11 then put_at n (with_datas p) (whole_at (vector_at DataSegments data_at) s.1)
    else (if s.0 == 12 then put_at n (with_count p) (whole_at u32_at s.1)
    else Err (Malformed n)))))))))))))

-- The parts that the sections make of `p`; the first section has number `n`.
unfoldable pub contents_at : Bool → ℕ → Parts → List Section → Result Parts ReadFault
contents_at many n p [] = Ok p
contents_at many n p (s ∷ ss) = section_at many n p s >>= (λ q. contents_at many (n + 1) q ss)

-- ---- the whole file

abbrev pub counted : Parts → Option ℕ → Bool
counted p None = if any_uses_data p.codes then false else true
counted p (Some n) = n == length p.datas

-- Whether the parts obey the rules on the whole file.
unfoldable pub agrees : Parts → Bool
agrees p = (length p.func_types == length p.codes) && counted p p.data_count

abbrev pub numbered : {A : Type 0} → Result A ℕ → Result A ReadFault
numbered (Ok x) = Ok x
numbered (Err n) = Err (Malformed n)

-- Whether two lists of numbers are equal.
abbrev pub same_list : List ℕ → List ℕ → Bool
same_list [] [] = true
same_list [] (y ∷ ys) = false
same_list (x ∷ xs) [] = false
same_list (x ∷ xs) (y ∷ ys) = (x == y) && same_list xs ys

unfoldable pub framed_at : List ℕ → Result (List Section) ReadFault
framed_at bs = if same_list (take 8 bs) header then numbered (frames_at (length bs) 0 0 (drop 8 bs)) else Err NotModule

-- The contents of the sections are bytes.
abbrev pub AreBytes : List Section → Type 0
AreBytes ss = Every (λ (s : Section). IsBytes s.1) ss

-- The parts of the file, or its first fault.
unfoldable pub parts_at : Bool → List ℕ → Result Parts ReadFault
parts_at many bs = framed_at bs >>= (λ ss. contents_at many 0 nothing ss >>= (λ p. if agrees p then Ok p else Err (Malformed (length ss))))

unfoldable pub read_at : Bool → List ℕ → Result Module ReadFault
read_at many bs = parts_at many bs >>= (λ p. Ok (tree_of p))

abbrev pub fault_of : {A : Type 0} → Result A ReadFault → Option ReadFault
fault_of (Ok x) = None
fault_of (Err e) = Some e

-- The first fault of the file, or `None`.
abbrev pub read_fault : List ℕ → Bool → Option ReadFault
read_fault bytes many = fault_of (read_at many bytes)
