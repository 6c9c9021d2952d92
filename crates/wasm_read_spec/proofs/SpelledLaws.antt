-- An encoded section or file is read, or a quantity in it is over its limit.
use Rattle.base_lists.proofs.Common.{ℕ, ◌+◌, List, [], ◌∷◌, ◌++◌, length, Result, Ok, Err, Bool, true, false, cond, Option, Some, None, inl, inr, refl, sym, ap, subst, append-nil, ◌==◌}
use Rattle.wasm_bytes.specs.Prelude.{Vector, ◌>>=◌, Section, FramesAreRead}
use Rattle.wasm_tree_spec.specs.Prelude.{Imports, Exports, Module, imported_funcs, limit}
use Rattle.wasm_tree.specs.declared.which.Which.TheVariants.{Types, Functions, Tables, Memories, Globals, ElementSegments, DataSegments}
use Rattle.wasm_read_spec.specs.declared.fault.Fault.{Fault}
use Rattle.wasm_read_spec.specs.declared.fault.Fault.TheVariants as fault
use Rattle.wasm_read_spec.specs.declared.fault.ReadFault.{ReadFault}
use Rattle.wasm_read_spec.specs.declared.fault.ReadFault.TheVariants.{Limit, Malformed}
use Rattle.wasm_read_spec.specs.declared.parts.Parts.{Parts}
use Rattle.wasm_read_spec.specs.Prelude.{CodeEntry, MadeFrom, When, SpellsEntry, nothing, with_types, with_imports, with_func_types, with_tables, with_mems, with_globals, with_exports, with_start, with_elems, with_codes, with_datas, with_count, SpellsCustom, SectionContents, Spells, Reader, u32_at}
use Rattle.wasm_read_spec.specs.Prelude.{sized_at, each_from, code_at, in_place, next_func, custom_at, put_at, framed_at, agrees}
use Rattle.wasm_read_spec.specs.Files.{section_form}
use Rattle.wasm_read_spec.specs.Reading.{whole_at}
use Rattle.wasm_read_spec.specs.Contents.{entry_at, codes_at, section_at, contents_at, parts_at, read_at}
use Rattle.wasm_read_spec.proofs.Exact.{u32_exact, sized_exact, name_exact}
use Rattle.wasm_read_spec.proofs.ItemLaws.{import_exact, table_exact, limits_exact, global_def_exact, export_exact, elem_exact, data_exact}
use Rattle.wasm_read_spec.proofs.Framing.{framed_reads}
use Rattle.wasm_read_spec.proofs.FileLaws.{of_rules}
use Rattle.wasm_read_spec.proofs.LimitLaws.{Got, bind_got, count_got, Gets, exact_gets, each_gets, vector_gets, func_type_gets, code_gets}

in_place_got : {A : Type 0} (n : ℕ) (o : Option ℕ) (r : Result A Fault) (x : A) → Got fault.Limit r x → Got Limit (in_place n o r) x
in_place_got n None r x (inl e) = inl (rw e)
in_place_got n None r x (inr e) = inr (e.0, rw e.1)
in_place_got n (Some f) r x (inl e) = inl (rw e)
in_place_got n (Some f) r x (inr e) = inr (e.0, rw e.1)

-- ---- the code section

module _ (many : Bool) (n : ℕ) where
  entry_gets : (func : ℕ) → Gets Limit (SpellsEntry many) (entry_at many n func)
  unfolding entry_at
  entry_gets func = record {
    gets = λ text rest f h. bind_got Limit (in_place n None (sized_at (text ++ rest))) (h.0, rest) _ (f, rest) (in_place_got n None _ (h.0, rest) (inl (sized_exact.complete text rest h.0 h.1 tt)))
        (bind_got Limit (in_place n (Some func) (code_at many h.0)) f _ (f, rest) (in_place_got n (Some func) _ f (code_gets many h.0 f h.2)) (inl refl));
  }

  codes_got : (func : ℕ) (c : List ℕ) (fs : List CodeEntry) → Vector (SpellsEntry many) c fs → Got Limit (codes_at many n func c) fs
  unfolding codes_at
  codes_got func c fs h =
      let items : Got Limit (each_from (entry_at many n) next_func (length fs) func h.1) (fs, []) =
      subst (λ z. Got Limit (each_from (entry_at many n) next_func (length fs) func z) (fs, [])) (append-nil h.1) (each_gets Limit (SpellsEntry many) (entry_at many n) next_func entry_gets fs func h.1 [] h.3) in
      subst (λ z. Got Limit (codes_at many n func z) fs) (sym h.4)
      (bind_got Limit (in_place n None (u32_at (h.0 ++ h.1))) (length fs, h.1) _ fs (in_place_got n None _ (length fs, h.1) (inl (u32_exact.complete h.0 h.1 (length fs) h.2 tt)))
      (count_got Limit Functions (limit Functions) (length fs) _ fs (bind_got Limit (each_from (entry_at many n) next_func (length fs) func h.1) (fs, []) _ fs items (inl refl))))

-- ---- the sections

abbrev SectionGets : (List ℕ → Parts → Type 0) → (List ℕ → Result Parts ReadFault) → Type 0
SectionGets form read = (c : List ℕ) (q : Parts) → form c q → Got Limit (read c) q

gets_when : {P Q : List ℕ → Parts → Type 0} {r q : List ℕ → Result Parts ReadFault} (test : Bool) → SectionGets P r → SectionGets Q q → SectionGets (When test P Q) (λ c. cond test (r c) (q c))
gets_when true a b = a
gets_when false a b = b

gets_put : {A : Type 0} {P : List ℕ → A → Type 0} {r : Reader A} (n : ℕ) (make : A → Parts) → Gets fault.Limit P r → SectionGets (MadeFrom make P) (λ c. put_at n make (whole_at r c))
unfolding whole_at
gets_put {A} {P} {r} n make a = λ c q h.
    let one : Got fault.Limit (r c) (h.0, []) = subst (λ z. Got fault.Limit (r z) (h.0, [])) (append-nil c) (a.gets c [] h.0 h.1) in
    let all : Got fault.Limit (whole_at r c) h.0 = bind_got fault.Limit (r c) (h.0, []) _ h.0 one (inl refl) in
    subst (λ z. Got Limit (put_at n make (whole_at r c)) z) (sym h.2) (bind_got Limit (in_place n None (whole_at r c)) h.0 (λ x. Ok (make x)) (make h.0) (in_place_got n None (whole_at r c) h.0 all) (inl refl))

gets_custom : (n : ℕ) (p : Parts) → SectionGets (SpellsCustom p) (λ c. put_at n (λ u. p) (custom_at c))
gets_custom n p = λ c q h. let t = h.0.1 in inl (rw (t.4, name_exact.complete t.0 t.1 h.0.0 t.2 tt, h.1))

gets_codes : (many : Bool) (n func : ℕ) (p : Parts) → SectionGets (MadeFrom (with_codes p) (Vector (SpellsEntry many))) (λ c. codes_at many n func c >>= (λ xs. Ok (with_codes p xs)))
gets_codes many n func p = λ c q h. subst (λ z. Got Limit (codes_at many n func c >>= (λ xs. Ok (with_codes p xs))) z) (sym h.2) (bind_got Limit (codes_at many n func c) h.0 (λ xs. Ok (with_codes p xs)) (with_codes p h.0) (codes_got many n func c h.0 h.1) (inl refl))

pub section_gets : (many : Bool) (n : ℕ) (p : Parts) (id : ℕ) → SectionGets (section_form many p id) (λ c. section_at many n p (id, c))
unfolding section_form section_at
section_gets many n p id =
    gets_when (id == 0) (gets_custom n p)
    (gets_when (id == 1) (gets_put n (with_types p) (vector_gets Types func_type_gets))
    (gets_when (id == 2) (gets_put n (with_imports p) (vector_gets Imports (exact_gets import_exact)))
    (gets_when (id == 3) (gets_put n (with_func_types p) (vector_gets Functions (exact_gets u32_exact)))
    (gets_when (id == 4) (gets_put n (with_tables p) (vector_gets Tables (exact_gets table_exact)))
    (gets_when (id == 5) (gets_put n (with_mems p) (vector_gets Memories (exact_gets limits_exact)))
    (gets_when (id == 6) (gets_put n (with_globals p) (vector_gets Globals (exact_gets global_def_exact)))
    (gets_when (id == 7) (gets_put n (with_exports p) (vector_gets Exports (exact_gets export_exact)))
    (gets_when (id == 8) (gets_put n (with_start p) (exact_gets u32_exact))
    (gets_when (id == 9) (gets_put n (with_elems p) (vector_gets ElementSegments (exact_gets elem_exact)))
    (gets_when (id == 10) (gets_codes many n (length (imported_funcs p.imports)) p)
    (gets_when (id == 11) (gets_put n (with_datas p) (vector_gets DataSegments (exact_gets data_exact)))
    (gets_when (id == 12) (gets_put n (with_count p) (exact_gets u32_exact))
    (λ c q h. absurd h)))))))))))))

contents_got : (many : Bool) (n : ℕ) (p : Parts) (ss : List Section) (q : Parts) → SectionContents many p ss q → Got Limit (contents_at many n p ss) q
unfolding contents_at
contents_got many n p [] q h = inl (ap Ok h)
contents_got many n p (s ∷ ss) q h = bind_got Limit (section_at many n p s) h.0 _ q (section_gets many n p s.0 s.1 h.0 h.1) (contents_got many (n + 1) h.0 ss q h.2)

-- ---- the file

pub read_got : FramesAreRead → (many : Bool) (bytes : List ℕ) (m : Module) → Spells bytes m many → Got Limit (read_at many bytes) m
unfolding read_at parts_at
read_got reads many bytes m h =
    let ss = h.0 in
    let p = h.1 in
    let agreed : Got Limit (cond (agrees p) (Ok p) (Err (Malformed (length ss)))) p = inl (rw (of_rules p h.4)) in
    let parts : Got Limit (parts_at many bytes) p = bind_got Limit (framed_at bytes) ss _ p (inl (framed_reads reads bytes ss h.2)) (bind_got Limit (contents_at many 0 nothing ss) p _ p (contents_got many 0 nothing ss p h.3) agreed) in
    bind_got Limit (parts_at many bytes) p _ m parts (inl (ap Ok (sym h.5)))
