-- The canonical encoding of a module encodes it.
use Rattle.base_lists.proofs.Common.{◌≡◌, ℕ, zero, suc, ◌/◌, ◌<◌, ◌≤◌, ◌^◌, List, [], ◌∷◌, ◌++◌, map, length, Bool, true, false, Option, Some, None, refl, sym, ap, ◌∙◌, subst, arith, append_assoc, append-nil, ⊎_elim, if◌then◌else◌, IsTrue, lt-ltb, le-ltb, cases_lt, length-map}
use Rattle.base_lists.proofs.Every.{every_of, every_with}
use Rattle.std.proofs.Common.{length-append}
use Rattle.wasm_bytes.specs.Prelude.{u32_text, sized_text, U32, Vector, Section, header, may_follow, order_after, Frames}
use Rattle.wasm_bytes.specs.Writing.{unsigned_text}
use Rattle.wasm_tree_spec.specs.Prelude.{FuncType, Limits, TableType, Func, Import, GlobalDef, Export, ElemSeg, DataSeg, Module, any_uses_data, memory_zero_funcs, limit, Imports, Exports}
use Rattle.wasm_read_spec.specs.declared.parts.Parts.{Parts}
use Rattle.base_lists.specs.Every.{Every}
use Rattle.wasm_read_spec.specs.Prelude.{SmallFuncType, SpellsFuncType, SpellsTable, SpellsLimits, SpellsImport, SpellsGlobalDef, SpellsExport, SpellsElem, SpellsData, SpellsEntry, SmallCode, Any, Few, Limited, SectionIsSmall, Within, nothing, with_types, with_imports, with_func_types, with_tables}
use Rattle.wasm_read_spec.specs.Prelude.{with_mems, with_globals, with_exports, with_elems, with_codes, with_datas, SectionContents, typed, tree_of, Spells, HasSmallCode, code_in, untyped}
use Rattle.wasm_tree.specs.declared.which.Which.TheVariants.{Types, Functions, Tables, Memories, Globals, ElementSegments, DataSegments}
use Rattle.wasm_read_spec.specs.Files.{small_form, section_form, Counted, Rules}
use Rattle.wasm_read_spec.specs.Unambiguous.{IsPrefixFree, ItemsArePrefixFree, FramesAreUnique}
use Rattle.wasm_write_spec.specs.PlainValues.{each_text, vector_text, func_type_text, import_text, table_text, limits_text, global_text, export_text, elem_text, data_text}
use Rattle.wasm_write_spec.specs.PlainCode.{entry_text}
use Rattle.wasm_write_spec.specs.Plain.{section_text, list_section, start_section, count_section, plain}
use Rattle.wasm_write_proof.specs.Ranges.{IsU32, MaxInRange, LimitsInRange, ConstInRange, ImportInRange, ExportInRange, ElemInRange, DataModeInRange, FuncInRange, InRange}
use Rattle.wasm_read_spec.proofs.Exact.{every_any}
use Rattle.wasm_read_spec.proofs.EntryLaws.{vector_prefix_free}
use Rattle.wasm_read_spec.proofs.SectionLaws.{one_whole}
use Rattle.wasm_write_proof.specs.SmallSizes.{SmallSizes}
use Rattle.wasm_write_proof.specs.TreeLimits.{WithinLimits}
use Rattle.wasm_write_proof.proofs.Parts.{TextLaws, u32_some, u32_spells, sized_spells, vector_mapped, every_short}
use Rattle.wasm_write_proof.proofs.ItemTexts.{func_type_spells, func_type_some, table_spells, table_some, limits_spells, limits_some, import_spells, import_some, global_spells, global_some, export_spells, export_some}
use Rattle.wasm_write_proof.proofs.SegmentTexts.{elem_spells, elem_some, data_spells, data_some}
use Rattle.wasm_write_proof.proofs.EntryTexts.{Spellable, all_spellable, entry_spells, entry_some, funcs_use_same}

-- ---- one section after another

-- The bytes are sections that make the parts `q` of the parts `p`, after any section whose place is
-- at most `bound`. If `W` holds, they are within the limits.
abbrev Rest : Type 0 → ℕ → Parts → List ℕ → Parts → Type 0
Rest W bound p bytes q = (last : ℕ) → last ≤ bound → (ss : List Section) × Frames last bytes ss × SectionContents false p ss q × (W → Every (SectionIsSmall false) ss)

one_more : TextLaws → (W : Type 0) (bound next id : ℕ) (p m q : Parts) (content bytes : List ℕ) → ((last : ℕ) → last ≤ bound → may_follow last id ≡ true) → ((last : ℕ) → order_after last id ≤ next) →
    length content < 2 ^ 32 → section_form false p id content m → (W → small_form false id content) → Rest W next m bytes q → Rest W bound p (section_text id content ++ bytes) q
one_more laws W bound next id p m q content bytes may behind few form small rest = λ last le.
    let r = rest (order_after last id) (behind last) in
    ((id, content) ∷ r.0, (section_text id content, bytes, (may last le, (sized_text content, sized_spells laws content few, refl)), r.1, refl), (m, form, r.2), λ w. (small w, r.3 w))

pub section_short : (id : ℕ) (content : List ℕ) → length (section_text id content) < 2 ^ 32 → length content < 2 ^ 32
section_short id content h = omega (arith, h, length-append (u32_text (length content)) content)

-- The section of a list, which is left out if the list is empty, before the sections after it.
list_more : TextLaws → {A B : Type 0} (W : Type 0) (bound next id : ℕ) (p q : Parts) (set : List B → Parts) (f : A → B) (text : A → List ℕ) (xs : List A) (bytes : List ℕ) →
    ((last : ℕ) → last ≤ bound → may_follow last id ≡ true) → ((last : ℕ) → order_after last id ≤ next) → set [] ≡ p → bound ≤ next →
    (length (vector_text text xs) < 2 ^ 32 → section_form false p id (vector_text text xs) (set (map f xs))) → (length (vector_text text xs) < 2 ^ 32 → W → small_form false id (vector_text text xs)) → length (vector_text text xs) < 2 ^ 32 →
    Rest W next (set (map f xs)) bytes q → Rest W bound p (list_section id text xs ++ bytes) q
list_more laws W bound next id p q set f text [] bytes may behind same le form small few rest = λ last l. subst (λ z. Rest W next z bytes q) same rest last (omega arith)
list_more laws W bound next id p q set f text (x ∷ xs) bytes may behind same le form small few rest =
    one_more laws W bound next id p (set (map f (x ∷ xs))) q (vector_text text (x ∷ xs)) bytes may behind few (form few) (small few) rest

-- ---- what the sections hold

map_id : {A : Type 0} (xs : List A) → map (λ (x : A). x) xs ≡ xs
map_id [] = refl
map_id (x ∷ xs) = ap (λ t. x ∷ t) (map_id xs)

pub each_short : {A : Type 0} (text : A → List ℕ) (xs : List A) → length (vector_text text xs) < 2 ^ 32 → length (each_text text xs) < 2 ^ 32
each_short text xs h = omega (arith, h, length-append (u32_text (length xs)) (each_text text xs))

-- A vector of items whose encodings encode the items themselves.
items : TextLaws → {A : Type 0} (P : A → Type 0) (spells : List ℕ → A → Type 0) (text : A → List ℕ) (xs : List A) → ((x : A) → 0 < length (text x)) → ((x : A) → P x → length (text x) < 2 ^ 32 → spells (text x) x) →
    Every P xs → length (vector_text text xs) < 2 ^ 32 → Vector spells (vector_text text xs) (map (λ (x : A). x) xs)
items laws P spells text xs some spelled h few =
    vector_mapped laws (λ x. x) spells text xs some few (every_short P (λ x. spells (text x) x) text xs spelled (each_short text xs few) h)

entries : TextLaws → (fs : List Func) → Every Spellable fs → length (vector_text entry_text fs) < 2 ^ 32 → Vector (SpellsEntry false) (vector_text entry_text fs) (map code_in fs)
entries laws fs h few = vector_mapped laws code_in (SpellsEntry false) entry_text fs entry_some few (every_short Spellable (λ f. SpellsEntry false (entry_text f) (code_in f)) entry_text fs (entry_spells laws) (each_short entry_text fs few) h)

func_types : TextLaws → (fs : List Func) → Every FuncInRange fs → length (vector_text (λ (f : Func). u32_text f.ty) fs) < 2 ^ 32 → Vector U32 (vector_text (λ (f : Func). u32_text f.ty) fs) (map (λ (f : Func). f.ty) fs)
func_types laws fs h few = vector_mapped laws (λ (f : Func). f.ty) U32 (λ (f : Func). u32_text f.ty) fs (λ f. u32_some f.ty) few (every_with FuncInRange (λ f. U32 (u32_text f.ty) f.ty) fs (λ f g. u32_spells laws f.ty g.0) h)

-- ---- the parts, section by section

abbrev same : {A : Type 0} → List A → List A
same {A} xs = map (λ (x : A). x) xs

abbrev set_start : Parts → Option ℕ → Parts
set_start p s = record p { start = s }

abbrev counted : Module → Option ℕ
counted m = if any_uses_data m.funcs then Some (length m.datas) else None

abbrev set_count : Parts → Option ℕ → Parts
set_count p s = record p { data_count = s }

module _ (m : Module) where
  abbrev p1 : Parts
  p1 = with_types nothing (same m.types)

  abbrev p2 : Parts
  p2 = with_imports p1 (same m.imports)

  abbrev p3 : Parts
  p3 = with_func_types p2 (map (λ (f : Func). f.ty) m.funcs)

  abbrev p4 : Parts
  p4 = with_tables p3 (same m.tables)

  abbrev p5 : Parts
  p5 = with_mems p4 (same m.mems)

  abbrev p6 : Parts
  p6 = with_globals p5 (same m.globals)

  abbrev p7 : Parts
  p7 = with_exports p6 (same m.exports)

  abbrev p8 : Parts
  p8 = set_start p7 m.start

  abbrev p9 : Parts
  p9 = with_elems p8 (same m.elems)

  abbrev p10 : Parts
  p10 = set_count p9 (counted m)

  abbrev p11 : Parts
  p11 = with_codes p10 (map code_in m.funcs)

  abbrev p12 : Parts
  p12 = with_datas p11 (same m.datas)

text_few : (most n : ℕ) → length (unsigned_text most n) ≤ most
unfolding unsigned_text
text_few zero n = omega arith
text_few (suc most) n = ⊎_elim (λ lt. rw (lt-ltb n 128 lt) (omega arith)) (λ le. let h = text_few most (n / 128) in rw (le-ltb n 128 le) (omega arith)) (cases_lt n 128)

short_number : (x : ℕ) → length (u32_text x) < 2 ^ 32
short_number x = let k = text_few 5 x in omega arith

start_form : TextLaws → (p : Parts) (x : ℕ) → IsU32 x → section_form false p 8 (u32_text x) (set_start p (Some x))
unfolding section_form
start_form laws p x h = (x, u32_spells laws x h, refl)

start_small : (c : List ℕ) → small_form false 8 c
unfolding small_form
start_small c = tt

count_small : (c : List ℕ) → small_form false 12 c
unfolding small_form
count_small c = tt

start_more : TextLaws → (W : Type 0) (p q : Parts) (s : Option ℕ) (bytes : List ℕ) → set_start p None ≡ p → MaxInRange s → Rest W 8 (set_start p s) bytes q → Rest W 7 p (start_section s ++ bytes) q
start_more laws W p q None bytes none h rest = λ last l. subst (λ z. Rest W 8 z bytes q) none rest last (omega arith)
start_more laws W p q (Some x) bytes none h rest =
    one_more laws W 7 8 8 p (set_start p (Some x)) q (u32_text x) bytes (λ last l. lt-ltb last 8 (omega arith)) (λ last. omega arith) (short_number x) (start_form laws p x h) (λ w. start_small (u32_text x)) rest

count_form : TextLaws → (p : Parts) (x : ℕ) → IsU32 x → section_form false p 12 (u32_text x) (set_count p (Some x))
unfolding section_form
count_form laws p x h = (x, u32_spells laws x h, refl)

abbrev count_text : Bool → ℕ → List ℕ
count_text b n = if b then section_text 12 (u32_text n) else []

abbrev count_of : Bool → ℕ → Option ℕ
count_of b n = if b then Some n else None

count_more : TextLaws → (W : Type 0) (p q : Parts) (b : Bool) (n : ℕ) (bytes : List ℕ) → set_count p None ≡ p → IsU32 n → Rest W 10 (set_count p (count_of b n)) bytes q → Rest W 9 p (count_text b n ++ bytes) q
count_more laws W p q false n bytes none h rest = λ last l. subst (λ z. Rest W 10 z bytes q) none rest last (omega arith)
count_more laws W p q true n bytes none h rest =
    one_more laws W 9 10 12 p (set_count p (Some n)) q (u32_text n) bytes (λ last l. lt-ltb last 10 (omega arith)) (λ last. omega arith) (short_number n) (count_form laws p n h) (λ w. count_small (u32_text n)) rest

done : (W : Type 0) (bound : ℕ) (q : Parts) → Rest W bound q [] q
done W bound q = λ last le. ([], refl, refl, λ w. tt)

parted : (a b : List ℕ) → length (a ++ b) < 2 ^ 32 → (length a < 2 ^ 32) × (length b < 2 ^ 32)
parted a b h = (omega (arith, h, length-append a b), omega (arith, h, length-append a b))

-- ---- each section

-- The content of a section encodes only one list, so every list that it encodes is within a limit
-- if one is.
small_items : {A : Type 0} (spells : List ℕ → A → Type 0) (S : List A → Type 0) (c : List ℕ) (xs : List A) → IsPrefixFree spells → Vector spells c xs → S xs → Limited (Vector spells) S c
small_items spells S c xs free v s = λ ys h. subst S (one_whole (Vector spells) (vector_prefix_free free) c xs ys v h) s

few_any : {A : Type 0} (most : ℕ) (xs : List A) → length xs ≤ most → Few most Any (map (λ (x : A). x) xs)
few_any {A} most xs le = subst (Few {A = A} most Any) (sym (map_id xs)) (le, every_any xs)

every_code : (fs : List Func) → Every HasSmallCode fs → Every SmallCode (map code_in fs)
every_code [] h = tt
every_code (f ∷ fs) h = (h.0, every_code fs h.1)

-- The encodings of items are prefix-free by a law of wasm_read_spec.
module _ (laws : TextLaws) (free : ItemsArePrefixFree) where
  types_form : (m : Module) → InRange m → length (vector_text func_type_text m.types) < 2 ^ 32 → section_form false nothing 1 (vector_text func_type_text m.types) (p1 m)
  unfolding section_form
  types_form m r few = (map (λ (x : FuncType). x) m.types, items laws (λ (t : FuncType). Unit {0}) SpellsFuncType func_type_text m.types func_type_some (λ t u few. func_type_spells laws t few) (every_of (λ (t : FuncType). Unit {0}) m.types (λ t. tt)) few, refl)

  types_small : (m : Module) → InRange m → length (vector_text func_type_text m.types) < 2 ^ 32 → WithinLimits m → small_form false 1 (vector_text func_type_text m.types)
  unfolding small_form
  types_small m r few w = small_items SpellsFuncType (Few (limit Types) SmallFuncType) (vector_text func_type_text m.types) (map (λ (x : FuncType). x) m.types) free.types
      (items laws (λ (t : FuncType). Unit {0}) SpellsFuncType func_type_text m.types func_type_some (λ t u few. func_type_spells laws t few) (every_of (λ (t : FuncType). Unit {0}) m.types (λ t. tt)) few) (subst (Few (limit Types) SmallFuncType) (sym (map_id m.types)) w.types)

  types_more : (m : Module) (q : Parts) (bytes : List ℕ) → InRange m → length (vector_text func_type_text m.types) < 2 ^ 32 → Rest (WithinLimits m) 1 (p1 m) bytes q → Rest (WithinLimits m) 0 nothing (list_section 1 func_type_text m.types ++ bytes) q
  types_more m q bytes r few rest =
      list_more laws (WithinLimits m) 0 1 1 nothing q (with_types nothing) (λ (x : FuncType). x) func_type_text m.types bytes (λ last l. lt-ltb last 1 (omega arith)) (λ last. omega arith) refl (omega arith) (types_form m r) (types_small m r) few rest

  imports_form : (m : Module) → InRange m → length (vector_text import_text m.imports) < 2 ^ 32 → section_form false (p1 m) 2 (vector_text import_text m.imports) (p2 m)
  unfolding section_form
  imports_form m r few = (map (λ (x : Import). x) m.imports, items laws ImportInRange SpellsImport import_text m.imports import_some (import_spells laws) r.imports few, refl)

  imports_small : (m : Module) → InRange m → length (vector_text import_text m.imports) < 2 ^ 32 → WithinLimits m → small_form false 2 (vector_text import_text m.imports)
  unfolding small_form
  imports_small m r few w = small_items SpellsImport (Few (limit Imports) Any) (vector_text import_text m.imports) (map (λ (x : Import). x) m.imports) free.imports (items laws ImportInRange SpellsImport import_text m.imports import_some (import_spells laws) r.imports few)
      (few_any (limit Imports) m.imports w.imports)

  imports_more : (m : Module) (q : Parts) (bytes : List ℕ) → InRange m → length (vector_text import_text m.imports) < 2 ^ 32 → Rest (WithinLimits m) 2 (p2 m) bytes q → Rest (WithinLimits m) 1 (p1 m) (list_section 2 import_text m.imports ++ bytes) q
  imports_more m q bytes r few rest =
      list_more laws (WithinLimits m) 1 2 2 (p1 m) q (with_imports (p1 m)) (λ (x : Import). x) import_text m.imports bytes (λ last l. lt-ltb last 2 (omega arith)) (λ last. omega arith) refl (omega arith) (imports_form m r) (imports_small m r) few rest

  func_section_form : (m : Module) → InRange m → length (vector_text (λ (f : Func). u32_text f.ty) m.funcs) < 2 ^ 32 → section_form false (p2 m) 3 (vector_text (λ (f : Func). u32_text f.ty) m.funcs) (p3 m)
  unfolding section_form
  func_section_form m r few = (map (λ (f : Func). f.ty) m.funcs, func_types laws m.funcs r.funcs few, refl)

  func_section_small : (m : Module) → InRange m → length (vector_text (λ (f : Func). u32_text f.ty) m.funcs) < 2 ^ 32 → WithinLimits m → small_form false 3 (vector_text (λ (f : Func). u32_text f.ty) m.funcs)
  unfolding small_form
  func_section_small m r few w = small_items U32 (Few (limit Functions) Any) (vector_text (λ (f : Func). u32_text f.ty) m.funcs) (map (λ (f : Func). f.ty) m.funcs) free.func_types (func_types laws m.funcs r.funcs few)
      ((rw (length-map m.funcs (λ (f : Func). f.ty)) w.funcs.0, every_any (map (λ (f : Func). f.ty) m.funcs)))

  func_section_more : (m : Module) (q : Parts) (bytes : List ℕ) → InRange m → length (vector_text (λ (f : Func). u32_text f.ty) m.funcs) < 2 ^ 32 → Rest (WithinLimits m) 3 (p3 m) bytes q → Rest (WithinLimits m) 2 (p2 m) (list_section 3 (λ (f : Func). u32_text f.ty) m.funcs ++ bytes) q
  func_section_more m q bytes r few rest =
      list_more laws (WithinLimits m) 2 3 3 (p2 m) q (with_func_types (p2 m)) (λ (f : Func). f.ty) (λ (f : Func). u32_text f.ty) m.funcs bytes (λ last l. lt-ltb last 3 (omega arith)) (λ last. omega arith) refl (omega arith) (func_section_form m r) (func_section_small m r) few rest

  tables_form : (m : Module) → InRange m → length (vector_text table_text m.tables) < 2 ^ 32 → section_form false (p3 m) 4 (vector_text table_text m.tables) (p4 m)
  unfolding section_form
  tables_form m r few = (map (λ (x : TableType). x) m.tables, items laws (λ (t : TableType). LimitsInRange t.limits) SpellsTable table_text m.tables table_some (λ t h few. table_spells laws t h) r.tables few, refl)

  tables_small : (m : Module) → InRange m → length (vector_text table_text m.tables) < 2 ^ 32 → WithinLimits m → small_form false 4 (vector_text table_text m.tables)
  unfolding small_form
  tables_small m r few w = small_items SpellsTable (Few (limit Tables) Any) (vector_text table_text m.tables) (map (λ (x : TableType). x) m.tables) free.tables
      (items laws (λ (t : TableType). LimitsInRange t.limits) SpellsTable table_text m.tables table_some (λ t h few. table_spells laws t h) r.tables few) (few_any (limit Tables) m.tables w.tables)

  tables_more : (m : Module) (q : Parts) (bytes : List ℕ) → InRange m → length (vector_text table_text m.tables) < 2 ^ 32 → Rest (WithinLimits m) 4 (p4 m) bytes q → Rest (WithinLimits m) 3 (p3 m) (list_section 4 table_text m.tables ++ bytes) q
  tables_more m q bytes r few rest =
      list_more laws (WithinLimits m) 3 4 4 (p3 m) q (with_tables (p3 m)) (λ (x : TableType). x) table_text m.tables bytes (λ last l. lt-ltb last 4 (omega arith)) (λ last. omega arith) refl (omega arith) (tables_form m r) (tables_small m r) few rest

  mems_form : (m : Module) → InRange m → length (vector_text limits_text m.mems) < 2 ^ 32 → section_form false (p4 m) 5 (vector_text limits_text m.mems) (p5 m)
  unfolding section_form
  mems_form m r few = (map (λ (x : Limits). x) m.mems, items laws LimitsInRange SpellsLimits limits_text m.mems limits_some (λ l h few. limits_spells laws l h) r.mems few, refl)

  mems_small : (m : Module) → InRange m → length (vector_text limits_text m.mems) < 2 ^ 32 → WithinLimits m → small_form false 5 (vector_text limits_text m.mems)
  unfolding small_form
  mems_small m r few w = small_items SpellsLimits (Few (limit Memories) Any) (vector_text limits_text m.mems) (map (λ (x : Limits). x) m.mems) free.mems (items laws LimitsInRange SpellsLimits limits_text m.mems limits_some (λ l h few. limits_spells laws l h) r.mems few)
      (few_any (limit Memories) m.mems w.mems)

  mems_more : (m : Module) (q : Parts) (bytes : List ℕ) → InRange m → length (vector_text limits_text m.mems) < 2 ^ 32 → Rest (WithinLimits m) 5 (p5 m) bytes q → Rest (WithinLimits m) 4 (p4 m) (list_section 5 limits_text m.mems ++ bytes) q
  mems_more m q bytes r few rest =
      list_more laws (WithinLimits m) 4 5 5 (p4 m) q (with_mems (p4 m)) (λ (x : Limits). x) limits_text m.mems bytes (λ last l. lt-ltb last 5 (omega arith)) (λ last. omega arith) refl (omega arith) (mems_form m r) (mems_small m r) few rest

  globals_form : (m : Module) → InRange m → length (vector_text global_text m.globals) < 2 ^ 32 → section_form false (p5 m) 6 (vector_text global_text m.globals) (p6 m)
  unfolding section_form
  globals_form m r few = (map (λ (x : GlobalDef). x) m.globals, items laws (λ (g : GlobalDef). ConstInRange g.init) SpellsGlobalDef global_text m.globals global_some (λ g h few. global_spells laws g h) r.globals few, refl)

  globals_small : (m : Module) → InRange m → length (vector_text global_text m.globals) < 2 ^ 32 → WithinLimits m → small_form false 6 (vector_text global_text m.globals)
  unfolding small_form
  globals_small m r few w = small_items SpellsGlobalDef (Few (limit Globals) Any) (vector_text global_text m.globals) (map (λ (x : GlobalDef). x) m.globals) free.globals
      (items laws (λ (g : GlobalDef). ConstInRange g.init) SpellsGlobalDef global_text m.globals global_some (λ g h few. global_spells laws g h) r.globals few) (few_any (limit Globals) m.globals w.globals)

  globals_more : (m : Module) (q : Parts) (bytes : List ℕ) → InRange m → length (vector_text global_text m.globals) < 2 ^ 32 → Rest (WithinLimits m) 6 (p6 m) bytes q → Rest (WithinLimits m) 5 (p5 m) (list_section 6 global_text m.globals ++ bytes) q
  globals_more m q bytes r few rest =
      list_more laws (WithinLimits m) 5 6 6 (p5 m) q (with_globals (p5 m)) (λ (x : GlobalDef). x) global_text m.globals bytes (λ last l. lt-ltb last 6 (omega arith)) (λ last. omega arith) refl (omega arith) (globals_form m r) (globals_small m r) few rest

  exports_form : (m : Module) → InRange m → length (vector_text export_text m.exports) < 2 ^ 32 → section_form false (p6 m) 7 (vector_text export_text m.exports) (p7 m)
  unfolding section_form
  exports_form m r few = (map (λ (x : Export). x) m.exports, items laws ExportInRange SpellsExport export_text m.exports export_some (export_spells laws) r.exports few, refl)

  exports_small : (m : Module) → InRange m → length (vector_text export_text m.exports) < 2 ^ 32 → WithinLimits m → small_form false 7 (vector_text export_text m.exports)
  unfolding small_form
  exports_small m r few w = small_items SpellsExport (Few (limit Exports) Any) (vector_text export_text m.exports) (map (λ (x : Export). x) m.exports) free.exports (items laws ExportInRange SpellsExport export_text m.exports export_some (export_spells laws) r.exports few)
      (few_any (limit Exports) m.exports w.exports)

  exports_more : (m : Module) (q : Parts) (bytes : List ℕ) → InRange m → length (vector_text export_text m.exports) < 2 ^ 32 → Rest (WithinLimits m) 7 (p7 m) bytes q → Rest (WithinLimits m) 6 (p6 m) (list_section 7 export_text m.exports ++ bytes) q
  exports_more m q bytes r few rest =
      list_more laws (WithinLimits m) 6 7 7 (p6 m) q (with_exports (p6 m)) (λ (x : Export). x) export_text m.exports bytes (λ last l. lt-ltb last 7 (omega arith)) (λ last. omega arith) refl (omega arith) (exports_form m r) (exports_small m r) few rest

  elems_form : (m : Module) → InRange m → length (vector_text elem_text m.elems) < 2 ^ 32 → section_form false (p8 m) 9 (vector_text elem_text m.elems) (p9 m)
  unfolding section_form
  elems_form m r few = (map (λ (x : ElemSeg). x) m.elems, items laws ElemInRange SpellsElem elem_text m.elems elem_some (elem_spells laws) r.elems few, refl)

  elems_small : (m : Module) → InRange m → length (vector_text elem_text m.elems) < 2 ^ 32 → WithinLimits m → small_form false 9 (vector_text elem_text m.elems)
  unfolding small_form
  elems_small m r few w = small_items SpellsElem (Few (limit ElementSegments) Any) (vector_text elem_text m.elems) (map (λ (x : ElemSeg). x) m.elems) free.elems (items laws ElemInRange SpellsElem elem_text m.elems elem_some (elem_spells laws) r.elems few)
      (few_any (limit ElementSegments) m.elems w.elems)

  elems_more : (m : Module) (q : Parts) (bytes : List ℕ) → InRange m → length (vector_text elem_text m.elems) < 2 ^ 32 → Rest (WithinLimits m) 9 (p9 m) bytes q → Rest (WithinLimits m) 8 (p8 m) (list_section 9 elem_text m.elems ++ bytes) q
  elems_more m q bytes r few rest =
      list_more laws (WithinLimits m) 8 9 9 (p8 m) q (with_elems (p8 m)) (λ (x : ElemSeg). x) elem_text m.elems bytes (λ last l. lt-ltb last 9 (omega arith)) (λ last. omega arith) refl (omega arith) (elems_form m r) (elems_small m r) few rest

  codes_form : (m : Module) → Every Spellable m.funcs → length (vector_text entry_text m.funcs) < 2 ^ 32 → section_form false (p10 m) 10 (vector_text entry_text m.funcs) (p11 m)
  unfolding section_form
  codes_form m fs few = (map code_in m.funcs, entries laws m.funcs fs few, refl)

  codes_small : (m : Module) → Every Spellable m.funcs → length (vector_text entry_text m.funcs) < 2 ^ 32 → WithinLimits m → small_form false 10 (vector_text entry_text m.funcs)
  unfolding small_form
  codes_small m fs few w = small_items (SpellsEntry false) (Few (limit Functions) SmallCode) (vector_text entry_text m.funcs) (map code_in m.funcs) (free.codes false) (entries laws m.funcs fs few) ((rw (length-map m.funcs code_in) w.funcs.0, every_code m.funcs w.funcs.1))

  codes_more : (m : Module) (q : Parts) (bytes : List ℕ) → Every Spellable m.funcs → length (vector_text entry_text m.funcs) < 2 ^ 32 → Rest (WithinLimits m) 11 (p11 m) bytes q → Rest (WithinLimits m) 10 (p10 m) (list_section 10 entry_text m.funcs ++ bytes) q
  codes_more m q bytes fs few rest =
      list_more laws (WithinLimits m) 10 11 10 (p10 m) q (with_codes (p10 m)) code_in entry_text m.funcs bytes (λ last l. lt-ltb last 11 (omega arith)) (λ last. omega arith) refl (omega arith) (codes_form m fs) (codes_small m fs) few rest

  datas_form : (m : Module) → InRange m → length (vector_text data_text m.datas) < 2 ^ 32 → section_form false (p11 m) 11 (vector_text data_text m.datas) (p12 m)
  unfolding section_form
  datas_form m r few = (map (λ (x : DataSeg). x) m.datas, items laws (λ (s : DataSeg). DataModeInRange s.mode) SpellsData data_text m.datas data_some (data_spells laws) r.datas few, refl)

  datas_small : (m : Module) → InRange m → length (vector_text data_text m.datas) < 2 ^ 32 → WithinLimits m → small_form false 11 (vector_text data_text m.datas)
  unfolding small_form
  datas_small m r few w = small_items SpellsData (Few (limit DataSegments) Any) (vector_text data_text m.datas) (map (λ (x : DataSeg). x) m.datas) free.datas (items laws (λ (s : DataSeg). DataModeInRange s.mode) SpellsData data_text m.datas data_some (data_spells laws) r.datas few)
      (few_any (limit DataSegments) m.datas w.datas)

  datas_more : (m : Module) (q : Parts) (bytes : List ℕ) → InRange m → length (vector_text data_text m.datas) < 2 ^ 32 → Rest (WithinLimits m) 12 (p12 m) bytes q → Rest (WithinLimits m) 11 (p11 m) (list_section 11 data_text m.datas ++ bytes) q
  datas_more m q bytes r few rest =
      list_more laws (WithinLimits m) 11 12 11 (p11 m) q (with_datas (p11 m)) (λ (x : DataSeg). x) data_text m.datas bytes (λ last l. lt-ltb last 12 (omega arith)) (λ last. omega arith) refl (omega arith) (datas_form m r) (datas_small m r) few rest

-- ---- the sections together

module _ (m : Module) where
  abbrev t12 : List ℕ
  t12 = list_section 11 data_text m.datas ++ []

  abbrev t11 : List ℕ
  t11 = list_section 10 entry_text m.funcs ++ t12

  abbrev t10 : List ℕ
  t10 = count_section m ++ t11

  abbrev t9 : List ℕ
  t9 = list_section 9 elem_text m.elems ++ t10

  abbrev t8 : List ℕ
  t8 = start_section m.start ++ t9

  abbrev t7 : List ℕ
  t7 = list_section 7 export_text m.exports ++ t8

  abbrev t6 : List ℕ
  t6 = list_section 6 global_text m.globals ++ t7

  abbrev t5 : List ℕ
  t5 = list_section 5 limits_text m.mems ++ t6

  abbrev t4 : List ℕ
  t4 = list_section 4 table_text m.tables ++ t5

  abbrev t3 : List ℕ
  t3 = list_section 3 (λ (f : Func). u32_text f.ty) m.funcs ++ t4

  abbrev t2 : List ℕ
  t2 = list_section 2 import_text m.imports ++ t3

  abbrev t1 : List ℕ
  t1 = list_section 1 func_type_text m.types ++ t2

regroup : (h a1 a2 a3 a4 a5 a6 a7 a8 a9 a10 a11 a12 : List ℕ) → h ++ a1 ++ a2 ++ a3 ++ a4 ++ a5 ++ a6 ++ a7 ++ a8 ++ a9 ++ a10 ++ a11 ++ a12 ≡ h ++ (a1 ++ (a2 ++ (a3 ++ (a4 ++ (a5 ++ (a6 ++ (a7 ++ (a8 ++ (a9 ++ (a10 ++ (a11 ++ (a12 ++ []))))))))))))
regroup h a1 a2 a3 a4 a5 a6 a7 a8 a9 a10 a11 a12 =
    ap (λ t. (h ++ a1 ++ a2 ++ a3 ++ a4 ++ a5 ++ a6 ++ a7 ++ a8 ++ a9 ++ a10 ++ a11) ++ t) (sym (append-nil a12))
    ∙ append_assoc (h ++ a1 ++ a2 ++ a3 ++ a4 ++ a5 ++ a6 ++ a7 ++ a8 ++ a9 ++ a10) a11 (a12 ++ [])
    ∙ append_assoc (h ++ a1 ++ a2 ++ a3 ++ a4 ++ a5 ++ a6 ++ a7 ++ a8 ++ a9) a10 (a11 ++ (a12 ++ []))
    ∙ append_assoc (h ++ a1 ++ a2 ++ a3 ++ a4 ++ a5 ++ a6 ++ a7 ++ a8) a9 (a10 ++ (a11 ++ (a12 ++ [])))
    ∙ append_assoc (h ++ a1 ++ a2 ++ a3 ++ a4 ++ a5 ++ a6 ++ a7) a8 (a9 ++ (a10 ++ (a11 ++ (a12 ++ []))))
    ∙ append_assoc (h ++ a1 ++ a2 ++ a3 ++ a4 ++ a5 ++ a6) a7 (a8 ++ (a9 ++ (a10 ++ (a11 ++ (a12 ++ [])))))
    ∙ append_assoc (h ++ a1 ++ a2 ++ a3 ++ a4 ++ a5) a6 (a7 ++ (a8 ++ (a9 ++ (a10 ++ (a11 ++ (a12 ++ []))))))
    ∙ append_assoc (h ++ a1 ++ a2 ++ a3 ++ a4) a5 (a6 ++ (a7 ++ (a8 ++ (a9 ++ (a10 ++ (a11 ++ (a12 ++ [])))))))
    ∙ append_assoc (h ++ a1 ++ a2 ++ a3) a4 (a5 ++ (a6 ++ (a7 ++ (a8 ++ (a9 ++ (a10 ++ (a11 ++ (a12 ++ []))))))))
    ∙ append_assoc (h ++ a1 ++ a2) a3 (a4 ++ (a5 ++ (a6 ++ (a7 ++ (a8 ++ (a9 ++ (a10 ++ (a11 ++ (a12 ++ [])))))))))
    ∙ append_assoc (h ++ a1) a2 (a3 ++ (a4 ++ (a5 ++ (a6 ++ (a7 ++ (a8 ++ (a9 ++ (a10 ++ (a11 ++ (a12 ++ []))))))))))
    ∙ append_assoc h a1 (a2 ++ (a3 ++ (a4 ++ (a5 ++ (a6 ++ (a7 ++ (a8 ++ (a9 ++ (a10 ++ (a11 ++ (a12 ++ [])))))))))))

plain_regrouped : (m : Module) → plain m ≡ header ++ t1 m
unfolding plain
plain_regrouped m = regroup header (list_section 1 func_type_text m.types) (list_section 2 import_text m.imports) (list_section 3 (λ (f : Func). u32_text f.ty) m.funcs) (list_section 4 table_text m.tables) (list_section 5 limits_text m.mems) (list_section 6 global_text m.globals)
    (list_section 7 export_text m.exports) (start_section m.start) (list_section 9 elem_text m.elems) (count_section m) (list_section 10 entry_text m.funcs) (list_section 11 data_text m.datas)

all_sections : TextLaws → ItemsArePrefixFree → (m : Module) → InRange m → memory_zero_funcs m.funcs ≡ true → SmallSizes m → Rest (WithinLimits m) 0 nothing (t1 m) (p12 m)
all_sections laws free m r one s =
    let W = WithinLimits m in
    let r12 = datas_more laws free m (p12 m) [] r s.datas.size (done W 12 (p12 m)) in
    let r11 = codes_more laws free m (p12 m) (t12 m) (all_spellable m.funcs r.funcs one) s.codes.size r12 in
    let r10 = count_more laws W (p9 m) (p12 m) (any_uses_data m.funcs) (length m.datas) (t11 m) refl s.datas.items r11 in
    let r9 = elems_more laws free m (p12 m) (t10 m) r s.elems.size r10 in
    let r8 = start_more laws W (p7 m) (p12 m) m.start (t9 m) refl r.start r9 in
    let r7 = exports_more laws free m (p12 m) (t8 m) r s.exports.size r8 in
    let r6 = globals_more laws free m (p12 m) (t7 m) r s.globals.size r7 in
    let r5 = mems_more laws free m (p12 m) (t6 m) r s.mems.size r6 in
    let r4 = tables_more laws free m (p12 m) (t5 m) r s.tables.size r5 in
    let r3 = func_section_more laws free m (p12 m) (t4 m) r s.func_types.size r4 in
    let r2 = imports_more laws free m (p12 m) (t3 m) r s.imports.size r3 in
    types_more laws free m (p12 m) (t2 m) r s.types.size r2

-- The sections of a short module are short.
pub record SectionLengths (m : Module) : Type 0 where
  pub types : length (list_section 1 func_type_text m.types) < 2 ^ 32
  pub imports : length (list_section 2 import_text m.imports) < 2 ^ 32
  pub func_types : length (list_section 3 (λ (f : Func). u32_text f.ty) m.funcs) < 2 ^ 32
  pub tables : length (list_section 4 table_text m.tables) < 2 ^ 32
  pub mems : length (list_section 5 limits_text m.mems) < 2 ^ 32
  pub globals : length (list_section 6 global_text m.globals) < 2 ^ 32
  pub exports : length (list_section 7 export_text m.exports) < 2 ^ 32
  pub elems : length (list_section 9 elem_text m.elems) < 2 ^ 32
  pub codes : length (list_section 10 entry_text m.funcs) < 2 ^ 32
  pub datas : length (list_section 11 data_text m.datas) < 2 ^ 32

pub section_lengths : (m : Module) → length (plain m) < 2 ^ 32 → SectionLengths m
section_lengths m few =
    let whole = plain_regrouped m in
    let short : length (t1 m) < 2 ^ 32 = omega (arith, few, ap length whole, length-append header (t1 m)) in
    let s1 = parted (list_section 1 func_type_text m.types) (t2 m) short in
    let s2 = parted (list_section 2 import_text m.imports) (t3 m) s1.1 in
    let s3 = parted (list_section 3 (λ (f : Func). u32_text f.ty) m.funcs) (t4 m) s2.1 in
    let s4 = parted (list_section 4 table_text m.tables) (t5 m) s3.1 in
    let s5 = parted (list_section 5 limits_text m.mems) (t6 m) s4.1 in
    let s6 = parted (list_section 6 global_text m.globals) (t7 m) s5.1 in
    let s7 = parted (list_section 7 export_text m.exports) (t8 m) s6.1 in
    let s8 = parted (start_section m.start) (t9 m) s7.1 in
    let s9 = parted (list_section 9 elem_text m.elems) (t10 m) s8.1 in
    let s10 = parted (count_section m) (t11 m) s9.1 in
    let s11 = parted (list_section 10 entry_text m.funcs) (t12 m) s10.1 in
    let s12 = parted (list_section 11 data_text m.datas) [] s11.1 in
    record { types = s1.0; imports = s2.0; func_types = s3.0; tables = s4.0; mems = s5.0; globals = s6.0; exports = s7.0; elems = s9.0; codes = s11.0; datas = s12.0 }

-- ---- the whole file

typed_again : (fs : List Func) → typed (map (λ (f : Func). f.ty) fs) (map untyped (map code_in fs)) ≡ fs
typed_again [] = refl
typed_again (f ∷ fs) = ap (λ t. f ∷ t) (typed_again fs)

counted_right : (b : Bool) (n : ℕ) (p : Parts) → any_uses_data p.codes ≡ b → n ≡ length p.datas → Counted p (count_of b n)
counted_right true n p uses count = count
counted_right false n p uses count = uses

rules : (m : Module) → Rules (p12 m)
rules m = record {
  functions = length-map m.funcs (λ (f : Func). f.ty) ∙ sym (length-map (map code_in m.funcs) untyped ∙ length-map m.funcs code_in);
  counted = counted_right (any_uses_data m.funcs) (length m.datas) (p12 m) (sym (funcs_use_same m.funcs)) (sym (length-map m.datas (λ (x : DataSeg). x)));
}

module_of : (ts ts' : List FuncType) (is is' : List Import) (fs fs' : List Func) (bs bs' : List TableType) (ms ms' : List Limits) (gs gs' : List GlobalDef) (es es' : List Export) (s : Option ℕ) (ls ls' : List ElemSeg) (ds ds' : List DataSeg) →
    ts ≡ ts' → is ≡ is' → fs ≡ fs' → bs ≡ bs' → ms ≡ ms' → gs ≡ gs' → es ≡ es' → ls ≡ ls' → ds ≡ ds' →
    ◌≡◌ {A = Module} (record { types = ts; imports = is; funcs = fs; tables = bs; mems = ms; globals = gs; exports = es; start = s; elems = ls; datas = ds })
    (record { types = ts'; imports = is'; funcs = fs'; tables = bs'; mems = ms'; globals = gs'; exports = es'; start = s; elems = ls'; datas = ds' })
module_of ts ts' is is' fs fs' bs bs' ms ms' gs gs' es es' s ls ls' ds ds' a b c d e f g h k =
    λ i. record { types = a i; imports = b i; funcs = c i; tables = d i; mems = e i; globals = f i; exports = g i; start = s; elems = h i; datas = k i }

tree_again : (m : Module) → m ≡ tree_of (p12 m)
tree_again m = module_of _ _ _ _ _ _ _ _ _ _ _ _ _ _ m.start _ _ _ _
    (sym (map_id m.types)) (sym (map_id m.imports)) (sym (typed_again m.funcs)) (sym (map_id m.tables)) (sym (map_id m.mems)) (sym (map_id m.globals)) (sym (map_id m.exports)) (sym (map_id m.elems)) (sym (map_id m.datas))

pub plain_spelled : TextLaws → ItemsArePrefixFree → (m : Module) → InRange m → IsTrue (memory_zero_funcs m.funcs) → SmallSizes m → Spells (plain m) m false
plain_spelled laws free m r one s =
    let a = all_sections laws free m r one s 0 (omega arith) in
    (a.0, p12 m, (header, t1 m, refl, a.1, plain_regrouped m), a.2, rules m, tree_again m)

-- The canonical encoding is within the limits if the tree is.
pub plain_within : TextLaws → ItemsArePrefixFree → FramesAreUnique → (m : Module) → InRange m → IsTrue (memory_zero_funcs m.funcs) → SmallSizes m → WithinLimits m → Within (plain m) false
plain_within laws free unique m r one s w =
    let a = all_sections laws free m r one s 0 (omega arith) in
    λ ss framed. subst (Every (SectionIsSmall false)) (unique (plain m) a.0 ss (header, t1 m, refl, a.1, plain_regrouped m) framed) (a.3 w)
