-- Each part agrees with the merged module along the part's map, and the map covers the part.
use Rattle.base_lists.proofs.Common.{◌≡◌, ◌∙◌, ap, sym, subst, refl, ℕ, ◌+◌, ◌<◌, List, map, length, Option, Some, None, true, arith, ◌⊎◌, inl, inr, slice_get, slice_index, option_and_then, length-map, slice_get_within, slice_get_there, slice_index_is, map_at, map_from, append_from, chosen_from}
use Rattle.base_lists.proofs.Common.{numbers_at, length-numbers, and_then_is}
use Rattle.wasm_tree_spec.specs.Prelude.{Space, Types, Functions, Tables, Memories, Globals, DataSegments, ElementSegments, RefType, FuncType, GlobalType, Import, ImportDesc, Func, ElemSeg, DataSeg, Module, funcs_of, tables_of, memories_of, globals_of, type_of_func}
use Rattle.wasm_tree.specs.declared.module.ImportDesc.TheVariants as im
use Rattle.wasm_valid.specs.declared.kinds.ItemKind.TheVariants as kind
use Rattle.wasm_valid.specs.Prelude.{table_types, elem_types, ImportHolds, ItemsHold}
use Rattle.wasm_meaning.specs.Prelude.{Text, EndsArePaths, numbers, defined_before, Part, module_at}
use Rattle.index_remap.specs.declared.remap.Remap.{Remap}
use Rattle.index_remap.specs.Prelude.{Keeps}
use Rattle.index_remap_proof.specs.Indices.{with_entry}
use Rattle.index_remap_proof.specs.Trees.{TreesAgree, Covers}
use Rattle.merge_spec.specs.Prelude.{merged_elem, merged_data, by_part, new_index}
use Rattle.merge_spec.specs.Merged.{merged, map_of}
use Rattle.merge_proof.specs.ImportEnds.{is_external}
use Rattle.merge_proof.proofs.EntityTypes.{of_desc, of_import, own, imported, space, Ty, FuncTy, TableTy, MemoryTy, GlobalTy, type_of, type_at, typed_external}
use Rattle.merge_proof.proofs.ListsByPart.{by_part_at}
use Rattle.merge_proof.proofs.TypePlaces.{type_stands, types_map}
use Rattle.merge_proof.proofs.MergedSpaces.{types_are}
use Rattle.merge_proof.proofs.LinkFaults.{AllAreSuited}
use Rattle.merge_proof.proofs.NewIndices.{entry_kept}

-- ---- the lists of a map ----

abbrev pub entries : Space → Remap → List ℕ
entries Functions r = r.funcs
entries Tables r = r.tables
entries Memories r = r.mems
entries Globals r = r.globals
entries Types r = r.types
entries ElementSegments r = r.elems
entries DataSegments r = r.datas

entries_are : (parts : List Part) (p : ℕ) (m : Module) (k : Space) → is_external k ≡ true → entries k (map_of parts p m) ≡ map (new_index parts p k) (numbers 0 (length (space k m)))
unfolding map_of
entries_are parts p m Functions e = refl
entries_are parts p m Tables e = refl
entries_are parts p m Memories e = refl
entries_are parts p m Globals e = refl
entries_are parts p m Types e = cc
entries_are parts p m ElementSegments e = cc
entries_are parts p m DataSegments e = cc

pub entries_many : (parts : List Part) (p : ℕ) (m : Module) (k : Space) → is_external k ≡ true → length (entries k (map_of parts p m)) ≡ length (space k m)
entries_many parts p m k e =
    ap length (entries_are parts p m k e) ∙ length-map (numbers 0 (length (space k m))) (new_index parts p k) ∙ length-numbers 0 (length (space k m))

pub entry_at : (parts : List Part) (p : ℕ) (m : Module) (k : Space) (i : ℕ) → is_external k ≡ true → i < length (space k m) → slice_index (entries k (map_of parts p m)) i ≡ new_index parts p k i
entry_at parts p m k i e lt =
    let from_0 : 0 + i ≡ i = omega arith in
    ap (λ z. slice_index z i) (entries_are parts p m k e)
    ∙ slice_index_is (map (new_index parts p k) (numbers 0 (length (space k m)))) i (new_index parts p k i) (map_at (new_index parts p k) (numbers 0 (length (space k m))) i i (numbers_at 0 (length (space k m)) i lt ∙ ap Some from_0))

elem_entries : (parts : List Part) (p : ℕ) (m : Module) → (map_of parts p m).elems ≡ numbers (defined_before ElementSegments parts p) (length m.elems)
unfolding map_of
elem_entries parts p m = refl

data_entries : (parts : List Part) (p : ℕ) (m : Module) → (map_of parts p m).datas ≡ numbers (defined_before DataSegments parts p) (length m.datas)
unfolding map_of
data_entries parts p m = refl

elem_entry : (parts : List Part) (p : ℕ) (m : Module) (i : ℕ) → i < length m.elems → slice_index (map_of parts p m).elems i ≡ defined_before ElementSegments parts p + i
elem_entry parts p m i lt = ap (λ z. slice_index z i) (elem_entries parts p m) ∙ slice_index_is (numbers (defined_before ElementSegments parts p) (length m.elems)) i (defined_before ElementSegments parts p + i) (numbers_at (defined_before ElementSegments parts p) (length m.elems) i lt)

data_entry : (parts : List Part) (p : ℕ) (m : Module) (i : ℕ) → i < length m.datas → slice_index (map_of parts p m).datas i ≡ defined_before DataSegments parts p + i
data_entry parts p m i lt = ap (λ z. slice_index z i) (data_entries parts p m) ∙ slice_index_is (numbers (defined_before DataSegments parts p) (length m.datas)) i (defined_before DataSegments parts p + i) (numbers_at (defined_before DataSegments parts p) (length m.datas) i lt)

pub map_covers : (parts : List Part) (p : ℕ) (m : Module) → Covers (map_of parts p m) m
map_covers parts p m =
    let f = entries_many parts p m Functions refl in
    let t = entries_many parts p m Tables refl in
    let n = entries_many parts p m Memories refl in
    let g = entries_many parts p m Globals refl in
    let ty = ap length (types_map parts p m) ∙ length-map m.types _ in
    let e = ap length (elem_entries parts p m) ∙ length-numbers (defined_before ElementSegments parts p) (length m.elems) in
    let d = ap length (data_entries parts p m) ∙ length-numbers (defined_before DataSegments parts p) (length m.datas) in
    record { types = omega (arith, ty); funcs = omega (arith, f); tables = omega (arith, t); memories = omega (arith, n); globals = omega (arith, g); elems = omega (arith, e); datas = omega (arith, d) }

-- ---- types of entries, as the definition of validity states them ----

pub func_to : (m : Module) (i : ℕ) (ft : FuncType) → type_of_func m i ≡ Some ft → type_at m Functions i ≡ Some (FuncTy ft)
func_to m i ft h = by (slice_get (funcs_of m) i) h
  where
    by : (o : Option ℕ) → option_and_then (slice_get m.types) o ≡ Some ft → option_and_then (type_of m Functions) o ≡ Some (FuncTy ft)
    by None h = cc
    by (Some ty) h = ap (λ o. option_and_then (λ t. Some (FuncTy t)) o) h

pub func_back : (m : Module) (i : ℕ) (ft : FuncType) → type_at m Functions i ≡ Some (FuncTy ft) → type_of_func m i ≡ Some ft
func_back m i ft h = by (slice_get (funcs_of m) i) h
  where
    inner : (o : Option FuncType) → option_and_then (λ t. Some (FuncTy t)) o ≡ Some (FuncTy ft) → o ≡ Some ft
    inner None h = cc
    inner (Some t) h = let same : t ≡ ft = cc in ap Some same

    by : (o : Option ℕ) → option_and_then (type_of m Functions) o ≡ Some (FuncTy ft) → option_and_then (slice_get m.types) o ≡ Some ft
    by None h = cc
    by (Some ty) h = inner (slice_get m.types ty) h

table_to : (m : Module) (i : ℕ) (r : RefType) → slice_get (table_types m) i ≡ Some r → type_at m Tables i ≡ Some (TableTy r)
table_to m i r h = let t = map_from (λ t. t.ty) (tables_of m) i r h in ap (λ o. option_and_then (type_of m Tables) o) t.1 ∙ ap (λ z. Some (TableTy z)) t.2

table_back : (m : Module) (i : ℕ) (r : RefType) → type_at m Tables i ≡ Some (TableTy r) → slice_get (table_types m) i ≡ Some r
table_back m i r h =
    let t = and_then_is (slice_get (tables_of m) i) (type_of m Tables) (TableTy r) h in
    let q = t.2 in
    let same : t.0.ty ≡ r = cc in map_at (λ t. t.ty) (tables_of m) i t.0 t.1 ∙ ap Some same

global_back : (m : Module) (i : ℕ) (g : GlobalType) → type_at m Globals i ≡ Some (GlobalTy g) → slice_get (globals_of m) i ≡ Some g
global_back m i g h =
    let t = and_then_is (slice_get (globals_of m) i) (type_of m Globals) (GlobalTy g) h in
    let q = t.2 in
    let same : t.0 ≡ g = cc in t.1 ∙ ap Some same

pub at_there : (m : Module) (k : Space) (i : ℕ) (y : Ty) → type_at m k i ≡ Some y → i < length (space k m)
at_there m k i y h = let c = and_then_is (slice_get (space k m) i) (type_of m k) y h in slice_get_within (space k m) i c.0 c.1

-- ---- each function of a valid module has its type ----

func_holds : (m : Module) (d : ImportDesc) (ty : ℕ) → of_desc Functions d ≡ Some ty → ImportHolds m d → ty < length m.types
func_holds m (im.Func t) ty e h = let same : t ≡ ty = cc in subst (λ z. z < length m.types) same h
func_holds m (im.Table t) ty e h = absurd (let k = e in cc)
func_holds m (im.Memory t) ty e h = absurd (let k = e in cc)
func_holds m (im.Global t) ty e h = absurd (let k = e in cc)

pub func_there : (m : Module) → ItemsHold m → (i : ℕ) → i < length (funcs_of m) → (ft : FuncType) × (type_of_func m i ≡ Some ft)
func_there m holds i lt = by (slice_get_there (funcs_of m) i lt)
  where
    in_imports : (ty : ℕ) → slice_get (imported Functions m) i ≡ Some ty → ty < length m.types
    in_imports ty h =
        let r = chosen_from (of_import Functions) m.imports i ty h in
        let z = holds kind.Import r.1.0 (slice_get_within m.imports r.1.0 r.0 r.1.1) in
        let both : Some z.0 ≡ Some r.0 = sym z.1 ∙ r.1.1 in
        let same : z.0 ≡ r.0 = cc in
        func_holds m r.0.desc ty r.2 (subst (λ (x : Import). ImportHolds m x.desc) same z.2)

    in_funcs : (j ty : ℕ) → slice_get (own Functions m) j ≡ Some ty → ty < length m.types
    in_funcs j ty h =
        let r = map_from (λ f. f.ty) m.funcs j ty h in
        let z = holds kind.Func j (slice_get_within m.funcs j r.0 r.1) in
        let both : Some z.0 ≡ Some r.0 = sym z.1 ∙ r.1 in
        let same : z.0 ≡ r.0 = cc in
        subst (λ z. z < length m.types) (ap (λ (f : Func). f.ty) same ∙ r.2) z.2

    within_types : (ty : ℕ) → (slice_get (imported Functions m) i ≡ Some ty) ⊎ ((j : ℕ) × (i ≡ length (imported Functions m) + j) × (slice_get (own Functions m) j ≡ Some ty)) → ty < length m.types
    within_types ty (inl h) = in_imports ty h
    within_types ty (inr r) = in_funcs r.0 ty r.2

    by : (ty : ℕ) × (slice_get (funcs_of m) i ≡ Some ty) → (ft : FuncType) × (type_of_func m i ≡ Some ft)
    by (ty, h) =
        let ft = slice_get_there m.types ty (within_types ty (append_from (imported Functions m) (own Functions m) i ty h)) in
        (ft.0, ap (option_and_then (slice_get m.types)) h ∙ ft.1)

-- ---- segments ----

pub elems_are : (parts : List Part) (names : List (Option Text)) → (merged parts names).elems ≡ by_part (λ p m. map (merged_elem parts p (map_of parts p m)) m.elems) parts
unfolding merged
elems_are parts names = refl

pub datas_are : (parts : List Part) (names : List (Option Text)) → (merged parts names).datas ≡ by_part (λ p m. map (merged_data parts p (map_of parts p m)) m.datas) parts
unfolding merged
datas_are parts names = refl

elem_stands : (parts : List Part) (names : List (Option Text)) (p : ℕ) (m : Module) (i : ℕ) (s : ElemSeg) → module_at parts p ≡ Some m → slice_get m.elems i ≡ Some s →
    slice_get (merged parts names).elems (defined_before ElementSegments parts p + i) ≡ Some (merged_elem parts p (map_of parts p m) s)
elem_stands parts names p m i s is h =
    let part_0 : 0 + p ≡ p = omega arith in
    ap (λ z. slice_get z (defined_before ElementSegments parts p + i)) (elems_are parts names)
    ∙ by_part_at (λ p m. map (merged_elem parts p (map_of parts p m)) m.elems) ElementSegments (λ p m. length-map m.elems (merged_elem parts p (map_of parts p m))) 0 parts p m i (merged_elem parts p (map_of parts p m) s) is
    (ap (λ q. slice_get (map (merged_elem parts q (map_of parts q m)) m.elems) i) part_0 ∙ map_at (merged_elem parts p (map_of parts p m)) m.elems i s h)

data_stands : (parts : List Part) (names : List (Option Text)) (p : ℕ) (m : Module) (i : ℕ) (s : DataSeg) → module_at parts p ≡ Some m → slice_get m.datas i ≡ Some s →
    slice_get (merged parts names).datas (defined_before DataSegments parts p + i) ≡ Some (merged_data parts p (map_of parts p m) s)
data_stands parts names p m i s is h =
    let part_0 : 0 + p ≡ p = omega arith in
    ap (λ z. slice_get z (defined_before DataSegments parts p + i)) (datas_are parts names)
    ∙ by_part_at (λ p m. map (merged_data parts p (map_of parts p m)) m.datas) DataSegments (λ p m. length-map m.datas (merged_data parts p (map_of parts p m))) 0 parts p m i (merged_data parts p (map_of parts p m) s) is
    (ap (λ q. slice_get (map (merged_data parts q (map_of parts q m)) m.datas) i) part_0 ∙ map_at (merged_data parts p (map_of parts p m)) m.datas i s h)

-- ---- agreement ----

module _ (law : EndsArePaths) (parts : List Part) (names : List (Option Text)) (links : AllAreSuited parts) (p : ℕ) (m : Module) (is : module_at parts p ≡ Some m) (holds : ItemsHold m) where
  kept : (k : Space) (i : ℕ) (y : Ty) → type_at m k i ≡ Some y → type_at (merged parts names) k (slice_index (entries k (map_of parts p m)) i) ≡ Some y
  kept k i y h = ap (type_at (merged parts names) k) (entry_at parts p m k i (typed_external m k i y h) (at_there m k i y h)) ∙ entry_kept law parts names links p m k i y is h

  func_within : (i : ℕ) → i < length (funcs_of m) → slice_index (map_of parts p m).funcs i < length (funcs_of (merged parts names))
  func_within i lt = let ft = func_there m holds i lt in at_there (merged parts names) Functions _ _ (kept Functions i (FuncTy ft.0) (func_to m i ft.0 ft.1))

  memory_within : (i : ℕ) → i < length (memories_of m) → slice_index (map_of parts p m).mems i < length (memories_of (merged parts names))
  memory_within i lt = let l = slice_get_there (memories_of m) i lt in at_there (merged parts names) Memories _ _ (kept Memories i MemoryTy (ap (λ o. option_and_then (type_of m Memories) o) l.1))

  elem_kept : (i : ℕ) → Keeps (slice_get (elem_types m.elems) i) (slice_get (elem_types (merged parts names).elems) (slice_index (map_of parts p m).elems i))
  elem_kept i r h =
      let s = map_from (λ s. s.ty) m.elems i r h in
      ap (slice_get (elem_types (merged parts names).elems)) (elem_entry parts p m i (slice_get_within m.elems i s.0 s.1))
      ∙ map_at (λ s. s.ty) (merged parts names).elems (defined_before ElementSegments parts p + i) (merged_elem parts p (map_of parts p m) s.0) (elem_stands parts names p m i s.0 is s.1) ∙ ap Some s.2

  data_kept : (i : ℕ) → i < length m.datas → slice_index (map_of parts p m).datas i < length (merged parts names).datas
  data_kept i lt =
      let s = slice_get_there m.datas i lt in
      subst (λ n. n < length (merged parts names).datas) (sym (data_entry parts p m i lt)) (slice_get_within (merged parts names).datas (defined_before DataSegments parts p + i) (merged_data parts p (map_of parts p m) s.0) (data_stands parts names p m i s.0 is s.1))

  pub trees_agree : TreesAgree (map_of parts p m) (with_entry (map_of parts p m)) m (merged parts names)
  trees_agree = record {
    types = λ i lt t h. ap (λ z. slice_get z (slice_index (map_of parts p m).types i)) (types_are parts names) ∙ type_stands parts p m i t is h;
    funcs = λ i lt ft h. func_back (merged parts names) _ ft (kept Functions i (FuncTy ft) (func_to m i ft h));
    func_space = λ i lt slice_get_within. func_within i slice_get_within;
    tables = λ i lt r h. table_back (merged parts names) _ r (kept Tables i (TableTy r) (table_to m i r h));
    memories = λ i lt slice_get_within. memory_within i slice_get_within;
    globals = λ i lt g h. global_back (merged parts names) _ g (kept Globals i (GlobalTy g) (ap (λ o. option_and_then (type_of m Globals) o) h));
    elems = λ i lt. elem_kept i;
    datas = λ i lt slice_get_within. data_kept i slice_get_within;
  }
