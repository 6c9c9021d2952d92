-- The index spaces of the merged module: imports that stay and entities that parts define are at
-- their places, with their types.
use Rattle.base_lists.proofs.Common.{◌≡◌, ◌∙◌, ap, sym, subst, refl, ℕ, ◌+◌, List, [], ◌++◌, map, length, Option, Some, None, true, false, arith, option_and_then, unwrap_or, is_some, append-nil, slice_get, slice_index, filter_map, length-map, map-append, map_twice, map_at, append_at_left}
use Rattle.base_lists.proofs.Common.{append_right, and_then_is, map-id}
use Rattle.wasm_tree_spec.specs.Prelude.{Space, Types, Functions, Tables, Memories, Globals, ElementSegments, DataSegments, Import, ImportDesc, Module}
use Rattle.wasm_tree.specs.declared.module.ImportDesc.TheVariants as im
use Rattle.wasm_meaning.specs.Prelude.{Text, defined_count, defined_before, Part, Site, has_kind, module_at, import_at}
use Rattle.index_remap.specs.Prelude.{new_func}
use Rattle.merge_spec.specs.Prelude.{merged_types, map_of, merged_desc, merged_global, staying, imports_kind, start_calls, starts, by_part}
use Rattle.merge_spec.specs.Merged.{merged, merged_import, staying_of, defined_funcs}
use Rattle.merge_proof.specs.ImportEnds.{is_external}
use Rattle.merge_proof.proofs.EntityTypes.{Entry, of_desc, of_import, own, imported, space, import_kind, own_many, entry_external, Ty, FuncTy, type_of, type_at}
use Rattle.merge_proof.proofs.ListsByPart.{by_part_at, by_part_map, by_part_same, by_part_flat, by_part_many}
use Rattle.merge_proof.proofs.TypePlaces.{type_stands}
use Rattle.base_lists.proofs.Filtered.{chosen_at, as_many, chosen_twice}

-- ---- the lists of the merged module ----

pub types_are : (parts : List Part) (names : List (Option Text)) → (merged parts names).types ≡ merged_types parts
unfolding merged
types_are parts names = refl

pub imports_are : (parts : List Part) (names : List (Option Text)) → (merged parts names).imports ≡ filter_map (merged_import parts) (staying parts)
unfolding merged
imports_are parts names = refl

-- The entry of the merged module that an entry of a part becomes: the type index of a function
-- changes.
abbrev pub moved : List Part → (k : Space) → ℕ → Module → Entry k → Entry k
moved parts Functions p m ty = slice_index (map_of parts p m).types ty
moved parts Tables p m t = t
moved parts Memories p m l = l
moved parts Globals p m t = t
moved parts Types p m c = c
moved parts ElementSegments p m c = c
moved parts DataSegments p m c = c

-- The entries that are added to what the parts define: the function that calls several starts.
abbrev pub extra : List Part → (k : Space) → List (Entry k)
extra parts Functions = map (λ f. f.ty) (start_calls parts (starts parts))
extra parts Tables = []
extra parts Memories = []
extra parts Globals = []
extra parts Types = []
extra parts ElementSegments = []
extra parts DataSegments = []

abbrev pub moved_own : List Part → (k : Space) → ℕ → Module → List (Entry k)
moved_own parts k p m = map (moved parts k p m) (own k m)

own_funcs : (parts : List Part) → map (λ f. f.ty) (defined_funcs parts ++ start_calls parts (starts parts)) ≡ by_part (moved_own parts Functions) parts ++ extra parts Functions
unfolding defined_funcs
own_funcs parts =
    map-append (λ f. f.ty) (defined_funcs parts) (start_calls parts (starts parts))
    ∙ ap (λ z. z ++ extra parts Functions) (by_part_map (λ f. f.ty) (λ p m. map (new_func (map_of parts p m)) m.funcs) 0 parts
    ∙ by_part_same (λ p m. map (λ f. f.ty) (map (new_func (map_of parts p m)) m.funcs)) (moved_own parts Functions) (λ p m. map_twice (λ f. f.ty) (new_func (map_of parts p m)) m.funcs ∙ sym (map_twice (moved parts Functions p m) (λ f. f.ty) m.funcs)) 0 parts)

own_global_types : (parts : List Part) → map (λ g. g.ty) (by_part (λ p m. map (merged_global parts p) m.globals) parts) ≡ by_part (moved_own parts Globals) parts ++ []
own_global_types parts =
    by_part_map (λ g. g.ty) (λ p m. map (merged_global parts p) m.globals) 0 parts
    ∙ by_part_same (λ p m. map (λ g. g.ty) (map (merged_global parts p) m.globals)) (moved_own parts Globals) (λ p m. map_twice (λ g. g.ty) (merged_global parts p) m.globals ∙ sym (map-id (map (λ g. g.ty) m.globals))) 0 parts
    ∙ sym (append-nil (by_part (moved_own parts Globals) parts))

pub own_is : (parts : List Part) (names : List (Option Text)) (k : Space) → is_external k ≡ true → own k (merged parts names) ≡ by_part (moved_own parts k) parts ++ extra parts k
unfolding merged
own_is parts names Functions e = own_funcs parts
own_is parts names Tables e =
    by_part_flat (λ m. m.tables) 0 parts ∙ by_part_same (λ p m. m.tables) (moved_own parts Tables) (λ p m. sym (map-id m.tables)) 0 parts ∙ sym (append-nil (by_part (moved_own parts Tables) parts))
own_is parts names Memories e =
    by_part_flat (λ m. m.mems) 0 parts ∙ by_part_same (λ p m. m.mems) (moved_own parts Memories) (λ p m. sym (map-id m.mems)) 0 parts ∙ sym (append-nil (by_part (moved_own parts Memories) parts))
own_is parts names Globals e = own_global_types parts
own_is parts names Types e = cc
own_is parts names ElementSegments e = cc
own_is parts names DataSegments e = cc

own_count : (parts : List Part) (k : Space) → is_external k ≡ true → (p : ℕ) (m : Module) → length (moved_own parts k p m) ≡ defined_count k m
own_count parts k e p m = length-map (own k m) (moved parts k p m) ∙ own_many k m e

pub all_own : (parts : List Part) (k : Space) → is_external k ≡ true → length (by_part (moved_own parts k) parts) ≡ defined_before k parts (length parts)
all_own parts k e = by_part_many (moved_own parts k) k (own_count parts k e) 0 parts

-- ---- imports that stay ----

desc_moved : (parts : List Part) (s : Site) (m : Module) (k : Space) (d : ImportDesc) → is_some (of_desc k (merged_desc parts s m d)) ≡ is_some (of_desc k d)
desc_moved parts s m Functions (im.Func t) = refl
desc_moved parts s m Functions (im.Table t) = refl
desc_moved parts s m Functions (im.Memory t) = refl
desc_moved parts s m Functions (im.Global t) = refl
desc_moved parts s m Tables (im.Func t) = refl
desc_moved parts s m Tables (im.Table t) = refl
desc_moved parts s m Tables (im.Memory t) = refl
desc_moved parts s m Tables (im.Global t) = refl
desc_moved parts s m Memories (im.Func t) = refl
desc_moved parts s m Memories (im.Table t) = refl
desc_moved parts s m Memories (im.Memory t) = refl
desc_moved parts s m Memories (im.Global t) = refl
desc_moved parts s m Globals (im.Func t) = refl
desc_moved parts s m Globals (im.Table t) = refl
desc_moved parts s m Globals (im.Memory t) = refl
desc_moved parts s m Globals (im.Global t) = refl
desc_moved parts s m Types d = refl
desc_moved parts s m ElementSegments d = refl
desc_moved parts s m DataSegments d = refl

import_moved : (parts : List Part) (k : Space) (s : Site) → is_some (option_and_then (of_import k) (merged_import parts s)) ≡ imports_kind parts k s
unfolding merged_import
import_moved parts k s = by (module_at parts s.part)
  where
    inner : (m : Module) (o : Option Import) → is_some (option_and_then (of_import k) (option_and_then {T = Import} {U = Import} (λ i. Some (record i { desc = merged_desc parts s m i.desc })) o)) ≡ unwrap_or (option_and_then (λ i. Some (has_kind k i)) o) false
    inner m None = refl
    inner m (Some i) = desc_moved parts s m k i.desc ∙ import_kind k i

    by : (o : Option Module) →
        is_some (option_and_then (of_import k) (option_and_then (λ m. option_and_then {T = Import} {U = Import} (λ i. Some (record i { desc = merged_desc parts s m i.desc })) (option_and_then (λ m. slice_get m.imports s.import) o)) o)) ≡
        unwrap_or (option_and_then (λ i. Some (has_kind k i)) (option_and_then (λ m. slice_get m.imports s.import) o)) false
    by None = refl
    by (Some m) = inner m (slice_get m.imports s.import)

pub imported_many : (parts : List Part) (names : List (Option Text)) (k : Space) → length (imported k (merged parts names)) ≡ length (staying_of parts k)
unfolding staying_of
imported_many parts names k =
    ap (λ z. length (filter_map (of_import k) z)) (imports_are parts names) ∙ ap length (chosen_twice (merged_import parts) (of_import k) (staying parts))
    ∙ as_many (imports_kind parts k) (λ s. option_and_then (of_import k) (merged_import parts s)) (staying parts) (import_moved parts k)

imported_at : (parts : List Part) (names : List (Option Text)) (k : Space) (n : ℕ) (s : Site) → slice_get (staying_of parts k) n ≡ Some s → slice_get (imported k (merged parts names)) n ≡ option_and_then (of_import k) (merged_import parts s)
unfolding staying_of
imported_at parts names k n s h =
    ap (λ z. slice_get (filter_map (of_import k) z) n) (imports_are parts names) ∙ ap (λ z. slice_get z n) (chosen_twice (merged_import parts) (of_import k) (staying parts))
    ∙ chosen_at (imports_kind parts k) (λ s. option_and_then (of_import k) (merged_import parts s)) (staying parts) (import_moved parts k) n s h

import_is : (parts : List Part) (s : Site) (m : Module) (i : Import) → module_at parts s.part ≡ Some m → import_at parts s ≡ Some i → merged_import parts s ≡ Some (record i { desc = merged_desc parts s m i.desc })
unfolding merged_import
import_is parts s m i e h = by (module_at parts s.part) e h
  where
    inner : (o : Option Import) → o ≡ Some i → option_and_then {T = Import} {U = Import} (λ i. Some (record i { desc = merged_desc parts s m i.desc })) o ≡ Some (record i { desc = merged_desc parts s m i.desc })
    inner None h = cc
    inner (Some j) h = let same : j ≡ i = cc in ap {A = Import} (λ j. Some (record j { desc = merged_desc parts s m j.desc })) same

    by : (o : Option Module) → o ≡ Some m → option_and_then (λ m. slice_get m.imports s.import) o ≡ Some i →
        option_and_then (λ n. option_and_then {T = Import} {U = Import} (λ i. Some (record i { desc = merged_desc parts s n i.desc })) (option_and_then (λ m. slice_get m.imports s.import) o)) o ≡ Some (record i { desc = merged_desc parts s m i.desc })
    by None e h = cc
    by (Some n) e h =
        let same : n ≡ m = cc in
        subst (λ n. option_and_then {T = Import} {U = Import} (λ i. Some (record i { desc = merged_desc parts s n i.desc })) (slice_get n.imports s.import) ≡ Some (record i { desc = merged_desc parts s m i.desc })) (sym same)
        (inner (slice_get m.imports s.import) (subst (λ n. slice_get n.imports s.import ≡ Some i) same h))

-- ---- types ----

type_moved : (parts : List Part) (names : List (Option Text)) (k : Space) (p : ℕ) (m : Module) (c : Entry k) (y : Ty) → module_at parts p ≡ Some m → type_of m k c ≡ Some y → type_of (merged parts names) k (moved parts k p m c) ≡ Some y
type_moved parts names Functions p m c y e h =
    let t = and_then_is (slice_get m.types c) (λ t. Some (FuncTy t)) y h in
    ap (λ z. option_and_then (λ t. Some (FuncTy t)) (slice_get z (moved parts Functions p m c))) (types_are parts names) ∙ ap (λ o. option_and_then (λ t. Some (FuncTy t)) o) (type_stands parts p m c t.0 e t.1) ∙ t.2
type_moved parts names Tables p m c y e h = h
type_moved parts names Memories p m c y e h = h
type_moved parts names Globals p m c y e h = h
type_moved parts names Types p m c y e h = absurd c
type_moved parts names ElementSegments p m c y e h = absurd c
type_moved parts names DataSegments p m c y e h = absurd c

record Stood (parts : List Part) (names : List (Option Text)) (k : Space) (d : ImportDesc) (y : Ty) : Type 0 where
  entry : Entry k
  is : of_desc k d ≡ Some entry
  typed : type_of (merged parts names) k entry ≡ Some y

stood : (parts : List Part) (names : List (Option Text)) (k : Space) (s : Site) (m : Module) (d : ImportDesc) (c : Entry k) (y : Ty) → module_at parts s.part ≡ Some m → of_desc k d ≡ Some c → type_of m k c ≡ Some y →
    Stood parts names k (merged_desc parts s m d) y
stood parts names Functions s m (im.Func t) c y e is h =
    let same : t ≡ c = cc in record { entry = slice_index (map_of parts s.part m).types t; is = refl; typed = type_moved parts names Functions s.part m t y e (subst (λ z. type_of m Functions z ≡ Some y) (sym same) h) }
stood parts names Functions s m (im.Table t) c y e is h = absurd (let k = is in cc)
stood parts names Functions s m (im.Memory t) c y e is h = absurd (let k = is in cc)
stood parts names Functions s m (im.Global t) c y e is h = absurd (let k = is in cc)
stood parts names Tables s m (im.Table t) c y e is h = let same : t ≡ c = cc in record { entry = _; is = refl; typed = subst (λ z. type_of m Tables z ≡ Some y) (sym same) h }
stood parts names Tables s m (im.Func t) c y e is h = absurd (let k = is in cc)
stood parts names Tables s m (im.Memory t) c y e is h = absurd (let k = is in cc)
stood parts names Tables s m (im.Global t) c y e is h = absurd (let k = is in cc)
stood parts names Memories s m (im.Memory t) c y e is h = record { entry = _; is = refl; typed = h }
stood parts names Memories s m (im.Func t) c y e is h = absurd (let k = is in cc)
stood parts names Memories s m (im.Table t) c y e is h = absurd (let k = is in cc)
stood parts names Memories s m (im.Global t) c y e is h = absurd (let k = is in cc)
stood parts names Globals s m (im.Global t) c y e is h = let same : t ≡ c = cc in record { entry = _; is = refl; typed = subst (λ z. type_of m Globals z ≡ Some y) (sym same) h }
stood parts names Globals s m (im.Func t) c y e is h = absurd (let k = is in cc)
stood parts names Globals s m (im.Table t) c y e is h = absurd (let k = is in cc)
stood parts names Globals s m (im.Memory t) c y e is h = absurd (let k = is in cc)
stood parts names Types s m d c y e is h = absurd c
stood parts names ElementSegments s m d c y e is h = absurd c
stood parts names DataSegments s m d c y e is h = absurd c

-- A staying import has its type at its place in the merged module.
pub staying_type : (parts : List Part) (names : List (Option Text)) (k : Space) (n : ℕ) (s : Site) (m : Module) (i : Import) (c : Entry k) (y : Ty) → slice_get (staying_of parts k) n ≡ Some s → module_at parts s.part ≡ Some m →
    import_at parts s ≡ Some i → of_desc k i.desc ≡ Some c → type_of m k c ≡ Some y → type_at (merged parts names) k n ≡ Some y
staying_type parts names k n s m i c y h e at is t =
    let r = stood parts names k s m i.desc c y e is t in
    let got : slice_get (imported k (merged parts names)) n ≡ Some r.entry = imported_at parts names k n s h ∙ ap (λ o. option_and_then (of_import k) o) (import_is parts s m i e at) ∙ r.is in
    ap (λ o. option_and_then (type_of (merged parts names) k) o) (append_at_left (imported k (merged parts names)) (own k (merged parts names)) n r.entry got) ∙ r.typed

pub own_at : (parts : List Part) (names : List (Option Text)) (k : Space) (q : ℕ) (m : Module) (j : ℕ) (c : Entry k) → module_at parts q ≡ Some m → slice_get (own k m) j ≡ Some c →
    slice_get (space k (merged parts names)) (length (staying_of parts k) + (defined_before k parts q + j)) ≡ Some (moved parts k q m c)
own_at parts names k q m j c e h =
    let ext = entry_external k c in
    let from_0 : 0 + q ≡ q = omega arith in
    let got = by_part_at (moved_own parts k) k (own_count parts k ext) 0 parts q m j (moved parts k q m c) e (ap (λ p. slice_get (moved_own parts k p m) j) from_0 ∙ map_at (moved parts k q m) (own k m) j c h) in
    let at : slice_get (own k (merged parts names)) (defined_before k parts q + j) ≡ Some (moved parts k q m c) =
    ap (λ z. slice_get z (defined_before k parts q + j)) (own_is parts names k ext) ∙ append_at_left (by_part (moved_own parts k) parts) (extra parts k) (defined_before k parts q + j) (moved parts k q m c) got in
    ap (λ z. slice_get (space k (merged parts names)) (z + (defined_before k parts q + j))) (sym (imported_many parts names k)) ∙ append_right (imported k (merged parts names)) (own k (merged parts names)) (defined_before k parts q + j) ∙ at

-- An entity that a part defines has its type at its place in the merged module.
pub own_type : (parts : List Part) (names : List (Option Text)) (k : Space) (q : ℕ) (m : Module) (j : ℕ) (c : Entry k) (y : Ty) → module_at parts q ≡ Some m → slice_get (own k m) j ≡ Some c → type_of m k c ≡ Some y →
    type_at (merged parts names) k (length (staying_of parts k) + (defined_before k parts q + j)) ≡ Some y
own_type parts names k q m j c y e h t =
    ap (λ o. option_and_then (type_of (merged parts names) k) o) (own_at parts names k q m j c e h) ∙ type_moved parts names k q m c y e t
