-- If linking finds no fault, each import has an end that exists and is of the kind of the import.
use Rattle.base_lists.proofs.Common.{◌≡◌, ◌∙◌, sym, ap, refl, subst, inl, inr, ◌⊎◌, ℕ, ◌<◌, List, [], ◌∷◌, ◌++◌, arith, slice_get, Bool, true, false, cond, Option, Some, None, ◌&&◌, and_then_is, unwrap_or_false_is, option_and_then, slice_get_within}
use Rattle.wasm_tree_spec.specs.Prelude.{Space, Functions, Tables, Memories, Globals, Import, ImportDesc, ExportDesc, Module, funcs_of, tables_of, memories_of, globals_of, type_of_func, index_of_export, space_of_export, space_of_import}
use Rattle.std.specs.Option.{option_map}
use Rattle.wasm_tree.specs.declared.module.ImportDesc.TheVariants as im
use Rattle.wasm_tree.specs.declared.module.ExportDesc.TheVariants as ex
use Rattle.wasm_meaning.specs.Linking as linking
use Rattle.wasm_meaning.specs.Prelude.{Part, Site, module_at, import_at, sites, end_of, linked_end, gathered, is_outside}
use Rattle.wasm_meaning.specs.Linking.{gathered_at, first_site, stays_as, same_memory}
use Rattle.merge_spec.specs.declared.links.End.{End}
use Rattle.merge_spec.specs.declared.faults.LinkFault.{LinkFault}
use Rattle.merge_spec.specs.declared.faults.LinkFault.TheVariants.{ImportMismatch}
use Rattle.merge_spec.specs.Prelude.{External, FuncOf, TableOf, MemoryOf, GlobalOf, asked, asked_at, external_of, found, same_but_limits, meets_limits, suits, is_suited, first_fault, end_fault, end_entry}
use Rattle.merge_spec.specs.Faults.{import_fault, link_fault}
use Rattle.merge_join.specs.LinkedParts.{site, space_size, EndExists}
use Rattle.merge_join.specs.Spaces.{sites_before}
use Rattle.merge_join.proofs.Sites.{sites_split}
use Rattle.merge_join.proofs.SpaceSizes.{funcs_size, tables_size, memories_size, globals_size}

-- ---- external types have kinds ----

abbrev kind_of_external : External → Space
kind_of_external (FuncOf t) = Functions
kind_of_external (TableOf t) = Tables
kind_of_external (MemoryOf l) = Memories
kind_of_external (GlobalOf t) = Globals

asked_kind : (m : Module) (d : ImportDesc) (x : External) → asked m d ≡ Some x → kind_of_external x ≡ space_of_import d
asked_kind m (im.Func ty) x h = let (t, a, b) = and_then_is (slice_get m.types ty) (λ t. Some (FuncOf t)) x h in let e : FuncOf t ≡ x = cc in sym (ap kind_of_external e)
asked_kind m (im.Table t) x h = let e : TableOf t ≡ x = cc in sym (ap kind_of_external e)
asked_kind m (im.Memory l) x h = let e : MemoryOf l ≡ x = cc in sym (ap kind_of_external e)
asked_kind m (im.Global t) x h = let e : GlobalOf t ≡ x = cc in sym (ap kind_of_external e)

same_kinds : (d x : External) → same_but_limits d x ≡ true → kind_of_external d ≡ kind_of_external x
same_kinds (FuncOf t) (FuncOf u) h = refl
same_kinds (FuncOf t) (TableOf u) h = cc
same_kinds (FuncOf t) (MemoryOf u) h = cc
same_kinds (FuncOf t) (GlobalOf u) h = cc
same_kinds (TableOf t) (FuncOf u) h = cc
same_kinds (TableOf t) (TableOf u) h = refl
same_kinds (TableOf t) (MemoryOf u) h = cc
same_kinds (TableOf t) (GlobalOf u) h = cc
same_kinds (MemoryOf t) (FuncOf u) h = cc
same_kinds (MemoryOf t) (TableOf u) h = cc
same_kinds (MemoryOf t) (MemoryOf u) h = refl
same_kinds (MemoryOf t) (GlobalOf u) h = cc
same_kinds (GlobalOf t) (FuncOf u) h = cc
same_kinds (GlobalOf t) (TableOf u) h = cc
same_kinds (GlobalOf t) (MemoryOf u) h = cc
same_kinds (GlobalOf t) (GlobalOf u) h = refl

then_within : {A B : Type 0} (o : Option A) (f : A → Option B) (b : B) → option_and_then f o ≡ Some b → (a : A) × (o ≡ Some a)
then_within None f b h = cc
then_within (Some a) f b h = (a, refl)

-- An entity with an external type is of its kind and lies in its index space.
external_there : (m : Module) (d : ExportDesc) (x : External) → external_of m d ≡ Some x → (kind_of_external x ≡ space_of_export d) × (index_of_export d < space_size (space_of_export d) m)
external_there m (ex.Func i) x h =
    let (t, a, b) = and_then_is (type_of_func m i) (λ t. Some (FuncOf t)) x h in
    let e : FuncOf t ≡ x = cc in
    let (ty, got) = then_within (slice_get (funcs_of m) i) (slice_get m.types) t a in
    (sym (ap kind_of_external e), omega (arith, slice_get_within (funcs_of m) i ty got, funcs_size m))
external_there m (ex.Table i) x h =
    let (t, got, b) = and_then_is (slice_get (tables_of m) i) (λ t. Some (TableOf t)) x h in
    let e : TableOf t ≡ x = cc in
    (sym (ap kind_of_external e), omega (arith, slice_get_within (tables_of m) i t got, tables_size m))
external_there m (ex.Memory i) x h =
    let (l, got, b) = and_then_is (slice_get (memories_of m) i) (λ l. Some (MemoryOf l)) x h in
    let e : MemoryOf l ≡ x = cc in
    (sym (ap kind_of_external e), omega (arith, slice_get_within (memories_of m) i l got, memories_size m))
external_there m (ex.Global i) x h =
    let (t, got, b) = and_then_is (slice_get (globals_of m) i) (λ t. Some (GlobalOf t)) x h in
    let e : GlobalOf t ≡ x = cc in
    (sym (ap kind_of_external e), omega (arith, slice_get_within (globals_of m) i t got, globals_size m))

-- ---- faults ----

none_at : {A : Type 0} (f : A → Option LinkFault) (xs : List A) (y : A) (ys : List A) → first_fault f (xs ++ y ∷ ys) ≡ None → f y ≡ None
none_at f [] y ys h = grind arith
none_at f (x ∷ xs) y ys h = none_at f xs y ys (grind arith)

pub suited : (ps : List Part) (s : Site) (o : Option linking.End) (end : linking.End) → end_fault ps s o ≡ None → o ≡ Some end → is_suited ps s end ≡ true
suited ps s None end h e = cc
suited ps s (Some x) end h e = let same : x ≡ end = cc in ap (is_suited ps s) (sym same) ∙ case (is_suited ps s x) h
  where
    case : (b : Bool) → cond b None (Some (ImportMismatch s.part s.import)) ≡ None → b ≡ true
    case true h = refl
    case false h = cc

-- ---- ends ----

-- The end exists and is of this kind.
abbrev pub EndThere : List Part → Space → linking.End → Type 0
EndThere ps k (linking.Defined e) = (m : Module) × (module_at ps e.part ≡ Some m) × (space_of_export e.what ≡ k) × (index_of_export e.what < space_size k m)
EndThere ps k (linking.Outside t) = (j : Import) × (import_at ps t ≡ Some j) × (space_of_import j.desc ≡ k)

suits_same : (d : External) (end : linking.End) (x : External) → suits d end x ≡ true → same_but_limits d x ≡ true
suits_same d (linking.Defined e) x h = case (same_but_limits d x) (meets_limits d x) h
  where
    case : (a b : Bool) → a && b ≡ true → a ≡ true
    case true b h = refl
    case false b h = cc
suits_same d (linking.Outside s) x h = h

found_there : (ps : List Part) (end : linking.End) (x : External) → found ps end ≡ Some x → EndThere ps (kind_of_external x) end
found_there ps (linking.Defined e) x h =
    let (m, at, ext) = and_then_is (module_at ps e.part) (λ m. external_of m e.what) x h in
    let (k, within) = external_there m e.what x ext in
    (m, at, sym k, subst (λ z. index_of_export e.what < space_size z m) (sym k) within)
found_there ps (linking.Outside s) x h =
    let (m, at, rest) = and_then_is (module_at ps s.part) (λ m. option_and_then (λ i. asked m i.desc) (slice_get m.imports s.import)) x h in
    let (j, here, ext) = and_then_is (slice_get m.imports s.import) (λ i. asked m i.desc) x rest in
    (j, ap (λ o. option_and_then (λ m. slice_get m.imports s.import) o) at ∙ here, sym (asked_kind m j.desc x ext))

import_of : (ps : List Part) (s : Site) (d : External) (i : Import) → asked_at ps s ≡ Some d → import_at ps s ≡ Some i → kind_of_external d ≡ space_of_import i.desc
import_of ps s d i h here =
    let (m, at, rest) = and_then_is (module_at ps s.part) (λ m. option_and_then (λ i. asked m i.desc) (slice_get m.imports s.import)) d h in
    let (j, there, ext) = and_then_is (slice_get m.imports s.import) (λ i. asked m i.desc) d rest in
    let e : Some i ≡ Some j = sym here ∙ ap (λ o. option_and_then (λ m. slice_get m.imports s.import) o) at ∙ there in
    let same : i ≡ j = cc in
    asked_kind m j.desc d ext ∙ ap (λ (x : Import). space_of_import x.desc) (sym same)

suited_there : (ps : List Part) (s : Site) (end : linking.End) (i : Import) → import_at ps s ≡ Some i → is_suited ps s end ≡ true → EndThere ps (space_of_import i.desc) end
suited_there ps s end i here h =
    let (d, asks, rest) = and_then_is (asked_at ps s) (λ d. option_and_then (λ x. Some (suits d end x)) (found ps end)) true (unwrap_or_false_is (option_and_then (λ d. option_and_then (λ x. Some (suits d end x)) (found ps end)) (asked_at ps s)) h) in
    let (x, finds, last) = and_then_is (found ps end) (λ x. Some (suits d end x)) true rest in
    let fits : suits d end x ≡ true = cc in
    let k : kind_of_external x ≡ space_of_import i.desc = sym (same_kinds d x (suits_same d end x fits)) ∙ import_of ps s d i asks here in
    subst (λ z. EndThere ps z end) k (found_there ps end x finds)

-- The end of an import exists if linking finds no fault.
pub end_there : (ps : List Part) (p n : ℕ) (m : Module) (i : Import) (end : linking.End) → link_fault ps true ≡ None → module_at ps p ≡ Some m → slice_get m.imports n ≡ Some i → end_of ps (site p n) ≡ Some end → EndThere ps (space_of_import i.desc) end
unfolding link_fault import_fault
end_there ps p n m i end none at here ends =
    let s = site p n in
    let (rest, is) = sites_split ps p n m at (slice_get_within m.imports n i here) in
    let first : first_fault (import_fault ps) (sites ps) ≡ None = grind (arith, none) in
    let mine : import_fault ps s ≡ None = none_at (import_fault ps) (sites_before ps p n) s rest (ap (first_fault (import_fault ps)) (sym is) ∙ first) in
    suited_there ps s end i (ap (λ o. option_and_then (λ m. slice_get m.imports n) o) at ∙ here) (suited ps s (end_of ps s) end mine ends)

-- ---- memories that are one ----

first_is : (is : Site → Bool) (ss : List Site) (other : Site) → (first_site is ss other ≡ other) ⊎ (is (first_site is ss other) ≡ true)
first_is is [] other = inl refl
first_is is (s ∷ ss) other = case (is s) refl (first_is is ss other)
  where
    case : (b : Bool) → is s ≡ b → (first_site is ss other ≡ other) ⊎ (is (first_site is ss other) ≡ true) → (cond b s (first_site is ss other) ≡ other) ⊎ (is (cond b s (first_site is ss other)) ≡ true)
    case true e rest = inr e
    case false e rest = rest

same_memory_kind : (j : Import) (o : Option Import) → same_memory j o ≡ true → (l : Import) × (o ≡ Some l) × (space_of_import l.desc ≡ space_of_import j.desc)
same_memory_kind j None h = cc
same_memory_kind j (Some l) h = (l, refl, grind arith)

stays_same : (ps : List Part) (j : Import) (t : Site) → stays_as ps j t ≡ true → same_memory j (import_at ps t) ≡ true
stays_same ps j t h = case (is_outside t (end_of ps t)) (same_memory j (import_at ps t)) h
  where
    case : (a b : Bool) → a && b ≡ true → b ≡ true
    case true b h = h
    case false b h = cc

gathered_there : (ps : List Part) (k : Space) (t : Site) (o : Option Import) (j : Import) → o ≡ Some j → import_at ps t ≡ Some j → space_of_import j.desc ≡ k → EndThere ps k (gathered_at ps t o)
gathered_there ps k t None j e at is = cc
gathered_there ps k t (Some l) j e at is =
    let same : l ≡ j = cc in
    let u = first_site (stays_as ps l) (sites ps) t in
    elim (first_is (stays_as ps l) (sites ps) t) [
      | inl here ↦ (j, ap (import_at ps) here ∙ at, is)
      | inr stays ↦
          let (i, there, kind) = same_memory_kind l (import_at ps u) (stays_same ps l u stays) in
          (i, there, kind ∙ ap (λ (x : Import). space_of_import x.desc) same ∙ is)
    ]

gather_there : (ps : List Part) (k : Space) (end : linking.End) → EndThere ps k end → EndThere ps k (gathered ps end)
gather_there ps k (linking.Defined e) h = h
gather_there ps k (linking.Outside t) (j, at, is) = gathered_there ps k t (import_at ps t) j at at is

-- The entry of an end that exists names something that exists.
written : (ps : List Part) (k : Space) (end : linking.End) → EndThere ps k end → EndExists ps k (end_entry end)
written ps k (linking.Defined e) (m, at, kind, within) = (m, at, within)
written ps k (linking.Outside t) (j, at, kind) =
    let (m, there, here) = and_then_is (module_at ps t.part) (λ m. slice_get m.imports t.import) j at in
    (m, there, slice_get_within m.imports t.import j here)

entry_from : (o : Option linking.End) (e : End) → option_map end_entry o ≡ Some e → (end : linking.End) × (o ≡ Some end) × (end_entry end ≡ e)
entry_from None e h = cc
entry_from (Some end) e h = let same : end_entry end ≡ e = cc in (end, refl, same)

-- The entry of the end of an import names something that exists if linking finds no fault.
pub entry_there : (ps : List Part) (p n : ℕ) (m : Module) (i : Import) (e : End) → link_fault ps true ≡ None → module_at ps p ≡ Some m → slice_get m.imports n ≡ Some i → option_map end_entry (linked_end ps (site p n)) ≡ Some e → EndExists ps (space_of_import i.desc) e
entry_there ps p n m i e none at here ends =
    let (linked, is, entry) = entry_from (linked_end ps (site p n)) e ends in
    let (end, first, last) = and_then_is (end_of ps (site p n)) (λ end. Some (gathered ps end)) linked is in
    let gathers : gathered ps end ≡ linked = cc in
    subst (EndExists ps (space_of_import i.desc)) (ap end_entry gathers ∙ entry) (written ps (space_of_import i.desc) (gathered ps end) (gather_there ps (space_of_import i.desc) end (end_there ps p n m i end none at here first)))
