-- The new index of an entry of a part's index space names, in the merged module, an entity of the
-- same type.
use Rattle.base_lists.proofs.Common.{◌≡◌, ◌∙◌, ap, ap₂, sym, subst, refl, ℕ, ◌+◌, ◌-◌, ◌<◌, ◌≤◌, List, length, Option, Some, None, true, arith, ◌⊎◌, inl, inr, option_and_then, unwrap_or, false, slice_get, filter, is_some_there, and_then_is, slice_get_within, slice_get_none, append_from, Has}
use Rattle.base_lists.proofs.Common.{first_at, is_kept, place_of, places_many, append_left}
use Rattle.wasm_tree_spec.specs.Prelude.{Space, same_space, Import, ExportDesc, Module, index_of_export, space_of_export, space_of_import}
use Rattle.wasm_meaning.specs.Prelude.{Text, EndsArePaths, defined_before, Part, Site, End, Defined, Outside, Entity, first_place, module_at, import_at, imports_of, has_kind, imported_as, sites, same_site, is_outside, linked_end}
use Rattle.merge_spec.specs.Prelude.{External, asked, asked_at, merged, imports_kind, imported_count}
use Rattle.merge_spec.specs.Faults.{stays}
use Rattle.merge_spec.specs.Merged.{staying, staying_of, place_of_end, place_of_entry, new_index}
use Rattle.merge_proof.proofs.SamenessTests.{site_is, site_same, kind_is, kind_same}
use Rattle.merge_proof.proofs.EntityTypes.{Entry, of_desc, of_import, own, imported, space, import_kind, Ty, kind_of, bare, type_of, type_at, asked_type, asked_kind, external_kind, external_type}
use Rattle.merge_proof.proofs.LinkFaults.{AllAreSuited, import_site, in_sites}
use Rattle.merge_proof.proofs.EndTypes.{Stays, EndsInside, EndsOutside, Landed, inside, outside, landed}
use Rattle.merge_proof.proofs.MergedSpaces.{staying_type, own_type}

-- ---- an entry of a part: an import, or what the part defines ----

pub imports_many : (k : Space) (m : Module) → length (imports_of k m) ≡ length (imported k m)
imports_many k m = places_many (has_kind k) (of_import k) m.imports (import_kind k) 0

-- An entry after the imports is one that the part defines.
pub own_entry : (k : Space) (m : Module) (i : ℕ) (c : Entry k) → slice_get (imports_of k m) i ≡ None → slice_get (space k m) i ≡ Some c → slice_get (own k m) (i - length (imports_of k m)) ≡ Some c
own_entry k m i c e h = by (append_from (imported k m) (own k m) i c h)
  where
    few : length (imports_of k m) ≤ i
    few = slice_get_none (imports_of k m) i (e)

    by : (slice_get (imported k m) i ≡ Some c) ⊎ ((j : ℕ) × (i ≡ length (imported k m) + j) × (slice_get (own k m) j ≡ Some c)) → slice_get (own k m) (i - length (imports_of k m)) ≡ Some c
    by (inl g) = let l = slice_get_within (imported k m) i c g in let q = imports_many k m in let f = few in absurd (omega (arith, l, q, f))
    by (inr r) = let q = imports_many k m in let d = r.1 in let z : i - length (imports_of k m) ≡ r.0 = omega (arith, q, d) in ap (slice_get (own k m)) z ∙ r.2

-- An entry of an index space that is an import, with the type of the entry.
pub record IsImport (k : Space) (m : Module) (n : ℕ) (y : Ty) : Type 0 where
  pub import : Import
  pub at : slice_get m.imports n ≡ Some import
  pub of_kind : has_kind k import ≡ true
  pub entry : Entry k
  pub adds : of_desc k import.desc ≡ Some entry
  pub typed : type_of m k entry ≡ Some y

pub import_entry : (k : Space) (m : Module) (i n : ℕ) (y : Ty) → slice_get (imports_of k m) i ≡ Some n → type_at m k i ≡ Some y → IsImport k m n y
import_entry k m i n y e t =
    let r = place_of (has_kind k) (of_import k) m.imports (import_kind k) 0 i n e in
    let c = and_then_is (slice_get (space k m) i) (type_of m k) y t in
    let at : n ≡ r.0 = (let z = r.2 in omega (arith, z)) in
    let l : i < length (imported k m) = (let a = slice_get_within (imports_of k m) i n (e) in let q = imports_many k m in omega (arith, a, q)) in
    let got : slice_get (imported k m) i ≡ Some c.0 = sym (append_left (imported k m) (own k m) i l) ∙ c.1 in
    record { import = r.1; at = ap (slice_get m.imports) at ∙ r.3; of_kind = r.4; entry = c.0; adds = sym r.5 ∙ got; typed = c.2 }

-- The import that an entity of a part is, if it is one, found by its index.
pub imported_is : (parts : List Part) (k : Space) (p : ℕ) (m : Module) (what : ExportDesc) (i : ℕ) → module_at parts p ≡ Some m → space_of_export what ≡ k → index_of_export what ≡ i →
    imported_as parts (record { part = p; what = what }) ≡ option_and_then {T = ℕ} {U = Site} (λ n. Some (record { part = p; import = n })) (slice_get (imports_of k m) i)
imported_is parts k p m what i e a b =
    ap (λ o. option_and_then {T = Module} {U = Site} (λ m. option_and_then {T = ℕ} {U = Site} (λ n. Some (record { part = p; import = n })) (slice_get (imports_of (space_of_export what) m) (index_of_export what))) o) e
    ∙ ap₂ (λ k i. option_and_then {T = ℕ} {U = Site} (λ n. Some (record { part = p; import = n })) (slice_get (imports_of k m) i)) a b

no_import : (parts : List Part) (p n : ℕ) (o : Option ℕ) → option_and_then {T = ℕ} {U = Site} (λ n. Some (record { part = p; import = n })) o ≡ None → o ≡ None
no_import parts p n None h = refl
no_import parts p n (Some x) h = cc

-- ---- places ----

count_is : (parts : List Part) (k : Space) (p : ℕ) (m : Module) → module_at parts p ≡ Some m → imported_count parts p k ≡ length (imports_of k m)
count_is parts k p m e = ap (λ o. unwrap_or (option_and_then (λ m. Some (length (imports_of k m))) o) 0) e

-- The place of an entity that a part defines: after the staying imports and the definitions of
-- earlier parts.
pub end_defined : (parts : List Part) (k : Space) (e : Entity) (m : Module) → module_at parts e.part ≡ Some m →
    place_of_end parts k (Defined e) ≡ length (staying_of parts k) + (defined_before k parts e.part + (index_of_export e.what - length (imports_of k m)))
unfolding place_of_end
end_defined parts k e m is = ap (λ n. length (staying_of parts k) + (defined_before k parts e.part + (index_of_export e.what - n))) (count_is parts k e.part m is)

-- An entity that a part defines has its type at its place in the merged module.
own_place : (parts : List Part) (names : List (Option Text)) (k : Space) (p : ℕ) (m : Module) (i : ℕ) (y : Ty) → module_at parts p ≡ Some m → slice_get (imports_of k m) i ≡ None → type_at m k i ≡ Some y →
    type_at (merged parts names) k (length (staying_of parts k) + (defined_before k parts p + (i - length (imports_of k m)))) ≡ Some y
own_place parts names k p m i y is none t =
    let c = and_then_is (slice_get (space k m) i) (type_of m k) y t in
    own_type parts names k p m (i - length (imports_of k m)) c.0 y is (own_entry k m i c.0 none c.1) c.2

pub stays_is : (parts : List Part) (u : Site) → Stays parts u → stays parts u ≡ true
unfolding stays
stays_is parts u w = ap (is_outside u) w.linked ∙ site_same u

-- A staying import is among the staying imports of its kind.
staying_has : (parts : List Part) (k : Space) (u : Site) (i : Import) → import_at parts u ≡ Some i → stays parts u ≡ true → has_kind k i ≡ true → Has (staying_of parts k) u
unfolding staying_of staying
staying_has parts k u i at remains e =
    let n = in_sites parts u i at in
    let a = is_kept (stays parts) (sites parts) n.0 u n.1 remains in
    is_kept (imports_kind parts k) (filter (stays parts) (sites parts)) a.0 u a.1 (ap (λ o. unwrap_or (option_and_then (λ i. Some (has_kind k i)) o) false) at ∙ e)

-- A staying import is at its place among the staying imports of its kind.
pub staying_place : (parts : List Part) (k : Space) (u : Site) (i : Import) → import_at parts u ≡ Some i → stays parts u ≡ true → has_kind k i ≡ true → slice_get (staying_of parts k) (place_of_end parts k (Outside u)) ≡ Some u
unfolding place_of_end
staying_place parts k u i at remains e =
    let n = staying_has parts k u i at remains e in
    let f = first_at (same_site u) (staying_of parts k) 0 n.0 u n.1 (site_same u) in
    let from_0 : 0 + f.at ≡ f.at = omega arith in
    let is : first_place (same_site u) (staying_of parts k) 0 ≡ Some f.at = f.is ∙ ap Some from_0 in
    ap (λ o. slice_get (staying_of parts k) (unwrap_or o 0)) is ∙ f.got ∙ ap Some (sym (site_is u f.item f.yes))

pub outside_place : (parts : List Part) (k : Space) (u : Site) (w : Stays parts u) → has_kind k w.import ≡ true → slice_get (staying_of parts k) (place_of_end parts k (Outside u)) ≡ Some u
outside_place parts k u w e = staying_place parts k u w.import w.at (stays_is parts u w) e

-- The external type that a site asks for is the one of its import's description.
pub kind_there : (parts : List Part) (u : Site) (i : Import) (x : External) (m : Module) → module_at parts u.part ≡ Some m → slice_get m.imports u.import ≡ Some i → asked_at parts u ≡ Some x → asked m i.desc ≡ Some x
kind_there parts u i x m is at h = sym (ap (λ o. option_and_then (λ m. option_and_then (λ i. asked m i.desc) (slice_get m.imports u.import)) o) is ∙ ap (λ o. option_and_then (λ i. asked m i.desc) o) at) ∙ h

pub has_its_kind : (k : Space) (i : Import) → space_of_import i.desc ≡ k → has_kind k i ≡ true
has_its_kind k i e = ap (same_space k) e ∙ kind_same k

-- The import at which an import of a kind ends is of that kind.
pub outside_kind : (parts : List Part) (k : Space) (s : Site) (y : Ty) → kind_of y ≡ k → (w : EndsOutside parts s y) → has_kind k w.stays.import ≡ true
outside_kind parts k s y q w =
    let m = import_site parts w.to w.stays.import w.stays.at in
    let x = kind_there parts w.to w.stays.import w.thing m.0 m.1 m.2 w.asks in
    has_its_kind k w.stays.import (sym (asked_kind m.0 w.stays.import.desc w.thing x) ∙ ap kind_of w.typed ∙ q)

outside_type : (parts : List Part) (names : List (Option Text)) (k : Space) (s : Site) (y : Ty) → kind_of y ≡ k → (w : EndsOutside parts s y) → type_at (merged parts names) k (place_of_end parts k (Outside w.to)) ≡ Some y
outside_type parts names k s y q w =
    let m = import_site parts w.to w.stays.import w.stays.at in
    let x = kind_there parts w.to w.stays.import w.thing m.0 m.1 m.2 w.asks in
    let h = outside_kind parts k s y q w in
    let c = is_some_there (of_import k w.stays.import) (import_kind k w.stays.import ∙ h) in
    staying_type parts names k (place_of_end parts k (Outside w.to)) w.to m.0 w.stays.import c.0 (bare w.thing) (outside_place parts k w.to w.stays h) m.1 w.stays.at c.1 (asked_type m.0 k w.stays.import.desc c.0 w.thing c.1 x)
    ∙ ap Some w.typed

-- The entity with which an import ends, as an entry of an index space of its part.
pub record IsOwn (parts : List Part) (k : Space) (e : Entity) (m : Module) (y : Ty) : Type 0 where
  pub kind : space_of_export e.what ≡ k
  pub own : slice_get (imports_of k m) (index_of_export e.what) ≡ None
  pub typed : type_at m k (index_of_export e.what) ≡ Some y

pub inside_own : (parts : List Part) (k : Space) (s : Site) (y : Ty) → kind_of y ≡ k → (w : EndsInside parts s y) → IsOwn parts k w.entity w.of y
inside_own parts k s y q w =
    let kind : space_of_export w.entity.what ≡ k = sym (external_kind w.of w.entity.what w.thing w.is) ∙ ap kind_of w.typed ∙ q in
    let n = index_of_export w.entity.what in
    let none = sym (imported_is parts k w.entity.part w.of w.entity.what n w.is_part kind refl) ∙ w.own in
    record {
      kind = kind;
      own = no_import parts w.entity.part n (slice_get (imports_of k w.of) n) none;
      typed = subst (λ k. type_at w.of k n ≡ Some y) kind (external_type w.of w.entity.what w.thing w.is ∙ ap Some w.typed);
    }

inside_type : (parts : List Part) (names : List (Option Text)) (k : Space) (s : Site) (y : Ty) → kind_of y ≡ k → (w : EndsInside parts s y) → type_at (merged parts names) k (place_of_end parts k (Defined w.entity)) ≡ Some y
inside_type parts names k s y q w =
    let o = inside_own parts k s y q w in
    ap (type_at (merged parts names) k) (end_defined parts k w.entity w.of w.is_part) ∙ own_place parts names k w.entity.part w.of (index_of_export w.entity.what) y w.is_part o.own o.typed

-- ---- new indices ----

abbrev pub site_at : ℕ → ℕ → Site
site_at p n = record { part = p; import = n }

-- A new index is the place of the entry, found by the import that the entry is, if it is one.
index_is : (parts : List Part) (p : ℕ) (m : Module) (k : Space) (i : ℕ) (o : Option ℕ) → module_at parts p ≡ Some m → slice_get (imports_of k m) i ≡ o → new_index parts p k i ≡ unwrap_or (place_of_entry parts p k i o) 0
unfolding new_index
index_is parts p m k i o is e =
    ap (λ z. unwrap_or (option_and_then (λ m. place_of_entry parts p k i (slice_get (imports_of k m) i)) z) 0) is ∙ ap (λ z. unwrap_or (place_of_entry parts p k i z) 0) e

pub index_imported : (parts : List Part) (p : ℕ) (m : Module) (k : Space) (i n : ℕ) (e : End) → module_at parts p ≡ Some m → slice_get (imports_of k m) i ≡ Some n → linked_end parts (site_at p n) ≡ Some e → new_index parts p k i ≡ place_of_end parts k e
index_imported parts p m k i n e is at linked = index_is parts p m k i (Some n) is at ∙ ap (λ o. unwrap_or (option_and_then (λ end. Some (place_of_end parts k end)) o) 0) linked

pub index_defined : (parts : List Part) (p : ℕ) (m : Module) (k : Space) (i : ℕ) → module_at parts p ≡ Some m → slice_get (imports_of k m) i ≡ None →
    new_index parts p k i ≡ length (staying_of parts k) + (defined_before k parts p + (i - length (imports_of k m)))
index_defined parts p m k i is none = index_is parts p m k i None is none ∙ ap (λ n. length (staying_of parts k) + (defined_before k parts p + (i - n))) (count_is parts k p m is)

-- An entry of a linked part's index space that is an import, with the import's end.
pub record Joined (parts : List Part) (k : Space) (p : ℕ) (m : Module) (n : ℕ) (y : Ty) : Type 0 where
  pub entry : IsImport k m n y
  pub at : import_at parts (site_at p n) ≡ Some entry.import
  pub kind : kind_of y ≡ k
  pub lands : Landed parts (site_at p n) y

pub joined_entry : EndsArePaths → (parts : List Part) → AllAreSuited parts → (p : ℕ) (m : Module) (k : Space) (i n : ℕ) (y : Ty) → module_at parts p ≡ Some m → slice_get (imports_of k m) i ≡ Some n → type_at m k i ≡ Some y → Joined parts k p m n y
joined_entry law parts links p m k i n y is e t =
    let r = import_entry k m i n y e t in
    let at : import_at parts (site_at p n) ≡ Some r.import = ap (λ o. option_and_then (λ m. slice_get m.imports n) o) is ∙ r.at in
    let w = links.imports (site_at p n) r.import at in
    let x = kind_there parts (site_at p n) r.import w.demand m is r.at w.asks in
    let both : Some y ≡ Some (bare w.demand) = sym r.typed ∙ asked_type m k r.import.desc r.entry w.demand r.adds x in
    let same : bare w.demand ≡ y = cc in
    record {
      entry = r;
      at = at;
      kind = ap kind_of (sym same) ∙ asked_kind m r.import.desc w.demand x ∙ sym (kind_is k (space_of_import r.import.desc) r.of_kind);
      lands = subst (Landed parts (site_at p n)) same (landed law parts links (site_at p n) w);
    }

pub entry_kept : EndsArePaths → (parts : List Part) (names : List (Option Text)) → AllAreSuited parts → (p : ℕ) (m : Module) (k : Space) (i : ℕ) (y : Ty) → module_at parts p ≡ Some m → type_at m k i ≡ Some y → type_at (merged parts names) k (new_index parts p k i) ≡ Some y
entry_kept law parts names links p m k i y is t = by (slice_get (imports_of k m) i) refl
  where
    lands : (n : ℕ) → slice_get (imports_of k m) i ≡ Some n → kind_of y ≡ k → Landed parts (site_at p n) y → type_at (merged parts names) k (new_index parts p k i) ≡ Some y
    lands n e q (inside w) = ap (type_at (merged parts names) k) (index_imported parts p m k i n (Defined w.entity) is e w.linked) ∙ inside_type parts names k (site_at p n) y q w
    lands n e q (outside w) = ap (type_at (merged parts names) k) (index_imported parts p m k i n (Outside w.to) is e w.linked) ∙ outside_type parts names k (site_at p n) y q w

    by : (o : Option ℕ) → slice_get (imports_of k m) i ≡ o → type_at (merged parts names) k (new_index parts p k i) ≡ Some y
    by None e = ap (type_at (merged parts names) k) (index_defined parts p m k i is e) ∙ own_place parts names k p m i y is e t
    by (Some n) e = let j = joined_entry law parts links p m k i n y is e t in lands n e j.kind j.lands
