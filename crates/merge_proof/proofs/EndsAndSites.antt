-- The ends of the imports of linked parts, with the external type that an import asks for and the
-- one that its end has; and which sites are imports.
use Rattle.base_lists.proofs.Common.{◌≡◌, ◌∙◌, ap, ap₂, sym, subst, refl, ℕ, zero, suc, ◌+◌, ◌<◌, List, length, Some, Bool, true, false, arith, option_and_then, ◌&&◌, slice_get, length-append, length-map, slice_get_within, slice_get_there, slice_get_none, and_then_is, and_parts, and_from}
use Rattle.base_lists.proofs.Common.{each_same_self}
use Rattle.wasm_tree_spec.specs.Prelude.{Space, Functions, Tables, Memories, Globals, Types, ElementSegments, DataSegments, GlobalType, Import, ImportDesc, Module, index_of_export, space_of_import}
use Rattle.wasm_tree.specs.declared.module.ImportDesc.TheVariants as im
use Rattle.wasm_meaning.specs.Prelude.{Pair, EndsArePaths, Owned, MemoryKey, owned_at, same_ref, same_type, same_func_type, same_bool, own_key, own_key_of, outside_external_value, Part, Site, End, Defined, Outside, Entity, has_kind, import_at, imports_of, pair_of, sites_in, sites, end_of}
use Rattle.wasm_meaning.specs.Prelude.{linked_end, gathered}
use Rattle.merge_spec.specs.Prelude.{External, FuncOf, TableOf, MemoryOf, GlobalOf, asked_at, found, suits, external_of, same_but_limits, meets_limits, merged, start_calls, starts, by_part}
use Rattle.merge_spec.specs.Faults.{stays}
use Rattle.merge_proof.specs.ImportEnds.{EndsInside, EndsOutside, Ended, inside, outside, added_count, LinkedImportsEnd, StayingImportsEndThere, SitesAreImports, StayingImportsHavePlaces, NewIndicesArePlaces, DefinedEntitiesHavePlaces, TypesHavePlaces, MergedModulesDefineAll}
use Rattle.merge_proof.proofs.SamenessTests.{ref_same, type_same, kind_is}
use Rattle.merge_proof.proofs.EntityTypes.{entry_external, own, imported, space, own_many, kind_of, bare, type_of}
use Rattle.merge_proof.proofs.ListsByPart.{by_part_back}
use Rattle.merge_proof.proofs.TypePlaces.{type_stands}
use Rattle.merge_proof.proofs.MergedSpaces.{extra, moved_own, own_is, all_own}
use Rattle.merge_proof.proofs.LinkFaults.{Suited, AllAreSuited, are_linked, sites_are, import_site, in_sites}
use Rattle.merge_proof.proofs.EndTypes.{Gathers, gathers, end_outside, kind_asked, gathered_type, lands_inside, outside_is}
use Rattle.merge_proof.proofs.NewIndices.{imports_many, inside_own, stays_is, staying_place, has_its_kind, index_imported, index_defined, end_defined}

-- ---- external types that are the same but for limits ----

bool_same : (b : Bool) → same_bool b b ≡ true
bool_same true = refl
bool_same false = refl

alike : (x y : External) → bare x ≡ bare y → same_but_limits x y ≡ true
alike (FuncOf t) (FuncOf u) h = let e : t ≡ u = cc in subst (λ z. same_func_type t z ≡ true) e (simp (each_same_self same_type (λ a. grind arith)))
alike (TableOf t) (TableOf u) h = let e : t.ty ≡ u.ty = cc in subst (λ z. same_ref t.ty z ≡ true) e (ref_same t.ty)
alike (MemoryOf t) (MemoryOf u) h = refl
alike (GlobalOf t) (GlobalOf u) h =
    let e : t ≡ u = cc in
    subst (λ (z : GlobalType). same_type t.ty z.ty && same_bool t.mutable z.mutable ≡ true) e (and_from (same_type t.ty t.ty) (same_bool t.mutable t.mutable) (type_same t.ty) (bool_same t.mutable))
alike (FuncOf t) (TableOf u) h = cc
alike (FuncOf t) (MemoryOf u) h = cc
alike (FuncOf t) (GlobalOf u) h = cc
alike (TableOf t) (FuncOf u) h = cc
alike (TableOf t) (MemoryOf u) h = cc
alike (TableOf t) (GlobalOf u) h = cc
alike (MemoryOf t) (FuncOf u) h = cc
alike (MemoryOf t) (TableOf u) h = cc
alike (MemoryOf t) (GlobalOf u) h = cc
alike (GlobalOf t) (FuncOf u) h = cc
alike (GlobalOf t) (TableOf u) h = cc
alike (GlobalOf t) (MemoryOf u) h = cc

-- ---- ends that a part defines ----

ends_inside : EndsArePaths → (parts : List Part) (s : Site) (i : Import) → import_at parts s ≡ Some i → (w : Suited parts s) (d : Entity) → w.end ≡ Defined d → EndsInside parts s i
ends_inside law parts s i at w d e =
    let v = lands_inside law parts s w d e in
    let k = space_of_import i.desc in
    let q : kind_of (bare w.demand) ≡ k = kind_asked parts s i w.demand at w.asks in
    let o = inside_own parts k s (bare w.demand) q v in
    let n = index_of_export v.entity.what in
    let ends : Some w.end ≡ Some (Defined v.entity) = sym w.ends ∙ v.end in
    let end : w.end ≡ Defined v.entity = cc in
    let finds : Some w.thing ≡ Some v.thing = sym w.finds ∙ ap (found parts) end ∙ ap (λ o. option_and_then (λ m. external_of m v.entity.what) o) v.is_part ∙ v.is in
    let thing : w.thing ≡ v.thing = cc in
    let yes = and_parts (same_but_limits w.demand v.thing) (meets_limits w.demand v.thing) (sym (ap₂ (suits w.demand) end thing) ∙ w.yes) in
    let c = and_then_is (slice_get (space k v.of) n) (type_of v.of k) (bare w.demand) o.typed in
    let low = slice_get_within (space k v.of) n c.0 c.1 in
    let many = length-append (imported k v.of) (own k v.of) in
    let imports = imports_many k v.of in
    let owns = own_many k v.of (entry_external k c.0) in
    record {
      entity = v.entity;
      end = v.end;
      linked = v.linked;
      kind = o.kind;
      of = v.of;
      is_part = v.is_part;
      follows = slice_get_none (imports_of k v.of) n (o.own);
      within = omega (arith, low, many, imports, owns);
      demand = w.demand;
      asks = w.asks;
      thing = v.thing;
      is = v.is;
      same = yes.0;
      meets = yes.1;
    }

-- ---- ends that stay ----

memory_key : (m : Module) (pair : Pair) (d : ImportDesc) → space_of_import d ≡ Memories → own_key_of m pair d ≡ Some (MemoryKey pair)
memory_key m pair (im.Memory l) e = refl
memory_key m pair (im.Func t) e = absurd (let z = e in cc)
memory_key m pair (im.Table t) e = absurd (let z = e in cc)
memory_key m pair (im.Global t) e = absurd (let z = e in cc)

memory_thing : (owned : Owned) (parts : List Part) (u : Site) (j : Import) → import_at parts u ≡ Some j → space_of_import j.desc ≡ Memories → outside_external_value owned parts u ≡ owned_at owned (MemoryKey (pair_of j))
memory_thing owned parts u j at e =
    let m = import_site parts u j at in
    ap (λ o. option_and_then (λ m. option_and_then (λ i. option_and_then (λ key. owned_at owned key) (own_key m i)) (import_at parts u)) o) m.1
    ∙ ap (λ o. option_and_then (λ i. option_and_then (λ key. owned_at owned key) (own_key m.0 i)) o) at
    ∙ ap (λ o. option_and_then (λ key. owned_at owned key) o) (memory_key m.0 (pair_of j) j.desc e)

-- An import and the one to which it is gathered denote the same entity of the environment.
gathered_thing : (owned : Owned) (parts : List Part) (t : Site) (i : Import) → import_at parts t ≡ Some i → (g : Gathers parts t i) (b : Bool) → has_kind Memories i ≡ b → outside_external_value owned parts t ≡ outside_external_value owned parts g.to
gathered_thing owned parts t i at g true e =
    memory_thing owned parts t i at (sym (kind_is Memories (space_of_import i.desc) e)) ∙ ap (λ p. owned_at owned (MemoryKey p)) g.pair
    ∙ sym (memory_thing owned parts g.to g.stays.import g.stays.at (sym (kind_is Memories (space_of_import g.stays.import.desc) (g.memory e))))
gathered_thing owned parts t i at g false e = ap (outside_external_value owned parts) (sym (g.other e))

not_memory : (i : Import) → (space_of_import i.desc ≡ Memories → ⊥) → has_kind Memories i ≡ false
not_memory i h = by (has_kind Memories i) refl
  where
    by : (b : Bool) → has_kind Memories i ≡ b → has_kind Memories i ≡ false
    by true e = absurd (h (sym (kind_is Memories (space_of_import i.desc) e)))
    by false e = e

ends_outside : EndsArePaths → (parts : List Part) → AllAreSuited parts → (s : Site) (i : Import) → import_at parts s ≡ Some i → (w : Suited parts s) (t : Site) → w.end ≡ Outside t → EndsOutside parts s i
ends_outside law parts links s i at w t e =
    let ended : end_of parts s ≡ Some (Outside t) = w.ends ∙ ap Some e in
    let o = end_outside law parts s t ended in
    let g = gathers parts t o.0 o.1 o.2 in
    let finds : asked_at parts t ≡ Some w.thing = ap (found parts) (sym e) ∙ w.finds in
    let v = links.imports g.to g.stays.import g.stays.at in
    let typed : bare v.demand ≡ bare w.demand = gathered_type parts t o.0 g w.thing v.demand o.1 finds v.asks (has_kind Memories o.0) refl ∙ sym w.same in
    let q : kind_of (bare w.demand) ≡ space_of_import i.desc = kind_asked parts s i w.demand at w.asks in
    let kind : space_of_import o.0.desc ≡ space_of_import i.desc = sym (kind_asked parts t o.0 w.thing o.1 finds) ∙ ap kind_of (sym w.same) ∙ q in
    record {
      last = t;
      end = ended;
      last_import = o.0;
      last_at = o.1;
      last_kind = kind;
      to = g.to;
      linked = ap (λ z. option_and_then (λ end. Some (gathered parts end)) z) ended ∙ ap Some g.is;
      import = g.stays.import;
      at = g.stays.at;
      kind = sym (kind_asked parts g.to g.stays.import v.demand g.stays.at v.asks) ∙ ap kind_of typed ∙ q;
      remains = stays_is parts g.to g.stays;
      pair = g.pair;
      only_memories = λ other. g.other (not_memory o.0 (λ z. other (sym kind ∙ z)));
      same_thing = λ owned. gathered_thing owned parts t o.0 o.1 g (has_kind Memories o.0) refl;
      demand = w.demand;
      asks = w.asks;
      thing = v.demand;
      is = v.asks;
      same = alike w.demand v.demand (sym typed);
    }

pub ended : EndsArePaths → LinkedImportsEnd
ended law parts h s i at = by w.end refl
  where
    links : AllAreSuited parts
    links = are_linked parts h

    w : Suited parts s
    w = links.imports s i at

    by : (e : End) → w.end ≡ e → Ended parts s i
    by (Defined d) e = inside (ends_inside law parts s i at w d e)
    by (Outside t) e = outside (ends_outside law parts links s i at w t e)

pub stays_there : EndsArePaths → StayingImportsEndThere
unfolding stays
stays_there law parts h s i at remains = by w.end refl
  where
    w : Suited parts s
    w = (are_linked parts h).imports s i at

    linked : linked_end parts s ≡ Some (Outside s)
    linked = outside_is s (linked_end parts s) remains

    by : (e : End) → w.end ≡ e → (end_of parts s ≡ Some (Outside s)) × (linked_end parts s ≡ Some (Outside s))
    by (Defined d) e = absurd (let v = lands_inside law parts s w d e in let z : Some (Defined v.entity) ≡ Some (Outside s) = sym v.linked ∙ linked in cc)
    by (Outside t) e =
        let ends : end_of parts s ≡ Some (Outside t) = w.ends ∙ ap Some e in
        let o = end_outside law parts s t ends in
        let g = gathers parts t o.0 o.1 o.2 in
        let both : Some (Outside g.to) ≡ Some (Outside s) = ap Some (sym g.is) ∙ sym (ap (λ z. option_and_then (λ end. Some (gathered parts end)) z) ends) ∙ linked in
        let same : g.to ≡ s = cc in
        (subst (λ u. end_of parts u ≡ Some (Outside u)) same g.stays.own_end, linked)

-- ---- sites ----

site_back : (p count from n : ℕ) (s : Site) → slice_get (sites_in p count from) n ≡ Some s → (n < count) × (s ≡ record { part = p; import = from + n })
site_back p zero from n s h = absurd (let k = h in cc)
site_back p (suc count) from zero s h =
    let same : record { part = p; import = from } ≡ s = cc in
    let e : from ≡ from + 0 = omega arith in
    (omega arith, sym same ∙ ap {A = ℕ} {B = Site} (λ n. record { part = p; import = n }) e)
site_back p (suc count) from (suc n) s h =
    let r = site_back p count (suc from) n s h in
    let l = r.0 in
    let e : suc from + n ≡ from + suc n = omega arith in
    (omega (arith, l), r.1 ∙ ap {A = ℕ} {B = Site} (λ n. record { part = p; import = n }) e)

site_there : (parts : List Part) (n : ℕ) (s : Site) → slice_get (sites parts) n ≡ Some s → (i : Import) × (import_at parts s ≡ Some i)
site_there parts n s h =
    let r = by_part_back (λ p m. sites_in p (length m.imports) 0) 0 parts n s (ap (λ z. slice_get z n) (sym (sites_are 0 parts)) ∙ h) in
    let b = site_back (0 + r.part) (length r.«module».imports) 0 r.place s r.got in
    let x = slice_get_there r.«module».imports r.place b.0 in
    let part : 0 + r.part ≡ r.part = omega arith in
    let import : 0 + r.place ≡ r.place = omega arith in
    let is : s ≡ record { part = r.part; import = r.place } = b.1 ∙ ap₂ {A = ℕ} {B = ℕ} {C = Site} (λ p n. record { part = p; import = n }) part import in
    (x.0, ap (import_at parts) is ∙ ap (λ o. option_and_then (λ m. slice_get m.imports r.place) o) r.is_part ∙ x.1)

pub sites_are_imports : SitesAreImports
sites_are_imports parts s = (λ n h. site_there parts n s h, λ i h. let r = in_sites parts s i h in (r.0, r.1))

-- ---- in the merged module ----

pub have_places : StayingImportsHavePlaces
have_places parts s i at remains k e = staying_place parts k s i at remains (has_its_kind k i e)

pub indices_are_places : NewIndicesArePlaces
indices_are_places parts p m k x is = (λ n e at linked. index_imported parts p m k x n e is at linked, λ none. index_defined parts p m k x is none)

pub defined_have_places : DefinedEntitiesHavePlaces
defined_have_places parts e m k is = end_defined parts k e m is

pub types_have_places : TypesHavePlaces
types_have_places parts p m x t is h = type_stands parts p m x t is h

extra_many : (parts : List Part) (k : Space) → length (extra parts k) ≡ added_count parts k
extra_many parts Functions = length-map (start_calls parts (starts parts)) (λ f. f.ty)
extra_many parts Tables = refl
extra_many parts Memories = refl
extra_many parts Globals = refl
extra_many parts Types = refl
extra_many parts ElementSegments = refl
extra_many parts DataSegments = refl

pub defines_all : MergedModulesDefineAll
defines_all parts names k e =
    sym (own_many k (merged parts names) e) ∙ ap length (own_is parts names k e) ∙ length-append (by_part (moved_own parts k) parts) (extra parts k) ∙ ap₂ (λ a b. a + b) (all_own parts k e) (extra_many parts k)
