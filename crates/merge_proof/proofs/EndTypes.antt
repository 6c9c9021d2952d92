-- The end of an import of linked parts: an entity of a part that defines it, or an import that
-- stays, each of the type that the import asks for.
use Rattle.base_lists.proofs.Common.{◌≡◌, ◌∙◌, ap, ap₂, sym, subst, refl, ℕ, zero, suc, List, [], ◌∷◌, Option, Some, None, Bool, true, false, cond, option_and_then, ◌&&◌, slice_get, and_false, and_then_is, and_parts, and_from}
use Rattle.wasm_tree_spec.specs.Prelude.{Memories, Import, Module, space_of_import}
use Rattle.wasm_meaning.specs.Prelude.{PathStep, EndsWith, Path, ends, goes, EndsArePaths, Part, Site, End, Defined, Outside, Entity, module_at, import_at, imported_as, joined, entity_step, joined_step, import_step, sites, end_of, is_outside, same_pair, pair_of, has_kind, gathered, linked_end}
use Rattle.wasm_meaning.specs.Linking.{same_memory, stays_as, first_site, gathered_at}
use Rattle.merge_spec.specs.Prelude.{External, asked, asked_at, found, external_of}
use Rattle.merge_proof.proofs.SamenessTests.{site_is, site_same, pair_is, pair_same, kind_is}
use Rattle.merge_proof.proofs.EntityTypes.{Ty, FuncTy, TableTy, MemoryTy, GlobalTy, bare, kind_of, asked_kind}
use Rattle.merge_proof.proofs.LinkFaults.{Suited, AllAreSuited, import_site, in_sites}

-- ---- paths ----

last : {A E : Type 0} {next : A → Option (PathStep A E)} {a : A} {e : E} → Path next a e → (b : A) × (next b ≡ Some (EndsWith e))
last {a = a} (ends h) = (a, h)
last (goes h p) = last p

-- The end of a path's last step: the import itself, if it is joined with nothing, or an entity that
-- is no import.
record Stops (parts : List Part) (s : Site) (e : End) : Type 0 where
  outside : (t : Site) → e ≡ Outside t → s ≡ t
  defined : (d : Entity) → e ≡ Defined d → imported_as parts d ≡ None
  there : (i : Import) × (import_at parts s ≡ Some i)

stops : (parts : List Part) (s : Site) (e : End) → import_step parts s ≡ Some (EndsWith e) → Stops parts s e
stops parts s e h = by (import_at parts s) refl h
  where
    at_entity : (i : Import) → import_at parts s ≡ Some i → (d : Entity) (o : Option Site) → imported_as parts d ≡ o → Some (entity_step d o) ≡ Some (EndsWith e) → Stops parts s e
    at_entity i at d None is k =
        let same : Defined d ≡ e = cc in
        record { outside = λ t q. absurd (let z : Defined d ≡ Outside t = same ∙ q in cc); defined = λ c q. let z : Defined d ≡ Defined c = same ∙ q in let y : d ≡ c = cc in ap (imported_as parts) (sym y) ∙ is; there = (i, at) }
    at_entity i at d (Some t) is k = absurd (let z = k in cc)

    at_joined : (i : Import) → import_at parts s ≡ Some i → (o : Option Entity) → Some (joined_step parts s o) ≡ Some (EndsWith e) → Stops parts s e
    at_joined i at None k =
        let same : Outside s ≡ e = cc in
        record { outside = λ t q. let z : Outside s ≡ Outside t = same ∙ q in let y : s ≡ t = cc in y; defined = λ c q. absurd (let z : Outside s ≡ Defined c = same ∙ q in cc); there = (i, at) }
    at_joined i at (Some d) k = at_entity i at d (imported_as parts d) refl k

    by : (o : Option Import) → import_at parts s ≡ o → option_and_then (λ i. Some (joined_step parts s (joined parts i))) o ≡ Some (EndsWith e) → Stops parts s e
    by None at k = absurd (let z = k in cc)
    by (Some i) at k = at_joined i at (joined parts i) k

-- The entity with which an import ends is defined by its part: it is no import.
pub end_defined : EndsArePaths → (parts : List Part) (s : Site) (d : Entity) → end_of parts s ≡ Some (Defined d) → imported_as parts d ≡ None
end_defined law parts s d h = let l = last ((law parts s (Defined d)).1 h) in (stops parts l.0 (Defined d) l.1).defined d refl

-- The import with which an import ends is its own end.
pub end_outside : EndsArePaths → (parts : List Part) (s t : Site) → end_of parts s ≡ Some (Outside t) → (i : Import) × (import_at parts t ≡ Some i) × (end_of parts t ≡ Some (Outside t))
end_outside law parts s t h =
    let l = last ((law parts s (Outside t)).1 h) in
    let z = stops parts l.0 (Outside t) l.1 in
    let same : l.0 ≡ t = z.outside t refl in
    let at = subst (λ b. (i : Import) × (import_at parts b ≡ Some i)) same z.there in
    let step : import_step parts t ≡ Some (EndsWith (Outside t)) = ap (import_step parts) (sym same) ∙ l.1 in
    (at.0, at.1, (law parts t (Outside t)).0 (ends step))

-- ---- the first of a memory's imports ----

first_yes : (f : Site → Bool) (xs : List Site) (n : ℕ) (t d : Site) → slice_get xs n ≡ Some t → f t ≡ true → f (first_site f xs d) ≡ true
first_yes f [] n t d h y = cc
first_yes f (x ∷ xs) n t d h y = by (f x) refl (λ n h. first_yes f xs n t d h y) n h
  where
    by : (b : Bool) → f x ≡ b → ((n : ℕ) → slice_get xs n ≡ Some t → f (first_site f xs d) ≡ true) → (n : ℕ) → slice_get (x ∷ xs) n ≡ Some t → f (cond b x (first_site f xs d)) ≡ true
    by true e on n h = e
    by false e on zero h = let same : x ≡ t = cc in absurd (let z : false ≡ true = sym e ∙ ap f same ∙ y in cc)
    by false e on (suc n) h = on n h

first_any : (f : Site → Bool) (xs : List Site) (n : ℕ) (t d e : Site) → slice_get xs n ≡ Some t → f t ≡ true → first_site f xs d ≡ first_site f xs e
first_any f [] n t d e h y = cc
first_any f (x ∷ xs) n t d e h y = by (f x) refl (λ n h. first_any f xs n t d e h y) n h
  where
    by : (b : Bool) → f x ≡ b → ((n : ℕ) → slice_get xs n ≡ Some t → first_site f xs d ≡ first_site f xs e) → (n : ℕ) → slice_get (x ∷ xs) n ≡ Some t → cond b x (first_site f xs d) ≡ cond b x (first_site f xs e)
    by true q on n h = refl
    by false q on zero h = let same : x ≡ t = cc in absurd (let z : false ≡ true = sym q ∙ ap f same ∙ y in cc)
    by false q on (suc n) h = on n h

first_same : (f g : Site → Bool) → ((s : Site) → f s ≡ g s) → (xs : List Site) (d : Site) → first_site f xs d ≡ first_site g xs d
first_same f g e [] d = refl
first_same f g e (x ∷ xs) d = ap₂ (λ b r. cond b x r) (e x) (first_same f g e xs d)

first_none : (f : Site → Bool) → ((s : Site) → f s ≡ false) → (xs : List Site) (d : Site) → first_site f xs d ≡ d
first_none f e [] d = refl
first_none f e (x ∷ xs) d = ap₂ (λ b r. cond b x r) (e x) (first_none f e xs d)

none_same : (i : Import) → has_kind Memories i ≡ false → (o : Option Import) → same_memory i o ≡ false
none_same i e None = refl
none_same i e (Some j) = ap (λ b. b && (has_kind Memories j && same_pair (pair_of i) (pair_of j))) e

none_as : (parts : List Part) (i : Import) → has_kind Memories i ≡ false → (s : Site) → stays_as parts i s ≡ false
none_as parts i e s = ap (λ b. is_outside s (end_of parts s) && b) (none_same i e (import_at parts s)) ∙ and_false (is_outside s (end_of parts s))

-- Two memory imports with the same module and field name are the same memory as the same other
-- imports.
same_alike : (i j : Import) → has_kind Memories i ≡ true → has_kind Memories j ≡ true → pair_of i ≡ pair_of j → (o : Option Import) → same_memory j o ≡ same_memory i o
same_alike i j a b e None = refl
same_alike i j a b e (Some k) =
    ap₂ (λ c p. c && (has_kind Memories k && same_pair p (pair_of k))) (b ∙ sym a) (sym e)

as_alike : (parts : List Part) (i j : Import) → has_kind Memories i ≡ true → has_kind Memories j ≡ true → pair_of i ≡ pair_of j → (s : Site) → stays_as parts j s ≡ stays_as parts i s
as_alike parts i j a b e s = ap (λ c. is_outside s (end_of parts s) && c) (same_alike i j a b e (import_at parts s))

-- An import at which other imports end: it is its own end, also after memories are gathered.
pub record Stays (parts : List Part) (u : Site) : Type 0 where
  pub import : Import
  pub at : import_at parts u ≡ Some import
  pub own_end : end_of parts u ≡ Some (Outside u)
  pub linked : linked_end parts u ≡ Some (Outside u)

pub outside_is : (u : Site) (o : Option End) → is_outside u o ≡ true → o ≡ Some (Outside u)
outside_is u None h = cc
outside_is u (Some (Defined e)) h = cc
outside_is u (Some (Outside t)) h = ap (λ z. Some (Outside z)) (sym (site_is u t h))

memory_is : (i : Import) (o : Option Import) → same_memory i o ≡ true → (j : Import) × (o ≡ Some j) × (has_kind Memories j ≡ true) × (pair_of i ≡ pair_of j)
memory_is i None h = absurd (let k = h in cc)
memory_is i (Some j) h =
    let a = and_parts (has_kind Memories i) (has_kind Memories j && same_pair (pair_of i) (pair_of j)) h in
    let b = and_parts (has_kind Memories j) (same_pair (pair_of i) (pair_of j)) a.1 in
    (j, refl, b.0, pair_is (pair_of i) (pair_of j) b.1)

-- The import to which the end of an import is gathered: it stays, and it is that end itself or
-- another memory import with the same names.
pub record Gathers (parts : List Part) (t : Site) (i : Import) : Type 0 where
  pub to : Site
  pub is : gathered parts (Outside t) ≡ Outside to
  pub stays : Stays parts to
  pub pair : pair_of i ≡ pair_of stays.import
  pub memory : has_kind Memories i ≡ true → has_kind Memories stays.import ≡ true
  pub other : has_kind Memories i ≡ false → to ≡ t

pub gathers : (parts : List Part) (t : Site) (i : Import) → import_at parts t ≡ Some i → end_of parts t ≡ Some (Outside t) → Gathers parts t i
gathers parts t i at own = by (has_kind Memories i) refl
  where
    gathered_is : (u : Site) (j : Import) → import_at parts u ≡ Some j → gathered parts (Outside u) ≡ Outside (first_site (stays_as parts j) (sites parts) u)
    gathered_is u j e = ap (gathered_at parts u) e

    linked_is : (u : Site) → end_of parts u ≡ Some (Outside u) → linked_end parts u ≡ Some (gathered parts (Outside u))
    linked_is u e = ap (λ o. option_and_then (λ end. Some (gathered parts end)) o) e

    plain : has_kind Memories i ≡ false → Gathers parts t i
    plain e =
        let is : gathered parts (Outside t) ≡ Outside t = gathered_is t i at ∙ ap Outside (first_none (stays_as parts i) (none_as parts i e) (sites parts) t) in
        record { to = t; is = is; stays = record { import = i; at = at; own_end = own; linked = linked_is t own ∙ ap Some is }; pair = refl; memory = λ q. q; other = λ q. refl }

    shared : has_kind Memories i ≡ true → Gathers parts t i
    shared e =
        let n = in_sites parts t i at in
        let f = stays_as parts i in
        let u = first_site f (sites parts) t in
        let alike : same_memory i (import_at parts t) ≡ true = ap (same_memory i) at ∙ and_from (has_kind Memories i) (has_kind Memories i && same_pair (pair_of i) (pair_of i)) e (and_from (has_kind Memories i) (same_pair (pair_of i) (pair_of i)) e (pair_same (pair_of i))) in
        let out : is_outside t (end_of parts t) ≡ true = ap (is_outside t) own ∙ site_same t in
        let yes : f t ≡ true = and_from (is_outside t (end_of parts t)) (same_memory i (import_at parts t)) out alike in
        let u_yes = and_parts (is_outside u (end_of parts u)) (same_memory i (import_at parts u)) (first_yes f (sites parts) n.0 t t n.1 yes) in
        let own_u : end_of parts u ≡ Some (Outside u) = outside_is u (end_of parts u) u_yes.0 in
        let j = memory_is i (import_at parts u) u_yes.1 in
        let again : first_site (stays_as parts j.0) (sites parts) u ≡ u = first_same (stays_as parts j.0) f (as_alike parts i j.0 e j.2 j.3) (sites parts) u ∙ first_any f (sites parts) n.0 t u t n.1 yes in
        record {
          to = u;
          is = gathered_is t i at;
          stays = record { import = j.0; at = j.1; own_end = own_u; linked = linked_is u own_u ∙ ap Some (gathered_is u j.0 j.1 ∙ ap Outside again) };
          pair = j.3;
          memory = λ q. j.2;
          other = λ q. absurd (let z : true ≡ false = sym e ∙ q in cc);
        }

    by : (b : Bool) → has_kind Memories i ≡ b → Gathers parts t i
    by true e = shared e
    by false e = plain e

-- ---- where imports of linked parts end ----

-- An import that ends with an entity that a part defines, of this type.
pub record EndsInside (parts : List Part) (s : Site) (y : Ty) : Type 0 where
  pub entity : Entity
  pub end : end_of parts s ≡ Some (Defined entity)
  pub linked : linked_end parts s ≡ Some (Defined entity)
  pub own : imported_as parts entity ≡ None
  pub of : Module
  pub is_part : module_at parts entity.part ≡ Some of
  pub thing : External
  pub is : external_of of entity.what ≡ Some thing
  pub typed : bare thing ≡ y

-- An import that ends with an import that stays, of this type.
pub record EndsOutside (parts : List Part) (s : Site) (y : Ty) : Type 0 where
  pub first : Site
  pub end : end_of parts s ≡ Some (Outside first)
  pub to : Site
  pub linked : linked_end parts s ≡ Some (Outside to)
  pub stays : Stays parts to
  pub thing : External
  pub asks : asked_at parts to ≡ Some thing
  pub typed : bare thing ≡ y
  -- Only memory imports are gathered.
  pub same : (kind_of y ≡ Memories → ⊥) → to ≡ first

pub data Landed (parts : List Part) (s : Site) (y : Ty) : Type 0 where
  inside : EndsInside parts s y → Landed parts s y
  outside : EndsOutside parts s y → Landed parts s y

memory_type : (y : Ty) → kind_of y ≡ Memories → y ≡ MemoryTy
memory_type (FuncTy t) h = cc
memory_type (TableTy t) h = cc
memory_type MemoryTy h = refl
memory_type (GlobalTy t) h = cc

pub kind_asked : (parts : List Part) (u : Site) (j : Import) (x : External) → import_at parts u ≡ Some j → asked_at parts u ≡ Some x → kind_of (bare x) ≡ space_of_import j.desc
kind_asked parts u j x at h =
    let m = import_site parts u j at in
    let a : asked_at parts u ≡ asked m.0 j.desc = ap (λ o. option_and_then (λ m. option_and_then (λ i. asked m i.desc) (slice_get m.imports u.import)) o) m.1 ∙ ap (λ o. option_and_then (λ i. asked m.0 i.desc) o) m.2 in
    asked_kind m.0 j.desc x (sym a ∙ h)

pub lands_inside : EndsArePaths → (parts : List Part) (s : Site) (w : Suited parts s) (d : Entity) → w.end ≡ Defined d → EndsInside parts s (bare w.demand)
lands_inside law parts s w d e =
    let ended : end_of parts s ≡ Some (Defined d) = w.ends ∙ ap Some e in
    let finds : option_and_then (λ m. external_of m d.what) (module_at parts d.part) ≡ Some w.thing = ap (found parts) (sym e) ∙ w.finds in
    let m = and_then_is (module_at parts d.part) (λ m. external_of m d.what) w.thing finds in
    record {
      entity = d;
      end = ended;
      linked = ap (λ z. option_and_then (λ end. Some (gathered parts end)) z) ended;
      own = end_defined law parts s d ended;
      of = m.0;
      is_part = m.1;
      thing = w.thing;
      is = m.2;
      typed = sym w.same;
    }

-- The import to which an import is gathered has the type of that import, whether it is a memory or
-- not.
pub gathered_type : (parts : List Part) (t : Site) (i : Import) (g : Gathers parts t i) (x z : External) → import_at parts t ≡ Some i → asked_at parts t ≡ Some x → asked_at parts g.to ≡ Some z → (b : Bool) → has_kind Memories i ≡ b → bare z ≡ bare x
gathered_type parts t i g x z at h k true e =
    let a : kind_of (bare x) ≡ Memories = kind_asked parts t i x at h ∙ sym (kind_is Memories (space_of_import i.desc) e) in
    let b : kind_of (bare z) ≡ Memories = kind_asked parts g.to g.stays.import z g.stays.at k ∙ sym (kind_is Memories (space_of_import g.stays.import.desc) (g.memory e)) in
    memory_type (bare z) b ∙ sym (memory_type (bare x) a)
gathered_type parts t i g x z at h k false e =
    let both : Some z ≡ Some x = sym k ∙ ap (asked_at parts) (g.other e) ∙ h in
    let same : z ≡ x = cc in ap bare same

gathered_same : (parts : List Part) (t : Site) (i : Import) (g : Gathers parts t i) (x : External) → import_at parts t ≡ Some i → asked_at parts t ≡ Some x → (kind_of (bare x) ≡ Memories → ⊥) → (b : Bool) → has_kind Memories i ≡ b → g.to ≡ t
gathered_same parts t i g x at h other true e = absurd (other (kind_asked parts t i x at h ∙ sym (kind_is Memories (space_of_import i.desc) e)))
gathered_same parts t i g x at h other false e = g.other e

lands_outside : EndsArePaths → (parts : List Part) (links : AllAreSuited parts) (s : Site) (w : Suited parts s) (t : Site) → w.end ≡ Outside t → EndsOutside parts s (bare w.demand)
lands_outside law parts links s w t e =
    let ended : end_of parts s ≡ Some (Outside t) = w.ends ∙ ap Some e in
    let o = end_outside law parts s t ended in
    let g = gathers parts t o.0 o.1 o.2 in
    let finds : asked_at parts t ≡ Some w.thing = ap (found parts) (sym e) ∙ w.finds in
    let v = links.imports g.to g.stays.import g.stays.at in
    record {
      first = t;
      end = ended;
      to = g.to;
      linked = ap (λ z. option_and_then (λ end. Some (gathered parts end)) z) ended ∙ ap Some g.is;
      stays = g.stays;
      thing = v.demand;
      asks = v.asks;
      typed = gathered_type parts t o.0 g w.thing v.demand o.1 finds v.asks (has_kind Memories o.0) refl ∙ sym w.same;
      same = λ other. gathered_same parts t o.0 g w.thing o.1 finds (λ q. other (ap kind_of w.same ∙ q)) (has_kind Memories o.0) refl;
    }

pub landed : EndsArePaths → (parts : List Part) → AllAreSuited parts → (s : Site) (w : Suited parts s) → Landed parts s (bare w.demand)
landed law parts links s w = by w.end refl
  where
    by : (e : End) → w.end ≡ e → Landed parts s (bare w.demand)
    by (Defined d) e = inside (lands_inside law parts s w d e)
    by (Outside t) e = outside (lands_outside law parts links s w t e)
