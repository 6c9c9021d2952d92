-- The imports of the merged module are valid: their types exist, and the limits that they keep are
-- valid limits.
use Rattle.base_lists.proofs.Common.{◌≡◌, ◌∙◌, ap, sym, subst, refl, ℕ, ◌<◌, ◌≤◌, List, [], ◌∷◌, length, Option, Some, None, Bool, true, false, cond, arith, option_and_then, slice_get, slice_index, max, ltb-false, slice_get_within, slice_get_there, Has, kept_is, chosen_from, and_then_is}
use Rattle.std.specs.List.{cons_option}
use Rattle.wasm_tree_spec.specs.Prelude.{Memories, Limits, Import, ImportDesc, Module, space_of_import}
use Rattle.wasm_tree.specs.declared.module.ImportDesc.TheVariants as im
use Rattle.wasm_valid.specs.declared.kinds.ItemKind.TheVariants as kind
use Rattle.wasm_valid.specs.Prelude.{HoldsAt, ImportHolds, LimitsHold, ItemsHold}
use Rattle.wasm_valid.specs.Validity.{MostIsAtLeast, MostIsAtMost}
use Rattle.wasm_meaning.specs.Prelude.{Text, EndsArePaths, Part, Site, module_at, import_at, sites, is_outside, linked_end, limits_of, demands, least, met, met_limits}
use Rattle.merge_spec.specs.declared.faults.LinkFault.{LinkFault}
use Rattle.merge_spec.specs.declared.faults.LinkFault.TheVariants.{LimitsClash}
use Rattle.merge_spec.specs.Prelude.{asked_at, stays, is_under, merged, map_of, merged_desc}
use Rattle.merge_spec.specs.Faults.{kept_limits, clash_fault}
use Rattle.merge_spec.specs.Merged.{merged_import, staying}
use Rattle.merge_proof.proofs.SamenessTests.{site_is}
use Rattle.merge_proof.proofs.EntityTypes.{kind_of, bare, asked_kind}
use Rattle.merge_proof.proofs.LinkFaults.{Suited, AllAreSuited, import_site}
use Rattle.merge_proof.proofs.EndTypes.{Landed, inside, outside, landed}
use Rattle.merge_proof.proofs.TypePlaces.{type_stands}
use Rattle.merge_proof.proofs.MergedSpaces.{types_are, imports_are}
use Rattle.merge_proof.proofs.NewIndices.{kind_there}

-- ---- limits ----

not_under : (most : Option ℕ) (least : ℕ) → is_under most least ≡ false → MostIsAtLeast most least
not_under None least h = tt
not_under (Some n) least h = ltb-false n least h

no_clash : (s : Site) (l : Limits) → cond (is_under l.max l.min) (Some (LimitsClash s.part s.import)) None ≡ None → is_under l.max l.min ≡ false
no_clash s l h = by (is_under l.max l.min) h
  where
    by : (b : Bool) → cond b (Some (LimitsClash s.part s.import)) None ≡ None → b ≡ false
    by true h = cc
    by false h = refl

-- The limits that a staying import keeps are valid limits, if no limits clash.
pub limits_hold : (parts : List Part) (s : Site) (i : Import) (l : Limits) → stays parts s ≡ true → import_at parts s ≡ Some i → limits_of i.desc ≡ Some l → clash_fault parts s ≡ None → LimitsHold (met_limits parts s)
unfolding clash_fault kept_limits
limits_hold parts s i l remain at is h =
    let kept : kept_limits parts s ≡ Some (met_limits parts s) =
    ap (λ b. cond b (option_and_then (λ i. option_and_then (λ l. Some (met_limits parts s)) (limits_of i.desc)) (import_at parts s)) None) remain ∙ ap (λ o. option_and_then (λ i. option_and_then (λ l. Some (met_limits parts s)) (limits_of i.desc)) o) at ∙
    ap (λ o. option_and_then {T = Limits} {U = Limits} (λ l. Some (met_limits parts s)) o) is in
    let fits : cond (is_under (met_limits parts s).max (met_limits parts s).min) (Some (LimitsClash s.part s.import)) None ≡ None =
    sym (ap (λ o. option_and_then {T = Limits} {U = LinkFault} (λ l. cond (is_under l.max l.min) (Some (LimitsClash s.part s.import)) None) o) kept) ∙ h in
    not_under (met_limits parts s).max (met_limits parts s).min (no_clash s (met_limits parts s) fits)

-- Limits of at most 65536 pages.
record Few (l : Limits) : Type 0 where
  low : l.min ≤ 65536
  high : MostIsAtMost l.max 65536

least_few : (a b : Option ℕ) → MostIsAtMost a 65536 → MostIsAtMost b 65536 → MostIsAtMost (least a b) 65536
least_few None b x y = y
least_few (Some a) None x y = x
least_few (Some a) (Some b) x y = omega (arith, x, y)

more_few : (l k : Limits) → Few l → Few k → Few (record { min = max l.min k.min; max = least l.max k.max })
more_few l k x y = record { low = (let a = x.low in let b = y.low in omega (arith, a, b)); high = least_few l.max k.max x.high y.high }

demands_few : (parts : List Part) (s : Site) (ts : List Site) → ((t : Site) (l : Limits) → is_outside s (linked_end parts t) ≡ true → option_and_then (λ i. limits_of i.desc) (import_at parts t) ≡ Some l → Few l) → Few (met (demands parts s ts))
demands_few parts s [] each = record { low = omega arith; high = tt }
demands_few parts s (t ∷ ts) each = by (is_outside s (linked_end parts t)) refl (option_and_then (λ i. limits_of i.desc) (import_at parts t)) refl (demands_few parts s ts each)
  where
    by : (b : Bool) → is_outside s (linked_end parts t) ≡ b → (o : Option Limits) → option_and_then (λ i. limits_of i.desc) (import_at parts t) ≡ o → Few (met (demands parts s ts)) → Few (met (cond b (cons_option o (demands parts s ts)) (demands parts s ts)))
    by false e o is rest = rest
    by true e None is rest = rest
    by true e (Some l) is rest = more_few l (met (demands parts s ts)) (each t l e is) rest

memory_few : (m : Module) (d : ImportDesc) (l : Limits) → space_of_import d ≡ Memories → limits_of d ≡ Some l → ImportHolds m d → Few l
memory_few m (im.Memory k) l e h p = let same : k ≡ l = cc in subst Few same (record { low = p.1; high = p.2 })
memory_few m (im.Func t) l e h p = absurd (let z = e in cc)
memory_few m (im.Table t) l e h p = absurd (let z = e in cc)
memory_few m (im.Global t) l e h p = absurd (let z = e in cc)

-- An import of a valid part is valid.
pub part_import : (m : Module) → ItemsHold m → (n : ℕ) (i : Import) → slice_get m.imports n ≡ Some i → ImportHolds m i.desc
part_import m holds n i at =
    let got : slice_get m.imports n ≡ Some i = at in
    let z = holds kind.Import n (slice_get_within m.imports n i got) in
    let both : Some z.0 ≡ Some i = sym z.1 ∙ got in
    let same : z.0 ≡ i = cc in
    subst (λ (x : Import). ImportHolds m x.desc) same z.2

module _ (law : EndsArePaths) (parts : List Part) (links : AllAreSuited parts) (valid : (p : ℕ) (m : Module) → module_at parts p ≡ Some m → ItemsHold m) where
  -- An import that ends at a memory import imports a memory.
  ends_alike : (s t : Site) (i j : Import) → import_at parts s ≡ Some i → import_at parts t ≡ Some j → space_of_import i.desc ≡ Memories → is_outside s (linked_end parts t) ≡ true → space_of_import j.desc ≡ Memories
  ends_alike s t i j at_s at_t e h = by (landed law parts links t w)
    where
      w : Suited parts t
      w = links.imports t j at_t

      kind_at : (u : Site) (i : Import) (x : _) → import_at parts u ≡ Some i → asked_at parts u ≡ Some x → kind_of (bare x) ≡ space_of_import i.desc
      kind_at u i x at h = let m = import_site parts u i at in asked_kind m.0 i.desc x (kind_there parts u i x m.0 m.1 m.2 h)

      by : Landed parts t (bare w.demand) → space_of_import j.desc ≡ Memories
      by (inside v) = absurd (let z : false ≡ true = sym (ap (is_outside s) v.linked) ∙ h in cc)
      by (outside v) =
          let to : s ≡ v.to = site_is s v.to (sym (ap (is_outside s) v.linked) ∙ h) in
          let x : kind_of (bare v.thing) ≡ Memories = kind_at s i v.thing at_s (ap (asked_at parts) to ∙ v.asks) ∙ e in
          sym (kind_at t j w.demand at_t w.asks) ∙ sym (ap kind_of v.typed) ∙ x

  memory_met : (s : Site) (i : Import) → import_at parts s ≡ Some i → space_of_import i.desc ≡ Memories → Few (met_limits parts s)
  memory_met s i at e = demands_few parts s (sites parts) (λ t l h is. each t l h is)
    where
      each : (t : Site) (l : Limits) → is_outside s (linked_end parts t) ≡ true → option_and_then (λ i. limits_of i.desc) (import_at parts t) ≡ Some l → Few l
      each t l h is =
          let j = and_then_is (import_at parts t) (λ i. limits_of i.desc) l is in
          let m = import_site parts t j.0 j.1 in
          memory_few m.0 j.0.desc l (ends_alike s t i j.0 at j.1 e h) j.2 (part_import m.0 (valid t.part m.0 m.1) t.import j.0 m.2)

  desc_holds : (names : List (Option Text)) (s : Site) (m : Module) (i : Import) (d : ImportDesc) → i.desc ≡ d → stays parts s ≡ true → module_at parts s.part ≡ Some m → import_at parts s ≡ Some i → ImportHolds m d → ImportHolds (merged parts names) (merged_desc parts s m d)
  desc_holds names s m i (im.Func ty) e remain is at p =
      let t = slice_get_there m.types ty p in
      slice_get_within (merged parts names).types _ t.0 (ap (λ z. slice_get z (slice_index (map_of parts s.part m).types ty)) (types_are parts names) ∙ type_stands parts s.part m ty t.0 is t.1)
  desc_holds names s m i (im.Table t) e remain is at p = limits_hold parts s i t.limits remain at (ap limits_of e) (links.limits s i at)
  desc_holds names s m i (im.Memory l) e remain is at p =
      let few = memory_met s i at (ap space_of_import e) in
      (limits_hold parts s i l remain at (ap limits_of e) (links.limits s i at), few.low, few.high)
  desc_holds names s m i (im.Global t) e remain is at p = tt

  import_back : (s : Site) (x : Import) → merged_import parts s ≡ Some x → (m : Module) × (i : Import) × (module_at parts s.part ≡ Some m) × (import_at parts s ≡ Some i) × (x.desc ≡ merged_desc parts s m i.desc)
  unfolding merged_import
  import_back s x h =
      let m = and_then_is (module_at parts s.part) (λ m. option_and_then {T = Import} {U = Import} (λ i. Some (record i { desc = merged_desc parts s m i.desc })) (import_at parts s)) x h in
      let i = and_then_is (import_at parts s) (λ i. Some (record i { desc = merged_desc parts s m.0 i.desc })) x m.2 in
      let q = i.2 in
      let same : record i.0 { desc = merged_desc parts s m.0 i.0.desc } ≡ x = cc in
      (m.0, i.0, m.1, i.1, ap (λ (x : Import). x.desc) (sym same))

  stays_there : (s : Site) → Has (staying parts) s → stays parts s ≡ true
  unfolding staying
  stays_there s h = (kept_is (stays parts) (sites parts) h.0 s h.1).0

  pub imports_hold : (names : List (Option Text)) (j : ℕ) → j < length (merged parts names).imports → HoldsAt (merged parts names) kind.Import j
  imports_hold names j lt =
      let x = slice_get_there (merged parts names).imports j lt in
      let s = chosen_from (merged_import parts) (staying parts) j x.0 (ap (λ z. slice_get z j) (sym (imports_are parts names)) ∙ x.1) in
      let b = import_back s.0 x.0 s.2 in
      let m = import_site parts s.0 b.1 b.3 in
      let both : Some m.0 ≡ Some b.0 = sym m.1 ∙ b.2 in
      let same : m.0 ≡ b.0 = cc in
      let p = part_import b.0 (valid s.0.part b.0 b.2) s.0.import b.1 (ap (λ (m : Module). slice_get m.imports s.0.import) (sym same) ∙ m.2) in
      (x.0, x.1, subst (ImportHolds (merged parts names)) (sym b.4) (desc_holds names s.0 b.0 b.1 b.1.desc refl (stays_there s.0 s.1) b.2 b.3 p))
