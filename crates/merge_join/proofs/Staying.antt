-- The imports that stay, in order.
use Rattle.base_lists.proofs.Common.{◌≡◌, ◌∙◌, sym, ap, refl, ℕ, suc, ◌+◌, ◌<◌, List, [], ◌∷◌, ◌++◌, length, Option, Some, None, Bool, true, false, cond, slice_get, get_or, append_assoc, append-nil, option_and_then, filter, filter_map, cons_option, filter-append, filter_map-append, slice_get-get_or}
use Rattle.merge_join.proofs.Sites.{sites_in_more}
use Rattle.wasm_tree_spec.specs.Prelude.{Limits, Import, ImportDesc, Module}
use Rattle.wasm_tree.specs.declared.module.ImportDesc.TheVariants as im
use Rattle.wasm_meaning.specs.Prelude.{Text, Part, Site, module_at, import_at, limits_of, met_limits, sites_in, sites_from}
use Rattle.index_remap.specs.declared.remap.Remap.{Remap}
use Rattle.merge_spec.specs.Prelude.{stays, by_part_from, by_part, map_of, merged_desc}
use Rattle.merge_spec.specs.Faults.{kept_limits}
use Rattle.merge_spec.specs.Merged.{staying, merged_import}
use Rattle.merge_join.specs.Kept.{kept_desc}
use Rattle.merge_join.specs.LinkedParts.{site}

-- ---- one import ----

desc_is : (ps : List Part) (s : Site) (m : Module) (d : ImportDesc) → kept_desc (map_of ps s.part m) (option_and_then (λ l. Some (met_limits ps s)) (limits_of d)) d ≡ merged_desc ps s m d
desc_is ps s m (im.Func ty) = refl
desc_is ps s m (im.Table t) = refl
desc_is ps s m (im.Memory l) = refl
desc_is ps s m (im.Global t) = refl

kept_is : (ps : List Part) (s : Site) (i : Import) → stays ps s ≡ true → import_at ps s ≡ Some i → kept_limits ps s ≡ option_and_then (λ l. Some (met_limits ps s)) (limits_of i.desc)
unfolding kept_limits
kept_is ps s i yes-stays at =
    ap (λ b. cond b (option_and_then (λ i. option_and_then {T = Limits} {U = Limits} (λ l. Some (met_limits ps s)) (limits_of i.desc)) (import_at ps s)) None) yes-stays
    ∙ ap (λ o. option_and_then {T = Import} {U = Limits} (λ i. option_and_then (λ l. Some (met_limits ps s)) (limits_of i.desc)) o) at

abbrev import_of : Text → Text → ImportDesc → Import
import_of a b d = record { «module» = a; field = b; desc = d }

made : (i : Import) (a b : Text) (d e : ImportDesc) → a ≡ i.«module» → b ≡ i.field → d ≡ e → Some (record i { desc = e }) ≡ Some (import_of a b d)
made i a b d e p q r = sym (ap (λ a. Some (import_of a b d)) p ∙ ap (λ b. Some (import_of i.«module» b d)) q ∙ ap (λ d. Some (import_of i.«module» i.field d)) r)

import_is : (ps : List Part) (s : Site) (m : Module) (i : Import) → module_at ps s.part ≡ Some m → slice_get m.imports s.import ≡ Some i → merged_import ps s ≡ Some (record i { desc = merged_desc ps s m i.desc })
unfolding merged_import
import_is ps s m i at here = rw (at, here) refl

pub import_made : (ps : List Part) (s : Site) (m : Module) (r : Remap) (kept : Option Limits) (is : List Import) (i : Import) (a b : Text) (d : ImportDesc) → stays ps s ≡ true → module_at ps s.part ≡ Some m → is ≡ m.imports → s.import < length is → i ≡ get_or is s.import i →
    r ≡ map_of ps s.part m → kept ≡ kept_limits ps s → a ≡ i.«module» → b ≡ i.field → d ≡ kept_desc r kept i.desc → merged_import ps s ≡ Some (record { «module» = a; field = b; desc = d })
import_made ps s m r kept is i a b d stay at same lt here map limits p q e =
    let stands : slice_get m.imports s.import ≡ Some i = ap (λ l. slice_get l s.import) (sym same) ∙ slice_get-get_or is s.import i lt ∙ ap Some (sym here) in
    let there : import_at ps s ≡ Some i = ap (λ o. option_and_then (λ m. slice_get m.imports s.import) o) at ∙ stands in
    let desc : d ≡ merged_desc ps s m i.desc =
    e ∙ ap (λ r. kept_desc r kept i.desc) map ∙ ap (λ k. kept_desc (map_of ps s.part m) k i.desc) (limits ∙ kept_is ps s i stay there) ∙ desc_is ps s m i.desc in
    import_is ps s m i at stands ∙ made i a b d (merged_desc ps s m i.desc) p q desc

-- ---- the imports of one part ----

module _ {A : Type 0} (test : Site → Bool) (f : Site → Option A) where
  kept_next : (p n : ℕ) → filter_map f (filter test (sites_in p (n + 1) 0)) ≡ filter_map f (filter test (sites_in p n 0)) ++ filter_map f (cond (test (site p n)) (site p n ∷ []) [])
  kept_next p n = ap (λ l. filter_map f (filter test l)) (sites_in_more p n) ∙ ap (filter_map f) (filter-append test (sites_in p n 0) (site p n ∷ [])) ∙ filter_map-append f (filter test (sites_in p n 0)) (cond (test (site p n)) (site p n ∷ []) [])

  -- The list of imports that stay, extended by one import that stays.
  pub import_more : (p n : ℕ) (first old new : List A) (x : A) → test (site p n) ≡ true → f (site p n) ≡ Some x → old ≡ first ++ filter_map f (filter test (sites_in p n 0)) → new ≡ old ++ x ∷ [] → new ≡ first ++ filter_map f (filter test (sites_in p (n + 1) 0))
  import_more p n first old new x stay is was now =
      let more : filter_map f (cond (test (site p n)) (site p n ∷ []) []) ≡ x ∷ [] = ap (λ b. filter_map f (cond b (site p n ∷ []) [])) stay ∙ ap (λ o. cons_option o []) is in
      now ∙ ap (λ l. l ++ x ∷ []) was ∙ append_assoc first (filter_map f (filter test (sites_in p n 0))) (x ∷ [])
      ∙ ap (λ l. first ++ l) (sym (kept_next p n ∙ ap (λ l. filter_map f (filter test (sites_in p n 0)) ++ l) more))

  -- The list of imports that stay does not change at an import that does not stay.
  pub import_less : (p n : ℕ) (first old : List A) → test (site p n) ≡ false → old ≡ first ++ filter_map f (filter test (sites_in p n 0)) → old ≡ first ++ filter_map f (filter test (sites_in p (n + 1) 0))
  import_less p n first old goes was =
      was ∙ ap (λ l. first ++ l) (sym (kept_next p n ∙ ap (λ b. filter_map f (filter test (sites_in p n 0)) ++ filter_map f (cond b (site p n ∷ []) [])) goes ∙ append-nil (filter_map f (filter test (sites_in p n 0)))))

  -- ---- those of all parts ----

  kept_from : (q : ℕ) (ps : List Part) → by_part_from (λ p m. filter_map f (filter test (sites_in p (length m.imports) 0))) q ps ≡ filter_map f (filter test (sites_from q ps))
  kept_from q [] = refl
  kept_from q (part ∷ ps) =
      let here = sites_in q (length part.«module».imports) 0 in
      ap (λ rest. filter_map f (filter test here) ++ rest) (kept_from (suc q) ps)
      ∙ sym (ap (filter_map f) (filter-append test here (sites_from (suc q) ps)) ∙ filter_map-append f (filter test here) (filter test (sites_from (suc q) ps)))

pub kept_imports : {A : Type 0} (ps : List Part) (f : Site → Option A) → by_part (λ p m. filter_map f (filter (stays ps) (sites_in p (length m.imports) 0))) ps ≡ filter_map f (staying ps)
unfolding staying
kept_imports ps f = kept_from (stays ps) f 0 ps
