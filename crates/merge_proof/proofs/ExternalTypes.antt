-- The external type of an entity of the store (WebAssembly Core 2.0, section 4.5.1), whether it
-- fits what an import asks for, and the limits that several imports ask for together.
use Rattle.base_lists.proofs.Common.{◌≡◌, ℕ, List, length, Option, Some, None, true, false, refl, ◌∙◌, option_map, slice_get, unwrap_or, [], ◌∷◌, Bool, cond, arith, ◌&&◌, is_some_there, nat_tests, list_all_each, list_all_from, length_rel, same_there, there, then_eq, each_same_is}
use Rattle.base_lists.specs.Options.{◌>>=◌}
use Rattle.std.specs.List.{cons_option}
use Rattle.wasm_tree_spec.specs.Prelude.{Limits, Import, same_type}
use Rattle.wasm_meaning.specs.Prelude.{Store, type_at, Part, Site, import_at, sites, limits_of, is_outside, linked_end, met_limits, demands, met, Environment, ExternalValue, FuncAt, TableAt, MemoryAt, GlobalAt, meets, all_of, is_matched, imported_external_value}
use Rattle.run_simulation.specs.Prelude.{Pairing, StoreRel, ExternalValueRel, a_func, a_table, a_memory, a_global}
use Rattle.merge_spec.specs.Prelude.{External, FuncOf, TableOf, MemoryOf, GlobalOf, asked_at, same_but_limits, meets_limits}
use Rattle.merge_proof.specs.ImportEnds.{SitesAreImports}

-- ---- the external type of an entity ----

-- The external type of an external value in a store: the limits of a table or memory are its actual
-- size and its maximum.
abbrev pub type_in : Store → ExternalValue → Option External
type_in s (FuncAt a) = type_at s a >>= λ t. Some (FuncOf t)
type_in s (TableAt a) = slice_get s.tables a >>= λ u. Some (TableOf (record { ty = u.ty; limits = record { min = length u.slots; max = u.most } }))
type_in s (MemoryAt a) = slice_get s.mems a >>= λ u. Some (MemoryOf (record { min = u.pages; max = u.most }))
type_in s (GlobalAt a) = slice_get s.globals a >>= λ g. Some (GlobalOf g.ty)

-- Whether a type exists that is the one asked for except for limits, and meets the limits that are
-- asked for.
abbrev pub fits_type : (demand : External) → Option External → Bool
fits_type demand o = unwrap_or (option_map (λ type. same_but_limits demand type && meets_limits demand type) o) false

-- The external type fits the one that is asked for.
pub record Fits (demand type : External) : Type 0 where
  pub same : same_but_limits demand type ≡ true
  pub meets : meets_limits demand type ≡ true

-- The external value that an import denotes exists and has a type that fits the one asked for.
pub record FitsAt (s : Store) (demand : External) (o : Option ExternalValue) : Type 0 where
  pub thing : ExternalValue
  pub is : o ≡ Some thing
  pub type : External
  pub typed : type_in s thing ≡ Some type
  pub fits : Fits demand type

-- ---- by kind ----

-- Related entities of related stores have the same external type.
pub type_same : {R : Pairing} {s z : Store} → StoreRel R s z → {th ts : ExternalValue} → ExternalValueRel R th ts → type_in s th ≡ type_in z ts
type_same like (a_func r) = rw (same_there (like.types r)) refl
type_same like (a_table r) = then_eq (there (like.tables r)) (λ _ _ r. cc (length_rel r.slots))
type_same like (a_memory r) = then_eq (there (like.mems r)) (λ _ _ e. cc)
type_same like (a_global r) = then_eq (there (like.globals r)) (λ _ _ r. cc r.type)

-- ---- limits ----

abbrev pub limits_in : External → Option Limits
limits_in (TableOf t) = Some t.limits
limits_in (MemoryOf l) = Some l
limits_in _ = None

-- The same external type, with other limits.
abbrev pub kept : External → Limits → External
kept (TableOf t) l = TableOf (record t { limits = l })
kept (MemoryOf k) l = MemoryOf l
kept x l = x

-- If some limits imply others, a type that fits with the former fits with the latter.
pub fits_kept : (d e : External) (o : Option External) (l : Limits) → same_but_limits d e ≡ true → fits_type (kept e l) o ≡ true →
    ((k : Limits) → limits_in d ≡ Some k → (size : ℕ) (most : Option ℕ) → meets size most l ≡ true → meets size most k ≡ true) → fits_type d o ≡ true
fits_kept (FuncOf t) (FuncOf u) o l same f implied = (let is : t ≡ u = grind (arith, each_same_is same_type (λ a b e. grind arith)) in rw is f)
fits_kept d e o l same f implied = grind arith

-- ---- an import by its site ----

-- The limits of an import's description are those of the external type that the import asks for.
pub site_limits : (parts : List Part) (t : Site) (i : Import) (x : External) → import_at parts t ≡ Some i → asked_at parts t ≡ Some x → limits_of i.desc ≡ limits_in x
site_limits parts t i x at asks = grind arith

module _ (env : Environment) (parts : List Part) (s : Store) (t : Site) (i : Import) (x : External) (at : import_at parts t ≡ Some i) (asks : asked_at parts t ≡ Some x) where
  -- An import matches exactly if the type of the external value that it denotes fits what it asks
  -- for.
  pub matched_is : is_matched env parts s t ≡ fits_type x (imported_external_value env parts t >>= type_in s)
  matched_is = grind arith

  -- If all imports match, the type of the external value that an import denotes fits.
  pub type_fits : SitesAreImports → all_of (is_matched env parts s) (sites parts) ≡ true → fits_type x (imported_external_value env parts t >>= type_in s) ≡ true
  type_fits sites_are all = let n = (sites_are parts t).1 i at in rw matched_is at (list_all_each _ _ all n.0 t n.1)

  -- If all imports match, each import denotes an external value, and this has a type.
  pub site_fits : SitesAreImports → all_of (is_matched env parts s) (sites parts) ≡ true → FitsAt s x (imported_external_value env parts t)
  site_fits sites_are all =
      let f = type_fits sites_are all in
      let k = is_some_there (imported_external_value env parts t) (grind arith) in
      let y = is_some_there (type_in s k.0) (grind arith) in
      record { thing = k.0; is = k.1; type = y.0; typed = y.1; fits = grind arith }

-- ---- limits that several imports ask for together are met exactly if those of each are ----

module _ (size : ℕ) (most : Option ℕ) where
  -- If the test holds and there are limits, the limits are met.
  abbrev met_if : Bool → Option Limits → Bool
  met_if b o = cond b (unwrap_or (option_map (meets size most) o) true) true

  consed_met : (b : Bool) (o : Option Limits) (ls : List Limits) → meets size most (met (cond b (cons_option o ls) ls)) ≡ met_if b o && meets size most (met ls)
  consed_met b o ls = grind (arith, nat_tests)

  module _ (parts : List Part) (s : Site) where
    -- If the import at the site ends at `s`, the limits that it asks for are met.
    abbrev site_met : Site → Bool
    site_met t = met_if (is_outside s (linked_end parts t)) (import_at parts t >>= λ i. limits_of i.desc)

    pub demands_met : (ts : List Site) → meets size most (met (demands parts s ts)) ≡ all_of site_met ts
    demands_met [] = grind (arith, nat_tests)
    demands_met (t ∷ ts) = rw (← demands_met ts) (consed_met _ _ (demands parts s ts))

-- A type that fits also fits with the limits that are asked for together, if it fits what each
-- import asks for that ends at the staying one.
pub kept_fits : (parts : List Part) (s : Site) (d : External) (o : Option External) → fits_type d o ≡ true →
    ((t : Site) (i : Import) → import_at parts t ≡ Some i → is_outside s (linked_end parts t) ≡ true → (x : External) × (asked_at parts t ≡ Some x) × (fits_type x o ≡ true)) → fits_type (kept d (met_limits parts s)) o ≡ true
kept_fits parts s d o f each =
    let met = λ (k : Limits) (e : o >>= limits_in ≡ Some k). demands_met k.min k.max parts s (sites parts) ∙ list_all_from _ (sites parts) (λ n t at. grind (arith, each t, site_limits parts t)) in
    grind arith
