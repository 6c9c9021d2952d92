-- The limits of the imports that stay are in range.
use Rattle.base_lists.proofs.Common.{◌≡◌, ℕ, ◌<◌, ◌^◌, Bool, true, false, cond, List, [], ◌∷◌, Option, Some, None, refl, subst, arith, max, min, option_and_then, slice_get, and_then_is, every_at}
use Rattle.wasm_tree_spec.specs.Prelude.{Limits, ImportDesc, Import, Module}
use Rattle.wasm_tree.specs.declared.module.ImportDesc.TheVariants as im
use Rattle.base_lists.specs.Every.{Every}
use Rattle.std.specs.List.{cons_option}
use Rattle.wasm_meaning.specs.Prelude.{Part, Site, module_at, import_at, sites, linked_end, is_outside, limits_of, demands, least, met, met_limits}
use Rattle.wasm_write_proof.specs.Ranges.{MaxInRange, LimitsInRange}
use Rattle.wasm_valid_proof.specs.Numbers.{ImportLimitsInRange, ImportNumbersInRange, NumbersInRange}
use Rattle.merge_proof.proofs.PartProperties.{at_part}

-- The numbers of each part that are no indices are in range.
abbrev pub PartNumbersInRange : List Part → Type 0
PartNumbersInRange = Every (λ (p : Part). NumbersInRange p.«module»)

pub import_in : (parts : List Part) → PartNumbersInRange parts → (s : Site) (i : Import) → import_at parts s ≡ Some i → ImportNumbersInRange i
import_in parts h s i e = found (and_then_is (module_at parts s.part) (λ (m : Module). slice_get m.imports s.import) i e)
  where
    found : (m : Module) × (module_at parts s.part ≡ Some m) × (slice_get m.imports s.import ≡ Some i) → ImportNumbersInRange i
    found (m, there, is) = every_at ImportNumbersInRange m.imports s.import i (at_part NumbersInRange parts s.part m h there).imports is

limits_in : (d : ImportDesc) (l : Limits) → limits_of d ≡ Some l → ImportLimitsInRange d → LimitsInRange l
limits_in (im.Func t) l e h = absurd (cc)
limits_in (im.Table t) l e h = let same : t.limits ≡ l = cc in subst LimitsInRange same h
limits_in (im.Memory k) l e h = let same : k ≡ l = cc in subst LimitsInRange same h
limits_in (im.Global g) l e h = absurd (cc)

demanded_in : (parts : List Part) → PartNumbersInRange parts → (t : Site) (l : Limits) → option_and_then (λ (i : Import). limits_of i.desc) (import_at parts t) ≡ Some l → LimitsInRange l
demanded_in parts h t l e = found (and_then_is (import_at parts t) (λ (i : Import). limits_of i.desc) l e)
  where
    found : (i : Import) × (import_at parts t ≡ Some i) × (limits_of i.desc ≡ Some l) → LimitsInRange l
    found (i, there, is) = limits_in i.desc l is (import_in parts h t i there).2

consed_in : (o : Option Limits) (ls : List Limits) → ((l : Limits) → o ≡ Some l → LimitsInRange l) → Every LimitsInRange ls → Every LimitsInRange (cons_option o ls)
consed_in None ls f h = h
consed_in (Some l) ls f h = (f l refl, h)

either_in : (b : Bool) (xs ys : List Limits) → Every LimitsInRange xs → Every LimitsInRange ys → Every LimitsInRange (cond b xs ys)
either_in true xs ys h k = h
either_in false xs ys h k = k

demands_in : (parts : List Part) → PartNumbersInRange parts → (s : Site) (ts : List Site) → Every LimitsInRange (demands parts s ts)
demands_in parts h s [] = tt
demands_in parts h s (t ∷ ts) =
    let rest = demands_in parts h s ts in
    either_in (is_outside s (linked_end parts t)) _ _ (consed_in (option_and_then (λ (i : Import). limits_of i.desc) (import_at parts t)) (demands parts s ts) (λ l e. demanded_in parts h t l e) rest) rest

least_in : (a b : Option ℕ) → MaxInRange a → MaxInRange b → MaxInRange (least a b)
least_in None b h k = k
least_in (Some a) None h k = h
least_in (Some a) (Some b) h k = let small : min a b < 2 ^ 32 = omega arith in small

met_in : (ls : List Limits) → Every LimitsInRange ls → LimitsInRange (met ls)
met_in [] h = (omega arith, tt)
met_in (l ∷ ls) h =
    let rest = met_in ls h.1 in
    let first = h.0.0 in
    let others = rest.0 in
    let greatest : max l.min (met ls).min < 2 ^ 32 = omega arith in
    (greatest, least_in l.max (met ls).max h.0.1 rest.1)

pub met_limits_in : (parts : List Part) → PartNumbersInRange parts → (s : Site) → LimitsInRange (met_limits parts s)
met_limits_in parts h s = met_in (demands parts s (sites parts)) (demands_in parts h s (sites parts))
