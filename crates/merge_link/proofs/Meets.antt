-- The met limits of the imports that share an end, computed import by import, from the last to the
-- first.
use Rattle.base_lists.proofs.Common.{◌≡◌, ◌≢◌, ◌⊎◌, ◌∙◌, sym, ap, refl, subst, inl, inr, ℕ, zero, suc, ◌+◌, ◌<◌, List, [], ◌∷◌, Option, Some, None, Bool, true, false, cond, map, max, length, set, replicate, slice_get, nat_eq, arith, option_and_then, cases_eq, nat_tests, length-map, length-set}
use Rattle.base_lists.proofs.Common.{slice_get-map, slice_get_within, set_at, set_other, slice_get_there}
use Rattle.std.specs.Option.{option_map}
use Rattle.wasm_tree_spec.specs.Prelude.{Limits, Import, Module}
use Rattle.wasm_meaning.specs.Linking as linking
use Rattle.merge_spec.specs.declared.parts.Part.{Part}
use Rattle.merge_spec.specs.Prelude.{named_modules}
use Rattle.merge_link.specs.declared.sites.Site.{Site}
use Rattle.merge_link.specs.declared.tables.Table.{Table}
use Rattle.merge_link.specs.Prelude.{AreSites, the_site, AreTables, imports_before, the_end}
use Rattle.merge_link.specs.Gathering.{AreLinkedEnds, linked_at}
use Rattle.merge_link.specs.Limits.{IsDemand, asked_limits, clash_of, kept_of, met_at, met_of}
use Rattle.merge_spec.specs.Faults as faults
use Rattle.merge_link.specs.declared.part_tables.Ending.{Ending}
use Rattle.merge_link.proofs.Found.{lengths_same, same_at}
use Rattle.merge_link.proofs.Joins.{table_at}
use Rattle.merge_link.proofs.Numbers.{site_at, site_of}
use Rattle.merge_link.proofs.Steps.{lists_same}

-- ---- numbers of places ----

pub module_within : (lp : List linking.Part) (p : ℕ) (m : Module) → linking.module_at lp p ≡ Some m → p < length lp
module_within [] p m h = absurd (cc)
module_within (x ∷ lp) zero m h = omega arith
module_within (x ∷ lp) (suc p) m h = omega (arith, module_within lp p m h)

pub part_there : (lp : List linking.Part) (s : linking.Site) (i : Import) → linking.import_at lp s ≡ Some i → (m : Module) × (linking.module_at lp s.part ≡ Some m) × (s.import < length m.imports)
part_there lp s i h = by (linking.module_at lp s.part) refl h
  where
    by : (o : Option Module) → linking.module_at lp s.part ≡ o → option_and_then (λ m. slice_get m.imports s.import) o ≡ Some i → (m : Module) × (linking.module_at lp s.part ≡ Some m) × (s.import < length m.imports)
    by None at k = absurd (cc)
    by (Some m) at k = (m, at, slice_get_within m.imports s.import i k)

pub number_at : (lp : List linking.Part) (ts : List Table) (s : linking.Site) (i : Import) (t : Table) → AreTables lp ts → linking.import_at lp s ≡ Some i → slice_get ts s.part ≡ Some t
    → slice_get (linking.sites lp) (t.first_import + s.import) ≡ Some s
number_at lp ts s i t are there at =
    let x = table_at lp ts s.part t are at in
    let m = part_there lp s i there in
    let same : x.tree ≡ m.0 = let a = x.at in let b = m.1 in cc in
    let within : s.import < length x.tree.imports = subst (λ (y : Module). s.import < length y.imports) (sym same) m.2 in
    let z : 0 + s.part ≡ s.part = omega arith in
    ap (λ k. slice_get (linking.sites lp) (k + s.import)) x.table.first_import ∙ site_at lp 0 s.part s.import x.tree x.at within ∙ ap (λ p. let q : linking.Site = record { part = p; import = s.import } in Some q) z

one_number : (lp : List linking.Part) (k m : ℕ) (s u : linking.Site) → slice_get (linking.sites lp) k ≡ Some s → slice_get (linking.sites lp) m ≡ Some u → s.part ≡ u.part → s.import ≡ u.import → k ≡ m
one_number lp k m s u h l e f =
    let a = site_of lp 0 k s h in
    let b = site_of lp 0 m u l in
    let p : a.place ≡ b.place = omega (arith, a.part, b.part, e) in
    omega (arith, a.number, b.number, ap (imports_before lp) p, f)

same_self : (s : linking.Site) → linking.same_site s s ≡ true
same_self s = let a : nat_eq s.part s.part ≡ true = grind (arith, nat_tests) in let b : nat_eq s.import s.import ≡ true = grind (arith, nat_tests) in rw (a, b) refl

apart : (lp : List linking.Part) (k m : ℕ) (s u : linking.Site) → slice_get (linking.sites lp) k ≡ Some s → slice_get (linking.sites lp) m ≡ Some u → k ≢ m → linking.same_site s u ≡ false
apart lp k m s u h l ne = by (cases_eq s.part u.part) (cases_eq s.import u.import)
  where
    by : (s.part ≡ u.part) ⊎ (s.part ≢ u.part) → (s.import ≡ u.import) ⊎ (s.import ≢ u.import) → linking.same_site s u ≡ false
    by (inl e) (inl f) = absurd (ne (one_number lp k m s u h l e f))
    by (inl e) (inr f) = let a : nat_eq s.part u.part ≡ true = grind (arith, nat_tests) in let b : nat_eq s.import u.import ≡ false = grind (arith, nat_tests) in rw (a, b) refl
    by (inr e) f = let a : nat_eq s.part u.part ≡ false = grind (arith, nat_tests) in rw a refl

-- ---- one import more ----

pub met_none : (ps : List Part) (s : Site) → met_of ps [] s ≡ record { min = 0; max = None }
unfolding met_of
met_none ps s = refl

-- An import with another end does not change the met limits.
same_elsewhere : (ps : List Part) (ts : List Site) (t s : Site) → linking.is_outside (the_site s) (linked_at ps t) ≡ false → met_of ps (t ∷ ts) s ≡ met_of ps ts s
unfolding met_of linked_at
same_elsewhere ps ts t s h = rw h refl

same_nothing : (ps : List Part) (ts : List Site) (t s : Site) → asked_limits (named_modules ps) (the_site t) ≡ None → met_of ps (t ∷ ts) s ≡ met_of ps ts s
unfolding met_of
same_nothing ps ts t s h = rw h (by (linking.is_outside (the_site s) (linking.linked_end (named_modules ps) (the_site t))))
  where
    by : (b : Bool) → linking.met (cond b (linking.demands (named_modules ps) (the_site s) (map the_site ts)) (linking.demands (named_modules ps) (the_site s) (map the_site ts))) ≡ linking.met (linking.demands (named_modules ps) (the_site s) (map the_site ts))
    by true = refl
    by false = refl

met_here : (ps : List Part) (ts : List Site) (t s : Site) (l : Limits) → linking.is_outside (the_site s) (linked_at ps t) ≡ true → asked_limits (named_modules ps) (the_site t) ≡ Some l
    → met_of ps (t ∷ ts) s ≡ record { min = max l.min (met_of ps ts s).min; max = linking.least l.max (met_of ps ts s).max }
unfolding met_of linked_at
met_here ps ts t s l h k = rw (h, k) refl

pub met_same : (ps : List Part) (ts : List Site) (t s : Site) (e : linking.End) → linked_at ps t ≡ Some e → IsDemand (named_modules ps) (the_site t) e None → met_of ps (t ∷ ts) s ≡ met_of ps ts s
met_same ps ts t s (linking.Defined e) h d = same_elsewhere ps ts t s (ap (linking.is_outside (the_site s)) h)
met_same ps ts t s (linking.Outside u) h d = same_nothing ps ts t s d

pub all_same : (ps : List Part) (ts : List Site) (t : Site) (e : linking.End) (ss : List Site) → linked_at ps t ≡ Some e → IsDemand (named_modules ps) (the_site t) e None → map (met_of ps (t ∷ ts)) ss ≡ map (met_of ps ts) ss
all_same ps ts t e [] h d = refl
all_same ps ts t e (s ∷ ss) h d = let a = met_same ps ts t s e h d in let b = all_same ps ts t e ss h d in cc

pub all_none : (ps : List Part) (ss : List Site) → replicate (length ss) (record { min = 0; max = None }) ≡ map (met_of ps []) ss
all_none ps [] = refl
all_none ps (s ∷ ss) = let a = met_none ps s in let b = all_none ps ss in cc

-- An import changes the met limits only at the number of its end.
pub all_set : (ps : List Part) (sites ts : List Site) (t : Site) (e : linking.End) (m : ℕ) (l new : Limits) (all : List Limits) → AreSites ps sites → linked_at ps t ≡ Some e → IsDemand (named_modules ps) (the_site t) e (Some (m, l))
    → all ≡ map (met_of ps ts) sites → (old : Limits) → slice_get all m ≡ Some old → new ≡ record { min = max l.min old.min; max = linking.least l.max old.max } → set all m new ≡ map (met_of ps (t ∷ ts)) sites
all_set ps sites ts t (linking.Defined e) m l new all are h d is old at new_is = absurd (cc)
all_set ps sites ts t (linking.Outside u) m l new all are h d is old at new_is =
    let size : length all ≡ length sites = ap length is ∙ length-map sites (met_of ps ts) in
    lists_same (set all m new) (map (met_of ps (t ∷ ts)) sites) (length-set all m new ∙ size ∙ sym (length-map sites (met_of ps (t ∷ ts)))) (λ k within.
    let short : k < length sites = omega (arith, length-set all m new, size) in
    let s = slice_get_there sites k short in
    let site : slice_get (linking.sites (named_modules ps)) k ≡ Some (the_site s.0) = ap (λ xs. slice_get xs k) (sym are) ∙ slice_get-map the_site sites k ∙ ap (option_map the_site) s.1 in
    let was : slice_get all k ≡ Some (met_of ps ts s.0) = ap (λ xs. slice_get xs k) is ∙ slice_get-map (met_of ps ts) sites k ∙ ap (option_map (met_of ps ts)) s.1 in
    let then : slice_get (map (met_of ps (t ∷ ts)) sites) k ≡ Some (met_of ps (t ∷ ts) s.0) = slice_get-map (met_of ps (t ∷ ts)) sites k ∙ ap (option_map (met_of ps (t ∷ ts))) s.1 in
    elim (cases_eq k m) [
      | inl here ↦
          let same : the_site s.0 ≡ u = let a : slice_get (linking.sites (named_modules ps)) k ≡ Some u = ap (slice_get (linking.sites (named_modules ps))) here ∙ d.0 in cc in
          let out : linking.is_outside (the_site s.0) (linked_at ps t) ≡ true = ap (linking.is_outside (the_site s.0)) h ∙ ap (linking.same_site (the_site s.0)) (sym same) ∙ same_self (the_site s.0) in
          let old_is : old ≡ met_of ps ts s.0 = let a : slice_get all k ≡ Some old = ap (slice_get all) here ∙ at in cc in
          let now : new ≡ met_of ps (t ∷ ts) s.0 = new_is ∙ ap (λ (o : Limits). let r : Limits = record { min = max l.min o.min; max = linking.least l.max o.max } in r) old_is ∙ sym (met_here ps ts t s.0 l out d.1) in
          ap (slice_get (set all m new)) here ∙ set_at all m new (slice_get_within all m old at) ∙ ap Some now ∙ sym then
      | inr other ↦
          let out : linking.is_outside (the_site s.0) (linked_at ps t) ≡ false = ap (linking.is_outside (the_site s.0)) h ∙ apart (named_modules ps) k m (the_site s.0) u site d.0 other in
          set_other all m k new other ∙ was ∙ ap Some (sym (same_elsewhere ps ts t s.0 out)) ∙ sym then
    ])

pub met_all : (ps : List Part) (sites : List Site) (s : Site) → AreSites ps sites → met_of ps sites s ≡ met_at ps s
unfolding met_of met_at
met_all ps sites s are = ap (λ ts. linking.met (linking.demands (named_modules ps) (the_site s) ts)) are

pub all_met : (ps : List Part) (sites ss : List Site) → AreSites ps sites → map (met_of ps sites) ss ≡ map (met_at ps) ss
all_met ps sites [] are = refl
all_met ps sites (s ∷ ss) are = let a = met_all ps sites s are in let b = all_met ps sites ss are in cc

-- ---- what is known of a linked end ----

pub linked_known : (ps : List Part) (sites : List Site) (linked : List Ending) (i : ℕ) (s : Site) (e : Ending) → AreLinkedEnds ps sites linked → slice_get sites i ≡ Some s → slice_get linked i ≡ Some e → linked_at ps s ≡ Some (the_end e)
linked_known ps sites linked i s e are h k = sym (same_at (λ x. Some (the_end x)) (linked_at ps) linked sites i e s are.same k h)

pub linked_size : (ps : List Part) (sites : List Site) (linked : List Ending) → AreLinkedEnds ps sites linked → length linked ≡ length sites
linked_size ps sites linked are = lengths_same (λ x. Some (the_end x)) (linked_at ps) linked sites are.same

pub demand_there : (lp : List linking.Part) (t : linking.Site) (e : linking.End) (d : ℕ × Limits) → IsDemand lp t e (Some d) → d.0 < length (linking.sites lp)
demand_there lp t (linking.Defined e) d h = absurd (cc)
demand_there lp t (linking.Outside u) d h = slice_get_within (linking.sites lp) d.0 u h.0

-- The limits that an import keeps are those of the specification.
pub kept_here : (ps : List Part) (s : Site) (e : linking.End) (met : Limits) → linked_at ps s ≡ Some e → met ≡ met_at ps s → kept_of (named_modules ps) (the_site s) e met ≡ faults.kept_limits (named_modules ps) (the_site s)
unfolding linked_at met_at faults.kept_limits faults.stays
kept_here ps s e met h is =
    let lp = named_modules ps in
    ap (λ o. cond (linking.is_outside (the_site s) o) (option_and_then (λ l. Some met) (asked_limits lp (the_site s))) None) (sym h)
    ∙ ap (λ m. cond (linking.is_outside (the_site s) (linking.linked_end lp (the_site s))) (option_and_then (λ l. Some m) (asked_limits lp (the_site s))) None) is
    ∙ ap (λ x. cond (linking.is_outside (the_site s) (linking.linked_end lp (the_site s))) x None) (by (linking.import_at lp (the_site s)))
  where
    by : (o : Option Import) → option_and_then (λ l. Some (linking.met_limits (named_modules ps) (the_site s))) (option_and_then (λ i. linking.limits_of i.desc) o) ≡ option_and_then (λ i. option_and_then (λ l. Some (linking.met_limits (named_modules ps) (the_site s))) (linking.limits_of i.desc)) o
    by None = refl
    by (Some i) = refl

-- The fault of an import depends only on the limits that it keeps.
pub clash_here : (ps : List Part) (s : Site) (o : Option Limits) → o ≡ faults.kept_limits (named_modules ps) (the_site s) → clash_of (the_site s) o ≡ faults.clash_fault (named_modules ps) (the_site s)
unfolding faults.clash_fault
clash_here ps s o is = ap (clash_of (the_site s)) is

pub met_known : (ps : List Part) (sites : List Site) (all : List Limits) (i : ℕ) (s : Site) (l : Limits) → all ≡ map (met_at ps) sites → slice_get sites i ≡ Some s → slice_get all i ≡ Some l → l ≡ met_at ps s
met_known ps sites all i s l is h k = let a = ap (λ xs. slice_get xs i) is ∙ slice_get-map (met_at ps) sites i ∙ ap (option_map (met_at ps)) h in cc

pub kept_known : (ps : List Part) (sites : List Site) (all : List (Option Limits)) (i : ℕ) (s : Site) (o : Option Limits) → all ≡ map (λ t. faults.kept_limits (named_modules ps) (the_site t)) sites
    → slice_get sites i ≡ Some s → slice_get all i ≡ Some o → o ≡ faults.kept_limits (named_modules ps) (the_site s)
kept_known ps sites all i s o is h k =
    let f = λ (t : Site). faults.kept_limits (named_modules ps) (the_site t) in
    let a = ap (λ xs. slice_get xs i) is ∙ slice_get-map f sites i ∙ ap (option_map f) h in cc
