-- The numbers of imports and of defined globals, which run through all parts.
use Rattle.base_lists.proofs.Common.{◌≡◌, ◌∙◌, sym, ap, refl, ℕ, zero, suc, ◌+◌, ◌-◌, ◌<◌, ◌≤◌, List, [], ◌∷◌, ◌++◌, Option, Some, length, slice_get, arith, inl, inr, ◌⊎◌, length-append, slice_get_there, append_right, append_at_left}
use Rattle.wasm_tree_spec.specs.Prelude.{Globals, Import, GlobalDef, Module}
use Rattle.wasm_meaning.specs.Linking as linking
use Rattle.wasm_meaning.specs.Prelude.{defined_before}
use Rattle.merge_spec.specs.Prelude.{defined_globals_in, defined_globals_from}
use Rattle.merge_link.specs.Prelude.{imports_before}

pub length-sites_in : (p count n : ℕ) → length (linking.sites_in p count n) ≡ count
length-sites_in p zero n = refl
length-sites_in p (suc count) n = ap suc (length-sites_in p count (suc n))

pub length-own_in : (p n : ℕ) (gs : List GlobalDef) → length (defined_globals_in p n gs) ≡ length gs
length-own_in p n [] = refl
length-own_in p n (g ∷ gs) = ap suc (length-own_in p (suc n) gs)

site_in : (p count n i : ℕ) → i < count → slice_get (linking.sites_in p count n) i ≡ Some (record { part = p; import = n + i })
site_in p zero n i h = absurd (omega arith)
site_in p (suc count) n zero h = let e : n ≡ n + 0 = omega arith in ap (λ k. let s : linking.Site = record { part = p; import = k } in Some s) e
site_in p (suc count) n (suc i) h = let e : suc n + i ≡ n + suc i = omega arith in site_in p count (suc n) i (omega arith) ∙ ap (λ k. let s : linking.Site = record { part = p; import = k } in Some s) e

-- The numbers of the first import and of the first defined global of the next part.
pub imports_more : (lp : List linking.Part) (p : ℕ) (m : Module) → linking.module_at lp p ≡ Some m → imports_before lp (suc p) ≡ imports_before lp p + length m.imports
imports_more [] p m h = cc
imports_more (x ∷ []) zero m h = let e : x.«module» ≡ m = cc in omega (arith, ap (λ (y : Module). length y.imports) e)
imports_more (x ∷ y ∷ lp) zero m h = let e : x.«module» ≡ m = cc in omega (arith, ap (λ (y : Module). length y.imports) e)
imports_more (x ∷ lp) (suc p) m h = omega (arith, imports_more lp p m h)

pub globals_more : (lp : List linking.Part) (p : ℕ) (m : Module) → linking.module_at lp p ≡ Some m → defined_before Globals lp (suc p) ≡ defined_before Globals lp p + length m.globals
globals_more [] p m h = cc
globals_more (x ∷ []) zero m h = let e : x.«module» ≡ m = cc in omega (arith, ap (λ (y : Module). length y.globals) e)
globals_more (x ∷ y ∷ lp) zero m h = let e : x.«module» ≡ m = cc in omega (arith, ap (λ (y : Module). length y.globals) e)
globals_more (x ∷ lp) (suc p) m h = omega (arith, globals_more lp p m h)

pub imports_none : (lp : List linking.Part) → imports_before lp 0 ≡ 0
imports_none [] = refl
imports_none (x ∷ lp) = refl

pub globals_none : (lp : List linking.Part) → defined_before Globals lp 0 ≡ 0
globals_none [] = refl
globals_none (x ∷ lp) = refl

-- The number of imports of the first parts is at most that of all parts.
pub imports_most : (lp : List linking.Part) (first p : ℕ) (m : Module) → linking.module_at lp p ≡ Some m → imports_before lp p + length m.imports ≤ length (linking.sites_from first lp)
imports_most [] first p m h = cc
imports_most (x ∷ lp) first zero m h =
    let e : x.«module» ≡ m = cc in
    omega (arith, ap (λ (y : Module). length y.imports) e, length-append (linking.sites_in first (length x.«module».imports) 0) (linking.sites_from (suc first) lp), length-sites_in first (length x.«module».imports) 0)
imports_most (x ∷ lp) first (suc p) m h =
    omega (arith, imports_most lp (suc first) p m h, length-append (linking.sites_in first (length x.«module».imports) 0) (linking.sites_from (suc first) lp), length-sites_in first (length x.«module».imports) 0)

pub globals_most : (lp : List linking.Part) (first p : ℕ) (m : Module) → linking.module_at lp p ≡ Some m → defined_before Globals lp p + length m.globals ≤ length (defined_globals_from first lp)
globals_most [] first p m h = cc
globals_most (x ∷ lp) first zero m h =
    let e : x.«module» ≡ m = cc in
    let l = length-append (defined_globals_in first (length (linking.imports_of Globals x.«module»)) x.«module».globals) (defined_globals_from (suc first) lp) in
    omega (arith, ap (λ (y : Module). length y.globals) e, l, length-own_in first (length (linking.imports_of Globals x.«module»)) x.«module».globals)
globals_most (x ∷ lp) first (suc p) m h =
    let l = length-append (defined_globals_in first (length (linking.imports_of Globals x.«module»)) x.«module».globals) (defined_globals_from (suc first) lp) in
    omega (arith, globals_most lp (suc first) p m h, l, length-own_in first (length (linking.imports_of Globals x.«module»)) x.«module».globals)

-- The list of imports of a part from one place on begins with the import at that place.
pub sites_in_more : (p n i : ℕ) → i < n → linking.sites_in p (n - i) i ≡ record { part = p; import = i } ∷ linking.sites_in p (n - (i + 1)) (i + 1)
sites_in_more p n i h =
    let e : n - i ≡ suc (n - (i + 1)) = omega arith in
    let s : suc i ≡ i + 1 = omega arith in
    ap (λ k. linking.sites_in p k i) e ∙ ap (λ j. let here : linking.Site = record { part = p; import = i } in here ∷ linking.sites_in p (n - (i + 1)) j) s

site_same : (p q i j : ℕ) → p ≡ q → i ≡ j → ◌≡◌ {A = Option linking.Site} (Some (record { part = p; import = i })) (Some (record { part = q; import = j }))
site_same p q i j e f = cc

-- The import with a number is at this place of this part.
pub site_at : (lp : List linking.Part) (first p i : ℕ) (m : Module) → linking.module_at lp p ≡ Some m → i < length m.imports
    → slice_get (linking.sites_from first lp) (imports_before lp p + i) ≡ Some (record { part = first + p; import = i })
site_at [] first p i m h l = cc
site_at (x ∷ lp) first zero i m h l =
    let e : x.«module» ≡ m = cc in
    let k : i < length x.«module».imports = omega (arith, ap (λ (y : Module). length y.imports) e) in
    let z : first + 0 ≡ first = omega arith in
    let n : 0 + i ≡ i = omega arith in
    ap (slice_get (linking.sites_from first (x ∷ lp))) n ∙
    append_at_left (linking.sites_in first (length x.«module».imports) 0) (linking.sites_from (suc first) lp) i _ (site_in first (length x.«module».imports) 0 i k)
    ∙ site_same first (first + 0) (0 + i) i (sym z) n
site_at (x ∷ lp) first (suc p) i m h l =
    let q : suc first + p ≡ first + suc p = omega arith in
    let j : length x.«module».imports + imports_before lp p + i ≡ length (linking.sites_in first (length x.«module».imports) 0) + (imports_before lp p + i) = omega (arith, length-sites_in first (length x.«module».imports) 0) in
    ap (slice_get (linking.sites_from first (x ∷ lp))) j
    ∙ append_right (linking.sites_in first (length x.«module».imports) 0) (linking.sites_from (suc first) lp) (imports_before lp p + i)
    ∙ site_at lp (suc first) p i m h l
    ∙ ap (λ r. let s : linking.Site = record { part = r; import = i } in Some s) q

-- The part and the place of the import with a number.
pub record SiteOf (lp : List linking.Part) (first n : ℕ) (s : linking.Site) : Type 0 where
  pub place : ℕ
  pub tree : Module
  pub at : linking.module_at lp place ≡ Some tree
  pub part : s.part ≡ first + place
  pub within : s.import < length tree.imports
  pub number : n ≡ imports_before lp place + s.import

split : {A : Type 0} (xs ys : List A) (n : ℕ) (x : A) → slice_get (xs ++ ys) n ≡ Some x → (slice_get xs n ≡ Some x) ⊎ ((length xs ≤ n) × (slice_get ys (n - length xs) ≡ Some x))
split [] ys n x h = let e : n - 0 ≡ n = omega arith in inr (omega arith, ap (slice_get ys) e ∙ h)
split (z ∷ xs) ys zero x h = inl h
split (z ∷ xs) ys (suc n) x h = elim (split xs ys n x h) [
  | inl k ↦ inl k
  | inr k ↦ let e : suc n - suc (length xs) ≡ n - length xs = omega arith in inr (omega (arith, k.0), ap (slice_get ys) e ∙ k.1)
]

site_back : (p count n i : ℕ) (s : linking.Site) → slice_get (linking.sites_in p count n) i ≡ Some s → (s.part ≡ p) × (s.import ≡ n + i) × (i < count)
site_back p zero n i s h = cc
site_back p (suc count) n zero s h =
    let e : record { part = p; import = n } ≡ s = cc in
    let a = ap (λ (t : linking.Site). t.part) e in
    let b = ap (λ (t : linking.Site). t.import) e in
    (sym a, omega (arith, b), omega arith)
site_back p (suc count) n (suc i) s h = let r = site_back p count (suc n) i s h in (r.0, omega (arith, r.1), omega (arith, r.2))

pub site_of : (lp : List linking.Part) (first n : ℕ) (s : linking.Site) → slice_get (linking.sites_from first lp) n ≡ Some s → SiteOf lp first n s
site_of [] first n s h = cc
site_of (x ∷ lp) first n s h = elim (split (linking.sites_in first (length x.«module».imports) 0) (linking.sites_from (suc first) lp) n s h) [
  | inl k ↦ let r = site_back first (length x.«module».imports) 0 n s k in
      record { place = 0; tree = x.«module»; at = refl; part = omega (arith, r.0); within = omega (arith, r.1, r.2); number = omega (arith, r.1) }
  | inr k ↦ let r = site_of lp (suc first) (n - length (linking.sites_in first (length x.«module».imports) 0)) s k.1 in
      record { place = suc r.place; tree = r.tree; at = r.at; part = omega (arith, r.part); within = r.within; number = omega (arith, r.number, k.0, length-sites_in first (length x.«module».imports) 0) }
]

-- Each place in the list of all imports has an import.
pub site_there : (lp : List linking.Part) (n : ℕ) (s : linking.Site) → slice_get (linking.sites lp) n ≡ Some s → (i : Import) × (linking.import_at lp s ≡ Some i)
site_there lp n s h =
    let r = site_of lp 0 n s h in
    let p : r.place ≡ s.part = omega (arith, r.part) in
    let at : linking.module_at lp s.part ≡ Some r.tree = ap (linking.module_at lp) (sym p) ∙ r.at in
    let i = slice_get_there r.tree.imports s.import r.within in
    (i.0, rw at i.1)
