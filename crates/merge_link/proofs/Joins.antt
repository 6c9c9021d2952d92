-- Look-ups in the tables give what linking by name looks up in the parts.
use Rattle.base_lists.proofs.Common.{◌≡◌, ◌∙◌, sym, ap, refl, ℕ, zero, suc, ◌+◌, ◌<◌, ◌≤◌, List, [], ◌∷◌, Option, Some, None, Bool, true, false, cond, length, get_or, slice_get, arith, option_and_then, get_by, nat_cmp, slice_cmp, slice_get_read, slice_get_within}
use Rattle.wasm_tree_spec.specs.Prelude.{Globals, Import, ExportDesc, Module, index_of_export, space_of_export}
use Rattle.std.specs.Option.{option_map}
use Rattle.wasm_meaning.specs.Linking as linking
use Rattle.wasm_meaning.specs.Prelude.{defined_before}
use Rattle.merge_link.specs.declared.tables.Table.{Table}
use Rattle.merge_link.specs.Prelude.{AreTables, IsTableOf, imports_before, places_of}
use Rattle.merge_link.specs.PartTables.{IsImportedAs}
use Rattle.merge_spec.specs.declared.parts.Part.{Part}
use Rattle.merge_spec.specs.Prelude.{named_modules}
use Rattle.merge_link.proofs.Places.{module_named}
use Rattle.merge_link.proofs.Numbers.{site_at}

pub read_at : {A : Type 0} (xs ys : List A) (i : ℕ) (x : A) → ys ≡ xs → i < length ys → x ≡ get_or ys i x → slice_get xs i ≡ Some x
read_at {A = A} xs ys i x same h is = ap (λ (zs : List A). slice_get zs i) (sym same) ∙ slice_get_read ys (length ys) i x refl h is

pub module_there : (lp : List linking.Part) (p : ℕ) → p < length lp → (m : Module) × (linking.module_at lp p ≡ Some m)
module_there [] p h = absurd (omega arith)
module_there (x ∷ lp) zero h = (x.«module», refl)
module_there (x ∷ lp) (suc p) h = module_there lp p (omega arith)

pub module_past : (lp : List linking.Part) (p : ℕ) → length lp ≤ p → linking.module_at lp p ≡ None
module_past [] p h = refl
module_past (x ∷ lp) zero h = absurd (omega arith)
module_past (x ∷ lp) (suc p) h = module_past lp p (omega arith)

pub module_read : (ps : List Part) (p : ℕ) (x : Part) (m : Module) → p < length ps → x ≡ get_or ps p x → m ≡ x.«module» → linking.module_at (named_modules ps) p ≡ Some m
module_read ps p x m h is tree = module_named ps p ∙ by (slice_get ps p) (slice_get_read ps (length ps) p x refl h is)
  where
    by : (o : Option Part) → o ≡ Some x → option_map (λ (y : Part). y.«module») o ≡ Some m
    by None e = absurd (cc)
    by (Some y) e = let same : y ≡ x = cc in let t : y.«module» ≡ m = ap (λ (z : Part). z.«module») same ∙ sym tree in ap Some t

-- The module of the table at a place.
pub record TableAt (lp : List linking.Part) (p : ℕ) (t : Table) : Type 0 where
  pub tree : Module
  pub at : linking.module_at lp p ≡ Some tree
  pub table : IsTableOf (imports_before lp p) (defined_before Globals lp p) tree t

pub table_at : (lp : List linking.Part) (ts : List Table) (p : ℕ) (t : Table) → AreTables lp ts → slice_get ts p ≡ Some t → TableAt lp p t
table_at lp ts p t are h =
    let within = slice_get_within ts p t h in
    let m = module_there lp p (omega (arith, are.one_each)) in
    record { tree = m.0; at = m.1; table = are.right p m.0 t m.1 h }

pub joined_found : (lp : List linking.Part) (ts : List Table) (i : Import) (p : ℕ) (t : Table) (o : Option ExportDesc) → AreTables lp ts → linking.source_of lp i ≡ Some p → slice_get ts p ≡ Some t
    → get_by (λ k. slice_cmp nat_cmp i.field k.now) t.exports ≡ o → linking.joined lp i ≡ option_map (λ d. let e : linking.Entity = record { part = p; what = d } in e) o
joined_found lp ts i p t o are source at found =
    let x = table_at lp ts p t are at in
    let look : linking.export_named x.tree.exports i.field ≡ o = sym (x.table.exports i.field) ∙ found in
    rw (source, x.at, look) (by o)
  where
    by : (o : Option ExportDesc) → option_and_then (λ d. let e : linking.Entity = record { part = p; what = d } in Some e) o ≡ option_map (λ d. let e : linking.Entity = record { part = p; what = d } in e) o
    by None = refl
    by (Some d) = refl

pub placed : {A : Type 0} (test : A → Bool) (xs : List A) (k i n : ℕ) → slice_get (linking.places test xs k) i ≡ Some n → n < k + length xs
placed test [] k i n h = cc
placed test (x ∷ xs) k i n h = by (placed test xs (suc k)) (test x) i h
  where
    by : ((i n : ℕ) → slice_get (linking.places test xs (suc k)) i ≡ Some n → n < suc k + length xs) → (b : Bool) (i : ℕ)
        → slice_get (cond b (k ∷ linking.places test xs (suc k)) (linking.places test xs (suc k))) i ≡ Some n → n < k + suc (length xs)
    by more true zero e = let same : k ≡ n = cc in omega (arith, same)
    by more true (suc i) e = omega (arith, more i n e)
    by more false i e = omega (arith, more i n e)

pub imported_none : (lp : List linking.Part) (ts : List Table) (e : linking.Entity) (t : Table) → AreTables lp ts → slice_get ts e.part ≡ Some t
    → slice_get (places_of t (space_of_export e.what)) (index_of_export e.what) ≡ None → linking.imported_as lp e ≡ None
imported_none lp ts e t are at found =
    let x = table_at lp ts e.part t are at in
    let look : slice_get (linking.imports_of (space_of_export e.what) x.tree) (index_of_export e.what) ≡ None
    = ap (λ (ns : List ℕ). slice_get ns (index_of_export e.what)) (sym (x.table.places (space_of_export e.what))) ∙ found in
    rw (x.at, look) refl

pub imported_some : (lp : List linking.Part) (ts : List Table) (e : linking.Entity) (t : Table) (n : ℕ) → AreTables lp ts → slice_get ts e.part ≡ Some t
    → slice_get (places_of t (space_of_export e.what)) (index_of_export e.what) ≡ Some n → IsImportedAs lp e (Some (t.first_import + n))
imported_some lp ts e t n are at found =
    let x = table_at lp ts e.part t are at in
    let look : slice_get (linking.imports_of (space_of_export e.what) x.tree) (index_of_export e.what) ≡ Some n
    = ap (λ (ns : List ℕ). slice_get ns (index_of_export e.what)) (sym (x.table.places (space_of_export e.what))) ∙ found in
    let within = placed (linking.has_kind (space_of_export e.what)) x.tree.imports 0 (index_of_export e.what) n look in
    let s : linking.Site = record { part = e.part; import = n } in
    let z : 0 + e.part ≡ e.part = omega arith in
    let number : slice_get (linking.sites lp) (imports_before lp e.part + n) ≡ Some s = site_at lp 0 e.part n x.tree x.at (omega (arith, within)) ∙ ap (λ p. let q : linking.Site = record { part = p; import = n } in Some q) z in
    (s, ap (λ k. slice_get (linking.sites lp) (k + n)) x.table.first_import ∙ number, rw (x.at, look) refl)
