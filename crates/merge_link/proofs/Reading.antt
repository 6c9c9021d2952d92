-- Defined globals by their numbers, and one step of a read.
use Rattle.base_lists.proofs.Common.{◌≡◌, ◌∙◌, sym, ap, refl, ℕ, zero, suc, ◌+◌, ◌-◌, ◌^◌, ◌<◌, ◌≤◌, List, [], ◌∷◌, ◌++◌, Option, Some, None, map, length, drop, get_or, slice_get, arith, option_and_then, length-append, length-map, drop_more, slice_get-map, slice_get_within, slice_get_past}
use Rattle.base_lists.proofs.Common.{slice_get_there, append_right, append_at_left}
use Rattle.wasm_tree_spec.specs.Prelude.{Globals, GlobalDef, Import, Module, globals_of, imported_globals, index_of_export}
use Rattle.std.specs.Option.{option_map}
use Rattle.wasm_tree.specs.declared.module.ConstExpr.TheVariants as const
use Rattle.wasm_meaning.specs.Paths as paths
use Rattle.wasm_meaning.specs.Linking as linking
use Rattle.wasm_meaning.specs.Prelude.{defined_before}
use Rattle.base_paths.specs.declared.follow.Step.{Step}
use Rattle.base_paths.specs.declared.follow.Step.TheVariants.{Leads, Stops, Nowhere}
use Rattle.merge_spec.specs.declared.parts.Part.{Part}
use Rattle.merge_spec.specs.declared.links.Read.{Read}
use Rattle.merge_spec.specs.Faults as faults
use Rattle.merge_spec.specs.Prelude.{named_modules}
use Rattle.merge_link.specs.declared.globals.DefinedGlobal.{DefinedGlobal}
use Rattle.merge_link.specs.declared.part_tables.Ending.{Ending}
use Rattle.merge_link.specs.declared.sites.Site.{Site}
use Rattle.merge_link.specs.declared.tables.Table.{Table}
use Rattle.merge_link.specs.Prelude.{AreSites, the_site, AreTables, places_of, AreKnown, IsStep, the_end, IsOwn, own_read, own_reads, the_own, the_read}
use Rattle.merge_link.specs.Globals.{IsEndStep, value_at}
use Rattle.merge_link.proofs.Found.{known_at, same_at}
use Rattle.merge_link.proofs.Joins.{module_past}
use Rattle.merge_link.proofs.Meets.{part_there}
use Rattle.merge_link.proofs.Numbers.{length-own_in}
use Rattle.merge_link.proofs.Types.{count_globals}

own_in : (p n : ℕ) (gs : List GlobalDef) (i : ℕ) (g : GlobalDef) → slice_get gs i ≡ Some g → (k : ℕ) × (slice_get (faults.defined_globals_in p n gs) i ≡ Some (record { part = p; index = k; init = g.init }))
own_in p n [] i g h = cc
own_in p n (x ∷ gs) zero g h = let e : x ≡ g = cc in (n, ap (λ (y : GlobalDef). let r : faults.DefinedGlobal = record { part = p; index = n; init = y.init } in Some r) e)
own_in p n (x ∷ gs) (suc i) g h = own_in p (suc n) gs i g h

own_from : (lp : List linking.Part) (first p i : ℕ) (m : Module) (g : GlobalDef) → linking.module_at lp p ≡ Some m → slice_get m.globals i ≡ Some g
    → (k : ℕ) × (slice_get (faults.defined_globals_from first lp) (defined_before Globals lp p + i) ≡ Some (record { part = first + p; index = k; init = g.init }))
own_from [] first p i m g h l = cc
own_from (x ∷ lp) first zero i m g h l =
    let e : x.«module» ≡ m = cc in
    let l : slice_get x.«module».globals i ≡ Some g = ap (λ (y : Module). slice_get y.globals i) e ∙ l in
    let here = own_in first (length (linking.imports_of Globals x.«module»)) x.«module».globals i g l in
    let z : first + 0 ≡ first = omega arith in
    let n : 0 + i ≡ i = omega arith in (
      here.0,
      ap (slice_get (faults.defined_globals_from first (x ∷ lp))) n
          ∙ append_at_left (faults.defined_globals_in first (length (linking.imports_of Globals x.«module»)) x.«module».globals) (faults.defined_globals_from (suc first) lp) i _ here.1
          ∙ ap (λ q. let r : faults.DefinedGlobal = record { part = q; index = here.0; init = g.init } in Some r) (sym z),
    )
own_from (x ∷ lp) first (suc p) i m g h l =
    let q : suc first + p ≡ first + suc p = omega arith in
    let front = faults.defined_globals_in first (length (linking.imports_of Globals x.«module»)) x.«module».globals in
    let j : length x.«module».globals + defined_before Globals lp p + i ≡ length front + (defined_before Globals lp p + i) =
    omega (arith, length-own_in first (length (linking.imports_of Globals x.«module»)) x.«module».globals) in
    let rest = own_from lp (suc first) p i m g h l in (
      rest.0,
      ap (slice_get (faults.defined_globals_from first (x ∷ lp))) j ∙ append_right front (faults.defined_globals_from (suc first) lp) (defined_before Globals lp p + i) ∙ rest.1
          ∙ ap (λ r. let s : faults.DefinedGlobal = record { part = r; index = rest.0; init = g.init } in Some s) q,
    )

-- The place of a global among the globals that its part defines.
abbrev pub own_place : Table → linking.Entity → ℕ
own_place t e = index_of_export e.what - length (places_of t Globals)

pub own_some : (lp : List linking.Part) (ts : List Table) (e : linking.Entity) (t : Table) (m : Module) → AreTables lp ts → slice_get ts e.part ≡ Some t → linking.module_at lp e.part ≡ Some m
    → own_place t e < length m.globals → IsOwn lp e (Some (t.first_global + own_place t e))
unfolding faults.defined_globals
own_some lp ts e t m are at tree within =
    let x = are.right e.part m t tree at in
    let g = slice_get_there m.globals (own_place t e) within in
    let own = own_from lp 0 e.part (own_place t e) m g.0 tree g.1 in
    let z : 0 + e.part ≡ e.part = omega arith in
    let r : faults.DefinedGlobal = record { part = 0 + e.part; index = own.0; init = g.0.init } in
    let count : index_of_export e.what - length (linking.imports_of Globals m) ≡ own_place t e = ap (λ (ns : List ℕ). index_of_export e.what - length ns) (sym (x.places Globals)) in
    let init : linking.initial lp e ≡ Some g.0.init = rw (tree, count) (ap (λ o. option_and_then (λ d. Some d.init) o) g.1) in
    (r, ap (λ k. slice_get (faults.defined_globals lp) (k + own_place t e)) x.first_global ∙ own.1, z, init)

pub own_none : (lp : List linking.Part) (ts : List Table) (e : linking.Entity) (t : Table) (m : Module) → AreTables lp ts → slice_get ts e.part ≡ Some t → linking.module_at lp e.part ≡ Some m
    → length m.globals ≤ own_place t e → linking.initial lp e ≡ None
own_none lp ts e t m are at tree past =
    let x = are.right e.part m t tree at in
    let count : index_of_export e.what - length (linking.imports_of Globals m) ≡ own_place t e = ap (λ (ns : List ℕ). index_of_export e.what - length ns) (sym (x.places Globals)) in
    rw (tree, count) (ap (λ o. option_and_then (λ d. Some d.init) o) (slice_get_past m.globals (own_place t e) past))

pub own_past : (lp : List linking.Part) (ts : List Table) (e : linking.Entity) → AreTables lp ts → length ts ≤ e.part → linking.initial lp e ≡ None
own_past lp ts e are h = rw (module_past lp e.part (omega (arith, are.one_each))) refl

-- ---- what stays ----

pub index_there : (lp : List linking.Part) (ts : List Table) (s : linking.Site) (i : Import) (t : Table) → AreTables lp ts → linking.import_at lp s ≡ Some i → slice_get ts s.part ≡ Some t → s.import < length t.indices.items
index_there lp ts s i t are there at =
    let m = part_there lp s i there in
    let x = are.right s.part m.0 t m.1 at in
    omega (arith, m.2, x.indices.one_each)

pub read_outside : (lp : List linking.Part) (ts : List Table) (s : linking.Site) (i : Import) (t : Table) (n : ℕ) → AreTables lp ts → linking.import_at lp s ≡ Some i → slice_get ts s.part ≡ Some t
    → slice_get t.indices.items s.import ≡ Some n → linking.outside_read lp s ≡ Some (record { part = s.part; expr = const.Global n })
read_outside lp ts s i t n are there at index =
    let m = part_there lp s i there in
    let x = are.right s.part m.0 t m.1 at in
    let same : linking.space_index m.0.imports s.import Globals ≡ n = let a = x.indices.right s.import m.2 in cc in
    rw (m.1, same) refl

-- ---- one step ----

pub step_to : (ps : List Part) (e : linking.Entity) (n : ℕ) → IsOwn (named_modules ps) e (Some n) → IsEndStep ps (linking.Defined e) (Leads n)
step_to ps e n (g, at, part, init) = (
  own_read g,
  slice_get-map own_read (faults.defined_globals (named_modules ps)) n ∙ ap (option_map own_read) at,
  ap (λ o. option_and_then (λ x. let r : linking.Read = record { part = e.part; expr = x } in Some (paths.LeadsTo r)) o) init ∙ ap (λ p. let r : linking.Read = record { part = p; expr = g.init } in Some (paths.LeadsTo r)) (sym part),
)

-- The end of the import with a number is the end at that number.
pub end_numbered : (ps : List Part) (sites : List Site) (ends : List Ending) (n : ℕ) (s : linking.Site) (e : Ending) → AreSites ps sites → AreKnown ps sites ends → slice_get (linking.sites (named_modules ps)) n ≡ Some s → slice_get ends n ≡ Some e
    → linking.end_of (named_modules ps) s ≡ Some (the_end e)
end_numbered ps sites ends n s e are known h k =
    let within : n < length sites = let w = slice_get_within (linking.sites (named_modules ps)) n s h in omega (arith, w, ap length are, length-map sites the_site) in
    let x = slice_get_there sites n within in
    let same : the_site x.0 ≡ s = let a : slice_get (linking.sites (named_modules ps)) n ≡ Some (the_site x.0) = ap (λ xs. slice_get xs n) (sym are) ∙ slice_get-map the_site sites n ∙ ap (option_map the_site) x.1 in cc in
    ap (linking.end_of (named_modules ps)) (sym same) ∙ known_at ps sites ends n x.0 e known x.1 k

-- The step from an expression that reads an imported global depends on the end of the import.
pub step_read : (ps : List Part) (p x : ℕ) (s : linking.Site) (e : linking.End) (step : Step Read) → linking.global_import (named_modules ps) p x ≡ Some s → linking.end_of (named_modules ps) s ≡ Some e → IsEndStep ps e step
    → IsStep (linking.read_step (named_modules ps)) (own_reads (named_modules ps)) the_read (record { part = p; expr = const.Global x }) step
step_read ps p x s e step at end is = by step is
  where
    same : linking.read_step (named_modules ps) (record { part = p; expr = const.Global x }) ≡ linking.end_step (named_modules ps) (Some e)
    same = ap (λ o. linking.end_step (named_modules ps) (option_and_then (linking.end_of (named_modules ps)) o)) at ∙ ap (linking.end_step (named_modules ps)) end

    by : (step : Step Read) → IsEndStep ps e step → IsStep (linking.read_step (named_modules ps)) (own_reads (named_modules ps)) the_read (record { part = p; expr = const.Global x }) step
    by (Leads n) (r, a, b) = (r, a, same ∙ b)
    by (Stops r) a = same ∙ a
    by Nowhere a = same ∙ a

-- ---- faults ----

-- The fault of a global depends only on what its value reads.
pub global_here : (ps : List Part) (globals : List DefinedGlobal) (values : List (Option Read)) (i : ℕ) (g : DefinedGlobal) (o : Option Read) → map (option_map the_read) values ≡ map (value_at ps) globals
    → slice_get globals i ≡ Some g → slice_get values i ≡ Some o → faults.global_fault (named_modules ps) (the_own g) ≡ faults.value_fault (the_own g) (option_map the_read o)
unfolding faults.global_fault value_at
global_here ps globals values i g o e h k = ap (faults.value_fault (the_own g)) (sym (same_at (option_map the_read) (value_at ps) values globals i o g e k h))

-- ---- the list of defined globals ----

pub own_begin : (ps : List Part) (at : ℕ) (x : Part) (m : Module) (n : ℕ) → at < length ps → x ≡ get_or ps at x → m ≡ x.«module» → n ≡ length (linking.imports_of Globals m)
    → faults.defined_globals_from at (named_modules (drop at ps)) ≡ faults.defined_globals_in at (n + 0) (drop 0 m.globals) ++ faults.defined_globals_from (at + 1) (named_modules (drop (at + 1) ps))
own_begin ps at x m n h is tree count =
    let rest = named_modules (drop (at + 1) ps) in
    let next : suc at ≡ at + 1 = omega arith in
    let z : length (linking.imports_of Globals x.«module») ≡ n + 0 = omega (arith, count, ap (λ (t : Module). length (linking.imports_of Globals t)) tree) in
    ap (λ qs. faults.defined_globals_from at (named_modules qs)) (drop_more ps at x h ∙ ap (λ (y : Part). y ∷ drop (at + 1) ps) (sym is))
    ∙ ap (λ k. faults.defined_globals_in at (length (linking.imports_of Globals x.«module»)) x.«module».globals ++ faults.defined_globals_from k rest) next
    ∙ ap (λ k. faults.defined_globals_in at k x.«module».globals ++ faults.defined_globals_from (at + 1) rest) z
    ∙ ap (λ (t : Module). faults.defined_globals_in at (n + 0) t.globals ++ faults.defined_globals_from (at + 1) rest) (sym tree)

pub globals_fit : (m : Module) (i : ℕ) → length (globals_of m) < 2 ^ 32 → i < length m.globals → length (linking.imports_of Globals m) + i < 2 ^ 32
globals_fit m i few h = omega (arith, few, length-append (imported_globals m.imports) (map (λ (g : GlobalDef). g.ty) m.globals), length-map m.globals (λ (g : GlobalDef). g.ty), count_globals m.imports 0)
