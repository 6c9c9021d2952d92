-- The stages of linking together.
use Rattle.base_lists.proofs.Common.{◌≡◌, ◌∙◌, ◌⊎◌, inl, inr, sym, ap, refl, ℕ, zero, suc, List, [], ◌∷◌, Option, Some, None, true, false, map, length, slice_get, nat_lt, arith, length-append, slice_get-map, slice_get_within, slice_get_there, map_twice}
use Rattle.wasm_tree_spec.specs.Prelude.{Globals, Limits}
use Rattle.std.specs.Option.{option_map, option_or}
use Rattle.base_lists.proofs.Options.{none_given}
use Rattle.wasm_meaning.specs.Linking as linking
use Rattle.wasm_meaning.specs.Prelude.{defined_before}
use Rattle.merge_spec.specs.declared.parts.Part.{Part}
use Rattle.merge_spec.specs.declared.faults.LinkFault.{LinkFault}
use Rattle.merge_spec.specs.declared.faults.LinkFault.TheVariants.{ImportCycle, TooManyMemories}
use Rattle.merge_spec.specs.declared.links.Read.{Read}
use Rattle.merge_spec.specs.Faults as faults
use Rattle.merge_spec.specs.Prelude.{first_fault, by_import, end_entry, read_at, named_modules}
use Rattle.merge_link.specs.declared.globals.DefinedGlobal.{DefinedGlobal}
use Rattle.merge_link.specs.declared.part_tables.Ending.{Ending}
use Rattle.merge_link.specs.declared.sites.Site.{Site}
use Rattle.merge_link.specs.Prelude.{cut_by, import_counts, the_own, the_read, AreKnown, end_at, the_end, AreGlobalReads, AreSites, the_site}
use Rattle.merge_link.specs.Gathering.{AreLinkedEnds, linked_at}
use Rattle.merge_link.specs.Globals.{AreOwn, value_at}
use Rattle.merge_link.specs.PartTables.{AreStops}
use Rattle.merge_link.specs.Reads.{own_value}
use Rattle.merge_link.specs.Resolving.{IsRefusal, clash_faults, global_faults, import_faults, kept_entry_at, read_entry_at}
use Rattle.merge_link.proofs.Cuts.{cut_map, cut_sites}
use Rattle.merge_link.proofs.Firsts.{first_map}
use Rattle.merge_link.proofs.Found.{fault_at, lengths_same}
use Rattle.merge_link.proofs.Numbers.{length-own_in}

-- ---- the faults of a stage, over the lists of the code ----

pub import_faults_are : (ps : List Part) (sites : List Site) → AreSites ps sites → first_fault (λ s. faults.import_fault (named_modules ps) (the_site s)) sites ≡ import_faults (named_modules ps)
unfolding import_faults
import_faults_are ps sites are = sym (first_map (faults.import_fault (named_modules ps)) the_site sites) ∙ ap (first_fault (faults.import_fault (named_modules ps))) are

pub clash_faults_are : (ps : List Part) (sites : List Site) → AreSites ps sites → first_fault (λ s. faults.clash_fault (named_modules ps) (the_site s)) sites ≡ clash_faults (named_modules ps)
unfolding clash_faults
clash_faults_are ps sites are = sym (first_map (faults.clash_fault (named_modules ps)) the_site sites) ∙ ap (first_fault (faults.clash_fault (named_modules ps))) are

pub global_faults_are : (ps : List Part) (globals : List DefinedGlobal) → AreOwn ps globals → first_fault (λ g. faults.global_fault (named_modules ps) (the_own g)) globals ≡ global_faults (named_modules ps)
unfolding global_faults
global_faults_are ps globals are = sym (first_map (faults.global_fault (named_modules ps)) the_own globals) ∙ ap (first_fault (faults.global_fault (named_modules ps))) are

-- No path of an import is infinite.
pub all_end : (ps : List Part) (sites : List Site) (ends : List (Option Ending)) → map (option_map the_end) ends ≡ map (end_at ps) sites
    → first_fault (λ s. faults.import_fault (named_modules ps) (the_site s)) sites ≡ None → (n : ℕ) → slice_get ends n ≡ Some None → ⊥
all_end ps sites ends same none n h =
    let within = lengths_same (option_map the_end) (end_at ps) ends sites same in
    let s = slice_get_there sites n (let w = slice_get_within ends n None h in omega arith) in
    let a = none_given (λ t. faults.import_fault (named_modules ps) (the_site t)) sites n s.0 none s.1 in
    let b = fault_at ps sites ends n s.0 None same s.1 h in
    apart (faults.import_fault (named_modules ps) (the_site s.0)) (ImportCycle (the_site s.0).part (the_site s.0).import) a b
  where
    apart : (o : Option LinkFault) (e : LinkFault) → o ≡ None → o ≡ Some e → ⊥
    apart o e a b = absurd (cc)

pub all_known : (ps : List Part) (sites : List Site) (ends : List (Option Ending)) (known : List Ending) → map (option_map the_end) ends ≡ map (end_at ps) sites → AreStops ps ends → map Some known ≡ ends → AreKnown ps sites known
all_known ps sites ends known same stops is = record {
  same = sym (map_twice (option_map the_end) Some known) ∙ ap (map (option_map the_end)) is ∙ same;
  stops = λ n e h. stops n e (ap (λ xs. slice_get xs n) (sym is) ∙ slice_get-map Some known n ∙ ap (option_map Some) h);
}

pub values_own : (ps : List Part) (globals : List DefinedGlobal) (values : List (Option Read)) → AreOwn ps globals → map (option_map the_read) values ≡ map (value_at ps) globals → AreGlobalReads ps values
unfolding value_at own_value
values_own ps globals values are same = same ∙ sym (map_twice (own_value ps) the_own globals) ∙ ap (map (own_value ps)) are

-- ---- the links ----

pub entries_linked : (ps : List Part) (sites : List Site) (linked : List Ending) → AreSites ps sites → AreLinkedEnds ps sites linked
    → map (map Some) (cut_by (import_counts ps) (map (λ e. end_entry (the_end e)) linked)) ≡ by_import (λ s. option_map end_entry (linking.linked_end (named_modules ps) s)) (named_modules ps)
unfolding linked_at
entries_linked ps sites linked are known =
    let f = λ (s : linking.Site). option_map end_entry (linking.linked_end (named_modules ps) s) in
    cut_map Some (import_counts ps) (map (λ e. end_entry (the_end e)) linked)
    ∙ ap (cut_by (import_counts ps)) (map_twice Some (λ (e : Ending). end_entry (the_end e)) linked ∙ sym (map_twice (option_map end_entry) (λ (e : Ending). Some (the_end e)) linked)
    ∙ ap (map (option_map end_entry)) known.same ∙ map_twice (option_map end_entry) (linked_at ps) sites ∙ sym (map_twice f the_site sites) ∙ ap (map f) are)
    ∙ cut_sites f 0 ps

pub limits_kept : (ps : List Part) (sites : List Site) (limits : List (Option Limits)) → AreSites ps sites → limits ≡ map (kept_entry_at ps) sites
    → cut_by (import_counts ps) limits ≡ by_import (faults.kept_limits (named_modules ps)) (named_modules ps)
unfolding kept_entry_at
limits_kept ps sites limits are is =
    ap (cut_by (import_counts ps)) (is ∙ sym (map_twice (faults.kept_limits (named_modules ps)) the_site sites) ∙ ap (map (faults.kept_limits (named_modules ps))) are) ∙ cut_sites (faults.kept_limits (named_modules ps)) 0 ps

pub reads_written : (ps : List Part) (sites : List Site) (reads : List (Option Read)) → AreSites ps sites → reads ≡ map (read_entry_at ps) sites → cut_by (import_counts ps) reads ≡ by_import (read_at (named_modules ps)) (named_modules ps)
unfolding read_entry_at
reads_written ps sites reads are is =
    ap (cut_by (import_counts ps)) (is ∙ sym (map_twice (read_at (named_modules ps)) the_site sites) ∙ ap (map (read_at (named_modules ps))) are) ∙ cut_sites (read_at (named_modules ps)) 0 ps

-- ---- the first fault of all ----

pub fault_one : (lp : List linking.Part) (f : LinkFault) → import_faults lp ≡ Some f → faults.link_fault lp false ≡ Some f
unfolding faults.link_fault import_faults
fault_one lp f a = rw a refl

pub fault_two : (lp : List linking.Part) (f : LinkFault) → import_faults lp ≡ None → clash_faults lp ≡ Some f → faults.link_fault lp false ≡ Some f
unfolding faults.link_fault import_faults clash_faults
fault_two lp f a b = rw (a, b) refl

pub fault_three : (lp : List linking.Part) → import_faults lp ≡ None → clash_faults lp ≡ None → nat_lt 1 (faults.memory_count lp) ≡ true → faults.link_fault lp false ≡ Some TooManyMemories
unfolding faults.link_fault import_faults clash_faults faults.memory_fault
fault_three lp a b c = rw (a, b, c) refl

pub fault_four : (lp : List linking.Part) (o : Option LinkFault) → import_faults lp ≡ None → clash_faults lp ≡ None → nat_lt 1 (faults.memory_count lp) ≡ false → global_faults lp ≡ o → faults.link_fault lp false ≡ o
unfolding faults.link_fault import_faults clash_faults faults.memory_fault global_faults
fault_four lp o a b c d = rw (a, b, c) d

-- A refusal of one stage is a refusal of linking.
pub refused : (first : Option LinkFault) (lp : List linking.Part) (f : LinkFault) → (first ≡ Some f → faults.link_fault lp false ≡ Some f) → IsRefusal first f → IsRefusal (faults.link_fault lp false) f
refused first lp f of_all (inl none) = inl none
refused first lp f of_all (inr is) = inr (of_all is)

-- ---- how many defined globals there are ----

own_count_from : (lp : List linking.Part) (first : ℕ) → length (faults.defined_globals_from first lp) ≡ defined_before Globals lp (length lp)
own_count_from [] first = refl
own_count_from (x ∷ lp) first =
    omega (arith, length-append (faults.defined_globals_in first (length (linking.imports_of Globals x.«module»)) x.«module».globals) (faults.defined_globals_from (suc first) lp), length-own_in first (length (linking.imports_of Globals x.«module»)) x.«module».globals, own_count_from lp (suc first))

pub own_count : (lp : List linking.Part) → length (faults.defined_globals lp) ≡ defined_before Globals lp (length lp)
unfolding faults.defined_globals
own_count lp = own_count_from lp 0
