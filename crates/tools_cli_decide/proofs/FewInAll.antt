-- The numbers of entities of all parts of a merge together.
use Rattle.base_lists.proofs.Common.{ℕ, zero, suc, ◌*◌, ◌≤◌, ◌<◌, ◌^◌, List, [], ◌∷◌, length, cond, true, false, Bool, arith}
use Rattle.std.proofs.Common.{length-append}
use Rattle.wasm_tree_spec.specs.Prelude.{Space, Types, Functions, Tables, Memories, Globals, ElementSegments, DataSegments, limit, Module}
use Rattle.base_lists.specs.Every.{Every}
use Rattle.wasm_meaning.specs.Prelude.{defined_count, defined_before, Part, sites_in, sites_from, sites}
use Rattle.base_lists.specs.Places.{count_of}
use Rattle.merge_spec.specs.Prelude.{imports_kind}
use Rattle.tools_cli_spec.specs.Prelude.{Source, parts_of}
use Rattle.tools_cli_decide.specs.Prelude.{IsWithinLimits}
use Rattle.tools_cli_spec.specs.Job.{most_parts}
use Rattle.wasm_tree.specs.declared.which.Which.TheVariants as which
use Rattle.merge_spec.specs.Joined as joined

abbrev pub EachWithin : List Part → Type 0
EachWithin = Every (λ (p : Part). IsWithinLimits p.«module»)

sites_within : (p count q : ℕ) → length (sites_in p count q) ≤ count
sites_within p zero q = omega arith
sites_within p (suc count) q = omega (arith, sites_within p count (suc q))

sites_few : (n : ℕ) (ps : List Part) → EachWithin ps → length (sites_from n ps) ≤ limit which.Imports * length ps
sites_few n [] h = omega arith
sites_few n (p ∷ ps) h =
    let whole = length-append (sites_in n (length p.«module».imports) 0) (sites_from (suc n) ps) in
    omega (arith, whole, sites_within n (length p.«module».imports) 0, h.0.imports, sites_few (suc n) ps h.1)

-- The limit of the definitions of a module in an index space.
abbrev most_defined : Space → ℕ
most_defined Types = limit which.Types
most_defined Functions = limit which.Functions
most_defined Tables = limit which.Tables
most_defined Memories = limit which.Memories
most_defined Globals = limit which.Globals
most_defined ElementSegments = limit which.ElementSegments
most_defined DataSegments = limit which.DataSegments

count_few : (k : Space) (m : Module) → IsWithinLimits m → defined_count k m ≤ most_defined k
count_few Types m h = h.types
count_few Functions m h = h.funcs
count_few Tables m h = h.tables
count_few Memories m h = h.mems
count_few Globals m h = h.globals
count_few ElementSegments m h = h.elems
count_few DataSegments m h = h.datas

-- That limit is a million at most.
most_few : (k : Space) → most_defined k ≤ limit which.Functions
most_few Types = omega arith
most_few Functions = omega arith
most_few Tables = omega arith
most_few Memories = omega arith
most_few Globals = omega arith
most_few ElementSegments = omega arith
most_few DataSegments = omega arith

defined_few : (k : Space) (ps : List Part) (n : ℕ) → EachWithin ps → defined_before k ps n ≤ limit which.Functions * length ps
defined_few k [] n h = omega arith
defined_few k (p ∷ ps) zero h = omega arith
defined_few k (p ∷ ps) (suc n) h = omega (arith, count_few k p.«module» h.0, most_few k, defined_few k ps n h.1)

count_most : {A : Type 0} (test : A → Bool) (xs : List A) → count_of test xs ≤ length xs
count_most test [] = omega arith
count_most test (x ∷ xs) = by (test x) (count_most test xs)
  where
    by : (b : Bool) → count_of test xs ≤ length xs → cond b (suc (count_of test xs)) (count_of test xs) ≤ suc (length xs)
    by true h = omega (arith, h)
    by false h = omega (arith, h)

added_few : (k : Space) → joined.most_added k ≤ 1
added_few Types = omega arith
added_few Functions = omega arith
added_few Tables = omega arith
added_few Memories = omega arith
added_few Globals = omega arith
added_few ElementSegments = omega arith
added_few DataSegments = omega arith

few_in_all : (ps : List Part) → length ps ≤ limit which.Parts → EachWithin ps → joined.FewInAll ps
few_in_all ps few h = record {
  parts_few = omega arith;
  entries = λ k. omega (arith, count_most (imports_kind ps k) (sites ps), sites_few 0 ps h, defined_few k ps (length ps) h, added_few k);
}

-- ---- the parts of a merge

parts_within : (sources : List Source) (trees : List Module) → Every IsWithinLimits trees → EachWithin (parts_of sources trees)
parts_within [] trees h = tt
parts_within (s ∷ sources) [] h = tt
parts_within (s ∷ sources) (tree ∷ trees) h = (h.0, parts_within sources trees h.1)

parts_count : (sources : List Source) (trees : List Module) → length (parts_of sources trees) ≤ length sources
parts_count [] trees = omega arith
parts_count (s ∷ sources) [] = omega arith
parts_count (s ∷ sources) (tree ∷ trees) = omega (arith, parts_count sources trees)

pub parts_few : (sources : List Source) (trees : List Module) → length sources ≤ most_parts → Every IsWithinLimits trees → joined.FewInAll (parts_of sources trees)
parts_few sources trees few h = few_in_all (parts_of sources trees) (omega (arith, parts_count sources trees)) (parts_within sources trees h)

pub imports_few : (sources : List Source) (trees : List Module) → length sources ≤ most_parts → Every IsWithinLimits trees → length (sites (parts_of sources trees)) < 2 ^ 32
imports_few sources trees few h = let within = sites_few 0 (parts_of sources trees) (parts_within sources trees h) in omega (arith, parts_count sources trees, within)
