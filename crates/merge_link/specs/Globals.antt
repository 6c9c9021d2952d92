-- Defined globals, and what their value expressions read.
use Rattle.std.specs.Prelude.{◌≡◌, ℕ, List, Option, Some, None, map, slice_get}
use Rattle.wasm_meaning.specs.Paths as paths
use Rattle.wasm_meaning.specs.Linking as linking
use Rattle.base_paths.specs.declared.follow.Step.{Step}
use Rattle.base_paths.specs.declared.follow.Step.TheVariants.{Leads, Stops, Nowhere}
use Rattle.merge_spec.specs.declared.parts.Part.{Part}
use Rattle.merge_spec.specs.declared.links.Read.{Read}
use Rattle.merge_spec.specs.Faults as faults
use Rattle.merge_spec.specs.Parts.{named_modules}
use Rattle.merge_link.specs.declared.globals.DefinedGlobal.{DefinedGlobal}

abbrev pub the_own : DefinedGlobal → faults.DefinedGlobal
the_own g = record { part = g.part; index = g.index; init = g.init }

abbrev pub the_read : Read → linking.Read
the_read r = record { part = r.part; expr = r.expr }

-- `globals` are the defined globals
abbrev pub AreOwn : List Part → List DefinedGlobal → Type 0
AreOwn parts globals = map the_own globals ≡ faults.defined_globals (named_modules parts)

-- the value expression of a defined global, with its part
abbrev pub own_read : faults.DefinedGlobal → linking.Read
own_read g = record { part = g.part; expr = g.init }

abbrev pub own_reads : List linking.Part → List linking.Read
own_reads lp = map own_read (faults.defined_globals lp)

-- the number of an entity among the defined globals, if it is one
abbrev pub IsOwn : List linking.Part → linking.Entity → Option ℕ → Type 0
IsOwn lp e None = linking.initial lp e ≡ None
IsOwn lp e (Some n) = (g : faults.DefinedGlobal) × (slice_get (faults.defined_globals lp) n ≡ Some g) × (g.part ≡ e.part) × (linking.initial lp e ≡ Some g.init)

-- the step from the end of a global's import
abbrev pub IsEndStep : List Part → linking.End → Step Read → Type 0
IsEndStep parts e (Leads n) = (r : linking.Read) × (slice_get (own_reads (named_modules parts)) n ≡ Some r) × (linking.end_step (named_modules parts) (Some e) ≡ Some (paths.LeadsTo r))
IsEndStep parts e (Stops r) = linking.end_step (named_modules parts) (Some e) ≡ Some (paths.EndsWith (the_read r))
IsEndStep parts e Nowhere = linking.end_step (named_modules parts) (Some e) ≡ None

-- what the value expression of a defined global reads
unfoldable pub value_at : List Part → DefinedGlobal → Option linking.Read
value_at parts g = linking.read_of (named_modules parts) g.part g.init
