-- Following imports, in terms of linking by name.
use Rattle.std.specs.Prelude.{◌≡◌, ◌<◌, ◌^◌, ℕ, List, Option, Some, None, length, map, slice_get}
use Rattle.wasm_meaning.specs.Paths as paths
use Rattle.wasm_meaning.specs.Linking as linking
use Rattle.base_paths.specs.declared.follow.Step.{Step}
use Rattle.base_paths.specs.declared.follow.Step.TheVariants.{Leads, Stops, Nowhere}
use Rattle.merge_spec.specs.declared.parts.Part.{Part}
use Rattle.merge_spec.specs.Prelude.{named_modules, defined_globals}
use Rattle.merge_link.specs.declared.sites.Site.{Site}
use Rattle.merge_link.specs.declared.part_tables.Entity.{Entity}
use Rattle.merge_link.specs.declared.part_tables.Ending.{Ending}
use Rattle.merge_link.specs.declared.part_tables.Ending.TheVariants.{Defined, Outside}
use Rattle.merge_link.specs.declared.part_tables.PartTables.{PartTables}
use Rattle.merge_link.specs.Sites.{the_site}
use Rattle.merge_link.specs.Tables.{AreNames, AreTables}

abbrev pub the_entity : Entity → linking.Entity
the_entity e = record { part = e.part; what = e.what }

abbrev pub the_end : Ending → linking.End
the_end (Defined e) = linking.Defined (the_entity e)
the_end (Outside s) = linking.Outside (the_site s)

-- the look-up tables are those of the parts, and a u32 can number their imports and defined globals
pub record ArePartTables (j : PartTables) : Type 0 where
  pub names : AreNames (named_modules j.parts.now) j.names
  pub tables : AreTables (named_modules j.parts.now) j.tables.items
  pub imports : length (linking.sites (named_modules j.parts.now)) < 2 ^ 32
  pub globals : length (defined_globals (named_modules j.parts.now)) < 2 ^ 32

-- the number of the import that an entity is, or none if its part defines it
abbrev pub IsImportedAs : List linking.Part → linking.Entity → Option ℕ → Type 0
IsImportedAs lp e None = linking.imported_as lp e ≡ None
IsImportedAs lp e (Some n) = (s : linking.Site) × (slice_get (linking.sites lp) n ≡ Some s) × (linking.imported_as lp e ≡ Some s)

-- the step from a point: to another, by its number among all points, or to what the path ends with
abbrev pub IsStep : {A E F : Type 0} → (A → Option (paths.PathStep A E)) → List A → (F → E) → A → Step F → Type 0
IsStep {A = A} next points meaning a (Leads n) = (b : A) × (slice_get points n ≡ Some b) × (next a ≡ Some (paths.LeadsTo b))
IsStep next points meaning a (Stops e) = next a ≡ Some (paths.EndsWith (meaning e))
IsStep next points meaning a Nowhere = next a ≡ None

-- `steps` has the step from each of the points `froms`
pub record AreSteps {A E F : Type 0} (next : A → Option (paths.PathStep A E)) (points : List A) (meaning : F → E) (froms : List A) (steps : List (Step F)) : Type 0 where
  pub one_each : length steps ≡ length froms
  pub right : (n : ℕ) (a : A) (s : Step F) → slice_get froms n ≡ Some a → slice_get steps n ≡ Some s → IsStep next points meaning a s

-- some import has this end in one step
abbrev pub IsStop : List linking.Part → linking.End → Type 0
IsStop lp e = (s : linking.Site) × (linking.import_step lp s ≡ Some (paths.EndsWith e))

abbrev pub AreStops : List Part → List (Option Ending) → Type 0
AreStops parts ends = (n : ℕ) (e : Ending) → slice_get ends n ≡ Some (Some e) → IsStop (named_modules parts) (the_end e)

-- the end of an import, or none if following it never ends
unfoldable pub end_at : List Part → Site → Option linking.End
end_at parts s = linking.end_of (named_modules parts) (the_site s)

-- `ends` are the ends of the imports, which all have one
pub record AreKnown (parts : List Part) (sites : List Site) (ends : List Ending) : Type 0 where
  pub same : map (λ e. Some (the_end e)) ends ≡ map (end_at parts) sites
  pub stops : (n : ℕ) (e : Ending) → slice_get ends n ≡ Some e → IsStop (named_modules parts) (the_end e)
