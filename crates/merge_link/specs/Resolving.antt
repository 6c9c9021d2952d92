-- What each stage of linking gives: its result if there is no fault of its kind, or the first such
-- fault.
use Rattle.std.specs.Prelude.{◌≡◌, ◌⊎◌, List, Option, Some, None, map, Result, Ok, Err}
use Rattle.wasm_tree_spec.specs.Prelude.{Limits}
use Rattle.wasm_meaning.specs.Linking as linking
use Rattle.merge_spec.specs.declared.parts.Part.{Part}
use Rattle.merge_spec.specs.declared.faults.LinkFault.{LinkFault}
use Rattle.merge_spec.specs.declared.faults.LinkFault.TheVariants.{NoMemory}
use Rattle.merge_spec.specs.declared.links.Read.{Read}
use Rattle.merge_spec.specs.Faults as faults
use Rattle.merge_spec.specs.Prelude.{read_at, named_modules}
use Rattle.merge_link.specs.declared.part_tables.Ending.{Ending}
use Rattle.merge_link.specs.declared.resolving.LinkedImports.{LinkedImports}
use Rattle.merge_link.specs.declared.sites.Site.{Site}
use Rattle.merge_link.specs.Gathering.{AreLinkedEnds}
use Rattle.merge_link.specs.PartTables.{AreKnown}
use Rattle.merge_link.specs.Sites.{the_site}
use Rattle.std.specs.declared.vec.Vec.{Vec}
use Rattle.std.proofs.Common.{Global}

-- the first fault of an import, of limits that clash, and of a global's value
unfoldable pub import_faults : List linking.Part → Option LinkFault
import_faults lp = faults.first_fault (faults.import_fault lp) (linking.sites lp)

unfoldable pub clash_faults : List linking.Part → Option LinkFault
clash_faults lp = faults.first_fault (faults.clash_fault lp) (linking.sites lp)

unfoldable pub global_faults : List linking.Part → Option LinkFault
global_faults lp = faults.first_fault (faults.global_fault lp) (faults.defined_globals lp)

unfoldable pub read_entry_at : List Part → Site → Option Read
read_entry_at parts s = read_at (named_modules parts) (the_site s)

unfoldable pub kept_entry_at : List Part → Site → Option Limits
kept_entry_at parts s = faults.kept_limits (named_modules parts) (the_site s)

-- `kept` has the linked ends, and the limits that are kept
pub record IsLinkedKept (parts : List Part) (sites : List Site) (kept : LinkedImports) : Type 0 where
  pub ends : AreLinkedEnds parts sites kept.linked.items
  pub limits : kept.limits.items ≡ map (kept_entry_at parts) sites

-- why a stage fails: its first fault, or that memory ran out
abbrev pub IsRefusal : Option LinkFault → LinkFault → Type 0
IsRefusal first fault = (fault ≡ NoMemory) ⊎ (first ≡ Some fault)

abbrev pub IsMatched : List Part → List Site → Result (Vec Ending Global) LinkFault → Type 0
IsMatched parts sites (Ok ends) = AreKnown parts sites ends.items × (import_faults (named_modules parts) ≡ None)
IsMatched parts sites (Err fault) = IsRefusal (import_faults (named_modules parts)) fault

abbrev pub IsKept : List Part → List Site → Result LinkedImports LinkFault → Type 0
IsKept parts sites (Ok kept) = IsLinkedKept parts sites kept × (clash_faults (named_modules parts) ≡ None)
IsKept parts sites (Err fault) = IsRefusal (clash_faults (named_modules parts)) fault

abbrev pub IsValued : List Part → List Site → Result (Vec (Option Read) Global) LinkFault → Type 0
IsValued parts sites (Ok reads) = (reads.items ≡ map (read_entry_at parts) sites) × (global_faults (named_modules parts) ≡ None)
IsValued parts sites (Err fault) = IsRefusal (global_faults (named_modules parts)) fault
