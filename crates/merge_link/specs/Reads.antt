-- What is read through imports.
use Rattle.std.specs.Prelude.{◌≡◌, List, Option, None, map, option_map}
use Rattle.base_lists.specs.Options.{◌>>=◌}
use Rattle.wasm_tree_spec.specs.Prelude.{ImportDesc}
use Rattle.wasm_tree.specs.declared.module.ImportDesc.TheVariants as im
use Rattle.wasm_meaning.specs.Linking as linking
use Rattle.merge_spec.specs.declared.parts.Part.{Part}
use Rattle.merge_spec.specs.declared.links.Read.{Read}
use Rattle.merge_spec.specs.Faults as faults
use Rattle.merge_spec.specs.Prelude.{read_entry, when_fixed, named_modules}
use Rattle.merge_link.specs.Globals.{the_read}

-- what the value expression of a defined global reads
unfoldable pub own_value : List Part → faults.DefinedGlobal → Option linking.Read
own_value parts g = linking.read_of (named_modules parts) g.part g.init

-- `values` has what each defined global reads
abbrev pub AreGlobalReads : List Part → List (Option Read) → Type 0
AreGlobalReads parts values = map (option_map the_read) values ≡ map (own_value parts) (faults.defined_globals (named_modules parts))

-- what is read from the end of a global's import
abbrev pub read_past : List linking.Part → linking.End → Option linking.Read
read_past lp (linking.Outside s) = linking.outside_read lp s
read_past lp (linking.Defined e) = linking.initial lp e >>= (linking.read_of lp e.part)

abbrev pub fixed_desc : List linking.Part → linking.End → ImportDesc → Option linking.Read
fixed_desc lp e (im.Global t) = when_fixed t.mutable (read_past lp e)
fixed_desc lp e _ = None

-- what is read through the import at this place, which has this end, if it is an immutable global
abbrev pub fixed_read : List linking.Part → linking.Site → linking.End → Option Read
fixed_read lp s e = option_map read_entry (linking.import_at lp s >>= λ i. fixed_desc lp e i.desc)
