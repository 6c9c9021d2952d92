-- The places of imports, in terms of linking by name.
use Rattle.std.specs.Prelude.{◌≡◌, List, map, Some}
use Rattle.wasm_tree_spec.specs.Prelude.{Import}
use Rattle.wasm_meaning.specs.Linking as linking
use Rattle.merge_spec.specs.declared.parts.Part.{Part}
use Rattle.merge_spec.specs.Prelude.{named_modules}
use Rattle.merge_link.specs.declared.sites.Site.{Site}

abbrev pub the_site : Site → linking.Site
the_site s = record { part = s.part; import = s.import }

-- `sites` are the places of all imports
abbrev pub AreSites : List Part → List Site → Type 0
AreSites parts sites = map the_site sites ≡ linking.sites (named_modules parts)

-- there is an import at the place
abbrev pub ImportExists : List Part → Site → Type 0
ImportExists parts site = (i : Import) × (linking.import_at (named_modules parts) (the_site site) ≡ Some i)
