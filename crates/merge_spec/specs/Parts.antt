-- The parts of a merge, as parts of linking by name.
use Rattle.std.specs.Prelude.{List, map, Some}
use Rattle.wasm_meaning.specs.Linking as linking
use Rattle.merge_names.specs.Names.{AreDistinct}
use Rattle.merge_spec.specs.declared.parts.Part.{Part}

abbrev pub named_module : Part → linking.Part
named_module p = record { name = Some p.name; «module» = p.«module» }

abbrev pub named_modules : List Part → List linking.Part
named_modules = map named_module

-- no two parts have the same name
abbrev pub HaveDistinctNames : List Part → Type 0
HaveDistinctNames parts = AreDistinct (map (λ p. p.name) parts)
