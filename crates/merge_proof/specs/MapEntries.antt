-- That the maps of parts have entries for what is read through joined globals.
use Rattle.std.specs.Prelude.{◌≡◌, IsTrue, List, Some}
use Rattle.wasm_tree_spec.specs.Prelude.{Module}
use Rattle.wasm_meaning.specs.Prelude.{Part, Read, module_at}
use Rattle.index_remap.specs.Prelude.{fits_const}
use Rattle.merge_spec.specs.Prelude.{map_of}

-- what is read is in a part whose map has an entry for the index that it names
pub record HasEntry (parts : List Part) (r : Read) : Type 0 where
  pub of : Module
  pub is_part : module_at parts r.part ≡ Some of
  pub fits : IsTrue (fits_const (map_of parts r.part of) r.expr)
