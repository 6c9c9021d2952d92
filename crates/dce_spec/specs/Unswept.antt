-- The world with which a swept module is compared: the whole module, with a view of only the
-- exports that are kept.
use Rattle.wasm_tree_spec.specs.Prelude.{Module}
use Rattle.wasm_meaning.specs.Prelude.{World, alone}
use Rattle.base_kept.specs.Kept.{kept}
use Rattle.dce_spec.specs.Marks.{Marks}

-- the module alone, with a view of only the exports that the marks keep
abbrev pub unswept : Marks → Module → World
unswept k m = record { parts = (alone m).parts; view = kept k.exports (alone m).view }
