-- If each index of a set names what its entry names, so does each index of a body that names only
-- indices of the set.
use Rattle.base_lists.proofs.Common.{List}
use Rattle.wasm_tree_spec.specs.Prelude.{Instr, ListLayers}
use Rattle.wasm_meaning.specs.Prelude.{Inst}
use Rattle.index_remap.specs.declared.remap.Remap.{Remap}
use Rattle.run_simulation.specs.Prelude.{Pairing}
use Rattle.index_remap.specs.Prelude.{LayerNames}
use Rattle.index_remap.proofs.UnreplacedCode.{operands_follow}
use Rattle.index_remap_proof.specs.Indices.{Indices, LayerNamesOnly}
use Rattle.world_simulation.specs.Prelude.{EntriesName}

pub all_named : (R : Pairing) (m : Remap) (kept : Indices) (i j : Inst) → EntriesName R m kept i j → (code : List Instr) → ListLayers (LayerNamesOnly kept) code → ListLayers (LayerNames R m i j) code
all_named R m kept i j k = operands_follow _ _ (λ o. k o.space o.index)
