-- How the indices that code names are related to their entries in a map.
use Rattle.std.specs.Prelude.{ℕ}
use Rattle.base_lists.specs.Every.{Every}
use Rattle.wasm_tree_spec.specs.Prelude.{Space, Types, Functions, Tables, Memories, Globals, ElementSegments, DataSegments, Instr, operands}
use Rattle.wasm_tree.specs.declared.instr.Instr.TheOpen.{Instr-F}
use Rattle.wasm_meaning.specs.Prelude.{Inst}
use Rattle.index_remap.specs.declared.remap.Remap.{Remap}
use Rattle.index_remap.specs.Renumbered.{entry}
use Rattle.run_simulation.specs.Related.{Pairing, AreIndicesRelated, SameType}

-- The index and its entry denote addresses of the code relation, or equal types, or neither denotes
-- anything.
abbrev pub EntryNames : Pairing → Remap → Inst → Inst → Space → ℕ → Type 0
EntryNames R m i j Types x = SameType i j x (entry m Types x)
EntryNames R m i j Functions x = AreIndicesRelated R.named Functions i.funcs j.funcs x (entry m Functions x)
EntryNames R m i j Tables x = AreIndicesRelated R.named Tables i.tables j.tables x (entry m Tables x)
EntryNames R m i j Memories x = AreIndicesRelated R.named Memories i.mems j.mems x (entry m Memories x)
EntryNames R m i j Globals x = AreIndicesRelated R.named Globals i.globals j.globals x (entry m Globals x)
EntryNames R m i j ElementSegments x = AreIndicesRelated R.named ElementSegments i.elems j.elems x (entry m ElementSegments x)
EntryNames R m i j DataSegments x = AreIndicesRelated R.named DataSegments i.datas j.datas x (entry m DataSegments x)

-- `EntryNames` holds for each index that the layer itself names.
abbrev pub LayerNames : Pairing → Remap → Inst → Inst → Instr-F Instr → Type 0
LayerNames R m i j layer = Every (λ o. EntryNames R m i j o.space o.index) (operands layer)
