-- What the indices of a body name: if each index of a set names what its entry names, so does each
-- index of a body that names only these.
use Rattle.std.specs.Prelude.{◌≡◌, ℕ, Bool, true, IsTrue, List}
use Rattle.wasm_tree_spec.specs.Prelude.{Space, Instr, ListLayers}
use Rattle.wasm_meaning.specs.Prelude.{Inst}
use Rattle.index_remap.specs.declared.remap.Remap.{Remap}
use Rattle.run_simulation.specs.Prelude.{Pairing, passed}
use Rattle.index_remap.specs.Prelude.{fits_all, EntryNames, LayerNames}
use Rattle.index_remap_proof.specs.Indices.{Indices, with_entry, LayerNamesOnly}

-- each index of the set names what its entry names; nothing is said about other indices
abbrev pub EntriesName : Pairing → Remap → Indices → Inst → Inst → Type 0
EntriesName R m kept i j = (space : Space) (x : ℕ) → IsTrue (kept space x) → EntryNames R m i j space x

abbrev pub KeptCodeIsNamed : Type 0
KeptCodeIsNamed =
    (of named : Space → ℕ → ℕ → Bool) (l : List ℕ) (m : Remap) (kept : Indices) (i j : Inst) → EntriesName (passed of named l) m kept i j →
    (code : List Instr) → ListLayers (LayerNamesOnly kept) code → ListLayers (LayerNames (passed of named l) m i j) code

-- the same for a body whose indices all have entries
abbrev pub FittingCodeIsNamed : Type 0
FittingCodeIsNamed =
    (of named : Space → ℕ → ℕ → Bool) (l : List ℕ) (m : Remap) (i j : Inst) → EntriesName (passed of named l) m (with_entry m) i j →
    (code : List Instr) → fits_all m code ≡ true → ListLayers (LayerNames (passed of named l) m i j) code
