-- Replacing calls in code and then renumbering it gives the renumbered code, in which the
-- renumbered replacements are in place of the calls.
use Rattle.std.specs.Prelude.{◌≡◌, ℕ, List, [], ◌∷◌, false}
use Rattle.base_lists.specs.Members.{is_among}
use Rattle.wasm_tree_spec.specs.Prelude.{FuncType, Instr, Call}
use Rattle.index_remap.specs.declared.remap.Remap.{Remap}
use Rattle.index_remap.specs.Prelude.{renumbered_all, Codes, Labels, Replaced}
use Rattle.split_spec.specs.Prelude.{with_calls}

-- the one replacement of a call of each function, whatever labels are around the call
abbrev pub renumbered_codes : Remap → (ℕ → List Instr) → Codes
renumbered_codes m code labels func = renumbered_all m (code func) ∷ []

-- the law, for replacements that leave calls of functions that are not listed as they are
abbrev pub CallsAreReplaced : Type 0
CallsAreReplaced =
    (types : List FuncType) (m : Remap) (listed : List ℕ) (code : ℕ → List Instr) → ((func : ℕ) → is_among listed func ≡ false → code func ≡ Call func ∷ []) →
    (labels : Labels) (is : List Instr) → Replaced types m listed (renumbered_codes m code) labels is (renumbered_all m (with_calls code is))
