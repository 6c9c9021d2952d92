-- Code in which each index is replaced by its entry in a map, and each call of a function of a list
-- by other code.
use Rattle.std.specs.Prelude.{◌≡◌, ℕ, Bool, true, false, ◌&&◌, IsTrue, List, [], ◌∷◌, ◌++◌, Option, Some, None, Contains, slice_get}
use Rattle.base_lists.specs.Members.{is_among}
use Rattle.std.specs.List.{list_any}
use Rattle.base_lists.specs.Every.{Every}
use Rattle.wasm_tree_spec.specs.Prelude.{Space, Operand, operands, ValType, FuncType, Instr, Row_of-Instr, end_of-Instr, more_of-Instr, Block, Block', Loop, Loop', If, If', Call, Unreachable, Nop, Br}
use Rattle.wasm_tree_spec.specs.Prelude.{BrIf, BrTable, Return, CallIndirect, Drop, Select, SelectTyped, LocalGet, LocalSet, LocalTee, GlobalGet, GlobalSet, TableGet, TableSet, Load, Store}
use Rattle.wasm_tree_spec.specs.Prelude.{MemorySize, MemoryGrow, I32Const, I64Const, Un, Bin, RefNull, RefIsNull, RefFunc, MemoryInit, DataDrop, MemoryCopy, MemoryFill, TableInit, ElemDrop, TableCopy}
use Rattle.wasm_tree_spec.specs.Prelude.{TableGrow, TableSize, TableFill}
use Rattle.wasm_tree.specs.declared.instr.Instr.TheOpen.{Instr-F}
use Rattle.wasm_valid_bodies.specs.Typing.{Signature, signature_of, Context, WellTyped}
use Rattle.wasm_meaning.specs.Prelude.{Inst}
use Rattle.index_remap.specs.declared.remap.Remap.{Remap}
use Rattle.index_remap.specs.Renumbered.{new_type, renumbered}
use Rattle.index_remap.specs.CodeNames.{EntryNames}
use Rattle.run_simulation.specs.Related.{Pairing}
use Rattle.index_remap.specs.Agreement.{LayerAgrees, func_type, labelled}

-- ---- what replaces the instructions of a body ----

-- The types of the labels around an instruction, the innermost first (section 3.1.1).
abbrev pub Labels : Type 0
Labels = List (List ValType)

-- The codes, each a list of instructions, that may replace a call of a function under these labels.
abbrev pub Codes : Type 0
Codes = Labels → ℕ → List (List Instr)

-- A call of a function of the list is replaced by one of the function's codes, any other call by
-- the call of the function's entry.
abbrev pub CallReplaced : Remap → Bool → Codes → Labels → ℕ → List Instr → Type 0
CallReplaced m true codes labels f code = Contains (codes labels f) code
CallReplaced m false codes labels f code = code ≡ renumbered m (Call f) ∷ []

-- What a branch to the label of a block or an if takes, and below what one to that of a loop takes;
-- nothing if the type that the block names does not exist (sections 3.3.8 and 3.2.2).
abbrev pub block_label : Option Signature → List ValType
block_label None = []
block_label (Some f) = f.results

abbrev pub loop_label : Option Signature → List ValType
loop_label None = []
loop_label (Some f) = f.params

module _ (types : List FuncType) (m : Remap) (listed : List ℕ) (codes : Codes) where
  abbrev mutual
    -- `code` replaces the instruction under these labels. A block gets its new type and contains
    -- what replaces its contents, under one more label.
    pub DenotesOne : Labels → Instr → List Instr → Type 0
    DenotesOne labels (Block' ty n body) code = (b : List Instr) × RowReplaced (block_label (signature_of types ty) ∷ labels) body b × (code ≡ Block (new_type m ty) b ∷ [])
    DenotesOne labels (Loop' ty n body) code = (b : List Instr) × RowReplaced (loop_label (signature_of types ty) ∷ labels) body b × (code ≡ Loop (new_type m ty) b ∷ [])
    DenotesOne labels (If' ty n body k other) code =
        (b o : List Instr) × RowReplaced (block_label (signature_of types ty) ∷ labels) body b × RowReplaced (block_label (signature_of types ty) ∷ labels) other o ×
        (code ≡ If (new_type m ty) b o ∷ [])
    DenotesOne labels (Call f) code = CallReplaced m (is_among listed f) codes labels f code
    DenotesOne labels Unreachable code = code ≡ renumbered m Unreachable ∷ []
    DenotesOne labels Nop code = code ≡ renumbered m Nop ∷ []
    DenotesOne labels (Br target) code = code ≡ renumbered m (Br target) ∷ []
    DenotesOne labels (BrIf target) code = code ≡ renumbered m (BrIf target) ∷ []
    DenotesOne labels (BrTable targets last) code = code ≡ renumbered m (BrTable targets last) ∷ []
    DenotesOne labels Return code = code ≡ renumbered m Return ∷ []
    DenotesOne labels (CallIndirect ty table) code = code ≡ renumbered m (CallIndirect ty table) ∷ []
    DenotesOne labels Drop code = code ≡ renumbered m Drop ∷ []
    DenotesOne labels Select code = code ≡ renumbered m Select ∷ []
    DenotesOne labels (SelectTyped tys) code = code ≡ renumbered m (SelectTyped tys) ∷ []
    DenotesOne labels (LocalGet local) code = code ≡ renumbered m (LocalGet local) ∷ []
    DenotesOne labels (LocalSet local) code = code ≡ renumbered m (LocalSet local) ∷ []
    DenotesOne labels (LocalTee local) code = code ≡ renumbered m (LocalTee local) ∷ []
    DenotesOne labels (GlobalGet global) code = code ≡ renumbered m (GlobalGet global) ∷ []
    DenotesOne labels (GlobalSet global) code = code ≡ renumbered m (GlobalSet global) ∷ []
    DenotesOne labels (TableGet table) code = code ≡ renumbered m (TableGet table) ∷ []
    DenotesOne labels (TableSet table) code = code ≡ renumbered m (TableSet table) ∷ []
    DenotesOne labels (Load op arg) code = code ≡ renumbered m (Load op arg) ∷ []
    DenotesOne labels (Store op arg) code = code ≡ renumbered m (Store op arg) ∷ []
    DenotesOne labels (MemorySize memory) code = code ≡ renumbered m (MemorySize memory) ∷ []
    DenotesOne labels (MemoryGrow memory) code = code ≡ renumbered m (MemoryGrow memory) ∷ []
    DenotesOne labels (I32Const value) code = code ≡ renumbered m (I32Const value) ∷ []
    DenotesOne labels (I64Const value) code = code ≡ renumbered m (I64Const value) ∷ []
    DenotesOne labels (Un op) code = code ≡ renumbered m (Un op) ∷ []
    DenotesOne labels (Bin op) code = code ≡ renumbered m (Bin op) ∷ []
    DenotesOne labels (RefNull ty) code = code ≡ renumbered m (RefNull ty) ∷ []
    DenotesOne labels RefIsNull code = code ≡ renumbered m RefIsNull ∷ []
    DenotesOne labels (RefFunc func) code = code ≡ renumbered m (RefFunc func) ∷ []
    DenotesOne labels (MemoryInit segment memory) code = code ≡ renumbered m (MemoryInit segment memory) ∷ []
    DenotesOne labels (DataDrop segment) code = code ≡ renumbered m (DataDrop segment) ∷ []
    DenotesOne labels (MemoryCopy to from) code = code ≡ renumbered m (MemoryCopy to from) ∷ []
    DenotesOne labels (MemoryFill memory) code = code ≡ renumbered m (MemoryFill memory) ∷ []
    DenotesOne labels (TableInit segment table) code = code ≡ renumbered m (TableInit segment table) ∷ []
    DenotesOne labels (ElemDrop segment) code = code ≡ renumbered m (ElemDrop segment) ∷ []
    DenotesOne labels (TableCopy to from) code = code ≡ renumbered m (TableCopy to from) ∷ []
    DenotesOne labels (TableGrow table) code = code ≡ renumbered m (TableGrow table) ∷ []
    DenotesOne labels (TableSize table) code = code ≡ renumbered m (TableSize table) ∷ []
    DenotesOne labels (TableFill table) code = code ≡ renumbered m (TableFill table) ∷ []

    -- The same for the instructions of a block.
    pub RowReplaced : {n : _} → Labels → Row_of-Instr n → List Instr → Type 0
    RowReplaced labels end_of-Instr js = js ≡ []
    RowReplaced labels (more_of-Instr i is) js = (code rest : List Instr) × DenotesOne labels i code × RowReplaced labels is rest × (js ≡ code ++ rest)

  -- The second list is the first with other indices, and with one of the codes of its function in
  -- place of each call of a function of the list, in blocks as well. `labels` are around it, and
  -- `types` are the types that its blocks name.
  abbrev pub Replaced : Labels → List Instr → List Instr → Type 0
  Replaced labels [] js = js ≡ []
  Replaced labels (i ∷ is) js = (code rest : List Instr) × DenotesOne labels i code × Replaced labels is rest × (js ≡ code ++ rest)

-- ---- the other instructions ----

abbrev pub is_opaque_call : List ℕ → Operand → Bool
is_opaque_call listed o = o.called && is_among listed o.index

-- Each index that the layer itself names agrees with its entry, unless the layer is a call that is
-- replaced.
abbrev pub OthersAgree : Remap → List ℕ → Context → Context → Instr-F Instr → Type 0
OthersAgree m listed c d l = list_any (is_opaque_call listed) (operands l) ≡ false → LayerAgrees m c d l

-- The function of a call that is replaced is opaque. Any other index and its entry denote addresses
-- of the code relation, or equal types, or neither denotes anything.
abbrev pub OtherNamed : Pairing → Remap → Bool → Inst → Inst → Space → ℕ → Type 0
OtherNamed R m true i j space x = (a : ℕ) × (slice_get i.funcs x ≡ Some a) × R.listed a
OtherNamed R m false i j space x = EntryNames R m i j space x

-- `OtherNamed` holds for each index that the layer itself names.
abbrev pub OthersNamed : Pairing → Remap → List ℕ → Inst → Inst → Instr-F Instr → Type 0
OthersNamed R m listed i j layer = Every (λ o. OtherNamed R m (is_opaque_call listed o) i j o.space o.index) (operands layer)

-- Each code that may replace a call of a function of the list may stand in place of it, over the
-- second instance.
abbrev pub ReplacementCodesFit : Pairing → List ℕ → Codes → Inst → Inst → Type 0
ReplacementCodesFit R listed codes i j = (labels : Labels) (f a : ℕ) (code : List Instr) → IsTrue (is_among listed f) → Contains (codes labels f) code → slice_get i.funcs f ≡ Some a →
    R.stands j a code

-- ---- what keeps it well typed ----

-- Under these labels the code has, in `d`, the type that the function has in `c`.
abbrev pub HasTypeOf : Context → Context → Labels → ℕ → List Instr → Type 0
HasTypeOf c d labels f code = (t : FuncType) → func_type c f ≡ Some t → WellTyped (labelled d labels) code t.params t.results

-- Each code that may replace a call of a function of the list under some labels has, under these,
-- the type of the function.
abbrev pub CodesHaveTypes : List ℕ → Codes → Context → Context → Type 0
CodesHaveTypes listed codes c d = (labels : Labels) (f : ℕ) (code : List Instr) → IsTrue (is_among listed f) → Contains (codes labels f) code → HasTypeOf c d labels f code
