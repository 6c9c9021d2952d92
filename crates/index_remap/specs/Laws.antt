-- The laws of code with other indices: it is related to the code that it is made of, and well typed.
use Rattle.std.proofs.Common.{ℕ, List, [], Bool}
use Rattle.wasm_tree_spec.specs.Prelude.{Space, ValType, FuncType, Instr, ListLayers}
use Rattle.wasm_meaning.specs.Prelude.{Inst}
use Rattle.wasm_valid_bodies.specs.Typing.{Context, WellTyped}
use Rattle.index_remap.specs.declared.remap.Remap.{Remap}
use Rattle.index_remap.specs.Renumbered.{renumbered_all}
use Rattle.index_remap.specs.CodeNames.{LayerNames}
use Rattle.index_remap.specs.Agreement.{SameFrame}
use Rattle.index_remap.specs.Replaced.{Labels, Codes, Replaced, OthersAgree, OthersNamed, ReplacementCodesFit, CodesHaveTypes}
use Rattle.run_simulation.specs.Related.{CodeRel}
use Rattle.run_simulation.specs.Laws.{passed, passed_with, CodeTest}

-- Code that replaces a well-typed body is well typed over the same locals, results and labels, if
-- the indices that instructions other than replaced calls name agree with their entries, and code
-- that replaces a call has the type of the function under the labels at that place.
abbrev pub TypingIsKept : Type 0
TypingIsKept =
    (m : Remap) (listed : List ℕ) (codes : Codes) (c d : Context) (is js : List Instr) (ps rs : List ValType) → SameFrame c d → ListLayers (OthersAgree m listed c d) is →
    CodesHaveTypes listed codes c d →
    Replaced c.types m listed codes c.labels is js → WellTyped c is ps rs → WellTyped d js ps rs

-- Such code is related to the body, if each index that the other instructions name and its entry
-- denote addresses of the code relation, or equal types, or neither denotes anything, and if each
-- function whose call is replaced is opaque and its codes may stand in place of calls of it.
abbrev pub ReplacedCodeIsRelated : Type 0
ReplacedCodeIsRelated =
    (of named : Space → ℕ → ℕ → Bool) (l : List ℕ) (stands : CodeTest) (m : Remap) (i j : Inst) (types : List FuncType) (labels : Labels) (listed : List ℕ) (codes : Codes) (is js : List Instr) →
    ReplacementCodesFit (passed_with of named l stands) listed codes i j → ListLayers (OthersNamed (passed_with of named l stands) m listed i j) is → Replaced types m listed codes labels is js →
    CodeRel (passed_with of named l stands) i j is js

-- If the list is empty, the body with other indices is such code.
abbrev pub NotOpaqueAreRenumbered : Type 0
NotOpaqueAreRenumbered = (types : List FuncType) (m : Remap) (codes : Codes) (labels : Labels) (is : List Instr) → Replaced types m [] codes labels is (renumbered_all m is)

-- A body is related to the same body with other indices, if each index and its entry denote
-- addresses of the code relation, or equal types, or neither denotes anything.
abbrev pub RenumberedCodeIsRelated : Type 0
RenumberedCodeIsRelated =
    (of named : Space → ℕ → ℕ → Bool) (l : List ℕ) (m : Remap) (i j : Inst) (code : List Instr) → ListLayers (LayerNames (passed of named l) m i j) code →
    CodeRel (passed of named l) i j code (renumbered_all m code)
