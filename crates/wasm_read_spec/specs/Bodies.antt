-- The instructions that tokens encode, and code entries (Core 2.0, 5.4.1, 5.4.9 and 5.5.13).
use Rattle.std.specs.Prelude.{ℕ, suc, ◌≤◌, max, List, [], ◌∷◌, ◌++◌, map, Bool, Result, Ok, Err}
use Rattle.wasm_bytes.specs.Prelude.{U32, Each, Vector, Sized}
use Rattle.wasm_tree_spec.specs.Prelude.{BlockType, Instr, fold-Instr, Block, Loop, If, LocalGroup, Func, limit, Locals, Nesting, declared_count}
use Rattle.wasm_tree.specs.declared.instr.Instr.TheOpen.{Instr-F}
use Rattle.wasm_read_spec.specs.declared.token.Opener.TheVariants as opener
use Rattle.wasm_read_spec.specs.declared.token.Token.{Token}
use Rattle.wasm_read_spec.specs.declared.token.Token.TheVariants.{Open, Else, End, Plain}
use Rattle.wasm_read_spec.specs.SpellingForms.{Both}
use Rattle.wasm_read_spec.specs.Values.{SpellsVal}
use Rattle.wasm_read_spec.specs.Tokens.{SpellsToken}

-- The tokens encode the instructions: each block, loop and if encloses the tokens up to its end,
-- and an else splits those of an if.
pub data Nests : List Token → List Instr → Type 0 where
  no_more : Nests [] []
  one_plain : {ts : List Token} {is : List Instr} → (i : Instr) → Nests ts is → Nests (Plain i ∷ ts) (i ∷ is)
  one_block : {inner ts : List Token} {body is : List Instr} → (ty : BlockType) → Nests inner body → Nests ts is → Nests (Open opener.Block ty ∷ (inner ++ End ∷ ts)) (Block ty body ∷ is)
  one_loop : {inner ts : List Token} {body is : List Instr} → (ty : BlockType) → Nests inner body → Nests ts is → Nests (Open opener.Loop ty ∷ (inner ++ End ∷ ts)) (Loop ty body ∷ is)
  one_if : {inner ts : List Token} {body is : List Instr} → (ty : BlockType) → Nests inner body → Nests ts is → Nests (Open opener.If ty ∷ (inner ++ End ∷ ts)) (If ty body [] ∷ is)
  one_if_else : {inner other ts : List Token} {body otherwise is : List Instr} → (ty : BlockType) → Nests inner body → Nests other otherwise → Nests ts is →
      Nests (Open opener.If ty ∷ (inner ++ Else ∷ (other ++ End ∷ ts))) (If ty body otherwise ∷ is)

-- The bytes encode a body, with its last end.
abbrev pub SpellsBody : Bool → List ℕ → List Instr → Type 0
SpellsBody many bytes is = (ts : List Token) × Nests ts is × Each (SpellsToken many) bytes (ts ++ End ∷ [])

-- A group of locals.
abbrev pub SpellsGroup : List ℕ → LocalGroup → Type 0
SpellsGroup bytes g = Both U32 SpellsVal bytes (g.count, g.ty)

-- What a code entry has of a function: its locals and its body. The function section has its type.
pub record CodeEntry : Type 0 where
  pub locals : List LocalGroup
  pub body : List Instr

abbrev pub code_in : Func → CodeEntry
code_in f = record { locals = f.locals; body = f.body }

-- The code of the function that is read, or the fault.
abbrev pub code_read : {E : Type 0} → Result Func E → Result CodeEntry E
code_read (Ok f) = Ok (code_in f)
code_read (Err e) = Err e

-- The same of several functions.
abbrev pub codes_read : {E : Type 0} → Result (List Func) E → Result (List CodeEntry) E
codes_read (Ok fs) = Ok (map code_in fs)
codes_read (Err e) = Err e

-- The content of a code entry.
abbrev pub SpellsCode : Bool → List ℕ → CodeEntry → Type 0
SpellsCode many bytes c = Both (Vector SpellsGroup) (SpellsBody many) bytes (c.locals, c.body)

-- A code entry, with its size.
abbrev pub SpellsEntry : Bool → List ℕ → CodeEntry → Type 0
SpellsEntry many bytes c = (content : List ℕ) × Sized bytes content × SpellsCode many content c

-- ---- sizes

-- The greatest number of the list, or 0.
abbrev pub deepest : List ℕ → ℕ
deepest [] = 0
deepest (n ∷ ns) = max n (deepest ns)

abbrev pub depth_step : Instr-F ℕ → ℕ
depth_step (Instr-F.Block ty body) = suc (deepest body)
depth_step (Instr-F.Loop ty body) = suc (deepest body)
depth_step (Instr-F.If ty body other) = suc (max (deepest body) (deepest other))
depth_step Instr-F.Unreachable = 0
depth_step Instr-F.Nop = 0
depth_step (Instr-F.Br label) = 0
depth_step (Instr-F.BrIf label) = 0
depth_step (Instr-F.BrTable labels last) = 0
depth_step Instr-F.Return = 0
depth_step (Instr-F.Call func) = 0
depth_step (Instr-F.CallIndirect ty table) = 0
depth_step Instr-F.Drop = 0
depth_step Instr-F.Select = 0
depth_step (Instr-F.SelectTyped types) = 0
depth_step (Instr-F.LocalGet local) = 0
depth_step (Instr-F.LocalSet local) = 0
depth_step (Instr-F.LocalTee local) = 0
depth_step (Instr-F.GlobalGet global) = 0
depth_step (Instr-F.GlobalSet global) = 0
depth_step (Instr-F.TableGet table) = 0
depth_step (Instr-F.TableSet table) = 0
depth_step (Instr-F.Load op arg) = 0
depth_step (Instr-F.Store op arg) = 0
depth_step (Instr-F.MemorySize memory) = 0
depth_step (Instr-F.MemoryGrow memory) = 0
depth_step (Instr-F.I32Const value) = 0
depth_step (Instr-F.I64Const value) = 0
depth_step (Instr-F.Un op) = 0
depth_step (Instr-F.Bin op) = 0
depth_step (Instr-F.RefNull ty) = 0
depth_step Instr-F.RefIsNull = 0
depth_step (Instr-F.RefFunc func) = 0
depth_step (Instr-F.MemoryInit segment memory) = 0
depth_step (Instr-F.DataDrop segment) = 0
depth_step (Instr-F.MemoryCopy to from) = 0
depth_step (Instr-F.MemoryFill memory) = 0
depth_step (Instr-F.TableInit segment table) = 0
depth_step (Instr-F.ElemDrop segment) = 0
depth_step (Instr-F.TableCopy to from) = 0
depth_step (Instr-F.TableGrow table) = 0
depth_step (Instr-F.TableSize table) = 0
depth_step (Instr-F.TableFill table) = 0

-- How many blocks, loops and ifs are open at once at most in an instruction, or in a list of them.
abbrev pub depth_of : Instr → ℕ
depth_of = fold-Instr ℕ depth_step

abbrev pub depth : List Instr → ℕ
depth is = deepest (map depth_of is)

-- The sum of the locals and the nesting are within their limits.
abbrev pub SmallCode : CodeEntry → Type 0
SmallCode c = (declared_count c.locals ≤ limit Locals) × (depth c.body ≤ limit Nesting)

-- The sum of the locals and the nesting of the function are within their limits.
abbrev pub HasSmallCode : Func → Type 0
HasSmallCode f = SmallCode (code_in f)
