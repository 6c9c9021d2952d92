-- The store and the configuration (WebAssembly Core 2.0, section 4.2), and the results of a step.
use Rattle.std.proofs.Common.{ℕ, List, Option, Bool}
use Rattle.wasm_tree_spec.specs.Prelude.{RefType, ValType, FuncType, GlobalType, Instr}
use Rattle.wasm_num.specs.Operations.{Width}

-- The bytes of a name.
abbrev pub Text : Type 0
Text = List ℕ

-- The module name and the field name of an import.
abbrev pub Pair : Type 0
Pair = Text × Text

-- ---- values (section 4.2.1) ----

-- A reference: null, the address of a function, or the number of something of the embedder's.
pub data RefVal : Type 0 where
  FuncRef : Option ℕ → RefVal
  ExternRef : Option ℕ → RefVal

-- An integer, as a number below 2 ^ 32 or 2 ^ 64, or a reference.
pub data Val : Type 0 where
  Num : Width → ℕ → Val
  Ref : RefVal → Val

-- ---- the store (sections 4.2.3 to 4.2.11) ----

-- A module instance: its types, and for each other index space the addresses of its indices.
pub record Inst : Type 0 where
  pub types : List FuncType
  pub funcs : List ℕ
  pub tables : List ℕ
  pub mems : List ℕ
  pub globals : List ℕ
  pub elems : List ℕ
  pub datas : List ℕ

-- A function: code, with its module's instance and the types of its declared locals; a function of
-- the environment's own, identified by its pair and type; or the placeholder of a slot, in whose
-- place a loader calls a function of a module that it loads.
pub data Func : Type 0 where
  Code : FuncType → Inst → (locals : List ValType) → (body : List Instr) → Func
  Own : Pair → FuncType → Func
  Placeholder : (slot : ℕ) → FuncType → Func

-- A table; `most` is its maximum.
pub record Table : Type 0 where
  pub ty : RefType
  pub most : Option ℕ
  pub slots : List RefVal

-- A memory; a page has 65,536 bytes.
pub record Memory : Type 0 where
  pub most : Option ℕ
  pub pages : ℕ
  pub bytes : List ℕ

pub record Global : Type 0 where
  pub ty : GlobalType
  pub value : Val

pub record Elem : Type 0 where
  pub items : List RefVal
  pub dropped : Bool

pub record Data : Type 0 where
  pub bytes : List ℕ
  pub dropped : Bool

-- All instances, by address.
pub record Store : Type 0 where
  pub funcs : List Func
  pub tables : List Table
  pub mems : List Memory
  pub globals : List Global
  pub elems : List Elem
  pub datas : List Data

-- ---- the configuration (sections 4.2.14 and 4.2.15) ----

-- A body, block, loop or if that was entered: the values on its operand stack, from the top down;
-- the rest of its code; how many values it gives at its end; how many a branch to it takes; and the
-- code with which such a branch continues, which is the loop itself or nothing.
pub record Level : Type 0 where
  pub values : List Val
  pub code : List Instr
  pub gives : ℕ
  pub takes : ℕ
  pub back : List Instr

-- The frame of a function's call, with its levels from the innermost outwards.
pub record Frame : Type 0 where
  pub inst : Inst
  pub locals : List Val
  pub results : List ValType
  pub levels : List Level

-- What is to grow and by how much, and for a table the reference in its new entries.
pub data Growth : Type 0 where
  GrowMemory : (address count : ℕ) → Growth
  GrowTable : (address count : ℕ) → RefVal → Growth

-- An entry of the stack of a configuration.
pub data Entry : Type 0 where
  Running : Frame → Entry
  -- The embedder waits for the end of a call that it made.
  Mark : Entry
  -- The start functions that run next, when everything above has ended.
  Opening : List ℕ → Entry
  -- A function of the environment's own was called; the embedder is to answer with results of these
  -- types.
  Waiting : (results : List ValType) → Entry
  -- The embedder answered its own call of such a function, and the call ends with these values.
  Ended : (values : List Val) → Entry
  -- The embedder is to grant or deny this growth.
  Growing : Growth → Entry

-- Who waits for the end of a call: the embedder, or the `Opening` of a start function.
pub data Caller : Type 0 where
  Host : Caller
  Starter : Caller

-- ---- the execution of an instruction ----

-- What an instruction reads besides its `Body`: the store, and the instance of its frame.
pub record Env : Type 0 where
  pub store : Store
  pub inst : Inst

-- The locals and the levels of an instruction's frame. The innermost level is taken apart, and the
-- instruction is removed from its code.
pub record Body : Type 0 where
  pub locals : List Val
  pub values : List Val
  pub rest : List Instr
  pub gives : ℕ
  pub takes : ℕ
  pub back : List Instr
  pub outer : List Level

-- What an instruction writes into the store.
pub data Change : Type 0 where
  Keep : Change
  SetGlobal : (address : ℕ) → Global → Change
  SetMemory : (address : ℕ) → Memory → Change
  SetTable : (address : ℕ) → Table → Change
  DropElem : (address : ℕ) → Change
  DropData : (address : ℕ) → Change

-- What the top frame does, before what is on the stack below it is looked at: it goes on after a
-- change of the store, calls a function, asks for a growth, or ends.
pub data Act : Type 0 where
  Goes : Change → Body → Act
  Calls : (address : ℕ) → (values : List Val) → Body → Act
  AsksGrow : Growth → (size count : ℕ) → Body → Act
  Ends : (values : List Val) → Act

-- The result of a step: a store and a stack, and, if others see or do something, what that is.
pub data Next : Type 0 where
  Ran : Store → List Entry → Next
  CallsOwn : Pair → FuncType → (arguments : List Val) → Store → List Entry → Next
  WaitsGrowth : Growth → (size count : ℕ) → Store → List Entry → Next
  CallsPlaceholder : (slot : ℕ) → (arguments : List Val) → Store → List Entry → Next
  EndsCall : (values : List Val) → Store → List Entry → Next
