-- Stores and configurations that are related by a relation of addresses.
use Rattle.std.proofs.Common.{◌≡◌, ℕ, List, [], ◌∷◌, ◌++◌, Option, Some, None, Bool, true, false, slice_get}
pub use Rattle.base_lists.specs.Related.{BothRel, ListRel, OptRel, both, cons, nil, none, some}
pub use Rattle.wasm_meaning.specs.Outcomes.{ResRel, done, trap, wrong}
use Rattle.wasm_tree_spec.specs.Prelude.{Space, Functions, Tables, Memories, Globals, ElementSegments, DataSegments, RefType, ValType, BlockType, FuncType, LoadOp, StoreOp, MemArg, Instr, out-Instr}
use Rattle.std.specs.Prelude.{ℤ}
use Rattle.wasm_tree.specs.declared.types.BlockType.TheVariants as bt
use Rattle.wasm_num.specs.declared.UnOp.{UnOp}
use Rattle.wasm_num.specs.declared.BinOp.{BinOp}
use Rattle.wasm_tree.specs.declared.instr.Instr.TheOpen.{Instr-F}
use Rattle.wasm_meaning.specs.Prelude.{Gives, Pair, RefVal, FuncRef, ExternRef, Val, Num, Ref, Inst, Func, Code, Own, Placeholder, Table, Memory, Global, Elem, Store, Level, Frame, Growth, GrowMemory}
use Rattle.wasm_meaning.specs.Prelude.{GrowTable, Entry, Running, Mark, Opening, Waiting, Ended, Growing, Body, Change, Keep, SetGlobal, SetMemory, SetTable, DropElem, DropData, Act, Goes, Calls}
use Rattle.wasm_meaning.specs.Prelude.{AsksGrow, Ends, Next, Ran, CallsOwn, WaitsGrowth, CallsPlaceholder, EndsCall, type_at, own_at, act}
use Rattle.wasm_num.specs.Operations.{Width}

-- The simulation relation of the addresses of two stores (`of`), the code relation (`named`), the
-- opaque functions of the first store (`listed`), and the code that may stand in place of a call of
-- one, over an instance of the second store (`stands`).
pub record Pairing : Type 1 where
  pub of : Space → ℕ → ℕ → Type 0
  -- Nothing is known of what is at addresses that are in the code relation and not related.
  pub named : Space → ℕ → ℕ → Type 0
  pub listed : ℕ → Type 0
  pub stands : Inst → (function : ℕ) → List Instr → Type 0

-- The relation for the indices of an instruction: related addresses for the next instruction
-- (true), the code relation for other code.
abbrev pub by : Pairing → Bool → Space → ℕ → ℕ → Type 0
by R true = R.of
by R false = R.named

pub record OneToOne (R : Pairing) : Type 0 where
  pub right : {k : Space} (a b c : ℕ) → R.of k a b → R.of k a c → b ≡ c
  pub left : {k : Space} (a b c : ℕ) → R.of k a c → R.of k b c → a ≡ b

-- Instructions may write at addresses of the kind; functions stay as they are (section 4.2.3).
abbrev pub is_written : Space → Bool
is_written Functions = false
is_written _ = true

-- One to one except for functions: two functions of one store may be related to one of the other.
pub record OneToOneWhereWritten (R : Pairing) : Type 0 where
  pub right : {k : Space} → is_written k ≡ true → (a b c : ℕ) → R.of k a b → R.of k a c → b ≡ c
  pub left : {k : Space} → is_written k ≡ true → (a b c : ℕ) → R.of k a c → R.of k b c → a ≡ b

pub data RefRel (R : Pairing) : RefVal → RefVal → Type 0 where
  func : {a b : Option ℕ} → OptRel (R.of Functions) a b → RefRel R (FuncRef a) (FuncRef b)
  extern : {n : Option ℕ} → RefRel R (ExternRef n) (ExternRef n)

pub data ValRel (R : Pairing) : Val → Val → Type 0 where
  number : {w : Width} {n : ℕ} → ValRel R (Num w n) (Num w n)
  reference : {r s : RefVal} → RefRel R r s → ValRel R (Ref r) (Ref s)

-- The two indices denote addresses that `N` relates, or neither denotes one.
abbrev pub AreIndicesRelated : (Space → ℕ → ℕ → Type 0) → Space → List ℕ → List ℕ → ℕ → ℕ → Type 0
AreIndicesRelated N k xs ys n m = OptRel (N k) (slice_get xs n) (slice_get ys m)

abbrev pub SameType : Inst → Inst → ℕ → ℕ → Type 0
SameType i j n m = slice_get i.types n ≡ slice_get j.types m

pub data BlockRel (i j : Inst) : BlockType → BlockType → Type 0 where
  empty : BlockRel i j bt.Empty bt.Empty
  value : {t : ValType} → BlockRel i j (bt.Value t) (bt.Value t)
  indexed : {n m : ℕ} → SameType i j n m → BlockRel i j (bt.Index n) (bt.Index m)

pub record ArgRel (N : Space → ℕ → ℕ → Type 0) (i j : Inst) (a b : MemArg) : Type 0 where
  pub offset : a.offset ≡ b.offset
  pub memory : AreIndicesRelated N Memories i.mems j.mems a.memory b.memory

mutual
  -- The second instruction is the first with other indices. The next instruction (true) names
  -- related addresses, other code names addresses of the code relation, and types are equal.
  -- Alignments may differ.
  pub data OpRel (R : Pairing) (i j : Inst) : Bool → Instr-F Instr → Instr-F Instr → Type 0 where
    unreachable : {w : Bool} → OpRel R i j w Instr-F.Unreachable Instr-F.Unreachable
    nop : {w : Bool} → OpRel R i j w Instr-F.Nop Instr-F.Nop
    block : {w : Bool} {b d : BlockType} {c e : List Instr} → BlockRel i j b d → CodeRel R i j c e → OpRel R i j w (Instr-F.Block b c) (Instr-F.Block d e)
    loop : {w : Bool} {b d : BlockType} {c e : List Instr} → BlockRel i j b d → CodeRel R i j c e → OpRel R i j w (Instr-F.Loop b c) (Instr-F.Loop d e)
    if_else : {w : Bool} {b d : BlockType} {c e p q : List Instr} → BlockRel i j b d → CodeRel R i j c e → CodeRel R i j p q → OpRel R i j w (Instr-F.If b c p) (Instr-F.If d e q)
    br : {w : Bool} {n : ℕ} → OpRel R i j w (Instr-F.Br n) (Instr-F.Br n)
    br_if : {w : Bool} {n : ℕ} → OpRel R i j w (Instr-F.BrIf n) (Instr-F.BrIf n)
    br_table : {w : Bool} {ns : List ℕ} {n : ℕ} → OpRel R i j w (Instr-F.BrTable ns n) (Instr-F.BrTable ns n)
    return : {w : Bool} → OpRel R i j w Instr-F.Return Instr-F.Return
    call : {w : Bool} {n m : ℕ} → AreIndicesRelated (by R w) Functions i.funcs j.funcs n m → OpRel R i j w (Instr-F.Call n) (Instr-F.Call m)
    call_indirect : {w : Bool} {s t n m : ℕ} → SameType i j s t → AreIndicesRelated (by R w) Tables i.tables j.tables n m → OpRel R i j w (Instr-F.CallIndirect s n) (Instr-F.CallIndirect t m)
    drop : {w : Bool} → OpRel R i j w Instr-F.Drop Instr-F.Drop
    select : {w : Bool} → OpRel R i j w Instr-F.Select Instr-F.Select
    select_typed : {w : Bool} {ts : List ValType} → OpRel R i j w (Instr-F.SelectTyped ts) (Instr-F.SelectTyped ts)
    local_get : {w : Bool} {n : ℕ} → OpRel R i j w (Instr-F.LocalGet n) (Instr-F.LocalGet n)
    local_set : {w : Bool} {n : ℕ} → OpRel R i j w (Instr-F.LocalSet n) (Instr-F.LocalSet n)
    local_tee : {w : Bool} {n : ℕ} → OpRel R i j w (Instr-F.LocalTee n) (Instr-F.LocalTee n)
    global_get : {w : Bool} {n m : ℕ} → AreIndicesRelated (by R w) Globals i.globals j.globals n m → OpRel R i j w (Instr-F.GlobalGet n) (Instr-F.GlobalGet m)
    global_set : {w : Bool} {n m : ℕ} → AreIndicesRelated (by R w) Globals i.globals j.globals n m → OpRel R i j w (Instr-F.GlobalSet n) (Instr-F.GlobalSet m)
    table_get : {w : Bool} {n m : ℕ} → AreIndicesRelated (by R w) Tables i.tables j.tables n m → OpRel R i j w (Instr-F.TableGet n) (Instr-F.TableGet m)
    table_set : {w : Bool} {n m : ℕ} → AreIndicesRelated (by R w) Tables i.tables j.tables n m → OpRel R i j w (Instr-F.TableSet n) (Instr-F.TableSet m)
    load : {w : Bool} {o : LoadOp} {a b : MemArg} → ArgRel (by R w) i j a b → OpRel R i j w (Instr-F.Load o a) (Instr-F.Load o b)
    store : {w : Bool} {o : StoreOp} {a b : MemArg} → ArgRel (by R w) i j a b → OpRel R i j w (Instr-F.Store o a) (Instr-F.Store o b)
    memory_size : {w : Bool} {n m : ℕ} → AreIndicesRelated (by R w) Memories i.mems j.mems n m → OpRel R i j w (Instr-F.MemorySize n) (Instr-F.MemorySize m)
    memory_grow : {w : Bool} {n m : ℕ} → AreIndicesRelated (by R w) Memories i.mems j.mems n m → OpRel R i j w (Instr-F.MemoryGrow n) (Instr-F.MemoryGrow m)
    i32_const : {w : Bool} {z : ℤ} → OpRel R i j w (Instr-F.I32Const z) (Instr-F.I32Const z)
    i64_const : {w : Bool} {z : ℤ} → OpRel R i j w (Instr-F.I64Const z) (Instr-F.I64Const z)
    un : {w : Bool} {o : UnOp} → OpRel R i j w (Instr-F.Un o) (Instr-F.Un o)
    bin : {w : Bool} {o : BinOp} → OpRel R i j w (Instr-F.Bin o) (Instr-F.Bin o)
    ref_null : {w : Bool} {t : RefType} → OpRel R i j w (Instr-F.RefNull t) (Instr-F.RefNull t)
    ref_is_null : {w : Bool} → OpRel R i j w Instr-F.RefIsNull Instr-F.RefIsNull
    ref_func : {w : Bool} {n m : ℕ} → AreIndicesRelated (by R w) Functions i.funcs j.funcs n m → OpRel R i j w (Instr-F.RefFunc n) (Instr-F.RefFunc m)
    memory_init : {w : Bool} {s t n m : ℕ} → AreIndicesRelated (by R w) DataSegments i.datas j.datas s t → AreIndicesRelated (by R w) Memories i.mems j.mems n m →
        OpRel R i j w (Instr-F.MemoryInit s n) (Instr-F.MemoryInit t m)
    data_drop : {w : Bool} {s t : ℕ} → AreIndicesRelated (by R w) DataSegments i.datas j.datas s t → OpRel R i j w (Instr-F.DataDrop s) (Instr-F.DataDrop t)
    memory_copy : {w : Bool} {s t n m : ℕ} → AreIndicesRelated (by R w) Memories i.mems j.mems n m → AreIndicesRelated (by R w) Memories i.mems j.mems s t →
        OpRel R i j w (Instr-F.MemoryCopy n s) (Instr-F.MemoryCopy m t)
    memory_fill : {w : Bool} {n m : ℕ} → AreIndicesRelated (by R w) Memories i.mems j.mems n m → OpRel R i j w (Instr-F.MemoryFill n) (Instr-F.MemoryFill m)
    table_init : {w : Bool} {s t n m : ℕ} → AreIndicesRelated (by R w) ElementSegments i.elems j.elems s t → AreIndicesRelated (by R w) Tables i.tables j.tables n m →
        OpRel R i j w (Instr-F.TableInit s n) (Instr-F.TableInit t m)
    elem_drop : {w : Bool} {s t : ℕ} → AreIndicesRelated (by R w) ElementSegments i.elems j.elems s t → OpRel R i j w (Instr-F.ElemDrop s) (Instr-F.ElemDrop t)
    table_copy : {w : Bool} {s t n m : ℕ} → AreIndicesRelated (by R w) Tables i.tables j.tables n m → AreIndicesRelated (by R w) Tables i.tables j.tables s t →
        OpRel R i j w (Instr-F.TableCopy n s) (Instr-F.TableCopy m t)
    table_grow : {w : Bool} {n m : ℕ} → AreIndicesRelated (by R w) Tables i.tables j.tables n m → OpRel R i j w (Instr-F.TableGrow n) (Instr-F.TableGrow m)
    table_size : {w : Bool} {n m : ℕ} → AreIndicesRelated (by R w) Tables i.tables j.tables n m → OpRel R i j w (Instr-F.TableSize n) (Instr-F.TableSize m)
    table_fill : {w : Bool} {n m : ℕ} → AreIndicesRelated (by R w) Tables i.tables j.tables n m → OpRel R i j w (Instr-F.TableFill n) (Instr-F.TableFill m)

  -- The second code is the first with other indices, of the code relation, and with other code in
  -- place of calls of opaque functions.
  pub data CodeRel (R : Pairing) (i j : Inst) : List Instr → List Instr → Type 0 where
    end : CodeRel R i j [] []
    then : {o p : Instr} {c d : List Instr} → OpRel R i j false (out-Instr o) (out-Instr p) → CodeRel R i j c d → CodeRel R i j (o ∷ c) (p ∷ d)
    -- Code that may stand there replaces a call of an opaque function.
    instead : {o : Instr} {n a : ℕ} {c d : List Instr} (e : List Instr) → out-Instr o ≡ Instr-F.Call n → slice_get i.funcs n ≡ Some a → R.listed a → R.stands j a e → CodeRel R i j c d →
        CodeRel R i j (o ∷ c) (e ++ d)

pub data FuncRel (R : Pairing) : Func → Func → Type 0 where
  defined : {t : FuncType} {i j : Inst} {ls : List ValType} {c d : List Instr} → CodeRel R i j c d → FuncRel R (Code t i ls c) (Code t j ls d)
  own : {p : Pair} {t : FuncType} → FuncRel R (Own p t) (Own p t)
  slot : {n : ℕ} {t : FuncType} → FuncRel R (Placeholder n t) (Placeholder n t)

pub record TableRel (R : Pairing) (s t : Table) : Type 0 where
  pub type : s.ty ≡ t.ty
  pub most : s.most ≡ t.most
  pub slots : ListRel (RefRel R) s.slots t.slots

pub record GlobalRel (R : Pairing) (g h : Global) : Type 0 where
  pub type : g.ty ≡ h.ty
  pub value : ValRel R g.value h.value

-- The segments may differ in whether they were dropped.
pub record ElemRel (R : Pairing) (e f : Elem) : Type 0 where
  pub items : ListRel (RefRel R) e.items f.items

-- Related addresses hold entities with related contents. Of opaque functions it is only known that
-- the types are equal, and that neither is the environment's own or both are the same one.
pub record StoreRel (R : Pairing) (s t : Store) : Type 0 where
  pub types : {a b : ℕ} → R.of Functions a b → BothRel (◌≡◌ {A = FuncType}) (type_at s a) (type_at t b)
  pub owns : {a b : ℕ} → R.of Functions a b → own_at s a ≡ own_at t b
  pub funcs : {a b : ℕ} → R.of Functions a b → ¬ R.listed a → BothRel (FuncRel R) (slice_get s.funcs a) (slice_get t.funcs b)
  pub tables : {a b : ℕ} → R.of Tables a b → BothRel (TableRel R) (slice_get s.tables a) (slice_get t.tables b)
  pub mems : {a b : ℕ} → R.of Memories a b → BothRel (λ m n. m ≡ n) (slice_get s.mems a) (slice_get t.mems b)
  pub globals : {a b : ℕ} → R.of Globals a b → BothRel (GlobalRel R) (slice_get s.globals a) (slice_get t.globals b)
  pub elems : {a b : ℕ} → R.of ElementSegments a b → BothRel (ElemRel R) (slice_get s.elems a) (slice_get t.elems b)
  pub datas : {a b : ℕ} → R.of DataSegments a b → BothRel (λ d e. d.bytes ≡ e.bytes) (slice_get s.datas a) (slice_get t.datas b)

pub record LevelRel (R : Pairing) (i j : Inst) (l m : Level) : Type 0 where
  pub values : ListRel (ValRel R) l.values m.values
  pub code : CodeRel R i j l.code m.code
  pub gives : l.gives ≡ m.gives
  pub takes : l.takes ≡ m.takes
  pub back : CodeRel R i j l.back m.back

pub record FrameRel (R : Pairing) (f g : Frame) : Type 0 where
  pub locals : ListRel (ValRel R) f.locals g.locals
  pub results : f.results ≡ g.results
  pub levels : ListRel (LevelRel R f.inst g.inst) f.levels g.levels

pub data GrowthRel (R : Pairing) : Growth → Growth → Type 0 where
  memory_grows : {a b n : ℕ} → R.of Memories a b → GrowthRel R (GrowMemory a n) (GrowMemory b n)
  table_grows : {a b n : ℕ} {v w : RefVal} → R.of Tables a b → RefRel R v w → GrowthRel R (GrowTable a n v) (GrowTable b n w)

pub data EntryRel (R : Pairing) : Entry → Entry → Type 0 where
  running : {f g : Frame} → FrameRel R f g → EntryRel R (Running f) (Running g)
  mark : EntryRel R Mark Mark
  opening : {xs ys : List ℕ} → ListRel (R.of Functions) xs ys → EntryRel R (Opening xs) (Opening ys)
  waiting : {ts : List ValType} → EntryRel R (Waiting ts) (Waiting ts)
  ended : {vs ws : List Val} → ListRel (ValRel R) vs ws → EntryRel R (Ended vs) (Ended ws)
  growing : {g h : Growth} → GrowthRel R g h → EntryRel R (Growing g) (Growing h)

pub record BodyRel (R : Pairing) (i j : Inst) (h k : Body) : Type 0 where
  pub locals : ListRel (ValRel R) h.locals k.locals
  pub values : ListRel (ValRel R) h.values k.values
  pub rest : CodeRel R i j h.rest k.rest
  pub gives : h.gives ≡ k.gives
  pub takes : h.takes ≡ k.takes
  pub back : CodeRel R i j h.back k.back
  pub outer : ListRel (LevelRel R i j) h.outer k.outer

pub data ChangeRel (R : Pairing) : Change → Change → Type 0 where
  keep : ChangeRel R Keep Keep
  set_global : {a b : ℕ} {g h : Global} → R.of Globals a b → GlobalRel R g h → ChangeRel R (SetGlobal a g) (SetGlobal b h)
  set_memory : {a b : ℕ} {m : Memory} → R.of Memories a b → ChangeRel R (SetMemory a m) (SetMemory b m)
  set_table : {a b : ℕ} {t u : Table} → R.of Tables a b → TableRel R t u → ChangeRel R (SetTable a t) (SetTable b u)
  drop_elem : {a b : ℕ} → R.of ElementSegments a b → ChangeRel R (DropElem a) (DropElem b)
  drop_data : {a b : ℕ} → R.of DataSegments a b → ChangeRel R (DropData a) (DropData b)

-- The acts of the top frames are related, and `C` relates what they write.
pub data ActRelBy (R : Pairing) (C : Change → Change → Type 0) (i j : Inst) : Act → Act → Type 0 where
  goes : {c d : Change} {h k : Body} → C c d → BodyRel R i j h k → ActRelBy R C i j (Goes c h) (Goes d k)
  calls : {a b : ℕ} {vs ws : List Val} {h k : Body} → R.of Functions a b → ListRel (ValRel R) vs ws → BodyRel R i j h k → ActRelBy R C i j (Calls a vs h) (Calls b ws k)
  asks_grow : {p q : Growth} {m n : ℕ} {h k : Body} → GrowthRel R p q → BodyRel R i j h k → ActRelBy R C i j (AsksGrow p m n h) (AsksGrow q m n k)
  ends : {vs ws : List Val} → ListRel (ValRel R) vs ws → ActRelBy R C i j (Ends vs) (Ends ws)

abbrev pub ActRel : Pairing → Inst → Inst → Act → Act → Type 0
ActRel R = ActRelBy R (ChangeRel R)

-- Both steps have the same kind of result, with related values, stores that `S` relates and stacks
-- that `B` relates.
pub data NextRelBy (R : Pairing) (S : Store → Store → Type 0) (B : Store → Store → List Entry → List Entry → Type 0) : Next → Next → Type 0 where
  ran : {s t : Store} {es fs : List Entry} → S s t → B s t es fs → NextRelBy R S B (Ran s es) (Ran t fs)
  asked : {p : Pair} {u : FuncType} {vs ws : List Val} {s t : Store} {es fs : List Entry} → ListRel (ValRel R) vs ws → S s t → B s t es fs →
      NextRelBy R S B (CallsOwn p u vs s es) (CallsOwn p u ws t fs)
  asked_grow : {g h : Growth} {m n : ℕ} {s t : Store} {es fs : List Entry} → GrowthRel R g h → S s t → B s t es fs → NextRelBy R S B (WaitsGrowth g m n s es) (WaitsGrowth h m n t fs)
  loads : {n : ℕ} {vs ws : List Val} {s t : Store} {es fs : List Entry} → ListRel (ValRel R) vs ws → S s t → B s t es fs → NextRelBy R S B (CallsPlaceholder n vs s es) (CallsPlaceholder n ws t fs)
  returned : {vs ws : List Val} {s t : Store} {es fs : List Entry} → ListRel (ValRel R) vs ws → S s t → B s t es fs → NextRelBy R S B (EndsCall vs s es) (EndsCall ws t fs)

-- The stores are related by `StoreRel`.
abbrev pub NextRel : Pairing → (Store → Store → List Entry → List Entry → Type 0) → Next → Next → Type 0
NextRel R = NextRelBy R (StoreRel R)

-- The act begins no call of an opaque function.
abbrev pub NotOpaque : Pairing → Act → Type 0
NotOpaque R (Calls a vs h) = ¬ R.listed a
NotOpaque R _ = Unit {0}

-- The next step begins no call of an opaque function, directly or through a table.
abbrev pub TopSkips : Pairing → Store → List Entry → Type 0
TopSkips R s (Running f ∷ es) = (x : Act) → act s f ≡ Gives x → NotOpaque R x
TopSkips R s _ = Unit {0}

-- If the next instructions are related as other code is, they name related addresses.
abbrev pub NextKnown : Pairing → Inst → Inst → List Instr → List Instr → Type 0
NextKnown R i j (o ∷ c) (p ∷ d) = OpRel R i j false (out-Instr o) (out-Instr p) → OpRel R i j true (out-Instr o) (out-Instr p)
NextKnown R i j _ _ = Unit {0}

abbrev pub TopKnown : Pairing → Inst → Inst → List Level → List Level → Type 0
TopKnown R i j (l ∷ ls) (m ∷ ms) = NextKnown R i j l.code m.code
TopKnown R i j _ _ = Unit {0}
