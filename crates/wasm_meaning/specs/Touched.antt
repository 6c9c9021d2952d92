-- What a step writes into the store, computed from what is on top of the stack before it.
use Rattle.std.proofs.Common.{◌≡◌, ℕ, ◌+◌, true, List, [], ◌∷◌, length, slice_get, Some}
use Rattle.wasm_tree_spec.specs.Prelude.{Instr, out-Instr, StoreOp, store_width}
use Rattle.wasm_tree.specs.declared.instr.Instr.TheOpen.{Instr-F}
use Rattle.wasm_num.specs.Operations.{W32}
use Rattle.wasm_meaning.specs.Outcomes.{Outcome, Gives, IllTyped, bind, overwrite, with_entry}
use Rattle.wasm_meaning.specs.Access.{store_from}
use Rattle.wasm_meaning.specs.State.{Val, RefVal, Table, Memory, Global, Store, Level, Frame, Env, Change, Keep, SetGlobal, SetMemory, SetTable, DropElem, DropData, Act, Goes}
use Rattle.wasm_meaning.specs.Values.{pop_num, pop_ref}
use Rattle.wasm_meaning.specs.Memory.{pop_three}
use Rattle.wasm_meaning.specs.Step.{act}

-- A range of bytes of a memory or of slots of a table, a global, a segment that is dropped, or
-- nothing.
pub data Touched : Type 0 where
  Nothing : Touched
  Bytes : (address place count : ℕ) → Touched
  Slots : (address place count : ℕ) → Touched
  OneGlobal : (address : ℕ) → Touched
  OneElem : (address : ℕ) → Touched
  OneData : (address : ℕ) → Touched

abbrev pub at_address : List ℕ → ℕ → (ℕ → Touched) → Outcome Touched
at_address addresses n f = with_entry addresses n (λ a. Gives (f a))

-- The place is the number below the value on the stack, plus the offset.
abbrev pub store_touches : ℕ → (offset : ℕ) → StoreOp → List Val → Outcome Touched
store_touches a offset o vs = bind (pop_num (store_from o) vs) (λ v. bind (pop_num W32 v.1) (λ p. Gives (Bytes a (p.0 + offset) (store_width o))))

-- Of the three numbers on top of the stack, the bottom one is the place and the top one the count.
abbrev pub range_touches : (place_count : ℕ → ℕ → Touched) → List Val → Outcome Touched
range_touches f vs = bind (pop_three vs) (λ p. Gives (f p.0.0 p.0.2))

-- The place is below a reference on the stack.
abbrev pub slot_touches : ℕ → List Val → Outcome Touched
slot_touches a vs = bind (pop_ref vs) (λ r. bind (pop_num W32 r.1) (λ i. Gives (Slots a i.0 1)))

-- The place is below a reference on the stack, which is below the count.
abbrev pub fill_touches : ℕ → List Val → Outcome Touched
fill_touches a vs = bind (pop_num W32 vs) (λ n. bind (pop_ref n.1) (λ r. bind (pop_num W32 r.1) (λ d. Gives (Slots a d.0 n.0))))

-- What an instruction writes, if it neither traps nor is ill typed.
abbrev pub touched_by : Instr-F Instr → Env → List Val → Outcome Touched
touched_by (Instr-F.Store o arg) env vs = with_entry env.inst.mems arg.memory (λ a. store_touches a arg.offset o vs)
touched_by (Instr-F.MemoryInit s n) env vs = with_entry env.inst.mems n (λ a. range_touches (Bytes a) vs)
touched_by (Instr-F.MemoryCopy n m) env vs = with_entry env.inst.mems n (λ a. range_touches (Bytes a) vs)
touched_by (Instr-F.MemoryFill n) env vs = with_entry env.inst.mems n (λ a. range_touches (Bytes a) vs)
touched_by (Instr-F.TableSet n) env vs = with_entry env.inst.tables n (λ a. slot_touches a vs)
touched_by (Instr-F.TableInit s n) env vs = with_entry env.inst.tables n (λ a. range_touches (Slots a) vs)
touched_by (Instr-F.TableCopy n m) env vs = with_entry env.inst.tables n (λ a. range_touches (Slots a) vs)
touched_by (Instr-F.TableFill n) env vs = with_entry env.inst.tables n (λ a. fill_touches a vs)
touched_by (Instr-F.GlobalSet n) env vs = at_address env.inst.globals n OneGlobal
touched_by (Instr-F.ElemDrop n) env vs = at_address env.inst.elems n OneElem
touched_by (Instr-F.DataDrop n) env vs = at_address env.inst.datas n OneData
touched_by _ env vs = Gives Nothing

abbrev pub touched_next : Env → List Val → List Instr → Outcome Touched
touched_next env vs [] = Gives Nothing
touched_next env vs (i ∷ is) = touched_by (out-Instr i) env vs

abbrev pub touched_levels : Env → List Level → Outcome Touched
touched_levels env [] = IllTyped
touched_levels env (l ∷ ls) = touched_next env l.values l.code

-- What the step of this frame writes.
abbrev pub touched : Store → Frame → Outcome Touched
touched s f = touched_levels (record { store = s; inst = f.inst }) f.levels

-- The change writes exactly this: the bytes or references are at the place and all others stay as
-- they were; a global that is set is mutable and keeps its type.
pub data Writes (s : Store) : Touched → Change → Type 0 where
  nothing : Writes s Nothing Keep
  a_global : {a : ℕ} {g h : Global} → slice_get s.globals a ≡ Some g → g.ty.mutable ≡ true → h.ty ≡ g.ty → Writes s (OneGlobal a) (SetGlobal a h)
  bytes : {a place : ℕ} {m n : Memory} (written : List ℕ) → slice_get s.mems a ≡ Some m → overwrite m.bytes place written ≡ Some n.bytes → n.pages ≡ m.pages → n.most ≡ m.most →
      Writes s (Bytes a place (length written)) (SetMemory a n)
  slots : {a place : ℕ} {t u : Table} (written : List RefVal) → slice_get s.tables a ≡ Some t → overwrite t.slots place written ≡ Some u.slots → u.ty ≡ t.ty → u.most ≡ t.most →
      Writes s (Slots a place (length written)) (SetTable a u)
  an_elem : {a : ℕ} → Writes s (OneElem a) (DropElem a)
  a_data : {a : ℕ} → Writes s (OneData a) (DropData a)

-- `o` gives something, and the change writes exactly that.
pub record WritesTold (s : Store) (o : Outcome Touched) (c : Change) : Type 0 where
  pub told : Touched
  pub is : o ≡ Gives told
  pub writes : Writes s told c

-- If the frame goes on, its change writes what `o` says. If a call begins, a growth is asked for or
-- the frame ends, nothing is written and `o` says so.
abbrev pub ActWrites : Store → Outcome Touched → Act → Type 0
ActWrites s o (Goes c h) = WritesTold s o c
ActWrites s o _ = o ≡ Gives Nothing

-- If the step of a frame does something, `touched` says what it writes.
abbrev pub StepsWriteWhatTheyTouch : Type 0
StepsWriteWhatTheyTouch = (s : Store) (f : Frame) (x : Act) → act s f ≡ Gives x → ActWrites s (touched s f) x
