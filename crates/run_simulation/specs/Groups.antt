-- Instructions in three groups, and the law of steps for a group.
use Rattle.std.proofs.Common.{◌≡◌, true}
use Rattle.wasm_tree_spec.specs.Prelude.{Instr}
use Rattle.wasm_tree.specs.declared.instr.Instr.TheOpen.{Instr-F}
use Rattle.wasm_meaning.specs.Prelude.{Env, Body, exec}
use Rattle.run_simulation.specs.Related.{Pairing, ResRel, OpRel, BodyRel}
use Rattle.run_simulation.specs.UnknownPlaces.{Unknowns, StoreRelOff, ActOff, read_by, ReadsKnown}

pub data Group : Type 0 where
  -- Numeric, reference, parametric and variable instructions (WebAssembly Core 2.0, sections 4.4.1
  -- to 4.4.5).
  Values : Group
  -- Instructions on tables, memories and segments (sections 4.4.6 and 4.4.7).
  Memories : Group
  -- Control instructions (section 4.4.8).
  Control : Group

-- The group in which the standard has an instruction.
abbrev pub group_of : Instr-F Instr → Group
group_of Instr-F.Unreachable = Control
group_of Instr-F.Nop = Control
group_of (Instr-F.Block b c) = Control
group_of (Instr-F.Loop b c) = Control
group_of (Instr-F.If b c d) = Control
group_of (Instr-F.Br n) = Control
group_of (Instr-F.BrIf n) = Control
group_of (Instr-F.BrTable ns n) = Control
group_of Instr-F.Return = Control
group_of (Instr-F.Call n) = Control
group_of (Instr-F.CallIndirect t n) = Control
group_of (Instr-F.TableGet n) = Memories
group_of (Instr-F.TableSet n) = Memories
group_of (Instr-F.TableSize n) = Memories
group_of (Instr-F.TableGrow n) = Memories
group_of (Instr-F.TableFill n) = Memories
group_of (Instr-F.TableCopy n m) = Memories
group_of (Instr-F.TableInit s n) = Memories
group_of (Instr-F.ElemDrop n) = Memories
group_of (Instr-F.Load o arg) = Memories
group_of (Instr-F.Store o arg) = Memories
group_of (Instr-F.MemorySize n) = Memories
group_of (Instr-F.MemoryGrow n) = Memories
group_of (Instr-F.MemoryFill n) = Memories
group_of (Instr-F.MemoryCopy n m) = Memories
group_of (Instr-F.MemoryInit s n) = Memories
group_of (Instr-F.DataDrop n) = Memories
group_of Instr-F.Drop = Values
group_of Instr-F.Select = Values
group_of (Instr-F.SelectTyped types) = Values
group_of (Instr-F.LocalGet local) = Values
group_of (Instr-F.LocalSet local) = Values
group_of (Instr-F.LocalTee local) = Values
group_of (Instr-F.GlobalGet global) = Values
group_of (Instr-F.GlobalSet global) = Values
group_of (Instr-F.I32Const value) = Values
group_of (Instr-F.I64Const value) = Values
group_of (Instr-F.Un op) = Values
group_of (Instr-F.Bin op) = Values
group_of (Instr-F.RefNull ty) = Values
group_of Instr-F.RefIsNull = Values
group_of (Instr-F.RefFunc func) = Values

-- The law of steps for a group: over stores that are related except at unknown places, and from
-- related bodies, an instruction of the group that reads no unknown place and a related instruction
-- give related acts, or both trap, or both are ill typed.
abbrev pub GroupAgrees : Group → Type 1
GroupAgrees g =
    (R : Pairing) (u : Unknowns) (ev ew : Env) → StoreRelOff R u ev.store ew.store → (h k : Body) → BodyRel R ev.inst ew.inst h k → (o p : Instr-F Instr) → OpRel R ev.inst ew.inst true o p →
    ReadsKnown u (read_by o ev h.values) → group_of o ≡ g → ResRel (ActOff R u ev.inst ew.inst) (exec o ev h) (exec p ew k)
