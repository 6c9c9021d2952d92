-- The bytes of data segments, and the instruction data.drop.
use Rattle.base_lists.proofs.Common.{◌≡◌, ℕ, arith, List, [], ◌∷◌, ◌++◌, length, subst, slice_get, slice_set, Bool, true, false, Option, Some, None, refl, sym, ap, ◌∙◌, nat_lt, le-ltb, slice_get_past, slice_get_within, length-numbers, length-set, none_past}
use Rattle.wasm_tree_spec.specs.Prelude.{DataSegments, ImportDesc, Module, Instr, same_space, space_of_import}
use Rattle.wasm_tree.specs.declared.module.ImportDesc.TheVariants as im
use Rattle.wasm_tree.specs.declared.instr.Instr.TheVariants as i
use Rattle.wasm_tree.specs.declared.instr.Instr.TheOpen.{Instr-F}
use Rattle.wasm_meaning.specs.Prelude.{Gives, Val, Entry, Running, Goes, DropData}
use Rattle.eval_spec.specs.declared.stop.Stop.TheVariants as why
use Rattle.eval_spec.specs.Prelude.{Going, own_inst}
use Rattle.eval_machine.specs.declared.undo.UndoLog.{UndoLog}
use Rattle.eval_machine.specs.declared.kept.Kept.{Kept}
use Rattle.eval_machine.specs.declared.registers.Registers.{Registers}
use Rattle.eval_machine.specs.Prelude.{LevelPlace, body_at, frame_at, MachineFits, state_in, store_in, Stays, BeginsWith, done_by}
use Rattle.eval_machine.proofs.IndexSpaces.{address_of}
use Rattle.eval_machine.proofs.InstructionSteps.{IsStill, by_layer, ends_trap, still}
use Rattle.eval_machine.proofs.Openings.{none_of}
use Rattle.eval_machine.specs.Undo.{UndoStays}
use Rattle.eval_machine.proofs.UndoNotes.{segment_dropped, set_same}
use Rattle.eval_machine.proofs.DataInOrder.{data_dropped}
use Rattle.eval_machine.proofs.PreservedParts.{memory_stays}

pub data_kind : (d : ImportDesc) → same_space DataSegments (space_of_import d) ≡ false
data_kind (im.Func t) = refl
data_kind (im.Table t) = refl
data_kind (im.Memory t) = refl
data_kind (im.Global t) = refl

pub none_before : (n : ℕ) → nat_lt n 0 ≡ false
none_before n = le-ltb n 0 (omega arith)

module _ (m : Module) (k : Kept) (f : MachineFits m k) (n : ℕ) (vs : List Val) where
  drop_still : (ls : List Val) (rest : List Instr) (p : LevelPlace) (es : List Entry) (o : Option ℕ) → slice_get (own_inst m).datas n ≡ o → IsStill m (record { kept = k; operands = vs; locals = ls }) (i.DataDrop n) (Instr-F.DataDrop n) rest p es
  drop_still ls rest p es None a = record { grow = refl; table = refl; unknown = rw (none_of DataSegments data_kind m.imports 0, none_before n); import = refl; further = rw a; opens = refl; few = rw a; written = rw a }
  drop_still ls rest p es (Some x) a = record { grow = refl; table = refl; unknown = rw (none_of DataSegments data_kind m.imports 0, none_before n); import = refl; further = rw a; opens = refl; few = rw a; written = rw a }

  pub drop_missing : slice_get k.dropped n ≡ None → BeginsWith m (i.DataDrop n) k vs (Some why.Trap) k vs
  drop_missing e = λ ls rest p es.
      let none : slice_get (own_inst m).datas n ≡ None = slice_get_past (own_inst m).datas n (omega (arith, none_past k.dropped n (sym e), f.dropped, length-numbers 0 (length m.datas))) in
      ends_trap m (record { kept = k; operands = vs; locals = ls }) (i.DataDrop n) (Instr-F.DataDrop n) rest p es (i.outs-DataDrop n) (drop_still ls rest p es None none) (rw none)

  pub drop_goes : (b : Bool) → slice_get k.dropped n ≡ Some b → BeginsWith m (i.DataDrop n) k vs None (record k { dropped = slice_set k.dropped n true }) vs
  drop_goes b e = λ ls rest p es.
      let now : Registers = record { kept = k; operands = vs; locals = ls } in
      let at : slice_get (own_inst m).datas n ≡ Some n = address_of (length m.datas) n (omega (arith, slice_get_within k.dropped n b e, f.dropped)) in
      let done : done_by m now (Instr-F.DataDrop n) rest p ≡ Gives (Goes (DropData n) (body_at now rest p)) = rw at in
      by_layer m now (i.DataDrop n) (Instr-F.DataDrop n) rest p es _ (i.outs-DataDrop n) (still m now (i.DataDrop n) (Instr-F.DataDrop n) rest p es (drop_still ls rest p es (Some n) at) (done_by m now (Instr-F.DataDrop n) rest p)
      ∙ rw done (ap (λ a. Going (record (state_in m k) { store = record (store_in m k) { datas = a } }) (Running (frame_at m now rest p) ∷ es)) (data_dropped m.datas k.dropped n)))

  -- A segment that was dropped before may be dropped again.
  pub drop_again : slice_get k.dropped n ≡ Some true → BeginsWith m (i.DataDrop n) k vs None k vs
  drop_again e = subst (λ ds. BeginsWith m (i.DataDrop n) k vs None (record k { dropped = ds }) vs) (set_same k.dropped n true e) (drop_goes true e)

  -- The undo log does not change what `data.drop` does.
  pub drop_noted : (undo : UndoLog) → slice_get k.dropped n ≡ Some false → BeginsWith m (i.DataDrop n) k vs None (record k { dropped = slice_set k.dropped n true; undo = undo }) vs
  drop_noted undo e = drop_goes false e

-- ---- what a dropped segment leaves unchanged ----

pub dropping_stays : (k : Kept) (undo : UndoLog) (n : ℕ) → slice_get k.dropped n ≡ Some false → undo ≡ record k.undo { dropped = k.undo.dropped ++ n ∷ [] } → Stays k (record k { dropped = slice_set k.dropped n true; undo = undo })
dropping_stays k undo n at is = record {
  slots = refl;
  imports = refl;
  dropped = length-set k.dropped n true;
  types = refl;
  imported = refl;
  memory = memory_stays k.memory;
  turns = omega arith;
  undo = subst (λ c. UndoStays k.undo k.globals k.dropped c k.globals (slice_set k.dropped n true)) (sym is) (record { flags = λ h. h; globals = λ i. refl; segments = segment_dropped k.undo.dropped k.dropped n at });
}
