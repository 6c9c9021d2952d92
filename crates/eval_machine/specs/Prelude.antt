-- This module re-exports names of the machine and declares nothing.
pub use Rattle.eval_machine.specs.InstantiationParts.{CopiesItems, FillsTables, IsFilled, IsInitialMachine, PoursDatas, StartsAs, elems_end, is_within, item_slot, refs_in}
pub use Rattle.eval_machine.specs.Calls.{CallEnds, SameButForTurns, IsReady, StopsCall}
pub use Rattle.eval_machine.specs.Flows.{LevelPlace, body_at, called, depth, frame_at, running}
pub use Rattle.eval_machine.specs.DenotedValues.{are_typed, ended, global_of, is_of_import, is_unset, val_of}
pub use Rattle.eval_machine.specs.Instructions.{BeginsWith, ComesToAct, begun, begun_by, done_by, env_in}
pub use Rattle.eval_machine.specs.Kept.{MachineFits, IsUnmarked, MemoryFits, Rests, base_of, datas_in, memory_in, state_in, store_in, written_in}
pub use Rattle.eval_machine.specs.Slots.{IsSlot, defined_table, filled_at, is_unknown_in, ref_in, slot_count}
pub use Rattle.eval_machine.specs.UnchangedParts.{MemoryStays, Stays}
pub use Rattle.eval_machine.specs.Written.{HoldsMost, Wrote, told_of, write_tests}
