-- Re-exports definitions of this crate.
pub use Rattle.run_simulation.specs.Groups.{Control, GroupAgrees, Memories, Values}
pub use Rattle.run_simulation.specs.Laws.{Above, CodeIsRelatedToItself, EntriesKnown, EntryByEntry, NamesItself, OthersStay, RelatedTicksAgree, Touches, passed, passed_with}
pub use Rattle.run_simulation.specs.OpaqueRuns.{MoveSkips, NextMoveSkips, RunsStepTogether, TickSkips, calls_placeholder}
pub use Rattle.run_simulation.specs.Related.{ActRel, ArgRel, BlockRel, BodyRel, BothRel, ChangeRel, CodeRel, ElemRel, EntryRel, FrameRel, FuncRel, GlobalRel, GrowthRel, LevelRel, ListRel}
pub use Rattle.run_simulation.specs.Related.{AreIndicesRelated, NextKnown, NextRel, NotOpaque, OneToOne, OneToOneWhereWritten, OpRel, OptRel, Pairing, RefRel, ResRel, StoreRel, TableRel, TopKnown}
pub use Rattle.run_simulation.specs.Related.{TopSkips, ValRel, asked, asked_grow, asks_grow, both, calls, cons, defined, done}
pub use Rattle.run_simulation.specs.Related.{drop_data, drop_elem, empty, end, ended, ends, extern, func, goes, growing}
pub use Rattle.run_simulation.specs.Related.{indexed, instead, is_written, keep, loads, mark, memory_grows, nil, none, number, opening, own, ran, reference, returned, running, set_global, set_memory}
pub use Rattle.run_simulation.specs.Related.{set_table, slot, some, table_grows, then, trap, value, waiting, wrong}
pub use Rattle.run_simulation.specs.RelatedRuns.{BegunRel, ExternalValueRel, HasNoPartner, IsBegun, KeepsOthers, KeyRel, OutRel, PhaseRel, RunRel, a_func, a_global, a_memory, a_table, closed, fresh}
pub use Rattle.run_simulation.specs.RelatedRuns.{opened, pending, turned}
pub use Rattle.run_simulation.specs.Trampolines.{AnsweredInTwo, CodeAt, FramesBetween, HaveTypes, InSlot, WithPassing, at_code, gets, go_on, passing, slot_call, through, trampoline}
pub use Rattle.run_simulation.specs.UnknownPlaces.{ActOff, GlobalOff, IsKnown, KnownSteps, NextOff, ReadPlace, ReadsGlobal, ReadsItems, ReadsKnown, ReadsNothing, ReadsSlots, RefsOff, RunsAgreeOff}
pub use Rattle.run_simulation.specs.UnknownPlaces.{StepReadsKnown, StepsAgreeOff, StoreRelOff, TableOff, Unknowns, here}
pub use Rattle.run_simulation.specs.UnknownPlaces.{is_place_among, known, known_step, left_after, left_by, left_unknown, none_left}
pub use Rattle.run_simulation.specs.UnknownPlaces.{none_unknown, read_by, step_on}
