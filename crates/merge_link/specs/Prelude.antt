-- Names of linking, passed on from one place. Declares nothing.
pub use Rattle.merge_link.specs.Cutting.{cut_by, import_counts}
pub use Rattle.merge_link.specs.Gathering.{first_memory, linked_at}
pub use Rattle.merge_link.specs.Globals.{IsOwn, own_read, own_reads, the_own, the_read, value_at}
pub use Rattle.merge_link.specs.Limits.{met_of}
pub use Rattle.merge_link.specs.PartTables.{AreKnown, AreSteps, IsStep, end_at, the_end, the_entity}
pub use Rattle.merge_link.specs.Reads.{AreGlobalReads}
pub use Rattle.merge_link.specs.Sites.{AreSites, the_site}
pub use Rattle.merge_link.specs.Tables.{AreTables, IsTableOf, imports_before, places_of}
