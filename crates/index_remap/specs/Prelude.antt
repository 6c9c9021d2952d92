-- Re-exports definitions of this crate.
pub use Rattle.index_remap.specs.Agreement.{Keeps, LayerAgrees, OperandAgrees, SameFrame, func_type, labelled}
pub use Rattle.index_remap.specs.CodeNames.{EntryNames, LayerNames}
pub use Rattle.index_remap.specs.Laws.{RenumberedCodeIsRelated}
pub use Rattle.index_remap.specs.References.{body_refs, declared, declared_refs, declaring, marked_only, offset_refs, outside_refs, referred, refs, refs_all, refs_step, with_declared}
pub use Rattle.index_remap.specs.Renumbered.{entries, entry, fits_all, fits_const, fits_data, fits_elem, fits_elem_mode, fits_export, fits_export_desc, fits_func, fits_global, fits_import}
pub use Rattle.index_remap.specs.Renumbered.{fits_import_desc, fits_start, fits_tree, has, has_entry, new_const, new_data, new_data_mode, new_elem, new_elem_mode, new_export, new_export_desc}
pub use Rattle.index_remap.specs.Renumbered.{new_func, new_global, new_import, new_import_desc, new_start, new_type, renumbered, renumbered_all, renumbered_tree}
pub use Rattle.index_remap.specs.Replaced.{CallReplaced, Codes, CodesHaveTypes, DenotesOne, Labels, OtherNamed, OthersAgree, OthersNamed, Replaced, ReplacementCodesFit, RowReplaced, is_opaque_call}
