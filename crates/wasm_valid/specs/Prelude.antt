-- The names of validity, passed on from one place. This file declares nothing.
pub use Rattle.wasm_valid.specs.Constants.{const_type}
pub use Rattle.wasm_valid.specs.First.{IsFirstInvalid, ValidOrFirstInvalid, index_of}
pub use Rattle.wasm_valid.specs.Named.{const_func, elem_refs, export_func, export_refs, global_refs, named_of, refs_of}
pub use Rattle.wasm_valid.specs.SpaceTypes.{elem_types, table_types}
pub use Rattle.wasm_valid.specs.Validity.{DataModeHolds, EachHolds, ElemModeHolds, HoldsAt, ImportHolds, InSpace, IsSingle, IsValid, Item, ItemsHold, LimitsHold, ValidWhereItemsHold, body_context}
pub use Rattle.wasm_valid.specs.Validity.{count_of, item, items, order, span, start_count}
