-- What a staying import asks for, with the limits that it keeps.
use Rattle.std.specs.Prelude.{Option, slice_index, unwrap_or}
use Rattle.wasm_tree_spec.specs.Prelude.{Limits, ImportDesc}
use Rattle.wasm_tree.specs.declared.module.ImportDesc.TheVariants as im
use Rattle.index_remap.specs.declared.remap.Remap.{Remap}

-- a function has the new index of its type, and a table or memory has the limits `kept`, if there
-- are any
abbrev pub kept_desc : Remap → Option Limits → ImportDesc → ImportDesc
kept_desc m kept (im.Func ty) = im.Func (slice_index m.types ty)
kept_desc m kept (im.Table t) = im.Table (record t { limits = unwrap_or kept t.limits })
kept_desc m kept (im.Memory l) = im.Memory (unwrap_or kept l)
kept_desc m kept (im.Global t) = im.Global t
