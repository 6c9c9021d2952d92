-- Tables, memories and data segments as they are allocated (WebAssembly Core 2.0, sections 4.5.3.3,
-- 4.5.3.4 and 4.5.3.7).
use Rattle.std.specs.Prelude.{◌*◌, false}
use Rattle.wasm_tree_spec.specs.Prelude.{TableType, Limits, DataSeg}
use Rattle.wasm_meaning.specs.Prelude.{copies, Table, Memory, Data, null_of}

abbrev pub new_table : TableType → Table
new_table t = record { ty = t.ty; most = t.limits.max; slots = copies t.limits.min (null_of t.ty) }

abbrev pub new_memory : Limits → Memory
new_memory l = record { most = l.max; pages = l.min; bytes = copies (65536 * l.min) 0 }

abbrev pub new_data : DataSeg → Data
new_data d = record { bytes = d.bytes; dropped = false }
