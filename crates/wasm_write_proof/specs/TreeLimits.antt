-- What is limited in a file is within its limits in the tree: the counts of the module, the
-- parameters and results of types, and the locals and nesting of functions.
use Rattle.std.specs.Prelude.{◌≤◌, length}
use Rattle.wasm_tree_spec.specs.Prelude.{Module, Imports, Exports, limit}
use Rattle.wasm_tree.specs.declared.which.Which.TheVariants.{Types, Functions, Tables, Memories, Globals, ElementSegments, DataSegments}
use Rattle.wasm_read_spec.specs.Prelude.{Few, SmallFuncType, HasSmallCode}

-- The counts, the nesting and the locals of the module are within the limits.
pub record WithinLimits (m : Module) : Type 0 where
  pub types : Few (limit Types) SmallFuncType m.types
  pub imports : length m.imports ≤ limit Imports
  pub funcs : Few (limit Functions) HasSmallCode m.funcs
  pub tables : length m.tables ≤ limit Tables
  pub mems : length m.mems ≤ limit Memories
  pub globals : length m.globals ≤ limit Globals
  pub exports : length m.exports ≤ limit Exports
  pub elems : length m.elems ≤ limit ElementSegments
  pub datas : length m.datas ≤ limit DataSegments
