-- When two contexts agree along a map of indices: at each index of a set and at its entry
-- (WebAssembly Core 2.0, section 3.1.1).
use Rattle.std.specs.Prelude.{ℕ, ◌≤◌, Bool, IsTrue, length}
use Rattle.wasm_tree_spec.specs.Prelude.{Space}
use Rattle.wasm_valid_bodies.specs.Typing.{Context}
use Rattle.index_remap.specs.declared.remap.Remap.{Remap}
use Rattle.index_remap.specs.Prelude.{OperandAgrees, SameFrame}
use Rattle.index_remap_proof.specs.Indices.{Indices}

-- Each index that is kept agrees with its entry, and locals, results and labels are the same.
-- Nothing is said about other indices.
pub record AgreesAlong (m : Remap) (kept : Indices) (c d : Context) : Type 0 where
  pub entries : (space : Space) (called : Bool) (i : ℕ) → IsTrue (kept space i) → OperandAgrees m c d space called i
  pub frame : SameFrame c d

-- The lists of the map are at least as long as the spaces of the context.
pub record CoversContext (m : Remap) (c : Context) : Type 0 where
  pub types : length c.types ≤ length m.types
  pub funcs : length c.funcs ≤ length m.funcs
  pub tables : length c.tables ≤ length m.tables
  pub memories : c.memories ≤ length m.mems
  pub globals : length c.globals ≤ length m.globals
  pub elems : length c.elems ≤ length m.elems
  pub datas : c.datas ≤ length m.datas
  -- So each function that `ref.func` may name has an entry.
  pub refs : length c.named ≤ length m.funcs
