-- When marks are closed: what is kept names only what is kept.
use Rattle.std.specs.Prelude.{◌≡◌, ℕ, length, Some, slice_get}
use Rattle.wasm_tree_spec.specs.Prelude.{Space, Module, funcs_of, globals_of}
use Rattle.wasm_meaning.specs.Prelude.{imports_of}
use Rattle.index_remap_proof.specs.Indices.{TreeNamesOnly}
use Rattle.base_kept.specs.Kept.{is_marked}
use Rattle.dce_spec.specs.Marks.{Marks, stays}
use Rattle.dce_spec.specs.Swept.{kept_tree}

-- the marks are closed for the module
pub record AreClosed (k : Marks) (m : Module) : Type 0 where
  -- there is one mark for each export, import, function and global
  pub exports_many : length k.exports ≡ length m.exports
  pub imports_many : length k.imports ≡ length m.imports
  pub funcs_many : length k.funcs ≡ length (funcs_of m)
  pub globals_many : length k.globals ≡ length (globals_of m)
  -- an import is kept if and only if its entry in its index space is
  pub imported : (space : Space) (i n : ℕ) → slice_get (imports_of space m) i ≡ Some n → is_marked k.imports n ≡ stays k space i
  -- the start, the segments, and each kept export, function and global name only what is kept
  pub names : TreeNamesOnly (stays k) (kept_tree k m)
