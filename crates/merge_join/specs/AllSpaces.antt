-- The four merged index spaces of parts.
use Rattle.std.specs.Prelude.{◌≡◌, List}
use Rattle.merge_spec.specs.declared.parts.Part.{Part}
use Rattle.wasm_tree_spec.specs.Prelude.{Functions, Tables, Memories, Globals}
use Rattle.merge_join.specs.declared.all_spaces.Spaces.{Spaces}

-- `spaces` are the merged index spaces of the parts
pub record AreSpaces (parts : List Part) (spaces : Spaces) : Type 0 where
  pub funcs_parts : spaces.funcs.parts.now ≡ parts
  pub funcs_space : spaces.funcs.space ≡ Functions
  pub tables_parts : spaces.tables.parts.now ≡ parts
  pub tables_space : spaces.tables.space ≡ Tables
  pub mems_parts : spaces.mems.parts.now ≡ parts
  pub mems_space : spaces.mems.space ≡ Memories
  pub globals_parts : spaces.globals.parts.now ≡ parts
  pub globals_space : spaces.globals.space ≡ Globals
