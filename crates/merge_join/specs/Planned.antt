-- The merged module in two halves: the frame, which is made of all parts together, and what the
-- parts define, which is moved.
use Rattle.std.specs.Prelude.{◌≡◌, List, map, Option}
use Rattle.std.specs.List.{flat_map, filter_map}
use Rattle.wasm_tree_spec.specs.Prelude.{Module}
use Rattle.wasm_meaning.specs.Prelude.{Text, Part}
use Rattle.merge_spec.specs.Prelude.{by_part, map_of, merged_types, merged_import, staying, named_exports, all_exports, start_among, starts, start_calls, defined_funcs, merged_global, merged_elem}
use Rattle.merge_spec.specs.Prelude.{merged_data}
use Rattle.merge_join.specs.declared.tree.Plan.{Plan}
use Rattle.merge_join.specs.Moved.{AreAllValues}
use Rattle.merge_join.specs.LinkedParts.{AreMaps, funcs_before_calls}

-- the module has the types, the imports, the exports and the start of the merged module, and no
-- function but the one that calls several starts, if there is one
pub record IsMergedFrame (ps : List Part) (names : List (Option Text)) (m : Module) : Type 0 where
  pub types_are : m.types ≡ merged_types ps
  pub imports_are : m.imports ≡ filter_map (merged_import ps) (staying ps)
  pub exports_are : m.exports ≡ named_exports (all_exports ps) names
  pub start_is : m.start ≡ start_among (funcs_before_calls ps) (starts ps)
  pub calls_are : m.funcs ≡ start_calls ps (starts ps)

-- the module has what the parts define, as the merged module has it
pub record IsMoved (ps : List Part) (m : Module) : Type 0 where
  pub funcs_are : m.funcs ≡ defined_funcs ps
  pub tables_are : m.tables ≡ flat_map (λ p. p.«module».tables) ps
  pub mems_are : m.mems ≡ flat_map (λ p. p.«module».mems) ps
  pub globals_are : m.globals ≡ by_part (λ p m. map (merged_global ps p) m.globals) ps
  pub elems_are : m.elems ≡ by_part (λ p m. map (merged_elem ps p (map_of ps p m)) m.elems) ps
  pub datas_are : m.datas ≡ by_part (λ p m. map (merged_data ps p (map_of ps p m)) m.datas) ps

-- `plan` has the frame, the maps and the values from which the merged module is made
pub record IsMergePlan (ps : List Part) (names : List (Option Text)) (plan : Plan) : Type 0 where
  pub frame : IsMergedFrame ps names plan.frame
  pub maps : AreMaps ps plan.maps
  pub values : AreAllValues ps plan.values
