-- The remaps of both modules, from marks.
use Rattle.std.specs.Prelude.{ℕ, suc, ◌+◌, Bool, List, [], ◌∷◌, ◌++◌, drop, length, map}
use Rattle.base_lists.specs.Places.{numbers, places}
use Rattle.base_kept.specs.Kept.{new_places}
use Rattle.wasm_tree_spec.specs.Prelude.{FuncType, Module, imported_funcs, tables_of, memories_of, globals_of}
use Rattle.index_remap.specs.declared.remap.Remap.{Remap}
use Rattle.split_slots.specs.declared.named_entities.Marks.{Marks}

-- ---- in the primary module ----

-- the `count` placeholders come between the imported functions and the defined functions that are
-- left
abbrev pub primary_funcs_by : (imported : ℕ) → (left : List Bool) → (count : ℕ) → List ℕ
primary_funcs_by imported left count = numbers 0 imported ++ (map (λ place. count + place) (drop imported (new_places left)) ++ numbers imported count)

-- everything else keeps its index
abbrev pub primary_map_by : Module → (left : List Bool) → (count : ℕ) → Remap
primary_map_by m left count = record {
  types = numbers 0 (length m.types);
  funcs = primary_funcs_by (length (imported_funcs m.imports)) left count;
  tables = numbers 0 (suc (length (tables_of m)));
  mems = numbers 0 (length (memories_of m));
  globals = numbers 0 (length (globals_of m));
  elems = numbers 0 (length m.elems);
  datas = numbers 0 (length m.datas);
}

-- ---- in the secondary module ----

-- a marked function goes to its place among the marked ones, and `own` functions more come after
-- all of these
abbrev pub secondary_funcs_by : (marks : List Bool) → (own : ℕ) → List ℕ
secondary_funcs_by marks own = new_places marks ++ numbers (length (places (λ named. named) marks 0)) own

-- the slot table comes after the marked tables
abbrev pub secondary_tables_by : (marks : List Bool) → List ℕ
secondary_tables_by marks = new_places marks ++ length (places (λ named. named) marks 0) ∷ []

abbrev pub secondary_map_by : List FuncType → Marks → (own : ℕ) → Remap
secondary_map_by types marks own = record {
  types = numbers 0 (length types);
  funcs = secondary_funcs_by marks.funcs.items own;
  tables = secondary_tables_by marks.tables.items;
  mems = new_places marks.mems.items;
  globals = new_places marks.globals.items;
  elems = [];
  datas = [];
}
