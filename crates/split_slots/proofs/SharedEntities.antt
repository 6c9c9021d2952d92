-- The exports, the imports and the remap that are made from marks are those of the definitions of a
-- split, where the marks are of the entities that the moved functions name.
use Rattle.base_lists.proofs.Common.{◌≡◌, ℕ, ◌<◌, Bool, ◌&&◌, not, List, [], ◌∷◌, ◌++◌, map, length, nat_eq, Option, is_some, ap, ◌∙◌, list_any, fun_ext}
use Rattle.base_lists.specs.Members.{is_among}
use Rattle.base_lists.specs.Every.{Every}
use Rattle.base_lists.specs.Places.{numbers, places}
use Rattle.base_kept.specs.Kept.{new_places}
use Rattle.wasm_tree_spec.specs.Prelude.{any_operand_passes, same_space, Space, Functions, Tables, Memories, Globals, Module, funcs_of}
use Rattle.wasm_tree.specs.declared.module.ExportDesc.TheVariants as ex
use Rattle.wasm_tree.specs.declared.module.ImportDesc.TheVariants as im
use Rattle.index_remap.specs.declared.remap.Remap.{Remap}
use Rattle.split_spec.specs.declared.names.SplitNames.{SplitNames}
use Rattle.split_spec.specs.Prelude.{defined_at, place_among, slot_table, slot_table_type, entities, exports_for_secondary, imports_from_primary, marks_from_primary, slots_name}
use Rattle.split_spec.specs.Primary as primary
use Rattle.split_spec.specs.Secondary as secondary
use Rattle.split_slots.specs.declared.named_entities.Marks.{Marks}
use Rattle.split_slots.specs.SlotLookup.{slot_at}
use Rattle.split_slots.specs.OperandMarks.{marks_by, marks_in}
use Rattle.split_slots.specs.ExportList.{exports_by}
use Rattle.split_slots.specs.ImportList.{imports_by}
use Rattle.split_slots.specs.RemapsFromMarks.{secondary_funcs_by, secondary_map_by, secondary_tables_by}
use Rattle.split_slots.proofs.SlotTables.{has_place, table_tells}

-- The list that has the slot of each function, if it moves.
abbrev pub slots_for : Module → (moved : List ℕ) → List (Option ℕ)
slots_for m moved = map (place_among moved) (numbers 0 (length (funcs_of m)))

-- The marks are of the entities that the moved functions name.
abbrev pub AreMarks : Module → (moved : List ℕ) → Marks → Type 0
AreMarks m moved marks = (space : Space) → marks_in marks space ≡ marks_from_primary m moved moved space

module _ (m : Module) (moved : List ℕ) (there : Every (λ f. f < length (funcs_of m)) moved) where
  has_slot : (f : ℕ) → is_some (slot_at (slots_for m moved) f) ≡ is_among moved f
  has_slot f = ap is_some (table_tells moved (length (funcs_of m)) there f) ∙ has_place moved f 0

  pub marks_are : (slots : List (Option ℕ)) → slots ≡ slots_for m moved → (own : List ℕ) (space : Space) → marks_by slots m own space ≡ marks_from_primary m moved own space
  marks_are slots is own space =
      ap (λ ss. marks_by ss m own space) is
      ∙ ap (λ has. map (λ i. list_any (λ f. any_operand_passes (λ o. same_space o.space space && (nat_eq o.index i && not (o.called && has i))) f.body) (defined_at m own)) (numbers 0 (length (entities m space)))) (fun_ext has_slot)

-- ---- lists that are made by marks ----

four : {X : Type 0} (make : List Bool → List Bool → List Bool → List Bool → X) (m : Module) (moved : List ℕ) (marks : Marks) → AreMarks m moved marks →
    make marks.funcs.items marks.tables.items marks.mems.items marks.globals.items
    ≡ make (marks_from_primary m moved moved Functions) (marks_from_primary m moved moved Tables) (marks_from_primary m moved moved Memories) (marks_from_primary m moved moved Globals)
four make m moved marks are =
    ap (λ a. make a marks.tables.items marks.mems.items marks.globals.items) (are Functions)
    ∙ ap (λ b. make (marks_from_primary m moved moved Functions) b marks.mems.items marks.globals.items) (are Tables)
    ∙ ap (λ c. make (marks_from_primary m moved moved Functions) (marks_from_primary m moved moved Tables) c marks.globals.items) (are Memories)
    ∙ ap (λ d. make (marks_from_primary m moved moved Functions) (marks_from_primary m moved moved Tables) (marks_from_primary m moved moved Memories) d) (are Globals)

pub exports_are : (prefix : List ℕ) (m : Module) (moved : List ℕ) (marks : Marks) → AreMarks m moved marks → exports_by prefix marks (slot_table m) ≡ primary.added_exports prefix m moved
exports_are prefix m moved marks are =
    four (λ a b c d.
    exports_for_secondary prefix Functions ex.Func (places (λ named. named) a 0)
    ++ (exports_for_secondary prefix Tables ex.Table (places (λ named. named) b 0)
    ++ (exports_for_secondary prefix Memories ex.Memory (places (λ named. named) c 0)
    ++ (exports_for_secondary prefix Globals ex.Global (places (λ named. named) d 0)
    ++ record { name = slots_name prefix; desc = ex.Table (slot_table m) } ∷ [])))) m moved marks are

pub imports_are : (names : SplitNames) (m : Module) (moved : List ℕ) (marks : Marks) → AreMarks m moved marks → imports_by names m marks (length moved) ≡ secondary.secondary_imports names m moved moved
imports_are names m moved marks are =
    four (λ a b c d.
    imports_from_primary names.import_namespace names.export_prefix m Functions (places (λ named. named) a 0)
    ++ (imports_from_primary names.import_namespace names.export_prefix m Tables (places (λ named. named) b 0)
    ++ (record { «module» = names.import_namespace; field = slots_name names.export_prefix; desc = im.Table (slot_table_type (length moved)) }
    ∷ (imports_from_primary names.import_namespace names.export_prefix m Memories (places (λ named. named) c 0)
    ++ imports_from_primary names.import_namespace names.export_prefix m Globals (places (λ named. named) d 0))))) m moved marks are

pub secondary_map_is : (m : Module) (moved : List ℕ) (marks : Marks) → AreMarks m moved marks → secondary_map_by m.types marks (length moved) ≡ secondary.secondary_map m moved moved
secondary_map_is m moved marks are =
    four map_of m moved marks are
  where
    map_of : List Bool → List Bool → List Bool → List Bool → Remap
    map_of a b c d = record {
      types = numbers 0 (length m.types);
      funcs = secondary_funcs_by a (length moved);
      tables = secondary_tables_by b;
      mems = new_places c;
      globals = new_places d;
      elems = [];
      datas = [];
    }
