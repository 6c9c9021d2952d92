-- The exports of the primary module under the names of the imports of a secondary module.
use Rattle.base_lists.proofs.Common.{◌≡◌, ◌∙◌, ap, sym, subst, refl, ℕ, zero, suc, ◌+◌, ◌-◌, ◌<◌, List, [], ◌∷◌, ◌++◌, map, take, length, Option, Some, Bool, true, false, cond, slice_get, slice_index, arith, list_any, filter_map-append, list_any-append, slice_get_within, same_Some, place_there}
use Rattle.base_lists.proofs.Common.{numbers_at, map_at, Has, has_left, has_right, left_either, right_either, there_contains}
use Rattle.base_lists.proofs.Same.{text_is, text_self}
use Rattle.base_lists.specs.Places.{numbers}
use Rattle.wasm_tree_spec.specs.Prelude.{Space, Functions, Tables, Memories, Globals, Export, Func, ExportDesc, Module, any_operand_passes, imported_funcs}
use Rattle.wasm_tree.specs.declared.module.ExportDesc.TheVariants as ex
use Rattle.wasm_valid.specs.declared.kinds.ItemKind.TheVariants as kind
use Rattle.wasm_meaning.specs.Prelude.{same_text, export_named}
use Rattle.index_remap.specs.Prelude.{declared_refs, new_export, new_export_desc, renumbered_tree}
use Rattle.world_simulation.specs.Prelude.{IsWithDeclared}
use Rattle.split_spec.specs.Prelude.{defined_at, slot_table, entities, exports_for_secondary, from_primary, is_from_primary, is_named_from_primary, marks_from_primary, name_from_primary, slots_name, added_exports, primary_map, primary_tree, HasSlots}
use Rattle.split_spec.specs.Primary.{primary_with}
use Rattle.wasm_valid.specs.Prelude.{ItemsHold}
use Rattle.split_proof.proofs.DescribedSpaces.{declared_keeps}

-- ---- exports by name ----

-- The first export of a name is found by the name.
named_first : (es : List Export) (j : ℕ) (e : Export) → slice_get es j ≡ Some e → ((i : ℕ) (x : Export) → i < j → slice_get es i ≡ Some x → x.name ≡ e.name → ⊥) → export_named es e.name ≡ Some e.desc
named_first [] j e at first = absurd (let k = at in cc)
named_first (x ∷ es) zero e at first =
    let same : x ≡ e = same_Some _ _ at in
    subst (λ (z : Export). cond (same_text z.name e.name) (Some z.desc) (export_named es e.name) ≡ Some e.desc) (sym same) (ap (λ b. cond b (Some e.desc) (export_named es e.name)) (text_self e.name))
named_first (x ∷ es) (suc j) e at first = by (named_first es j e at (λ i z lt. first (suc i) z (omega (arith, lt)))) (same_text x.name e.name) refl
  where
    by : export_named es e.name ≡ Some e.desc → (b : Bool) → same_text x.name e.name ≡ b → cond b (Some x.desc) (export_named es e.name) ≡ Some e.desc
    by rest true h = absurd (first 0 x (omega arith) refl (text_is x.name e.name h))
    by rest false h = rest

taken_at : {A : Type 0} (xs : List A) (j i : ℕ) (x : A) → i < j → slice_get xs i ≡ Some x → slice_get (take j xs) i ≡ Some x
taken_at xs zero i x lt at = absurd (omega (arith, lt))
taken_at [] (suc j) i x lt at = absurd (let k = at in cc)
taken_at (y ∷ xs) (suc j) zero x lt at = at
taken_at (y ∷ xs) (suc j) (suc i) x lt at = taken_at xs j i x (omega (arith, lt)) at

pub export_at : (m : Module) → ItemsHold m → (j : ℕ) (e : Export) → slice_get m.exports j ≡ Some e → export_named m.exports e.name ≡ Some e.desc
export_at m holds j e at =
    let h = holds kind.Export j (slice_get_within m.exports j e at) in
    let same : h.0 ≡ e = same_Some _ _ (sym h.1 ∙ at) in
    named_first m.exports j e at (λ i x lt there named. h.3 (there_contains (map (λ x. x.name) (take j m.exports)) i h.0.name (map_at (λ x. x.name) (take j m.exports) i x (taken_at m.exports j i x lt there) ∙ ap Some (named ∙ ap (λ (z : Export). z.name) (sym same)))))

-- ---- what secondary modules import ----

module _ (m : Module) (moved own : List ℕ) where
  -- The entities that the functions of one secondary module name are among those that all moved
  -- functions name.
  pub among_all : (before : ℕ) → HasSlots moved own before → (space : Space) (x : ℕ) → is_from_primary moved (defined_at m own) space x ≡ true → is_from_primary moved (defined_at m moved) space x ≡ true
  among_all before slots space x h =
      let test : Func → Bool = λ f. any_operand_passes (is_named_from_primary moved space x) f.body in
      let get : ℕ → Option Func = λ func. slice_get m.funcs (func - length (imported_funcs m.imports)) in
      let all : defined_at m moved ≡ defined_at m slots.earlier ++ (defined_at m own ++ defined_at m slots.later) =
      ap (defined_at m) slots.all ∙ filter_map-append get slots.earlier (own ++ slots.later) ∙ ap (λ fs. defined_at m slots.earlier ++ fs) (filter_map-append get own slots.later) in
      ap (list_any test) all ∙ list_any-append test (defined_at m slots.earlier) (defined_at m own ++ defined_at m slots.later)
      ∙ right_either (list_any test (defined_at m slots.earlier)) (list_any test (defined_at m own ++ defined_at m slots.later))
      (list_any-append test (defined_at m own) (defined_at m slots.later) ∙ left_either (list_any test (defined_at m own)) (list_any test (defined_at m slots.later)) h)

  -- An entity that a secondary module shares is marked.
  pub marked_at : (space : Space) (x : ℕ) → x < length (entities m space) → is_from_primary moved (defined_at m own) space x ≡ true → slice_get (marks_from_primary m moved own space) x ≡ Some true
  marked_at space x lt h =
      let e : 0 + x ≡ x = omega arith in
      map_at (is_from_primary moved (defined_at m own) space) (numbers 0 (length (entities m space))) x (0 + x) (numbers_at 0 (length (entities m space)) x lt) ∙ ap (λ n. Some (is_from_primary moved (defined_at m own) space n)) e ∙ ap Some h

  pub is_imported : (space : Space) (x : ℕ) → x < length (entities m space) → is_from_primary moved (defined_at m own) space x ≡ true → Has (from_primary m moved own space) x
  is_imported space x lt h =
      let p = place_there (λ b. b) (marks_from_primary m moved own space) 0 x true (marked_at space x lt h) refl in
      let e : 0 + x ≡ x = omega arith in
      (p.0, p.1 ∙ ap Some e)

module _ (namespace : ℕ → List ℕ) (prefix : List ℕ) (m : Module) (moved : List ℕ) (holds : ItemsHold (primary_with namespace prefix m moved)) where
  abbrev pub primary : Module
  primary = primary_with namespace prefix m moved

  abbrev renumbered : Module
  renumbered = renumbered_tree (primary_map m moved) (primary_tree namespace prefix m moved)

  pub primary_keeps : IsWithDeclared renumbered primary (declared_refs renumbered)
  unfolding primary_with
  primary_keeps = declared_keeps renumbered

  pub primary_types : primary.types ≡ m.types
  primary_types = primary_keeps.types

  added_exported : (e : Export) → Has (added_exports prefix m moved) e → export_named primary.exports e.name ≡ Some (new_export_desc (primary_map m moved) e.desc)
  added_exported e h =
      let there = has_right m.exports (added_exports prefix m moved) e h in
      let at : slice_get primary.exports there.0 ≡ Some (new_export (primary_map m moved) e) =
      ap (λ es. slice_get es there.0) primary_keeps.exports ∙ map_at (new_export (primary_map m moved)) (m.exports ++ added_exports prefix m moved) there.0 e there.1 in
      export_at primary holds there.0 (new_export (primary_map m moved) e) at

  abbrev fs : List Export
  fs = exports_for_secondary prefix Functions ex.Func (from_primary m moved moved Functions)

  abbrev ts : List Export
  ts = exports_for_secondary prefix Tables ex.Table (from_primary m moved moved Tables)

  abbrev ms : List Export
  ms = exports_for_secondary prefix Memories ex.Memory (from_primary m moved moved Memories)

  abbrev gs : List Export
  gs = exports_for_secondary prefix Globals ex.Global (from_primary m moved moved Globals)

  abbrev last : List Export
  last = record { name = slots_name prefix; desc = ex.Table (slot_table m) } ∷ []

  has_exported : (space : Space) (desc : ℕ → ExportDesc) (x : ℕ) → Has (from_primary m moved moved space) x → Has (exports_for_secondary prefix space desc (from_primary m moved moved space)) (record { name = name_from_primary prefix space x; desc = desc x })
  has_exported space desc x h = (h.0, map_at (λ i. record { name = name_from_primary prefix space i; desc = desc i }) (from_primary m moved moved space) h.0 x h.1)

  pub slots_exported : export_named primary.exports (slots_name prefix) ≡ Some (ex.Table (slice_index (primary_map m moved).tables (slot_table m)))
  slots_exported = added_exported (record { name = slots_name prefix; desc = ex.Table (slot_table m) }) (has_right fs (ts ++ (ms ++ (gs ++ last))) _ (has_right ts (ms ++ (gs ++ last)) _ (has_right ms (gs ++ last) _ (has_right gs last _ (0, refl)))))

  module _ (own : List ℕ) (before : ℕ) (slots : HasSlots moved own before) where
    -- An entity that one secondary module imports is among those that the primary module exports
    -- for all.
    imported : (space : Space) (x : ℕ) → x < length (entities m space) → is_from_primary moved (defined_at m own) space x ≡ true → Has (from_primary m moved moved space) x
    imported space x lt h = is_imported m moved moved space x lt (among_all m moved own before slots space x h)

    pub func_exported : (x : ℕ) → x < length (entities m Functions) → is_from_primary moved (defined_at m own) Functions x ≡ true → export_named primary.exports (name_from_primary prefix Functions x) ≡ Some (ex.Func (slice_index (primary_map m moved).funcs x))
    func_exported x lt h = added_exported (record { name = name_from_primary prefix Functions x; desc = ex.Func x }) (has_left fs (ts ++ (ms ++ (gs ++ last))) _ (has_exported Functions ex.Func x (imported Functions x lt h)))

    pub table_exported : (x : ℕ) → x < length (entities m Tables) → is_from_primary moved (defined_at m own) Tables x ≡ true → export_named primary.exports (name_from_primary prefix Tables x) ≡ Some (ex.Table (slice_index (primary_map m moved).tables x))
    table_exported x lt h = added_exported (record { name = name_from_primary prefix Tables x; desc = ex.Table x }) (has_right fs (ts ++ (ms ++ (gs ++ last))) _ (has_left ts (ms ++ (gs ++ last)) _ (has_exported Tables ex.Table x (imported Tables x lt h))))

    pub memory_exported : (x : ℕ) → x < length (entities m Memories) → is_from_primary moved (defined_at m own) Memories x ≡ true → export_named primary.exports (name_from_primary prefix Memories x) ≡ Some (ex.Memory (slice_index (primary_map m moved).mems x))
    memory_exported x lt h =
        added_exported (record { name = name_from_primary prefix Memories x; desc = ex.Memory x }) (has_right fs (ts ++ (ms ++ (gs ++ last))) _ (has_right ts (ms ++ (gs ++ last)) _ (has_left ms (gs ++ last) _ (has_exported Memories ex.Memory x (imported Memories x lt h)))))

    pub global_exported : (x : ℕ) → x < length (entities m Globals) → is_from_primary moved (defined_at m own) Globals x ≡ true → export_named primary.exports (name_from_primary prefix Globals x) ≡ Some (ex.Global (slice_index (primary_map m moved).globals x))
    global_exported x lt h =
        added_exported (record { name = name_from_primary prefix Globals x; desc = ex.Global x }) (has_right fs (ts ++ (ms ++ (gs ++ last))) _ (has_right ts (ms ++ (gs ++ last)) _ (has_right ms (gs ++ last) _ (has_left gs last _ (has_exported Globals ex.Global x (imported Globals x lt h))))))
