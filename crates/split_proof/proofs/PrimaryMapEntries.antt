-- The map of the primary module has an entry for each index that is named in its tree.
use Rattle.base_lists.proofs.Common.{◌≡◌, ◌∙◌, ap, sym, refl, ℕ, suc, ◌+◌, ◌<◌, List, [], ◌∷◌, ◌++◌, drop, map, length, true, Option, Some, None, slice_get, arith, IsTrue, pos, list_all, length-append, length-drop, length-map, list_all-append, slice_get_within, left_true, right_true, list_all_from}
use Rattle.base_lists.proofs.Common.{length-numbers, map_from, and_from}
use Rattle.base_lists.specs.Places.{numbers}
use Rattle.base_kept.specs.Kept.{kept_before, new_places}
use Rattle.base_kept.proofs.Laws.{kept_from}
use Rattle.wasm_tree_spec.specs.Prelude.{Space, Types, Functions, Tables, Memories, Globals, ElementSegments, DataSegments, Export, ExportDesc, Func, Module, all_operands_pass, called, PassesInside, imported_funcs, funcs_of, tables_of, memories_of, globals_of}
use Rattle.wasm_tree.specs.declared.module.ExportDesc.TheVariants as ex
use Rattle.wasm_tree.specs.declared.module.ImportDesc.TheVariants as im
use Rattle.wasm_valid.specs.Prelude.{IsValid, ItemsHold}
use Rattle.index_remap.specs.declared.remap.Remap.{Remap}
use Rattle.index_remap.specs.Prelude.{entries, fits_data, fits_elem, fits_export, fits_export_desc, fits_func, fits_global, fits_import, fits_start, fits_tree, has, has_entry}
use Rattle.index_remap_proof.specs.Trees.{Covers}
use Rattle.split_spec.specs.Prelude.{with_calls, call_by_slot, call_through_slot, in_slots, params_of, place_among, slot_segment, slot_table, trampoline_body, type_index, entities, exports_for_secondary, from_primary, name_from_primary, slots_name, added_exports, left_marks, placeholder_imports}
use Rattle.split_spec.specs.Prelude.{primary_func, primary_funcs, primary_tree}
use Rattle.split_proof.specs.Premises.{CanMove}
use Rattle.split_proof.proofs.MapEntries.{EntriesAreThere, body_exact, call_passes, called_below, exact, desc_fits, has_below, longer, slots_fit, through_slot_passes, trampoline_passes, type_below}
use Rattle.split_proof.proofs.OperandsAfterReplacement.{calls_pass}
use Rattle.split_proof.proofs.PrimarySpaces.{imports_hold, left_many, primary_at, r}
use Rattle.split_proof.proofs.SharedFunctions.{shared_within}
use Rattle.split_proof.proofs.DescribedSpaces.{func_holds}

module _ (inside : PassesInside) (entries_there : EntriesAreThere) (namespace : ℕ → List ℕ) (prefix : List ℕ) (m : Module) (valid : IsValid m) (holds : ItemsHold m) (moved : List ℕ) (can : CanMove m moved) where
  abbrev map_of : Remap
  map_of = r namespace prefix m holds moved can

  abbrev old : Remap
  old = exact entries_there m valid holds

  abbrev k : ℕ
  k = length (imported_funcs m.imports)

  types_many : length map_of.types ≡ length m.types
  types_many = length-numbers 0 (length m.types)

  funcs_many : length map_of.funcs ≡ length (funcs_of m) + length moved
  funcs_many =
      let left = left_marks m moved in
      let b = map (λ place. length moved + place) (drop k (new_places left)) in
      let all = length-append (imported_funcs m.imports) (map (λ f. f.ty) m.funcs) in
      let a0 = length-append (numbers 0 k) (b ++ numbers k (length moved)) in
      let a1 = length-append b (numbers k (length moved)) in
      let a = length-numbers 0 k in
      let b0 : length b ≡ length (drop k (new_places left)) = length-map (drop k (new_places left)) (λ place. length moved + place) in
      let b1 = length-drop k (new_places left) in
      let b2 : length (new_places left) ≡ length left = length-map (numbers 0 (length left)) (kept_before left) ∙ length-numbers 0 (length left) in
      let b3 = left_many namespace prefix m holds moved can in
      let c = length-numbers k (length moved) in
      omega (arith, all, a0, a1, a, b0, b1, b2, b3, c)

  tables_many : length map_of.tables ≡ suc (length (tables_of m))
  tables_many = length-numbers 0 (suc (length (tables_of m)))

  covers : Covers map_of m
  covers =
      let types = types_many in
      let funcs = funcs_many in
      let tables = tables_many in
      let mems = length-numbers 0 (length (memories_of m)) in
      let globals = length-numbers 0 (length (globals_of m)) in
      let elems = length-numbers 0 (length m.elems) in
      let datas = length-numbers 0 (length m.datas) in
      record { types = omega (arith, types); funcs = omega (arith, funcs); tables = omega (arith, tables); memories = omega (arith, mems); globals = omega (arith, globals); elems = omega (arith, elems); datas = omega (arith, datas) }

  others : (space : Space) (i : ℕ) → has (entries old space) i ≡ true → has (entries map_of space) i ≡ true
  others Types i h = h
  others Functions i h = let a = funcs_many in let b = length-numbers 0 (length (funcs_of m)) in longer old.funcs map_of.funcs i (omega (arith, a, b)) h
  others Tables i h = let a = tables_many in let b = length-numbers 0 (length (tables_of m)) in longer old.tables map_of.tables i (omega (arith, a, b)) h
  others Memories i h = h
  others Globals i h = h
  others ElementSegments i h = h
  others DataSegments i h = h

  table_fits : has map_of.tables (slot_table m) ≡ true
  table_fits = has_below map_of.tables (suc (length (tables_of m))) (slot_table m) tables_many (omega arith)

  call_fits : (f : ℕ) → has_entry old (called f) ≡ true → all_operands_pass (has_entry map_of) (call_through_slot m moved f) ≡ true
  call_fits f h = by (place_among moved f) refl
    where
      by : (o : Option ℕ) → place_among moved f ≡ o → all_operands_pass (has_entry map_of) (call_through_slot m moved f) ≡ true
      by (Some slot) e =
          ap (λ o. all_operands_pass (has_entry map_of) (call_by_slot m o f)) e
          ∙ through_slot_passes entries_there m valid holds (has_entry map_of) f slot (called_below entries_there m valid holds f h) (λ ty lt. has_below map_of.types (length m.types) ty types_many lt) table_fits
      by None e = ap (λ o. all_operands_pass (has_entry map_of) (call_by_slot m o f)) e ∙ call_passes (has_entry map_of) f (others Functions f h)

  -- ---- functions ----

  func_fits : (o : Option ℕ) (p : ℕ) (f : Func) → slice_get m.funcs p ≡ Some f → fits_func map_of (primary_func m moved o (k + p) f) ≡ true
  func_fits None p f at =
      and_from (has map_of.types f.ty) (all_operands_pass (has_entry map_of) (with_calls (call_through_slot m moved) f.body)) (has_below map_of.types (length m.types) f.ty types_many (func_holds m holds p f at))
      (calls_pass inside (has_entry old) (has_entry map_of) (call_through_slot m moved) (λ o n h. others o.space o.index h) call_fits f.body (body_exact entries_there m valid holds p f at))
  func_fits (Some slot) p f at =
      let within = slice_get_within m.funcs p f at in
      let all = length-append (imported_funcs m.imports) (map (λ f. f.ty) m.funcs) in
      let types = length-map m.funcs (λ f. f.ty) in
      let below = type_below entries_there m valid holds (k + p) (omega (arith, within, all, types)) in
      and_from (has map_of.types f.ty) (all_operands_pass (has_entry map_of) (trampoline_body m (k + p) slot)) (has_below map_of.types (length m.types) f.ty types_many (func_holds m holds p f at))
      (trampoline_passes (has_entry map_of) (params_of m (k + p)) (type_index m (k + p)) (slot_table m) (pos slot) (has_below map_of.types (length m.types) (type_index m (k + p)) types_many below) table_fits)

  funcs_fit : list_all (fits_func map_of) (primary_tree namespace prefix m moved).funcs ≡ true
  funcs_fit = list_all_from (fits_func map_of) (primary_tree namespace prefix m moved).funcs (λ n x at.
      let p = kept_from (drop k (left_marks m moved)) (primary_funcs m moved k m.funcs) n x at in
      let f = primary_at namespace prefix m holds moved can k m.funcs p.place x p.is in
      ap (fits_func map_of) f.2 ∙ func_fits (place_among moved (k + p.place)) p.place f.0 f.1)

  -- ---- imports, exports and the slots ----

  imports_fit : list_all (fits_import map_of) (m.imports ++ placeholder_imports namespace m 0 moved) ≡ true
  imports_fit = list_all_from (fits_import map_of) (m.imports ++ placeholder_imports namespace m 0 moved) (λ n x at. desc_fits map_of m types_many x.desc (imports_hold namespace prefix m holds moved can n x at))

  joined_fit : (xs ys : List Export) → list_all (fits_export map_of) xs ≡ true → list_all (fits_export map_of) ys ≡ true → list_all (fits_export map_of) (xs ++ ys) ≡ true
  joined_fit xs ys h k = list_all-append (fits_export map_of) xs ys ∙ and_from (list_all (fits_export map_of) xs) (list_all (fits_export map_of) ys) h k

  shared_fit : (space : Space) (desc : ℕ → ExportDesc) → ((i : ℕ) → i < length (entities m space) → fits_export_desc map_of (desc i) ≡ true) → list_all (fits_export map_of) (exports_for_secondary prefix space desc (from_primary m moved moved space)) ≡ true
  shared_fit space desc each = list_all_from (fits_export map_of) (exports_for_secondary prefix space desc (from_primary m moved moved space)) (λ n e at.
      let i = map_from (λ i. record { name = name_from_primary prefix space i; desc = desc i }) (from_primary m moved moved space) n e at in
      let s = shared_within m moved moved space n i.0 i.1 in
      ap (λ (x : Export). fits_export_desc map_of x.desc) (sym i.2) ∙ each i.0 s.0)

  last_fits : list_all (fits_export map_of) (record { name = slots_name prefix; desc = ex.Table (slot_table m) } ∷ []) ≡ true
  last_fits = and_from (has map_of.tables (slot_table m)) true table_fits refl

  added_fit : list_all (fits_export map_of) (added_exports prefix m moved) ≡ true
  added_fit =
      let funcs = length-map (funcs_of m) im.Func in
      let tables = length-map (tables_of m) im.Table in
      let mems = length-map (memories_of m) im.Memory in
      let globals = length-map (globals_of m) im.Global in
      joined_fit _ _ (shared_fit Functions ex.Func (λ i lt. has_below map_of.funcs (length (funcs_of m) + length moved) i funcs_many (omega (arith, funcs, lt))))
      (joined_fit _ _ (shared_fit Tables ex.Table (λ i lt. has_below map_of.tables (suc (length (tables_of m))) i tables_many (omega (arith, tables, lt))))
      (joined_fit _ _ (shared_fit Memories ex.Memory (λ i lt. has_below map_of.mems (length (memories_of m)) i (length-numbers 0 (length (memories_of m))) (omega (arith, mems, lt))))
      (joined_fit _ _ (shared_fit Globals ex.Global (λ i lt. has_below map_of.globals (length (globals_of m)) i (length-numbers 0 (length (globals_of m))) (omega (arith, globals, lt)))) last_fits)))

  segment_fits : list_all (fits_elem map_of) (slot_segment (slot_table m) 0 (in_slots m (length moved)) ∷ []) ≡ true
  segment_fits = and_from _ _ (and_from _ _ (and_from _ _ table_fits refl) (slots_fit map_of m (length moved) funcs_many)) refl

  -- ---- the tree ----

  pub primary_fits : IsTrue (fits_tree map_of (primary_tree namespace prefix m moved))
  primary_fits =
      let h0 = entries_there map_of m valid covers in
      let h1 = right_true (list_all (fits_import map_of) m.imports) _ h0 in
      let h2 = right_true (list_all (fits_func map_of) m.funcs) _ h1 in
      let h3 = right_true (list_all (fits_global map_of) m.globals) _ h2 in
      let h4 = right_true (list_all (fits_export map_of) m.exports) _ h3 in
      let h5 = right_true (fits_start map_of m.start) _ h4 in
      and_from _ _ imports_fit
      (and_from _ _ funcs_fit
      (and_from _ _ (left_true (list_all (fits_global map_of) m.globals) _ h2)
      (and_from _ _ (joined_fit m.exports (added_exports prefix m moved) (left_true (list_all (fits_export map_of) m.exports) _ h3) added_fit)
      (and_from _ _ (left_true (fits_start map_of m.start) _ h4)
      (and_from _ _ (list_all-append (fits_elem map_of) m.elems (slot_segment (slot_table m) 0 (in_slots m (length moved)) ∷ []) ∙ and_from _ _ (left_true (list_all (fits_elem map_of) m.elems) _ h5) segment_fits)
      (right_true (list_all (fits_elem map_of) m.elems) (list_all (fits_data map_of) m.datas) h5))))))
