-- The map of a secondary module has an entry for each index that is named in its tree.
use Rattle.base_lists.proofs.Common.{◌≡◌, ◌∙◌, ap, sym, refl, ℕ, ◌+◌, ◌-◌, ◌<◌, List, [], ◌∷◌, map, length, Bool, true, false, ◌&&◌, not, Option, Some, None, ⊎_elim, slice_get, arith, true≢false, IsTrue, list_all, length-append, length-map, slice_get_within, left_true, right_true, list_all_from}
use Rattle.base_lists.proofs.Common.{length-numbers, map_from, slice_get_there, and_from, cases_Bool, place_is, not-true}
use Rattle.base_lists.specs.Places.{numbers}
use Rattle.base_kept.specs.Kept.{new_places}
use Rattle.wasm_tree_spec.specs.Prelude.{Operand, Space, Types, Functions, Tables, Memories, Globals, ElementSegments, DataSegments, Module, all_operands_pass, called, imported_funcs, funcs_of, tables_of, memories_of, globals_of}
use Rattle.wasm_tree.specs.declared.module.ImportDesc.TheVariants as im
use Rattle.wasm_tree.proofs.OperandLaws.{passes_both}
use Rattle.wasm_valid.specs.Prelude.{IsValid, ItemsHold}
use Rattle.index_remap.specs.declared.remap.Remap.{Remap}
use Rattle.index_remap.specs.Prelude.{entries, fits_func, fits_import, fits_tree, has, has_entry}
use Rattle.split_plan.specs.SegmentReferences.{names_segment}
use Rattle.split_spec.specs.declared.names.SplitNames.{SplitNames}
use Rattle.split_spec.specs.Prelude.{with_calls, call_by_slot, defined_at, place_among, slot_table, from_primary, marks_from_primary, secondary_call, secondary_call_by_place, secondary_func, secondary_imports, secondary_tree}
use Rattle.split_proof.specs.Premises.{CanMove}
use Rattle.split_proof.proofs.WellTypedBodies.{BodyLaws}
use Rattle.split_proof.proofs.MapEntries.{EntriesAreThere, body_exact, call_passes, called_below, exact, desc_fits, has_below, longer, slots_fit, through_slot_passes}
use Rattle.split_proof.proofs.OperandTests.{all_wanted}
use Rattle.split_proof.proofs.OperandsAfterReplacement.{calls_pass}
use Rattle.split_proof.proofs.SecondaryItems.{imports_hold}
use Rattle.split_proof.proofs.SecondarySpaces.{own_at, own_many, own_moves, places_many, r}
use Rattle.split_proof.proofs.DescribedSpaces.{func_holds}

module _ (laws : BodyLaws) (entries_there : EntriesAreThere) (names : SplitNames) (m : Module) (valid : IsValid m) (holds : ItemsHold m) (moved own : List ℕ) (before : ℕ) (can : CanMove m own) where
  abbrev map_of : Remap
  map_of = r names m holds moved own before

  abbrev old : Remap
  old = exact entries_there m valid holds

  types_many : length map_of.types ≡ length m.types
  types_many = length-numbers 0 (length m.types)

  funcs_many : length map_of.funcs ≡ length (funcs_of m) + length own
  funcs_many =
      let a = length-append (new_places (marks_from_primary m moved own Functions)) (numbers (length (from_primary m moved own Functions)) (length own)) in
      let b = places_many names m holds moved own before Functions in
      let c = length-map (funcs_of m) im.Func in
      let d = length-numbers (length (from_primary m moved own Functions)) (length own) in
      omega (arith, a, b, c, d)

  tables_many : length map_of.tables ≡ length (tables_of m) + 1
  tables_many =
      let a = length-append (new_places (marks_from_primary m moved own Tables)) (length (from_primary m moved own Tables) ∷ []) in
      let b = places_many names m holds moved own before Tables in
      let c = length-map (tables_of m) im.Table in
      omega (arith, a, b, c)

  -- Each index of the module has an entry, except those of segments.
  others : (space : Space) (called : Bool) (i : ℕ) → names_segment (record { space = space; index = i; called = called }) ≡ false → has (entries old space) i ≡ true → has (entries map_of space) i ≡ true
  others Types called i n h = h
  others Functions called i n h = let a = funcs_many in let b = length-numbers 0 (length (funcs_of m)) in longer old.funcs map_of.funcs i (omega (arith, a, b)) h
  others Tables called i n h = let a = tables_many in let b = length-numbers 0 (length (tables_of m)) in longer old.tables map_of.tables i (omega (arith, a, b)) h
  others Memories called i n h =
      let a = places_many names m holds moved own before Memories in let b = length-map (memories_of m) im.Memory in let c = length-numbers 0 (length (memories_of m)) in longer old.mems map_of.mems i (omega (arith, a, b, c)) h
  others Globals called i n h =
      let a = places_many names m holds moved own before Globals in let b = length-map (globals_of m) im.Global in let c = length-numbers 0 (length (globals_of m)) in longer old.globals map_of.globals i (omega (arith, a, b, c)) h
  others ElementSegments called i n h = absurd (true≢false n)
  others DataSegments called i n h = absurd (true≢false n)

  abbrev is_plain : Operand → Bool
  is_plain o = has_entry old o && not (names_segment o)

  plain_fits : (o : Operand) → not o.called ≡ true → is_plain o ≡ true → has_entry map_of o ≡ true
  plain_fits o n h =
      others o.space o.called o.index (not-true (names_segment o) (right_true (has_entry old o) (not (names_segment o)) h)) (left_true (has_entry old o) (not (names_segment o)) h)

  call_fits : (f : ℕ) → is_plain (called f) ≡ true → all_operands_pass (has_entry map_of) (secondary_call m moved own f) ≡ true
  call_fits f h = by (place_among own f) (place_among moved f) refl refl
    where
      below : f < length (funcs_of m)
      below = called_below entries_there m valid holds f (left_true (has_entry old (called f)) (not (names_segment (called f))) h)

      by : (o p : Option ℕ) → place_among own f ≡ o → place_among moved f ≡ p → all_operands_pass (has_entry map_of) (secondary_call m moved own f) ≡ true
      by (Some place) p e q =
          let i = place_is f own 0 place e in
          let same = i.1 in
          let lt = slice_get_within own i.0 f i.2 in
          ap (λ o. all_operands_pass (has_entry map_of) (secondary_call_by_place m moved o f)) e
          ∙ call_passes (has_entry map_of) (length (funcs_of m) + place) (has_below map_of.funcs (length (funcs_of m) + length own) (length (funcs_of m) + place) funcs_many (omega (arith, same, lt)))
      by None (Some slot) e q =
          ap (λ o. all_operands_pass (has_entry map_of) (secondary_call_by_place m moved o f)) e ∙ ap (λ o. all_operands_pass (has_entry map_of) (call_by_slot m o f)) q
          ∙ through_slot_passes entries_there m valid holds (has_entry map_of) f slot below (λ ty lt. has_below map_of.types (length m.types) ty types_many lt) (has_below map_of.tables (length (tables_of m) + 1) (slot_table m) tables_many (omega arith))
      by None None e q =
          ap (λ o. all_operands_pass (has_entry map_of) (secondary_call_by_place m moved o f)) e ∙ ap (λ o. all_operands_pass (has_entry map_of) (call_by_slot m o f)) q
          ∙ call_passes (has_entry map_of) f (has_below map_of.funcs (length (funcs_of m) + length own) f funcs_many (let lt = below in omega (arith, lt)))

  -- ---- the tree ----

  no_segments : (p f : ℕ) (at : slice_get own p ≡ Some f) → all_operands_pass (λ o. not (names_segment o)) (own_moves names m holds moved own before can p f at).func.body ≡ true
  no_segments p f at =
      let g = own_moves names m holds moved own before can p f at in
      all_wanted laws.inside laws.any (λ o. not (names_segment o)) g.func.body
      (λ o t. ⊎_elim (λ h. absurd (true≢false (sym (t names_segment h) ∙ g.names_none))) (λ h. ap not h) (cases_Bool (names_segment o)))

  body_fits : (p f : ℕ) (at : slice_get own p ≡ Some f) → fits_func map_of (secondary_func m moved own (own_moves names m holds moved own before can p f at).func) ≡ true
  body_fits p f at =
      let g = own_moves names m holds moved own before can p f at in
      let place = f - length (imported_funcs m.imports) in
      let plain = passes_both (has_entry old) (λ o. not (names_segment o)) is_plain (λ o a b. and_from (has_entry old o) (not (names_segment o)) a b) g.func.body (body_exact entries_there m valid holds place g.func g.is) (no_segments p f at) in
      and_from (has map_of.types g.func.ty) (all_operands_pass (has_entry map_of) (with_calls (secondary_call m moved own) g.func.body)) (has_below map_of.types (length m.types) g.func.ty types_many (func_holds m holds place g.func g.is))
      (calls_pass laws.inside is_plain (has_entry map_of) (secondary_call m moved own) plain_fits call_fits g.func.body plain)

  funcs_fit : list_all (fits_func map_of) (map (secondary_func m moved own) (defined_at m own)) ≡ true
  funcs_fit = list_all_from (fits_func map_of) (map (secondary_func m moved own) (defined_at m own)) (λ n x at.
      let f = map_from (secondary_func m moved own) (defined_at m own) n x at in
      let within = slice_get_within (defined_at m own) n f.0 f.1 in
      let many = own_many names m holds moved own before can in
      let i = slice_get_there own n (omega (arith, within, many)) in
      let both : Some f.0 ≡ Some (own_moves names m holds moved own before can n i.0 i.1).func = sym f.1 ∙ own_at names m holds moved own before can n i.0 i.1 in
      let same : f.0 ≡ (own_moves names m holds moved own before can n i.0 i.1).func = cc in
      ap (fits_func map_of) (sym f.2 ∙ ap (secondary_func m moved own) same) ∙ body_fits n i.0 i.1)

  imports_fit : list_all (fits_import map_of) (secondary_imports names m moved own) ≡ true
  imports_fit = list_all_from (fits_import map_of) (secondary_imports names m moved own) (λ n x at. desc_fits map_of m types_many x.desc (imports_hold laws names m holds moved own before can n x at))

  table_fits : has map_of.tables (slot_table m) ≡ true
  table_fits = has_below map_of.tables (length (tables_of m) + 1) (slot_table m) tables_many (omega arith)

  pub secondary_fits : IsTrue (fits_tree map_of (secondary_tree names m moved own before))
  secondary_fits =
      and_from _ _ imports_fit (and_from _ _ funcs_fit (and_from _ _ refl (and_from _ _ refl (and_from _ _ refl (and_from _ _ (and_from _ _ (and_from _ _ (and_from _ _ table_fits refl) (slots_fit map_of m (length own) funcs_many)) refl) refl)))))
