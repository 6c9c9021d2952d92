-- The index spaces of the primary module (the imports of the module, the placeholders, and the
-- definitions that are left), and the new index of each entity.
use Rattle.base_lists.proofs.Common.{◌≡◌, ◌∙◌, ap, ap₂, sym, subst, refl, ℕ, zero, suc, ◌+◌, ◌<◌, ◌≤◌, List, [], ◌∷◌, ◌++◌, drop, map, length, Option, Some, None, Bool, true, false, not, ⊎_elim, option_and_then, slice_get, slice_index, arith, append_assoc, decimal, nat_le, nat_lt, cons_option}
use Rattle.base_lists.proofs.Common.{leb-true, length-append, length-drop, length-map, filter_map-append, get_or_from_slice_get, slice_get_within, left_true, every_at, length-numbers, numbers_at, numbers_index, and_then_is, append_at_left, append_from, append_right, drop_at, map_at, map_from}
use Rattle.base_lists.proofs.Common.{map_twice, push_last, slice_get_there, slice_index_is, cases_Bool, left_either, map_stays, index_left, index_right, among_there}
use Rattle.base_kept.proofs.Chosen.{before_drop}
use Rattle.base_lists.specs.Members.{is_among}
use Rattle.std.proofs.Common.{filter_map}
use Rattle.std.proofs.lemmas.List.{append-nil}
use Rattle.base_lists.specs.Places.{numbers}
use Rattle.base_kept.specs.Kept.{is_marked, kept, kept_before, new_places}
use Rattle.base_kept.proofs.Laws.{kept_at, kept_from, kept_map}
use Rattle.wasm_tree_spec.specs.Prelude.{Types, Functions, Tables, Memories, Globals, ElementSegments, DataSegments, Func, Import, ImportDesc, Module, func_of, table_of, memory_of, global_of, imported_funcs, imported_tables, imported_globals, funcs_of, tables_of, memories_of, globals_of}
use Rattle.wasm_tree.specs.declared.types.RefType.TheVariants.{Func as func_ref}
use Rattle.wasm_tree.specs.declared.module.ImportDesc.TheVariants as im
use Rattle.wasm_valid.specs.Prelude.{elem_types, table_types, ImportHolds, ItemsHold}
use Rattle.index_remap.specs.declared.remap.Remap.{Remap}
use Rattle.index_remap.specs.Prelude.{new_data, new_elem, new_func, new_global, new_import, new_import_desc, renumbered_tree}
use Rattle.index_remap_proof.specs.Indices.{Indices}
use Rattle.index_remap_proof.specs.Trees.{TreesAgree}
use Rattle.split_plan.specs.NamedFunctions.{is_defined}
use Rattle.split_plan.specs.PlannedMoves.{body_uses_segment}
use Rattle.split_spec.specs.Prelude.{in_slots, place_among, slot_segment, slot_table, slot_table_type, type_index, is_needed, is_left, left_marks, placeholder_imports, primary_func, primary_funcs, primary_map, primary_tree}
use Rattle.split_proof.specs.Premises.{CanMove}
use Rattle.split_proof.proofs.DescribedSpaces.{Moves, moves, func_holds, import_holds, type_there}

module _ (namespace : ℕ → List ℕ) (prefix : List ℕ) (m : Module) (holds : ItemsHold m) (moved : List ℕ) (can : CanMove m moved) where
  abbrev pub r : Remap
  r = primary_map m moved

  abbrev pub u : Module
  u = renumbered_tree r (primary_tree namespace prefix m moved)

  -- The number of functions that the module imports.
  abbrev k : ℕ
  k = length (imported_funcs m.imports)

  abbrev left : List Bool
  left = left_marks m moved

  -- ---- functions that move ----

  pub moved_moves : (p f : ℕ) → slice_get moved p ≡ Some f → Moves m f
  moved_moves p f at = let c = every_at (λ func. (is_defined m func ≡ true) × (body_uses_segment m func ≡ false)) moved p f can at in moves m f c.0 c.1

  pub moved_type : (p f : ℕ) → slice_get moved p ≡ Some f → type_index m f < length m.types
  moved_type p f at = let g = moved_moves p f at in subst (λ n. n < length m.types) (sym (slice_index_is (funcs_of m) f g.func.ty g.typed)) (type_there m holds f g.func.ty g.typed)

  not_imported : (i : ℕ) → i < k → is_among moved i ≡ false
  not_imported i lt = ⊎_elim (λ h. absurd (there h)) (λ h. h) (cases_Bool (is_among moved i))
    where
      there : is_among moved i ≡ true → ⊥
      there h =
          let p = among_there moved i h in
          let c = every_at (λ func. (is_defined m func ≡ true) × (body_uses_segment m func ≡ false)) moved p.0 i can p.1 in
          let from : k ≤ i = leb-true k i (left_true (nat_le k i) (nat_lt i (length (funcs_of m))) c.0) in
          omega (arith, from, lt)

  pub left_many : length left ≡ length (funcs_of m)
  left_many = length-map (numbers 0 (length (funcs_of m))) (is_left m moved) ∙ length-numbers 0 (length (funcs_of m))

  left_at : (i : ℕ) → i < length (funcs_of m) → slice_get left i ≡ Some (is_left m moved i)
  left_at i lt =
      let e : 0 + i ≡ i = omega arith in
      map_at (is_left m moved) (numbers 0 (length (funcs_of m))) i (0 + i) (numbers_at 0 (length (funcs_of m)) i lt) ∙ ap (λ n. Some (is_left m moved n)) e

  pub imported_left : (i : ℕ) → i < k → is_marked left i ≡ true
  imported_left i lt =
      let all = length-append (imported_funcs m.imports) (map (λ f. f.ty) m.funcs) in
      get_or_from_slice_get left i true false (left_at i (omega (arith, lt, all)) ∙ ap Some (left_either (not (is_among moved i)) (is_needed m i) (ap not (not_imported i lt))))

  -- ---- imports ----

  desc_stays : (d : ImportDesc) → ImportHolds m d → new_import_desc r d ≡ d
  desc_stays (im.Func ty) h = ap im.Func (numbers_index (length m.types) ty h)
  desc_stays (im.Table t) h = refl
  desc_stays (im.Memory l) h = refl
  desc_stays (im.Global g) h = refl

  placeholders_hold : (slot : ℕ) (fs : List ℕ) → ((p f : ℕ) → slice_get fs p ≡ Some f → type_index m f < length m.types) → (n : ℕ) (x : Import) → slice_get (placeholder_imports namespace m slot fs) n ≡ Some x → ImportHolds m x.desc
  placeholders_hold slot [] h n x at = absurd (let e = at in cc)
  placeholders_hold slot (f ∷ fs) h zero x at =
      let same : record { «module» = namespace slot; field = decimal slot; desc = im.Func (type_index m f) } ≡ x = cc in
      subst (λ (y : Import). ImportHolds m y.desc) same (h 0 f refl)
  placeholders_hold slot (f ∷ fs) h (suc n) x at = placeholders_hold (suc slot) fs (λ p. h (suc p)) n x at

  pub imports_hold : (n : ℕ) (x : Import) → slice_get (m.imports ++ placeholder_imports namespace m 0 moved) n ≡ Some x → ImportHolds m x.desc
  imports_hold n x at =
      ⊎_elim (λ h. import_holds m holds n x h) (λ h. placeholders_hold 0 moved moved_type h.0 x h.2) (append_from m.imports (placeholder_imports namespace m 0 moved) n x at)

  pub imports_stay : u.imports ≡ m.imports ++ placeholder_imports namespace m 0 moved
  imports_stay = map_stays (new_import r) (m.imports ++ placeholder_imports namespace m 0 moved) (λ n x at. ap (λ d. record x { desc = d }) (desc_stays x.desc (imports_hold n x at)))

  funcs_added : (slot : ℕ) (fs : List ℕ) → imported_funcs (placeholder_imports namespace m slot fs) ≡ map (type_index m) fs
  funcs_added slot [] = refl
  funcs_added slot (f ∷ fs) = ap (λ ts. type_index m f ∷ ts) (funcs_added (suc slot) fs)

  none_added : {B : Type 0} (h : ImportDesc → Option B) → ((ty : ℕ) → h (im.Func ty) ≡ None) → (slot : ℕ) (fs : List ℕ) → filter_map (λ i. h i.desc) (placeholder_imports namespace m slot fs) ≡ []
  none_added h e slot [] = refl
  none_added h e slot (f ∷ fs) = ap₂ cons_option (e (type_index m f)) (none_added h e (suc slot) fs)

  pub imported_funcs_are : imported_funcs u.imports ≡ imported_funcs m.imports ++ map (type_index m) moved
  imported_funcs_are = ap imported_funcs imports_stay ∙ filter_map-append (λ i. func_of i.desc) m.imports (placeholder_imports namespace m 0 moved) ∙ ap (λ ts. imported_funcs m.imports ++ ts) (funcs_added 0 moved)

  others_stay : {B : Type 0} (h : ImportDesc → Option B) → ((ty : ℕ) → h (im.Func ty) ≡ None) → filter_map (λ i. h i.desc) u.imports ≡ filter_map (λ i. h i.desc) m.imports
  others_stay h e =
      ap (filter_map (λ i. h i.desc)) imports_stay ∙ filter_map-append (λ i. h i.desc) m.imports (placeholder_imports namespace m 0 moved)
      ∙ ap (λ ys. filter_map (λ i. h i.desc) m.imports ++ ys) (none_added h e 0 moved) ∙ append-nil (filter_map (λ i. h i.desc) m.imports)

  -- ---- the other spaces ----

  pub tables_are : tables_of u ≡ tables_of m ++ slot_table_type (length moved) ∷ []
  tables_are = ap (λ ts. ts ++ (m.tables ++ slot_table_type (length moved) ∷ [])) (others_stay table_of (λ ty. refl)) ∙ sym (append_assoc (imported_tables m.imports) m.tables (slot_table_type (length moved) ∷ []))

  pub memories_are : memories_of u ≡ memories_of m
  memories_are = ap (λ ms. ms ++ m.mems) (others_stay memory_of (λ ty. refl))

  pub imported_globals_are : imported_globals u.imports ≡ imported_globals m.imports
  imported_globals_are = others_stay global_of (λ ty. refl)

  pub globals_are : globals_of u ≡ globals_of m
  globals_are = ap₂ (λ xs ys. xs ++ ys) imported_globals_are (map_twice (λ g. g.ty) (new_global r) m.globals)

  pub slot_table_at : slice_get (table_types u) (slice_index r.tables (slot_table m)) ≡ Some func_ref
  slot_table_at =
      let n = length (tables_of m) in
      let entry : slice_index r.tables (slot_table m) ≡ n = numbers_index (suc n) n (omega arith) in
      ap (slice_get (table_types u)) entry ∙ map_at (λ t. t.ty) (tables_of u) n (slot_table_type (length moved)) (ap (λ ts. slice_get ts n) tables_are ∙ push_last (tables_of m) (slot_table_type (length moved)))

  -- ---- functions ----

  pub primary_at : (first : ℕ) (fs : List Func) (p : ℕ) (g : Func) → slice_get (primary_funcs m moved first fs) p ≡ Some g → (f : Func) × (slice_get fs p ≡ Some f) × (g ≡ primary_func m moved (place_among moved (first + p)) (first + p) f)
  primary_at first [] p g at = absurd (let e = at in cc)
  primary_at first (f ∷ fs) zero g at =
      let e : first ≡ first + 0 = omega arith in
      let same : primary_func m moved (place_among moved first) first f ≡ g = cc in
      (f, refl, sym same ∙ ap (λ n. primary_func m moved (place_among moved n) n f) e)
  primary_at first (f ∷ fs) (suc p) g at =
      let h = primary_at (suc first) fs p g at in
      let e : suc first + p ≡ first + suc p = omega arith in
      (h.0, h.1, h.2 ∙ ap (λ n. primary_func m moved (place_among moved n) n h.0) e)

  same_type : (o : Option ℕ) (func : ℕ) (f : Func) → (primary_func m moved o func f).ty ≡ f.ty
  same_type None func f = refl
  same_type (Some slot) func f = refl

  primary_types : (first : ℕ) (fs : List Func) → map (λ f. f.ty) (primary_funcs m moved first fs) ≡ map (λ f. f.ty) fs
  primary_types first [] = refl
  primary_types first (f ∷ fs) = ap₂ (λ t ts. t ∷ ts) (same_type (place_among moved first) first f) (primary_types (suc first) fs)

  abbrev defined_types : List ℕ
  defined_types = map (λ f. f.ty) m.funcs

  func_types : map (λ f. f.ty) u.funcs ≡ kept (drop k left) defined_types
  func_types =
      let xs = kept (drop k left) (primary_funcs m moved k m.funcs) in
      map_twice (λ f. f.ty) (new_func r) xs ∙ sym (map_twice (slice_index r.types) (λ f. f.ty) xs)
      ∙ ap (map (slice_index r.types)) (sym (kept_map (λ f. f.ty) (drop k left) (primary_funcs m moved k m.funcs)) ∙ ap (kept (drop k left)) (primary_types k m.funcs))
      ∙ map_stays (slice_index r.types) (kept (drop k left) defined_types) (λ n ty at.
      let p = kept_from (drop k left) defined_types n ty at in
      let f = map_from (λ f. f.ty) m.funcs p.place ty p.is in
      numbers_index (length m.types) ty (subst (λ t. t < length m.types) f.2 (func_holds m holds p.place f.0 f.1)))

  pub funcs_are : funcs_of u ≡ imported_funcs m.imports ++ (map (type_index m) moved ++ kept (drop k left) defined_types)
  funcs_are = ap₂ (λ xs ys. xs ++ ys) imported_funcs_are func_types ∙ append_assoc (imported_funcs m.imports) (map (type_index m) moved) (kept (drop k left) defined_types)

  -- An imported function keeps its index, and a defined one comes after the placeholders.
  pub imported_index : (i : ℕ) → i < k → slice_index r.funcs i ≡ i
  imported_index i lt =
      let many = length-numbers 0 k in
      index_left (numbers 0 k) (map (λ place. length moved + place) (drop k (new_places left)) ++ numbers k (length moved)) i (omega (arith, lt, many)) ∙ numbers_index k i lt

  imported_entry : (i ty : ℕ) → slice_get (imported_funcs m.imports) i ≡ Some ty → slice_get (funcs_of u) (slice_index r.funcs i) ≡ Some ty
  imported_entry i ty at =
      ap (slice_get (funcs_of u)) (imported_index i (slice_get_within (imported_funcs m.imports) i ty at)) ∙ ap (λ fs. slice_get fs i) funcs_are ∙ append_at_left (imported_funcs m.imports) (map (type_index m) moved ++ kept (drop k left) defined_types) i ty at

  abbrev place_of : ℕ → ℕ
  place_of j = kept_before (drop k left) j

  pub defined_index : (j : ℕ) → k + j < length (funcs_of m) → slice_index r.funcs (k + j) ≡ length moved + (k + place_of j)
  defined_index j lt =
      let e : 0 + (k + j) ≡ k + j = omega arith in
      let many = left_many in
      let old : slice_get (new_places left) (k + j) ≡ Some (k + place_of j) =
      map_at (kept_before left) (numbers 0 (length left)) (k + j) (0 + (k + j)) (numbers_at 0 (length left) (k + j) (omega (arith, lt, many))) ∙ ap (λ n. Some (kept_before left n)) e ∙ ap Some (before_drop left k j imported_left) in
      index_right (numbers 0 k) (map (λ place. length moved + place) (drop k (new_places left)) ++ numbers k (length moved)) k j (length moved + (k + place_of j)) (sym (length-numbers 0 k))
      (append_at_left (map (λ place. length moved + place) (drop k (new_places left))) (numbers k (length moved)) j (length moved + (k + place_of j))
      (map_at (λ place. length moved + place) (drop k (new_places left)) j (k + place_of j) (drop_at (new_places left) k j ∙ old)))

  pub left_marked : (j : ℕ) → k + j < length (funcs_of m) → is_left m moved (k + j) ≡ true → is_marked (drop k left) j ≡ true
  left_marked j lt h = get_or_from_slice_get (drop k left) j true false (drop_at left k j ∙ left_at (k + j) lt ∙ ap Some h)

  defined_entry : (j ty : ℕ) → is_left m moved (k + j) ≡ true → slice_get defined_types j ≡ Some ty → slice_get (funcs_of u) (slice_index r.funcs (k + j)) ≡ Some ty
  defined_entry j ty h at =
      let all = length-append (imported_funcs m.imports) defined_types in
      let within = slice_get_within defined_types j ty at in
      let lt : k + j < length (funcs_of m) = omega (arith, all, within) in
      let mark = left_marked j lt h in
      let n = length-map moved (type_index m) in
      let e : length moved + (k + place_of j) ≡ k + (length (map (type_index m) moved) + place_of j) = omega (arith, n) in
      ap (slice_get (funcs_of u)) (defined_index j lt ∙ e) ∙ ap (λ fs. slice_get fs (k + (length (map (type_index m) moved) + place_of j))) funcs_are
      ∙ append_right (imported_funcs m.imports) (map (type_index m) moved ++ kept (drop k left) defined_types) (length (map (type_index m) moved) + place_of j)
      ∙ append_right (map (type_index m) moved) (kept (drop k left) defined_types) (place_of j)
      ∙ kept_at (drop k left) defined_types j ty mark at

  pub func_entry : (i ty : ℕ) → is_left m moved i ≡ true → slice_get (funcs_of m) i ≡ Some ty → slice_get (funcs_of u) (slice_index r.funcs i) ≡ Some ty
  func_entry i ty h at =
      ⊎_elim (λ e. imported_entry i ty e)
      (λ e. ap (λ n. slice_get (funcs_of u) (slice_index r.funcs n)) e.1 ∙ defined_entry e.0 ty (sym (ap (is_left m moved) e.1) ∙ h) e.2)
      (append_from (imported_funcs m.imports) defined_types i ty at)

  -- The index of a placeholder is its slot after the imported functions of the module.
  pub placeholder_entry : (p : ℕ) → p < length moved → slice_index r.funcs (length (funcs_of m) + p) ≡ k + p
  placeholder_entry p lt =
      let b = map (λ place. length moved + place) (drop k (new_places left)) in
      let all = length-append (imported_funcs m.imports) defined_types in
      let a = length-numbers 0 k in
      let b0 : length b ≡ length (drop k (new_places left)) = length-map (drop k (new_places left)) (λ place. length moved + place) in
      let b1 = length-drop k (new_places left) in
      let b2 : length (new_places left) ≡ length left = length-map (numbers 0 (length left)) (kept_before left) ∙ length-numbers 0 (length left) in
      let b3 = left_many in
      let e : length (funcs_of m) + p ≡ length (numbers 0 k) + (length b + p) = omega (arith, all, a, b0, b1, b2, b3) in
      slice_index_is r.funcs (length (funcs_of m) + p) (k + p)
      (ap (slice_get r.funcs) e ∙ append_right (numbers 0 k) (b ++ numbers k (length moved)) (length b + p) ∙ append_right b (numbers k (length moved)) p ∙ numbers_at k (length moved) p lt)

  pub placeholder_within : (p : ℕ) → p < length moved → k + p < length (funcs_of u)
  placeholder_within p lt =
      let f = slice_get_there moved p lt in
      slice_get_within (funcs_of u) (k + p) (type_index m f.0)
      (ap (λ fs. slice_get fs (k + p)) funcs_are ∙ append_right (imported_funcs m.imports) (map (type_index m) moved ++ kept (drop k left) defined_types) p
      ∙ append_at_left (map (type_index m) moved) (kept (drop k left) defined_types) p (type_index m f.0) (map_at (type_index m) moved p f.0 f.1))

  -- ---- what stays ----

  abbrev pub stays : Indices
  stays Types = λ i. true
  stays Functions = is_left m moved
  stays Tables = λ i. true
  stays Memories = λ i. true
  stays Globals = λ i. true
  stays ElementSegments = λ i. true
  stays DataSegments = λ i. true

  pub agree : TreesAgree r stays m u
  agree = record {
    types = λ i h v e. ap (slice_get m.types) (numbers_index (length m.types) i (slice_get_within m.types i v e)) ∙ e;
    funcs = λ i h v e. let ty = and_then_is (slice_get (funcs_of m) i) (slice_get m.types) v e in ap (option_and_then (slice_get m.types)) (func_entry i ty.0 h ty.1) ∙ ty.2;
    func_space = λ i h lt. let ty = slice_get_there (funcs_of m) i lt in slice_get_within (funcs_of u) (slice_index r.funcs i) ty.0 (func_entry i ty.0 h ty.1);
    tables = λ i h v e.
        let t = map_from (λ t. t.ty) (tables_of m) i v e in
        let lt = slice_get_within (tables_of m) i t.0 t.1 in
        ap (slice_get (table_types u)) (numbers_index (suc (length (tables_of m))) i (omega (arith, lt)))
        ∙ map_at (λ t. t.ty) (tables_of u) i t.0 (ap (λ ts. slice_get ts i) tables_are ∙ append_at_left (tables_of m) (slot_table_type (length moved) ∷ []) i t.0 t.1) ∙ ap Some t.2;
    memories = λ i h lt. subst (λ n. n < length (memories_of u)) (sym (numbers_index (length (memories_of m)) i lt)) (subst (λ ms. i < length ms) (sym memories_are) lt);
    globals = λ i h v e. ap (slice_get (globals_of u)) (numbers_index (length (globals_of m)) i (slice_get_within (globals_of m) i v e)) ∙ ap (λ gs. slice_get gs i) globals_are ∙ e;
    elems = λ i h v e.
        let s = map_from (λ s. s.ty) m.elems i v e in
        ap (slice_get (elem_types u.elems)) (numbers_index (length m.elems) i (slice_get_within m.elems i s.0 s.1))
        ∙ map_at (λ s. s.ty) u.elems i (new_elem r s.0) (map_at (new_elem r) (m.elems ++ slot_segment (slot_table m) 0 (in_slots m (length moved)) ∷ []) i s.0 (append_at_left m.elems (slot_segment (slot_table m) 0 (in_slots m (length moved)) ∷ []) i s.0 s.1)) ∙ ap Some s.2;
    datas = λ i h lt. let many = length-map m.datas (new_data r) in subst (λ n. n < length u.datas) (sym (numbers_index (length m.datas) i lt)) (omega (arith, lt, many));
  }
