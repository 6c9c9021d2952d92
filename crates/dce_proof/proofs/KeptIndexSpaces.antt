-- The index spaces of what is left of a module: what is kept of those of the module.
use Rattle.base_lists.proofs.Common.{◌≡◌, ◌∙◌, ap, ap₂, sym, subst, refl, ℕ, suc, ◌+◌, ◌<◌, List, [], ◌∷◌, ◌++◌, map, length, replicate, Option, Some, is_some, true, arith, slice_get, slice_index, length-append, get_or-replicate, length-replicate, slice_get_within, numbers_index, map_stays}
use Rattle.base_lists.proofs.Common.{places_many}
use Rattle.std.proofs.Common.{filter_map}
use Rattle.wasm_tree_spec.specs.Prelude.{Space, Functions, Tables, Memories, Globals, Import, ImportDesc, Module, func_of, table_of, memory_of, global_of, imported_funcs, imported_tables, imported_memories, imported_globals, funcs_of, tables_of, memories_of, globals_of}
use Rattle.wasm_tree.specs.declared.module.ImportDesc.TheVariants as im
use Rattle.wasm_valid.specs.declared.kinds.ItemKind.TheVariants as kind
use Rattle.wasm_valid.specs.Prelude.{elem_types, ImportHolds, ItemsHold}
use Rattle.wasm_meaning.specs.Prelude.{has_kind, imports_of}
use Rattle.index_remap.specs.declared.remap.Remap.{Remap}
use Rattle.index_remap.specs.Prelude.{new_import_desc, new_import, new_func, new_global, new_elem}
use Rattle.base_kept.specs.Kept.{kept}
use Rattle.dce_spec.specs.Marks.{Marks, stays}
use Rattle.dce_spec.specs.Swept.{defined_funcs, defined_globals, kept_elem, sweep_map, renumbered_kept}
use Rattle.dce_spec.specs.Closed.{AreClosed}
use Rattle.base_kept.proofs.Laws.{kept_from, kept_map, kept_append, kept_all, kept_chosen}

pub map_same : {A B : Type 0} (g : A → B) (f : A → A) (xs : List A) → ((n : ℕ) (x : A) → slice_get xs n ≡ Some x → g (f x) ≡ g x) → map g (map f xs) ≡ map g xs
map_same g f [] h = refl
map_same g f (x ∷ xs) h = ap₂ (λ y ys. y ∷ ys) (h 0 x refl) (map_same g f xs (λ n. h (suc n)))

table_kind : (i : Import) → is_some (table_of i.desc) ≡ has_kind Tables i
table_kind i = grind arith

memory_kind : (i : Import) → is_some (memory_of i.desc) ≡ has_kind Memories i
memory_kind i = grind arith

module _ (k : Marks) (m : Module) (c : AreClosed k m) where
  -- ---- imports ----

  same_place : (n : ℕ) → 0 + n ≡ n
  same_place n = omega arith

  pub funcs_imported : imported_funcs (kept k.imports m.imports) ≡ kept k.funcs (imported_funcs m.imports)
  funcs_imported =
      let many = length-append (imported_funcs m.imports) (map (λ f. f.ty) m.funcs) in
      let all = c.funcs_many in
      kept_chosen (has_kind Functions) (λ i. func_of i.desc) (grind arith) k.imports k.funcs m.imports 0 c.imports_many (omega (arith, many, all)) (λ i n e. c.imported Functions i n (e ∙ ap Some (same_place n)))

  pub globals_imported : imported_globals (kept k.imports m.imports) ≡ kept k.globals (imported_globals m.imports)
  globals_imported =
      let many = length-append (imported_globals m.imports) (map (λ g. g.ty) m.globals) in
      let all = c.globals_many in
      kept_chosen (has_kind Globals) (λ i. global_of i.desc) (grind arith) k.imports k.globals m.imports 0 c.imports_many (omega (arith, many, all)) (λ i n e. c.imported Globals i n (e ∙ ap Some (same_place n)))

  -- All imported tables and memories are kept.
  all_imported : {B : Type 0} (space : Space) (f : Import → Option B) → ((i : Import) → is_some (f i) ≡ has_kind space i) → ((i : ℕ) → stays k space i ≡ true) → filter_map f (kept k.imports m.imports) ≡ filter_map f m.imports
  all_imported space f kinds all =
      let counted = places_many (has_kind space) f m.imports kinds 0 in
      let many = length-replicate (length (filter_map f m.imports)) true in
      kept_chosen (has_kind space) f kinds k.imports (replicate (length (filter_map f m.imports)) true) m.imports 0 c.imports_many (omega (arith, many))
      (λ i n e. let lt = slice_get_within (imports_of space m) i (0 + n) e in c.imported space i n (e ∙ ap Some (same_place n)) ∙ all i ∙ sym (get_or-replicate (length (filter_map f m.imports)) i true _ (omega (arith, lt, counted))))
      ∙ kept_all (length (filter_map f m.imports)) (filter_map f m.imports) (omega arith)

  pub tables_imported : imported_tables (kept k.imports m.imports) ≡ imported_tables m.imports
  tables_imported = all_imported Tables (λ i. table_of i.desc) table_kind (λ i. refl)

  pub memories_imported : imported_memories (kept k.imports m.imports) ≡ imported_memories m.imports
  memories_imported = all_imported Memories (λ i. memory_of i.desc) memory_kind (λ i. refl)

  -- ---- what is kept, with its new indices ----

  module _ (holds : ItemsHold m) where
    abbrev r : Remap
    r = sweep_map k m

    abbrev u : Module
    u = renumbered_kept k m

    type_stays : (i : ℕ) → i < length m.types → slice_index r.types i ≡ i
    type_stays i lt = numbers_index (length m.types) i lt

    import_stays : (d : ImportDesc) → ImportHolds m d → new_import_desc r d ≡ d
    import_stays (im.Func ty) h = ap im.Func (type_stays ty h)
    import_stays (im.Table ty) h = refl
    import_stays (im.Memory l) h = refl
    import_stays (im.Global g) h = refl

    pub imports_are : u.imports ≡ kept k.imports m.imports
    imports_are = map_stays (new_import r) (kept k.imports m.imports) (λ n x e.
        let p = kept_from k.imports m.imports n x e in
        let h = holds kind.Import p.place (slice_get_within m.imports p.place x p.is) in
        let same : h.0 ≡ x = cc in
        ap (λ d. record x { desc = d }) (import_stays x.desc (subst (λ z. ImportHolds m z.desc) same h.2)))

    func_types : map (λ f. f.ty) u.funcs ≡ map (λ f. f.ty) (kept (defined_funcs k m) m.funcs)
    func_types = map_same (λ f. f.ty) (new_func r) (kept (defined_funcs k m) m.funcs) (λ n x e.
        let p = kept_from (defined_funcs k m) m.funcs n x e in
        let h = holds kind.Func p.place (slice_get_within m.funcs p.place x p.is) in
        let same : h.0 ≡ x = cc in
        type_stays x.ty (subst (λ z. z.ty < length m.types) same h.2))

    pub funcs_are : funcs_of u ≡ kept k.funcs (funcs_of m)
    funcs_are =
        ap₂ (λ xs ys. xs ++ ys) (ap imported_funcs imports_are ∙ funcs_imported) (func_types ∙ sym (kept_map (λ f. f.ty) (defined_funcs k m) m.funcs))
        ∙ sym (kept_append k.funcs (imported_funcs m.imports) (map (λ f. f.ty) m.funcs))

    pub imported_globals_are : imported_globals u.imports ≡ kept k.globals (imported_globals m.imports)
    imported_globals_are = ap imported_globals imports_are ∙ globals_imported

    pub globals_are : globals_of u ≡ kept k.globals (globals_of m)
    globals_are =
        ap₂ (λ xs ys. xs ++ ys) imported_globals_are (map_same (λ g. g.ty) (new_global r) (kept (defined_globals k m) m.globals) (λ n x e. refl) ∙ sym (kept_map (λ g. g.ty) (defined_globals k m) m.globals))
        ∙ sym (kept_append k.globals (imported_globals m.imports) (map (λ g. g.ty) m.globals))

    pub tables_are : tables_of u ≡ tables_of m
    tables_are = ap (λ xs. xs ++ m.tables) (ap imported_tables imports_are ∙ tables_imported)

    pub memories_are : memories_of u ≡ memories_of m
    memories_are = ap (λ xs. xs ++ m.mems) (ap imported_memories imports_are ∙ memories_imported)

    pub elem_types_are : elem_types u.elems ≡ elem_types m.elems
    elem_types_are = map_same (λ s. s.ty) (new_elem r) (map (kept_elem k) m.elems) (λ n x e. refl) ∙ map_same (λ s. s.ty) (kept_elem k) m.elems (λ n x e. refl)
