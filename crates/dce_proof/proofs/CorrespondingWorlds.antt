-- The correspondence between the world of a module and that of what closed marks leave of it: what
-- the law on two worlds asks for.
use Rattle.base_lists.proofs.Common.{◌≡◌, ◌∙◌, ap, ap₂, sym, subst, refl, ℕ, suc, ◌+◌, ◌<◌, ◌≤◌, ◌&&◌, List, [], ◌∷◌, ◌++◌, map, length, drop, replicate, Option, Some, None, Bool, true, arith, option_and_then, append-nil, slice_get, slice_index, IsTrue, ltb-true, length-append, length-map}
use Rattle.base_lists.proofs.Common.{length-replicate, length-drop, map-id, slice_get_within, same_Some, left_true, right_true, length-numbers, numbers_at, numbers_index, places_many, append_at_left, map_at, map_twice, slice_get_there, append_rel, get_rel, opt_at, then_rel}
use Rattle.base_lists.specs.Places.{numbers}
use Rattle.wasm_tree_spec.specs.Prelude.{Space, Types, Functions, Tables, Memories, Globals, ElementSegments, DataSegments, ConstExpr, ElemMode, ElemSeg, Export, GlobalDef, Module, imported_funcs, imported_tables, imported_memories, imported_globals}
use Rattle.wasm_tree.specs.declared.module.ConstExpr.TheVariants as const
use Rattle.wasm_tree.specs.declared.module.ElemMode.TheVariants as elem
use Rattle.wasm_tree.specs.declared.module.Func as tree
use Rattle.wasm_meaning.specs.Prelude.{Inst, Text, Val, Environment, own_globals, Entity, imports_of, own_count, defined_count, starts_of, seen_as, alone}
use Rattle.wasm_meaning.specs.World as world
use Rattle.index_remap.specs.declared.remap.Remap.{Remap}
use Rattle.run_simulation.specs.Prelude.{Pairing, OneToOne, OptRel, none, some, ListRel, cons, nil, ValRel, number, reference, func, KeyRel, passed}
use Rattle.index_remap.specs.Prelude.{declared_refs, with_declared, entries, has, new_func, new_elem, new_elem_mode, new_data, new_global, new_const, new_export, RenumberedCodeIsRelated}
use Rattle.index_remap_proof.specs.Indices.{Indices, with_entry, ConstNamesOnly, ExportNamesOnly, FuncNamesOnly, TreeNamesOnly}
use Rattle.world_simulation.specs.Prelude.{one, addresses, FuncsAt, GlobalsCorrespond, ElemsCorrespond, Partners, DefinitionsCorrespond, Instantiated, values_in, is_declarative, EntriesName, SharesOwn, ElemsInOrder, DatasInOrder, WorldsCorrespond, IsInst, IsWithDeclared, last_segments}
use Rattle.world_simulation.specs.CorrespondingDefinitions as partners
use Rattle.world_simulation.specs.ModulesAlone.{SpacesAreImportsAndOwn}
use Rattle.world_simulation.proofs.EnlargedModules.{no_more, declared_alone, all_in_step}
use Rattle.world_simulation.specs.ConstantValues.{ConstantsAloneReadTheEnvironment}
use Rattle.world_simulation.proofs.EnvironmentEntities.{null_rel, own_globals_rel}
use Rattle.world_simulation.proofs.RenumberedItems.{funcs_correspond, elems_alike, elem_mode_named, data_mode_named, export_named, start_named, func_named}
use Rattle.world_simulation.proofs.OneModuleWorlds.{space_at}
use Rattle.world_simulation.proofs.AllocatedStores.{alike_correspond}
use Rattle.base_kept.specs.Kept.{kept, is_marked, kept_before, new_places}
use Rattle.base_kept.proofs.Laws.{before_most, kept_at, kept_map, kept_all, new_place}
use Rattle.dce_spec.specs.Marks.{Marks, stays}
use Rattle.dce_spec.specs.Closed.{AreClosed}
use Rattle.dce_spec.specs.Swept.{defined_funcs, defined_globals, kept_elem, kept_items, kept_tree, renumbered_kept, sweep_map, swept}
use Rattle.dce_spec.specs.Unswept.{unswept}
use Rattle.dce_proof.proofs.MarkCounts.{kept_length, marked_within, all_marked, all_before, drop_all}
use Rattle.dce_proof.proofs.NewAddresses.{goes_to, MovesTo, own_stays, is_kept, goes_is, is_goes, goes_right, goes_left, space_moves}
use Rattle.dce_proof.proofs.KeptImportAddresses.{kept_addresses}

-- ---- marks of each space ----

-- The marks of an index space are the given ones for functions and globals. Of the other index
-- spaces all entries are marked.
abbrev pub all_marks : Marks → Module → Space → List Bool
all_marks k t Functions = k.funcs
all_marks k t Globals = k.globals
all_marks k t space = replicate (length (imports_of space t) + defined_count space t) true

-- The marks of the entries that the module defines.
abbrev pub own_marks : Marks → Module → Space → List Bool
own_marks k t space = drop (length (imports_of space t)) (all_marks k t space)

-- The indices that are kept and have an entry in the map of the sweep.
abbrev pub kept_indices : Marks → Module → Indices
kept_indices k t space x = stays k space x && with_entry (sweep_map k t) space x

module _ (k : Marks) (t : Module) (c : AreClosed k t) where
  funcs_many : length k.funcs ≡ length (imports_of Functions t) + length t.funcs
  funcs_many =
      let a = c.funcs_many in
      let b = length-append (imported_funcs t.imports) (map (λ f. f.ty) t.funcs) in
      let d = length-map t.funcs (λ f. f.ty) in
      let e : length (imports_of Functions t) ≡ length (imported_funcs t.imports) = places_many _ _ t.imports (grind arith) 0 in
      omega (arith, a, b, d, e)

  globals_many : length k.globals ≡ length (imports_of Globals t) + length t.globals
  globals_many =
      let a = c.globals_many in
      let b = length-append (imported_globals t.imports) (map (λ g. g.ty) t.globals) in
      let d = length-map t.globals (λ g. g.ty) in
      let e : length (imports_of Globals t) ≡ length (imported_globals t.imports) = places_many _ _ t.imports (grind arith) 0 in
      omega (arith, a, b, d, e)

  pub marks_many : (space : Space) → length (all_marks k t space) ≡ length (imports_of space t) + defined_count space t
  marks_many Functions = funcs_many
  marks_many Globals = globals_many
  marks_many Types = length-replicate _ true
  marks_many Tables = length-replicate _ true
  marks_many Memories = length-replicate _ true
  marks_many ElementSegments = length-replicate _ true
  marks_many DataSegments = length-replicate _ true

  pub marked : (space : Space) (x : ℕ) → x < length (imports_of space t) + defined_count space t → stays k space x ≡ true → is_marked (all_marks k t space) x ≡ true
  marked Functions x l h = h
  marked Globals x l h = h
  marked Types x l h = all_marked _ x l
  marked Tables x l h = all_marked _ x l
  marked Memories x l h = all_marked _ x l
  marked ElementSegments x l h = all_marked _ x l
  marked DataSegments x l h = all_marked _ x l

  -- An import is kept exactly if the entry that it adds to its index space is kept.
  pub alike : (space : Space) (i n : ℕ) → slice_get (imports_of space t) i ≡ Some (0 + n) → is_marked k.imports n ≡ is_marked (all_marks k t space) i
  alike space i n e = c.imported space i n (e ∙ ap Some (let z : 0 + n ≡ n = omega arith in z)) ∙ by space (slice_get_within (imports_of space t) i (0 + n) e)
    where
      by : (space : Space) → i < length (imports_of space t) → stays k space i ≡ is_marked (all_marks k t space) i
      by Functions l = refl
      by Globals l = refl
      by Types l = sym (all_marked _ i (omega arith))
      by Tables l = sym (all_marked _ i (omega arith))
      by Memories l = sym (all_marked _ i (omega arith))
      by ElementSegments l = sym (all_marked _ i (omega arith))
      by DataSegments l = sym (all_marked _ i (omega arith))

  -- ---- entries of the map ----

  abbrev r : Remap
  r = sweep_map k t

  all_entries : (space : Space) (size x : ℕ) → size ≤ length (imports_of space t) + defined_count space t → has (numbers 0 size) x ≡ true →
      (x < length (imports_of space t) + defined_count space t) × (slice_index (numbers 0 size) x ≡ kept_before (replicate (length (imports_of space t) + defined_count space t) true) x)
  all_entries space size x e h =
      let l = ltb-true x (length (numbers 0 size)) h in
      let many = length-numbers 0 size in
      (omega (arith, l, many, e), numbers_index size x (omega (arith, l, many)) ∙ sym (all_before _ x (omega (arith, l, many, e))))

  new_entries : (bs : List Bool) (size x : ℕ) → length bs ≡ size → has (new_places bs) x ≡ true → (x < size) × (slice_index (new_places bs) x ≡ kept_before bs x)
  new_entries bs size x e h =
      let l = ltb-true _ _ h in
      let many = length-map (numbers 0 (length bs)) (kept_before bs) in
      let count = length-numbers 0 (length bs) in
      (omega (arith, l, many, count, e), new_place bs x (omega (arith, l, many, count)))

  pub entry_of : (space : Space) (x : ℕ) → IsTrue (with_entry r space x) → (x < length (imports_of space t) + defined_count space t) × (slice_index (entries r space) x ≡ kept_before (all_marks k t space) x)
  entry_of Functions x h = new_entries k.funcs _ x funcs_many h
  entry_of Globals x h = new_entries k.globals _ x globals_many h
  entry_of Types x h = all_entries Types _ x (omega arith) h
  entry_of Tables x h = all_entries Tables _ x (let a = length-append (imported_tables t.imports) t.tables in let b : length (imports_of Tables t) ≡ length (imported_tables t.imports) = places_many _ _ t.imports (grind arith) 0 in omega (arith, a, b)) h
  entry_of Memories x h = all_entries Memories _ x (let a = length-append (imported_memories t.imports) t.mems in let b : length (imports_of Memories t) ≡ length (imported_memories t.imports) = places_many _ _ t.imports (grind arith) 0 in omega (arith, a, b)) h
  entry_of ElementSegments x h = all_entries ElementSegments _ x (omega arith) h
  entry_of DataSegments x h = all_entries DataSegments _ x (omega arith) h

  -- ---- what is left ----

  abbrev plain : Module
  plain = renumbered_kept k t

  abbrev u : Module
  u = swept k t

  abbrev fs : List ℕ
  fs = declared_refs plain

  pub same : IsWithDeclared plain u fs
  unfolding swept
  same = by fs
    where
      by : (fs : List ℕ) → IsWithDeclared plain (with_declared plain fs) fs
      by [] = assumption (sym (append-nil plain.elems))
      by (f ∷ fs) = assumption

  pub whole : {A : Type 0} (n d : ℕ) (xs : List A) → length xs ≡ d → kept (drop n (replicate (n + d) true)) xs ≡ xs
  whole n d xs e = ap (λ bs. kept bs xs) (drop_all n d) ∙ kept_all d xs (omega (arith, e))

  own_funcs_marks : defined_funcs k t ≡ own_marks k t Functions
  own_funcs_marks = let e : length (imports_of Functions t) ≡ length (imported_funcs t.imports) = places_many _ _ t.imports (grind arith) 0 in ap (λ n. drop n k.funcs) (sym e)

  own_globals_marks : defined_globals k t ≡ own_marks k t Globals
  own_globals_marks = let e : length (imports_of Globals t) ≡ length (imported_globals t.imports) = places_many _ _ t.imports (grind arith) 0 in ap (λ n. drop n k.globals) (sym e)

  pub funcs_are : u.funcs ≡ map (new_func r) (kept (own_marks k t Functions) t.funcs) ++ []
  funcs_are = same.funcs ∙ ap (λ bs. map (new_func r) (kept bs t.funcs)) own_funcs_marks ∙ sym (append-nil _)

  pub globals_are : u.globals ≡ map (new_global r) (kept (own_marks k t Globals) t.globals) ++ []
  globals_are = same.globals ∙ ap (λ bs. map (new_global r) (kept bs t.globals)) own_globals_marks ∙ sym (append-nil _)

  pub tables_are : u.tables ≡ map (λ x. x) (kept (own_marks k t Tables) t.tables) ++ []
  tables_are = same.tables ∙ sym (whole _ _ t.tables refl) ∙ sym (map-id _) ∙ sym (append-nil _)

  pub mems_are : u.mems ≡ map (λ x. x) (kept (own_marks k t Memories) t.mems) ++ []
  mems_are = same.mems ∙ sym (whole _ _ t.mems refl) ∙ sym (map-id _) ∙ sym (append-nil _)

  abbrev pub moved_elem : ElemSeg → ElemSeg
  moved_elem e = new_elem r (kept_elem k e)

  pub elems_mapped : u.elems ≡ map moved_elem t.elems ++ last_segments fs
  elems_mapped = same.elems ∙ ap (λ es. es ++ last_segments fs) (map_twice (new_elem r) (kept_elem k) t.elems)

  pub elems_are : u.elems ≡ map moved_elem (kept (own_marks k t ElementSegments) t.elems) ++ last_segments fs
  elems_are = elems_mapped ∙ ap (λ es. map moved_elem es ++ last_segments fs) (sym (whole _ _ t.elems refl))

  pub datas_are : u.datas ≡ map (new_data r) (kept (own_marks k t DataSegments) t.datas) ++ []
  datas_are = same.datas ∙ ap (map (new_data r)) (sym (whole _ _ t.datas refl)) ∙ sym (append-nil _)

  pub elems_more : length t.elems ≤ length u.elems
  elems_more = let e = ap length elems_mapped ∙ length-append (map moved_elem t.elems) (last_segments fs) in let d = length-map t.elems moved_elem in omega (arith, e, d)

  pub datas_many : length u.datas ≡ length t.datas
  datas_many = ap length same.datas ∙ length-map t.datas (new_data r)

  -- What is left defines at least as many entities as are kept.
  pub fewer : {A : Type 0} (space : Space) (xs ys : List A) (new : A → A) (more : List A) → ys ≡ map new (kept (own_marks k t space) xs) ++ more → kept_before (own_marks k t space) (length xs) ≤ length ys
  fewer space xs ys new more e =
      let a = ap length e ∙ length-append (map new (kept (own_marks k t space) xs)) more in
      let b = length-map (kept (own_marks k t space) xs) new in
      let d = kept_length (own_marks k t space) xs in
      omega (arith, a, b, d)

  pub fewer_defined : (space : Space) → kept_before (own_marks k t space) (defined_count space t) ≤ defined_count space u
  fewer_defined Types = let e = ap length same.types in let m = before_most (own_marks k t Types) (length t.types) in omega (arith, e, m)
  fewer_defined Functions = fewer Functions t.funcs u.funcs (new_func r) [] funcs_are
  fewer_defined Tables = fewer Tables t.tables u.tables (λ x. x) [] tables_are
  fewer_defined Memories = fewer Memories t.mems u.mems (λ x. x) [] mems_are
  fewer_defined Globals = fewer Globals t.globals u.globals (new_global r) [] globals_are
  fewer_defined ElementSegments = fewer ElementSegments t.elems u.elems moved_elem (last_segments fs) elems_are
  fewer_defined DataSegments = fewer DataSegments t.datas u.datas (new_data r) [] datas_are

  -- ---- in an environment ----

  module _ (env : Environment) where
    abbrev pub of : Space → ℕ → ℕ → Bool
    of space = goes_to (own_count space env) (own_marks k t space)

    abbrev pub R : Pairing
    R = passed of of []

    pub one_to_one : OneToOne R
    one_to_one = record {
      right = λ {k = space} a b d p q. goes_right (goes_is (own_count space env) (own_marks k t space) a b p) (goes_is (own_count space env) (own_marks k t space) a d q);
      left = λ {k = space} a b d p q. goes_left (goes_is (own_count space env) (own_marks k t space) a d p) (goes_is (own_count space env) (own_marks k t space) b d q);
    }

    stays_itself : (space : Space) (a : ℕ) → a < own_count space env → R.of space a a
    stays_itself space a l = is_goes (own_count space env) (own_marks k t space) a a (own_stays l refl)

    pub own : SharesOwn R env
    own = record { funcs = stays_itself Functions; tables = stays_itself Tables; mems = stays_itself Memories; globals = stays_itself Globals }

    -- The addresses of the imports that are left are those of the module that are kept.
    pub addresses_kept : (space : Space) (all : List ℕ) → u.imports ≡ kept k.imports t.imports → addresses env t.types t.imports space ≡ Some all → addresses env u.types u.imports space ≡ Some (kept (all_marks k t space) all)
    addresses_kept space all imports h =
        let many = marks_many space in
        ap₂ (λ ts is. addresses env ts is space) same.types imports
        ∙ kept_addresses env t.types space k.imports (all_marks k t space) t.imports all h c.imports_many (omega (arith, many)) (alike space)

    module _ (imports : u.imports ≡ kept k.imports t.imports) where
      pub space_there : SpacesAreImportsAndOwn → (space : Space) (xs : List ℕ) → world.space env (one t) space 0 t ≡ Some xs → (ys : List ℕ) × (world.space env (one u) space 0 u ≡ Some ys)
      space_there spaces space xs h =
          let sx = space_at R env own t space xs h in
          (_, spaces env u space ∙ ap (λ o. option_and_then (λ l. Some (l ++ world.numbers (own_count space env) (defined_count space u))) o) (addresses_kept space sx.imported imports sx.are))

      module _ (constants : ConstantsAloneReadTheEnvironment) (i j : Inst) (a : IsInst env (one t) 0 t i) (b : IsInst env (one u) 0 u j) where
        -- An index that is kept and its new index name related addresses.
        space_rel : (space : Space) (xs ys : List ℕ) → world.space env (one t) space 0 t ≡ Some xs → world.space env (one u) space 0 u ≡ Some ys → (x : ℕ) → IsTrue (kept_indices k t space x) → OptRel (R.of space) (slice_get xs x) (slice_get ys (slice_index (entries r space) x))
        space_rel space xs ys hx hy x h =
            let sx = space_at R env own t space xs hx in
            let sy = space_at R env own u space ys hy in
            let e = entry_of space x (right_true (stays k space x) _ h) in
            let many = sx.many in
            let imported : sy.imported ≡ kept (all_marks k t space) sx.imported = same_Some _ _ (sym sy.are ∙ addresses_kept space sx.imported imports sx.are) in
            let marks : drop (length sx.imported) (all_marks k t space) ≡ own_marks k t space = ap (λ n. drop n (all_marks k t space)) many in
            let few = fewer_defined space in
            let low = e.0 in
            opt_at (ap (λ l. slice_get l x) sx.all) (ap₂ (λ l y. slice_get l y) sy.all e.1)
            (space_moves (R.of space) sx.imported sy.imported (all_marks k t space) (own_count space env) (defined_count space t) (defined_count space u) sx.shared imported
            (subst (λ bs. kept_before bs (defined_count space t) ≤ defined_count space u) (sym marks) few)
            (λ z l m. subst (λ bs. R.of space (own_count space env + z) (own_count space env + kept_before bs z)) (sym marks) (is_goes (own_count space env) (own_marks k t space) (own_count space env + z) _ (is_kept z refl (subst (λ bs. is_marked bs z ≡ true) marks m) refl)))
            x (omega (arith, low, many)) (marked space x e.0 (left_true _ _ h)))

        -- The address of a segment does not change.
        segment_stays : (space : Space) (count x : ℕ) → own_count space env ≡ 0 → own_marks k t space ≡ replicate count true → x < count → R.of space x x
        segment_stays space count x zeroed marks l =
            let e = ap (λ bs. kept_before bs x) marks ∙ all_before count x (omega (arith, l)) in
            is_goes (own_count space env) (own_marks k t space) x x (is_kept x (omega (arith, zeroed)) (ap (λ bs. is_marked bs x) marks ∙ all_marked count x l) (omega (arith, zeroed, e)))

        segments_rel : (space : Space) (xs ys : List ℕ) (count more : ℕ) → own_count space env ≡ 0 → count ≤ more → xs ≡ numbers 0 count → ys ≡ numbers 0 more → own_marks k t space ≡ replicate count true →
            (x : ℕ) → has (numbers 0 count) x ≡ true → OptRel (R.of space) (slice_get xs x) (slice_get ys (slice_index (numbers 0 count) x))
        segments_rel space xs ys count more zeroed few hx hy marks x h =
            let below = ltb-true x (length (numbers 0 count)) h in
            let many = length-numbers 0 count in
            let l : x < count = omega (arith, below, many) in
            opt_at (ap (λ l. slice_get l x) hx ∙ numbers_at 0 count x l) (ap₂ (λ l y. slice_get l y) hy (numbers_index count x l) ∙ numbers_at 0 more x (omega (arith, l, few)))
            (some (subst (λ y. R.of space y y) (let z : x ≡ 0 + x = omega arith in z) (segment_stays space count x zeroed marks l)))

        pub names : EntriesName R r (kept_indices k t) i j
        names Types x h = ap (λ ts. slice_get ts x) (a.types ∙ sym same.types ∙ sym b.types) ∙ ap (slice_get j.types) (sym (numbers_index (length t.types) x (omega (arith, ltb-true x (length (numbers 0 (length t.types))) (right_true true _ h), length-numbers 0 (length t.types)))))
        names Functions x h = space_rel Functions i.funcs j.funcs a.funcs b.funcs x h
        names Tables x h = space_rel Tables i.tables j.tables a.tables b.tables x h
        names Memories x h = space_rel Memories i.mems j.mems a.mems b.mems x h
        names Globals x h = space_rel Globals i.globals j.globals a.globals b.globals x h
        names ElementSegments x h = segments_rel ElementSegments i.elems j.elems (length t.elems) (length u.elems) refl elems_more a.elems b.elems (drop_all _ _) x (right_true true _ h)
        names DataSegments x h = segments_rel DataSegments i.datas j.datas (length t.datas) (length u.datas) refl (omega (arith, datas_many)) a.datas b.datas (drop_all _ _) x (right_true true _ h)

        abbrev v : Instantiated
        v = record { parts = one t; insts = i ∷ [] }

        abbrev w : Instantiated
        w = record { parts = one u; insts = j ∷ [] }

        -- ---- constant expressions ----

        pub consts : (e : ConstExpr) → ConstNamesOnly (kept_indices k t) e → OptRel (ValRel R) (values_in env v 0 e) (values_in env w 0 (new_const r e))
        consts (const.I32 n) h = some number
        consts (const.I64 n) h = some number
        consts (const.Null ty) h = some (reference (null_rel R ty))
        consts (const.Func f) h = then_rel (func_named R r (kept_indices k t) i j names f h) (λ _ _ q. some (reference (func (some q))))
        consts (const.Global x) h = opt_at (constants env t i a (const.Global x)) (constants env u j b (const.Global (slice_index r.globals x))) (then_rel (names Globals x h) look)
          where
            value : ℕ → Option Val
            value a = option_and_then (λ g. Some g.value) (slice_get (own_globals env) a)

            past : (a : ℕ) → length (own_globals env) ≤ a → value a ≡ None
            past a l = by (slice_get (own_globals env) a) refl
              where
                by : (o : Option _) → slice_get (own_globals env) a ≡ o → option_and_then (λ g. Some g.value) o ≡ None
                by None e = refl
                by (Some g) e = absurd (let k = slice_get_within (own_globals env) a g e in omega (arith, k, l))

            look : (a b : ℕ) → R.of Globals a b → OptRel (ValRel R) (value a) (value b)
            look a b q = by (goes_is (own_count Globals env) (own_marks k t Globals) a b q)
              where
                by : MovesTo (own_count Globals env) (own_marks k t Globals) a b → OptRel (ValRel R) (value a) (value b)
                by (own_stays l e) = opt_at refl (ap value (sym e)) (then_rel (get_rel (own_globals_rel R env own) a) (λ _ _ g. some g.value))
                by (is_kept x e m f) = opt_at (past a (omega (arith, e))) (past b (omega (arith, f))) none

        -- ---- the records ----

        module _ (named : TreeNamesOnly (kept_indices k t) (kept_tree k t)) where
          -- Related addresses have corresponding definitions.
          placed : {A : Type 0} (space : Space) (definitions : Module → List A) (new : A → A) (more : List A) → ((d : Module) → defined_count space d ≡ length (definitions d)) → definitions u ≡ map new (kept (own_marks k t space) (definitions t)) ++ more →
              (correspond : ℕ → Inst → A → ℕ → Inst → A → Type 0) → ((x : ℕ) (d : A) → slice_get (definitions t) x ≡ Some d → is_marked (own_marks k t space) x ≡ true → correspond 0 i d 0 j (new d)) → (p q : ℕ) → R.of space p q → Partners env v w space definitions correspond p q
          placed space definitions new more counts are correspond each p q related = by (goes_is (own_count space env) (own_marks k t space) p q related)
            where
              by : MovesTo (own_count space env) (own_marks k t space) p q → Partners env v w space definitions correspond p q
              by (own_stays l e) = partners.own e l
              by (is_kept x e m f) =
                  let l = marked_within (own_marks k t space) x m in
                  let size = length-drop (length (imports_of space t)) (all_marks k t space) in
                  let many = marks_many space in
                  let counted = counts t in
                  let d = slice_get_there (definitions t) x (omega (arith, l, size, many, counted)) in
                  let moved = kept_at (own_marks k t space) (definitions t) x d.0 m d.1 in
                  partners.defined (record { part = 0; of = t; is_part = refl; inst = i; is_inst = refl; place = x; definition = d.0; stands = d.1; address = omega (arith, e) })
                  (record {
                    part = 0;
                    of = u;
                    is_part = refl;
                    inst = j;
                    is_inst = refl;
                    place = kept_before (own_marks k t space) x;
                    definition = new d.0;
                    stands = ap (λ xs. slice_get xs (kept_before (own_marks k t space) x)) are ∙
                        append_at_left (map new (kept (own_marks k t space) (definitions t))) more (kept_before (own_marks k t space) x) (new d.0) (map_at new (kept (own_marks k t space) (definitions t)) (kept_before (own_marks k t space) x) d.0 moved);
                    address = omega (arith, f);
                  })
                  (each x d.0 d.1 m)

          -- A definition that is kept names only indices that are kept.
          func_kept : (x : ℕ) (f : tree.Func) → slice_get t.funcs x ≡ Some f → is_marked (own_marks k t Functions) x ≡ true → FuncNamesOnly (kept_indices k t) f
          func_kept x f e m = named.funcs (kept_before (defined_funcs k t) x) f (kept_at (defined_funcs k t) t.funcs x f (subst (λ bs. is_marked bs x ≡ true) (sym own_funcs_marks) m) e)

          global_kept : (x : ℕ) (g : GlobalDef) → slice_get t.globals x ≡ Some g → is_marked (own_marks k t Globals) x ≡ true → ConstNamesOnly (kept_indices k t) g.init
          global_kept x g e m = named.globals (kept_before (defined_globals k t) x) g (kept_at (defined_globals k t) t.globals x g (subst (λ bs. is_marked bs x ≡ true) (sym own_globals_marks) m) e)

          item_kept : (x l : ℕ) (e : ElemSeg) (y : ConstExpr) → slice_get t.elems x ≡ Some e → slice_get (kept_elem k e).items l ≡ Some y → ConstNamesOnly (kept_indices k t) y
          item_kept x l e y h g = named.items x l (kept_elem k e) y (map_at (kept_elem k) t.elems x e h) g

          -- An element segment corresponds to what is left of it: all items are kept unless it is
          -- declarative.
          elems_correspond : (x : ℕ) (e : ElemSeg) → slice_get t.elems x ≡ Some e → ElemsCorrespond R (values_in env v 0) (values_in env w 0) e (moved_elem e)
          elems_correspond x e h = by e.mode refl
            where
              as_kept : kept_items k e.mode e.items ≡ e.items → ElemsCorrespond R (values_in env v 0) (values_in env w 0) e (moved_elem e)
              as_kept same_items =
                  let all : kept_elem k e ≡ e = ap (λ xs. record e { items = xs }) same_items in
                  subst (λ z. ElemsCorrespond R (values_in env v 0) (values_in env w 0) z (moved_elem e)) all
                  (alike_correspond R (values_in env v 0) (values_in env w 0) (elems_alike R r (kept_indices k t) i j names (values_in env v 0) (values_in env w 0) consts (kept_elem k e) (λ l y g. item_kept x l e y h g)))

              by : (mode : ElemMode) → e.mode ≡ mode → ElemsCorrespond R (values_in env v 0) (values_in env w 0) e (moved_elem e)
              by (elem.Active table offset) m = as_kept (ap (λ mode. kept_items k mode e.items) m)
              by elem.Passive m = as_kept (ap (λ mode. kept_items k mode e.items) m)
              by elem.Declarative m = partners.declared (ap is_declarative m) (ap (λ mode. is_declarative (new_elem_mode r mode)) m)

          pub definitions : RenumberedCodeIsRelated → DefinitionsCorrespond R env v w
          definitions code = record {
            funcs = λ p q related. placed Functions (λ d. d.funcs) (new_func r) [] (λ d. refl) funcs_are (λ p2 i f q2 j g. FuncsAt R p i j f g) (λ x f h m. FuncsAt.alike (funcs_correspond R r (kept_indices k t) i j names (code of of [] r i j) f (func_kept x f h m))) p q related;
            tables = placed Tables (λ d. d.tables) (λ x. x) [] (λ d. refl) tables_are (λ p i x q j y. x ≡ y) (λ x d h m. refl);
            mems = placed Memories (λ d. d.mems) (λ x. x) [] (λ d. refl) mems_are (λ p i x q j y. x ≡ y) (λ x d h m. refl);
            globals = placed Globals (λ d. d.globals) (new_global r) [] (λ d. refl) globals_are (λ p i g q j h. GlobalsCorrespond R (values_in env v p) (values_in env w q) g h) (λ x g h m. record { type = refl; init = consts g.init (global_kept x g h m) });
            elems = placed ElementSegments (λ d. d.elems) moved_elem (last_segments fs) (λ d. refl) elems_are (λ p i d q j e. ElemsCorrespond R (values_in env v p) (values_in env w q) d e) (λ x e h m. elems_correspond x e h);
            datas = placed DataSegments (λ d. d.datas) (new_data r) [] (λ d. refl) datas_are (λ p i d q j e. d.bytes ≡ e.bytes) (λ x d h m. refl);
          }

          elem_shared : (x : ℕ) → x < length t.elems → R.of ElementSegments (0 + x) (0 + x)
          elem_shared x l = subst (λ y. R.of ElementSegments y y) (let z : x ≡ 0 + x = omega arith in z) (segment_stays ElementSegments (length t.elems) x refl (drop_all _ _) l)

          data_shared : (x : ℕ) → x < length t.datas → R.of DataSegments (0 + x) (0 + x)
          data_shared x l = subst (λ y. R.of DataSegments y y) (let z : x ≡ 0 + x = omega arith in z) (segment_stays DataSegments (length t.datas) x refl (drop_all _ _) l)

          elems_in_order : ElemsInOrder R env v w
          elems_in_order =
              all_in_step _ _ _ i j moved_elem (last_segments fs) t.elems u.elems i.elems j.elems a.elems b.elems elems_mapped (declared_alone j fs (numbers (0 + length t.elems) (length (last_segments fs))))
              (λ x e h. elem_mode_named R r (kept_indices k t) i j names (values_in env v 0) (values_in env w 0) consts _ _ refl refl (elem_shared x (slice_get_within t.elems x e h)) e.mode (named.elem_modes x (kept_elem k e) (map_at (kept_elem k) t.elems x e h)))

          datas_in_order : DatasInOrder R env v w
          datas_in_order =
              all_in_step _ _ _ i j (new_data r) [] t.datas u.datas i.datas j.datas a.datas b.datas (same.datas ∙ sym (append-nil _)) (no_more j (numbers (0 + length t.datas) 0))
              (λ x d h. data_mode_named R r (kept_indices k t) i j names (values_in env v 0) (values_in env w 0) consts _ _ refl refl (data_shared x (slice_get_within t.datas x d h)) d.mode (named.data_modes x d h))

          pub view : ListRel (λ x y. OptRel (KeyRel R) (seen_as (i ∷ []) x) (seen_as (j ∷ []) y)) (unswept k t).view (alone u).view
          view = rw (kept_map seen k.exports t.exports, same.exports) (each (kept k.exports t.exports) named.exports)
            where
              seen : Export → Text × Entity
              seen e = (e.name, record { part = 0; what = e.desc })

              each : (es : List Export) → ((x : ℕ) (e : Export) → slice_get es x ≡ Some e → ExportNamesOnly (kept_indices k t) e.desc) → ListRel (λ x y. OptRel (KeyRel R) (seen_as (i ∷ []) x) (seen_as (j ∷ []) y)) (map seen es) (map seen (map (new_export r) es))
              each [] h = nil
              each (e ∷ es) h = cons (then_rel (export_named R r (kept_indices k t) i j names e.desc (h 0 e refl)) (λ _ _ q. some (record { key = refl; thing = q }))) (each es (λ x. h (suc x)))

          pub starts : ListRel (R.of Functions) (starts_of (one t) (i ∷ [])) (starts_of (one u) (j ∷ []))
          starts = append_rel (rw same.start (start_named R r (kept_indices k t) i j names t.start named.start)) nil

          pub worlds : RenumberedCodeIsRelated → WorldsCorrespond R env (unswept k t) (alone u) (i ∷ []) (j ∷ [])
          worlds code = record { own = own; definitions = definitions code; elems = elems_in_order; datas = datas_in_order; view = view }
