-- The indices of the module and their entries in the primary module with stubs in place of its
-- placeholders name related entities.
use Rattle.base_lists.proofs.Common.{◌≡◌, ◌∙◌, ap, sym, subst, refl, ℕ, zero, suc, ◌+◌, ◌-◌, ◌<◌, ◌≤◌, ◌&&◌, ◌⊎◌, inl, inr, List, [], ◌∷◌, ◌++◌, map, length, drop, Option, Some, Bool, true, arith, option_and_then, slice_get, slice_index, IsTrue, cases_lt, length-append, length-map, map-append}
use Rattle.base_lists.proofs.Common.{slice_get_within, same_Some, left_true, right_true, has_chosen, length-numbers, places_many, numbers_at, numbers_index, append_left, append_right, map_at, slice_get_there, and_from, get_rel, opt_at, then_rel, among_right, there_among}
use Rattle.base_lists.specs.Places.{numbers}
use Rattle.base_kept.specs.Kept.{kept}
use Rattle.base_kept.proofs.Laws.{kept_at}
use Rattle.wasm_tree_spec.specs.Prelude.{Space, Types, Functions, Tables, Memories, Globals, ElementSegments, DataSegments, ConstExpr, DataMode, ElemMode, ElemSeg, DataSeg, Export, ExportDesc, Module, ImportDesc, RefType, I32, imported_funcs, imported_tables, imported_memories, imported_globals}
use Rattle.wasm_tree_spec.specs.Prelude.{funcs_of, tables_of, memories_of, globals_of}
use Rattle.wasm_tree.specs.declared.module.ConstExpr.TheVariants as const
use Rattle.wasm_tree.specs.declared.module.DataMode.TheVariants as «data»
use Rattle.wasm_tree.specs.declared.module.ElemMode.TheVariants as elem
use Rattle.wasm_tree.specs.declared.module.ExportDesc.TheVariants as ex
use Rattle.wasm_tree.specs.declared.module.Func as tree
use Rattle.wasm_tree.specs.declared.module.ImportDesc.TheVariants as im
use Rattle.wasm_valid.specs.declared.kinds.ItemKind.TheVariants as kind
use Rattle.wasm_valid.specs.Prelude.{const_type, elem_refs, export_func, export_refs, global_refs, const_func, ElemModeHolds, DataModeHolds, ItemsHold, ValidWhereItemsHold}
use Rattle.wasm_meaning.specs.Prelude.{Inst, Val, Environment, own_globals, imports_of, LoaderWorld, own_count, defined_count}
use Rattle.wasm_meaning.specs.World as world
use Rattle.index_remap.specs.declared.remap.Remap.{Remap}
use Rattle.run_simulation.specs.Prelude.{Pairing, OptRel, some, ValRel, number, reference, func, passed}
use Rattle.index_remap.specs.Prelude.{declared_refs, fits_tree, has, new_const, new_data, new_elem, new_func, new_global, new_start}
use Rattle.index_remap.specs.Laws.{ReplacedCodeIsRelated}
use Rattle.index_remap_proof.specs.Indices.{Indices, with_entry, ConstNamesOnly, ImportNamesOnly, ExportNamesOnly, ElemModeNamesOnly, DataModeNamesOnly, TreeNamesOnly}
use Rattle.world_simulation.specs.Prelude.{DeclaringSegmentsAreAllocated, one, addresses, Instantiated, values_in, EntriesName, SharesOwn, IsInst, IsWithDeclared, last_segments}
use Rattle.world_simulation.specs.TypedInstances.{AddedModulesAreTyped}
use Rattle.world_simulation.specs.InstantiatedStores.{PrimaryModulesLeave}
use Rattle.world_simulation.specs.EmptyLoaders.{LoadersBeginAsTheirPrimary, LoadersHaveTheirPrimarysInstance}
use Rattle.world_simulation.specs.DefinedPlaceholders.{stub, stubbed, LoadersAddAsStubbed, LoadersBeginAsStubbed, PlaceholdersAreCounted}
use Rattle.world_simulation.proofs.EnlargedModules.{space_grows}
use Rattle.world_simulation.specs.FunctionIndependence.{SegmentsKeepFunctions}
use Rattle.world_simulation.specs.ConstantValues.{ConstantsAloneReadTheEnvironment}
use Rattle.world_simulation.proofs.EnvironmentEntities.{null_rel, own_globals_rel}
use Rattle.world_simulation.proofs.RenumberedItems.{func_named}
use Rattle.world_simulation.proofs.OneModuleWorlds.{space_at}
use Rattle.split_spec.specs.declared.names.SplitNames.{SplitNames}
use Rattle.split_spec.specs.Prelude.{is_left, left_marks, primary_func, primary_funcs, primary_map, in_slots, place_among, slot_segment, slot_table, slot_table_type, type_index}
use Rattle.split_proof.proofs.WellTypedBodies.{BodyLaws}
use Rattle.split_proof.proofs.MapEntries.{EntriesAreThere, below_has, exact, covers_exact}
use Rattle.split_proof.proofs.PrimaryItems as primary
use Rattle.split_proof.proofs.PrimarySpaces as spaces
use Rattle.split_proof.specs.SplitWorlds.{split_world}
use Rattle.split_proof.specs.Addresses.{is_partner}
use Rattle.split_proof.specs.SplitLaws.{CanBeSplit}
use Rattle.split_proof.proofs.AddressPartners.{goes, entry_is, funcs_many, is_else, is_its_partner, is_left_there, left_marked, partner_is, place_left, shares_own}
use Rattle.split_proof.proofs.PlaceholderImports.{same}

-- The laws that the lemmas of this file assume.
pub record Laws : Type 0 where
  pub bodies : BodyLaws
  pub items : ValidWhereItemsHold
  pub entries : EntriesAreThere
  pub tree_named : (r : Remap) (t : Module) → IsTrue (fits_tree r t) → TreeNamesOnly (with_entry r) t
  pub code : ReplacedCodeIsRelated
  pub stubs : LoadersBeginAsStubbed
  pub primary : LoadersBeginAsTheirPrimary
  pub inst : LoadersHaveTheirPrimarysInstance
  pub adds : LoadersAddAsStubbed
  pub leaves : PrimaryModulesLeave
  pub typed : AddedModulesAreTyped
  pub segments : SegmentsKeepFunctions
  pub counted : PlaceholdersAreCounted
  pub constants : ConstantsAloneReadTheEnvironment
  pub declared : DeclaringSegmentsAreAllocated

module _ (laws : Laws) (namespace : ℕ → List ℕ) (names : SplitNames) (m : Module) (moved : List ℕ) (owns : List (List ℕ)) (g : CanBeSplit namespace names m moved owns) where
  abbrev pub holds : ItemsHold m
  holds = (laws.items m).0 g.valid

  abbrev pub split : LoaderWorld
  split = split_world namespace names m moved owns

  abbrev pub types_moved : List ℕ
  types_moved = map (type_index m) moved

  -- The primary module with stubs in place of its placeholders.
  abbrev pub Q : Module
  Q = (stubbed split m.imports types_moved).primary

  abbrev pub r : Remap
  r = primary_map m moved

  abbrev pub k : ℕ
  k = length (imported_funcs m.imports)

  -- The primary module before its references are declared, with its placeholders.
  abbrev pub plain : Module
  plain = spaces.u namespace names.export_prefix m holds moved g.can_move

  abbrev pub keeps : IsWithDeclared plain split.primary (declared_refs plain)
  keeps = same namespace names m moved owns g holds

  -- The identity remap of the module, with an entry for each of its indices.
  abbrev pub old : Remap
  old = exact laws.entries m g.valid holds

  -- The indices that stay in the primary module: all but those of moved functions without a
  -- trampoline.
  abbrev pub stay : Indices
  stay space x = with_entry old space x && spaces.stays namespace names.export_prefix m holds moved g.can_move space x

  -- ---- what the primary module has ----

  pub types_are : Q.types ≡ m.types
  types_are = keeps.types

  pub tables_are : Q.tables ≡ m.tables ++ slot_table_type (length moved) ∷ []
  tables_are = keeps.tables

  pub mems_are : Q.mems ≡ m.mems
  mems_are = keeps.mems

  pub globals_are : Q.globals ≡ map (new_global r) m.globals
  globals_are = keeps.globals

  pub start_is : Q.start ≡ new_start r m.start
  start_is = keeps.start

  pub datas_are : Q.datas ≡ map (new_data r) m.datas
  datas_are = keeps.datas

  -- The segments after those of the module: that of the slots, and perhaps one that declares
  -- references.
  abbrev pub more_segments : List ElemSeg
  more_segments = new_elem r (slot_segment (slot_table m) 0 (in_slots m (length moved))) ∷ last_segments (declared_refs plain)

  pub elems_are : Q.elems ≡ map (new_elem r) m.elems ++ more_segments
  elems_are =
      let seg = slot_segment (slot_table m) 0 (in_slots m (length moved)) in
      keeps.elems ∙ ap (λ es. es ++ last_segments (declared_refs plain)) (map-append (new_elem r) m.elems (seg ∷ [])) ∙ joined (map (new_elem r) m.elems) (new_elem r seg) (last_segments (declared_refs plain))
    where
      joined : (xs : List ElemSeg) (y : ElemSeg) (ys : List ElemSeg) → (xs ++ y ∷ []) ++ ys ≡ xs ++ y ∷ ys
      joined [] y ys = refl
      joined (x ∷ xs) y ys = ap (λ zs. x ∷ zs) (joined xs y ys)

  pub stubs_many : length (map stub types_moved) ≡ length moved
  stubs_many = length-map types_moved stub ∙ length-map moved (type_index m)

  primary_there : (first : ℕ) (fs : List tree.Func) (p : ℕ) (f : tree.Func) → slice_get fs p ≡ Some f → slice_get (primary_funcs m moved first fs) p ≡ Some (primary_func m moved (place_among moved (first + p)) (first + p) f)
  primary_there first [] p f at = cc
  primary_there first (x ∷ fs) zero f at =
      let e : first ≡ first + 0 = omega arith in
      let is : x ≡ f = cc in
      ap (λ f. Some (primary_func m moved (place_among moved first) first f)) is ∙ ap (λ n. Some (primary_func m moved (place_among moved n) n f)) e
  primary_there first (x ∷ fs) (suc p) f at = let e : suc first + p ≡ first + suc p = omega arith in primary_there (suc first) fs p f at ∙ ap (λ n. Some (primary_func m moved (place_among moved n) n f)) e

  -- A function that is left in the primary module is at its new place there.
  pub left_there : (n : ℕ) (f : tree.Func) → slice_get m.funcs n ≡ Some f → is_left m moved (k + n) ≡ true → slice_get split.primary.funcs (place_left m moved n) ≡ Some (new_func r (primary_func m moved (place_among moved (k + n)) (k + n) f))
  left_there n f at h =
      let marks = drop k (left_marks m moved) in
      let x = primary_func m moved (place_among moved (k + n)) (k + n) f in
      let moved_there = kept_at marks (primary_funcs m moved k m.funcs) n x (left_marked namespace names.export_prefix m holds moved g.can_move n (slice_get_within m.funcs n f at) h) (primary_there k m.funcs n f at) in
      ap (λ fs. slice_get fs (place_left m moved n)) keeps.funcs ∙ map_at (new_func r) (kept marks (primary_funcs m moved k m.funcs)) (place_left m moved n) x moved_there

  -- A function that is left in the module with stubs comes after these.
  pub left_func : (n : ℕ) (f : tree.Func) → slice_get m.funcs n ≡ Some f → is_left m moved (k + n) ≡ true → slice_get Q.funcs (length moved + place_left m moved n) ≡ Some (new_func r (primary_func m moved (place_among moved (k + n)) (k + n) f))
  left_func n f at h = ap (λ z. slice_get Q.funcs (z + place_left m moved n)) (sym stubs_many) ∙ append_right (map stub types_moved) split.primary.funcs (place_left m moved n) ∙ left_there n f at h

  -- ---- what the module names outside of bodies ----

  abbrev pub outside : Module
  outside = record m { funcs = [] }

  named_there : TreeNamesOnly (with_entry old) m
  named_there = laws.tree_named old m (laws.entries old m g.valid (covers_exact laws.entries m g.valid holds))

  const_stays : (e : ConstExpr) → ConstNamesOnly (with_entry old) e → ((f : ℕ) → const_func e ≡ Some f → is_left m moved f ≡ true) → ConstNamesOnly stay e
  const_stays (const.I32 v) h left = tt
  const_stays (const.I64 v) h left = tt
  const_stays (const.Null ty) h left = tt
  const_stays (const.Func f) h left = and_from (with_entry old Functions f) (is_left m moved f) h (left f refl)
  const_stays (const.Global x) h left = and_from (with_entry old Globals x) true h refl

  no_func : (e : ConstExpr) → const_type m e ≡ Some I32 → (f : ℕ) → const_func e ≡ Some f → is_left m moved f ≡ true
  no_func = primary.no_func laws.bodies namespace names.export_prefix m holds moved g.can_move

  import_stays : (d : ImportDesc) → ImportNamesOnly (with_entry old) d → ImportNamesOnly stay d
  import_stays (im.Func ty) h = and_from (with_entry old Types ty) true h refl
  import_stays (im.Table t) h = tt
  import_stays (im.Memory l) h = tt
  import_stays (im.Global t) h = tt

  elem_mode_stays : (ty : RefType) (mode : ElemMode) → ElemModeNamesOnly (with_entry old) mode → ElemModeHolds m ty mode → ElemModeNamesOnly stay mode
  elem_mode_stays ty (elem.Active x offset) h v = (and_from (with_entry old Tables x) true h.0 refl, const_stays offset h.1 (no_func offset v.1))
  elem_mode_stays ty elem.Passive h v = tt
  elem_mode_stays ty elem.Declarative h v = tt

  data_mode_stays : (mode : DataMode) → DataModeNamesOnly (with_entry old) mode → DataModeHolds m mode → DataModeNamesOnly stay mode
  data_mode_stays («data».Active x offset) h v = (and_from (with_entry old Memories x) true h.0 refl, const_stays offset h.1 (no_func offset v.1))
  data_mode_stays «data».Passive h v = tt

  export_left : (n : ℕ) (e : Export) → slice_get m.exports n ≡ Some e → (f : ℕ) → export_func e.desc ≡ Some f → is_left m moved f ≡ true
  export_left n e at f is =
      let c = has_chosen (λ e. export_func e.desc) m.exports n e f at is in
      primary.refs_left laws.bodies namespace names.export_prefix m holds moved g.can_move f
      (among_right (elem_refs m.elems) (global_refs m.globals ++ export_refs m.exports) f (among_right (global_refs m.globals) (export_refs m.exports) f (there_among (export_refs m.exports) c.0 f c.1)))

  export_stays : (d : ExportDesc) → ExportNamesOnly (with_entry old) d → ((f : ℕ) → export_func d ≡ Some f → is_left m moved f ≡ true) → ExportNamesOnly stay d
  export_stays (ex.Func x) h left = and_from (with_entry old Functions x) (is_left m moved x) h (left x refl)
  export_stays (ex.Table x) h left = and_from (with_entry old Tables x) true h refl
  export_stays (ex.Memory x) h left = and_from (with_entry old Memories x) true h refl
  export_stays (ex.Global x) h left = and_from (with_entry old Globals x) true h refl

  elem_holds : (n : ℕ) (s : ElemSeg) → slice_get m.elems n ≡ Some s → ElemModeHolds m s.ty s.mode
  elem_holds n s at =
      let z = holds kind.Elem n (slice_get_within m.elems n s at) in
      let is : z.0 ≡ s = same_Some _ _ (sym z.1 ∙ at) in
      subst (λ (s : ElemSeg). ElemModeHolds m s.ty s.mode) is z.3

  data_holds : (n : ℕ) (s : DataSeg) → slice_get m.datas n ≡ Some s → DataModeHolds m s.mode
  data_holds n s at =
      let z = holds kind.Segment n (slice_get_within m.datas n s at) in
      let is : z.0 ≡ s = same_Some _ _ (sym z.1 ∙ at) in
      subst (λ (s : DataSeg). DataModeHolds m s.mode) is z.2

  pub named : TreeNamesOnly stay outside
  named = record {
    imports = λ n x at. import_stays x.desc (named_there.imports n x at);
    funcs = λ n f at. absurd (let e = at in cc);
    globals = λ n d at. const_stays d.init (named_there.globals n d at) (primary.init_left laws.bodies namespace names.export_prefix m holds moved g.can_move n d at);
    exports = λ n e at. export_stays e.desc (named_there.exports n e at) (export_left n e at);
    start = λ f at. and_from (with_entry old Functions f) (is_left m moved f) (named_there.start f at) (primary.start_left laws.bodies namespace names.export_prefix m holds moved g.can_move f at);
    items = λ n p s e at here. const_stays e (named_there.items n p s e at here) (primary.item_left laws.bodies namespace names.export_prefix m holds moved g.can_move n p s e at here);
    elem_modes = λ n s at. elem_mode_stays s.ty s.mode (named_there.elem_modes n s at) (elem_holds n s at);
    data_modes = λ n s at. data_mode_stays s.mode (named_there.data_modes n s at) (data_holds n s at);
  }

  -- ---- in an environment ----

  module _ (env : Environment) where
    abbrev of : Space → ℕ → ℕ → Bool
    of = is_partner env m moved

    -- The relation of addresses at the beginning, before any function is loaded.
    abbrev pub P : Pairing
    P = passed of of []

    abbrev pub O : ℕ
    O = own_count Functions env

    pub own : SharesOwn P env
    own = let h = shares_own namespace names.export_prefix m holds moved g.can_move env [] in record { funcs = h.funcs; tables = h.tables; mems = h.mems; globals = h.globals }

    imported_many : length (imports_of Functions m) ≡ k
    imported_many = places_many _ _ m.imports (grind arith) 0

    its_partner : (space : Space) → is_else space ≡ true → (c : ℕ) → c < own_count space env + defined_count space m → P.of space c c
    its_partner = is_its_partner namespace names.export_prefix m holds moved g.can_move env

    module _ (i j : Inst) (a : IsInst env (one m) 0 m i) (b : IsInst env (one Q) 0 Q j) where
      -- An index space that grows or stays, in which each entity of the module is related to
      -- itself.
      grown : (space : Space) (xs ys : List ℕ) → world.space env (one m) space 0 m ≡ Some xs → world.space env (one Q) space 0 Q ≡ Some ys → defined_count space m ≤ defined_count space Q → ((c : ℕ) → c < own_count space env + defined_count space m → P.of space c c) →
          (x : ℕ) → x < length (imports_of space m) + defined_count space m → OptRel (P.of space) (slice_get xs x) (slice_get ys x)
      grown space xs ys hx hy more related x lt =
          let sx = space_at P env own m space xs hx in
          let sy = space_at P env own Q space ys hy in
          let imported = same_Some _ _ (sym sy.are ∙ ap (λ ts. addresses env ts m.imports space) types_are ∙ sx.are) in
          let many = sx.many in
          opt_at (ap (λ l. slice_get l x) sx.all) (ap (λ l. slice_get l x) (sy.all ∙ ap (λ l. l ++ numbers (own_count space env) (defined_count space Q)) imported))
          (space_grows (P.of space) sx.imported (own_count space env) (defined_count space m) (defined_count space Q) sx.shared more related x (omega (arith, lt, many)))

      segment_stays : (space : Space) (xs ys : List ℕ) (count more : ℕ) → xs ≡ numbers 0 count → ys ≡ numbers 0 more → count ≤ more → ((c : ℕ) → c < count → P.of space c c) → (x : ℕ) → x < count → OptRel (P.of space) (slice_get xs x) (slice_get ys x)
      segment_stays space xs ys count more hx hy few related x lt =
          opt_at (ap (λ l. slice_get l x) hx ∙ numbers_at 0 count x lt) (ap (λ l. slice_get l x) hy ∙ numbers_at 0 more x (omega (arith, lt, few))) (some (subst (λ y. P.of space y y) (let z : x ≡ 0 + x = omega arith in z) (related x lt)))

      -- The addresses of the defined functions of the module.
      pub defined_there : (n : ℕ) → n < length m.funcs → slice_get i.funcs (k + n) ≡ Some (O + n)
      defined_there n lt =
          let sx = space_at P env own m Functions i.funcs a.funcs in
          let many = sx.many in
          let counted = imported_many in
          let index : k + n ≡ length sx.imported + n = omega (arith, many, counted) in
          ap (λ l. slice_get l (k + n)) sx.all ∙ ap (slice_get (sx.imported ++ numbers O (length m.funcs))) index ∙ append_right sx.imported (numbers O (length m.funcs)) n ∙ numbers_at O (length m.funcs) n lt

      left_named : (n : ℕ) → n < length m.funcs → is_left m moved (k + n) ≡ true → OptRel (P.of Functions) (slice_get i.funcs (k + n)) (slice_get j.funcs (slice_index r.funcs (k + n)))
      left_named n lt h =
          let sy = space_at P env own Q Functions j.funcs b.funcs in
          let many = sy.many in
          let counted = imported_many in
          let entry = entry_is namespace names.export_prefix m holds moved g.can_move n lt in
          let place = length moved + place_left m moved n in
          let index : slice_index r.funcs (k + n) ≡ length sy.imported + place = omega (arith, entry, many, counted) in
          let f = slice_get_there m.funcs n lt in
          let within = slice_get_within Q.funcs place _ (left_func n f.0 f.1 h) in
          opt_at (defined_there n lt)
          (ap (λ l. slice_get l (slice_index r.funcs (k + n))) sy.all ∙ ap (slice_get (sy.imported ++ numbers O (length Q.funcs))) index ∙ append_right sy.imported (numbers O (length Q.funcs)) place ∙ numbers_at O (length Q.funcs) place within)
          (some (is_left_there namespace names.export_prefix m holds moved g.can_move env (O + n) (O + place) (goes n refl lt h refl)))

      imported_named : (x : ℕ) → x < k → OptRel (P.of Functions) (slice_get i.funcs x) (slice_get j.funcs (slice_index r.funcs x))
      imported_named x lt =
          let sx = space_at P env own m Functions i.funcs a.funcs in
          let sy = space_at P env own Q Functions j.funcs b.funcs in
          let imported = same_Some _ _ (sym sy.are ∙ ap (λ ts. addresses env ts m.imports Functions) types_are ∙ sx.are) in
          let many = sx.many in
          let counted = imported_many in
          let low : x < length sx.imported = omega (arith, lt, many, counted) in
          opt_at (ap (λ l. slice_get l x) sx.all ∙ append_left sx.imported (numbers O (length m.funcs)) x low)
          (ap (slice_get j.funcs) (spaces.imported_index namespace names.export_prefix m holds moved g.can_move x lt) ∙ ap (λ l. slice_get l x) (sy.all ∙ ap (λ l. l ++ numbers O (length Q.funcs)) imported) ∙ append_left sx.imported (numbers O (length Q.funcs)) x low)
          (get_rel sx.shared x)

      funcs_named : (x : ℕ) → IsTrue (stay Functions x) → OptRel (P.of Functions) (slice_get i.funcs x) (slice_get j.funcs (slice_index r.funcs x))
      funcs_named x h = by (cases_lt x k)
        where
          by : (x < k) ⊎ (k ≤ x) → OptRel (P.of Functions) (slice_get i.funcs x) (slice_get j.funcs (slice_index r.funcs x))
          by (inl lt) = imported_named x lt
          by (inr le) =
              let all = funcs_many namespace names.export_prefix m holds moved g.can_move in
              let lt = below_has (numbers 0 (length (funcs_of m))) (length (funcs_of m)) x (length-numbers 0 (length (funcs_of m))) (left_true (with_entry old Functions x) _ h) in
              let e : k + (x - k) ≡ x = omega (arith, le) in
              subst (λ x. OptRel (P.of Functions) (slice_get i.funcs x) (slice_get j.funcs (slice_index r.funcs x))) e
              (left_named (x - k) (omega (arith, le, lt, all)) (ap (is_left m moved) e ∙ right_true (with_entry old Functions x) (is_left m moved x) h))

      -- An index space in which each index stays.
      stays_named : (space : Space) (xs ys : List ℕ) (size more : ℕ) → size ≤ more → ((x : ℕ) → x < size → OptRel (P.of space) (slice_get xs x) (slice_get ys x)) → (x : ℕ) → IsTrue (has (numbers 0 size) x) → OptRel (P.of space) (slice_get xs x) (slice_get ys (slice_index (numbers 0 more) x))
      stays_named space xs ys size more few each x h =
          let lt = below_has (numbers 0 size) size x (length-numbers 0 size) h in opt_at refl (ap (slice_get ys) (numbers_index more x (omega (arith, lt, few)))) (each x lt)

      elems_more : length m.elems ≤ length Q.elems
      elems_more = let e = ap length elems_are ∙ length-append (map (new_elem r) m.elems) more_segments in let c = length-map m.elems (new_elem r) in omega (arith, e, c)

      datas_many : length Q.datas ≡ length m.datas
      datas_many = ap length datas_are ∙ length-map m.datas (new_data r)

      tables_more : length m.tables ≤ length Q.tables
      tables_more = let e = ap length tables_are ∙ length-append m.tables (slot_table_type (length moved) ∷ []) in omega (arith, e)

      globals_many : length Q.globals ≡ length m.globals
      globals_many = ap length globals_are ∙ length-map m.globals (new_global r)

      pub entries : EntriesName P r stay i j
      entries Types x h = ap (λ ts. slice_get ts x) (a.types ∙ sym types_are ∙ sym b.types) ∙ ap (slice_get j.types) (sym (numbers_index (length m.types) x (below_has (numbers 0 (length m.types)) (length m.types) x (length-numbers 0 (length m.types)) (left_true (with_entry old Types x) true h))))
      entries Functions x h = funcs_named x h
      entries Tables x h =
          let all = length-append (imported_tables m.imports) m.tables in
          let counted : length (imports_of Tables m) ≡ length (imported_tables m.imports) = places_many _ _ m.imports (grind arith) 0 in
          stays_named Tables i.tables j.tables (length (tables_of m)) (suc (length (tables_of m))) (omega arith) (λ x lt. grown Tables i.tables j.tables a.tables b.tables tables_more (its_partner Tables refl) x (omega (arith, lt, all, counted))) x (left_true (with_entry old Tables x) true h)
      entries Memories x h =
          let all = length-append (imported_memories m.imports) m.mems in
          let counted : length (imports_of Memories m) ≡ length (imported_memories m.imports) = places_many _ _ m.imports (grind arith) 0 in
          let many = ap length mems_are in
          stays_named Memories i.mems j.mems (length (memories_of m)) (length (memories_of m)) (omega arith) (λ x lt. grown Memories i.mems j.mems a.mems b.mems (omega (arith, many)) (its_partner Memories refl) x (omega (arith, lt, all, counted))) x (left_true (with_entry old Memories x) true h)
      entries Globals x h =
          let all = length-append (imported_globals m.imports) (map (λ d. d.ty) m.globals) in
          let types = length-map m.globals (λ d. d.ty) in
          let counted : length (imports_of Globals m) ≡ length (imported_globals m.imports) = places_many _ _ m.imports (grind arith) 0 in
          let many = globals_many in
          stays_named Globals i.globals j.globals (length (globals_of m)) (length (globals_of m)) (omega arith) (λ x lt. grown Globals i.globals j.globals a.globals b.globals (omega (arith, many)) (its_partner Globals refl) x (omega (arith, lt, all, types, counted))) x
          (left_true (with_entry old Globals x) true h)
      entries ElementSegments x h =
          stays_named ElementSegments i.elems j.elems (length m.elems) (length m.elems) (omega arith) (segment_stays ElementSegments i.elems j.elems (length m.elems) (length Q.elems) a.elems b.elems elems_more (λ c lt. its_partner ElementSegments refl c (omega (arith, lt)))) x
          (left_true (with_entry old ElementSegments x) true h)
      entries DataSegments x h =
          let many = datas_many in
          stays_named DataSegments i.datas j.datas (length m.datas) (length m.datas) (omega arith) (segment_stays DataSegments i.datas j.datas (length m.datas) (length Q.datas) a.datas b.datas (omega (arith, many)) (λ c lt. its_partner DataSegments refl c (omega (arith, lt)))) x
          (left_true (with_entry old DataSegments x) true h)

      -- ---- constant expressions ----

      abbrev pub v : Instantiated
      v = record { parts = one m; insts = i ∷ [] }

      abbrev pub w : Instantiated
      w = record { parts = one Q; insts = j ∷ [] }

      pub consts : (e : ConstExpr) → ConstNamesOnly stay e → OptRel (ValRel P) (values_in env v 0 e) (values_in env w 0 (new_const r e))
      consts (const.I32 n) h = some number
      consts (const.I64 n) h = some number
      consts (const.Null ty) h = some (reference (null_rel P ty))
      consts (const.Func f) h = then_rel (func_named P r stay i j entries f h) (λ _ _ q. some (reference (func (some q))))
      consts (const.Global x) h = opt_at (laws.constants env m i a (const.Global x)) (laws.constants env Q j b (const.Global (slice_index r.globals x))) (then_rel (entries Globals x h) look)
        where
          value : ℕ → Option Val
          value a = option_and_then (λ g. Some g.value) (slice_get (own_globals env) a)

          look : (a b : ℕ) → P.of Globals a b → OptRel (ValRel P) (value a) (value b)
          look a b q =
              let e = (partner_is namespace names.export_prefix m holds moved g.can_move env Globals refl a b q).0 in
              opt_at refl (ap value (sym e)) (then_rel (get_rel (own_globals_rel P env own) a) (λ _ _ g. some g.value))
