-- Each item of the merged module is valid, but for references: it comes from an item of a part, or
-- it is the function that calls several starts.
use Rattle.base_lists.proofs.Common.{◌≡◌, ◌∙◌, ap, ap₂, sym, subst, refl, ℕ, ◌+◌, ◌^◌, ◌<◌, List, map, take, length, Option, Some, true, arith, ◌⊎◌, inl, inr, slice_get, slice_index, Contains, slice_get_within, slice_get_there, map_from, append_from}
use Rattle.wasm_tree_spec.specs.Prelude.{Export, ElemMode, ElemSeg, DataMode, DataSeg, ConstExpr, Func, GlobalDef, Module, IsBounded, local_count, param_count, declared_count}
use Rattle.wasm_tree.specs.declared.module.ElemMode.TheVariants as elem
use Rattle.wasm_tree.specs.declared.module.DataMode.TheVariants as «data»
use Rattle.wasm_valid.specs.declared.kinds.ItemKind.{ItemKind}
use Rattle.wasm_valid.specs.declared.kinds.ItemKind.TheVariants as kind
use Rattle.wasm_valid.specs.Prelude.{HoldsAt, count_of, ItemsHold}
use Rattle.wasm_meaning.specs.Prelude.{Text, EndsArePaths, Part, module_at}
use Rattle.index_remap.specs.declared.remap.Remap.{Remap}
use Rattle.index_remap.specs.Prelude.{new_func}
use Rattle.index_remap_proof.specs.Indices.{Indices, with_entry, ElemModeNamesOnly, DataModeNamesOnly, TreeNamesOnly}
use Rattle.index_remap_proof.specs.Trees.{TreesAgree, Covers, ConstComesFrom, ElemModeComesFrom, DataModeComesFrom, ItemsComeFrom, ItemComesFrom, active, passive, declarative}
use Rattle.index_remap_proof.specs.ButForReferences.{HoldsButForReferences, IsValidButForReferences}
use Rattle.merge_spec.specs.Prelude.{map_of, merged_const, merged_global, merged_elem, merged_elem_mode, merged_data, merged_data_mode, by_part, start_calls, starts}
use Rattle.merge_spec.specs.Merged.{merged, defined_funcs}
use Rattle.merge_proof.proofs.ListsByPart.{by_part_back, by_part_flat}
use Rattle.merge_proof.proofs.MergedSpaces.{types_are}
use Rattle.merge_proof.proofs.TypePlaces.{type_stands}
use Rattle.merge_proof.proofs.LinkFaults.{AllAreSuited}
use Rattle.merge_proof.proofs.PartAgreement.{map_covers, trees_agree, elems_are, datas_are}
use Rattle.merge_proof.proofs.MergedImports.{imports_hold}
use Rattle.merge_proof.proofs.MergedStart.{funcs_are, start_holds, calls_are, calls_typed_at, calls_body}
use Rattle.merge_proof.proofs.MergedExports.{export_from}

pub globals_are : (parts : List Part) (names : List (Option Text)) → (merged parts names).globals ≡ by_part (λ p m. map (merged_global parts p) m.globals) parts
unfolding merged
globals_are parts names = refl

pub tables_are : (parts : List Part) (names : List (Option Text)) → (merged parts names).tables ≡ by_part (λ p m. m.tables) parts
unfolding merged
tables_are parts names = by_part_flat (λ m. m.tables) 0 parts

pub mems_are : (parts : List Part) (names : List (Option Text)) → (merged parts names).mems ≡ by_part (λ p m. m.mems) parts
unfolding merged
mems_are parts names = by_part_flat (λ m. m.mems) 0 parts

defined_are : (parts : List Part) → defined_funcs parts ≡ by_part (λ p m. map (new_func (map_of parts p m)) m.funcs) parts
unfolding defined_funcs
defined_are parts = refl

-- An entry of a list that is joined by part, with the part from which it comes.
record Of {A : Type 0} (f : ℕ → Module → List A) (parts : List Part) (x : A) : Type 0 where
  part : ℕ
  of : Module
  place : ℕ
  is_part : module_at parts part ≡ Some of
  got : slice_get (f part of) place ≡ Some x

comes : {A : Type 0} (f : ℕ → Module → List A) (parts : List Part) (xs : List A) (i : ℕ) (x : A) → xs ≡ by_part f parts → slice_get xs i ≡ Some x → Of f parts x
comes f parts xs i x e h =
    let r = by_part_back f 0 parts i x (ap (λ z. slice_get z i) (sym e) ∙ h) in
    let z : 0 + r.part ≡ r.part = omega arith in
    record { part = r.part; of = r.«module»; place = r.place; is_part = r.is_part; got = ap (λ p. slice_get (f p r.«module») r.place) (sym z) ∙ r.got }

-- ---- a function of the merged module ----

-- A function of the merged module that comes from a function of a part.
record PartFunc (parts : List Part) (h : Func) : Type 0 where
  part : ℕ
  of : Module
  place : ℕ
  func : Func
  is_part : module_at parts part ≡ Some of
  at : slice_get of.funcs place ≡ Some func
  new : h ≡ new_func (map_of parts part of) func

-- A function of the merged module comes from a part or is the one that calls several starts.
func_from : (parts : List Part) (names : List (Option Text)) (j : ℕ) (h : Func) → slice_get (merged parts names).funcs j ≡ Some h → PartFunc parts h ⊎ ((k : ℕ) × (slice_get (start_calls parts (starts parts)) k ≡ Some h))
func_from parts names j h at = by (append_from (defined_funcs parts) (start_calls parts (starts parts)) j h (ap (λ z. slice_get z j) (sym (funcs_are parts names)) ∙ at))
  where
    by : (slice_get (defined_funcs parts) j ≡ Some h) ⊎ ((k : ℕ) × (j ≡ length (defined_funcs parts) + k) × (slice_get (start_calls parts (starts parts)) k ≡ Some h)) → PartFunc parts h ⊎ ((k : ℕ) × (slice_get (start_calls parts (starts parts)) k ≡ Some h))
    by (inl g) =
        let r = comes (λ p m. map (new_func (map_of parts p m)) m.funcs) parts (defined_funcs parts) j h (defined_are parts) g in
        let f = map_from (new_func (map_of parts r.part r.of)) r.of.funcs r.place h r.got in
        inl (record { part = r.part; of = r.of; place = r.place; func = f.0; is_part = r.is_part; at = f.1; new = sym f.2 })
    by (inr r) = inr (r.0, r.2)

-- The type index of a function of a valid module is within the types.
func_typed : (m : Module) → ItemsHold m → (i : ℕ) (f : Func) → slice_get m.funcs i ≡ Some f → f.ty < length m.types
func_typed m holds i f at =
    let z = holds kind.Func i (slice_get_within m.funcs i f at) in
    let both : Some z.0 ≡ Some f = sym z.1 ∙ at in
    let same : z.0 ≡ f = cc in
    subst (λ (f : Func). f.ty < length m.types) same z.2

-- A valid module names only indices that have an entry in a map that covers it.
abbrev pub TreeNames : Type 0
TreeNames = (m : Remap) (t : Module) → ItemsHold t → Covers m t → TreeNamesOnly (with_entry m) t

abbrev pub Undeclared : Type 0
Undeclared = (m : Remap) (kept : Indices) (t u : Module) (k : ItemKind) (i j : ℕ) → TreesAgree m kept t u → ItemComesFrom m kept t u k i j → HoldsAt t k i → HoldsButForReferences u k j

module _ (law : EndsArePaths) (named : TreeNames) (undeclared : Undeclared) (parts : List Part) (names : List (Option Text)) (links : AllAreSuited parts) (valid : (p : ℕ) (m : Module) → module_at parts p ≡ Some m → ItemsHold m)
    (stands : (p : ℕ) (m : Module) (e : ConstExpr) → module_at parts p ≡ Some m → ConstComesFrom m (merged parts names) e (merged_const parts p e))
    (differ : (j : ℕ) (e : Export) → slice_get (merged parts names).exports j ≡ Some e → Contains (map (λ x. x.name) (take j (merged parts names).exports)) e.name → ⊥) where
  abbrev whole : Module
  whole = merged parts names

  abbrev entered : ℕ → Module → Indices
  entered p m = with_entry (map_of parts p m)

  names_only : (p : ℕ) (m : Module) → module_at parts p ≡ Some m → TreeNamesOnly (entered p m) m
  names_only p m is = named (map_of parts p m) m (valid p m is) (map_covers parts p m)

  agree : (p : ℕ) (m : Module) → module_at parts p ≡ Some m → TreesAgree (map_of parts p m) (entered p m) m whole
  agree p m is = trees_agree law parts names links p m is (valid p m is)

  -- An item that comes from an item of a valid part is valid, but for references.
  by_stand : (p : ℕ) (m : Module) (k : ItemKind) (i j : ℕ) → module_at parts p ≡ Some m → i < count_of m true k → ItemComesFrom (map_of parts p m) (entered p m) m whole k i j → HoldsButForReferences whole k j
  by_stand p m k i j is lt s = undeclared (map_of parts p m) (entered p m) m whole k i j (agree p m is) s (valid p m is k i lt)

  func_holds : (j : ℕ) → j < length whole.funcs → HoldsButForReferences whole kind.Func j
  func_holds j lt = let h = slice_get_there whole.funcs j lt in by h.0 h.1 (func_from parts names j h.0 h.1)
    where
      by : (h : Func) → slice_get whole.funcs j ≡ Some h → PartFunc parts h ⊎ ((k : ℕ) × (slice_get (start_calls parts (starts parts)) k ≡ Some h)) → HoldsButForReferences whole kind.Func j
      by h at (inl f) =
          by_stand f.part f.of kind.Func f.place j f.is_part (slice_get_within f.of.funcs f.place f.func f.at)
          (f.func, h, f.at, at, ((names_only f.part f.of f.is_part).funcs f.place f.func f.at).0, ap (λ (h : Func). h.ty) f.new)
      by h at (inr c) =
          let w = calls_are law parts names links valid c.0 h c.1 in
          (h, at, slice_get_within whole.types h.ty _ (calls_typed_at law parts names links valid h w))

  body_holds : (j : ℕ) → j < length whole.funcs → HoldsButForReferences whole kind.Body j
  body_holds j lt = let h = slice_get_there whole.funcs j lt in by h.0 h.1 (func_from parts names j h.0 h.1)
    where
      by : (h : Func) → slice_get whole.funcs j ≡ Some h → PartFunc parts h ⊎ ((k : ℕ) × (slice_get (start_calls parts (starts parts)) k ≡ Some h)) → HoldsButForReferences whole kind.Body j
      by h at (inl f) =
          by_stand f.part f.of kind.Body f.place j f.is_part (slice_get_within f.of.funcs f.place f.func f.at)
          (f.func, f.at, (names_only f.part f.of f.is_part).funcs f.place f.func f.at, at ∙ ap Some f.new)
      by h at (inr c) = calls_body law parts names links valid j h at (calls_are law parts names links valid c.0 h c.1)

  table_holds : (j : ℕ) → j < length whole.tables → HoldsButForReferences whole kind.Table j
  table_holds j lt =
      let x = slice_get_there whole.tables j lt in
      let r = comes (λ p m. m.tables) parts whole.tables j x.0 (tables_are parts names) x.1 in
      by_stand r.part r.of kind.Table r.place j r.is_part (slice_get_within r.of.tables r.place x.0 r.got) (x.1 ∙ sym r.got)

  memory_holds : (j : ℕ) → j < length whole.mems → HoldsButForReferences whole kind.Memory j
  memory_holds j lt =
      let x = slice_get_there whole.mems j lt in
      let r = comes (λ p m. m.mems) parts whole.mems j x.0 (mems_are parts names) x.1 in
      by_stand r.part r.of kind.Memory r.place j r.is_part (slice_get_within r.of.mems r.place x.0 r.got) (x.1 ∙ sym r.got)

  global_holds : (j : ℕ) → j < length whole.globals → HoldsButForReferences whole kind.Global j
  global_holds j lt =
      let x = slice_get_there whole.globals j lt in
      let r = comes (λ p m. map (merged_global parts p) m.globals) parts whole.globals j x.0 (globals_are parts names) x.1 in
      let g = map_from (merged_global parts r.part) r.of.globals r.place x.0 r.got in
      let init : ConstComesFrom r.of whole g.0.init x.0.init = subst (λ (h : GlobalDef). ConstComesFrom r.of whole g.0.init h.init) g.2 (stands r.part r.of g.0.init r.is_part) in
      by_stand r.part r.of kind.Global r.place j r.is_part (slice_get_within r.of.globals r.place g.0 g.1) (g.0, x.0, g.1, x.1, ap (λ (h : GlobalDef). h.ty.ty) (sym g.2), init)

  export_holds : (j : ℕ) → j < length whole.exports → HoldsButForReferences whole kind.Export j
  export_holds j lt =
      let e = slice_get_there whole.exports j lt in
      let r = export_from parts names j e.0 e.1 in
      let in_exports = slice_get_within r.1.exports r.2 r.3 r.5 in
      by_stand r.0 r.1 kind.Export r.2 j r.4 in_exports (r.3, e.0, r.5, e.1, (names_only r.0 r.1 r.4).exports r.2 r.3 r.5, r.6, differ j e.0 e.1)

  -- ---- segments ----

  elem_mode_stands : (p : ℕ) (m : Module) (mode : ElemMode) → module_at parts p ≡ Some m → ElemModeNamesOnly (entered p m) mode → ElemModeComesFrom (map_of parts p m) (entered p m) m whole mode (merged_elem_mode parts p (map_of parts p m) mode)
  elem_mode_stands p m (elem.Active table offset) is n = active n.0 (stands p m offset is)
  elem_mode_stands p m elem.Passive is n = passive
  elem_mode_stands p m elem.Declarative is n = declarative

  elem_holds : (j : ℕ) → j < length whole.elems → HoldsButForReferences whole kind.Elem j
  elem_holds j lt =
      let x = slice_get_there whole.elems j lt in
      let r = comes (λ p m. map (merged_elem parts p (map_of parts p m)) m.elems) parts whole.elems j x.0 (elems_are parts names) x.1 in
      let s = map_from (merged_elem parts r.part (map_of parts r.part r.of)) r.of.elems r.place x.0 r.got in
      let in_elems = slice_get_within r.of.elems r.place s.0 s.1 in
      by_stand r.part r.of kind.Elem r.place j r.is_part in_elems (
        s.0,
        x.0,
        s.1,
        x.1,
        ap (λ (s : ElemSeg). s.ty) (sym s.2),
        subst (ItemsComeFrom r.of whole s.0) s.2 (items r.part r.of s.0 r.is_part),
        subst (λ (x : ElemSeg). ElemModeComesFrom (map_of parts r.part r.of) (entered r.part r.of) r.of whole s.0.mode x.mode) s.2 (elem_mode_stands r.part r.of s.0.mode r.is_part ((names_only r.part r.of r.is_part).elem_modes r.place s.0 s.1)),
      )
    where
      items : (p : ℕ) (m : Module) (s : ElemSeg) → module_at parts p ≡ Some m → ItemsComeFrom m whole s (merged_elem parts p (map_of parts p m) s)
      items p m s is n d h = let e = map_from (merged_const parts p) s.items n d h in (n, e.0, e.1, subst (ConstComesFrom m whole e.0) e.2 (stands p m e.0 is))

  data_mode_stands : (p : ℕ) (m : Module) (mode : DataMode) → module_at parts p ≡ Some m → DataModeNamesOnly (entered p m) mode → DataModeComesFrom (map_of parts p m) (entered p m) m whole mode (merged_data_mode parts p (map_of parts p m) mode)
  data_mode_stands p m («data».Active memory offset) is n = active n.0 (stands p m offset is)
  data_mode_stands p m «data».Passive is n = passive

  data_holds : (j : ℕ) → j < length whole.datas → HoldsButForReferences whole kind.Segment j
  data_holds j lt =
      let x = slice_get_there whole.datas j lt in
      let r = comes (λ p m. map (merged_data parts p (map_of parts p m)) m.datas) parts whole.datas j x.0 (datas_are parts names) x.1 in
      let s = map_from (merged_data parts r.part (map_of parts r.part r.of)) r.of.datas r.place x.0 r.got in
      let in_datas = slice_get_within r.of.datas r.place s.0 s.1 in
      by_stand r.part r.of kind.Segment r.place j r.is_part in_datas
      (s.0, x.0, s.1, x.1, subst (λ (x : DataSeg). DataModeComesFrom (map_of parts r.part r.of) (entered r.part r.of) r.of whole s.0.mode x.mode) s.2 (data_mode_stands r.part r.of s.0.mode r.is_part ((names_only r.part r.of r.is_part).data_modes r.place s.0 s.1)))

  -- ---- all items ----

  pub items_hold : IsValidButForReferences whole
  items_hold kind.Import j lt = imports_hold law parts links valid names j lt
  items_hold kind.Memories j lt = absurd (omega (arith, lt))
  items_hold kind.Func j lt = func_holds j lt
  items_hold kind.Table j lt = table_holds j lt
  items_hold kind.Memory j lt = memory_holds j lt
  items_hold kind.Global j lt = global_holds j lt
  items_hold kind.Export j lt = export_holds j lt
  items_hold kind.Start j lt = start_holds law parts names links valid j lt
  items_hold kind.Elem j lt = elem_holds j lt
  items_hold kind.Segment j lt = data_holds j lt
  items_hold kind.Body j lt = body_holds j lt

  -- ---- locals ----

  pub locals_few : ((p : ℕ) (m : Module) → module_at parts p ≡ Some m → IsBounded m) → (j : ℕ) (h : Func) → slice_get whole.funcs j ≡ Some h → local_count whole.types h < 2 ^ 32
  locals_few bounded j h at = by (func_from parts names j h at)
    where
      by : PartFunc parts h ⊎ ((k : ℕ) × (slice_get (start_calls parts (starts parts)) k ≡ Some h)) → local_count whole.types h < 2 ^ 32
      by (inl f) =
          let t = slice_get_there f.of.types f.func.ty (func_typed f.of (valid f.part f.of f.is_part) f.place f.func f.at) in
          let ty : slice_get whole.types (new_func (map_of parts f.part f.of) f.func).ty ≡ slice_get f.of.types f.func.ty =
          ap (λ z. slice_get z (slice_index (map_of parts f.part f.of).types f.func.ty)) (types_are parts names) ∙ type_stands parts f.part f.of f.func.ty t.0 f.is_part t.1 ∙ sym t.1 in
          let same : local_count whole.types h ≡ local_count f.of.types f.func = ap (local_count whole.types) f.new ∙ ap (λ o. param_count o + declared_count f.func.locals) ty in
          subst (λ n. n < 2 ^ 32) (sym same) ((bounded f.part f.of f.is_part).locals f.place f.func f.at)
      by (inr c) =
          let w = calls_are law parts names links valid c.0 h c.1 in
          let same : local_count whole.types h ≡ 0 = ap₂ (λ o ls. param_count o + declared_count ls) (calls_typed_at law parts names links valid h w) (ap (λ (h : Func). h.locals) w.is) in
          subst (λ n. n < 2 ^ 32) (sym same) (omega arith)
