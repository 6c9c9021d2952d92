-- The definitions that are moved from a part are those that the merged module has of it.
use Rattle.base_lists.proofs.Common.{◌≡◌, ◌∙◌, ap, ap₂, sym, subst, refl, ℕ, suc, ◌+◌, ◌≤◌, List, [], ◌∷◌, ◌++◌, map, take, length, Some, None, Option, slice_get, slice_index, unwrap_or, option_and_then, arith, slice_get_within, take_all, map_at}
use Rattle.wasm_tree_spec.specs.Prelude.{ConstExpr, GlobalDef, Func, TableType, Limits, RefType, ElemMode, ElemSeg, DataMode, DataSeg, Module, ValType, I32, Ref}
use Rattle.wasm_tree.specs.declared.module.ConstExpr.TheVariants as const
use Rattle.wasm_tree.specs.declared.module.ElemMode.TheVariants as elem
use Rattle.wasm_tree.specs.declared.module.DataMode.TheVariants as data'
use Rattle.wasm_valid.specs.Prelude.{const_type, IsValid, ElemModeHolds, DataModeHolds, ValidWhereItemsHold}
use Rattle.wasm_valid.specs.declared.kinds.ItemKind.TheVariants as kind
use Rattle.wasm_meaning.specs.Prelude.{Part, module_at}
use Rattle.index_remap.specs.declared.remap.Remap.{Remap}
use Rattle.index_remap.specs.Prelude.{new_func}
use Rattle.merge_spec.specs.declared.parts.Part as declared
use Rattle.merge_spec.specs.Prelude.{named_module, named_modules, by_part_from, map_of, merged_const, merged_global, merged_elem_mode, merged_elem, merged_data_mode, merged_data}
use Rattle.merge_spec.specs.Merged.{defined_funcs}
use Rattle.merge_join.specs.Reads.{HasType}
use Rattle.merge_join.specs.Moved.{moved_const, moved_global, moved_elem_mode, moved_elem, moved_data_mode, moved_data, with_moved, AreValues}
use Rattle.merge_join.specs.Planned.{IsMoved}
use Rattle.merge_join.proofs.ByPart.{named_length, part_more, flat_is}
use Rattle.merge_join.proofs.Reading.{becomes_new}

map_alike : {A B : Type 0} (f g : A → B) (xs : List A) → ((i : ℕ) (x : A) → slice_get xs i ≡ Some x → f x ≡ g x) → map f xs ≡ map g xs
map_alike f g [] h = refl
map_alike f g (x ∷ xs) h = ap₂ (λ y ys. y ∷ ys) (h 0 x refl) (map_alike f g xs (λ i. h (suc i)))

same_item : {A : Type 0} (x y : A) (o : Option A) → o ≡ Some x → o ≡ Some y → x ≡ y
same_item x y o h k = let both : Some x ≡ Some y = sym h ∙ k in cc

-- The typing of an element segment of a part.
record ElemHeld (m : Module) (s : ElemSeg) : Type 0 where
  items : (j : ℕ) (e : ConstExpr) → slice_get s.items j ≡ Some e → const_type m e ≡ Some (Ref s.ty)
  mode : ElemModeHolds m s.ty s.mode

abbrev behind : Module → List Func → List TableType → List Limits → List GlobalDef → List ElemSeg → List DataSeg → Module
behind t funcs tables mems globals elems datas =
    record t {
      funcs = t.funcs ++ funcs;
      tables = t.tables ++ tables;
      mems = t.mems ++ mems;
      globals = t.globals ++ globals;
      elems = t.elems ++ elems;
      datas = t.datas ++ datas;
    }

-- The tree with the definitions that the merged module has of a part appended.
abbrev with_part : List Part → ℕ → Module → Module → Module
with_part ps p m t =
    behind t (map (new_func (map_of ps p m)) m.funcs) m.tables m.mems (map (merged_global ps p) m.globals) (map (merged_elem ps p (map_of ps p m)) m.elems) (map (merged_data ps p (map_of ps p m)) m.datas)

module _ (law : ValidWhereItemsHold) (ps : List Part) (p : ℕ) (m : Module) (values : List ConstExpr) (at : module_at ps p ≡ Some m) (valid : IsValid m) (are : AreValues ps p values) where
  abbrev r : Remap
  r = map_of ps p m

  const_moved : (e : ConstExpr) → HasType ps p e → moved_const r values e ≡ merged_const ps p e
  const_moved (const.I32 v) typed = becomes_new ps p (const.I32 v) m (λ x e. cc) at
  const_moved (const.I64 v) typed = becomes_new ps p (const.I64 v) m (λ x e. cc) at
  const_moved (const.Null t) typed = becomes_new ps p (const.Null t) m (λ x e. cc) at
  const_moved (const.Func f) typed = becomes_new ps p (const.Func f) m (λ x e. cc) at
  const_moved (const.Global x) typed = ap (λ o. unwrap_or o (const.Global x)) (are x typed)

  typed_as : (e : ConstExpr) (ty : ValType) → const_type m e ≡ Some ty → moved_const r values e ≡ merged_const ps p e
  typed_as e ty h = const_moved e (m, ty, at, h)

  global_moved : (i : ℕ) (g : GlobalDef) → slice_get m.globals i ≡ Some g → moved_global r values g ≡ merged_global ps p g
  global_moved i g here =
      let h = (law m).0 valid kind.Global i (slice_get_within m.globals i g here) in
      let same : h.0 ≡ g = same_item h.0 g (slice_get m.globals i) h.1 here in
      ap (λ e. record g { init = e }) (typed_as g.init g.ty.ty (subst (λ (g : GlobalDef). const_type m g.init ≡ Some g.ty.ty) same h.2))

  elem_mode_moved : (ty : RefType) (mode : ElemMode) → ElemModeHolds m ty mode → moved_elem_mode r values mode ≡ merged_elem_mode ps p r mode
  elem_mode_moved ty (elem.Active table offset) holds = ap (elem.Active (slice_index r.tables table)) (typed_as offset I32 holds.1)
  elem_mode_moved ty elem.Passive holds = refl
  elem_mode_moved ty elem.Declarative holds = refl

  elem_moved : (i : ℕ) (s : ElemSeg) → slice_get m.elems i ≡ Some s → moved_elem r values s ≡ merged_elem ps p r s
  elem_moved i s here =
      let h = (law m).0 valid kind.Elem i (slice_get_within m.elems i s here) in
      let same : h.0 ≡ s = same_item h.0 s (slice_get m.elems i) h.1 here in
      let held = subst (ElemHeld m) same (record { items = h.2; mode = h.3 }) in
      ap₂ (λ mode items. record s { mode = mode; items = items }) (elem_mode_moved s.ty s.mode held.mode)
      (map_alike (moved_const r values) (merged_const ps p) s.items (λ j e there. typed_as e (Ref s.ty) (held.items j e there)))

  data_mode_moved : (mode : DataMode) → DataModeHolds m mode → moved_data_mode r values mode ≡ merged_data_mode ps p r mode
  data_mode_moved (data'.Active memory offset) holds = ap (data'.Active (slice_index r.mems memory)) (typed_as offset I32 holds.1)
  data_mode_moved data'.Passive holds = refl

  data_moved : (i : ℕ) (s : DataSeg) → slice_get m.datas i ≡ Some s → moved_data r values s ≡ merged_data ps p r s
  data_moved i s here =
      let h = (law m).0 valid kind.Segment i (slice_get_within m.datas i s here) in
      let same : h.0 ≡ s = same_item h.0 s (slice_get m.datas i) h.1 here in
      ap (λ mode. record s { mode = mode }) (data_mode_moved s.mode (subst (λ (s : DataSeg). DataModeHolds m s.mode) same h.2))

  pub module_moved : (t : Module) → with_moved r values m t ≡ with_part ps p m t
  module_moved t =
      let f = map (new_func r) m.funcs in
      ap (λ x. behind t f m.tables m.mems x (map (moved_elem r values) m.elems) (map (moved_data r values) m.datas)) (map_alike (moved_global r values) (merged_global ps p) m.globals global_moved)
      ∙ ap (λ x. behind t f m.tables m.mems (map (merged_global ps p) m.globals) x (map (moved_data r values) m.datas)) (map_alike (moved_elem r values) (merged_elem ps p r) m.elems elem_moved)
      ∙ ap (behind t f m.tables m.mems (map (merged_global ps p) m.globals) (map (merged_elem ps p r) m.elems)) (map_alike (moved_data r values) (merged_data ps p r) m.datas data_moved)

-- ---- part after part ----

-- The definitions of some of the parts, in an otherwise empty tree.
abbrev pub filled : (ps some : List Part) → Module
filled ps some = record {
  types = [];
  imports = [];
  funcs = by_part_from (λ p m. map (new_func (map_of ps p m)) m.funcs) 0 some;
  tables = by_part_from (λ p m. m.tables) 0 some;
  mems = by_part_from (λ p m. m.mems) 0 some;
  globals = by_part_from (λ p m. map (merged_global ps p) m.globals) 0 some;
  exports = [];
  start = None;
  elems = by_part_from (λ p m. map (merged_elem ps p (map_of ps p m)) m.elems) 0 some;
  datas = by_part_from (λ p m. map (merged_data ps p (map_of ps p m)) m.datas) 0 some;
}

abbrev made : List Func → List TableType → List Limits → List GlobalDef → List ElemSeg → List DataSeg → Module
made funcs tables mems globals elems datas = record {
  types = [];
  imports = [];
  funcs = funcs;
  tables = tables;
  mems = mems;
  globals = globals;
  exports = [];
  start = None;
  elems = elems;
  datas = datas;
}

-- The definitions of the first parts, extended by those of one part.
filled_more : (ps : List Part) (p : ℕ) (m : Module) → module_at ps p ≡ Some m → with_part ps p m (filled ps (take p ps)) ≡ filled ps (take (p + 1) ps)
filled_more ps p m at =
    let old = filled ps (take p ps) in
    let new = with_part ps p m old in
    let t = filled ps (take (p + 1) ps) in
    ap (λ x. made x new.tables new.mems new.globals new.elems new.datas) (part_more (λ p m. map (new_func (map_of ps p m)) m.funcs) ps p m old.funcs new.funcs at refl refl)
    ∙ ap (λ x. made t.funcs x new.mems new.globals new.elems new.datas) (part_more (λ p m. m.tables) ps p m old.tables new.tables at refl refl)
    ∙ ap (λ x. made t.funcs t.tables x new.globals new.elems new.datas) (part_more (λ p m. m.mems) ps p m old.mems new.mems at refl refl)
    ∙ ap (λ x. made t.funcs t.tables t.mems x new.elems new.datas) (part_more (λ p m. map (merged_global ps p) m.globals) ps p m old.globals new.globals at refl refl)
    ∙ ap (λ x. made t.funcs t.tables t.mems t.globals x new.datas) (part_more (λ p m. map (merged_elem ps p (map_of ps p m)) m.elems) ps p m old.elems new.elems at refl refl)
    ∙ ap (made t.funcs t.tables t.mems t.globals t.elems) (part_more (λ p m. map (merged_data ps p (map_of ps p m)) m.datas) ps p m old.datas new.datas at refl refl)

-- The tree holds the definitions of one more part once these are moved by its map and values.
pub moved_more : ValidWhereItemsHold → (ps : List Part) (p : ℕ) (m : Module) (r : Remap) (values : List ConstExpr) (old new : Module) → module_at ps p ≡ Some m → IsValid m → r ≡ map_of ps p m → AreValues ps p values →
    old ≡ filled ps (take p ps) → new ≡ with_moved r values m old → new ≡ filled ps (take (p + 1) ps)
moved_more law ps p m r values old new at valid is are was now =
    now ∙ ap (λ r. with_moved r values m old) is ∙ module_moved law ps p m values at valid are old ∙ ap (with_part ps p m) was ∙ filled_more ps p m at

-- The tree holds the definitions of all parts once all parts are moved.
pub moved_all : (parts : List declared.Part) (p : ℕ) (tree : Module) → length parts ≤ p → tree ≡ filled (named_modules parts) (take p (named_modules parts)) → IsMoved (named_modules parts) tree
unfolding defined_funcs
moved_all parts p tree end is =
    let ps = named_modules parts in
    let all : tree ≡ filled ps ps = is ∙ ap (filled ps) (take_all p ps (omega (arith, end, named_length parts))) in
    record {
      funcs_are = ap (λ (m : Module). m.funcs) all;
      tables_are = ap (λ (m : Module). m.tables) all ∙ sym (flat_is (λ m. m.tables) ps);
      mems_are = ap (λ (m : Module). m.mems) all ∙ sym (flat_is (λ m. m.mems) ps);
      globals_are = ap (λ (m : Module). m.globals) all;
      elems_are = ap (λ (m : Module). m.elems) all;
      datas_are = ap (λ (m : Module). m.datas) all;
    }

pub module_of_part : (parts : List declared.Part) (n : ℕ) (x : declared.Part) → slice_get parts n ≡ Some x → module_at (named_modules parts) n ≡ Some x.«module»
module_of_part parts n x h = ap (λ o. option_and_then {T = Part} {U = Module} (λ part. Some part.«module») o) (map_at named_module parts n x h)
