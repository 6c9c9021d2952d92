-- The segments of two instantiated worlds in the order in which they are copied (WebAssembly Core
-- 2.0, section 4.5.4): partners are in the same order, and an active segment without a partner is
-- in bounds and writes only what has no partner.
use Rattle.std.specs.Prelude.{◌≡◌, ℕ, ◌+◌, ◌*◌, ◌≤◌, List, [], ◌∷◌, length, Option, Some, slice_get}
use Rattle.base_lists.specs.Options.{◌>>=◌}
use Rattle.wasm_tree_spec.specs.Prelude.{Space, Tables, Memories, ElementSegments, DataSegments, ConstExpr, ElemMode, ElemSeg, DataMode, DataSeg}
use Rattle.wasm_tree.specs.declared.module.ElemMode.TheVariants as elem
use Rattle.wasm_tree.specs.declared.module.DataMode.TheVariants as data'
use Rattle.wasm_num.specs.Operations.{W32}
use Rattle.wasm_meaning.specs.Prelude.{Val, num_of, Store, Environment, PlacedSegment, placed_elems, placed_datas}
use Rattle.run_simulation.specs.Prelude.{Pairing, OptRel, turned, HasNoPartner}
use Rattle.world_simulation.specs.CorrespondingDefinitions.{Instantiated, DefinedAt, values_in}

-- partners are in the same order; between them there may be items without a partner
pub data InOrder {A B : Type 0} (partners : A → B → Type 0) (first : A → Type 0) (second : B → Type 0) : List A → List B → Type 0 where
  ends : InOrder partners first second [] []
  both : {x : A} {y : B} {xs : List A} {ys : List B} → partners x y → InOrder partners first second xs ys → InOrder partners first second (x ∷ xs) (y ∷ ys)
  only_first : {x : A} {xs : List A} {ys : List B} → first x → InOrder partners first second xs ys → InOrder partners first second (x ∷ xs) ys
  only_second : {y : B} {xs : List A} {ys : List B} → second y → InOrder partners first second xs ys → InOrder partners first second xs (y ∷ ys)

abbrev pub offset_in : (ConstExpr → Option Val) → ConstExpr → Option ℕ
offset_in value e = value e >>= num_of W32

-- ---- element segments ----

-- Both are active and related, and are copied to related tables at equal offsets; or both are
-- passive, or both declarative.
pub data ElemsPartner (R : Pairing) (value second_value : ConstExpr → Option Val) (x y : PlacedSegment ElemSeg) : ElemMode → ElemMode → Type 0 where
  active : {t u : ℕ} {d e : ConstExpr} → R.of ElementSegments x.address y.address → OptRel (R.of Tables) (slice_get x.inst.tables t) (slice_get y.inst.tables u) →
      offset_in value d ≡ offset_in second_value e → ElemsPartner R value second_value x y (elem.Active t d) (elem.Active u e)
  passive : ElemsPartner R value second_value x y elem.Passive elem.Passive
  declarative : ElemsPartner R value second_value x y elem.Declarative elem.Declarative

-- Active in bounds of a defined table, and neither the table nor the segment has a partner; or not
-- active.
pub data ElemAlone (alone : Space → ℕ → Type 0) (env : Environment) (w : Instantiated) (x : PlacedSegment ElemSeg) : ElemMode → Type 0 where
  active : {t n a : ℕ} {e : ConstExpr} → slice_get x.inst.tables t ≡ Some a → alone Tables a → (table : DefinedAt env w Tables (λ m. m.tables) a) → alone ElementSegments x.address →
      offset_in (values_in env w x.part) e ≡ Some n → n + length x.segment.items ≤ table.definition.limits.min → ElemAlone alone env w x (elem.Active t e)
  passive : ElemAlone alone env w x elem.Passive
  declarative : ElemAlone alone env w x elem.Declarative

-- ---- data segments ----

-- the same for data segments, which are not declarative
pub data DatasPartner (R : Pairing) (value second_value : ConstExpr → Option Val) (x y : PlacedSegment DataSeg) : DataMode → DataMode → Type 0 where
  active : {t u : ℕ} {d e : ConstExpr} → R.of DataSegments x.address y.address → OptRel (R.of Memories) (slice_get x.inst.mems t) (slice_get y.inst.mems u) →
      offset_in value d ≡ offset_in second_value e → DatasPartner R value second_value x y (data'.Active t d) (data'.Active u e)
  passive : DatasPartner R value second_value x y data'.Passive data'.Passive

-- the same for data segments and memories
pub data DataAlone (alone : Space → ℕ → Type 0) (env : Environment) (w : Instantiated) (x : PlacedSegment DataSeg) : DataMode → Type 0 where
  active : {t n a : ℕ} {e : ConstExpr} → slice_get x.inst.mems t ≡ Some a → alone Memories a → (memory : DefinedAt env w Memories (λ m. m.mems) a) → alone DataSegments x.address →
      offset_in (values_in env w x.part) e ≡ Some n → n + length x.segment.bytes ≤ 65536 * memory.definition.min → DataAlone alone env w x (data'.Active t e)
  passive : DataAlone alone env w x data'.Passive

-- ---- all of them ----

abbrev pub ElemsInOrder : Pairing → Environment → Instantiated → Instantiated → Type 0
ElemsInOrder R env v w =
    InOrder (λ x y. ElemsPartner R (values_in env v x.part) (values_in env w y.part) x y x.segment.mode y.segment.mode) (λ x. ElemAlone (HasNoPartner (turned R)) env v x x.segment.mode)
    (λ y. ElemAlone (HasNoPartner R) env w y y.segment.mode)
    (placed_elems 0 v.parts v.insts) (placed_elems 0 w.parts w.insts)

abbrev pub DatasInOrder : Pairing → Environment → Instantiated → Instantiated → Type 0
DatasInOrder R env v w =
    InOrder (λ x y. DatasPartner R (values_in env v x.part) (values_in env w y.part) x y x.segment.mode y.segment.mode) (λ x. DataAlone (HasNoPartner (turned R)) env v x x.segment.mode)
    (λ y. DataAlone (HasNoPartner R) env w y y.segment.mode)
    (placed_datas 0 v.parts v.insts) (placed_datas 0 w.parts w.insts)

-- ---- what is kept where a segment without a partner is copied ----

-- the addresses of the first store that the relation relates, and those of the second
abbrev pub in_first : Pairing → Space → ℕ → Type 0
in_first R k a = (b : ℕ) × R.of k a b

abbrev pub in_second : Pairing → Space → ℕ → Type 0
in_second R k b = (a : ℕ) × R.of k a b

-- the store is as it was where it is related
pub record RelatedStay (related : Space → ℕ → Type 0) (s t : Store) : Type 0 where
  pub funcs : t.funcs ≡ s.funcs
  pub globals : t.globals ≡ s.globals
  pub tables : (a : ℕ) → related Tables a → slice_get t.tables a ≡ slice_get s.tables a
  pub mems : (a : ℕ) → related Memories a → slice_get t.mems a ≡ slice_get s.mems a
  pub elems : (a : ℕ) → related ElementSegments a → slice_get t.elems a ≡ slice_get s.elems a
  pub datas : (a : ℕ) → related DataSegments a → slice_get t.datas a ≡ slice_get s.datas a
