-- A module that is added to one of two related stores, as a loader adds one (WebAssembly Core 2.0,
-- section 4.5.4).
use Rattle.std.specs.Prelude.{◌≡◌, ℕ, Bool, List, Some, slice_get}
use Rattle.wasm_tree_spec.specs.Prelude.{Space, Tables, Memories, ConstExpr, ElemSeg, DataSeg, Module}
use Rattle.wasm_tree.specs.declared.module.ElemMode.TheVariants as elem
use Rattle.wasm_tree.specs.declared.module.DataMode.TheVariants as data'
use Rattle.wasm_meaning.specs.Prelude.{Inst, Store, ExternalValue, Added, added}
use Rattle.run_simulation.specs.Prelude.{StoreRel, turned, HasNoPartner, passed}

-- `alone` holds of the tables and memories into which the module's active segments are copied
pub record WritesAlone (alone : Space → ℕ → Type 0) (m : Module) (i : Inst) : Type 0 where
  pub tables : (n : ℕ) (e : ElemSeg) (x : ℕ) (offset : ConstExpr) → slice_get m.elems n ≡ Some e → e.mode ≡ elem.Active x offset → (a : ℕ) → slice_get i.tables x ≡ Some a → alone Tables a
  pub mems : (n : ℕ) (d : DataSeg) (x : ℕ) (offset : ConstExpr) → slice_get m.datas n ≡ Some d → d.mode ≡ data'.Active x offset → (a : ℕ) → slice_get i.mems x ≡ Some a → alone Memories a

-- The stores stay related when the module is added to the second, if its active segments are copied
-- only into tables and memories without a partner. It makes no difference which functions are
-- listed, and whether a segment traps.
abbrev pub AddedToTheSecondStayRelated : Type 0
AddedToTheSecondStayRelated =
    (of named : Space → ℕ → ℕ → Bool) (l : List ℕ) (s z : Store) (m : Module) (things : List ExternalValue) (a : Added) → StoreRel (passed of named l) s z → added z m things ≡ Some a →
    WritesAlone (HasNoPartner (passed of named l)) m a.inst →
    StoreRel (passed of named l) s a.filled.store

-- The same when it is added to the first.
abbrev pub AddedToTheFirstStayRelated : Type 0
AddedToTheFirstStayRelated =
    (of named : Space → ℕ → ℕ → Bool) (l : List ℕ) (s z : Store) (m : Module) (things : List ExternalValue) (a : Added) → StoreRel (passed of named l) s z → added s m things ≡ Some a →
    WritesAlone (HasNoPartner (turned (passed of named l))) m a.inst →
    StoreRel (passed of named l) a.filled.store z
