-- The laws of lower crates on which the lemmas about values and stores of parts and their merged
-- module rest.
use Rattle.base_lists.proofs.Common.{◌≡◌, ℕ, ◌<◌, List, length, Some, None, true, IsTrue, slice_get, slice_get_within, arith}
use Rattle.wasm_tree_spec.specs.Prelude.{Ref, Func, GlobalDef, ElemSeg, DataSeg, ValType, ConstExpr, Module}
use Rattle.wasm_valid.specs.declared.kinds.ItemKind.TheVariants as kind
use Rattle.wasm_valid.specs.Prelude.{const_type, IsValid, ElemModeHolds, DataModeHolds, ValidWhereItemsHold}
use Rattle.wasm_meaning.specs.Prelude.{Inst, Part, Read, module_at, read_of, Environment}
use Rattle.index_remap.specs.Prelude.{fits_tree, RenumberedCodeIsRelated}
use Rattle.world_simulation.specs.ModulesAlone.{SpacesAreImportsAndOwn, ReadsStay}
use Rattle.world_simulation.specs.NamedIndices.{FittingCodeIsNamed}
use Rattle.world_simulation.specs.Prelude.{OwnEntitiesCorrespond, AllocatedStoresHaveDefinitions, DatasAreListedByPart, DeclaringSegmentsAreAllocated, ElemsAreListedByPart, IndicesNameImportsOrDefinitions, PartsAddWhatCanBeAllocated, SpacesAreImportsAndDefinitions}
use Rattle.wasm_meaning.specs.Counted.{EachPartAddsItsDefinitions, NothingIsDefinedBeforeTheFirst}
use Rattle.merge_names.specs.declared.mode.Mode.{Mode}
use Rattle.merge_spec.specs.Prelude.{link_fault, joined_module, map_of}
use Rattle.merge_proof.specs.MapEntries.{HasEntry}
use Rattle.merge_proof.specs.Joinable.{CanBeJoined, EachPart}
use Rattle.merge_proof.specs.AgreeingInstances.{PartAgrees}

pub record Laws : Type 0 where
  -- The law of wasm_valid.
  pub items : ValidWhereItemsHold
  -- The laws on the validity of merged modules.
  pub valid : (parts : List Part) (mode : Mode) → CanBeJoined parts mode → IsValid (joined_module parts mode)
  pub entries : (parts : List Part) (p : ℕ) (m : Module) → IsValid m → IsTrue (fits_tree (map_of parts p m) m)
  pub reads : (parts : List Part) (p : ℕ) (m : Module) (e : ConstExpr) (ty : ValType) (r : Read) → EachPart IsValid parts → link_fault parts true ≡ None → module_at parts p ≡ Some m → const_type m e ≡ Some ty → read_of parts p e ≡ Some r → HasEntry parts r
  pub there : (parts : List Part) (p : ℕ) (m : Module) (e : ConstExpr) (ty : ValType) → EachPart IsValid parts → link_fault parts true ≡ None → module_at parts p ≡ Some m → const_type m e ≡ Some ty → (r : Read) × (read_of parts p e ≡ Some r)
  -- The laws of world_simulation.
  pub alone_reads : ReadsStay
  pub alone_spaces : SpacesAreImportsAndOwn
  pub own : OwnEntitiesCorrespond
  pub named : FittingCodeIsNamed
  pub index_spaces : SpacesAreImportsAndDefinitions
  pub names : IndicesNameImportsOrDefinitions
  pub placed : AllocatedStoresHaveDefinitions
  pub added : PartsAddWhatCanBeAllocated
  pub declared : DeclaringSegmentsAreAllocated
  pub elems_listed : ElemsAreListedByPart
  pub datas_listed : DatasAreListedByPart
  -- The laws of wasm_meaning.
  pub none_before : NothingIsDefinedBeforeTheFirst
  pub before_next : EachPartAddsItsDefinitions
  -- The law of index_remap.
  pub code : RenumberedCodeIsRelated

-- The instance of each part agrees with that of the merged module.
abbrev pub EachAgrees : Environment → List Part → List Inst → Inst → Type 0
EachAgrees env parts insts j = (p : ℕ) (m : Module) → module_at parts p ≡ Some m → (i : Inst) × (slice_get insts p ≡ Some i) × PartAgrees env parts p m i j

-- ---- the items of a valid module ----

module _ (laws : Laws) (m : Module) (valid : IsValid m) where
  pub global_typed : (n : ℕ) (g : GlobalDef) → slice_get m.globals n ≡ Some g → const_type m g.init ≡ Some g.ty.ty
  global_typed n g h = let z = (laws.items m).0 valid kind.Global n (slice_get_within _ n g h) in cc

  pub item_typed : (n : ℕ) (s : ElemSeg) → slice_get m.elems n ≡ Some s → (l : ℕ) (e : ConstExpr) → slice_get s.items l ≡ Some e → const_type m e ≡ Some (Ref s.ty)
  item_typed n s h = let z = (laws.items m).0 valid kind.Elem n (slice_get_within _ n s h) in grind arith

  pub elem_holds : (n : ℕ) (s : ElemSeg) → slice_get m.elems n ≡ Some s → ElemModeHolds m s.ty s.mode
  elem_holds n s h = let z = (laws.items m).0 valid kind.Elem n (slice_get_within _ n s h) in grind arith

  pub data_holds : (n : ℕ) (d : DataSeg) → slice_get m.datas n ≡ Some d → DataModeHolds m d.mode
  data_holds n d h = let z = (laws.items m).0 valid kind.Segment n (slice_get_within _ n d h) in grind arith

  pub func_typed : (n : ℕ) (f : Func) → slice_get m.funcs n ≡ Some f → f.ty < length m.types
  func_typed n f h = let z = (laws.items m).0 valid kind.Func n (slice_get_within _ n f h) in grind arith
