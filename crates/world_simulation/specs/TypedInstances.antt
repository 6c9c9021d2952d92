-- Typed instances, in which each index names what the module says: the instance of a module is
-- typed when the module is instantiated, and it stays so (WebAssembly Core 2.0, section 4.5.1).
use Rattle.std.specs.Prelude.{◌≡◌, ℕ, true, List, Option, Some, slice_get}
use Rattle.wasm_tree_spec.specs.Prelude.{Limits, TableType, GlobalType, ImportDesc, Module, funcs_of, tables_of, memories_of, globals_of}
use Rattle.wasm_tree.specs.declared.module.ImportDesc.TheVariants as im
use Rattle.wasm_tree.specs.declared.module.ExportDesc.TheVariants as ex
use Rattle.wasm_meaning.specs.Prelude.{Inst, Store, ExternalValue, address_in, is_match, Added, added}
use Rattle.world_simulation.specs.StoreExtension.{StaysIn}

-- there is an external value, which in this store is what an import of this kind and type asks for
abbrev pub Offers : Store → Module → ImportDesc → Option ExternalValue → Type 0
Offers s m d o = (x : ExternalValue) × (o ≡ Some x) × (is_match s m d x ≡ Some true)

-- each index of the module names such an external value, with the type and the limits that the
-- module says
pub record IsTyped (m : Module) (i : Inst) (s : Store) : Type 0 where
  pub funcs : (n ty : ℕ) → slice_get (funcs_of m) n ≡ Some ty → Offers s m (im.Func ty) (address_in i (ex.Func n))
  pub tables : (n : ℕ) (t : TableType) → slice_get (tables_of m) n ≡ Some t → Offers s m (im.Table t) (address_in i (ex.Table n))
  pub mems : (n : ℕ) (l : Limits) → slice_get (memories_of m) n ≡ Some l → Offers s m (im.Memory l) (address_in i (ex.Memory n))
  pub globals : (n : ℕ) (g : GlobalType) → slice_get (globals_of m) n ≡ Some g → Offers s m (im.Global g) (address_in i (ex.Global n))

-- The instance of a module that is added to a store is typed, whether or not a segment traps.
abbrev pub AddedModulesAreTyped : Type 0
AddedModulesAreTyped = (s : Store) (m : Module) (things : List ExternalValue) (a : Added) → added s m things ≡ Some a → IsTyped m a.inst a.filled.store

-- It stays typed, because functions and types stay and sizes do not shrink.
abbrev pub InstancesStayTyped : Type 0
InstancesStayTyped = (m : Module) (i : Inst) (s t : Store) → StaysIn s t → IsTyped m i s → IsTyped m i t
