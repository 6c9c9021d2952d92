-- The numbers of the merged module that are no indices, and its names, come from its parts, so they
-- are in range.
use Rattle.base_lists.proofs.Common.{◌≡◌, ℕ, List, [], ◌∷◌, map, Option, Some, subst, option_and_then, IsUtf8, and_then_is}
use Rattle.base_lists.proofs.Every.{every_map, every_some, every_append, every_with}
use Rattle.wasm_tree_spec.specs.Prelude.{TableType, ImportDesc, Import, Export, Func, GlobalDef, DataSeg, Module}
use Rattle.wasm_tree.specs.declared.module.ImportDesc.TheVariants as im
use Rattle.base_lists.specs.Every.{Every}
use Rattle.wasm_meaning.specs.Prelude.{Part, Site, module_at, import_at}
use Rattle.index_remap.specs.declared.remap.Remap.{Remap}
use Rattle.index_remap.specs.Prelude.{new_func, new_export}
use Rattle.merge_names.specs.declared.mode.Mode.{Mode}
use Rattle.merge_names.specs.Names.{new_names}
use Rattle.merge_spec.specs.Prelude.{staying, map_of, merged_desc, merged_global, merged_elem, merged_data, starts, start_calls, export_names}
use Rattle.merge_spec.specs.Merged.{merged_import, defined_funcs, all_exports, merged}
use Rattle.merge_spec.specs.Joined.{joined_module}
use Rattle.wasm_write_proof.specs.Ranges.{LimitsInRange, InRange}
use Rattle.wasm_valid_proof.specs.Numbers.{ConstNumberInRange, ImportLimitsInRange, ImportNumbersInRange, FuncNumbersInRange, ElemNumbersInRange, DataOffsetInRange, NumbersInRange}
use Rattle.wasm_valid_proof.specs.Numbers.{OwnNumbersAreInRange, RenumberedNumbersAreInRange, ConstantNumbersAreInRange, DeclaredNumbersAreInRange}
use Rattle.merge_proof.proofs.CallNumbers.{calls_in}
use Rattle.merge_proof.proofs.PartProperties.{every_by_part, every_flat}
use Rattle.merge_proof.proofs.ImportLimits.{PartNumbersInRange, import_in, met_limits_in}
use Rattle.merge_proof.proofs.ConstantNumbers.{global_in, elem_in, data_in}
use Rattle.merge_proof.proofs.ExportNames.{new_names_in, named_in}

module _ (renumbered : RenumberedNumbersAreInRange) (constants : ConstantNumbersAreInRange) (parts : List Part) (h : PartNumbersInRange parts) where
  -- ---- imports

  desc_in : (s : Site) (m : Module) (d : ImportDesc) → ImportLimitsInRange (merged_desc parts s m d)
  desc_in s m (im.Func ty) = tt
  desc_in s m (im.Table t) = met_limits_in parts h s
  desc_in s m (im.Memory l) = met_limits_in parts h s
  desc_in s m (im.Global g) = tt

  import_numbers : (s : Site) (x : Import) → merged_import parts s ≡ Some x → ImportNumbersInRange x
  unfolding merged_import
  import_numbers s x e = in_module (and_then_is (module_at parts s.part) _ x e)
    where
      in_module : (m : Module) × (module_at parts s.part ≡ Some m) × (option_and_then {T = Import} {U = Import} (λ i. Some (record i { desc = merged_desc parts s m i.desc })) (import_at parts s) ≡ Some x) → ImportNumbersInRange x
      in_module (m, there, f) = in_import (and_then_is (import_at parts s) (λ (i : Import). Some (record i { desc = merged_desc parts s m i.desc })) x f)
        where
          in_import : (i : Import) × (import_at parts s ≡ Some i) × (◌≡◌ {A = Option Import} (Some (record i { desc = merged_desc parts s m i.desc })) (Some x)) → ImportNumbersInRange x
          in_import (i, at, is) =
              let same : record i { desc = merged_desc parts s m i.desc } ≡ x = cc in
              let k = import_in parts h s i at in
              subst ImportNumbersInRange same (k.0, k.1, desc_in s m i.desc)

  -- ---- functions

  defined_numbers : Every FuncNumbersInRange (defined_funcs parts)
  unfolding defined_funcs
  defined_numbers = every_by_part NumbersInRange FuncNumbersInRange (λ p m. map (new_func (map_of parts p m)) m.funcs) (λ p m k. (renumbered (map_of parts p m) m k).funcs) 0 parts h

  start_numbers : (fs : List ℕ) → Every FuncNumbersInRange (start_calls parts fs)
  start_numbers [] = tt
  start_numbers (f ∷ []) = tt
  start_numbers (f ∷ g ∷ fs) = ((tt, calls_in (f ∷ g ∷ fs)), tt)

  -- ---- exports

  names_in : Every IsUtf8 (export_names parts)
  unfolding all_exports
  names_in = every_map (λ (e : Export). IsUtf8 e.name) IsUtf8 (λ (e : Export). e.name) (λ e k. k) (all_exports parts)
      (every_by_part NumbersInRange (λ (e : Export). IsUtf8 e.name) (λ p m. map (new_export (map_of parts p m)) m.exports) (λ p m k. (renumbered (map_of parts p m) m k).exports) 0 parts h)

  -- ---- the module

  merged_numbers : (mode : Mode) → NumbersInRange (merged parts (new_names mode (export_names parts)))
  unfolding merged
  merged_numbers mode = record {
    imports = every_some ImportNumbersInRange (merged_import parts) import_numbers (staying parts);
    funcs = every_append FuncNumbersInRange (defined_funcs parts) (start_calls parts (starts parts)) defined_numbers (start_numbers (starts parts));
    tables = every_flat NumbersInRange (λ (t : TableType). LimitsInRange t.limits) (λ (p : Part). p.«module».tables) (λ p k. k.tables) parts h;
    mems = every_flat NumbersInRange LimitsInRange (λ (p : Part). p.«module».mems) (λ p k. k.mems) parts h;
    globals = every_by_part NumbersInRange (λ (g : GlobalDef). ConstNumberInRange g.init) (λ p m. map (merged_global parts p) m.globals)
        (λ p m k. every_map (λ (g : GlobalDef). ConstNumberInRange g.init) (λ (g : GlobalDef). ConstNumberInRange g.init) (merged_global parts p) (global_in constants parts h p) m.globals k.globals) 0 parts h;
    exports = named_in (all_exports parts) (new_names mode (export_names parts)) (new_names_in mode (export_names parts) names_in);
    elems = every_by_part NumbersInRange ElemNumbersInRange (λ p m. map (merged_elem parts p (map_of parts p m)) m.elems)
        (λ p m k. every_map ElemNumbersInRange ElemNumbersInRange (merged_elem parts p (map_of parts p m)) (elem_in constants parts h p (map_of parts p m)) m.elems k.elems) 0 parts h;
    datas = every_by_part NumbersInRange (λ (s : DataSeg). DataOffsetInRange s.mode) (λ p m. map (merged_data parts p (map_of parts p m)) m.datas)
        (λ p m k. every_map (λ (s : DataSeg). DataOffsetInRange s.mode) (λ (s : DataSeg). DataOffsetInRange s.mode) (merged_data parts p (map_of parts p m)) (data_in constants parts h p (map_of parts p m)) m.datas k.datas) 0 parts h;
  }

-- The numbers of each part that are no indices are in range, since those of the part are.
part_numbers : OwnNumbersAreInRange → (parts : List Part) → Every (λ (p : Part). InRange p.«module») parts → PartNumbersInRange parts
part_numbers own parts = every_with (λ (p : Part). InRange p.«module») (λ (p : Part). NumbersInRange p.«module») parts (λ p h. own p.«module» h)

pub joined_numbers : OwnNumbersAreInRange → RenumberedNumbersAreInRange → ConstantNumbersAreInRange → DeclaredNumbersAreInRange → (parts : List Part) (mode : Mode) →
    Every (λ (p : Part). InRange p.«module») parts → NumbersInRange (joined_module parts mode)
unfolding joined_module
joined_numbers own renumbered constants declares parts mode h =
    declares (merged parts (new_names mode (export_names parts))) (merged_numbers renumbered constants parts (part_numbers own parts h) mode)
