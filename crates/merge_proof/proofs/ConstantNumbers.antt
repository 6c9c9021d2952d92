-- The numbers in the constant expressions of a merged module come from some part, so they are in
-- range.
use Rattle.base_lists.proofs.Common.{◌≡◌, ℕ, zero, suc, ◌-◌, List, length, Option, Some, None, refl, subst, option_and_then, slice_get, unwrap_or, and_then_is, every_at}
use Rattle.base_lists.proofs.Every.{every_map}
use Rattle.wasm_tree_spec.specs.Prelude.{Globals, ConstExpr, GlobalDef, ElemMode, ElemSeg, DataMode, DataSeg, Module, index_of_export}
use Rattle.wasm_tree.specs.declared.module.ConstExpr.TheVariants as const
use Rattle.wasm_tree.specs.declared.module.ElemMode.TheVariants as elem
use Rattle.wasm_tree.specs.declared.module.DataMode.TheVariants as segment
use Rattle.wasm_meaning.specs.Prelude.{PathStep, EndsWith, LeadsTo, walk, walk_on, Part, Site, End, Defined, Outside, Entity, Read, module_at, imports_of, space_index, initial, end_step, end_of, global_import, read_step, initials_from, read_of}
use Rattle.wasm_meaning.specs.Linking.{expr_step}
use Rattle.index_remap.specs.declared.remap.Remap.{Remap}
use Rattle.index_remap.specs.Prelude.{new_const}
use Rattle.merge_spec.specs.Prelude.{map_of, merged_read, merged_global, merged_elem_mode, merged_elem, merged_data_mode, merged_data}
use Rattle.merge_spec.specs.Merged.{merged_const}
use Rattle.wasm_valid_proof.specs.Numbers.{ConstNumberInRange, ConstantNumbersAreInRange, ElemOffsetInRange, ElemNumbersInRange, DataOffsetInRange, NumbersInRange}
use Rattle.merge_proof.proofs.PartProperties.{at_part}
use Rattle.merge_proof.proofs.ImportLimits.{PartNumbersInRange}

-- The expression that a step of a read gives has a number in range.
abbrev StepIn : Option (PathStep Read Read) → Type 0
StepIn None = Unit {0}
StepIn (Some (EndsWith r)) = ConstNumberInRange r.expr
StepIn (Some (LeadsTo r)) = ConstNumberInRange r.expr

initial_in : (parts : List Part) → PartNumbersInRange parts → (e : Entity) (expr : ConstExpr) → initial parts e ≡ Some expr → ConstNumberInRange expr
initial_in parts h e expr is = in_module (and_then_is (module_at parts e.part) _ expr is)
  where
    in_module : (m : Module) × (module_at parts e.part ≡ Some m) × (option_and_then (λ (g : GlobalDef). Some g.init) (slice_get m.globals (index_of_export e.what - length (imports_of Globals m))) ≡ Some expr) → ConstNumberInRange expr
    in_module (m, there, f) = in_globals (and_then_is (slice_get m.globals (index_of_export e.what - length (imports_of Globals m))) (λ (g : GlobalDef). Some g.init) expr f)
      where
        in_globals : (g : GlobalDef) × (slice_get m.globals (index_of_export e.what - length (imports_of Globals m)) ≡ Some g) × (◌≡◌ {A = Option ConstExpr} (Some g.init) (Some expr)) → ConstNumberInRange expr
        in_globals (g, at, same) =
            let is_it : g.init ≡ expr = cc in
            subst ConstNumberInRange is_it (every_at (λ (x : GlobalDef). ConstNumberInRange x.init) m.globals _ g (at_part NumbersInRange parts e.part m h there).globals at)

goes_in : (part : ℕ) (o : Option ConstExpr) → ((expr : ConstExpr) → o ≡ Some expr → ConstNumberInRange expr) → StepIn (option_and_then (λ expr. Some (LeadsTo (record { part = part; expr = expr }))) o)
goes_in part None f = tt
goes_in part (Some expr) f = f expr refl

outside_in : (parts : List Part) (s : Site) (o : Option Module) → StepIn (option_and_then (λ (r : Read). Some (EndsWith r)) (option_and_then (λ (m : Module). Some (record { part = s.part; expr = const.Global (space_index m.imports s.import Globals) })) o))
outside_in parts s None = tt
outside_in parts s (Some m) = tt

end_in : (parts : List Part) → PartNumbersInRange parts → (o : Option End) → StepIn (end_step parts o)
end_in parts h None = tt
end_in parts h (Some (Outside s)) = outside_in parts s (module_at parts s.part)
end_in parts h (Some (Defined e)) = goes_in e.part (initial parts e) (λ expr is. initial_in parts h e expr is)

expr_in : (parts : List Part) → PartNumbersInRange parts → (p : ℕ) (expr : ConstExpr) → ConstNumberInRange expr → StepIn (expr_step parts p expr)
expr_in parts h p (const.I32 z) n = n
expr_in parts h p (const.I64 z) n = n
expr_in parts h p (const.Null t) n = tt
expr_in parts h p (const.Func f) n = tt
expr_in parts h p (const.Global x) n = end_in parts h (option_and_then (end_of parts) (global_import parts p x))

-- The expression at which a read ends has a number in range.
abbrev EndIn : Option Read → Type 0
EndIn None = Unit {0}
EndIn (Some r) = ConstNumberInRange r.expr

walk_in : (parts : List Part) → PartNumbersInRange parts → (most : ℕ) (r : Read) → ConstNumberInRange r.expr → EndIn (walk (read_step parts) most r)
walk_in parts h zero r n = tt
walk_in parts h (suc most) r n = on_step parts most (read_step parts r) (expr_in parts h r.part r.expr n) (λ q k. walk_in parts h most q k)
  where
    on_step : (parts : List Part) (most : ℕ) (o : Option (PathStep Read Read)) → StepIn o → ((q : Read) → ConstNumberInRange q.expr → EndIn (walk (read_step parts) most q)) → EndIn (walk_on (walk (read_step parts) most) o)
    on_step parts most None s more = tt
    on_step parts most (Some (EndsWith q)) s more = s
    on_step parts most (Some (LeadsTo q)) s more = more q s

read_in : (parts : List Part) → PartNumbersInRange parts → (p : ℕ) (expr : ConstExpr) → ConstNumberInRange expr → EndIn (read_of parts p expr)
read_in parts h p expr n = walk_in parts h (suc (length (initials_from 0 parts))) (record { part = p; expr = expr }) n

module _ (stay : ConstantNumbersAreInRange) where
  or_this_in : (parts : List Part) (expr : ConstExpr) (o : Option Read) → ConstNumberInRange expr → EndIn o → ConstNumberInRange (unwrap_or (option_and_then (merged_read parts) o) expr)
  or_this_in parts expr None n e = n
  or_this_in parts expr (Some r) n e = in_part (module_at parts r.part)
    where
      in_part : (o : Option Module) → ConstNumberInRange (unwrap_or (option_and_then (λ m. Some (new_const (map_of parts r.part m) r.expr)) o) expr)
      in_part None = n
      in_part (Some m) = stay (map_of parts r.part m) r.expr e

  pub merged_const_in : (parts : List Part) → PartNumbersInRange parts → (p : ℕ) (expr : ConstExpr) → ConstNumberInRange expr → ConstNumberInRange (merged_const parts p expr)
  unfolding merged_const
  merged_const_in parts h p expr n = or_this_in parts expr (read_of parts p expr) n (read_in parts h p expr n)

  pub global_in : (parts : List Part) → PartNumbersInRange parts → (p : ℕ) (g : GlobalDef) → ConstNumberInRange g.init → ConstNumberInRange (merged_global parts p g).init
  global_in parts h p g n = merged_const_in parts h p g.init n

  mode_in : (parts : List Part) → PartNumbersInRange parts → (p : ℕ) (r : Remap) (m : ElemMode) → ElemOffsetInRange m → ElemOffsetInRange (merged_elem_mode parts p r m)
  mode_in parts h p r (elem.Active table offset) n = merged_const_in parts h p offset n
  mode_in parts h p r elem.Passive n = tt
  mode_in parts h p r elem.Declarative n = tt

  pub elem_in : (parts : List Part) → PartNumbersInRange parts → (p : ℕ) (r : Remap) (s : ElemSeg) → ElemNumbersInRange s → ElemNumbersInRange (merged_elem parts p r s)
  elem_in parts h p r s n = (mode_in parts h p r s.mode n.0, every_map ConstNumberInRange ConstNumberInRange (merged_const parts p) (λ e k. merged_const_in parts h p e k) s.items n.1)

  pub data_in : (parts : List Part) → PartNumbersInRange parts → (p : ℕ) (r : Remap) (s : DataSeg) → DataOffsetInRange s.mode → DataOffsetInRange (merged_data parts p r s).mode
  data_in parts h p r s n = data_mode_in s.mode n
    where
      data_mode_in : (m : DataMode) → DataOffsetInRange m → DataOffsetInRange (merged_data_mode parts p r m)
      data_mode_in (segment.Active memory offset) n = merged_const_in parts h p offset n
      data_mode_in segment.Passive n = tt
