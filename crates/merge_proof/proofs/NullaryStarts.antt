-- The start of a valid part is a function that takes and gives nothing.
use Rattle.merge_proof.proofs.PartLaws.{Instances}
use Rattle.base_lists.proofs.Common.{◌≡◌, ◌∙◌, sym, ap, ap₂, ℕ, suc, ◌+◌, ◌≤◌, List, map, length, Option, Some, true, inl, inr, arith, slice_get, option_and_then, slice_get_within, same_Some, map_from, append_from, slice_get_there, append_at_left, append_right, place_of, places_many, and_then_is}
use Rattle.base_lists.proofs.Common.{all_there_at, all_there_length, numbers_at, option_map_is, is_some}
use Rattle.wasm_tree_spec.specs.Prelude.{Functions, FuncType, Module, func_of, imported_funcs, funcs_of, type_of_func, Import}
use Rattle.wasm_tree.specs.declared.module.Func as tree
use Rattle.wasm_tree.specs.declared.module.ImportDesc.TheVariants as im
use Rattle.wasm_meaning.specs.Prelude.{Inst, Func, Store, same_func_type, type_at, Part, has_kind, imports_of, module_at, sites, Environment, ExternalValue, all_of, base, address_of, import_type, imported_external_value, numbers, new_func, value_of, is_matched, JoinsEarlier, FuncAt}
use Rattle.wasm_meaning.specs.Control as control
use Rattle.run_simulation.specs.Prelude.{CodeIsRelatedToItself}
use Rattle.merge_proof.proofs.ExternalValues.{space_is}
use Rattle.merge_proof.proofs.JoinedImports.{inst_of_part}
use Rattle.merge_proof.proofs.PartInstantiation.{SitesThere, matches}
use Rattle.merge_proof.proofs.SideBySideStores.{Laid, at_allocated_funcs}
use Rattle.world_simulation.specs.Prelude.{AddsWith, IsInst}

-- An import has the description of a function exactly if it is of that kind.
imports_of_functions : (i : Import) → is_some (func_of i.desc) ≡ has_kind Functions i
imports_of_functions i = grind arith

-- The function of an index of an instance in the store, with its type.
pub record HasFunc (i : Inst) (allocated : Store) (x : ℕ) (t : FuncType) : Type 0 where
  pub address : ℕ
  pub func : Func
  pub named : slice_get i.funcs x ≡ Some address
  pub there : slice_get allocated.funcs address ≡ Some func
  pub type : control.type_of_func func ≡ t

module _ (same_types : (s t : FuncType) → same_func_type s t ≡ true → s ≡ t) (itself : CodeIsRelatedToItself) (env : Environment) (parts : List Part) (insts : List Inst) (are : Instances env parts insts) (size : length insts ≡ length parts) (earlier : JoinsEarlier parts) (listed : SitesThere parts)
    (allocated : Store) (laid : Laid env parts insts allocated) (matched : all_of (is_matched env parts allocated) (sites parts) ≡ true) where
  module _ (p x : ℕ) (m : Module) (i : Inst) (t : FuncType) (is_part : module_at parts p ≡ Some m) (at_inst : slice_get insts p ≡ Some i) where
    abbrev imported : ℕ → Option ExternalValue
    imported n = imported_external_value env parts (record { part = p; import = n })

    is_inst : IsInst env parts p m i
    is_inst = inst_of_part env parts insts are size earlier p m i is_part at_inst

    from_import : (ty : ℕ) → slice_get (imported_funcs m.imports) x ≡ Some ty → slice_get m.types ty ≡ Some t → HasFunc i allocated x t
    from_import ty e type =
        let s = space_is env parts Functions p m i.funcs is_inst.funcs in
        let many = places_many (has_kind Functions) (λ i. func_of i.desc) m.imports imports_of_functions 0 in
        let low = slice_get_within (imported_funcs m.imports) x ty e in
        let n = slice_get_there (imports_of Functions m) x (omega arith) in
        let at_import = place_of (has_kind Functions) (λ i. func_of i.desc) m.imports imports_of_functions 0 x n.0 n.1 in
        let number : n.0 ≡ at_import.0 = omega (arith, at_import.2) in
        let a = all_there_at (λ n. option_and_then (address_of Functions) (imported n)) (imports_of Functions m) s.0 s.1 x n.0 n.1 in
        let y = and_then_is (imported n.0) (address_of Functions) a.0 a.1 in
        let match =
        let desc : at_import.1.desc ≡ im.Func ty = grind (arith, sym at_import.5 ∙ e) in
        let thing : y.0 ≡ FuncAt a.0 = grind (arith, y.2) in
        rw (desc, thing) at (matches env parts allocated listed matched p n.0 m at_import.1 y.0 is_part (ap (slice_get m.imports) number ∙ at_import.3) y.1) in
        let u = and_then_is (import_type m ty) _ true match in
        let v = and_then_is (type_at allocated a.0) _ true u.2 in
        let f = option_map_is control.type_of_func (slice_get allocated.funcs a.0) v.0 v.1 in
        record {
          address = a.0;
          func = f.0;
          named = cc (s.2, append_at_left s.0 (numbers (base env parts Functions p) (length m.funcs)) x a.0 a.2);
          there = f.1;
          type = cc (f.2, same_types u.0 v.0 (same_Some _ _ v.2), u.1);
        }

    from_own : (k ty : ℕ) → x ≡ length (imported_funcs m.imports) + k → slice_get (map (λ (f : tree.Func). f.ty) m.funcs) k ≡ Some ty → slice_get m.types ty ≡ Some t → HasFunc i allocated x t
    from_own k ty e h type =
        let s = space_is env parts Functions p m i.funcs is_inst.funcs in
        let many = places_many (has_kind Functions) (λ i. func_of i.desc) m.imports imports_of_functions 0 in
        let l = all_there_length (λ n. option_and_then (address_of Functions) (imported n)) (imports_of Functions m) s.0 s.1 in
        let back = map_from (λ (f : tree.Func). f.ty) m.funcs k ty h in
        let low = slice_get_within m.funcs k back.0 back.1 in
        let number : x ≡ length s.0 + k = omega arith in
        let part_adds = laid.part_adds p m i is_part at_inst in
        let adds : AddsWith (value_of env parts insts p) m i (laid.adds p) = search (arith, part_adds) in
        let f = all_there_at (new_func i) m.funcs (laid.adds p).funcs adds.funcs k back.0 back.1 in
        let made = and_then_is (slice_get i.types back.0.ty) _ f.0 f.1 in
        let count = all_there_length (new_func i) m.funcs (laid.adds p).funcs adds.funcs in
        let part = and_then_is (slice_get parts p) _ m is_part in
        let within : suc p ≤ length parts = omega (arith, slice_get_within parts p part.0 part.1) in
        record {
          address = base env parts Functions p + k;
          func = f.0;
          named = cc (s.2, append_right s.0 (numbers (base env parts Functions p) (length m.funcs)) k, numbers_at (base env parts Functions p) (length m.funcs) k low);
          there = rw (at_allocated_funcs itself env parts insts allocated laid p m is_part within k (omega arith)) f.2;
          type = rw (← same_Some _ _ made.2) (same_Some _ _ (sym made.1 ∙ ap₂ slice_get is_inst.types back.2 ∙ type));
        }

    -- A function in the index space of a part is in the store, with its type.
    pub func_there : type_of_func m x ≡ Some t → HasFunc i allocated x t
    func_there h =
        let ty = and_then_is (slice_get (funcs_of m) x) (slice_get m.types) t h in
        elim (append_from (imported_funcs m.imports) (map (λ f. f.ty) m.funcs) x ty.0 ty.1) [ inl e ↦ from_import ty.0 e ty.2 | inr k ↦ from_own k.0 ty.0 k.1 k.2 ty.2 ]
