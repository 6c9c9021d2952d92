-- The values of constant expressions of a part, and of the constant expressions that these become
-- in the merged module.
use Rattle.base_lists.proofs.Common.{◌≡◌, ℕ, zero, suc, ◌+◌, List, [], ◌∷◌, length, Some, true, ap, ◌∙◌, arith, option_and_then, slice_get, slice_get_past, length-append, ltb-true, length-map, place_back, get_rel, then_rel, places_many}
use Rattle.wasm_tree_spec.specs.Prelude.{Space, Functions, Globals, Import, Module, funcs_of, imported_funcs, ValType, ConstExpr}
use Rattle.wasm_meaning.specs.Prelude.{Inst, places, has_kind, imports_of, space_index, Part, module_at, Environment, own_globals, insts_from, value_of, const_value, inst_of}
use Rattle.world_simulation.specs.Prelude.{one, IsInst}
use Rattle.wasm_valid.specs.Prelude.{const_type}
use Rattle.run_simulation.specs.Prelude.{Pairing, OptRel, some, func, ValRel, number, reference}
use Rattle.index_remap.specs.Prelude.{new_const, fits_const}
use Rattle.merge_names.specs.declared.mode.Mode.{Mode}
use Rattle.merge_spec.specs.Prelude.{joined_module, map_of}
use Rattle.merge_spec.specs.Merged.{merged_const}
use Rattle.merge_proof.specs.Joinable.{CanBeJoined}
use Rattle.merge_proof.specs.AgreeingInstances.{PartAgrees, InstancesAgree}
use Rattle.merge_proof.specs.SharedAddresses.{is_shared, sharing}
use Rattle.world_simulation.proofs.EnvironmentEntities.{null_rel}
use Rattle.merge_proof.proofs.SharedPairing.{names_one, shares_own}
use Rattle.merge_proof.proofs.ValueLaws.{Laws, EachAgrees}
use Rattle.wasm_tree.specs.declared.module.ConstExpr.TheVariants as const

-- ---- imports of one kind ----

-- The index of an import in the index space of its kind, found from its place among the imports.
index_at : (k : Space) (is : List Import) (from p y : ℕ) → slice_get (places (has_kind k) is from) y ≡ Some (from + p) → space_index is p k ≡ y
index_at k [] from p y h = cc
index_at k (i ∷ is) from zero y h = grind (arith, place_back (has_kind k) is (suc from))
index_at k (i ∷ is) from (suc p) y h = grind (arith, index_at k is (suc from) p)

-- ---- the instance of a module alone ----

module _ (laws : Laws) (env : Environment) (u : Module) (j : Inst) (are : insts_from env (one u) 0 (one u) ≡ Some (j ∷ [])) where
  pub is_inst : IsInst env (one u) 0 u j
  is_inst = let is : inst_of env (one u) 0 u ≡ Some j = grind (arith, are) in search (arith, is)

  pub func_count : length j.funcs ≡ length (funcs_of u)
  func_count =
      let many : length (imports_of Functions u) ≡ length (imported_funcs u.imports) = places_many _ _ u.imports (grind arith) 0 in
      simp (length-append, length-map, ← many) (laws.index_spaces env (one u) Functions 0 u _ is_inst.funcs).size

  -- An imported global has the value of the environment's global at its address. A defined global
  -- has no value that can be read, and its address is none of the environment's.
  pub global_value : (y a : ℕ) → slice_get j.globals y ≡ Some a → value_of env (one u) (j ∷ []) 0 (const.Global y) ≡ option_and_then (λ g. Some g.value) (slice_get (own_globals env) a)
  global_value y a h = grind (arith, laws.alone_reads u (const.Global y), laws.names env (one u) Globals 0 u _ (laws.index_spaces env (one u) Globals 0 u _ is_inst.globals) y a h, place_back (has_kind Globals) u.imports 0, index_at Globals u.imports 0, slice_get_past)

-- ---- a constant expression of a part, and the one that it becomes ----

module _ (laws : Laws) (env : Environment) (parts : List Part) (mode : Mode) where
  abbrev M : List Part
  M = one (joined_module parts mode)

  abbrev R : Pairing
  R = sharing env parts

  module _ (can : CanBeJoined parts mode) (insts : List Inst) (j : Inst) (each : EachAgrees env parts insts j) (are : insts_from env M 0 M ≡ Some (j ∷ [])) where
    -- The values of an expression at which a read ends, and of the expression that it becomes, are
    -- related.
    read_rel : (q : ℕ) (m : Module) (i : Inst) → PartAgrees env parts q m i j → (x : ConstExpr) → fits_const (map_of parts q m) x ≡ true → OptRel (ValRel R) (const_value (own_globals env) i x) (value_of env M (j ∷ []) 0 (new_const (map_of parts q m) x))
    read_rel q m i k (const.Func f) h = then_rel (names_one env parts Functions k.funcs f h) (λ _ _ r. some (reference (func (some r))))
    read_rel q m i k (const.Global x) h =
        let a = k.globals.each x (ltb-true _ _ h) in
        rw (a.first, global_value laws env (joined_module parts mode) j are _ a.address a.second)
        (then_rel (get_rel (laws.own (is_shared env parts) env (shares_own env parts)).globals a.address) (λ _ _ g. some g.value))
    read_rel q m i k x h = grind (arith, some, number, reference, null_rel R)

    pub const_rel : (p : ℕ) (m : Module) (e : ConstExpr) (ty : ValType) → module_at parts p ≡ Some m → const_type m e ≡ Some ty → OptRel (ValRel R) (value_of env parts insts p e) (value_of env M (j ∷ []) 0 (merged_const parts p e))
    unfolding merged_const
    const_rel p m e ty is t =
        let r = laws.there parts p m e ty can.valid can.linked is t in
        let h = laws.reads parts p m e ty r.0 can.valid can.linked is t r.1 in
        let i = each r.0.part h.of h.is_part in
        rw (r.1, i.1, h.is_part) (read_rel r.0.part h.of i.0 i.2 r.0.expr h.fits)

  -- If the instances agree, the only instance of the merged module is the one with which those of
  -- the parts agree.
  pub are_one : CanBeJoined parts mode → (insts js : List Inst) (k : InstancesAgree env parts insts js) → insts_from env M 0 M ≡ Some js → insts_from env M 0 M ≡ Some (k.merged ∷ [])
  are_one can insts js k are = are ∙ ap Some k.alone
