-- The values of the constant expressions of a module alone, over the environment's own globals.
use Rattle.base_lists.proofs.Common.{◌≡◌, ℕ, zero, suc, ◌+◌, ◌<◌, List, [], ◌∷◌, length, Option, Some, None, Bool, true, false, cond, refl, arith, option_and_then, slice_get, and_then_is, same_Some, slice_get_within, slice_get_none}
use Rattle.wasm_tree_spec.specs.Prelude.{Space, Globals, ConstExpr, Import, Module}
use Rattle.wasm_tree.specs.declared.module.ConstExpr.TheVariants as const
use Rattle.wasm_meaning.specs.Prelude.{Inst, Val, has_kind, places, space_index, imports_of, Environment, own_globals, const_value, value_of, value_of_read, read_of}
use Rattle.world_simulation.specs.Prelude.{one, read_in, IsInst, imports, defines, IndicesNameImportsOrDefinitions, SpacesAreImportsAndDefinitions}

-- An import of the list has the place `n`, counted from `from`, and the index `x` among those of
-- its kind.
abbrev Indexed : Space → List Import → (from x n : ℕ) → Type 0
Indexed k is from x n = (z : ℕ) × (n ≡ from + z) × (i : Import) × (slice_get is z ≡ Some i) × (space_index is z k ≡ x)

-- The import whose place is entry `x` of the places of its kind has the index `x`.
place_index : (k : Space) (is : List Import) (from x n : ℕ) → slice_get (places (has_kind k) is from) x ≡ Some n → Indexed k is from x n
place_index k [] from x n h = cc
place_index k (i ∷ is) from x n h = by (λ x. place_index k is (suc from) x n) (has_kind k i) refl x h
  where
    rest : List ℕ
    rest = places (has_kind k) is (suc from)

    by : ((x : ℕ) → slice_get rest x ≡ Some n → Indexed k is (suc from) x n) → (b : Bool) → has_kind k i ≡ b → (x : ℕ) → slice_get (cond b (from ∷ rest) rest) x ≡ Some n → Indexed k (i ∷ is) from x n
    by more true e zero h = (0, omega (arith, same_Some _ _ h), i, refl, refl)
    by more true e (suc x) h = let r = more x h in (suc r.0, omega (arith, r.1), r.2, r.3, rw (e, r.4))
    by more false e x h = let r = more x h in (suc r.0, omega (arith, r.1), r.2, r.3, rw e r.4)

module _ (spaces : SpacesAreImportsAndDefinitions) (indices : IndicesNameImportsOrDefinitions) (env : Environment) (m : Module) (i : Inst) (a : IsInst env (one m) 0 m i) where
  -- A global of the module that has a value among the environment's own is an import.
  own_within : (x : ℕ) (v : Val) → const_value (own_globals env) i (const.Global x) ≡ Some v → x < length (imports_of Globals m)
  own_within x v h =
      let c = and_then_is (slice_get i.globals x) _ v h in
      let g = and_then_is (slice_get (own_globals env) c.0) _ v c.2 in
      elim (indices _ _ _ _ _ _ (spaces env (one m) Globals 0 m _ a.globals) x c.0 c.1) [
        | imports n e f ↦ slice_get_within (imports_of Globals m) x n e
        | defines j e l past ↦ absurd (omega (arith, slice_get_within (own_globals env) c.0 g.0 g.1))
      ]

  pub const_reads : (e : ConstExpr) → value_of env (one m) (i ∷ []) 0 e ≡ const_value (own_globals env) i e
  const_reads (const.Global x) = let reads : read_of (one m) 0 (const.Global x) ≡ read_in m.imports (const.Global x) = grind arith in rw reads (by _ refl _ refl)
    where
      by : (o : Option ℕ) → slice_get (imports_of Globals m) x ≡ o → (v : Option Val) → const_value (own_globals env) i (const.Global x) ≡ v → option_and_then (value_of_read (own_globals env) (i ∷ [])) (read_in m.imports (const.Global x)) ≡ v
      by None e None f = rw e
      by None e (Some v) f = absurd (omega (arith, own_within x v f, slice_get_none (imports_of Globals m) x e))
      by (Some n) e v f =
          let r = place_index Globals m.imports 0 x n e in
          let z : n ≡ r.0 = omega (arith, r.1) in
          rw (e, z, r.3, r.4) f
  const_reads _ = refl
