-- The function that a call through a table reaches.
use Rattle.base_lists.proofs.Common.{◌≡◌, ℕ, ◌-◌, ◌<◌, ◌≤◌, slice_get, true, false, Option, Some, None, refl, sym, ap, arith, each_same_self}
use Rattle.base_lists.specs.Options.{◌>>=◌}
use Rattle.wasm_tree_spec.specs.Prelude.{FuncType, Module, same_func_type, same_type}
use Rattle.wasm_tree.specs.declared.module.Func.{Func as FuncDef}
use Rattle.eval_proof.specs.ImportedFunctions.{ImportsAreTyped}
use Rattle.wasm_meaning.specs.Prelude.{own_at, type_at}
use Rattle.eval_spec.specs.declared.stop.Stop.TheVariants as why
use Rattle.eval_machine.specs.declared.kept.Kept.{Kept}
use Rattle.eval_machine.specs.declared.registers.MachineAct.TheVariants as act
use Rattle.eval_machine.specs.declared.registers.Flow.TheVariants as flow
use Rattle.eval_machine.specs.Prelude.{MachineFits, base_of}
use Rattle.eval_machine.specs.Instructions.{ReachesThroughTable, type_matches}
use Rattle.eval_machine.proofs.ModuleFunctions.{own_call, code_call, no_call}

-- A function without a type matches no expected type.
pub unmatched : (o x : Option FuncType) → x ≡ None → (o >>= λ t. x >>= λ u. Some (same_func_type t u)) ≡ Some true → ⊥
unmatched None x e h = absurd (let k = h in cc)
unmatched (Some t) x e h = absurd (let k = rw e at h in cc)

module _ (m : Module) (k : Kept) (v : ImportsAreTyped m) (f : MachineFits m k) (ty func : ℕ) where
  pub reaches_import : func < k.imports.funcs → ReachesThroughTable m ty func (act.Leaves (flow.Stopped why.Import))
  reaches_import lt = let o = own_call m k v f func lt in rw o.1

  pub reaches_none : k.imports.funcs ≤ func → slice_get m.funcs (func - k.imports.funcs) ≡ None → ReachesThroughTable m ty func (act.Leaves (flow.Stopped why.Trap))
  reaches_none le e = let n = no_call m k v f func le e in (rw n, unmatched (slice_get m.types ty) (type_at (base_of m).store func) (rw n))

  module _ (g : FuncDef) (le : k.imports.funcs ≤ func) (is : slice_get m.funcs (func - k.imports.funcs) ≡ Some g) where
    own_none : own_at (base_of m).store func ≡ None
    own_none = let c = code_call m k v f func g le is in rw c.2

    type_is : type_at (base_of m).store func ≡ slice_get m.types g.ty
    type_is = let c = code_call m k v f func g le is in rw c.2 (sym c.1)

    matches_as : type_matches m ty func ≡ (slice_get m.types ty >>= λ t. slice_get m.types g.ty >>= λ u. Some (same_func_type t u))
    matches_as = ap (λ x. slice_get m.types ty >>= λ t. x >>= λ u. Some (same_func_type t u)) type_is

    pub reaches_untyped : slice_get m.types ty ≡ None → ReachesThroughTable m ty func (act.Leaves (flow.Stopped why.Trap))
    reaches_untyped e = (own_none, λ h. absurd (let q = rw (matches_as, e) at h in cc))

    -- The expected type is that of the index `ty`.
    module _ (asked : FuncType) (e : slice_get m.types ty ≡ Some asked) where
      pub reaches_same_index : g.ty ≡ ty → ReachesThroughTable m ty func (act.Calls func)
      reaches_same_index s = (refl, own_none, rw (matches_as, s, e) (ap Some (simp (each_same_self same_type (λ a. grind arith)))))

      pub reaches_unknown : slice_get m.types g.ty ≡ None → ReachesThroughTable m ty func (act.Leaves (flow.Stopped why.Trap))
      reaches_unknown h = (own_none, λ q. absurd (let r = rw (matches_as, e, h) at q in cc))

      pub reaches_same : (has : FuncType) → slice_get m.types g.ty ≡ Some has → same_func_type asked has ≡ true → ReachesThroughTable m ty func (act.Calls func)
      reaches_same has h s = (refl, own_none, rw (matches_as, e, h) (ap Some s))

      pub reaches_other : (has : FuncType) → slice_get m.types g.ty ≡ Some has → same_func_type asked has ≡ false → ReachesThroughTable m ty func (act.Leaves (flow.Stopped why.Trap))
      reaches_other has h s = (own_none, λ q. absurd (let r = rw (matches_as, e, h, s) at q in cc))
