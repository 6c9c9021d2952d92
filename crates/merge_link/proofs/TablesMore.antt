-- The tables of the parts, extended by one table.
use Rattle.base_lists.proofs.Common.{◌≡◌, ◌∙◌, sym, ap, subst, inl, inr, ℕ, List, [], ◌∷◌, ◌++◌, Some, length, slice_get, cases_eq, push_last, push_before}
use Rattle.wasm_tree_spec.specs.Prelude.{Globals, Module}
use Rattle.wasm_meaning.specs.Linking as linking
use Rattle.wasm_meaning.specs.Prelude.{defined_before}
use Rattle.merge_link.specs.declared.tables.Table.{Table}
use Rattle.merge_link.specs.Prelude.{IsTableOf, imports_before}

pub tables_more : (lp : List linking.Part) (ts : List Table) (t : Table) (m : Module) (n : ℕ) → length ts ≡ n → linking.module_at lp n ≡ Some m
    → IsTableOf (imports_before lp n) (defined_before Globals lp n) m t
    → ((p : ℕ) (q : Module) (u : Table) → linking.module_at lp p ≡ Some q → slice_get ts p ≡ Some u → IsTableOf (imports_before lp p) (defined_before Globals lp p) q u)
    → (p : ℕ) (q : Module) (u : Table) → linking.module_at lp p ≡ Some q → slice_get (ts ++ t ∷ []) p ≡ Some u → IsTableOf (imports_before lp p) (defined_before Globals lp p) q u
tables_more lp ts t m n count at table all p q u h k = elim (cases_eq p (length ts)) [
  | inl e ↦
      let same : t ≡ u = let l : slice_get (ts ++ t ∷ []) p ≡ Some t = ap (slice_get (ts ++ t ∷ [])) e ∙ push_last ts t in cc in
      let here : p ≡ n = e ∙ count in
      let module_is : m ≡ q = let l : linking.module_at lp p ≡ Some m = ap (linking.module_at lp) here ∙ at in cc in
      let P : ℕ → Module → Table → Type 0 = λ x y z. IsTableOf (imports_before lp x) (defined_before Globals lp x) y z in
      subst (P p q) same (subst (λ (y : Module). P p y t) module_is (subst (λ (x : ℕ). P x m t) (sym here) table))
  | inr ne ↦ all p q u h (push_before ts t p u ne k)
]
