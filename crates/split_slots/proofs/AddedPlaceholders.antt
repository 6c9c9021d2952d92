-- The loop that adds the imports of placeholders, one at a time, and the definition of these
-- imports.
use Rattle.base_lists.proofs.Common.{◌≡◌, ℕ, zero, suc, ◌+◌, ◌<◌, arith, List, [], ◌∷◌, ◌++◌, append_assoc, take, length, Some, refl, sym, ap, ◌∙◌, slice_get, slice_index, slice_get_there, slice_index_is}
use Rattle.wasm_tree_spec.specs.Prelude.{Import, Module, funcs_of}
use Rattle.split_spec.specs.Prelude.{placeholder_imports}
use Rattle.split_slots.specs.PlaceholderList.{placeholder_of, placeholders_of}

module _ (namespace types : List ℕ) where
  pushed : (first : ℕ) (fs : List ℕ) (k s f : ℕ) → s ≡ first + k → slice_get fs k ≡ Some f → placeholders_of namespace types first (take (suc k) fs) ≡ placeholders_of namespace types first (take k fs) ++ placeholder_of namespace types s f ∷ []
  pushed first [] k s f e at = cc
  pushed first (g ∷ gs) zero s f e at =
      let same : g ≡ f = cc in
      let here : first ≡ s = omega (arith, e) in
      ap (λ h. placeholder_of namespace types first h ∷ []) same ∙ ap (λ n. placeholder_of namespace types n f ∷ []) here
  pushed first (g ∷ gs) (suc k) s f e at =
      let there : s ≡ suc first + k = omega (arith, e) in
      ap (λ xs. placeholder_of namespace types first g ∷ xs) (pushed (suc first) gs k s f there at)

  pub one_placeholder : (fs : List ℕ) (k : ℕ) → k < length fs → (old now new : List Import) → new ≡ now ++ placeholder_of namespace types k (slice_index fs k) ∷ [] → now ≡ old ++ placeholders_of namespace types 0 (take k fs) →
      new ≡ old ++ placeholders_of namespace types 0 (take (k + 1) fs)
  one_placeholder fs k lt old now new put is =
      let (f, at) = slice_get_there fs k lt in
      let zero_k : k ≡ 0 + k = omega arith in
      let one : suc k ≡ k + 1 = omega arith in
      put ∙ ap (λ g. now ++ placeholder_of namespace types k g ∷ []) (slice_index_is fs k f at) ∙ ap (λ xs. xs ++ placeholder_of namespace types k f ∷ []) is
      ∙ append_assoc old (placeholders_of namespace types 0 (take k fs)) (placeholder_of namespace types k f ∷ [])
      ∙ ap (λ xs. old ++ xs) (sym (pushed 0 fs k k f zero_k at) ∙ ap (λ n. placeholders_of namespace types 0 (take n fs)) one)

-- The placeholders that are added with the types of a module are those of the definition.
pub placeholders_are : (namespace : List ℕ) (m : Module) (slot : ℕ) (funcs : List ℕ) → placeholders_of namespace (funcs_of m) slot funcs ≡ placeholder_imports (λ s. namespace) m slot funcs
placeholders_are namespace m slot [] = refl
placeholders_are namespace m slot (f ∷ fs) = ap (λ xs. placeholder_of namespace (funcs_of m) slot f ∷ xs) (placeholders_are namespace m (suc slot) fs)
