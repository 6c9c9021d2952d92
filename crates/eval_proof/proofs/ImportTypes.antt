-- The functions that a module with valid items imports.
use Rattle.base_lists.proofs.Common.{◌≡◌, ◌∙◌, ℕ, suc, ◌<◌, arith, List, [], ◌∷◌, length, slice_get, Option, Some, None, refl, sym, ap, subst, filter_map, same_Some, slice_get_within, none_past}
use Rattle.wasm_tree_spec.specs.Prelude.{FuncType, Import, ImportDesc, Module, func_of, imported_funcs}
use Rattle.wasm_tree.specs.declared.module.ImportDesc.TheVariants as imported
use Rattle.wasm_valid.specs.declared.kinds.ItemKind.TheVariants as kind
use Rattle.wasm_valid.specs.Prelude.{ImportHolds, ItemsHold}
use Rattle.eval_spec.specs.Prelude.{imported_func}
use Rattle.eval_proof.specs.ImportedFunctions.{ImportsAreTyped}
use Rattle.eval_proof.specs.ImportedFunctions.{ImportsTyped}

module _ (m : Module) where
  -- The store of the imports has one function for each import of a function.
  many_type : (i : Import) (is : List Import) (ty : ℕ) → func_of i.desc ≡ Some ty → ty < length m.types → length (filter_map (imported_func m) is) ≡ length (imported_funcs is) → (o : Option FuncType) → slice_get m.types ty ≡ o →
      length (filter_map (imported_func m) (i ∷ is)) ≡ length (imported_funcs (i ∷ is))
  many_type i is ty e lt rest None f = absurd (omega (arith, lt, none_past m.types ty (sym f)))
  many_type i is ty e lt rest (Some t) f = rw (e, f) (ap suc rest)

  many_at : (i : Import) (is : List Import) → ((ty : ℕ) → func_of i.desc ≡ Some ty → ty < length m.types) → length (filter_map (imported_func m) is) ≡ length (imported_funcs is) → (o : Option ℕ) → func_of i.desc ≡ o →
      length (filter_map (imported_func m) (i ∷ is)) ≡ length (imported_funcs (i ∷ is))
  many_at i is h rest None e = rw e rest
  many_at i is h rest (Some ty) e = many_type i is ty e (h ty e) rest (slice_get m.types ty) refl

  pub imports_many : (is : List Import) → ImportsTyped m is → length (filter_map (imported_func m) is) ≡ length (imported_funcs is)
  imports_many [] h = refl
  imports_many (i ∷ is) h = many_at i is (h 0 i refl) (imports_many is (λ n j e. h (suc n) j e)) (func_of i.desc) refl

typed_desc : (m : Module) (d : ImportDesc) (ty : ℕ) → ImportHolds m d → func_of d ≡ Some ty → ty < length m.types
typed_desc m (imported.Func t) ty h e = let same : t ≡ ty = cc in subst (λ n. n < length m.types) same h
typed_desc m (imported.Table t) ty h e = absurd (let k = e in cc)
typed_desc m (imported.Memory t) ty h e = absurd (let k = e in cc)
typed_desc m (imported.Global t) ty h e = absurd (let k = e in cc)

pub imports_typed : (m : Module) → ItemsHold m → ImportsTyped m m.imports
imports_typed m v n i e ty f =
    let h = v kind.Import n (slice_get_within m.imports n i e) in let same : h.0 ≡ i = same_Some h.0 i (sym h.1 ∙ e) in typed_desc m i.desc ty (subst (λ x. ImportHolds m x.desc) same h.2) f

pub imports_are_typed : (m : Module) → ItemsHold m → ImportsAreTyped m
imports_are_typed m v = let typed = imports_typed m v in record { typed = typed; many = imports_many m m.imports typed }
