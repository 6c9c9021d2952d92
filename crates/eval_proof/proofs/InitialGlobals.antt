-- The globals of a module with valid items have values of their types at first.
use Rattle.base_lists.proofs.Common.{◌≡◌, ◌∙◌, ℕ, ◌+◌, ◌-◌, ◌<◌, arith, List, ◌++◌, length, map, Bool, true, false, not, ◌&&◌, Option, Some, None, slice_get, refl, sym, ap, subst, inl, inr, nat_lt, cases_lt, and_parts, ltb-true, length-map, same_Some, slice_get_within, all_there_at}
use Rattle.base_lists.proofs.Common.{all_there_length, numbers_is, append_left, append_right, map_at, map_from, slice_get_there}
use Rattle.base_lists.specs.Options.{◌>>=◌, all_there}
use Rattle.wasm_tree_spec.specs.Prelude.{same_type, GlobalType, ValType, ConstExpr, GlobalDef, Module, funcs_of, globals_of, imported_globals}
use Rattle.wasm_tree.specs.declared.types.RefType.TheVariants as reft
use Rattle.wasm_tree.specs.declared.types.ValType.TheVariants as valt
use Rattle.wasm_tree.specs.declared.module.ConstExpr.TheVariants as const
use Rattle.wasm_valid_bodies.specs.Typing.{only}
use Rattle.wasm_valid.specs.declared.kinds.ItemKind.TheVariants as kind
use Rattle.wasm_valid.specs.Prelude.{const_type, ItemsHold}
use Rattle.wasm_meaning.specs.Prelude.{FuncRef, Val, Ref, Global, type_of, zero_of, global_with}
use Rattle.eval_spec.specs.Prelude.{imported_store, own_inst, value_in}

abbrev Fits : ValType → Val → Type 0
Fits t v = same_type t (type_of v) ≡ true

zero_fits : (t : ValType) → Fits t (zero_of t)
zero_fits valt.I32 = refl
zero_fits valt.I64 = refl
zero_fits (valt.Ref reft.Func) = refl
zero_fits (valt.Ref reft.Extern) = refl

abbrev zero_global : GlobalType → Global
zero_global t = record { ty = t; value = zero_of t.ty }

only_type : (b : Bool) (s t : ValType) → only b (Some s) ≡ Some t → (b ≡ true) × (s ≡ t)
only_type true s t e = (refl, same_Some s t e)
only_type false s t e = absurd (let k = e in cc)

module _ (m : Module) where
  const_fits : (x : ConstExpr) (v : Val) (t : ValType) → value_in m x ≡ Some v → const_type m x ≡ Some t → Fits t v
  const_fits (const.I32 n) v t e h = subst (λ w. Fits t w) (same_Some _ v e) (subst (λ s. same_type s valt.I32 ≡ true) (same_Some valt.I32 t h) refl)
  const_fits (const.I64 n) v t e h = subst (λ w. Fits t w) (same_Some _ v e) (subst (λ s. same_type s valt.I64 ≡ true) (same_Some valt.I64 t h) refl)
  const_fits (const.Null r) v t e h = subst (λ w. Fits t w) (same_Some _ v e) (subst (λ s. same_type s (type_of (zero_of (valt.Ref r))) ≡ true) (same_Some (valt.Ref r) t h) (zero_fits (valt.Ref r)))
  const_fits (const.Func f) v t e h = by (slice_get (own_inst m).funcs f) e
    where
      typed : valt.Ref reft.Func ≡ t
      typed = (only_type (nat_lt f (length (funcs_of m))) (valt.Ref reft.Func) t h).1

      by : (o : Option ℕ) → (o >>= λ a. Some (Ref (FuncRef (Some a)))) ≡ Some v → Fits t v
      by None k = absurd (let z = k in cc)
      by (Some a) k = subst (λ w. Fits t w) (same_Some _ v k) (subst (λ s. same_type s (valt.Ref reft.Func) ≡ true) typed refl)
  const_fits (const.Global x) v t e h = by_type (slice_get (globals_of m) x) refl h
    where
      by_value : (g : GlobalType) → x < length (imported_globals m.imports) → slice_get (globals_of m) x ≡ Some g → (o : Option ℕ) → slice_get (own_inst m).globals x ≡ o → (o >>= λ a. slice_get (imported_store m).globals a >>= λ g. Some g.value) ≡ Some v → Fits g.ty v
      by_value g lt is None i k = absurd (let z = k in cc)
      by_value g lt is (Some a) i k = by_global (slice_get (imported_store m).globals a) refl k
        where
          same : x ≡ a
          same = (numbers_is (length (globals_of m)) x a i).1

          by_global : (o : Option Global) → slice_get (imported_store m).globals a ≡ o → (o >>= λ g. Some g.value) ≡ Some v → Fits g.ty v
          by_global None j q = absurd (let z = q in cc)
          by_global (Some y) j q =
              let z = map_from zero_global (imported_globals m.imports) a y j in
              let at : slice_get (imported_globals m.imports) a ≡ Some g = ap (slice_get (imported_globals m.imports)) (sym same) ∙ (sym (append_left (imported_globals m.imports) (map (λ d. d.ty) m.globals) x lt) ∙ is) in
              let one : z.0 ≡ g = same_Some z.0 g (sym z.1 ∙ at) in
              subst (λ w. Fits g.ty w) (same_Some y.value v q) (subst (λ w. Fits g.ty w.value) z.2 (subst (λ s. Fits g.ty (zero_of s.ty)) (sym one) (zero_fits g.ty)))

      by_type : (o : Option GlobalType) → slice_get (globals_of m) x ≡ o → (o >>= λ g. only (nat_lt x (length (imported_globals m.imports)) && not g.mutable) (Some g.ty)) ≡ Some t → Fits t v
      by_type None i k = absurd (let z = k in cc)
      by_type (Some g) i k =
          let o = only_type (nat_lt x (length (imported_globals m.imports)) && not g.mutable) g.ty t k in
          subst (λ s. Fits s v) o.1 (by_value g (ltb-true x (length (imported_globals m.imports)) (and_parts (nat_lt x (length (imported_globals m.imports))) (not g.mutable) o.0).0) i (slice_get (own_inst m).globals x) refl e)

  module _ (v : ItemsHold m) (gs : List Global) (made : all_there (global_with (value_in m)) m.globals ≡ Some gs) where
    abbrev Good : ℕ → Global → Type 0
    Good n g = Fits g.ty.ty g.value × (slice_get (globals_of m) n ≡ Some g.ty)

    abbrev imported : List GlobalType
    imported = imported_globals m.imports

    imported_good : (n : ℕ) (g : Global) → n < length imported → slice_get (map zero_global imported) n ≡ Some g → Good n g
    imported_good n g lt e =
        let z = map_from zero_global imported n g e in
        subst (Good n) z.2 (zero_fits z.0.ty, append_left imported (map (λ (d : GlobalDef). d.ty) m.globals) n lt ∙ z.1)

    defined_good : (k : ℕ) (g : Global) (d : GlobalDef) → slice_get m.globals k ≡ Some d → slice_get gs k ≡ Some g → Good (length imported + k) g
    defined_good k g d at e =
        let y = all_there_at (global_with (value_in m)) m.globals gs made k d at in
        let same : y.0 ≡ g = same_Some y.0 g (sym y.2 ∙ e) in
        let item = v kind.Global k (slice_get_within m.globals k d at) in
        let one : item.0 ≡ d = same_Some item.0 d (sym item.1 ∙ at) in
        subst (Good (length imported + k)) same (by d (value_in m d.init) refl y.0 y.1 (subst (λ (x : GlobalDef). const_type m x.init ≡ Some x.ty.ty) one item.2) (append_right imported (map (λ (d : GlobalDef). d.ty) m.globals) k ∙ map_at (λ (d : GlobalDef). d.ty) m.globals k d at))
      where
        by : (d : GlobalDef) (o : Option Val) → value_in m d.init ≡ o → (y : Global) → (o >>= λ v. Some (record { ty = d.ty; value = v })) ≡ Some y → const_type m d.init ≡ Some d.ty.ty → slice_get (globals_of m) (length imported + k) ≡ Some d.ty → Good (length imported + k) y
        by d None is y e c t = absurd (let z = e in cc)
        by d (Some w) is y e c t = subst (Good (length imported + k)) (same_Some _ y e) (const_fits d.init w d.ty.ty is c, t)

    pub first_typed : (n : ℕ) (g : Global) → slice_get ((imported_store m).globals ++ gs) n ≡ Some g → Good n g
    first_typed n g e = elim (cases_lt n (length imported)) [
      | inl lt ↦ imported_good n g lt (sym (append_left (map zero_global imported) gs n (omega (arith, lt, length-map imported zero_global))) ∙ e)
      | inr le ↦
          let many : length (map zero_global imported) ≡ length imported = length-map imported zero_global in
          let at : n ≡ length imported + (n - length imported) = omega (arith, le) in
          let place : n ≡ length (map zero_global imported) + (n - length imported) = omega (arith, le, many) in
          let there : slice_get gs (n - length imported) ≡ Some g = sym (append_right (map zero_global imported) gs (n - length imported)) ∙ (ap (slice_get ((imported_store m).globals ++ gs)) (sym place) ∙ e) in
          let d = slice_get_there m.globals (n - length imported) (omega (arith, slice_get_within gs (n - length imported) g there, all_there_length (global_with (value_in m)) m.globals gs made)) in
          subst (λ k. Good k g) (sym at) (defined_good (n - length imported) g d.0 d.1 there)
    ]
