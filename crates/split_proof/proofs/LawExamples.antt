-- A small module satisfies the premises of the laws. The tree of a secondary module whose
-- references are not declared yet may be invalid, and so is a primary module that calls through a
-- slot with a wrong type.
use Rattle.base_lists.proofs.Common.{◌≡◌, refl, sym, subst, ℕ, zero, suc, ◌^◌, ◌<◌, [], ◌∷◌, Some, None, slice_get, arith, rules, ◌∙◌, ◌++◌, pos}
use Rattle.std.specs.Fmt.{digits}
use Rattle.wasm_tree.specs.declared.types.ValType.TheVariants as valt
use Rattle.wasm_tree_spec.specs.Prelude.{FuncType, the_lemmas, Func, Module, IsBounded, local_count}
use Rattle.wasm_tree.specs.declared.instr.Instr.TheVariants as i
use Rattle.wasm_tree.specs.declared.module.ConstExpr.TheVariants as const
use Rattle.wasm_tree.specs.declared.module.ExportDesc.TheVariants as ex
use Rattle.wasm_tree.specs.declared.module.ImportDesc.TheVariants as im
use Rattle.wasm_valid_bodies.specs.Typing.{Acts, AllMatch, Gives, Stack, WellTyped}
use Rattle.wasm_valid.specs.Prelude.{IsValid, body_context}
use Rattle.index_remap.specs.Prelude.{declaring, renumbered_tree}
use Rattle.split_spec.specs.Prelude.{prefix_taken, secondary, secondary_map, secondary_tree}
use Rattle.split_spec.specs.Secondary.{secondary_with}
use Rattle.split_spec.specs.Examples.{calling as calls_next, calling_primary, empty, export, func, gives_number, import, names, nothing, primary_word, segment, slots_import}
use Rattle.split_proof.specs.Premises.{CanMove}

-- ---- a module that is split ----

it_gives_a_number : WellTyped (body_context calls_next (func 0 (i.I32Const (pos 7) ∷ [])) gives_number) (i.I32Const (pos 7) ∷ []) [] (valt.I32 ∷ [])
it_gives_a_number = (Some valt.I32 ∷ [], (Some valt.I32 ∷ [], (Gives [] (valt.I32 ∷ []), refl, ([], [], refl, tt, refl)), refl), (refl, tt))

so_does_its_call : WellTyped (body_context calls_next (func 0 (i.Call 1 ∷ [])) gives_number) (i.Call 1 ∷ []) [] (valt.I32 ∷ [])
so_does_its_call = (Some valt.I32 ∷ [], (Some valt.I32 ∷ [], (Gives [] (valt.I32 ∷ []), refl, ([], [], refl, tt, refl)), refl), (refl, tt))

calling_is_valid : IsValid calls_next
calling_is_valid = (
  (func 0 (i.Call 1 ∷ []), refl, omega arith),
  (
    (func 0 (i.I32Const (pos 7) ∷ []), refl, omega arith),
    (
      (export (102 ∷ []) (ex.Func 0), refl, omega arith, (λ c. let lt = c.1 in omega (arith, lt))),
      ((func 0 (i.Call 1 ∷ []), gives_number, refl, refl, so_does_its_call), ((func 0 (i.I32Const (pos 7) ∷ []), gives_number, refl, refl, it_gives_a_number), tt)),
    ),
  ),
)

few_locals : (j : ℕ) (f : Func) → slice_get calls_next.funcs j ≡ Some f → local_count calls_next.types f < 2 ^ 32
few_locals zero f at = let same : func 0 (i.Call 1 ∷ []) ≡ f = cc in subst (λ g. local_count calls_next.types g < 2 ^ 32) same (omega arith)
few_locals (suc zero) f at = let same : func 0 (i.I32Const (pos 7) ∷ []) ≡ f = cc in subst (λ g. local_count calls_next.types g < 2 ^ 32) same (omega arith)
few_locals (suc (suc j)) f at = cc

calling_is_bounded : IsBounded calls_next
calling_is_bounded =
    record { types = omega arith; imports = omega arith; funcs = omega arith; tables = omega arith; memories = omega arith; globals = omega arith; exports = omega arith; elems = omega arith; datas = omega arith; locals = few_locals }

what_is_called_can_move : CanMove calls_next (1 ∷ [])
what_is_called_can_move = ((refl, search (rules, the_lemmas)), tt)

-- The exported function, which calls the other, can move as well.
both_can_move : CanMove calls_next (0 ∷ 1 ∷ [])
both_can_move = ((refl, search (rules, the_lemmas)), ((refl, search (rules, the_lemmas)), tt))

no_name_is_taken : prefix_taken (37 ∷ []) calls_next (1 ∷ []) ≡ None
no_name_is_taken = search (rules, the_lemmas)

-- ---- a secondary module before its references are declared ----

-- The function of the module, which is exported as "f", names itself by `ref.func`.
abbrev naming : Module
naming = record empty { types = nothing ∷ []; funcs = func 0 (i.RefFunc 0 ∷ i.Drop ∷ []) ∷ []; exports = export (102 ∷ []) (ex.Func 0) ∷ [] }

-- In the secondary module the function names the trampoline, which is imported as "%f0" and named
-- only in this body.
abbrev undeclared : Module
undeclared = record empty {
  types = nothing ∷ [];
  imports = import primary_word (37 ∷ 102 ∷ 48 ∷ []) (im.Func 0) ∷ slots_import 1 ∷ [];
  funcs = func 0 (i.RefFunc 0 ∷ i.Drop ∷ []) ∷ [];
  elems = segment 0 0 (const.Func 1 ∷ []) ∷ [];
}

its_tree_is : renumbered_tree (secondary_map naming (0 ∷ []) (0 ∷ [])) (secondary_tree names naming (0 ∷ []) (0 ∷ []) 0) ≡ undeclared
unfolding digits
its_tree_is = search (rules, the_lemmas)

it_is_declared : secondary names naming (0 ∷ []) ≡ record undeclared { elems = segment 0 0 (const.Func 1 ∷ []) ∷ declaring (0 ∷ []) ∷ [] }
unfolding secondary_with digits
it_is_declared = search (rules, the_lemmas)

-- The tree is not valid before the reference is declared.
its_tree_is_not_valid : IsValid undeclared → ⊥
its_tree_is_not_valid (first, (second, (types, (items, ((f, t, at, ty, typed), none))))) =
    let same : func 0 (i.RefFunc 0 ∷ i.Drop ∷ []) ≡ f = cc in
    no_type t (subst (λ (g : Func). WellTyped (body_context undeclared g t) g.body [] t.results) (sym same) typed)
  where
    no_type : (t : FuncType) → WellTyped (body_context undeclared (func 0 (i.RefFunc 0 ∷ i.Drop ∷ [])) t) (i.RefFunc 0 ∷ i.Drop ∷ []) [] t.results → ⊥
    no_type t (last, (u, (e, is, acts), more), match) = cc

-- ---- a call through a slot by another type ----

-- The calling function, if it called through the slot with a type without results.
abbrev mistyped_func : Func
mistyped_func = func 0 (i.I32Const (pos 0) ∷ i.CallIndirect 1 0 ∷ [])

abbrev mistyped : Module
mistyped = record calling_primary { types = gives_number ∷ nothing ∷ []; funcs = mistyped_func ∷ [] }

nothing_left : (last u v more below : Stack) → u ≡ Some valt.I32 ∷ [] → u ≡ more ++ below → AllMatch more (valt.I32 ∷ []) → v ≡ below → v ≡ last → AllMatch last (valt.I32 ∷ []) → ⊥
nothing_left last u v [] below a b m c d match = absurd m
nothing_left last u v (x ∷ []) [] a b m c d match = subst (λ s. AllMatch s (valt.I32 ∷ [])) (sym d ∙ c) match
nothing_left last u v (x ∷ []) (y ∷ below) a b m c d match = let e : Some valt.I32 ∷ [] ≡ x ∷ y ∷ below = sym a ∙ b in cc
nothing_left last u v (x ∷ y ∷ more) below a b m c d match = absurd m.1

mistyped_is_not_typed : WellTyped (body_context mistyped mistyped_func gives_number) mistyped_func.body [] (valt.I32 ∷ []) → ⊥
mistyped_is_not_typed (last, (u, (e, is, acts), (v, (f, it, does), end)), match) =
    let first : Gives [] (valt.I32 ∷ []) ≡ e = cc in
    let second : Gives (valt.I32 ∷ []) [] ≡ f = cc in
    let a : Acts (Gives [] (valt.I32 ∷ [])) [] u = subst (λ z. Acts z [] u) (sym first) acts in
    let b : Acts (Gives (valt.I32 ∷ []) []) u v = subst (λ z. Acts z u v) (sym second) does in
    by a.0 a.1 a.2 a.3 a.4 b
  where
    by : (args rest : Stack) → [] ≡ args ++ rest → AllMatch args [] → u ≡ Some valt.I32 ∷ rest → Acts (Gives (valt.I32 ∷ []) []) u v → ⊥
    by [] [] e m is b = nothing_left last u v b.0 b.1 is b.2 b.3 b.4 end match
    by [] (x ∷ rest) e m is b = cc
    by (x ∷ args) rest e m is b = m

mistyped_is_not_valid : IsValid mistyped → ⊥
mistyped_is_not_valid (placeholder, (types, (slots, (one, (two, (items, ((f, t, at, ty, typed), none))))))) =
    let same : mistyped_func ≡ f = cc in
    let found : slice_get mistyped.types 0 ≡ Some t = subst (λ (g : Func). slice_get mistyped.types g.ty ≡ Some t) (sym same) ty in
    let given : gives_number ≡ t = cc in
    let body : WellTyped (body_context mistyped mistyped_func t) mistyped_func.body [] t.results = subst (λ (g : Func). WellTyped (body_context mistyped g t) g.body [] t.results) (sym same) typed in
    mistyped_is_not_typed (subst (λ (z : FuncType). WellTyped (body_context mistyped mistyped_func z) mistyped_func.body [] z.results) (sym given) body)
