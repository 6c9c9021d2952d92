-- The premises of the equivalence law hold of small modules, so a split that gives a wrong pair for
-- one of these breaks the law.
use Rattle.base_lists.proofs.Common.{◌≡◌, refl, ap, subst, ℕ, zero, suc, ◌<◌, ◌^◌, arith, List, [], ◌∷◌, Some, None, slice_get, false, rules, pos, Contains, same_Some}
use Rattle.std.specs.Prelude.{unwrap_or}
use Rattle.wasm_tree_spec.specs.Prelude.{the_lemmas, Func, Module, IsBounded, local_count}
use Rattle.wasm_tree.specs.declared.instr.Instr.{out-Instr}
use Rattle.wasm_tree.specs.declared.instr.Instr.TheVariants as i
use Rattle.wasm_tree.specs.declared.types.ValType.TheVariants as valt
use Rattle.wasm_tree.specs.declared.module.ExportDesc.TheVariants as ex
use Rattle.wasm_valid_bodies.specs.Typing.{WellTyped, Gives}
use Rattle.wasm_valid.specs.Prelude.{IsValid, body_context}
use Rattle.wasm_meaning.specs.Prelude.{LoaderWorld}
use Rattle.split_plan.specs.PlannedMoves.{body_uses_segment}
use Rattle.split_spec.specs.Prelude.{prefix_taken}
use Rattle.split_spec.specs.Examples.{names, placeholder_word, func, export, table, gives_number}
use Rattle.split_proof.specs.SplitLaws.{ObservationallyEquivalent, CanBeSplit, most_params}
use Rattle.split_proof.proofs.SmallRuns.{f, g}
use Rattle.split_proof.proofs.WrongSplits.{giving, endless, an_endless_function_is_refused, holding, in_own_table, slots_in_place_of_entries_are_refused, more_entries_are_refused}

-- ---- valid ----

seven_is_typed : (m : Module) → WellTyped (body_context m (func 0 (i.I32Const (pos 7) ∷ [])) gives_number) (i.I32Const (pos 7) ∷ []) [] (valt.I32 ∷ [])
unfolding out-Instr denote.Hole.Carrier.out
seven_is_typed m = (Some valt.I32 ∷ [], (Some valt.I32 ∷ [], (Gives [] (valt.I32 ∷ []), refl, ([], [], refl, tt, refl)), refl), (refl, tt))

giving_is_valid : IsValid giving
giving_is_valid = ((func 0 (i.I32Const (pos 7) ∷ []), refl, omega arith), ((export f (ex.Func 0), refl, omega arith, λ c. absurd (let l = c.1 in omega (arith, l))), ((func 0 (i.I32Const (pos 7) ∷ []), gives_number, refl, refl, seven_is_typed giving), tt)))

holding_is_valid : IsValid holding
holding_is_valid = (
  (func 0 (i.I32Const (pos 7) ∷ []), refl, omega arith),
  (
    (table 1, refl, omega arith),
    (
      (export f (ex.Func 0), refl, omega arith, λ c. absurd (let l = c.1 in omega (arith, l))),
      (
        (export g (ex.Table 0), refl, omega arith, not_f),
        ((func 0 (i.I32Const (pos 7) ∷ []), gives_number, refl, refl, seven_is_typed holding), tt),
      ),
    ),
  ),
)
  where
    not_f : Contains (f ∷ []) g → ⊥
    not_f (zero, l, e) = let k : 102 ≡ 103 = ap (λ xs. unwrap_or (slice_get xs 0) 0) e in absurd (omega (arith, k))
    not_f (suc n, l, e) = absurd (omega (arith, l))

-- ---- bounded ----

-- Each function has the one type, without parameters, and no locals.
no_locals : (n : ℕ) (h : Func) → slice_get (func 0 (i.I32Const (pos 7) ∷ []) ∷ []) n ≡ Some h → local_count (gives_number ∷ []) h < 2 ^ 32
no_locals zero h e = rw (← same_Some _ _ e) (omega arith)
no_locals (suc n) h e = cc

giving_is_bounded : IsBounded giving
giving_is_bounded =
    record { types = omega arith; imports = omega arith; funcs = omega arith; tables = omega arith; memories = omega arith; globals = omega arith; exports = omega arith; elems = omega arith; datas = omega arith; locals = no_locals }

holding_is_bounded : IsBounded holding
holding_is_bounded =
    record { types = omega arith; imports = omega arith; funcs = omega arith; tables = omega arith; memories = omega arith; globals = omega arith; exports = omega arith; elems = omega arith; datas = omega arith; locals = no_locals }

-- ---- the premises ----

only_once : (n k func : ℕ) → slice_get (0 ∷ []) n ≡ Some func → slice_get (0 ∷ []) k ≡ Some func → n ≡ k
only_once zero zero func d e = refl
only_once zero (suc k) func d e = cc
only_once (suc n) k func d e = cc

giving_uses_none : body_uses_segment giving 0 ≡ false
giving_uses_none = search (rules, the_lemmas)

giving_is_free : prefix_taken names.export_prefix giving (0 ∷ []) ≡ None
giving_is_free = search (rules, the_lemmas)

giving_can_be_split : CanBeSplit (λ slot. placeholder_word) names giving (0 ∷ []) ((0 ∷ []) ∷ [])
giving_can_be_split = record { valid = giving_is_valid; bounded = giving_is_bounded; can_move = ((refl, giving_uses_none), tt); once = only_once; lists = refl; namespaces = λ slot lt. refl; names_free = giving_is_free }

holding_uses_none : body_uses_segment holding 0 ≡ false
holding_uses_none = search (rules, the_lemmas)

holding_is_free : prefix_taken names.export_prefix holding (0 ∷ []) ≡ None
holding_is_free = search (rules, the_lemmas)

holding_can_be_split : CanBeSplit (λ slot. placeholder_word) names holding (0 ∷ []) ((0 ∷ []) ∷ [])
holding_can_be_split = record { valid = holding_is_valid; bounded = holding_is_bounded; can_move = ((refl, holding_uses_none), tt); once = only_once; lists = refl; namespaces = λ slot lt. refl; names_free = holding_is_free }

-- ---- wrong splits ----

-- The equivalence law, with this split in place of `split_world`.
abbrev HasEqualTraces : (Module → List ℕ → LoaderWorld) → Type 0
HasEqualTraces split = (m : Module) (moved : List ℕ) → CanBeSplit (λ slot. placeholder_word) names m moved (moved ∷ []) → ObservationallyEquivalent m (split m moved) (most_params m moved)

-- No split that gives this world for the module satisfies the law.
abbrev BreaksTheLaw : Module → LoaderWorld → Type 0
BreaksTheLaw m wrong = (split : Module → List ℕ → LoaderWorld) → split m (0 ∷ []) ≡ wrong → HasEqualTraces split → ⊥

an_endless_function_breaks_it : BreaksTheLaw giving endless
an_endless_function_breaks_it split gives law = an_endless_function_is_refused (subst (λ w. ObservationallyEquivalent giving w 0) gives (law giving (0 ∷ []) giving_can_be_split))

slots_in_place_of_entries_break_it : BreaksTheLaw holding (in_own_table 1)
slots_in_place_of_entries_break_it split gives law = slots_in_place_of_entries_are_refused (subst (λ w. ObservationallyEquivalent holding w 0) gives (law holding (0 ∷ []) holding_can_be_split))

more_entries_break_it : BreaksTheLaw holding (in_own_table 2)
more_entries_break_it split gives law = more_entries_are_refused (subst (λ w. ObservationallyEquivalent holding w 0) gives (law holding (0 ∷ []) holding_can_be_split))
