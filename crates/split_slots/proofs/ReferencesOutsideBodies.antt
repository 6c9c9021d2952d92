-- The functions that `ref.func` names in the bodies of a valid module are also named outside the
-- bodies, so marks of the latter show which functions need a trampoline.
use Rattle.base_lists.proofs.Common.{◌≡◌, ℕ, ◌<◌, Bool, true, false, ◌||◌, List, [], ◌∷◌, ◌++◌, length, cond, unwrap_or, Option, Some, None, refl, sym, ap, ap₂, ◌∙◌, subst, slice_get, zero-add, append-nil, cons_option, nat_le, nat_lt, ltb-true, slice_get_within, right_true, among_append}
use Rattle.base_lists.specs.Members.{is_among}
use Rattle.base_lists.proofs.Members.{joined_among}
use Rattle.std.proofs.Common.{filter}
use Rattle.base_lists.specs.Every.{Every}
use Rattle.base_kept.specs.Marks.{named_from}
use Rattle.base_kept.proofs.Marks.{all_marks, marked_is_among, named_get}
use Rattle.wasm_tree_spec.specs.Prelude.{ValType, Instr, Func, Module, funcs_of, imported_funcs}
use Rattle.wasm_valid_bodies.specs.Typing.{Context, WellTyped}
use Rattle.wasm_valid.specs.declared.kinds.ItemKind.TheVariants as kind
use Rattle.wasm_valid.specs.Prelude.{named_of, refs_of, HoldsAt, body_context}
use Rattle.wasm_valid.specs.Named.{marked_at}
use Rattle.index_remap.specs.Prelude.{body_refs, refs_all}
use Rattle.split_plan.specs.NamedFunctions.{is_defined}
use Rattle.split_plan.specs.PlannedMoves.{body_uses_segment}
use Rattle.split_spec.specs.Prelude.{is_needed}
use Rattle.split_spec.specs.TrampolineNeeds.{needed}

-- The marks of the functions that are named outside the bodies, including the start function.
pub with_start : (m : Module) (start : Option ℕ) → marked_at (named_of m) start ≡ named_from (refs_of m ++ cons_option start []) 0 (length (funcs_of m))
with_start m None = ap (λ rs. named_from rs 0 (length (funcs_of m))) (sym (append-nil (refs_of m)))
with_start m (Some func) = all_marks (refs_of m) (func ∷ []) (length (funcs_of m))

-- The operand of `ref.func` in a well-typed body is a function that the context declares as a
-- reference.
abbrev pub RefsAreDeclared : Type 0
RefsAreDeclared = (c : Context) (is : List Instr) (ps rs : List ValType) → WellTyped c is ps rs → (x : ℕ) → is_among (refs_all is) x ≡ true → slice_get c.named x ≡ Some true

module _ (refs_declared : RefsAreDeclared) (m : Module) (holds : (i : ℕ) → i < length m.funcs → HoldsAt m kind.Body i) where
  body_named : (x : ℕ) → is_among (body_refs m.funcs) x ≡ true → is_among (refs_of m) x ≡ true
  body_named x h = here (joined_among (λ f. refs_all f.body) m.funcs x h)
    where
      here : (i : ℕ) × (f : Func) × (slice_get m.funcs i ≡ Some f) × (is_among (refs_all f.body) x ≡ true) → is_among (refs_of m) x ≡ true
      here (i, f, e, k) = there (holds i (slice_get_within m.funcs i f e))
        where
          there : HoldsAt m kind.Body i → is_among (refs_of m) x ≡ true
          there (g, ft, at, ty, w) =
              let same : g ≡ f = cc in
              marked_is_among (refs_of m) (length (funcs_of m)) x (refs_declared (body_context m g ft) g.body [] ft.results w x (subst (λ (z : Func). is_among (refs_all z.body) x ≡ true) (sym same) k))

  known_twice : (a s b : Bool) → (b ≡ true → a ≡ true) → (a || (s || b)) ≡ (a || s)
  known_twice true s b h = refl
  known_twice false true b h = refl
  known_twice false false true h = sym (h refl)
  known_twice false false false h = refl

  needed_is : (x : ℕ) → is_needed m x ≡ is_among (refs_of m ++ cons_option m.start []) x
  needed_is x =
      among_append (refs_of m) (cons_option m.start [] ++ body_refs m.funcs) x
      ∙ ap (λ b. is_among (refs_of m) x || b) (among_append (cons_option m.start []) (body_refs m.funcs) x)
      ∙ known_twice (is_among (refs_of m) x) (is_among (cons_option m.start []) x) (is_among (body_refs m.funcs) x) (body_named x)
      ∙ sym (among_append (refs_of m) (cons_option m.start []) x)

  -- The mark of a function shows whether it needs a trampoline.
  pub marks_tell : (x : ℕ) → x < length (funcs_of m) → slice_get (named_from (refs_of m ++ cons_option m.start []) 0 (length (funcs_of m))) x ≡ Some (is_needed m x)
  marks_tell x lt = named_get (refs_of m ++ cons_option m.start []) 0 (length (funcs_of m)) x lt ∙ ap (λ y. Some (is_among (refs_of m ++ cons_option m.start []) y)) (zero-add x) ∙ ap Some (sym (needed_is x))

  filter_same : (p q : ℕ → Bool) (xs : List ℕ) → Every (λ x. p x ≡ q x) xs → filter p xs ≡ filter q xs
  filter_same p q [] h = refl
  filter_same p q (x ∷ xs) h = ap₂ (λ b ys. cond b (x ∷ ys) ys) h.0 (filter_same p q xs h.1)

  each_mark : (marks : List Bool) → marks ≡ named_from (refs_of m ++ cons_option m.start []) 0 (length (funcs_of m)) → (funcs : List ℕ) → Every (λ f. f < length (funcs_of m)) funcs → Every (λ f. unwrap_or (slice_get marks f) false ≡ is_needed m f) funcs
  each_mark marks is [] lt = tt
  each_mark marks is (f ∷ fs) lt = (ap (λ o. unwrap_or o false) (ap (λ xs. slice_get xs f) is ∙ marks_tell f lt.0), each_mark marks is fs lt.1)

  pub all_needed : (marks : List Bool) → marks ≡ named_from (refs_of m ++ cons_option m.start []) 0 (length (funcs_of m)) → (funcs : List ℕ) → Every (λ f. f < length (funcs_of m)) funcs → filter (λ f. unwrap_or (slice_get marks f) false) funcs ≡ needed m funcs
  all_needed marks is funcs lt = filter_same (λ f. unwrap_or (slice_get marks f) false) (is_needed m) funcs (each_mark marks is funcs lt)

-- The functions of a plan are within the index space of functions.
pub all_there : (m : Module) (funcs : List ℕ) → Every (λ f. (is_defined m f ≡ true) × (body_uses_segment m f ≡ false)) funcs → Every (λ f. f < length (funcs_of m)) funcs
all_there m [] h = tt
all_there m (f ∷ fs) h = (ltb-true f (length (funcs_of m)) (right_true (nat_le (length (imported_funcs m.imports)) f) (nat_lt f (length (funcs_of m))) h.0.0), all_there m fs h.1)
