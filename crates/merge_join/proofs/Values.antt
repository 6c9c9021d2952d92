-- The constant expressions that replace the imported globals of a part, import by import.
use Rattle.base_lists.proofs.Common.{◌≡◌, ◌∙◌, ap, sym, subst, refl, ℕ, ◌+◌, ◌<◌, List, [], ◌∷◌, ◌++◌, length, take, drop, Some, None, true, false, ◌&&◌, not, nat_lt, arith, slice_get, get_or, option_and_then, append_assoc, append-nil, ◌⊎◌, inl, inr, cons_option, cases_order, nat_tests, take_more}
use Rattle.base_lists.proofs.Common.{take-append-drop, length-append, filter_map-append, slice_get_within, append_right, append_at_left, push_last}
use Rattle.wasm_tree_spec.specs.Prelude.{GlobalType, ValType, Import, ImportDesc, ConstExpr, Module, global_of, imported_globals}
use Rattle.wasm_tree.specs.declared.module.ImportDesc.TheVariants as im
use Rattle.wasm_tree.specs.declared.module.ConstExpr.TheVariants as const
use Rattle.wasm_valid_bodies.specs.Typing.{only}
use Rattle.wasm_valid.specs.Prelude.{const_type}
use Rattle.wasm_meaning.specs.Prelude.{Part, module_at}
use Rattle.merge_spec.specs.Prelude.{merged_const}
use Rattle.merge_join.specs.Reads.{HasType}
use Rattle.merge_join.specs.Moved.{AreValues}
use Rattle.merge_join.proofs.Reading.{reads_global}

-- The imported globals of the first imports, extended by one import.
imported_next : (is : List Import) (n : ℕ) (i : Import) → n < length is → i ≡ get_or is n i → imported_globals (take (n + 1) is) ≡ imported_globals (take n is) ++ cons_option (global_of i.desc) []
imported_next is n i lt here =
    ap imported_globals (take_more is n i lt ∙ ap (λ x. take n is ++ x ∷ []) (sym here)) ∙ filter_map-append (λ i. global_of i.desc) (take n is) (i ∷ [])

module _ (is : List Import) (n : ℕ) (i : Import) (ty : GlobalType) (lt : n < length is) (here : i ≡ get_or is n i) (desc : i.desc ≡ im.Global ty) where
  one_more : imported_globals (take (n + 1) is) ≡ imported_globals (take n is) ++ ty ∷ []
  one_more = imported_next is n i lt here ∙ ap (λ d. imported_globals (take n is) ++ cons_option (global_of d) []) desc

  whole : imported_globals is ≡ imported_globals (take n is) ++ (ty ∷ imported_globals (drop (n + 1) is))
  whole =
      let more = imported_globals (drop (n + 1) is) in
      sym (ap imported_globals (take-append-drop (n + 1) is)) ∙ filter_map-append (λ i. global_of i.desc) (take (n + 1) is) (drop (n + 1) is)
      ∙ ap (λ x. x ++ more) one_more ∙ append_assoc (imported_globals (take n is)) (ty ∷ []) more

  at_place : slice_get (imported_globals is) (length (imported_globals (take n is))) ≡ Some ty
  at_place =
      let xs = imported_globals (take n is) in
      let none : length xs ≡ length xs + 0 = omega arith in
      ap (λ l. slice_get l (length xs)) whole ∙ ap (slice_get (xs ++ (ty ∷ imported_globals (drop (n + 1) is)))) none ∙ append_right xs (ty ∷ imported_globals (drop (n + 1) is)) 0

  pub one_longer : length (imported_globals (take (n + 1) is)) ≡ length (imported_globals (take n is)) + 1
  one_longer = ap length one_more ∙ length-append (imported_globals (take n is)) (ty ∷ [])

  pub inside : length (imported_globals (take n is)) < length (imported_globals is)
  inside = slice_get_within (imported_globals is) _ ty at_place

  -- A constant expression may name the global if it is immutable.
  pub may_be_named : (m : Module) → is ≡ m.imports → ty.mutable ≡ false → const_type m (const.Global (length (imported_globals (take n is)))) ≡ Some ty.ty
  may_be_named m same fixed =
      let x = length (imported_globals (take n is)) in
      let found : slice_get (imported_globals m.imports) x ≡ Some ty = ap (λ is. slice_get (imported_globals is) x) (sym same) ∙ at_place in
      let within : x < length (imported_globals m.imports) = slice_get_within (imported_globals m.imports) x ty found in
      let below : nat_lt x (length (imported_globals m.imports)) ≡ true = grind (arith, nat_tests, within) in
      ap (option_and_then {T = GlobalType} {U = ValType} (λ g. only (nat_lt x (length (imported_globals m.imports)) && not g.mutable) (Some g.ty))) (append_at_left (imported_globals m.imports) _ x ty found)
      ∙ ap (λ b. only (b && not ty.mutable) (Some ty.ty)) below ∙ ap (λ b. only (not b) (Some ty.ty)) fixed

  -- A global that a constant expression may name is immutable.
  pub is_fixed : (ps : List Part) (p : ℕ) (m : Module) → module_at ps p ≡ Some m → is ≡ m.imports → HasType ps p (const.Global (length (imported_globals (take n is)))) → ty.mutable ≡ false
  is_fixed ps p m at same typed =
      let x = length (imported_globals (take n is)) in
      let modules : Some typed.0 ≡ Some m = sym typed.2 ∙ at in
      let of : typed.0 ≡ m = cc in
      let r = reads_global m x typed.1 (subst (λ m. const_type m (const.Global x) ≡ Some typed.1) of typed.3) in
      let both : Some r.global ≡ Some ty = sym r.at ∙ ap (λ is. slice_get (imported_globals is) x) (sym same) ∙ at_place in
      let one : r.global ≡ ty = cc in
      ap (λ g. g.mutable) (sym one) ∙ r.fixed

pub no_global : (d : ImportDesc) → ((t : GlobalType) → d ≡ im.Global t → ⊥) → global_of d ≡ None
no_global (im.Func t) never = refl
no_global (im.Table t) never = refl
no_global (im.Memory l) never = refl
no_global (im.Global t) never = absurd (never t refl)

-- An import that is no global adds no global.
pub none_more : (is : List Import) (n : ℕ) (i : Import) → n < length is → i ≡ get_or is n i → global_of i.desc ≡ None → length (imported_globals (take (n + 1) is)) ≡ length (imported_globals (take n is))
none_more is n i lt here none = ap length (imported_next is n i lt here ∙ ap (λ o. imported_globals (take n is) ++ cons_option o []) none ∙ append-nil (imported_globals (take n is)))

-- The list has what replaces each imported global before this one.
abbrev pub Denotes : List Part → ℕ → ℕ → List ConstExpr → Type 0
Denotes ps p count values = (x : ℕ) → x < count → HasType ps p (const.Global x) → slice_get values x ≡ Some (merged_const ps p (const.Global x))

pub stand_more : (ps : List Part) (p count : ℕ) (values : List ConstExpr) (value : ConstExpr) → length values ≡ count → (HasType ps p (const.Global count) → value ≡ merged_const ps p (const.Global count)) → Denotes ps p count values → Denotes ps p (count + 1) (values ++ value ∷ [])
stand_more ps p count values value long is before x lt typed = case (cases_order x count)
  where
    case : (x ≡ count) ⊎ ((x < count) ⊎ (count < x)) → slice_get (values ++ value ∷ []) x ≡ Some (merged_const ps p (const.Global x))
    case (inl e) =
        ap (slice_get (values ++ value ∷ [])) (e ∙ sym long) ∙ push_last values value ∙ ap Some (is (subst (λ n. HasType ps p (const.Global n)) e typed)) ∙ ap (λ n. Some (merged_const ps p (const.Global n))) (sym e)
    case (inr (inl l)) = append_at_left values (value ∷ []) x _ (before x l typed)
    case (inr (inr g)) = absurd (omega (arith, lt, g))

-- The list has what replaces each imported global of the part.
pub stand_all : (ps : List Part) (p : ℕ) (m : Module) (is : List Import) (count : ℕ) (values : List ConstExpr) → module_at ps p ≡ Some m → is ≡ m.imports → count ≡ length (imported_globals is) → Denotes ps p count values → AreValues ps p values
stand_all ps p m is count values at same many before x typed =
    let both : Some typed.0 ≡ Some m = sym typed.2 ∙ at in
    let of : typed.0 ≡ m = cc in
    let lt = slice_get_within _ x _ (reads_global typed.0 x typed.1 typed.3).at in
    before x (omega (arith, lt, many, ap (λ is. length (imported_globals is)) same, ap (λ m. length (imported_globals m.imports)) of)) typed

-- ---- part after part ----

-- The lists have what replaces the imported globals of the parts before this one.
abbrev pub DenoteEach : List Part → ℕ → List (List ConstExpr) → Type 0
DenoteEach ps count all = (p : ℕ) → p < count → (values : List ConstExpr) × (slice_get all p ≡ Some values) × AreValues ps p values

pub each_more : (ps : List Part) (count : ℕ) (all : List (List ConstExpr)) (values : List ConstExpr) → length all ≡ count → AreValues ps count values → DenoteEach ps count all → DenoteEach ps (count + 1) (all ++ values ∷ [])
each_more ps count all values long are before p lt = case (cases_order p count)
  where
    case : (p ≡ count) ⊎ ((p < count) ⊎ (count < p)) → (vs : List ConstExpr) × (slice_get (all ++ values ∷ []) p ≡ Some vs) × AreValues ps p vs
    case (inl e) = (values, ap (slice_get (all ++ values ∷ [])) (e ∙ sym long) ∙ push_last all values, subst (λ n. AreValues ps n values) (sym e) are)
    case (inr (inl l)) = let (vs, at, stand) = before p l in (vs, append_at_left all (values ∷ []) p vs at, stand)
    case (inr (inr g)) = absurd (omega (arith, lt, g))
