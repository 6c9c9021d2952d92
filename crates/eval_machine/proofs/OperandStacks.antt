-- Operands that are taken off the stack together, and put back.
use Rattle.base_lists.proofs.Common.{◌≡◌, ℕ, zero, suc, ◌-◌, ◌<◌, ◌≤◌, arith, List, [], ◌∷◌, ◌++◌, length, take, drop, map, reverse, Bool, true, false, ◌&&◌, Some, None, refl, sym, ap, ◌∙◌, length-drop, length-map, length-reverse, map-append, reverse-append, take-append-drop}
use Rattle.wasm_tree_spec.specs.Prelude.{ValType, same_type}
use Rattle.wasm_meaning.specs.Prelude.{Gives, IllTyped, onto, split_at, Val, type_of, pop_typed}
use Rattle.eval_machine.specs.Prelude.{are_typed}
use Rattle.eval_machine.proofs.TypedOperands.{onto_is}

-- The stack of a list of values has the values pushed last first.
pub stacked : {A B : Type 0} (f : A → B) (xs ys : List A) → reverse (map f (xs ++ ys)) ≡ reverse (map f ys) ++ reverse (map f xs)
stacked f xs ys = ap reverse (map-append f xs ys) ∙ reverse-append (map f xs) (map f ys)

pub split_exact : {A : Type 0} (xs ys : List A) → split_at (length xs) (xs ++ ys) ≡ Some (xs, ys)
split_exact [] ys = refl
split_exact (x ∷ xs) ys = rw (split_exact xs ys)

pub split_short : {A : Type 0} (n : ℕ) (xs : List A) → length xs < n → split_at n xs ≡ None
split_short zero xs lt = absurd (omega (arith, lt))
split_short (suc n) [] lt = refl
split_short (suc n) (x ∷ xs) lt = let less : length xs < n = omega (arith, lt) in rw (split_short n xs less)

pub split_is : {A : Type 0} (n : ℕ) (xs ys : List A) → length xs ≡ n → split_at n (xs ++ ys) ≡ Some (xs, ys)
split_is n xs ys e = rw (← e) (split_exact xs ys)

-- The top `n` values of a stack are the last `n` of the list that the machine keeps.
pub taken : {A B : Type 0} (f : A → B) (xs front back : List A) (n : ℕ) → n ≤ length xs → front ≡ take (length xs - n) xs → back ≡ drop (length xs - n) xs →
    split_at n (reverse (map f xs)) ≡ Some (reverse (map f back), reverse (map f front))
taken f xs front back n le e g =
    let whole : front ++ back ≡ xs = rw (e, g) (take-append-drop (length xs - n) xs) in
    let size : length back ≡ n = rw g (length-drop (length xs - n) xs ∙ omega (arith, le)) in
    let turned : length (reverse (map f back)) ≡ n = length-reverse (map f back) ∙ (length-map back f ∙ size) in
    rw (← whole, stacked f front back) (split_is n (reverse (map f back)) (reverse (map f front)) turned)

pub too_few : {A B : Type 0} (f : A → B) (xs : List A) (n : ℕ) → length xs < n → split_at n (reverse (map f xs)) ≡ None
too_few f xs n lt = let size : length (reverse (map f xs)) ≡ length xs = length-reverse (map f xs) ∙ length-map xs f in split_short n (reverse (map f xs)) (omega (arith, lt, size))

both : (a b : Bool) → a && b ≡ true → (a ≡ true) × (b ≡ true)
both true true e = (refl, refl)
both true false e = cc
both false b e = cc

pub typed_off : (ts : List ValType) (vs below : List Val) → are_typed ts vs ≡ true → pop_typed ts (onto vs below) ≡ Gives (vs, below)
typed_off [] [] below e = refl
typed_off [] (v ∷ vs) below e = cc
typed_off (t ∷ ts) [] below e = cc
typed_off (t ∷ ts) (v ∷ vs) below e = let p = both (same_type t (type_of v)) (are_typed ts vs) e in rw (typed_off ts vs (v ∷ below) p.1, p.0)

typed_not_at : (t : ValType) (ts : List ValType) (v : Val) (vs below : List Val) (b c : Bool) → same_type t (type_of v) ≡ b → are_typed ts vs ≡ c → b && c ≡ false →
    (c ≡ false → pop_typed ts (onto vs (v ∷ below)) ≡ IllTyped) → pop_typed (t ∷ ts) (onto (v ∷ vs) below) ≡ IllTyped
typed_not_at t ts v vs below true true e f g h = cc
typed_not_at t ts v vs below true false e f g h = rw (h refl)
typed_not_at t ts v vs below false true e f g h = rw (typed_off ts vs (v ∷ below) f, e)
typed_not_at t ts v vs below false false e f g h = rw (h refl)

pub typed_not : (ts : List ValType) (vs below : List Val) → length vs ≡ length ts → are_typed ts vs ≡ false → pop_typed ts (onto vs below) ≡ IllTyped
typed_not [] [] below n e = cc
typed_not [] (v ∷ vs) below n e = absurd (omega (arith, n))
typed_not (t ∷ ts) [] below n e = absurd (omega (arith, n))
typed_not (t ∷ ts) (v ∷ vs) below n e =
    let same : length vs ≡ length ts = omega (arith, n) in typed_not_at t ts v vs below (same_type t (type_of v)) (are_typed ts vs) refl refl e (λ f. typed_not ts vs (v ∷ below) same f)

-- The last `n` values of a list, pushed in their order on the others, are the stack of the list.
pub laid : {A B : Type 0} (f : A → B) (xs front back : List A) (n : ℕ) → n ≤ length xs → front ≡ take (length xs - n) xs → back ≡ drop (length xs - n) xs →
    (reverse (map f xs) ≡ onto (map f back) (reverse (map f front))) × (length (map f back) ≡ n)
laid f xs front back n le e g =
    let whole : front ++ back ≡ xs = rw (e, g) (take-append-drop (length xs - n) xs) in
    let size : length back ≡ n = rw g (length-drop (length xs - n) xs ∙ omega (arith, le)) in
    (rw (← whole) (stacked f front back ∙ sym (onto_is (map f back) (reverse (map f front)))), length-map back f ∙ size)
