-- Membership of a name in a list of names.
use Rattle.base_lists.proofs.Common.{◌≡◌, ◌∙◌, sym, ap, refl, ℕ, zero, suc, ◌+◌, List, [], ◌∷◌, ◌++◌, take, slice_get, Some, Bool, true, false, cond, ◌||◌, ◌&&◌, Contains, bytes_eq, bytes_eq-Decides, take_more, list_any-append, slice_get-get_or, slice_get_within, get_or_from_slice_get}
use Rattle.merge_names.specs.Names.{among}

pub same_from : (x y : List ℕ) → bytes_eq x y ≡ true → x ≡ y
same_from x y e = (bytes_eq-Decides x y).0 e

-- A name is among names and one more if it is among them or is that one.
pub among_push : (ns : List (List ℕ)) (x q : List ℕ) → among (ns ++ x ∷ []) q ≡ cond (bytes_eq x q) true (among ns q)
among_push [] x q = elim (bytes_eq x q) as (λ b. b || false ≡ cond b true false) [ true ↦ refl | false ↦ refl ]
among_push (n ∷ ns) x q = ap (λ (b : Bool). bytes_eq n q || b) (among_push ns x q) ∙ swap (bytes_eq n q) (bytes_eq x q) (among ns q)
  where
    swap : (a b c : Bool) → a || cond b true c ≡ cond b true (a || c)
    swap true true c = refl
    swap true false c = refl
    swap false true c = refl
    swap false false c = refl

pub among_join : (ns ms : List (List ℕ)) (q : List ℕ) → among (ns ++ ms) q ≡ among ns q || among ms q
among_join ns ms q = list_any-append (λ n. bytes_eq n q) ns ms

pub among_self : (ns : List (List ℕ)) (i : ℕ) (x : List ℕ) → slice_get ns i ≡ Some x → among ns x ≡ true
among_self [] i x h = cc
among_self (n ∷ ns) zero x h =
    let same : n ≡ x = cc in
    let yes : bytes_eq n x ≡ true = (bytes_eq-Decides n x).1 same in rw yes
among_self (n ∷ ns) (suc i) x h = case (bytes_eq n x) (among_self ns i x h)
  where
    case : (b : Bool) {c : Bool} → c ≡ true → b || c ≡ true
    case true h = refl
    case false h = h

pub among_more : (ns ms : List (List ℕ)) (q : List ℕ) → among ns q ≡ true → among (ns ++ ms) q ≡ true
among_more ns ms q h = among_join ns ms q ∙ ap (λ (b : Bool). b || among ms q) h

-- A name that is not among two joined lists is in neither of them.
pub among_neither : (ns ms : List (List ℕ)) (q : List ℕ) → among (ns ++ ms) q ≡ false → (among ns q ≡ false) × (among ms q ≡ false)
among_neither ns ms q h = case (among ns q) (among ms q) (sym (among_join ns ms q) ∙ h)
  where
    case : (a b : Bool) → a || b ≡ false → (a ≡ false) × (b ≡ false)
    case true b h = cc
    case false true h = cc
    case false false h = (refl, refl)

pub among_next : (names : List (List ℕ)) (i : ℕ) (name : List ℕ) (q : List ℕ) → slice_get names i ≡ Some name → among (take (i + 1) names) q ≡ cond (bytes_eq name q) true (among (take i names) q)
among_next names i name q h =
    let more : take (i + 1) names ≡ take i names ++ name ∷ [] = take_more names i name (slice_get_within names i name h) ∙ ap (λ (x : List ℕ). take i names ++ x ∷ []) (get_or_from_slice_get names i name name h) in
    ap (λ (ns : List (List ℕ)). among ns q) more ∙ among_push (take i names) name q

-- A list does not contain a name that is not among its names.
pub not_contained : (ns : List (List ℕ)) (q : List ℕ) → among ns q ≡ false → Contains ns q → ⊥
not_contained ns q h (k, within, is) =
    let at : slice_get ns k ≡ Some q = slice_get-get_or ns k q within ∙ ap Some is in
    let yes : among ns q ≡ true = among_self ns k q at in cc
