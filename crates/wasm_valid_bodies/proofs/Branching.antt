-- A branch to several labels.
use Rattle.base_lists.proofs.Common.{◌≡◌, ℕ, suc, ◌<◌, Bool, true, false, cond, ◌&&◌, nat_eq, is_some, List, [], ◌∷◌, reverse, length, drop, get_or, Option, Some, None, refl, sym, ap, ◌∙◌, subst, arith, ◌≤◌, drop-cons, add-one, ◌+◌, option_and_then, option_map, slice_get, right_true, and_false}
use Rattle.std.proofs.Common.{length-drop}
use Rattle.std.proofs.lemmas.List.{nil_from_length}
use Rattle.wasm_tree_spec.specs.Prelude.{ValType, I32}
use Rattle.wasm_valid_bodies.specs.Typing.{Stack, labels_at, Branches}
use Rattle.wasm_valid_bodies.specs.Tracking.{pop_type, pop_all, all_pop, arity, answer_of, allows_types, allows_all}

-- The tests `allows_all` and `all_pop` agree if all labels exist.
labels_same : (labels : List (List ValType)) (xs : Stack) (o : Bool) (n : ℕ) (ls : List ℕ) (ts : List (List ValType)) → labels_at labels ls ≡ Some ts → allows_all labels xs o n ls ≡ all_pop xs o n ts
labels_same labels xs o n [] ts h = let e : [] ≡ ts = cc in ap (all_pop xs o n) e
labels_same labels xs o n (l ∷ ls) ts h = here (slice_get labels l) (labels_at labels ls) h (labels_same labels xs o n ls)
  where
    here : (m : Option (List ValType)) (r : Option (List (List ValType))) → option_and_then (λ t. option_map (λ us. t ∷ us) r) m ≡ Some ts → ((us : List (List ValType)) → r ≡ Some us → allows_all labels xs o n ls ≡ all_pop xs o n us) →
        allows_types xs o n m && allows_all labels xs o n ls ≡ all_pop xs o n ts
    here None r g ih = cc
    here (Some t) None g ih = cc
    here (Some t) (Some us) g ih =
        let e : t ∷ us ≡ ts = cc in
        ap (λ b. (nat_eq (length t) n && is_some (pop_all xs o (reverse t))) && b) (ih us refl) ∙ ap (all_pop xs o n) e

-- Labels that `allows_all` accepts all exist.
labels_there : (labels : List (List ValType)) (xs : Stack) (o : Bool) (n : ℕ) (ls : List ℕ) → allows_all labels xs o n ls ≡ true → (ts : List (List ValType)) × (labels_at labels ls ≡ Some ts)
labels_there labels xs o n [] h = ([], refl)
labels_there labels xs o n (l ∷ ls) h = here (slice_get labels l) (allows_all labels xs o n ls) h (labels_there labels xs o n ls)
  where
    there : (t : List ValType) (r : Option (List (List ValType))) → (us : List (List ValType)) × (r ≡ Some us) → (ts : List (List ValType)) × (option_map (λ us. t ∷ us) r ≡ Some ts)
    there t r (us, e) = (t ∷ us, ap (option_map (λ us. t ∷ us)) e)

    here : (m : Option (List ValType)) (b : Bool) → allows_types xs o n m && b ≡ true → (b ≡ true → (us : List (List ValType)) × (labels_at labels ls ≡ Some us)) → (ts : List (List ValType)) × (option_and_then (λ t. option_map (λ us. t ∷ us) (labels_at labels ls)) m ≡ Some ts)
    here None b g ih = cc
    here (Some t) b g ih = there t (labels_at labels ls) (ih (right_true (nat_eq (length t) n && is_some (pop_all xs o (reverse t))) b g))

abbrev answer : List (List ValType) → Stack → Bool → List ℕ → Option (Stack × Bool)
answer labels xs o ls = answer_of (option_map Branches (labels_at labels ls)) xs o

answer_at : (labels : List (List ValType)) (xs ys : Stack) (o : Bool) (ls : List ℕ) (ts : List (List ValType)) → labels_at labels ls ≡ Some ts → pop_type xs o I32 ≡ Some ys → answer labels xs o ls ≡ cond (all_pop ys o (arity ts) ts) (Some ([], true)) None
answer_at labels xs ys o ls ts h g =
    ap (λ m. answer_of (option_map Branches m) xs o) h ∙ ap (λ m. option_and_then (λ ys. cond (all_pop ys o (arity ts) ts) (Some ([], true)) None) m) g

-- The arity of a branch is the number of types of its first label.
arity_at : (labels : List (List ValType)) (l : ℕ) (ls : List ℕ) (t : List ValType) (ts : List (List ValType)) → slice_get labels l ≡ Some t → labels_at labels (l ∷ ls) ≡ Some ts → arity ts ≡ length t
arity_at labels l ls t ts h g = here (labels_at labels ls) (sym (ap (λ m. option_and_then (λ t. option_map (λ us. t ∷ us) (labels_at labels ls)) m) h) ∙ g)
  where
    here : (r : Option (List (List ValType))) → option_map (λ us. t ∷ us) r ≡ Some ts → arity ts ≡ length t
    here None k = cc
    here (Some us) k = let e : t ∷ us ≡ ts = cc in ap arity (sym e)

pub branches_yes : (labels : List (List ValType)) (xs ys : Stack) (o p : Bool) (l : ℕ) (ls : List ℕ) (t : List ValType) → slice_get labels l ≡ Some t → pop_type xs o I32 ≡ Some ys → p ≡ o → allows_types ys p (length t) (slice_get labels l) ≡ true → allows_all labels ys p (length t) ls ≡ true →
    answer labels xs o (l ∷ ls) ≡ Some ([], true)
branches_yes labels xs ys o p l ls t h g e a b =
    let all : allows_all labels ys p (length t) (l ∷ ls) ≡ true = ap (λ z. z && allows_all labels ys p (length t) ls) a ∙ b in
    let all_o : allows_all labels ys o (length t) (l ∷ ls) ≡ true = subst (λ q. allows_all labels ys q (length t) (l ∷ ls) ≡ true) e all in
    let r = labels_there labels ys o (length t) (l ∷ ls) all_o in
    answer_at labels xs ys o (l ∷ ls) r.0 r.1 g
    ∙ ap (λ n. cond (all_pop ys o n r.0) (Some ([], true)) None) (arity_at labels l ls t r.0 h r.1)
    ∙ ap (λ z. cond z (Some ([], true)) None) (sym (labels_same labels ys o (length t) (l ∷ ls) r.0 r.1) ∙ all_o)

pub branches_no : (labels : List (List ValType)) (xs ys : Stack) (o p : Bool) (l : ℕ) (ls : List ℕ) (t : List ValType) → slice_get labels l ≡ Some t → pop_type xs o I32 ≡ Some ys → p ≡ o → allows_all labels ys p (length t) ls ≡ false → answer labels xs o (l ∷ ls) ≡ None
branches_no labels xs ys o p l ls t h g e b = here (labels_at labels (l ∷ ls)) refl
  where
    all_o : allows_all labels ys o (length t) (l ∷ ls) ≡ false
    all_o = ap (λ z. allows_types ys o (length t) (slice_get labels l) && z) (subst (λ q. allows_all labels ys q (length t) ls ≡ false) e b) ∙ and_false (allows_types ys o (length t) (slice_get labels l))

    here : (m : Option (List (List ValType))) → labels_at labels (l ∷ ls) ≡ m → answer labels xs o (l ∷ ls) ≡ None
    here None k = ap (λ m. answer_of (option_map Branches m) xs o) k
    here (Some ts) k =
        answer_at labels xs ys o (l ∷ ls) ts k g
        ∙ ap (λ n. cond (all_pop ys o n ts) (Some ([], true)) None) (arity_at labels l ls t ts h k)
        ∙ ap (λ z. cond z (Some ([], true)) None) (sym (labels_same labels ys o (length t) (l ∷ ls) ts k) ∙ all_o)

-- A label that is refused makes the whole branch refused.
pub refused_at : (labels : List (List ValType)) (xs : Stack) (o : Bool) (n i : ℕ) (ls : List ℕ) → i < length ls → allows_types xs o n (slice_get labels (get_or ls i 0)) ≡ false → allows_all labels xs o n (drop i ls) ≡ false
refused_at labels xs o n i ls lt h =
    ap (allows_all labels xs o n) (drop-cons ls i 0 lt) ∙ ap (λ z. z && allows_all labels xs o n (drop (suc i) ls)) h

pub nothing_left : (labels : List (List ValType)) (xs : Stack) (o : Bool) (n i : ℕ) (ls : List ℕ) → length ls ≤ i → allows_all labels xs o n (drop i ls) ≡ allows_all labels xs o n ls → allows_all labels xs o n ls ≡ true
nothing_left labels xs o n i ls le e =
    let none : drop i ls ≡ [] = nil_from_length (drop i ls) (omega (arith, length-drop i ls)) in
    sym e ∙ ap (allows_all labels xs o n) none

-- A label that is allowed leaves the answer to the labels after it.
pub allowed_at : (labels : List (List ValType)) (xs : Stack) (o : Bool) (n i : ℕ) (ls : List ℕ) → i < length ls → allows_types xs o n (slice_get labels (get_or ls i 0)) ≡ true → allows_all labels xs o n (drop i ls) ≡ allows_all labels xs o n (drop (i + 1) ls)
allowed_at labels xs o n i ls lt h =
    ap (allows_all labels xs o n) (drop-cons ls i 0 lt) ∙ ap (λ z. z && allows_all labels xs o n (drop (suc i) ls)) h ∙ ap (λ j. allows_all labels xs o n (drop j ls)) (sym (add-one i))
