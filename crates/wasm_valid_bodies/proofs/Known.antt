-- The operands of the innermost block, in the list that holds those of all blocks.
use Rattle.base_lists.proofs.Common.{◌≡◌, ℕ, suc, ◌+◌, ◌<◌, ◌≤◌, nat_le, Bool, true, false, cond, ◌&&◌, ◌||◌, is_some, List, [], ◌∷◌, ◌++◌, map, reverse, length, take, drop, Option, Some, None, refl, sym, ap, ◌∙◌, subst, arith, append-nil, option_and_then, length-append, reverse-append}
use Rattle.base_lists.proofs.Common.{length-reverse, length-map, length-take-le, length-drop, map-append, take-append-drop, drop_all, lt-leb, same_tests, each_same_is, each_same_self}
use Rattle.std.proofs.lemmas.List.{reverse-reverse, append_assoc, drop-append-le}
use Rattle.std.proofs.Math.Seq.{drop-append_seam}
use Rattle.wasm_tree_spec.specs.Prelude.{ValType, same_type, same_types}
use Rattle.wasm_valid_bodies.specs.Typing.{Stack, operands}
use Rattle.wasm_valid_bodies.specs.Tracking.{fits_type, pop_all}
use Rattle.wasm_valid_bodies.specs.OperandStack.{lowest, when}

-- ---- what is taken off ----

-- Operands of any types can be popped if any operands can be below an empty kept stack.
anything : (ts : List ValType) → pop_all [] true ts ≡ Some []
anything [] = refl
anything (t ∷ ts) = anything ts

-- Popping operands of n types leaves the kept stack without its topmost n operands.
pub popped : (xs : Stack) (o : Bool) (ts : List ValType) → pop_all xs o ts ≡ when (is_some (pop_all xs o ts)) (drop (length ts) xs)
popped xs o [] = refl
popped [] false (t ∷ ts) = refl
popped [] true (t ∷ ts) = subst (λ z. z ≡ when (is_some z) []) (sym (anything ts)) refl
popped (x ∷ xs) o (t ∷ ts) = here (fits_type x t) (popped xs o ts)
  where
    here : (b : Bool) → pop_all xs o ts ≡ when (is_some (pop_all xs o ts)) (drop (length ts) xs) → option_and_then (λ ys. pop_all ys o ts) (cond b (Some xs) None) ≡ when (is_some (option_and_then (λ ys. pop_all ys o ts) (cond b (Some xs) None))) (drop (length ts) xs)
    here true ih = ih
    here false ih = refl

known : (us ts : List ValType) (zs : Stack) (o : Bool) (vs : List ValType) → length us ≡ length ts → pop_all (map Some us ++ zs) o (ts ++ vs) ≡ cond (same_types us ts) (pop_all zs o vs) None
known [] [] zs o vs e = refl
known [] (t ∷ ts) zs o vs e = absurd (omega arith)
known (u ∷ us) [] zs o vs e = absurd (omega arith)
known (u ∷ us) (t ∷ ts) zs o vs e = here (same_type u t) (known us ts zs o vs (omega arith))
  where
    here : (b : Bool) → pop_all (map Some us ++ zs) o (ts ++ vs) ≡ cond (same_types us ts) (pop_all zs o vs) None → option_and_then (λ ys. pop_all ys o (ts ++ vs)) (cond b (Some (map Some us ++ zs)) None) ≡ cond (b && same_types us ts) (pop_all zs o vs) None
    here true ih = ih
    here false ih = refl

-- Operands can be popped below the known operands if any can be there, or if the bottom alone is
-- enough.
pub has_below : (b o : Bool) (vs : List ValType) → is_some (pop_all (lowest b) o vs) ≡ o || nat_le (length vs) (length (lowest b))
has_below false true vs = ap is_some (anything vs)
has_below true true [] = refl
has_below true true (t ∷ vs) = ap is_some (anything vs)
has_below false false [] = refl
has_below false false (t ∷ vs) = sym (lt-leb (suc (length vs)) 0 (omega arith))
has_below true false [] = refl
has_below true false (t ∷ []) = refl
has_below true false (t ∷ u ∷ vs) = sym (lt-leb (suc (suc (length vs))) 1 (omega arith))

-- ---- the operands as slices ----

same_reverse : (us ts : List ValType) → same_types (reverse us) (reverse ts) ≡ same_types us ts
same_reverse us ts =
    same_tests (same_types (reverse us) (reverse ts)) (same_types us ts)
    (λ h. let e = each_same_is same_type (λ a b k. grind arith) (reverse us) (reverse ts) h in own us ts (sym (reverse-reverse us) ∙ ap reverse e ∙ reverse-reverse ts))
    (λ h. own (reverse us) (reverse ts) (ap reverse (each_same_is same_type (λ a b k. grind arith) us ts h)))
  where
    own : (xs ys : List ValType) → xs ≡ ys → same_types xs ys ≡ true
    own xs ys e = subst (λ z. same_types xs z ≡ true) e (each_same_self same_type (λ a. grind arith) xs)

operands_append : (us ts : List ValType) (low : Stack) → operands (us ++ ts) ++ low ≡ operands ts ++ (operands us ++ low)
operands_append us ts low =
    ap (λ z. map Some z ++ low) (reverse-append us ts)
    ∙ ap (λ z. z ++ low) (map-append Some (reverse ts) (reverse us))
    ∙ append_assoc (operands ts) (operands us) low

length-operands : (ts : List ValType) → length (operands ts) ≡ length ts
length-operands ts = length-map (reverse ts) Some ∙ length-reverse ts

fits_known : (us ts : List ValType) (low : Stack) (o : Bool) (vs : List ValType) → length ts ≡ length vs → is_some (pop_all (operands (us ++ ts) ++ low) o (reverse vs)) ≡ same_types ts vs
fits_known us ts low o vs e =
    ap is_some
    (
    ap (λ z. pop_all z o (reverse vs)) (operands_append us ts low)
    ∙ ap (pop_all (operands ts ++ (operands us ++ low)) o) (sym (append-nil (reverse vs)))
    ∙ known (reverse ts) (reverse vs) (operands us ++ low) o [] (length-reverse ts ∙ e ∙ sym (length-reverse vs))
    )
    ∙ there (same_types (reverse ts) (reverse vs)) (operands us ++ low)
    ∙ same_reverse ts vs
  where
    there : (b : Bool) (xs : Stack) → is_some (cond b (Some xs) None) ≡ b
    there false xs = refl
    there true xs = refl

fits_over : (us : List ValType) (b o : Bool) (vs ws : List ValType) → length us ≡ length ws → is_some (pop_all (operands us ++ lowest b) o (reverse (vs ++ ws))) ≡ (o || nat_le (length vs) (length (lowest b))) && same_types us ws
fits_over us b o vs ws e =
    ap is_some
    (
    ap (pop_all (operands us ++ lowest b) o) (reverse-append vs ws)
    ∙ known (reverse us) (reverse ws) (lowest b) o (reverse vs) (length-reverse us ∙ e ∙ sym (length-reverse ws))
    )
    ∙ both (same_types (reverse us) (reverse ws)) (pop_all (lowest b) o (reverse vs))
    ∙ ap (λ z. z && same_types (reverse us) (reverse ws)) (has_below b o (reverse vs) ∙ ap (λ n. o || nat_le n (length (lowest b))) (length-reverse vs))
    ∙ ap (λ z. (o || nat_le (length vs) (length (lowest b))) && z) (same_reverse us ws)
  where
    both : (s : Bool) (m : Option Stack) → is_some (cond s m None) ≡ is_some m && s
    both false None = refl
    both false (Some x) = refl
    both true None = refl
    both true (Some x) = refl

-- The operands of the innermost block are those before a position followed by those from it on.
parted : (items : List ValType) (base k : ℕ) → base ≤ k → k ≤ length items → drop base items ≡ drop base (take k items) ++ drop k items
parted items base k le within =
    ap (drop base) (sym (take-append-drop k items)) ∙ drop-append-le base (take k items) (drop k items) (omega (arith, length-take-le k items within))

-- Operands of these types can be popped from the known ones exactly if the topmost types are the
-- same.
pub can_pop_known : (items : List ValType) (base k : ℕ) (low : Stack) (o : Bool) (ts : List ValType) → base ≤ k → k + length ts ≡ length items → is_some (pop_all (operands (drop base items) ++ low) o (reverse ts)) ≡ same_types (drop k items) ts
can_pop_known items base k low o ts le e =
    ap (λ z. is_some (pop_all (operands z ++ low) o (reverse ts))) (parted items base k le (omega arith))
    ∙ fits_known (drop base (take k items)) (drop k items) low o ts (omega (arith, length-drop k items))

pub can_pop_over : (us : List ValType) (b o : Bool) (ts : List ValType) (missing : ℕ) → missing + length us ≡ length ts → is_some (pop_all (operands us ++ lowest b) o (reverse ts)) ≡ (o || nat_le missing (length (lowest b))) && same_types us (drop missing ts)
can_pop_over us b o ts missing e =
    let count : length (take missing ts) ≡ missing = length-take-le missing ts (omega arith) in
    ap (λ z. is_some (pop_all (operands us ++ lowest b) o (reverse z))) (sym (take-append-drop missing ts))
    ∙ fits_over us b o (take missing ts) (drop missing ts) (omega (arith, length-drop missing ts))
    ∙ ap (λ n. (o || nat_le n (length (lowest b))) && same_types us (drop missing ts)) count

-- A shorter list of types denotes the operands without the topmost ones.
pub taken_off : (items : List ValType) (base k n : ℕ) (low : Stack) → base ≤ k → k + n ≡ length items → operands (drop base (take k items)) ++ low ≡ drop n (operands (drop base items) ++ low)
taken_off items base k n low le e =
    let top = drop k items in
    let rest = operands (drop base (take k items)) ++ low in
    let count : length (operands top) ≡ n = length-operands top ∙ omega (arith, length-drop k items) in
    sym (
    ap (λ z. drop n (operands z ++ low)) (parted items base k le (omega arith))
    ∙ ap (drop n) (operands_append (drop base (take k items)) top low)
    ∙ ap (λ m. drop m (operands top ++ rest)) (sym count)
    ∙ drop-append_seam (operands top) rest
    )

pub taken_all : (us : List ValType) (b : Bool) (n : ℕ) → length us < n → drop n (operands us ++ lowest b) ≡ []
taken_all us b n lt = drop_all n (operands us ++ lowest b) (omega (arith, length-append (operands us) (lowest b), length-operands us, few b))
  where
    few : (b : Bool) → length (lowest b) ≤ 1
    few false = omega arith
    few true = omega arith

-- The innermost block has no operands if the list of types ends at its base.
pub none_kept : (items : List ValType) (base : ℕ) → length items ≤ base → operands (drop base items) ++ [] ≡ []
none_kept items base le = ap (λ z. operands z ++ []) (drop_all base items le)

pub none_left : (items : List ValType) (base : ℕ) (b : Bool) → operands (drop base items) ++ lowest b ≡ [] → (length items ≤ base) × (b ≡ false)
none_left items base b e =
    let none : length (operands (drop base items)) + length (lowest b) ≡ 0 = sym (length-append (operands (drop base items)) (lowest b)) ∙ ap length e in
    (omega (arith, none, length-operands (drop base items), length-drop base items), without b (omega (arith, none)))
  where
    without : (c : Bool) → length (lowest c) ≡ 0 → c ≡ false
    without false h = refl
    without true h = absurd (omega arith)
