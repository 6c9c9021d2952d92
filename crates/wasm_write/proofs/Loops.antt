-- The steps of loops that write or test one item at a time, from the last to the first.
use Rattle.base_lists.proofs.Common.{list_any, ◌≡◌, ◌||◌, Bool, ℕ, zero, suc, ◌+◌, ◌<◌, List, [], ◌∷◌, ◌++◌, true, false, map, take, get_or, length, append_assoc, append-nil, refl, sym, subst, ap, ◌∙◌, arith, map-append, take_more, and_false, left_true, right_true, or_assoc}
use Rattle.std.specs.List.{push}
use Rattle.base_lists.specs.Every.{Every}
use Rattle.wasm_write_proof.specs.Ranges.{in_range, all_in_range}
use Rattle.wasm_tree_spec.specs.Prelude.{Instr, ConstExpr}
use Rattle.wasm_write.proofs.InRange.{push_in_range}
use Rattle.wasm_write_spec.specs.PlainValues.{joined, each_text, is_func, all_funcs}

joined_push : (ts : List (List ℕ)) (t : List ℕ) → joined (ts ++ t ∷ []) ≡ joined ts ++ t
joined_push [] t = append-nil t
joined_push (x ∷ xs) t = ap (λ r. x ++ r) (joined_push xs t) ∙ sym (append_assoc x (joined xs) t)

each_push : {A : Type 0} (f : A → List ℕ) (xs : List A) (x : A) → each_text f (push xs x) ≡ each_text f xs ++ f x
each_push f xs x = ap joined (map-append f xs (x ∷ [])) ∙ joined_push (map f xs) (f x)

-- An iteration writes the encoding of the last item that is left.
pub spelled_next : {S : Type 0} {A : Type 0} (preceded : S → List ℕ → S) → ((t : S) (a b : List ℕ) → preceded (preceded t b) a ≡ preceded t (a ++ b)) →
    (f : A → List ℕ) (before now : List A) (x : A) (old new whole : S) → before ≡ push now x →
    preceded old (each_text f before) ≡ whole → new ≡ preceded old (f x) → preceded new (each_text f now) ≡ whole
spelled_next preceded joined f before now x old new whole left so_far next =
    ap (λ t. preceded t (each_text f now)) next ∙ joined old (each_text f now) (f x) ∙ ap (preceded old) (sym (ap (each_text f) left ∙ each_push f now x)) ∙ so_far

pub all_lost : (xs : List ConstExpr) (i : ℕ) (x : ConstExpr) → i < length xs → x ≡ get_or xs i x → is_func x ≡ false → all_funcs xs ≡ false
all_lost [] i x lt is h = absurd (omega arith)
all_lost (y ∷ ys) zero x lt is h = let e : is_func y ≡ false = ap is_func (sym is) ∙ h in rw e
all_lost (y ∷ ys) (suc i) x lt is h = let r = all_lost ys i x (omega arith) is h in rw r (and_false (is_func y))

-- An item at an existing position does not depend on the default for missing items.
pub get_or_any : {A : Type 0} (xs : List A) (i : ℕ) (d e : A) → i < length xs → get_or xs i d ≡ get_or xs i e
get_or_any [] i d e lt = absurd (omega arith)
get_or_any (x ∷ xs) zero d e lt = refl
get_or_any (x ∷ xs) (suc i) d e lt = get_or_any xs i d e (omega arith)

funcs_push : (cs : List ConstExpr) (c : ConstExpr) → all_funcs cs ≡ true → is_func c ≡ true → all_funcs (cs ++ c ∷ []) ≡ true
funcs_push [] c h k = rw k
funcs_push (d ∷ ds) c h k = let a = left_true (is_func d) (all_funcs ds) h in let b = funcs_push ds c (right_true (is_func d) (all_funcs ds) h) k in rw (a, b)

-- The first items are all `ref.func` if those before the last of them are and it is too.
pub funcs_more : (xs : List ConstExpr) (i : ℕ) (x : ConstExpr) → i < length xs → x ≡ get_or xs i x → all_funcs (take i xs) ≡ true → is_func x ≡ true → all_funcs (take (i + 1) xs) ≡ true
funcs_more xs i x lt is h k = ap all_funcs (take_more xs i x lt) ∙ ap (λ y. all_funcs (take i xs ++ y ∷ [])) (sym is) ∙ funcs_push (take i xs) x h k

-- ---- whether data segments are named

any_push : {A : Type 0} (p : A → Bool) (xs : List A) (x : A) (b : Bool) → (list_any p xs || (p x || b)) ≡ (list_any p (push xs x) || b)
any_push p [] x b = or_once (p x) b
  where
    or_once : (a b : Bool) → (a || b) ≡ ((a || false) || b)
    or_once true b = refl
    or_once false b = refl
any_push p (y ∷ ys) x b = or_assoc (p y) (list_any p ys) (p x || b) ∙ ap (λ c. p y || c) (any_push p ys x b) ∙ sym (or_assoc (p y) (list_any p (push ys x)) b)

-- An iteration tests the last item that is left.
pub any_next : {A : Type 0} (p : A → Bool) (before now : List A) (x : A) (old new whole : Bool) → before ≡ push now x →
    (list_any p before || old) ≡ whole → new ≡ (p x || old) → (list_any p now || new) ≡ whole
any_next p before now x old new whole left so_far next =
    ap (λ b. list_any p now || b) next ∙ any_push p now x old ∙ sym (ap (λ xs. list_any p xs || old) left) ∙ so_far

-- ---- whether what is written is in range

every_push : {A : Type 0} (R : A → Type 0) (xs : List A) (x : A) → Every R xs → R x → Every R (push xs x)
every_push R [] x h k = (k, tt)
every_push R (y ∷ ys) x h k = (h.0, every_push R ys x h.1 k)

-- The last item that is left is in range.
pub range_next : {A : Type 0} (R : A → Type 0) (before now : List A) (x : A) {whole : Type 0} → before ≡ push now x → (Every R before → whole) → R x → Every R now → whole
range_next R before now x left so_far here rest = so_far (subst (Every R) (sym left) (every_push R now x rest here))

pub code_next : (before now : List Instr) (x : Instr) {whole : Type 0} → before ≡ push now x → (all_in_range before ≡ true → whole) → in_range x ≡ true → all_in_range now ≡ true → whole
code_next before now x left so_far here rest = so_far (subst (λ is. all_in_range is ≡ true) (sym left) (push_in_range now x rest here))
