-- Marks at the functions that bodies name, and the list of those that are to be declared.
use Rattle.base_lists.proofs.Common.{◌≡◌, ℕ, zero, suc, ◌+◌, ◌<◌, Bool, true, false, ◌&&◌, not, cond, List, [], ◌∷◌, ◌++◌, map, length, drop, get_or, refl, sym, ap, ap₂, ◌∙◌, arith, zero-add, add-zero, append-nil, rules, map-append, filter, filter_map, flat_map, flat_map-append, range_with_len}
use Rattle.base_lists.specs.Members.{is_among}
use Rattle.base_kept.specs.Marks.{named_from, marked_all}
use Rattle.base_kept.proofs.Marks.{segment_step, marked_append, marks_length}
use Rattle.wasm_tree_spec.specs.Prelude.{BlockType, Instr, the_lemmas, ConstExpr, Func, block_operands}
use Rattle.wasm_tree.specs.declared.instr.Instr.{Block, Loop, If}
use Rattle.wasm_tree.specs.declared.types.BlockType.TheVariants as block
use Rattle.wasm_tree.specs.declared.module.ConstExpr.TheVariants as const
use Rattle.index_remap.specs.Prelude.{referred, refs, refs_all, body_refs, marked_only}

joined : {X : Type 0} (f : X → List ℕ) (xs : List X) → flat_map (λ ys. ys) (map f xs) ≡ flat_map f xs
joined f [] = refl
joined f (x ∷ xs) = ap (λ ys. f x ++ ys) (joined f xs)

-- The invariant of the marks is kept from one instruction of a body to the next.
pub body_step : (xs : List Instr) (i : ℕ) (x : Instr) (marks new : List Bool) → i < length xs → x ≡ get_or xs i x → new ≡ marked_all marks (refs x) →
    marked_all new (refs_all (drop (i + 1) xs)) ≡ marked_all marks (refs_all (drop i xs))
body_step xs i x marks new lt is e =
    ap (marked_all new) (joined refs (drop (i + 1) xs)) ∙ segment_step refs xs i x marks new lt is e ∙ ap (marked_all marks) (sym (joined refs (drop i xs)))

-- The type of a block names no function.
no_refs : (ty : BlockType) (xs : List ℕ) → filter_map referred (block_operands ty) ++ xs ≡ xs
no_refs block.Empty xs = refl
no_refs (block.Value t) xs = refl
no_refs (block.Index n) xs = refl

-- The marks of a block or loop are those of its body, and those of an `if` are those of both
-- bodies, one after the other.
pub block_marks : (i : Instr) (ty : BlockType) (body is : List Instr) (old new : List Bool) → i ≡ Block ty body → is ≡ body → new ≡ marked_all old (refs_all is) → new ≡ marked_all old (refs i)
block_marks i ty body is old new e f a =
    let inside : refs (Block ty body) ≡ filter_map referred (block_operands ty) ++ refs_all body = search (rules, the_lemmas) in
    a ∙ ap (λ xs. marked_all old (refs_all xs)) f ∙ ap (marked_all old) (sym (ap refs e ∙ inside ∙ no_refs ty (refs_all body)))

pub loop_marks : (i : Instr) (ty : BlockType) (body is : List Instr) (old new : List Bool) → i ≡ Loop ty body → is ≡ body → new ≡ marked_all old (refs_all is) → new ≡ marked_all old (refs i)
loop_marks i ty body is old new e f a =
    let inside : refs (Loop ty body) ≡ filter_map referred (block_operands ty) ++ refs_all body = search (rules, the_lemmas) in
    a ∙ ap (λ xs. marked_all old (refs_all xs)) f ∙ ap (marked_all old) (sym (ap refs e ∙ inside ∙ no_refs ty (refs_all body)))

pub if_marks : (i : Instr) (ty : BlockType) (body other is os : List Instr) (old one new : List Bool) → i ≡ If ty body other → is ≡ body → os ≡ other → one ≡ marked_all old (refs_all is) → new ≡ marked_all one (refs_all os) →
    new ≡ marked_all old (refs i)
if_marks i ty body other is os old one new e f g a b =
    let inside : refs (If ty body other) ≡ filter_map referred (block_operands ty) ++ (refs_all body ++ refs_all other) = search (rules, the_lemmas, flat_map-append) in
    b ∙ ap₂ (λ ms xs. marked_all ms (refs_all xs)) (a ∙ ap (λ xs. marked_all old (refs_all xs)) f) g ∙ sym (marked_append old (refs_all body) (refs_all other))
    ∙ ap (marked_all old) (sym (ap refs e ∙ inside ∙ no_refs ty (refs_all body ++ refs_all other)))

-- The invariant of the marks is kept from one function to the next.
pub func_step : (xs : List Func) (i : ℕ) (x : Func) (marks new : List Bool) → i < length xs → x ≡ get_or xs i x → new ≡ marked_all marks (refs_all x.body) →
    marked_all new (body_refs (drop (i + 1) xs)) ≡ marked_all marks (body_refs (drop i xs))
func_step = segment_step (λ f. refs_all f.body)

-- ---- the functions that are to be declared ----

mark_at : (rs : List ℕ) (a n k : ℕ) → k < n → get_or (named_from rs a n) k false ≡ is_among rs (a + k)
mark_at rs a zero k lt = absurd (omega arith)
mark_at rs a (suc n) zero lt = ap (is_among rs) (sym (add-zero a))
mark_at rs a (suc n) (suc k) lt = let e : suc a + k ≡ a + suc k = omega arith in mark_at rs (suc a) n k (omega arith) ∙ ap (is_among rs) e

filter_same : (p q : ℕ → Bool) (a n : ℕ) → ((k : ℕ) → k < n → p (a + k) ≡ q (a + k)) → filter p (range_with_len a n) ≡ filter q (range_with_len a n)
filter_same p q a zero h = refl
filter_same p q a (suc n) h =
    let here : p a ≡ q a = ap p (sym (add-zero a)) ∙ h 0 (omega arith) ∙ ap q (add-zero a) in
    let later = filter_same p q (a + 1) n (λ k lt. let e : a + 1 + k ≡ a + suc k = omega arith in ap p e ∙ h (suc k) (omega arith) ∙ ap q (sym e)) in
    ap₂ (λ b xs. cond b (a ∷ xs) xs) here later

filter_more : (p : ℕ → Bool) (a n : ℕ) → filter p (range_with_len a (n + 1)) ≡ filter p (range_with_len a n) ++ cond (p (a + n)) ((a + n) ∷ []) []
filter_more p a n = let one : n + 1 ≡ suc n = omega arith in ap (λ k. filter p (range_with_len a k)) one ∙ ap (filter p) (range_more a n) ∙ filter_end p (range_with_len a n) (a + n)
  where
    range_more : (a n : ℕ) → range_with_len a (suc n) ≡ range_with_len a n ++ (a + n) ∷ []
    range_more a zero = ap (λ z. z ∷ []) (sym (add-zero a))
    range_more a (suc n) = let e : a + 1 + n ≡ a + suc n = omega arith in ap (λ zs. a ∷ zs) (range_more (a + 1) n) ∙ ap (λ z. a ∷ (range_with_len (a + 1) n ++ z ∷ [])) e

    filter_end : (p : ℕ → Bool) (xs : List ℕ) (x : ℕ) → filter p (xs ++ x ∷ []) ≡ filter p xs ++ cond (p x) (x ∷ []) []
    filter_end p [] x = refl
    filter_end p (y ∷ ys) x = ap (λ zs. cond (p y) (y ∷ zs) zs) (filter_end p ys x) ∙ split (p y)
      where
        split : (b : Bool) → cond b (y ∷ (filter p ys ++ cond (p x) (x ∷ []) [])) (filter p ys ++ cond (p x) (x ∷ []) []) ≡ cond b (y ∷ filter p ys) (filter p ys) ++ cond (p x) (x ∷ []) []
        split true = refl
        split false = refl

-- The marks say which functions are named.
pub marked_are : (n : ℕ) (rs qs : List ℕ) → filter (marked_only (named_from rs 0 n) (named_from qs 0 n)) (range_with_len 0 n) ≡ filter (λ f. is_among rs f && not (is_among qs f)) (range_with_len 0 n)
marked_are n rs qs =
    filter_same (marked_only (named_from rs 0 n) (named_from qs 0 n)) (λ f. is_among rs f && not (is_among qs f)) 0 n
    (λ k lt. let e = zero-add k in
    ap (λ z. marked_only (named_from rs 0 n) (named_from qs 0 n) z) e ∙ ap₂ (λ a b. a && not b) (mark_at rs 0 n k lt ∙ ap (is_among rs) e) (mark_at qs 0 n k lt ∙ ap (is_among qs) e)
    ∙ ap (λ z. is_among rs z && not (is_among qs z)) (sym e))

items_more : (p : ℕ → Bool) (i : ℕ) → map const.Func (filter p (range_with_len 0 (i + 1))) ≡ map const.Func (filter p (range_with_len 0 i)) ++ cond (p i) (const.Func i ∷ []) []
items_more p i =
    ap (map const.Func) (filter_more p 0 i) ∙ map-append const.Func (filter p (range_with_len 0 i)) (cond (p (0 + i)) ((0 + i) ∷ []) []) ∙ ap (λ z. map const.Func (filter p (range_with_len 0 i)) ++ map const.Func (cond (p z) (z ∷ []) [])) (zero-add i)
    ∙ ap (λ zs. map const.Func (filter p (range_with_len 0 i)) ++ zs) (one (p i))
  where
    one : (b : Bool) → map const.Func (cond b (i ∷ []) []) ≡ cond b (const.Func i ∷ []) []
    one true = refl
    one false = refl

-- The items collected up to a function, and that function if it is to be declared, are the items
-- collected after it.
pub item_kept : (p : ℕ → Bool) (i : ℕ) (items new : List ConstExpr) → items ≡ map const.Func (filter p (range_with_len 0 i)) → p i ≡ true → new ≡ items ++ const.Func i ∷ [] → new ≡ map const.Func (filter p (range_with_len 0 (i + 1)))
item_kept p i items new e h f = f ∙ ap₂ (λ xs b. xs ++ cond b (const.Func i ∷ []) []) e (sym h) ∙ sym (items_more p i)

pub item_left : (p : ℕ → Bool) (i : ℕ) (items new : List ConstExpr) → items ≡ map const.Func (filter p (range_with_len 0 i)) → p i ≡ false → new ≡ items → new ≡ map const.Func (filter p (range_with_len 0 (i + 1)))
item_left p i items new e h f = f ∙ e ∙ sym (append-nil (map const.Func (filter p (range_with_len 0 i)))) ∙ ap (λ b. map const.Func (filter p (range_with_len 0 i)) ++ cond b (const.Func i ∷ []) []) (sym h) ∙ sym (items_more p i)

-- The items are those of the functions that are to be declared.
pub items_are : (n m : ℕ) (rs qs : List ℕ) (inside outside : List Bool) (items : List ConstExpr) → inside ≡ named_from rs 0 n → outside ≡ named_from qs 0 n → n ≡ m →
    items ≡ map const.Func (filter (marked_only inside outside) (range_with_len 0 (length inside))) → items ≡ map const.Func (filter (λ f. is_among rs f && not (is_among qs f)) (range_with_len 0 m))
items_are n m rs qs inside outside items e f g h =
    h ∙ ap₂ (λ a b. map const.Func (filter (marked_only a b) (range_with_len 0 (length a)))) e f ∙ ap (λ z. map const.Func (filter (marked_only (named_from rs 0 n) (named_from qs 0 n)) (range_with_len 0 z))) (marks_length rs 0 n)
    ∙ ap (map const.Func) (marked_are n rs qs) ∙ ap (λ z. map const.Func (filter (λ f. is_among rs f && not (is_among qs f)) (range_with_len 0 z))) g
