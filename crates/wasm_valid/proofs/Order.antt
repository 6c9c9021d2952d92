-- Items that are tested one after another.
use Rattle.base_lists.proofs.Common.{◌≡◌, ℕ, zero, suc, ◌+◌, ◌<◌, Bool, true, false, List, [], ◌∷◌, ◌++◌, length, take, get_or, Option, Some, refl, sym, ap, ◌∙◌, subst, arith, append_assoc, append-nil, zero-add, add-zero, slice_get, flat_map, flat_map-append, take_more}
use Rattle.wasm_tree_spec.specs.Prelude.{Module}
use Rattle.wasm_valid.specs.declared.kinds.ItemKind.{ItemKind}
use Rattle.wasm_valid.specs.declared.kinds.ItemKind.TheVariants as kind
use Rattle.wasm_valid.specs.declared.kinds.Invalid.{Invalid}
use Rattle.wasm_valid.specs.Prelude.{Item, item, span, order, items, count_of, HoldsAt, EachHolds, IsValid, IsSingle, ItemsHold, index_of}
use Rattle.wasm_valid.specs.First.{IsFirstOf, IsAnswer}

pub each_append : (m : Module) (xs ys : List Item) → EachHolds m xs → EachHolds m ys → EachHolds m (xs ++ ys)
each_append m [] ys a b = b
each_append m (x ∷ xs) ys a b = (a.0, each_append m xs ys a.1 b)

pub each_left : (m : Module) (xs ys : List Item) → EachHolds m (xs ++ ys) → EachHolds m xs
each_left m [] ys h = tt
each_left m (x ∷ xs) ys h = (h.0, each_left m xs ys h.1)

pub each_right : (m : Module) (xs ys : List Item) → EachHolds m (xs ++ ys) → EachHolds m ys
each_right m [] ys h = h
each_right m (x ∷ xs) ys h = each_right m xs ys h.1

-- The items of a kind all hold if those at each position do.
pass_from : (m : Module) (k : ItemKind) (i n : ℕ) → ((j : ℕ) → j < n → HoldsAt m k (j + i)) → EachHolds m (span k i n)
pass_from m k i zero h = tt
pass_from m k i (suc n) h =
    (subst (HoldsAt m k) (zero-add i) (h 0 (omega arith)), pass_from m k (suc i) n (λ j lt. let e : suc j + i ≡ j + suc i = omega arith in subst (HoldsAt m k) e (h (suc j) (omega arith))))

pub span_pass : (m : Module) (k : ItemKind) (n : ℕ) → ((j : ℕ) → j < n → HoldsAt m k j) → EachHolds m (span k 0 n)
span_pass m k n h = pass_from m k 0 n (λ j lt. subst (HoldsAt m k) (sym (add-zero j)) (h j lt))

-- The items of a kind are split at one of them, and those before it hold.
Split : (m : Module) (k : ItemKind) (i n j : ℕ) → Type 0
Split m k i n j = (before after : List Item) × (span k i n ≡ before ++ item k j ∷ after) × EachHolds m before

split_more : (m : Module) (k : ItemKind) (i n j : ℕ) → HoldsAt m k i → Split m k (suc i) n j → Split m k i (suc n) j
unfolding Split
split_more m k i n j first (before, after, e, hold) = (item k i ∷ before, after, ap (λ xs. item k i ∷ xs) e, (first, hold))

split_at : (m : Module) (k : ItemKind) (i n j : ℕ) → j < n → ((h : ℕ) → h < j → HoldsAt m k (h + i)) → Split m k i n (j + i)
unfolding Split
split_at m k i zero j lt h = absurd (omega arith)
split_at m k i (suc n) zero lt h = ([], span k (suc i) n, ap (λ z. item k z ∷ span k (suc i) n) (sym (zero-add i)), tt)
split_at m k i (suc n) (suc j) lt h =
    let e : j + suc i ≡ suc j + i = omega arith in
    split_more m k i n (suc j + i) (subst (HoldsAt m k) (zero-add i) (h 0 (omega arith)))
    (subst (Split m k (suc i) n) e (split_at m k (suc i) n j (omega arith) (λ z l. let f : suc z + i ≡ z + suc i = omega arith in subst (HoldsAt m k) f (h (suc z) (omega arith)))))

pub span_fail : (m : Module) (k : ItemKind) (n j index : ℕ) → j < n → ((h : ℕ) → h < j → HoldsAt m k h) → (HoldsAt m k j → ⊥) → index ≡ index_of m k j → IsFirstOf m (span k 0 n) (record { kind = k; index = index })
unfolding Split
span_fail m k n j index lt h bad e = here (split_at m k 0 n j lt (λ z l. subst (HoldsAt m k) (sym (add-zero z)) (h z l)))
  where
    here : Split m k 0 n (j + 0) → IsFirstOf m (span k 0 n) (record { kind = k; index = index })
    here (before, after, f, hold) = (item k j, before, after, f ∙ ap (λ z. before ++ item k z ∷ after) (add-zero j), hold, bad, refl, e)

-- The items of several kinds, kind after kind.
abbrev all_of : Module → Bool → List ItemKind → List Item
all_of m many ks = flat_map (λ k. span k 0 (count_of m many k)) ks

behind : (m : Module) (xs ys : List Item) (e : Invalid) → EachHolds m xs → IsFirstOf m ys e → IsFirstOf m (xs ++ ys) e
behind m xs ys e h (x, front, after, f, hold, bad, k, n) =
    (x, xs ++ front, after, ap (λ zs. xs ++ zs) f ∙ sym (append_assoc xs front (x ∷ after)), each_append m xs front h hold, bad, k, n)

before : (m : Module) (xs ys : List Item) (e : Invalid) → IsFirstOf m xs e → IsFirstOf m (xs ++ ys) e
before m xs ys e (x, front, after, f, hold, bad, k, n) =
    (x, front, after ++ ys, ap (λ zs. zs ++ ys) f ∙ append_assoc front (x ∷ after) ys, hold, bad, k, n)

pub among : (m : Module) (many : Bool) (ks : List ItemKind) (i : ℕ) (k d : ItemKind) (e : Invalid) → i < length ks → k ≡ get_or ks i d → EachHolds m (all_of m many (take i ks)) → IsFirstOf m (span k 0 (count_of m many k)) e → IsFirstOf m (all_of m many ks) e
among m many [] i k d e lt is h f = absurd (omega arith)
among m many (x ∷ ks) zero k d e lt is h f =
    before m (span x 0 (count_of m many x)) (all_of m many ks) e (subst (λ z. IsFirstOf m (span z 0 (count_of m many z)) e) is f)
among m many (x ∷ ks) (suc i) k d e lt is h f =
    let first = span x 0 (count_of m many x) in
    behind m first (all_of m many ks) e (each_left m first (all_of m many (take i ks)) h) (among m many ks i k d e (omega arith) is (each_right m first (all_of m many (take i ks)) h) f)

pub one_more : (m : Module) (many : Bool) (ks : List ItemKind) (i : ℕ) (k d : ItemKind) → i < length ks → k ≡ get_or ks i d → EachHolds m (all_of m many (take i ks)) → EachHolds m (span k 0 (count_of m many k)) → EachHolds m (all_of m many (take (i + 1) ks))
one_more m many ks i k d lt is h g =
    let more : take (i + 1) ks ≡ take i ks ++ k ∷ [] = take_more ks i d lt ∙ ap (λ z. take i ks ++ z ∷ []) (sym is) in
    let last : EachHolds m (all_of m many (k ∷ [])) = subst (EachHolds m) (sym (append-nil (span k 0 (count_of m many k)))) g in
    subst (λ zs. EachHolds m (all_of m many zs)) (sym more)
    (subst (EachHolds m) (sym (flat_map-append (λ z. span z 0 (count_of m many z)) (take i ks) (k ∷ []))) (each_append m (all_of m many (take i ks)) (all_of m many (k ∷ [])) h last))

-- The answer of a pass over one kind is an answer for any equal module.
pub answer_at : (m n : Module) (many : Bool) (k : ItemKind) (r q : Option Invalid) → n ≡ m → r ≡ q → IsAnswer n (span k 0 (count_of n many k)) r → IsAnswer m (span k 0 (count_of m many k)) q
answer_at m n many k r q same is h = subst (λ z. IsAnswer z (span k 0 (count_of z many k)) q) same (subst (IsAnswer n (span k 0 (count_of n many k))) is h)

-- A module whose items all hold is valid and has at most one memory.
pub apart : (m : Module) → EachHolds m (items m false) → IsValid m × IsSingle m
apart m h =
    let imports = span kind.Import 0 (count_of m true kind.Import) in
    let rest = each_right m imports _ h in
    (each_append m imports _ (each_left m imports _ h) rest.1, rest.0)

each_among : (m : Module) (front after : List Item) (x : Item) → EachHolds m (front ++ x ∷ after) → HoldsAt m x.kind x.place
each_among m [] after x h = h.0
each_among m (y ∷ front) after x h = each_among m front after x h.1

-- A valid module with at most one memory has no first item that does not hold.
pub none_first : (m : Module) (e : Invalid) → IsValid m → IsSingle m → IsFirstOf m (items m false) e → ⊥
none_first m e valid single (x, front, after, f, hold, bad, k, n) =
    let imports = span kind.Import 0 (count_of m true kind.Import) in
    let all : EachHolds m (items m false) = each_append m imports _ (each_left m imports _ valid) (single, each_right m imports _ valid) in
    bad (each_among m front after x (subst (EachHolds m) f all))

-- The items of each kind in a list of kinds hold if those of all these kinds do.
kind_holds : (m : Module) (ks : List ItemKind) (p : ℕ) (k : ItemKind) → slice_get ks p ≡ Some k → EachHolds m (all_of m true ks) → EachHolds m (span k 0 (count_of m true k))
kind_holds m [] p k e h = cc
kind_holds m (x ∷ ks) zero k e h =
    let same : x ≡ k = cc in subst (λ z. EachHolds m (span z 0 (count_of m true z))) same (each_left m (span x 0 (count_of m true x)) (all_of m true ks) h)
kind_holds m (x ∷ ks) (suc p) k e h = kind_holds m ks p k e (each_right m (span x 0 (count_of m true x)) (all_of m true ks) h)

place_holds : (m : Module) (k : ItemKind) (i n j : ℕ) → j < n → EachHolds m (span k i n) → HoldsAt m k (j + i)
place_holds m k i zero j lt h = absurd (omega arith)
place_holds m k i (suc n) zero lt h = subst (HoldsAt m k) (sym (zero-add i)) h.0
place_holds m k i (suc n) (suc j) lt h = let e : j + suc i ≡ suc j + i = omega arith in subst (HoldsAt m k) e (place_holds m k (suc i) n j (omega arith) h.1)

at : (m : Module) (p : ℕ) (k : ItemKind) → slice_get order p ≡ Some k → IsValid m → (i : ℕ) → i < count_of m true k → HoldsAt m k i
at m p k e valid i lt = subst (HoldsAt m k) (add-zero i) (place_holds m k 0 (count_of m true k) i lt (kind_holds m order p k e valid))

pub each_item : (m : Module) → IsValid m → ItemsHold m
each_item m valid kind.Import i lt = at m 0 kind.Import refl valid i lt
each_item m valid kind.Memories i lt = absurd (omega arith)
each_item m valid kind.Func i lt = at m 2 kind.Func refl valid i lt
each_item m valid kind.Table i lt = at m 3 kind.Table refl valid i lt
each_item m valid kind.Memory i lt = at m 4 kind.Memory refl valid i lt
each_item m valid kind.Global i lt = at m 5 kind.Global refl valid i lt
each_item m valid kind.Export i lt = at m 6 kind.Export refl valid i lt
each_item m valid kind.Start i lt = at m 7 kind.Start refl valid i lt
each_item m valid kind.Elem i lt = at m 8 kind.Elem refl valid i lt
each_item m valid kind.Segment i lt = at m 9 kind.Segment refl valid i lt
each_item m valid kind.Body i lt = at m 10 kind.Body refl valid i lt

pub all_items : (m : Module) → ItemsHold m → (ks : List ItemKind) → EachHolds m (all_of m true ks)
all_items m h [] = tt
all_items m h (k ∷ ks) = each_append m (span k 0 (count_of m true k)) (all_of m true ks) (span_pass m k (count_of m true k) (h k)) (all_items m h ks)
