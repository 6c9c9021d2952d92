-- The types of the parts, each once, in the order of their first appearance.
use Rattle.base_lists.proofs.Common.{◌≡◌, ◌∙◌, sym, ap, subst, refl, ℕ, zero, suc, ◌+◌, ◌<◌, List, [], ◌∷◌, ◌++◌, length, Some, Bool, true, false, cond, ◌||◌, slice_get, arith, ◌⊎◌, inl, inr, append_assoc, append-nil, list_any, slice_get_within, list_any_there, Has, append_at_left, append_from}
use Rattle.base_lists.proofs.Common.{has_left, push_last, each_same_is, each_same_self}
use Rattle.wasm_tree_spec.specs.Prelude.{FuncType, Module, same_func_type, same_type}
use Rattle.index_remap.specs.Prelude.{declared, declared_refs, with_declared}
use Rattle.merge_names.specs.Names.{new_names}
use Rattle.merge_spec.specs.Prelude.{with_type, with_types, export_names}
use Rattle.merge_spec.specs.Merged.{merged, merged_types}
use Rattle.merge_spec.specs.Joined.{joined_module}
use Rattle.merge_spec.specs.Types.{AreFirstAppearances, MergedTypesAreDistinct, part_types}

-- ---- what is among types ----

found : (types : List FuncType) (u : FuncType) → list_any (same_func_type u) types ≡ true → Has types u
found types u h =
    let w = list_any_there (same_func_type u) types h in
    let same : same_func_type u w.0 ≡ true = w.2 in
    let is : u ≡ w.0 = grind (arith, each_same_is same_type (λ a b e. grind arith)) in
    subst (Has types) (sym is) w.1

is_among : (types : List FuncType) (u : FuncType) (n : ℕ) → slice_get types n ≡ Some u → list_any (same_func_type u) types ≡ true
is_among [] u n h = cc
is_among (t ∷ types) u zero h = let e : t ≡ u = cc in let self : same_func_type u u ≡ true = simp (each_same_self same_type (λ a. grind arith)) in ap (λ b. b || list_any (same_func_type u) types) (ap (same_func_type u) e ∙ self)
is_among (t ∷ types) u (suc n) h = by (same_func_type u t) (is_among types u n h)
  where
    by : (b : Bool) → list_any (same_func_type u) types ≡ true → b || list_any (same_func_type u) types ≡ true
    by true h = refl
    by false h = h

single : (u t : FuncType) (k : ℕ) → slice_get (u ∷ []) k ≡ Some t → (k ≡ 0) × (u ≡ t)
single u t zero h = (refl, cc)
single u t (suc k) h = absurd (cc)

-- ---- one more type ----

-- A type that is in the list already adds nothing.
keeps : (all types : List FuncType) (u : FuncType) → AreFirstAppearances all types → Has types u → AreFirstAppearances (all ++ u ∷ []) types
keeps all types u f there = record {
  apart = f.apart;
  from = λ i t h. has_left all (u ∷ []) t (f.from i t h);
  kept = λ n t h. kept t (append_from all (u ∷ []) n t h);
  in_order = λ i j t v less a b n h. ordered i j t v less a b n (append_from all (u ∷ []) n v h);
}
  where
    kept : {n : ℕ} (t : FuncType) → (slice_get all n ≡ Some t) ⊎ ((k : ℕ) × (n ≡ length all + k) × (slice_get (u ∷ []) k ≡ Some t)) → Has types t
    kept {n} t (inl e) = f.kept n t e
    kept t (inr r) = subst (Has types) (single u t r.0 r.2).1 there

    ordered : (i j : ℕ) (t v : FuncType) → i < j → slice_get types i ≡ Some t → slice_get types j ≡ Some v → (n : ℕ)
        → (slice_get all n ≡ Some v) ⊎ ((k : ℕ) × (n ≡ length all + k) × (slice_get (u ∷ []) k ≡ Some v)) → (m : ℕ) × (m < n) × (slice_get (all ++ u ∷ []) m ≡ Some t)
    ordered i j t v less a b n (inl e) = let w = f.in_order i j t v less a b n e in (w.0, w.1, append_at_left all (u ∷ []) w.0 t w.2)
    ordered i j t v less a b n (inr r) =
        let o = f.from j v b in
        let w = f.in_order i j t v less a b o.0 o.1 in
        let last = r.1 in
        let low = w.1 in
        (w.0, omega (arith, last, low, slice_get_within all o.0 v o.1), append_at_left all (u ∷ []) w.0 t w.2)

-- A new type is appended.
adds : (all types : List FuncType) (u : FuncType) → AreFirstAppearances all types → list_any (same_func_type u) types ≡ false → AreFirstAppearances (all ++ u ∷ []) (types ++ u ∷ [])
adds all types u f new = record {
  apart = λ i j t a b. apart i j t (append_from types (u ∷ []) i t a) (append_from types (u ∷ []) j t b);
  from = λ i t a. from t (append_from types (u ∷ []) i t a);
  kept = λ n t h. kept t (append_from all (u ∷ []) n t h);
  in_order = λ i j t v less a b n h. ordered i j t v less (append_from types (u ∷ []) i t a) (append_from types (u ∷ []) j v b) n (append_from all (u ∷ []) n v h);
}
  where
    -- The element at a place of a list that is followed by `u`.
    Put : List FuncType → ℕ → FuncType → Type 0
    Put xs n t = (slice_get xs n ≡ Some t) ⊎ ((k : ℕ) × (n ≡ length xs + k) × (slice_get (u ∷ []) k ≡ Some t))

    absent : {A : Type 0} (t : FuncType) → u ≡ t → Has types t → A
    absent t e w = let h = is_among types u w.0 (w.1 ∙ ap Some (sym e)) in absurd (cc)

    apart : (i j : ℕ) (t : FuncType) → Put types i t → Put types j t → i ≡ j
    apart i j t (inl a) (inl b) = f.apart i j t a b
    apart i j t (inl a) (inr r) = absent t (single u t r.0 r.2).1 (i, a)
    apart i j t (inr r) (inl b) = absent t (single u t r.0 r.2).1 (j, b)
    apart i j t (inr r) (inr q) = let a = r.1 in let b = q.1 in omega (arith, a, b, (single u t r.0 r.2).0, (single u t q.0 q.2).0)

    from : {i : ℕ} (t : FuncType) → Put types i t → Has (all ++ u ∷ []) t
    from {i} t (inl a) = has_left all (u ∷ []) t (f.from i t a)
    from t (inr r) = (length all, push_last all u ∙ ap Some (single u t r.0 r.2).1)

    kept : {n : ℕ} (t : FuncType) → Put all n t → Has (types ++ u ∷ []) t
    kept {n} t (inl e) = has_left types (u ∷ []) t (f.kept n t e)
    kept t (inr r) = (length types, push_last types u ∙ ap Some (single u t r.0 r.2).1)

    ordered : (i j : ℕ) (t v : FuncType) → i < j → Put types i t → Put types j v → (n : ℕ) → Put all n v → (m : ℕ) × (m < n) × (slice_get (all ++ u ∷ []) m ≡ Some t)
    ordered i j t v less (inl a) (inl b) n (inl e) = let w = f.in_order i j t v less a b n e in (w.0, w.1, append_at_left all (u ∷ []) w.0 t w.2)
    ordered i j t v less (inl a) (inl b) n (inr r) =
        let o = f.from j v b in
        let w = f.in_order i j t v less a b o.0 o.1 in
        let last = r.1 in
        let low = w.1 in
        (w.0, omega (arith, last, low, slice_get_within all o.0 v o.1), append_at_left all (u ∷ []) w.0 t w.2)
    ordered i j t v less (inl a) (inr r) n (inl e) = absent v (single u v r.0 r.2).1 (f.kept n v e)
    ordered i j t v less (inl a) (inr r) n (inr s) =
        let o = f.from i t a in
        let last = s.1 in
        (o.0, omega (arith, last, slice_get_within all o.0 t o.1), append_at_left all (u ∷ []) o.0 t o.1)
    ordered i j t v less (inr q) (inl b) n e = let a = q.1 in absurd (omega (arith, a, less, slice_get_within types j v b))
    ordered i j t v less (inr q) (inr r) n e = let a = q.1 in let b = r.1 in absurd (omega (arith, a, b, less, (single u t q.0 q.2).0, (single u v r.0 r.2).0))

one_more : (all types : List FuncType) (u : FuncType) → AreFirstAppearances all types → AreFirstAppearances (all ++ u ∷ []) (with_type types u)
one_more all types u f = by (list_any (same_func_type u) types) refl
  where
    by : (b : Bool) → list_any (same_func_type u) types ≡ b → AreFirstAppearances (all ++ u ∷ []) (cond b types (types ++ u ∷ []))
    by true h = keeps all types u f (found types u h)
    by false h = adds all types u f h

-- ---- all types ----

all_more : (us all types : List FuncType) → AreFirstAppearances all types → AreFirstAppearances (all ++ us) (with_types types us)
all_more [] all types f = subst (λ xs. AreFirstAppearances xs types) (sym (append-nil all)) f
all_more (u ∷ us) all types f = subst (λ xs. AreFirstAppearances xs (with_types (with_type types u) us)) (append_assoc all (u ∷ []) us) (all_more us (all ++ u ∷ []) (with_type types u) (one_more all types u f))

nothing_there : {A : Type 0} (n : ℕ) (t : FuncType) → slice_get [] n ≡ Some t → A
nothing_there n t h = absurd (let k = h in cc)

none : AreFirstAppearances [] []
none = record {
  apart = λ i j t a b. nothing_there i t a;
  from = λ i t a. nothing_there i t a;
  kept = λ n t h. nothing_there n t h;
  in_order = λ i j t u less a b n h. nothing_there i t a;
}

declared_types : (m : Module) → (declared m).types ≡ m.types
declared_types m = by (declared_refs m)
  where
    by : (fs : List ℕ) → (with_declared m fs).types ≡ m.types
    by [] = refl
    by (f ∷ fs) = refl

pub types_are_distinct : MergedTypesAreDistinct
unfolding joined_module merged merged_types
types_are_distinct parts mode = subst (AreFirstAppearances (part_types parts)) (sym (declared_types (merged parts (new_names mode (export_names parts))))) (all_more (part_types parts) [] [] none)
