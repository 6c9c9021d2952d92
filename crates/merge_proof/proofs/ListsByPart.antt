-- Lists that are joined by part: an entry of a part's list has its place in the joined list, and
-- each entry of the joined list comes from a part.
use Rattle.base_lists.proofs.Common.{◌≡◌, ◌∙◌, ap, ap₂, sym, subst, refl, ℕ, zero, suc, ◌+◌, List, [], ◌∷◌, ◌++◌, map, length, Some, arith, ◌⊎◌, inl, inr, slice_get, flat_map, length-append, map-append, append_at_left, append_right, append_from, has_left, has_right, Has}
use Rattle.wasm_tree_spec.specs.Prelude.{Space, Module}
use Rattle.wasm_meaning.specs.Prelude.{defined_count, defined_before, Part, module_at}
use Rattle.merge_spec.specs.Prelude.{by_part_from}

pub by_part_at : {A : Type 0} (f : ℕ → Module → List A) (k : Space) → ((p : ℕ) (m : Module) → length (f p m) ≡ defined_count k m) → (first : ℕ) (parts : List Part) (q : ℕ) (m : Module) (j : ℕ) (x : A) → module_at parts q ≡ Some m →
    slice_get (f (first + q) m) j ≡ Some x → slice_get (by_part_from f first parts) (defined_before k parts q + j) ≡ Some x
by_part_at f k e first [] q m j x h g = cc
by_part_at f k e first (part ∷ parts) zero m j x h g =
    let same : part.«module» ≡ m = cc in
    let at_first : first + 0 ≡ first = omega arith in
    let here : slice_get (f first part.«module») j ≡ Some x = ap₂ (λ p n. slice_get (f p n) j) (sym at_first) same ∙ g in
    let z : 0 + j ≡ j = omega arith in
    ap (slice_get (f first part.«module» ++ by_part_from f (suc first) parts)) z ∙ append_at_left (f first part.«module») (by_part_from f (suc first) parts) j x here
by_part_at f k e first (part ∷ parts) (suc q) m j x h g =
    let n : first + suc q ≡ suc first + q = omega arith in
    let later = by_part_at f k e (suc first) parts q m j x h (ap (λ p. slice_get (f p m) j) (sym n) ∙ g) in
    let many = e first part.«module» in
    let at : (defined_count k part.«module» + defined_before k parts q) + j ≡ length (f first part.«module») + (defined_before k parts q + j) = omega (arith, many) in
    ap (slice_get (f first part.«module» ++ by_part_from f (suc first) parts)) at ∙ append_right (f first part.«module») (by_part_from f (suc first) parts) (defined_before k parts q + j) ∙ later

pub by_part_has : {A : Type 0} (f : ℕ → Module → List A) (first : ℕ) (parts : List Part) (q : ℕ) (m : Module) (x : A) → module_at parts q ≡ Some m → Has (f (first + q) m) x → Has (by_part_from f first parts) x
by_part_has f first [] q m x h g = absurd (let k = h in cc)
by_part_has f first (part ∷ parts) zero m x h g =
    let same : m ≡ part.«module» = cc in
    let at_first : first + 0 ≡ first = omega arith in
    has_left (f first part.«module») (by_part_from f (suc first) parts) x (subst (λ n. Has (f n part.«module») x) at_first (subst (λ n. Has (f (first + 0) n) x) same g))
by_part_has f first (part ∷ parts) (suc q) m x h g =
    let n : first + suc q ≡ suc first + q = omega arith in
    has_right (f first part.«module») (by_part_from f (suc first) parts) x (by_part_has f (suc first) parts q m x h (subst (λ p. Has (f p m) x) n g))

-- The part from which an entry of a joined list comes, and its place in that part's list.
pub record From {A : Type 0} (f : ℕ → Module → List A) (first : ℕ) (parts : List Part) (x : A) : Type 0 where
  pub part : ℕ
  pub «module» : Module
  pub place : ℕ
  pub is_part : module_at parts part ≡ Some «module»
  pub got : slice_get (f (first + part) «module») place ≡ Some x

pub by_part_back : {A : Type 0} (f : ℕ → Module → List A) (first : ℕ) (parts : List Part) (i : ℕ) (x : A) → slice_get (by_part_from f first parts) i ≡ Some x → From f first parts x
by_part_back f first [] i x h = absurd (let k = h in cc)
by_part_back {A} f first (part ∷ parts) i x h = by (append_from (f first part.«module») (by_part_from f (suc first) parts) i x h) (λ j g. by_part_back f (suc first) parts j x g)
  where
    by : (slice_get (f first part.«module») i ≡ Some x) ⊎ ((k : ℕ) × (i ≡ length (f first part.«module») + k) × (slice_get (by_part_from f (suc first) parts) k ≡ Some x)) →
        ((j : ℕ) → slice_get (by_part_from f (suc first) parts) j ≡ Some x → From f (suc first) parts x) → From f first (part ∷ parts) x
    by (inl g) later = let e : first + 0 ≡ first = omega arith in record { part = 0; «module» = part.«module»; place = i; is_part = refl; got = ap (λ p. slice_get (f p part.«module») i) e ∙ g }
    by (inr r) later =
        let l = later r.0 r.2 in
        let e : first + suc l.part ≡ suc first + l.part = omega arith in
        record { part = suc l.part; «module» = l.«module»; place = l.place; is_part = l.is_part; got = ap (λ p. slice_get (f p l.«module») l.place) e ∙ l.got }

pub by_part_many : {A : Type 0} (f : ℕ → Module → List A) (k : Space) → ((p : ℕ) (m : Module) → length (f p m) ≡ defined_count k m) → (first : ℕ) (parts : List Part) → length (by_part_from f first parts) ≡ defined_before k parts (length parts)
by_part_many f k e first [] = refl
by_part_many f k e first (part ∷ parts) =
    length-append (f first part.«module») (by_part_from f (suc first) parts) ∙ ap₂ (λ a b. a + b) (e first part.«module») (by_part_many f k e (suc first) parts)

pub by_part_map : {A B : Type 0} (g : A → B) (f : ℕ → Module → List A) (first : ℕ) (parts : List Part) → map g (by_part_from f first parts) ≡ by_part_from (λ p m. map g (f p m)) first parts
by_part_map g f first [] = refl
by_part_map g f first (part ∷ parts) = map-append g (f first part.«module») (by_part_from f (suc first) parts) ∙ ap (λ z. map g (f first part.«module») ++ z) (by_part_map g f (suc first) parts)

pub by_part_same : {A : Type 0} (f g : ℕ → Module → List A) → ((p : ℕ) (m : Module) → f p m ≡ g p m) → (first : ℕ) (parts : List Part) → by_part_from f first parts ≡ by_part_from g first parts
by_part_same f g e first [] = refl
by_part_same f g e first (part ∷ parts) = ap₂ (λ a b. a ++ b) (e first part.«module») (by_part_same f g e (suc first) parts)

-- A list that consists of the list of the first part, followed by those of the later parts, is
-- joined by part.
pub by_part_is : {A : Type 0} (g : ℕ → List Part → List A) (f : ℕ → Module → List A) → ((first : ℕ) → g first [] ≡ []) → ((first : ℕ) (part : Part) (parts : List Part) → g first (part ∷ parts) ≡ f first part.«module» ++ g (suc first) parts) → (first : ℕ) (parts : List Part) →
    g first parts ≡ by_part_from f first parts
by_part_is g f none next first [] = none first
by_part_is g f none next first (part ∷ parts) = next first part parts ∙ ap (λ z. f first part.«module» ++ z) (by_part_is g f none next (suc first) parts)

pub by_part_flat : {A : Type 0} (f : Module → List A) (first : ℕ) (parts : List Part) → flat_map (λ p. f p.«module») parts ≡ by_part_from (λ p m. f m) first parts
by_part_flat f = by_part_is (λ first parts. flat_map (λ p. f p.«module») parts) (λ p m. f m) (λ first. refl) (λ first part parts. refl)
