-- The marks on exactly what is reached exist, and they are unique.
use Rattle.base_lists.proofs.Common.{◌≡◌, ◌∙◌, ◌⊎◌, inl, inr, refl, sym, ap, ap₂, ℕ, zero, suc, ◌+◌, ◌<◌, List, [], ◌∷◌, ◌++◌, length, Bool, true, false, get_or, arith, ◌↔◌}
use Rattle.std.proofs.Common.{length-append}
use Rattle.wasm_tree_spec.specs.Prelude.{Module}
use Rattle.dce_graph.specs.declared.graph.Graph.{Graph}
use Rattle.dce_graph.specs.declared.point.Point.{Point}
use Rattle.dce_graph.specs.declared.point.Point.TheVariants.{Node, Export, Import, Func, Global}
use Rattle.dce_graph.specs.declared.marks.Reached.{Reached}
use Rattle.dce_graph.specs.Prelude.{routes, roots, edges, flags, marked, unmarked, Spread}
use Rattle.dce_graph.specs.Marks.{AreExact, unmet, with_mark, blank_marks}
use Rattle.dce_graph.proofs.Marking.{spread_none, spread_old, spread_new, spread_then}
use Rattle.dce_graph.proofs.Searching.{Good, good_start, good_more, good_end}

-- ---- existence: a search, as a definition, over the marks that are set and the points that wait
-- ----

-- The marks and the waiting points of a search after it met some points.
record Met (marks : Reached) (stack ps : List Point) : Type 0 where
  new : Reached
  waiting : List Point
  spread : Spread (record { marks = marks; stack = stack }) ps (record { marks = new; stack = waiting })

meet : (r : Reached) (stack : List Point) (p : Point) → Met r stack (p ∷ [])
meet r stack p = by (unmet r p) refl
  where
    by : (b : Bool) → unmet r p ≡ b → Met r stack (p ∷ [])
    by true e = record { new = with_mark r p; waiting = stack ++ p ∷ []; spread = spread_new (record { marks = r; stack = stack }) p e }
    by false e = record { new = r; waiting = stack; spread = spread_old (record { marks = r; stack = stack }) p e }

meet_all : (r : Reached) (stack ps : List Point) → Met r stack ps
meet_all r stack [] = record { new = r; waiting = stack; spread = spread_none (record { marks = r; stack = stack }) }
meet_all r stack (p ∷ ps) =
    let first = meet r stack p in
    let rest = meet_all first.new first.waiting ps in
    record { new = rest.new; waiting = rest.waiting; spread = spread_then (record { marks = r; stack = stack }) (record { marks = first.new; stack = first.waiting }) (record { marks = rest.new; stack = rest.waiting }) (p ∷ []) ps first.spread rest.spread }

-- A list of points is empty or has a last point.
abbrev Last : List Point → Type 0
Last ps = (ps ≡ []) ⊎ ((before : List Point) × (p : Point) × (ps ≡ before ++ p ∷ []))

last_of : (ps : List Point) → Last ps
last_of [] = inl refl
last_of (p ∷ ps) = by (last_of ps)
  where
    by : Last ps → Last (p ∷ ps)
    by (inl e) = inr ([], p, ap (λ l. p ∷ l) e)
    by (inr (before, q, e)) = inr (p ∷ before, q, ap (λ l. p ∷ l) e)

abbrev SomeExact : Graph → Module → Type 0
SomeExact g m = (r : Reached) × AreExact g m r

abbrev GoodAt : Graph → Module → Reached → List Point → Type 0
GoodAt g m r stack = Good (routes g m) (record { marks = r; stack = stack })

-- A search either has no waiting point and ends with exact marks, or it takes one step and
-- continues with less fuel.
on_last : (g : Graph) (m : Module) (fuel : ℕ) (r : Reached) (stack : List Point) → GoodAt g m r stack → unmarked r + length stack < suc fuel
    → ((s : Reached) (st : List Point) → GoodAt g m s st → unmarked s + length st < fuel → SomeExact g m) → Last stack → SomeExact g m
on_last g m fuel r stack good few more (inl none) = (r, record { exactly = good_end (routes g m) (record { marks = r; stack = stack }) good none; one_each = good.as_many })
on_last g m fuel r stack good few more (inr (before, p, is)) =
    let next = meet_all r before (edges g m p) in
    let weight : unmarked next.new + length next.waiting ≡ unmarked r + length before = next.spread.weight in
    let long : length stack ≡ length before + 1 = ap length is ∙ length-append before (p ∷ []) in
    more next.new next.waiting (good_more (routes g m) (record { marks = r; stack = stack }) (record { marks = next.new; stack = next.waiting }) before p good is next.spread) (omega arith)

search_on : (g : Graph) (m : Module) (fuel : ℕ) (r : Reached) (stack : List Point) → GoodAt g m r stack → unmarked r + length stack < fuel → SomeExact g m
search_on g m zero r stack good few = absurd (omega arith)
search_on g m (suc fuel) r stack good few = on_last g m fuel r stack good few (λ s st k f. search_on g m fuel s st k f) (last_of stack)

pub some_exact : (g : Graph) (m : Module) → (r : Reached) × AreExact g m r
some_exact g m =
    let begun = meet_all (blank_marks g m) [] (roots g m) in
    search_on g m (suc (unmarked begun.new + length begun.waiting)) begun.new begun.waiting (good_start g m (record { marks = begun.new; stack = begun.waiting }) begun.spread) (omega arith)

-- ---- they are one ----

same_flag : (a b : Bool) → (a ≡ true) ↔ (b ≡ true) → a ≡ b
same_flag true true h = refl
same_flag true false h = sym (h.0 refl)
same_flag false true h = h.1 refl
same_flag false false h = refl

same_flags : (xs ys : List Bool) → length xs ≡ length ys → ((i : ℕ) → (get_or xs i false ≡ true) ↔ (get_or ys i false ≡ true)) → xs ≡ ys
same_flags [] [] long h = refl
same_flags [] (y ∷ ys) long h = absurd (omega arith)
same_flags (x ∷ xs) [] long h = absurd (omega arith)
same_flags (x ∷ xs) (y ∷ ys) long h = ap₂ (λ (b : Bool) (bs : List Bool). b ∷ bs) (same_flag x y (h 0)) (same_flags xs ys (omega arith) (λ i. h (suc i)))

same_marks : (r s : Reached) → r.nodes ≡ s.nodes → r.exports ≡ s.exports → r.imports ≡ s.imports → r.funcs ≡ s.funcs → r.globals ≡ s.globals → r ≡ s
same_marks r s n e i f g = grind arith

pub one_exact : (g : Graph) (m : Module) (r s : Reached) → AreExact g m r → AreExact g m s → r ≡ s
one_exact g m r s h k =
    let both : (p : Point) → (marked r p ≡ true) ↔ (marked s p ≡ true) = λ p. ((λ e. (k.exactly p).1 ((h.exactly p).0 e)), λ e. (h.exactly p).1 ((k.exactly p).0 e)) in
    let long : (p : Point) → length (flags r p) ≡ length (flags s p) = λ p. h.one_each p ∙ sym (k.one_each p) in
    same_marks r s
    (same_flags r.nodes s.nodes (long (Node 0)) (λ i. both (Node i)))
    (same_flags r.exports s.exports (long (Export 0)) (λ i. both (Export i)))
    (same_flags r.imports s.imports (long (Import 0)) (λ i. both (Import i)))
    (same_flags r.funcs s.funcs (long (Func 0)) (λ i. both (Func i)))
    (same_flags r.globals s.globals (long (Global 0)) (λ i. both (Global i)))
