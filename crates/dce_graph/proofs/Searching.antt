-- A search from the roots marks exactly what is reached.
use Rattle.base_lists.proofs.Common.{◌≡◌, ℕ, zero, suc, ◌<◌, List, [], ◌∷◌, ◌++◌, length, replicate, true, false, get_or, ◌⊎◌, inl, inr, ⊎_elim, sym, ◌∙◌, subst, ◌↔◌, Contains, length-replicate, Contains-push, Contains-append_left, Contains-push_cases}
use Rattle.wasm_tree_spec.specs.Prelude.{Module}
use Rattle.dce_graph.specs.declared.graph.Graph.{Graph}
use Rattle.dce_graph.specs.declared.point.Point.{Point}
use Rattle.dce_graph.specs.declared.point.Point.TheVariants.{Node, Export, Import, Func, Global}
use Rattle.dce_graph.specs.declared.search.Search.{Search}
use Rattle.dce_graph.specs.Prelude.{root, along, place_in_kind, routes, roots, point_count, flags, marked, Spread}
use Rattle.dce_graph.specs.Reach.{Routes, PointExists, IsReachedBy}
use Rattle.dce_graph.specs.Marks.{with_stack, blank_marks, HasMark}
use Rattle.dce_graph.proofs.Marking.{nowhere}

-- The invariant of a search.
pub record Good (r : Routes) (s : Search) : Type 0 where
  pub sound : (p : Point) → marked s.marks p ≡ true → IsReachedBy r p
  pub roots : (p : Point) → PointExists r p → Contains r.roots p → marked s.marks p ≡ true
  pub stacked : (p : Point) → Contains s.stack p → marked s.marks p ≡ true
  pub closed : (p : Point) → marked s.marks p ≡ true → Contains s.stack p ⊎ ((q : Point) → PointExists r q → Contains (r.edges p) q → marked s.marks q ≡ true)
  pub as_many : (p : Point) → length (flags s.marks p) ≡ r.count p

-- ---- the start ----

pub none_marked : (n i : ℕ) → get_or (replicate n false) i false ≡ true → ⊥
none_marked zero i e = cc
none_marked (suc n) zero e = cc
none_marked (suc n) (suc i) e = none_marked n i e

blank_is_unmarked : (g : Graph) (m : Module) (p : Point) → marked (blank_marks g m) p ≡ true → ⊥
blank_is_unmarked g m (Node i) e = none_marked _ i e
blank_is_unmarked g m (Export i) e = none_marked _ i e
blank_is_unmarked g m (Import i) e = none_marked _ i e
blank_is_unmarked g m (Func i) e = none_marked _ i e
blank_is_unmarked g m (Global i) e = none_marked _ i e

blank_as_many : (g : Graph) (m : Module) (p : Point) → length (flags (blank_marks g m) p) ≡ point_count g m p
blank_as_many g m (Node i) = length-replicate _ false
blank_as_many g m (Export i) = length-replicate _ false
blank_as_many g m (Import i) = length-replicate _ false
blank_as_many g m (Func i) = length-replicate _ false
blank_as_many g m (Global i) = length-replicate _ false

abbrev pub blank_search : Graph → Module → Search
blank_search g m = record { marks = blank_marks g m; stack = [] }

pub good_start : (g : Graph) (m : Module) (s : Search) → Spread (blank_search g m) (roots g m) s → Good (routes g m) s
good_start g m s f = record {
  sound = λ p h. ⊎_elim (λ k. absurd (blank_is_unmarked g m p k)) (λ k. root (subst (λ n. place_in_kind p < n) (blank_as_many g m p) k.1) k.0) (f.only p h);
  roots = λ p there h. f.met p h (subst (λ n. place_in_kind p < n) (sym (blank_as_many g m p)) there);
  stacked = λ p h. ⊎_elim (λ k. nowhere p k) (λ k. k) (f.stacked p h);
  closed = λ p h. ⊎_elim (λ k. absurd (blank_is_unmarked g m p k)) inl (f.fresh p h);
  as_many = λ p. f.as_many p ∙ blank_as_many g m p;
}

-- ---- a step ----

pub good_more : (r : Routes) (s new : Search) (st : List Point) (p : Point) → Good r s → s.stack ≡ st ++ p ∷ [] → Spread (with_stack s st) (r.edges p) new → Good r new
good_more r s new st p good is f =
    let here : marked s.marks p ≡ true = good.stacked p (subst (λ ps. Contains ps p) (sym is) (Contains-push st p)) in
    let there : (q : Point) → HasMark s.marks q → PointExists r q = λ q h. subst (λ n. place_in_kind q < n) (good.as_many q) h in
    let has : (q : Point) → PointExists r q → HasMark s.marks q = λ q h. subst (λ n. place_in_kind q < n) (sym (good.as_many q)) h in
    record {
      sound = λ q h. ⊎_elim (λ k. good.sound q k) (λ k. along (good.sound p here) (there q k.1) k.0) (f.only q h);
      roots = λ q th h. f.kept q (good.roots q th h);
      stacked = λ q h. ⊎_elim (λ k. f.kept q (good.stacked q (subst (λ ps. Contains ps q) (sym is) (Contains-append_left st (p ∷ []) q k)))) (λ k. k) (f.stacked q h);
      closed = λ q h. ⊎_elim
          (λ k. ⊎_elim
          (λ w. ⊎_elim (λ a. inl (f.stays q a)) (λ e. inr (λ x th m. f.met x (subst (λ y. Contains (r.edges y) x) (sym e) m) (has x th))) (Contains-push_cases st p q (subst (λ ps. Contains ps q) is w)))
          (λ w. inr (λ x th m. f.kept x (w x th m)))
          (good.closed q k))
          inl (f.fresh q h);
      as_many = λ q. f.as_many q ∙ good.as_many q;
    }

-- ---- the end ----

all_marked : (r : Routes) (s : Search) → ((p : Point) → PointExists r p → Contains r.roots p → marked s.marks p ≡ true) → ((p q : Point) → marked s.marks p ≡ true → PointExists r q → Contains (r.edges p) q → marked s.marks q ≡ true)
    → (p : Point) → IsReachedBy r p → marked s.marks p ≡ true
all_marked r s from_roots closed p (root th h) = from_roots p th h
all_marked r s from_roots closed q (along {p = p} before th h) = closed p q (all_marked r s from_roots closed p before) th h

pub good_end : (r : Routes) (s : Search) → Good r s → s.stack ≡ [] → (p : Point) → (marked s.marks p ≡ true) ↔ IsReachedBy r p
good_end r s good is p =
    (good.sound p, all_marked r s good.roots (λ q x m th h. ⊎_elim (λ k. nowhere q (subst (λ ps. Contains ps q) is k)) (λ w. w x th h) (good.closed q m)) p)
