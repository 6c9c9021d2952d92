-- The setting of a mark, and a search that meets points one after another.
use Rattle.base_lists.proofs.Common.{◌≡◌, ℕ, zero, suc, ◌<◌, List, [], ◌∷◌, ◌++◌, length, Bool, true, false, get_or, slice_get, slice_set, ◌⊎◌, inl, inr, ⊎_elim, refl, sym, ap, ◌∙◌, subst, arith, Contains, Contains-push, Contains-append_left, Contains-append_right, Contains-push_cases}
use Rattle.base_lists.proofs.Common.{Contains-append_cases}
use Rattle.dce_graph.specs.declared.point.Point.{Point}
use Rattle.dce_graph.specs.declared.point.Point.TheVariants.{Node, Export, Import, Func, Global}
use Rattle.dce_graph.specs.declared.marks.Reached.{Reached}
use Rattle.dce_graph.specs.declared.search.Search.{Search}
use Rattle.dce_graph.specs.Prelude.{place_in_kind, flags, marked, unmarked, Spread}
use Rattle.dce_graph.specs.Marks.{not_set, unmet, with_mark, blanks, HasMark}

-- ---- in one list ----

list_set : (xs : List Bool) (i : ℕ) → i < length xs → get_or (slice_set xs i true) i false ≡ true
list_set [] i lt = absurd (omega arith)
list_set (x ∷ xs) zero lt = refl
list_set (x ∷ xs) (suc i) lt = list_set xs i (omega arith)

pub list_other : (xs : List Bool) (i j : ℕ) → (j ≡ i) ⊎ (get_or (slice_set xs i true) j false ≡ get_or xs j false)
list_other [] i j = inr refl
list_other (x ∷ xs) zero zero = inl refl
list_other (x ∷ xs) zero (suc j) = inr refl
list_other (x ∷ xs) (suc i) zero = inr refl
list_other (x ∷ xs) (suc i) (suc j) = ⊎_elim (λ e. inl (ap suc e)) inr (list_other xs i j)

list_blank : (xs : List Bool) (i : ℕ) → i < length xs → get_or xs i false ≡ false → suc (blanks (slice_set xs i true)) ≡ blanks xs
list_blank [] i lt e = absurd (omega arith)
list_blank (true ∷ xs) zero lt e = cc
list_blank (false ∷ xs) zero lt e = refl
list_blank (true ∷ xs) (suc i) lt e = list_blank xs i (omega arith) e
list_blank (false ∷ xs) (suc i) lt e = ap suc (list_blank xs i (omega arith) e)

list_long : (xs : List Bool) (i : ℕ) → length (slice_set xs i true) ≡ length xs
list_long [] i = refl
list_long (x ∷ xs) zero = refl
list_long (x ∷ xs) (suc i) = ap suc (list_long xs i)

list_unmet : (xs : List Bool) (i : ℕ) → not_set (slice_get xs i) ≡ true → (i < length xs) × (get_or xs i false ≡ false)
list_unmet [] i e = cc
list_unmet (true ∷ xs) zero e = cc
list_unmet (false ∷ xs) zero e = (omega arith, refl)
list_unmet (x ∷ xs) (suc i) e = let t = list_unmet xs i e in (omega (arith, t.0), t.1)

list_met : (xs : List Bool) (i : ℕ) → not_set (slice_get xs i) ≡ false → i < length xs → get_or xs i false ≡ true
list_met [] i e lt = absurd (omega arith)
list_met (true ∷ xs) zero e lt = refl
list_met (false ∷ xs) zero e lt = cc
list_met (x ∷ xs) (suc i) e lt = list_met xs i e (omega arith)

-- ---- over the kinds ----

-- The mark of a point is set in the list of its kind, in which no other point has its place.
set_in_kind : (r : Reached) (p : Point) → flags (with_mark r p) p ≡ slice_set (flags r p) (place_in_kind p) true
set_in_kind r (Node i) = refl
set_in_kind r (Export i) = refl
set_in_kind r (Import i) = refl
set_in_kind r (Func i) = refl
set_in_kind r (Global i) = refl

abbrev SetOrNot : Reached → Point → Point → Type 0
SetOrNot r p q = (flags (with_mark r p) q ≡ flags r q) ⊎ ((flags (with_mark r p) q ≡ slice_set (flags r q) (place_in_kind p) true) × (place_in_kind q ≡ place_in_kind p → q ≡ p))

set_or_not : (r : Reached) (p q : Point) → SetOrNot r p q
set_or_not r (Node i) (Node j) = inr (refl, λ e. ap Node e)
set_or_not r (Node i) _ = inl refl
set_or_not r (Export i) (Export j) = inr (refl, λ e. ap Export e)
set_or_not r (Export i) _ = inl refl
set_or_not r (Import i) (Import j) = inr (refl, λ e. ap Import e)
set_or_not r (Import i) _ = inl refl
set_or_not r (Func i) (Func j) = inr (refl, λ e. ap Func e)
set_or_not r (Func i) _ = inl refl
set_or_not r (Global i) (Global j) = inr (refl, λ e. ap Global e)
set_or_not r (Global i) _ = inl refl

marks_it : (r : Reached) (p : Point) → HasMark r p → marked (with_mark r p) p ≡ true
marks_it r p lt = ap (λ xs. get_or xs (place_in_kind p) false) (set_in_kind r p) ∙ list_set (flags r p) (place_in_kind p) lt

marks_no_other : (r : Reached) (p q : Point) → (q ≡ p) ⊎ (marked (with_mark r p) q ≡ marked r q)
marks_no_other r p q = ⊎_elim
    (λ e. inr (ap (λ xs. get_or xs (place_in_kind q) false) e))
    (λ s. ⊎_elim (λ e. inl (s.1 e)) (λ e. inr (ap (λ xs. get_or xs (place_in_kind q) false) s.0 ∙ e)) (list_other (flags r q) (place_in_kind p) (place_in_kind q)))
    (set_or_not r p q)

one_less : (r : Reached) (p : Point) → HasMark r p → marked r p ≡ false → suc (unmarked (with_mark r p)) ≡ unmarked r
one_less r (Node i) lt e = omega (arith, list_blank r.nodes i lt e)
one_less r (Export i) lt e = omega (arith, list_blank r.exports i lt e)
one_less r (Import i) lt e = omega (arith, list_blank r.imports i lt e)
one_less r (Func i) lt e = omega (arith, list_blank r.funcs i lt e)
one_less r (Global i) lt e = omega (arith, list_blank r.globals i lt e)

as_many_marks : (r : Reached) (p q : Point) → length (flags (with_mark r p) q) ≡ length (flags r q)
as_many_marks r p q = ⊎_elim (λ e. ap length e) (λ s. ap length s.0 ∙ list_long (flags r q) (place_in_kind p)) (set_or_not r p q)

-- ---- met one after another ----

not_both : {A : Type 0} (b : Bool) → b ≡ true → b ≡ false → A
not_both true h k = cc
not_both false h k = cc

pub nowhere : {A : Type 0} (q : Point) → Contains [] q → A
nowhere q h = absurd (let lt = h.1 in omega (arith, lt))

pub alone : (p q : Point) → Contains (p ∷ []) q → p ≡ q
alone p q h = ⊎_elim (λ n. nowhere q n) (λ e. e) (Contains-push_cases [] p q h)

pub only_one : (p : Point) → Contains (p ∷ []) p
only_one p = Contains-push [] p

pub spread_none : (s : Search) → Spread s [] s
spread_none s = record {
  met = λ q h k. nowhere q h;
  kept = λ q h. h;
  only = λ q h. inl h;
  fresh = λ q h. inl h;
  stays = λ q h. h;
  stacked = λ q h. inl h;
  weight = refl;
  as_many = λ q. refl;
}

pub spread_then : (a b c : Search) (ps qs : List Point) → Spread a ps b → Spread b qs c → Spread a (ps ++ qs) c
spread_then a b c ps qs f g =
    let has : (q : Point) → HasMark a.marks q → HasMark b.marks q = λ q h. rw f.as_many h in
    let had : (q : Point) → HasMark b.marks q → HasMark a.marks q = λ q h. subst (λ n. place_in_kind q < n) (f.as_many q) h in
    record {
      met = λ q h p. ⊎_elim (λ k. g.kept q (f.met q k p)) (λ k. g.met q k (has q p)) (Contains-append_cases ps qs q h);
      kept = λ q h. g.kept q (f.kept q h);
      only = λ q h. ⊎_elim (λ k. ⊎_elim inl (λ w. inr (Contains-append_left ps qs q w.0, w.1)) (f.only q k)) (λ k. inr (Contains-append_right ps qs q k.0, had q k.1)) (g.only q h);
      fresh = λ q h. ⊎_elim (λ k. ⊎_elim inl (λ w. inr (g.stays q w)) (f.fresh q k)) inr (g.fresh q h);
      stays = λ q h. g.stays q (f.stays q h);
      stacked = λ q h. ⊎_elim (λ k. ⊎_elim inl (λ w. inr (g.kept q w)) (f.stacked q k)) inr (g.stacked q h);
      weight = omega (arith, f.weight, g.weight);
      as_many = λ q. g.as_many q ∙ f.as_many q;
    }

-- The result of meeting points does not depend on their order or repetition.
pub spread_as : (a b : Search) (ps qs : List Point) → ((q : Point) → Contains ps q → Contains qs q) → ((q : Point) → Contains qs q → Contains ps q) → Spread a ps b → Spread a qs b
spread_as a b ps qs to from f = record {
  met = λ q h p. f.met q (from q h) p;
  kept = f.kept;
  only = λ q h. ⊎_elim inl (λ w. inr (to q w.0, w.1)) (f.only q h);
  fresh = f.fresh;
  stays = f.stays;
  stacked = f.stacked;
  weight = f.weight;
  as_many = f.as_many;
}

-- A point that was met before or does not exist does not change the search.
pub spread_old : (s : Search) (p : Point) → unmet s.marks p ≡ false → Spread s (p ∷ []) s
spread_old s p old = record {
  met = λ q h k. subst (λ x. marked s.marks x ≡ true) (alone p q h) (list_met (flags s.marks p) (place_in_kind p) old (subst (λ x. HasMark s.marks x) (sym (alone p q h)) k));
  kept = λ q h. h;
  only = λ q h. inl h;
  fresh = λ q h. inl h;
  stays = λ q h. h;
  stacked = λ q h. inl h;
  weight = refl;
  as_many = λ q. refl;
}

last_long : (ps : List Point) (p : Point) → length (ps ++ p ∷ []) ≡ suc (length ps)
last_long [] p = refl
last_long (q ∷ qs) p = ap suc (last_long qs p)

-- A point that is met for the first time gets a mark and waits on the stack.
pub spread_new : (s : Search) (p : Point) → unmet s.marks p ≡ true → Spread s (p ∷ []) (record { marks = with_mark s.marks p; stack = s.stack ++ p ∷ [] })
spread_new s p new =
    let r : Reached = s.marks in
    let found = list_unmet (flags r p) (place_in_kind p) new in
    let here : HasMark r p = found.0 in
    let blank : marked r p ≡ false = found.1 in
    let less : suc (unmarked (with_mark r p)) ≡ unmarked r = one_less r p here blank in
    record {
      met = λ q h k. subst (λ x. marked (with_mark r p) x ≡ true) (alone p q h) (marks_it r p here);
      kept = λ q h. ⊎_elim (λ e. not_both (marked r q) h (subst (λ x. marked r x ≡ false) (sym e) blank)) (λ e. e ∙ h) (marks_no_other r p q);
      only = λ q h. ⊎_elim (λ e. inr (subst (λ x. Contains (p ∷ []) x × HasMark r x) (sym e) (only_one p, here))) (λ e. inl (sym e ∙ h)) (marks_no_other r p q);
      fresh = λ q h. ⊎_elim (λ e. inr (subst (Contains (s.stack ++ p ∷ [])) (sym e) (Contains-push s.stack p))) (λ e. inl (sym e ∙ h)) (marks_no_other r p q);
      stays = λ q h. Contains-append_left s.stack (p ∷ []) q h;
      stacked = λ q h. ⊎_elim inl (λ e. inr (subst (λ x. marked (with_mark r p) x ≡ true) e (marks_it r p here))) (Contains-push_cases s.stack p q h);
      weight = omega (arith, less, last_long s.stack p);
      as_many = λ q. as_many_marks r p q;
    }
