-- Walks that mark the places that they pass and give one answer for all of them.
use Rattle.base_lists.proofs.Common.{◌≡◌, ◌⊎◌, inl, inr, ℕ, ◌+◌, ◌<◌, ◌≤◌, List, [], ◌∷◌, ◌++◌, Option, Some, None, length, set, slice_get, refl, sym, ◌∙◌, ap, subst, arith, slice_get_within, cases_eq, set_at, set_other, push_last, push_before}
use Rattle.std.proofs.Common.{length-set}
use Rattle.base_paths.specs.Paths.{Reaches, IsEnd, Marked, StayMarked}
use Rattle.base_paths.specs.Paths.Reaches.{stop, go}
use Rattle.base_paths.proofs.Lists.{got_left}

-- The end that a place reaches is also reached from the next place.
pub next_reaches : (steps : List (Option ℕ)) (n e m : ℕ) → slice_get steps n ≡ Some (Some m) → Reaches steps n e → Reaches steps m e
next_reaches steps n e m s (stop _ h) = absurd (cc)
next_reaches steps n e m s (go _ k _ h l) = let P : ℕ → Type 0 = λ x. Reaches steps x e in let same : k ≡ m = cc in subst P same l

-- A place that the current walk has passed.
pub record IsPassed (steps marks answers : List (Option ℕ)) (at n w : ℕ) : Type 0 where
  pub this : w ≡ length answers
  pub to : (e : ℕ) → Reaches steps at e → Reaches steps n e
  pub from : (e : ℕ) → Reaches steps n e → Reaches steps at e
  pub next : (m : ℕ) × (slice_get steps n ≡ Some (Some m)) × ((slice_get marks m ≡ Some (Some (length answers))) ⊎ (m ≡ at))

-- A place that an earlier walk has passed, with the answer of that walk.
pub record IsAnswered (steps answers : List (Option ℕ)) (n w : ℕ) : Type 0 where
  pub answer : Option ℕ
  pub stands : slice_get answers w ≡ Some answer
  pub right : IsEnd steps n answer

abbrev pub IsMarked : List (Option ℕ) → ℕ → Type 0
IsMarked marks n = (w : ℕ) × (slice_get marks n ≡ Some (Some w))

-- A walk from the place `start` has come to the place `at`.
pub record Walking (steps old marks answers : List (Option ℕ)) (start at : ℕ) : Type 0 where
  pub sizes : length marks ≡ length steps
  pub inside : at < length steps
  pub known : (n w : ℕ) → slice_get marks n ≡ Some (Some w) → IsAnswered steps answers n w ⊎ IsPassed steps marks answers at n w
  pub keeps : StayMarked old marks
  pub begun : (at ≡ start) ⊎ IsMarked marks start

-- A write of a mark at a place keeps each other place marked.
pub marked_more : (marks : List (Option ℕ)) (at w n v : ℕ) → at < length marks → slice_get marks n ≡ Some (Some v) → IsMarked (set marks at (Some w)) n
marked_more marks at w n v inside h = elim (cases_eq n at) [
  | inl e ↦ (w, subst (λ (x : ℕ). slice_get (set marks at (Some w)) x ≡ Some (Some w)) (sym e) (set_at marks at (Some w) inside))
  | inr ne ↦ (v, set_other marks at n (Some w) ne ∙ h)
]

pub keeps_more : (old marks : List (Option ℕ)) (at w : ℕ) → at < length marks → StayMarked old marks → StayMarked old (set marks at (Some w))
keeps_more old marks at w inside k n v h = let b : IsMarked marks n = k n v h in marked_more marks at w n b.0 inside b.1

pub begun_more : (marks : List (Option ℕ)) (at w start : ℕ) → at < length marks → (at ≡ start) ⊎ IsMarked marks start → IsMarked (set marks at (Some w)) start
begun_more marks at w start inside (inl e) = (w, subst (λ (x : ℕ). slice_get (set marks at (Some w)) x ≡ Some (Some w)) e (set_at marks at (Some w) inside))
begun_more marks at w start inside (inr b) = marked_more marks at w start b.0 inside b.1

-- The mark at a place after a write at the place `at`.
mark_after : (marks : List (Option ℕ)) (at w n : ℕ) → at < length marks → (slice_get marks n ≡ Some (Some w)) ⊎ (n ≡ at) → slice_get (set marks at (Some w)) n ≡ Some (Some w)
mark_after marks at w n inside h = elim (cases_eq n at) [
  | inl e ↦ subst (λ (x : ℕ). slice_get (set marks at (Some w)) x ≡ Some (Some w)) (sym e) (set_at marks at (Some w) inside)
  | inr ne ↦ set_other marks at n (Some w) ne ∙ elim h [ inl was ↦ was | inr e ↦ absurd (ne e) ]
]

-- A walk that goes on to the next place marks the place that it leaves.
pub walk_on : (steps old marks answers : List (Option ℕ)) (start at m : ℕ) → Walking steps old marks answers start at
    → slice_get steps at ≡ Some (Some m) → m < length steps
    → Walking steps old (set marks at (Some (length answers))) answers start m
walk_on steps old marks answers start at m w step there =
    let inside : at < length marks = omega arith in
    let number : ℕ = length answers in
    record {
      sizes = length-set marks at (Some number) ∙ w.sizes;
      inside = there;
      keeps = keeps_more old marks at number inside w.keeps;
      begun = inr (begun_more marks at number start inside w.begun);
      known = λ n v h. elim (cases_eq n at) [
        | inl e ↦
            let same : v ≡ number = let k = mark_after marks at number n inside (inr e) in cc in
            inr (record {
              this = same;
              to = λ x l. subst (λ (y : ℕ). Reaches steps y x) (sym e) (go at m x step l);
              from = λ x l. next_reaches steps at x m step (subst (λ (y : ℕ). Reaches steps y x) e l);
              next = (m, ap (slice_get steps) e ∙ step, inr refl);
            })
        | inr ne ↦ elim (w.known n v (sym (set_other marks at n (Some number) ne) ∙ h)) [
          | inl a ↦ inl a
          | inr p ↦ inr (record {
            this = p.this;
            to = λ x l. p.to x (go at m x step l);
            from = λ x l. next_reaches steps at x m step (p.from x l);
            next = (p.next.0, p.next.1, inl (mark_after marks at number p.next.0 inside p.next.2));
          })
        ]
      ];
    }

-- One answer serves all places that the walk has passed.
answered : (steps old marks answers : List (Option ℕ)) (start at : ℕ) (answer : Option ℕ) → Walking steps old marks answers start at
    → ((n w : ℕ) → slice_get marks n ≡ Some (Some w) → IsPassed steps marks answers at n w → IsEnd steps n answer)
    → Marked steps marks (answers ++ answer ∷ [])
answered steps old marks answers start at answer w passed n v h = elim (w.known n v h) [
  | inl a ↦ (a.answer, got_left answers answer v a.answer a.stands, a.right)
  | inr p ↦ (answer, ap (slice_get (answers ++ answer ∷ [])) p.this ∙ push_last answers answer, passed n v h p)
]

same_end : (steps : List (Option ℕ)) (n at : ℕ) (end : Option ℕ) → ((e : ℕ) → Reaches steps at e → Reaches steps n e) → ((e : ℕ) → Reaches steps n e → Reaches steps at e) → IsEnd steps at end → IsEnd steps n end
same_end steps n at (Some e) to from h = to e h
same_end steps n at None to from h = λ e l. h e (from e l)

-- A walk that stops at a place answers with this place.
pub walk_stop : (steps old marks answers : List (Option ℕ)) (start at : ℕ) → Walking steps old marks answers start at
    → slice_get steps at ≡ Some None
    → Marked steps (set marks at (Some (length answers))) (answers ++ Some at ∷ [])
walk_stop steps old marks answers start at w step n v h =
    let inside : at < length marks = omega arith in
    let number : ℕ = length answers in
    elim (cases_eq n at) [
      | inl e ↦
          let same : v ≡ number = let k = mark_after marks at number n inside (inr e) in cc in
          (Some at, ap (slice_get (answers ++ Some at ∷ [])) same ∙ push_last answers (Some at), subst (λ (x : ℕ). Reaches steps x at) (sym e) (stop at step))
      | inr ne ↦ elim (w.known n v (sym (set_other marks at n (Some number) ne) ∙ h)) [
        | inl a ↦ (a.answer, got_left answers (Some at) v a.answer a.stands, a.right)
        | inr p ↦ (Some at, ap (slice_get (answers ++ Some at ∷ [])) p.this ∙ push_last answers (Some at), p.to at (stop at step))
      ]
    ]

-- A walk that meets an earlier walk takes over its answer.
pub walk_met : (steps old marks answers : List (Option ℕ)) (start at v : ℕ) (answer : Option ℕ) → Walking steps old marks answers start at
    → slice_get marks at ≡ Some (Some v) → slice_get answers v ≡ Some answer
    → Marked steps marks (answers ++ answer ∷ [])
walk_met steps old marks answers start at v answer w h stands = answered steps old marks answers start at answer w (λ n u k p.
    same_end steps n at answer p.to p.from (elim (w.known at v h) [
      | inl a ↦ let same : a.answer ≡ answer = cc in subst (IsEnd steps at) same a.right
      | inr q ↦ let short : v < length answers = slice_get_within answers v answer stands in absurd (omega (arith, q.this))
    ]))

-- The places that a walk has passed reach no end if the walk meets one of them again.
no_end : (steps old marks answers : List (Option ℕ)) (start at : ℕ) → Walking steps old marks answers start at
    → slice_get marks at ≡ Some (Some (length answers))
    → (n e : ℕ) → Reaches steps n e → slice_get marks n ≡ Some (Some (length answers)) → ⊥
no_end steps old marks answers start at w self n e (stop _ h) k = elim (w.known n (length answers) k) [
  | inl a ↦ let short = slice_get_within answers (length answers) a.answer a.stands in omega arith
  | inr p ↦ let s = p.next.1 in absurd (cc)
]
no_end steps old marks answers start at w self n e (go _ m _ h l) k = elim (w.known n (length answers) k) [
  | inl a ↦ let short = slice_get_within answers (length answers) a.answer a.stands in omega arith
  | inr p ↦ let s = p.next.1 in let same : p.next.0 ≡ m = cc in
      no_end steps old marks answers start at w self m e l (elim p.next.2 [
        | inl q ↦ ap (slice_get marks) (sym same) ∙ q
        | inr q ↦ ap (slice_get marks) (sym same ∙ q) ∙ self
      ])
]

-- A walk that meets itself answers that there is no end.
pub walk_round : (steps old marks answers : List (Option ℕ)) (start at v : ℕ) → Walking steps old marks answers start at
    → slice_get marks at ≡ Some (Some v) → length answers ≤ v
    → Marked steps marks (answers ++ None ∷ [])
walk_round steps old marks answers start at v w h late = elim (w.known at v h) [
  | inl a ↦ let short = slice_get_within answers v a.answer a.stands in absurd (omega arith)
  | inr q ↦ answered steps old marks answers start at None w (λ n u k p. λ e l.
      no_end steps old marks answers start at w (h ∙ ap (λ (x : ℕ). Some (Some x)) q.this) n e l (k ∙ ap (λ (x : ℕ). Some (Some x)) p.this))
]

-- All places before i + 1 are marked if those before i and the place i are.
pub all_more : (old new : List (Option ℕ)) (i : ℕ) → ((n : ℕ) → n < i → IsMarked old n) → StayMarked old new → IsMarked new i → (n : ℕ) → n < i + 1 → IsMarked new n
all_more old new i all keeps here n h = elim (cases_eq n i) [
  | inl e ↦ subst (IsMarked new) (sym e) here
  | inr ne ↦ let b : IsMarked old n = all n (omega arith) in keeps n b.0 b.1
]

-- A list of ends with one more right end is a list of right ends.
pub ends_more : (steps ends : List (Option ℕ)) (end : Option ℕ) (i : ℕ) → length ends ≡ i → ((n : ℕ) (a : Option ℕ) → slice_get ends n ≡ Some a → IsEnd steps n a) → IsEnd steps i end
    → (n : ℕ) (a : Option ℕ) → slice_get (ends ++ end ∷ []) n ≡ Some a → IsEnd steps n a
ends_more steps ends end i count all here n a h = elim (cases_eq n (length ends)) [
  | inl e ↦
      let same : end ≡ a = let l : slice_get (ends ++ end ∷ []) n ≡ Some end = ap (slice_get (ends ++ end ∷ [])) e ∙ push_last ends end in cc in
      let P : ℕ → Type 0 = λ x. IsEnd steps x a in
      subst P (sym (e ∙ count)) (subst (IsEnd steps i) same here)
  | inr ne ↦ all n a (push_before ends end n a ne h)
]

-- The end of the path from a marked place is the answer of the walk that marked it.
pub marked_end : (steps marks answers : List (Option ℕ)) (n w : ℕ) (answer : Option ℕ) → Marked steps marks answers → slice_get marks n ≡ Some (Some w) → (slice_get answers w ≡ Some answer) → IsEnd steps n answer
marked_end steps marks answers n w answer h m a = let k = h n w m in let same : k.0 ≡ answer = cc in subst (IsEnd steps n) same k.2
