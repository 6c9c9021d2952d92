-- The segments of a memory's contents: each byte that is not zero is in one of them, and copying
-- one writes its bytes.
use Rattle.base_lists.proofs.Common.{◌≡◌, ◌∙◌, sym, ap, refl, ℕ, zero, suc, ◌+◌, ◌-◌, ◌<◌, ◌≤◌, List, [], ◌∷◌, ◌++◌, length, take, drop, Bool, true, false, cond, not, Option, Some, ◌⊎◌, inl, inr, arith, slice_get, get_or, nat_eq, cases_lt, eqb-true, length-drop, length-take-le, length-append}
use Rattle.base_lists.proofs.Common.{get_or-drop, get_or-take, get_or_append_left, slice_get-get_or, place_there, split_take}
use Rattle.std.proofs.lemmas.List.{get_or-append-add}
use Rattle.base_lists.specs.Places.{places}
use Rattle.block_pool.specs.Pages.{part}
use Rattle.wasm_meaning.specs.Prelude.{overwrite}
use Rattle.eval_snapshot_spec.specs.Contents.{Stretch, is_joined, is_nonzero, nonzero_places, stretches, stretches_from, stretches_over}

-- ---- one part ----

written : {A : Type 0} (xs : List A) (place : ℕ) (ys : List A) → place + length ys ≤ length xs → overwrite xs place ys ≡ Some (take place xs ++ (ys ++ drop (length ys) (drop place xs)))
written {A = A} xs place ys fits =
    let rest : length (drop place xs) ≡ length xs - place = length-drop place xs in
    rw (split_take place xs (omega (arith, fits)), split_take (length ys) (drop place xs) (omega (arith, fits, rest))) refl

-- Both lists have the same number at a place, where a place beyond the end counts as 0.
abbrev pub Agrees : (xs ys : List ℕ) → ℕ → Type 0
Agrees xs ys i = get_or xs i 0 ≡ get_or ys i 0

-- The result of writing a part of the bytes at its place over a list of the same length: it agrees
-- with the bytes wherever the list did before, and wherever the part was written.
pub record Written (covered : ℕ → Type 0) (xs bytes : List ℕ) (o : Option (List ℕ)) : Type 0 where
  pub now : List ℕ
  pub is : o ≡ Some now
  pub size : length now ≡ length bytes
  pub agrees : (i : ℕ) → Agrees xs bytes i ⊎ covered i → Agrees now bytes i

module _ (xs bytes : List ℕ) (place count : ℕ) (same : length xs ≡ length bytes) (fits : place + count ≤ length bytes) where
  copied : List ℕ
  copied = part bytes place count

  abbrev after : List ℕ
  after = take place xs ++ (part bytes place count ++ drop (length (part bytes place count)) (drop place xs))

  count_is : length (part bytes place count) ≡ count
  count_is = let rest = length-drop place bytes in length-take-le count (drop place bytes) (omega (arith, rest, fits))

  before_is : length (take place xs) ≡ place
  before_is = length-take-le place xs (omega (arith, same, fits))

  before_it : (i : ℕ) → i < place → get_or after i 0 ≡ get_or xs i 0
  before_it i lt =
      let size = before_is in
      get_or_append_left (take place xs) (part bytes place count ++ drop (length (part bytes place count)) (drop place xs)) 0 i (omega (arith, size, lt)) ∙ get_or-take place xs i 0 lt

  from_it : (k : ℕ) → get_or after (place + k) 0 ≡ get_or (part bytes place count ++ drop (length (part bytes place count)) (drop place xs)) k 0
  from_it k =
      ap (λ p. get_or after (p + k) 0) (sym before_is) ∙ get_or-append-add (take place xs) (part bytes place count ++ drop (length (part bytes place count)) (drop place xs)) k 0

  in_it : (k : ℕ) → k < count → get_or after (place + k) 0 ≡ get_or bytes (place + k) 0
  in_it k lt =
      let size = count_is in
      from_it k ∙ get_or_append_left (part bytes place count) (drop (length (part bytes place count)) (drop place xs)) 0 k (omega (arith, size, lt)) ∙ get_or-take count (drop place bytes) k 0 lt ∙ get_or-drop place bytes k 0

  behind_it : (j : ℕ) → get_or after (place + (count + j)) 0 ≡ get_or xs (place + (count + j)) 0
  behind_it j =
      from_it (count + j)
      ∙ ap (λ n. get_or (part bytes place count ++ drop (length (part bytes place count)) (drop place xs)) (n + j) 0) (sym count_is)
      ∙ get_or-append-add (part bytes place count) (drop (length (part bytes place count)) (drop place xs)) j 0
      ∙ get_or-drop (length (part bytes place count)) (drop place xs) j 0
      ∙ get_or-drop place xs (length (part bytes place count) + j) 0
      ∙ ap (λ n. get_or xs (place + (n + j)) 0) count_is

  agree : (i : ℕ) → Agrees xs bytes i ⊎ ((place ≤ i) × (i < place + count)) → Agrees after bytes i
  agree i h = elim (cases_lt i place) [
    | inl lt ↦ elim h [
      | inl old ↦ before_it i lt ∙ old
      | inr r ↦ let le = r.0 in absurd (omega (arith, le, lt))
    ]
    | inr le ↦
        let k = i - place in
        let e : i ≡ place + k = omega (arith, le) in
        elim (cases_lt k count) [
          | inl lt ↦ ap (λ n. get_or after n 0) e ∙ in_it k lt ∙ ap (λ n. get_or bytes n 0) (sym e)
          | inr more ↦
              let f : i ≡ place + (count + (k - count)) = omega (arith, e, more) in
              elim h [
                | inl old ↦ ap (λ n. get_or after n 0) f ∙ behind_it (k - count) ∙ ap (λ n. get_or xs n 0) (sym f) ∙ old
                | inr r ↦ let lt = r.1 in absurd (omega (arith, lt, e, more))
              ]
        ]
  ]

  pub part_written : Written (λ i. (place ≤ i) × (i < place + count)) xs bytes (overwrite xs place (part bytes place count))
  part_written =
      let size = count_is in
      let before = before_is in
      let rest = length-drop (length (part bytes place count)) (drop place xs) in
      let less = length-drop place xs in
      let all = length-append (take place xs) (part bytes place count ++ drop (length (part bytes place count)) (drop place xs)) in
      let end = length-append (part bytes place count) (drop (length (part bytes place count)) (drop place xs)) in
      record {
        now = after;
        is = written xs place (part bytes place count) (omega (arith, size, same, fits));
        size = omega (arith, size, before, rest, less, all, end, same, fits);
        agrees = agree;
      }

-- ---- the places of bytes that are not zero, and stretches ----

-- The numbers are at least `least` and below the bound, and each is greater than the one before it.
abbrev pub Ascending : (bound least : ℕ) → List ℕ → Type 0
Ascending bound least [] = Unit {0}
Ascending bound least (n ∷ ns) = (least ≤ n) × (n < bound) × Ascending bound (suc n) ns

ascend_less : (bound k n : ℕ) (ns : List ℕ) → k ≤ n → Ascending bound n ns → Ascending bound k ns
ascend_less bound k n [] le h = tt
ascend_less bound k n (x ∷ xs) le h = let first = h.0 in (omega (arith, le, first), h.1, h.2)

places_ascend : (bytes : List ℕ) (from bound : ℕ) → from + length bytes ≤ bound → Ascending bound from (places is_nonzero bytes from)
places_ascend [] from bound le = tt
places_ascend (x ∷ xs) from bound le = by (is_nonzero x) (places_ascend xs (suc from) bound (omega (arith, le)))
  where
    by : (b : Bool) → Ascending bound (suc from) (places is_nonzero xs (suc from)) → Ascending bound from (cond b (from ∷ places is_nonzero xs (suc from)) (places is_nonzero xs (suc from)))
    by true h = (omega arith, omega (arith, le), h)
    by false h = ascend_less bound from (suc from) (places is_nonzero xs (suc from)) (omega arith) h

-- The place is in one of these stretches.
pub data Covered (i : ℕ) : List Stretch → Type 0 where
  here : {s : Stretch} {ss : List Stretch} → s.first ≤ i → i ≤ s.last → Covered i (s ∷ ss)
  behind : {s : Stretch} {ss : List Stretch} → Covered i ss → Covered i (s ∷ ss)

abbrev pub InBounds : (bound : ℕ) → List Stretch → Type 0
InBounds bound [] = Unit {0}
InBounds bound (s ∷ ss) = (s.first ≤ s.last) × (s.last < bound) × InBounds bound ss

in_bounds : (bound first last : ℕ) (rest : List ℕ) → first ≤ last → last < bound → Ascending bound (suc last) rest → InBounds bound (stretches_from first last rest)
in_bounds bound first last [] le lt h = (le, lt, tt)
in_bounds bound first last (n ∷ ns) le lt h =
    let least = h.0 in by (is_joined last n) (in_bounds bound first n ns (omega (arith, least, le)) (h.1) (h.2)) (in_bounds bound n n ns (omega arith) (h.1) (h.2))
  where
    by : (b : Bool) → InBounds bound (stretches_from first n ns) → InBounds bound (stretches_from n n ns) → InBounds bound (cond b (stretches_from first n ns) (record { first = first; last = last } ∷ stretches_from n n ns))
    by true longer other = longer
    by false longer other = (le, lt, other)

-- A place is covered if it is in the stretch that is being extended, or among the later places of
-- nonzero bytes.
covers : (bound first last : ℕ) (rest : List ℕ) → first ≤ last → Ascending bound (suc last) rest → (i : ℕ) → ((first ≤ i) × (i ≤ last)) ⊎ ((k : ℕ) × (slice_get rest k ≡ Some i)) → Covered i (stretches_from first last rest)
covers bound first last [] le h i (inl q) = here q.0 q.1
covers bound first last [] le h i (inr q) = absurd (let e = q.1 in cc)
covers bound first last (n ∷ ns) le h i q =
    let l = h.0 in by (is_joined last n) (covers bound first n ns (omega (arith, l, le)) (h.2) i) (covers bound n n ns (omega arith) (h.2) i) q
  where
    least : suc last ≤ n
    least = h.0

    by : (b : Bool) → (((first ≤ i) × (i ≤ n)) ⊎ ((k : ℕ) × (slice_get ns k ≡ Some i)) → Covered i (stretches_from first n ns)) → (((n ≤ i) × (i ≤ n)) ⊎ ((k : ℕ) × (slice_get ns k ≡ Some i)) → Covered i (stretches_from n n ns)) →
        ((first ≤ i) × (i ≤ last)) ⊎ ((k : ℕ) × (slice_get (n ∷ ns) k ≡ Some i)) → Covered i (cond b (stretches_from first n ns) (record { first = first; last = last } ∷ stretches_from n n ns))
    by true longer other (inl q) = let s = q.1 in let l = least in longer (inl (q.0, omega (arith, s, l)))
    by true longer other (inr (zero, e)) = let same : n ≡ i = cc in let l = least in longer (inl (omega (arith, same, l, le), omega (arith, same)))
    by true longer other (inr (suc k, e)) = longer (inr (k, e))
    by false longer other (inl q) = here q.0 q.1
    by false longer other (inr (zero, e)) = let same : n ≡ i = cc in behind (other (inl (omega (arith, same), omega (arith, same))))
    by false longer other (inr (suc k, e)) = behind (other (inr (k, e)))

over_covers : (bound : ℕ) (ns : List ℕ) → Ascending bound 0 ns → (i k : ℕ) → slice_get ns k ≡ Some i → Covered i (stretches_over ns)
over_covers bound [] h i k e = absurd (let f = e in cc)
over_covers bound (n ∷ ns) h i zero e = let same : n ≡ i = cc in covers bound n n ns (omega arith) (h.2) i (inl (omega (arith, same), omega (arith, same)))
over_covers bound (n ∷ ns) h i (suc k) e = covers bound n n ns (omega arith) (h.2) i (inr (k, e))

over_bounds : (bound : ℕ) (ns : List ℕ) → Ascending bound 0 ns → InBounds bound (stretches_over ns)
over_bounds bound [] h = tt
over_bounds bound (n ∷ ns) h = in_bounds bound n n ns (omega arith) (h.1) (h.2)

pub stretches_fit : (bytes : List ℕ) → InBounds (length bytes) (stretches bytes)
stretches_fit bytes = over_bounds (length bytes) (nonzero_places bytes) (places_ascend bytes 0 (length bytes) (omega arith))

no_other : (n : ℕ) → is_nonzero n ≡ false → n ≡ 0
no_other n e = eqb-true n 0 (by (nat_eq n 0) e)
  where
    by : (b : Bool) → not b ≡ false → b ≡ true
    by true e = refl
    by false e = sym e

-- A byte is zero, or its place is in one of the stretches.
pub zero_or_covered : (bytes : List ℕ) (i : ℕ) → i < length bytes → (get_or bytes i 0 ≡ 0) ⊎ Covered i (stretches bytes)
zero_or_covered bytes i lt = by (is_nonzero (get_or bytes i 0)) refl
  where
    by : (b : Bool) → is_nonzero (get_or bytes i 0) ≡ b → (get_or bytes i 0 ≡ 0) ⊎ Covered i (stretches bytes)
    by true e =
        let p = place_there is_nonzero bytes 0 i (get_or bytes i 0) (slice_get-get_or bytes i 0 lt) e in
        inr (over_covers (length bytes) (nonzero_places bytes) (places_ascend bytes 0 (length bytes) (omega arith)) i p.0 (p.1 ∙ ap Some (let same : 0 + i ≡ i = omega arith in same)))
    by false e = inl (no_other (get_or bytes i 0) e)
