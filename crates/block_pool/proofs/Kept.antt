-- The blocks that a pool keeps when one is taken, given back or written.
use Rattle.base_lists.proofs.Common.{◌≡◌, ◌≢◌, ℕ, zero, suc, ◌+◌, ◌-◌, ◌<◌, List, [], ◌∷◌, ◌++◌, length, Bool, true, false, Option, Some, None, is_some, cond, count_by, slice_index, slice_index_or, slice_set, refl, sym, ap, ◌∙◌, inl, inr, arith, cases_lt, cases_eq, get_or_past, get_or-set_same}
use Rattle.base_lists.proofs.Common.{get_or-set_other, get_or_append_left, none-some, is_some_there}
use Rattle.std.proofs.Common.{length-set, length-append}
use Rattle.std.proofs.lemmas.List.{get_or_push}
use Rattle.std.proofs.lemmas.List.Sums.{sum_by_push}
use Rattle.block_pool.specs.Blocks.{Blocks, Changes}
use Rattle.block_pool.specs.Kept.{FreeBlocksAreListed, live_blocks}
use Rattle.block_pool.proofs.Counts.{flag, counted_set, as_many}

pub changes_set : (s : List (Option (List ℕ))) (n : ℕ) (v : Option (List ℕ)) (old new : Blocks) → old.slots ≡ s → new.slots ≡ slice_set s n v → n < length s → Changes old new n v
changes_set s n v old new e f i = record {
  changed = ap (λ t. slice_index_or t n None) f ∙ get_or-set_same s n v None i;
  others = λ o h. ap (λ t. slice_index_or t o None) f ∙ (get_or-set_other s n o v None h ∙ sym (ap (λ t. slice_index_or t o None) e));
}

beside : (s : List (Option (List ℕ))) (n o : ℕ) (v : Option (List ℕ)) → length s ≡ n → o ≢ n → slice_index_or (s ++ v ∷ []) o None ≡ slice_index_or s o None
beside s n o v i h = elim (cases_lt o (length s)) [
  | inl g ↦ get_or_append_left s (v ∷ []) None o g
  | inr g ↦
      let l : length (s ++ v ∷ []) ≡ length s + 1 = length-append s (v ∷ []) in
      let m : length s < o = elim (cases_eq o n) [ inl a ↦ absurd (h a) | inr a ↦ omega arith ] in
      get_or_past (s ++ v ∷ []) o None (omega arith) ∙ sym (get_or_past s o None g)
]

pub changes_pushed : (s : List (Option (List ℕ))) (n : ℕ) (v : Option (List ℕ)) (old new : Blocks) → old.slots ≡ s → new.slots ≡ s ++ v ∷ [] → length s ≡ n → Changes old new n v
changes_pushed s n v old new e f i = record {
  changed = ap (λ t. slice_index_or t n None) f ∙ get_or_push s v None n i;
  others = λ o h. ap (λ t. slice_index_or t o None) f ∙ (beside s n o v i h ∙ sym (ap (λ t. slice_index_or t o None) e));
}

-- A pool as contracts see it, with `many` blocks of which `free` are not live.
abbrev pub seen : (room free : ℕ) → List (Option (List ℕ)) → ℕ → Blocks
seen room free slots many = record { slots = slots; spare = room - (many - free); numbers = room }

abbrev pub bytes_if : Bool → List ℕ → Option (List ℕ)
bytes_if l b = cond l (Some b) None

pub live_length : (ls : List Bool) (bs : List (List ℕ)) → length ls ≡ length bs → length (live_blocks ls bs) ≡ length bs
live_length [] [] h = refl
live_length [] (b ∷ bs) h = absurd (omega arith)
live_length (l ∷ ls) [] h = absurd (omega arith)
live_length (l ∷ ls) (b ∷ bs) h = omega (arith, live_length ls bs (omega arith))

pub live_at : (ls : List Bool) (bs : List (List ℕ)) (k : ℕ) → length ls ≡ length bs → slice_index_or (live_blocks ls bs) k None ≡ bytes_if (slice_index_or ls k false) (slice_index_or bs k [])
live_at [] [] k h = refl
live_at [] (b ∷ bs) k h = absurd (omega arith)
live_at (l ∷ ls) [] k h = absurd (omega arith)
live_at (l ∷ ls) (b ∷ bs) zero h = refl
live_at (l ∷ ls) (b ∷ bs) (suc k) h = live_at ls bs k (omega arith)

pub live_set : (ls : List Bool) (bs : List (List ℕ)) (n : ℕ) (l : Bool) (b : List ℕ) → length ls ≡ length bs →
    live_blocks (slice_set ls n l) (slice_set bs n b) ≡ slice_set (live_blocks ls bs) n (bytes_if l b)
live_set [] [] n l b h = refl
live_set [] (c ∷ bs) n l b h = absurd (omega arith)
live_set (m ∷ ls) [] n l b h = absurd (omega arith)
live_set (m ∷ ls) (c ∷ bs) zero l b h = refl
live_set (m ∷ ls) (c ∷ bs) (suc n) l b h = ap (λ r. bytes_if m c ∷ r) (live_set ls bs n l b (omega arith))

pub live_given : (ls : List Bool) (bs : List (List ℕ)) (n : ℕ) → length ls ≡ length bs → live_blocks (slice_set ls n false) bs ≡ slice_set (live_blocks ls bs) n None
live_given [] [] n h = refl
live_given [] (c ∷ bs) n h = absurd (omega arith)
live_given (m ∷ ls) [] n h = absurd (omega arith)
live_given (m ∷ ls) (c ∷ bs) zero h = refl
live_given (m ∷ ls) (c ∷ bs) (suc n) h = ap (λ r. bytes_if m c ∷ r) (live_given ls bs n (omega arith))

pub live_written : (ls : List Bool) (bs : List (List ℕ)) (n : ℕ) (b : List ℕ) → length ls ≡ length bs → slice_index_or ls n false ≡ true →
    live_blocks ls (slice_set bs n b) ≡ slice_set (live_blocks ls bs) n (Some b)
live_written [] [] n b h e = refl
live_written [] (c ∷ bs) n b h e = absurd (omega arith)
live_written (m ∷ ls) [] n b h e = absurd (omega arith)
live_written (m ∷ ls) (c ∷ bs) zero b h e = ap (λ (f : Bool). bytes_if f b ∷ live_blocks ls bs) e
live_written (m ∷ ls) (c ∷ bs) (suc n) b h e = ap (λ r. bytes_if m c ∷ r) (live_written ls bs n b (omega arith) e)

pub live_pushed : (ls : List Bool) (bs : List (List ℕ)) (l : Bool) (b : List ℕ) → length ls ≡ length bs → live_blocks (ls ++ l ∷ []) (bs ++ b ∷ []) ≡ live_blocks ls bs ++ bytes_if l b ∷ []
live_pushed [] [] l b h = refl
live_pushed [] (c ∷ bs) l b h = absurd (omega arith)
live_pushed (m ∷ ls) [] l b h = absurd (omega arith)
live_pushed (m ∷ ls) (c ∷ bs) l b h = ap (λ r. bytes_if m c ∷ r) (live_pushed ls bs l b (omega arith))

-- An entry at an existing position does not depend on the default.
pub any_default : {A : Type 0} (xs : List A) (n : ℕ) (d e : A) → n < length xs → slice_index_or xs n d ≡ slice_index_or xs n e
any_default [] n d e h = absurd (omega arith)
any_default (x ∷ xs) zero d e h = refl
any_default (x ∷ xs) (suc n) d e h = any_default xs n d e (omega arith)

flag_of : (l : Bool) (b : List ℕ) (v : List ℕ) → bytes_if l b ≡ Some v → (l ≡ true) × (b ≡ v)
flag_of true b v e = grind arith
flag_of false b v e = absurd (none-some v e)

module _ (ls : List Bool) (bs : List (List ℕ)) (free : List ℕ) (is : FreeBlocksAreListed ls bs free) where
  -- A live block has its flag and its bytes.
  pub flagged : (n : ℕ) (v : List ℕ) → slice_index_or (live_blocks ls bs) n None ≡ Some v → (slice_index_or ls n false ≡ true) × (slice_index_or bs n [] ≡ v)
  flagged n v e = flag_of (slice_index_or ls n false) (slice_index_or bs n []) v (sym (live_at ls bs n is.many) ∙ e)

  pub live_within : (n : ℕ) (v : List ℕ) → slice_index_or (live_blocks ls bs) n None ≡ Some v → n < length bs
  live_within n v e = elim (cases_lt n (length bs)) [
    | inl h ↦ h
    | inr h ↦ absurd (none-some v (sym (get_or_past (live_blocks ls bs) n None (rw (live_length ls bs is.many) h)) ∙ e))
  ]

  dead_at : (n : ℕ) → slice_index_or ls n false ≡ false → slice_index_or (live_blocks ls bs) n None ≡ None
  dead_at n e = live_at ls bs n is.many ∙ ap (λ f. bytes_if f (slice_index_or bs n [])) e

  -- The number that was given back last is the next to be taken.
  module _ (rest : List ℕ) (n : ℕ) (last : free ≡ rest ++ n ∷ []) where
    more : length free ≡ length rest + 1
    more = rw last (length-append rest (n ∷ []))

    here : slice_index free (length rest) ≡ n
    here = rw last (get_or_push rest n 0 (length rest) refl)

    before : (i : ℕ) → i < length rest → slice_index free i ≡ slice_index rest i
    before i h = rw last (get_or_append_left rest (n ∷ []) 0 i h)

    pub taken_within : n < length bs
    taken_within = rw here at (is.within (length rest) (omega (arith, more)))

    flag_dead : slice_index_or ls n false ≡ false
    flag_dead = rw here at (is.dead (length rest) (omega (arith, more)))

    pub taken_dead : slice_index_or (live_blocks ls bs) n None ≡ None
    taken_dead = dead_at n flag_dead

    other : (i : ℕ) → i < length rest → slice_index rest i ≢ n
    other i h e = let f : i ≡ length rest = is.apart i (length rest) (omega (arith, more)) (omega (arith, more)) (before i h ∙ (e ∙ sym here)) in absurd (omega arith)

    pub kept_taken : (b : List ℕ) → FreeBlocksAreListed (slice_set ls n true) (slice_set bs n b) rest
    kept_taken b =
        let i : n < length bs = taken_within in
        let many : length ls ≡ length bs = is.many in
        let was : is_some (slice_index_or (live_blocks ls bs) n None) ≡ false = ap is_some taken_dead in
        let counted : count_by is_some (slice_set (live_blocks ls bs) n (Some b)) + flag (is_some (slice_index_or (live_blocks ls bs) n None)) ≡ count_by is_some (live_blocks ls bs) + 1
        = counted_set is_some (live_blocks ls bs) n (Some b) None (rw (live_length ls bs many) i) in
        let counts : count_by is_some (slice_set (live_blocks ls bs) n (Some b)) + 0 ≡ count_by is_some (live_blocks ls bs) + 1 = rw was at counted in
        let l : length (slice_set ls n true) ≡ length ls = length-set ls n true in
        let k : length (slice_set bs n b) ≡ length bs = length-set bs n b in
        record {
          many = omega arith;
          within = λ i h. rw k (rw (before i h) at (is.within i (omega (arith, more))));
          dead = λ i h. get_or-set_other ls n (slice_index rest i) true false (other i h) ∙ (rw (before i h) at (is.dead i (omega (arith, more))));
          apart = λ i j h g e. is.apart i j (omega (arith, more)) (omega (arith, more)) (before i h ∙ (e ∙ sym (before j g)));
          account = rw (live_set ls bs n true b many) (omega (arith, is.account, more));
        }

    pub used_taken : (b : List ℕ) → count_by is_some (live_blocks (slice_set ls n true) (slice_set bs n b)) ≡ count_by is_some (live_blocks ls bs) + 1
    used_taken b = let k : length (slice_set bs n b) ≡ length bs = length-set bs n b in omega (arith, (kept_taken b).account, is.account, more)

  -- A new block is put after all others if no number is free.
  pub kept_pushed : (b : List ℕ) (rest : List ℕ) → length free ≡ 0 → length rest ≡ 0 → FreeBlocksAreListed (ls ++ true ∷ []) (bs ++ b ∷ []) rest
  kept_pushed b rest none no_rest =
      let l : length (ls ++ true ∷ []) ≡ length ls + 1 = length-append ls (true ∷ []) in
      let k : length (bs ++ b ∷ []) ≡ length bs + 1 = length-append bs (b ∷ []) in
      let counted : count_by is_some (live_blocks ls bs ++ Some b ∷ []) ≡ count_by is_some (live_blocks ls bs) + 1 = sum_by_push (λ x. cond (is_some x) 1 0) (live_blocks ls bs) (Some b) in
      record {
        many = omega (arith, is.many);
        within = λ i h. absurd (omega arith);
        dead = λ i h. absurd (omega arith);
        apart = λ i j h g f. absurd (omega arith);
        account = rw (live_pushed ls bs true b is.many) (omega (arith, is.account));
      }

  pub used_pushed : (b : List ℕ) → count_by is_some (live_blocks (ls ++ true ∷ []) (bs ++ b ∷ [])) ≡ count_by is_some (live_blocks ls bs) + 1
  used_pushed b = rw (live_pushed ls bs true b is.many) (sum_by_push (λ x. cond (is_some x) 1 0) (live_blocks ls bs) (Some b))

  pub fresh_past : (n : ℕ) → n ≡ length bs → slice_index_or (live_blocks ls bs) n None ≡ None
  fresh_past n e = get_or_past (live_blocks ls bs) n None (rw (live_length ls bs is.many) (omega arith))

  -- A live block is given back, or gets other bytes.
  module _ (n : ℕ) (some : is_some (slice_index_or (live_blocks ls bs) n None) ≡ true) where
    abbrev v : List ℕ
    v = (is_some_there (slice_index_or (live_blocks ls bs) n None) some).0

    live : slice_index_or (live_blocks ls bs) n None ≡ Some v
    live = (is_some_there (slice_index_or (live_blocks ls bs) n None) some).1

    pub inside : n < length bs
    inside = live_within n v live

    pub inside_flags : n < length ls
    inside_flags = rw is.many inside

    pub bytes_are : slice_index_or (live_blocks ls bs) n None ≡ Some (slice_index_or bs n [])
    bytes_are = live ∙ ap Some (sym ((flagged n v live).1))

    was_true : slice_index_or ls n false ≡ true
    was_true = (flagged n v live).0

    many_more : length (free ++ n ∷ []) ≡ length free + 1
    many_more = length-append free (n ∷ [])

    as_before : (i : ℕ) → i < length free → slice_index (free ++ n ∷ []) i ≡ slice_index free i
    as_before i h = get_or_append_left free (n ∷ []) 0 i h

    last_is : (i : ℕ) → i ≡ length free → slice_index (free ++ n ∷ []) i ≡ n
    last_is i h = get_or_push free n 0 i (sym h)

    not_free : (i : ℕ) → i < length free → slice_index free i ≢ n
    not_free i h e = grind (arith, is.dead i h, was_true, e)

    dead_of : (i : ℕ) → i < length free + 1 → slice_index_or (slice_set ls n false) (slice_index (free ++ n ∷ []) i) false ≡ false
    dead_of i h = elim (cases_lt i (length free)) [
      | inl g ↦ ap (λ m. slice_index_or (slice_set ls n false) m false) (as_before i g) ∙ (get_or-set_other ls n (slice_index free i) false false (not_free i g) ∙ is.dead i g)
      | inr g ↦ ap (λ m. slice_index_or (slice_set ls n false) m false) (last_is i (omega arith)) ∙ get_or-set_same ls n false false (rw is.many (live_within n v live))
    ]

    within_of : (i : ℕ) → i < length free + 1 → slice_index (free ++ n ∷ []) i < length bs
    within_of i h = elim (cases_lt i (length free)) [
      | inl g ↦ rw (as_before i g) (is.within i g)
      | inr g ↦ rw (last_is i (omega arith)) (live_within n v live)
    ]

    apart_of : (i j : ℕ) → i < length free + 1 → j < length free + 1 → slice_index (free ++ n ∷ []) i ≡ slice_index (free ++ n ∷ []) j → i ≡ j
    apart_of i j h g e = elim (cases_lt i (length free)) [
      | inl a ↦ elim (cases_lt j (length free)) [
        | inl b ↦ is.apart i j a b (sym (as_before i a) ∙ (e ∙ as_before j b))
        | inr b ↦ absurd (not_free i a (sym (as_before i a) ∙ (e ∙ last_is j (omega arith))))
      ]
      | inr a ↦ elim (cases_lt j (length free)) [
        | inl b ↦ absurd (not_free j b (sym (as_before j b) ∙ (sym e ∙ last_is i (omega arith))))
        | inr b ↦ omega arith
      ]
    ]

    pub kept_given : FreeBlocksAreListed (slice_set ls n false) bs (free ++ n ∷ [])
    kept_given =
        let i : n < length bs = live_within n v live in
        let was : is_some (slice_index_or (live_blocks ls bs) n None) ≡ true = ap is_some live in
        let counted : count_by is_some (slice_set (live_blocks ls bs) n None) + flag (is_some (slice_index_or (live_blocks ls bs) n None)) ≡ count_by is_some (live_blocks ls bs) + 0
        = counted_set is_some (live_blocks ls bs) n None None (rw (live_length ls bs is.many) i) in
        let counts : count_by is_some (slice_set (live_blocks ls bs) n None) + 1 ≡ count_by is_some (live_blocks ls bs) + 0 = rw was at counted in
        record {
          many = length-set ls n false ∙ is.many;
          within = λ i h. within_of i (rw many_more at h);
          dead = λ i h. dead_of i (rw many_more at h);
          apart = λ i j h g e. apart_of i j (rw many_more at h) (rw many_more at g) e;
          account = rw (live_given ls bs n is.many) (omega (arith, is.account, many_more));
        }

    pub used_given : count_by is_some (live_blocks (slice_set ls n false) bs) + 1 ≡ count_by is_some (live_blocks ls bs)
    used_given = omega (arith, kept_given.account, is.account, many_more)

    pub written_as : (b : List ℕ) → live_blocks ls (slice_set bs n b) ≡ slice_set (live_blocks ls bs) n (Some b)
    written_as b = live_written ls bs n b is.many was_true

    pub kept_written : (b : List ℕ) → FreeBlocksAreListed ls (slice_set bs n b) free
    kept_written b =
        let k : length (slice_set bs n b) ≡ length bs = length-set bs n b in
        let same : count_by is_some (slice_set (live_blocks ls bs) n (Some b)) ≡ count_by is_some (live_blocks ls bs) = as_many (live_blocks ls bs) n v b live in
        record {
          many = is.many ∙ sym k;
          within = λ i h. rw k (is.within i h);
          dead = is.dead;
          apart = is.apart;
          account = rw (live_written ls bs n b is.many was_true) (omega (arith, is.account));
        }
