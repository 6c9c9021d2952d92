-- The blocks that a range reaches are counted one by one.
use Rattle.base_lists.proofs.Common.{◌≡◌, ◌≢◌, ℕ, suc, ◌+◌, ◌-◌, ◌*◌, ◌/◌, ◌<◌, ◌≤◌, List, [], ◌∷◌, length, map, Bool, true, false, ◌||◌, slice_index_or, slice_set, refl, sym, ap, ap₂, ◌∙◌, inl, inr, arith, zero-add, if◌then◌else◌, cases_eq, cases_Bool, ext_get_or, get_or-set_same, get_or-set_other}
use Rattle.base_lists.proofs.Common.{length-map, same_tests, or-true, or-false}
use Rattle.std.proofs.Common.{length-set}
use Rattle.std.proofs.lemmas.List.Sums.{count_by-le-length}
use Rattle.block_pool.specs.Pages.{reaches, with_reached}
use Rattle.block_pool.specs.Table.{is_present, slot_at, IsSound}
use Rattle.block_pool.specs.declared.table.Table.{Table}
use Rattle.block_pool.proofs.Counts.{flag, counted_set}
use Rattle.block_pool.proofs.Reached.{reached_at, reached_length}
use Rattle.block_pool.proofs.Joined.{Reaches, reaches_is, reaches_from, reached_none}
use Rattle.block_pool.proofs.Rooms.{count, map_there}

reached_same : (at n m j : ℕ) → ((k : ℕ) → reaches at n k ≡ reaches at m k) → (ws : List Bool) → with_reached at n j ws ≡ with_reached at m j ws
reached_same at n m j same [] = refl
reached_same at n m j same (w ∷ ws) = ap₂ (λ b bs. b ∷ bs) (ap (λ r. w || r) (same j)) (reached_same at n m (suc j) same ws)

-- The written blocks, with those that a range from `at` on reaches before block `k`.
abbrev pub upto : Table → (at k : ℕ) → List Bool
upto t at k = with_reached at (4096 * k - at) 0 (map is_present t.slots.items)

module _ (t : Table) (at k : ℕ) (inside : k < length t.slots.items) (from : at / 4096 ≤ k) where
  abbrev ws : List Bool
  ws = map is_present t.slots.items

  many : length ws ≡ length t.slots.items
  many = length-map t.slots.items is_present

  here : reaches at (4096 * (k + 1) - at) k ≡ true
  here = reaches_from at (4096 * (k + 1) - at) k (record { some = omega arith; before = omega arith; behind = omega arith })

  not_yet : reaches at (4096 * k - at) k ≡ false
  not_yet =
      elim (cases_Bool (reaches at (4096 * k - at) k)) [
        | inl e ↦ (let r : Reaches at (4096 * k - at) k = reaches_is at (4096 * k - at) k e in let s : 0 < 4096 * k - at = r.some in let b : 4096 * k < at + (4096 * k - at) = r.behind in absurd (omega arith))
        | inr e ↦ e
      ]

  elsewhere : (i : ℕ) → i ≢ k → reaches at (4096 * (k + 1) - at) i ≡ reaches at (4096 * k - at) i
  elsewhere i n =
      same_tests (reaches at (4096 * (k + 1) - at) i) (reaches at (4096 * k - at) i)
      (λ e.
      let r : Reaches at (4096 * (k + 1) - at) i = reaches_is at (4096 * (k + 1) - at) i e in
      let a : 0 < 4096 * (k + 1) - at = r.some in let b : at < 4096 * i + 4096 = r.before in let c : 4096 * i < at + (4096 * (k + 1) - at) = r.behind in
      let d : i < k = elim (cases_eq i k) [ inl f ↦ absurd (n f) | inr f ↦ omega arith ] in
      reaches_from at (4096 * k - at) i (record { some = omega arith; before = b; behind = omega arith }))
      (λ e.
      let r : Reaches at (4096 * k - at) i = reaches_is at (4096 * k - at) i e in
      let a : 0 < 4096 * k - at = r.some in let b : at < 4096 * i + 4096 = r.before in let c : 4096 * i < at + (4096 * k - at) = r.behind in
      reaches_from at (4096 * (k + 1) - at) i (record { some = omega arith; before = b; behind = omega arith }))

  read_at : (m i : ℕ) → i < length ws → slice_index_or (with_reached at m 0 ws) i false ≡ (slice_index_or ws i false || reaches at m i)
  read_at m i h = reached_at at m 0 ws i h ∙ ap (λ b. slice_index_or ws i false || reaches at m b) (zero-add i)

  one_more : upto t at (k + 1) ≡ slice_set (upto t at k) k true
  one_more =
      ext_get_or false (upto t at (k + 1)) (slice_set (upto t at k) k true) (reached_length at (4096 * (k + 1) - at) 0 ws ∙ sym (length-set (upto t at k) k true ∙ reached_length at (4096 * k - at) 0 ws)) (λ i h.
      let small : i < length ws = rw (reached_length at (4096 * (k + 1) - at) 0 ws) at h in
      elim (cases_eq i k) [
        | inl e ↦
            read_at (4096 * (k + 1) - at) i small ∙ (ap (λ j. slice_index_or ws j false || reaches at (4096 * (k + 1) - at) j) e
            ∙ (ap (λ b. slice_index_or ws k false || b) here ∙ (or-true (slice_index_or ws k false)
            ∙ sym (ap (λ j. slice_index_or (slice_set (upto t at k) k true) j false) e ∙ get_or-set_same (upto t at k) k true false (rw (reached_length at (4096 * k - at) 0 ws, many) inside)))))
        | inr n ↦
            read_at (4096 * (k + 1) - at) i small ∙ (ap (λ b. slice_index_or ws i false || b) (elsewhere i n)
            ∙ sym (get_or-set_other (upto t at k) k i true false n ∙ read_at (4096 * k - at) i small))
      ])

  pub counted_one : count (upto t at (k + 1)) + flag (is_present (slot_at t.slots.items k)) ≡ count (upto t at k) + 1
  counted_one =
      let was : slice_index_or (upto t at k) k false ≡ is_present (slot_at t.slots.items k) =
      read_at (4096 * k - at) k (rw many inside) ∙ (ap (λ b. slice_index_or ws k false || b) not_yet ∙ (or-false (slice_index_or ws k false) ∙ map_there t.slots.items k inside)) in
      let f : count (slice_set (upto t at k) k true) + flag (slice_index_or (upto t at k) k false) ≡ count (upto t at k) + 1 = counted_set (λ w. w) (upto t at k) k true false (rw (reached_length at (4096 * k - at) 0 ws, many) inside) in
      rw one_more (rw was at f)

flag_added : (b : Bool) → (if b then 0 else 1) + flag b ≡ 1
flag_added true = refl
flag_added false = refl

pub counted_by : (t : Table) (at k : ℕ) → k < length t.slots.items → at / 4096 ≤ k → count (upto t at (k + 1)) ≡ count (upto t at k) + (if is_present (slot_at t.slots.items k) then 0 else 1)
counted_by t at k inside from = omega (arith, counted_one t at k inside from, flag_added (is_present (slot_at t.slots.items k)))

-- A range reaches no blocks before its first.
pub counted_none : (t : Table) (at : ℕ) → upto t at (at / 4096) ≡ map is_present t.slots.items
counted_none t at = ap (λ m. with_reached at m 0 (map is_present t.slots.items)) (let e : 4096 * (at / 4096) - at ≡ 0 = omega arith in e) ∙ reached_none at 0 (map is_present t.slots.items)

-- All blocks that a range reaches are counted after its last block.
pub counted_all : (t : Table) (at n : ℕ) → 0 < n → upto t at ((at + n - 1) / 4096 + 1) ≡ with_reached at n 0 (map is_present t.slots.items)
counted_all t at n some =
    reached_same at (4096 * ((at + n - 1) / 4096 + 1) - at) n 0 (λ k.
    same_tests (reaches at (4096 * ((at + n - 1) / 4096 + 1) - at) k) (reaches at n k)
    (λ e.
    let r : Reaches at (4096 * ((at + n - 1) / 4096 + 1) - at) k = reaches_is at (4096 * ((at + n - 1) / 4096 + 1) - at) k e in
    let c : 4096 * k < at + (4096 * ((at + n - 1) / 4096 + 1) - at) = r.behind in
    reaches_from at n k (record { some = some; before = r.before; behind = omega arith }))
    (λ e.
    let r : Reaches at n k = reaches_is at n k e in
    let c : 4096 * k < at + n = r.behind in
    reaches_from at (4096 * ((at + n - 1) / 4096 + 1) - at) k (record { some = omega arith; before = r.before; behind = omega arith })))
    (map is_present t.slots.items)

pub counted_small : (t : Table) (at k : ℕ) → IsSound t → count (upto t at k) ≤ 1048576
counted_small t at k sound =
    let f : count (upto t at k) ≤ length (upto t at k) = count_by-le-length (λ w. w) (upto t at k) in
    let g : length (upto t at k) ≡ length t.slots.items = reached_length at (4096 * k - at) 0 (map is_present t.slots.items) ∙ length-map t.slots.items is_present in
    let h = sound.slots in let i = sound.size in omega arith
