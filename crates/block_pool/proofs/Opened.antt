-- The properties of a table that follow from the memory that it represents.
use Rattle.base_lists.proofs.Common.{◌≡◌, ℕ, zero, suc, ◌+◌, ◌*◌, ◌/◌, ◌^◌, ◌<◌, ◌≤◌, [], ◌∷◌, length, map, Bool, true, false, Some, None, replicate, count_by, refl, sym, ap, subst, ◌∙◌, inl, inr, arith, IsNone, IsSome, vec_capacity, if◌then◌else◌, Contains, cases_lt, ext_get_or, get_or-replicate}
use Rattle.base_lists.proofs.Common.{get_or_past, length-replicate, length-map, map_numbers_index, length-numbers}
use Rattle.base_lists.specs.Places.{numbers}
use Rattle.block_pool.specs.Blocks.{used}
use Rattle.block_pool.specs.Pages.{Pages, blank, blocks_of, size}
use Rattle.block_pool.specs.Table.{present, older, is_present, has_older, is_changed, slot_at, byte_at, contents, pages_of, NamesBlock, IsSound}
use Rattle.block_pool.specs.declared.table.Slot.{Slot}
use Rattle.block_pool.specs.declared.table.Slot.TheVariants.{Absent}
use Rattle.block_pool.specs.declared.table.Table.{Table}
use Rattle.block_pool.proofs.Counts.{flag, count_step, count_within}
use Rattle.block_pool.proofs.Claimed.{older_present}
use Rattle.block_pool.proofs.Joined.{contents_is}
use Rattle.block_pool.proofs.Plain.{plain_before}
use Rattle.block_pool.proofs.Written.{size_is}

pub unmarked : (t : Table) → IsNone (pages_of t).mark → t.marked ≡ false
unmarked t h =
    let P : Bool → Type 0 = λ on. IsNone (if on then Some (contents t.pool t.slots.items Rattle.block_pool.specs.Table.before t.size) else None) → on ≡ false in
    let cases : P t.marked = elim t.marked as P [ true ↦ λ n. cc | false ↦ λ n. refl ] in
    cases h

pub marked : (t : Table) → IsSome (pages_of t).mark → t.marked ≡ true
marked t h =
    let P : Bool → Type 0 = λ on. IsSome (if on then Some (contents t.pool t.slots.items Rattle.block_pool.specs.Table.before t.size) else None) → on ≡ true in
    let cases : P t.marked = elim t.marked as P [ true ↦ λ n. refl | false ↦ λ n. cc ] in
    cases h

pub set_mark : (t : Table) → IsSound t → IsNone (pages_of t).mark → pages_of (record t { marked = true }) ≡ record (pages_of t) { mark = Some (pages_of t).now }
set_mark t sound h = ap (λ c. let p : Pages = record (pages_of t) { mark = Some c } in p) (plain_before t sound (sound.unmarked (unmarked t h)))

pub held_most : (t : Table) → IsSound t → used t.pool ≤ 2 * t.most
held_most t sound =
    let f = count_within has_older is_present older_present t.slots.items in
    let g = sound.account in let h = sound.written in let i = sound.most in omega arith

none_pass : (p : Slot → Bool) → p Absent ≡ false → (n : ℕ) → count_by p (replicate n Absent) ≡ 0
none_pass p e zero = refl
none_pass p e (suc n) =
    let here : flag (p Absent) ≡ 0 = ap flag e in
    omega (arith, count_step p Absent (replicate n Absent), none_pass p e n)

all_absent : (n k : ℕ) → slot_at (replicate n Absent) k ≡ Absent
all_absent n k =
    elim (cases_lt k n) [
      | inl h ↦ get_or-replicate n k Absent Absent h
      | inr h ↦ get_or_past (replicate n Absent) k Absent (rw (length-replicate n Absent) h)
    ]

module _ (t : Table) (slots : t.slots.items ≡ replicate (blocks_of t.size) Absent) (unused : used t.pool ≡ 0) (none : t.changed.items ≡ []) (unwritten : t.written ≡ 0) where
  absent : (k : ℕ) → slot_at t.slots.items k ≡ Absent
  absent k = rw slots (all_absent (blocks_of t.size) k)

  count_none : (p : Slot → Bool) → p Absent ≡ false → count_by p t.slots.items ≡ 0
  count_none p e = rw slots (none_pass p e (blocks_of t.size))

  no_name : (k b : ℕ) → NamesBlock (slot_at t.slots.items k) b → ⊥
  no_name k b n = let m : NamesBlock Absent b = rw (absent k) at n in elim m [ inl e ↦ cc | inr e ↦ cc ]

  none_contained : (k : ℕ) → Contains t.changed.items k → ⊥
  none_contained k h = let c : Contains [] k = rw none at h in absurd (omega (arith, c.1))

  pub new_sound : t.size ≤ 2 ^ 32 → t.pool.numbers ≤ 2 ^ 32 → 2 * t.most ≤ t.pool.spare → t.most ≤ vec_capacity t.changed → IsSound t
  new_sound size numbers room capacity = record {
    size = size;
    slots = rw slots (length-replicate (blocks_of t.size) Absent);
    numbers = numbers;
    owns = record { live = λ k b n. absurd (no_name k b n); once = λ j k b n m. absurd (no_name j b n); apart = λ k b e f. absurd (no_name k b (inl e)) };
    written = rw (unwritten, count_none is_present refl) refl;
    most = omega (arith, unwritten);
    account = rw (unused, unwritten, count_none has_older refl) refl;
    room = omega (arith, unused);
    listed = λ k h. (let e : is_changed Absent ≡ true = rw (absent k) at h in cc);
    within = λ k h. absurd (none_contained k h);
    few = rw none (omega arith);
    capacity = capacity;
    unmarked = λ _. none;
  }

  zero_bytes : map (byte_at t.pool t.slots.items present) (numbers 0 t.size) ≡ replicate t.size 0
  zero_bytes =
      let f : ℕ → ℕ = byte_at t.pool t.slots.items present in
      let many : length (map f (numbers 0 t.size)) ≡ t.size = length-map (numbers 0 t.size) f ∙ length-numbers 0 t.size in
      ext_get_or 0 (map f (numbers 0 t.size)) (replicate t.size 0) (many ∙ sym (length-replicate t.size 0)) (λ i h.
      let small : i < t.size = rw many at h in
      map_numbers_index f 0 t.size i small ∙ (rw (absent ((0 + i) / 4096)) refl ∙ sym (get_or-replicate t.size i 0 0 small)))

  none_written : (n : ℕ) → map is_present (replicate n Absent) ≡ replicate n false
  none_written zero = refl
  none_written (suc n) = ap (λ bs. false ∷ bs) (none_written n)

  pub new_pages : t.marked ≡ false → pages_of t ≡ record { now = blank t.size; mark = None; most = t.most; blocks = t.pool.spare; held = 0 }
  new_pages off =
      let now : contents t.pool t.slots.items present t.size ≡ blank t.size = contents_is zero_bytes (rw slots (none_written (blocks_of t.size))) in
      let blocks : used t.pool + t.pool.spare ≡ t.pool.spare = omega (arith, unused) in
      rw off (λ i. record { now = now i; mark = None; most = t.most; blocks = blocks i; held = unused i })

-- A position in the memory is a position in the table.
pub inside_table : (t : Table) (p : Pages) (n : ℕ) → pages_of t ≡ p → n ≤ size p → n ≤ t.size
inside_table t p n e h = let f : n ≤ size (pages_of t) = subst (λ (q : Pages). n ≤ size q) (sym e) h in rw size_is at f
