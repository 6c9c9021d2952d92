-- A step of the table: one slot is replaced, and the counts and the list of changed blocks with it.
-- The step keeps the invariant of a table.
use Rattle.base_lists.proofs.Common.{◌≡◌, ◌≢◌, ◌⊎◌, ℕ, ◌+◌, ◌<◌, ◌≤◌, [], length, Bool, true, false, slice_set, inl, inr, arith, Contains, vec_capacity, count_by, cases_eq}
use Rattle.std.proofs.Common.{length-set}
use Rattle.block_pool.specs.Blocks.{used}
use Rattle.block_pool.specs.Table.{is_present, has_older, is_changed, slot_at, IsSound}
use Rattle.block_pool.specs.declared.table.Slot.{Slot}
use Rattle.block_pool.specs.declared.table.Slot.TheVariants.{Absent}
use Rattle.block_pool.specs.declared.table.Table.{Table}
use Rattle.block_pool.proofs.Counts.{flag, counted_set}
use Rattle.block_pool.proofs.Replaced.{Replaces, owns_after, here, there}

pub record Moves (t u : Table) (k : ℕ) (s : Slot) : Type 0 where
  pub replaces : Replaces t.pool u.pool t.slots.items k s
  pub slots : u.slots.items ≡ slice_set t.slots.items k s
  pub size : u.size ≡ t.size
  pub most : u.most ≡ t.most
  pub numbers : u.pool.numbers ≡ t.pool.numbers
  pub capacity : vec_capacity u.changed ≡ vec_capacity t.changed
  pub written : u.written + flag (is_present (slot_at t.slots.items k)) ≡ t.written + flag (is_present s)
  pub account : used u.pool + (flag (is_present (slot_at t.slots.items k)) + flag (has_older (slot_at t.slots.items k))) ≡ used t.pool + (flag (is_present s) + flag (has_older s))
  pub blocks : used u.pool + u.pool.spare ≡ used t.pool + t.pool.spare
  pub fits : u.written ≤ u.most
  pub stays : (j : ℕ) → j ≢ k → Contains t.changed.items j → Contains u.changed.items j
  pub listed : is_changed s ≡ true → Contains u.changed.items k
  pub within : (j : ℕ) → Contains u.changed.items j → Contains t.changed.items j ⊎ (j ≡ k)
  pub few : length u.changed.items + flag (is_changed (slot_at t.slots.items k)) ≤ length t.changed.items + flag (is_changed s)
  pub unmarked : u.marked ≡ false → u.changed.items ≡ []

module _ (t u : Table) (k : ℕ) (s : Slot) (sound : IsSound t) (m : Moves t u k s) where
  count_after : (p : Slot → Bool) → count_by p u.slots.items + flag (p (slot_at t.slots.items k)) ≡ count_by p t.slots.items + flag (p s)
  count_after p = rw m.slots (counted_set p t.slots.items k s Absent m.replaces.inside)

  listed_after : (j : ℕ) → is_changed (slot_at u.slots.items j) ≡ true → Contains u.changed.items j
  listed_after j h =
      elim (cases_eq j k) [
        | inl e ↦
            let at : slot_at u.slots.items j ≡ s = rw (m.slots, e) (here t.pool u.pool t.slots.items k s sound.owns m.replaces) in
            rw e (m.listed (rw at at h))
        | inr n ↦
            let at : slot_at u.slots.items j ≡ slot_at t.slots.items j = rw m.slots (there t.pool u.pool t.slots.items k s sound.owns m.replaces j n) in
            m.stays j n (sound.listed j (rw at at h))
      ]

  length_after : length u.slots.items ≡ length t.slots.items
  length_after = rw m.slots (length-set t.slots.items k s)

  within_after : (j : ℕ) → Contains u.changed.items j → j < length u.slots.items
  within_after j h =
      rw length_after (elim (m.within j h) [ inl old ↦ sound.within j old | inr e ↦ rw e m.replaces.inside ])

  pub sound_after : IsSound u
  sound_after = record {
    size = rw m.size sound.size;
    slots = rw (length_after, m.size) sound.slots;
    numbers = rw m.numbers sound.numbers;
    owns = rw m.slots (owns_after t.pool u.pool t.slots.items k s sound.owns m.replaces);
    written = (let f = count_after is_present in let g : t.written ≡ count_by is_present t.slots.items = sound.written in let h = m.written in omega arith);
    most = m.fits;
    account = (let f = count_after has_older in let g = sound.account in let h = m.account in let i = m.written in omega arith);
    room = (let g = sound.room in let h = m.blocks in let i = m.most in omega arith);
    listed = listed_after;
    within = within_after;
    few = (let f = count_after is_changed in let g = sound.few in let h = m.few in omega arith);
    capacity = rw (m.most, m.capacity) sound.capacity;
    unmarked = m.unmarked;
  }
