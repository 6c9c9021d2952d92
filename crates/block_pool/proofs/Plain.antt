-- The table when no block is left that was written since the mark.
use Rattle.base_lists.proofs.Common.{◌≡◌, ℕ, suc, ◌/◌, ◌%◌, List, [], ◌∷◌, length, map, Bool, true, false, Some, None, is_some, count_by, refl, sym, ap, ap₂, ◌∙◌, inl, inr, arith, Contains, if◌then◌else◌, fun_ext, cases_Bool}
use Rattle.base_lists.specs.Places.{numbers}
use Rattle.block_pool.specs.Blocks.{used}
use Rattle.block_pool.specs.Pages.{RollsBack, Commits, written_count}
use Rattle.block_pool.specs.Table.{present, before, is_present, has_older, is_changed, slot_at, byte_in, contents, pages_of, IsSound, IsFixed}
use Rattle.block_pool.specs.declared.table.Slot.{Slot}
use Rattle.block_pool.specs.declared.table.Slot.TheVariants.{Absent, Kept, New, Changed}
use Rattle.block_pool.specs.declared.table.Table.{Table}
use Rattle.block_pool.proofs.Counts.{flag, count_step, count_within}
use Rattle.block_pool.proofs.Replaced.{same_contents}
use Rattle.block_pool.proofs.Claimed.{older_changed}
use Rattle.block_pool.proofs.Written.{size_is}

same_before : (s : Slot) → is_changed s ≡ false → before s ≡ present s
same_before Absent e = refl
same_before (Kept b) e = refl
same_before (New b) e = cc
same_before (Changed b c) e = cc

same_written : (slots : List Slot) → ((k : ℕ) → is_changed (slot_at slots k) ≡ false) → map (λ s. is_some (before s)) slots ≡ map (λ s. is_some (present s)) slots
same_written [] h = refl
same_written (s ∷ slots) h = ap₂ (λ b bs. b ∷ bs) (ap is_some (same_before s (h 0))) (same_written slots (λ k. h (suc k)))

none_changed : (slots : List Slot) → ((k : ℕ) → is_changed (slot_at slots k) ≡ false) → count_by is_changed slots ≡ 0
none_changed [] h = refl
none_changed (s ∷ slots) h =
    let here : flag (is_changed s) ≡ 0 = ap flag (h 0) in
    omega (arith, count_step is_changed s slots, none_changed slots (λ k. h (suc k)))

counted_map : {A : Type 0} (p : A → Bool) (xs : List A) → count_by (λ w. w) (map p xs) ≡ count_by p xs
counted_map p [] = refl
counted_map p (x ∷ xs) = omega (arith, count_step p x xs, count_step (λ w. w) (p x) (map p xs), counted_map p xs)

-- The table keeps the number of blocks that were written.
pub written_is : (t : Table) → IsSound t → written_count (pages_of t).now ≡ t.written
written_is t sound = counted_map is_present t.slots.items ∙ sym sound.written

module _ (t : Table) (sound : IsSound t) (none : t.changed.items ≡ []) where
  plain : (k : ℕ) → is_changed (slot_at t.slots.items k) ≡ false
  plain k =
      elim (cases_Bool (is_changed (slot_at t.slots.items k))) [
        | inl e ↦ (let c : Contains [] k = rw none at (sound.listed k e) in absurd (omega (arith, c.1)))
        | inr e ↦ e
      ]

  pub plain_before : contents t.pool t.slots.items before t.size ≡ contents t.pool t.slots.items present t.size
  plain_before =
      same_contents
      (ap (λ f. map f (numbers 0 t.size)) (fun_ext (λ at. ap (λ o. byte_in t.pool o (at % 4096)) (same_before (slot_at t.slots.items (at / 4096)) (plain (at / 4096))))))
      (same_written t.slots.items plain)

  pub plain_held : used t.pool ≡ written_count (pages_of t).now
  plain_held =
      let f = count_within has_older is_changed older_changed t.slots.items in
      let g = none_changed t.slots.items plain in
      let h = sound.account in
      let i = written_is t sound in omega arith

-- The state of a rollback: the contents of the mark are unchanged, and some blocks are taken back.
pub record Unwinds (start now : Table) : Type 0 where
  pub sound : IsSound now
  pub on : now.marked ≡ true
  pub mark : (pages_of now).mark ≡ (pages_of start).mark
  pub blocks : (pages_of now).blocks ≡ (pages_of start).blocks
  pub fixed : IsFixed start now

-- The state of a commit: the present contents are unchanged, and some older copies are given back.
pub record Winds (start t : Table) : Type 0 where
  pub sound : IsSound t
  pub on : t.marked ≡ true
  pub now : (pages_of t).now ≡ (pages_of start).now
  pub blocks : (pages_of t).blocks ≡ (pages_of start).blocks
  pub fixed : IsFixed start t

pub fixed_self : (t : Table) → IsFixed t t
fixed_self t = record { size = refl; most = refl; marked = refl; slots = refl }

pub fixed_on : (t u v : Table) → IsFixed t u → IsFixed u v → IsFixed t v
fixed_on t u v f g = record { size = g.size ∙ f.size; most = g.most ∙ f.most; marked = g.marked ∙ f.marked; slots = g.slots ∙ f.slots }

pub no_opaque : (xs : List ℕ) → length xs ≡ 0 → xs ≡ []
no_opaque [] e = refl
no_opaque (x ∷ xs) e = absurd (omega arith)

module _ (t : Table) (sound : IsSound t) (none : t.changed.items ≡ []) where
  pub unmarked_sound : IsSound (record t { marked = false })
  unmarked_sound = record {
    size = sound.size;
    slots = sound.slots;
    numbers = sound.numbers;
    owns = sound.owns;
    written = sound.written;
    most = sound.most;
    account = sound.account;
    room = sound.room;
    listed = sound.listed;
    within = sound.within;
    few = sound.few;
    capacity = sound.capacity;
    unmarked = λ _. none;
  }

pub rolled_back : (start t : Table) → Unwinds start t → t.changed.items ≡ [] → RollsBack (pages_of start) (pages_of (record t { marked = false }))
rolled_back start t w none = record {
  back = sym w.mark ∙ (ap (λ on. if on then Some (contents t.pool t.slots.items before t.size) else None) w.on ∙ ap Some (plain_before t w.sound none));
  size = size_is t ∙ (w.fixed.size ∙ sym (size_is start));
  cleared = refl;
  most = w.fixed.most;
  blocks = w.blocks;
  held = plain_held t w.sound none;
}

pub committed : (start t : Table) → Winds start t → t.changed.items ≡ [] → Commits (pages_of start) (pages_of (record t { marked = false }))
committed start t w none = record {
  now = w.now;
  size = size_is t ∙ (w.fixed.size ∙ sym (size_is start));
  cleared = refl;
  most = w.fixed.most;
  blocks = w.blocks;
  held = plain_held t w.sound none;
}
