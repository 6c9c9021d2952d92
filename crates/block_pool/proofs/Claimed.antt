-- A block is taken from the pool for a slot, with the bytes that the slot had.
use Rattle.base_lists.proofs.Common.{◌≡◌, ◌≢◌, ◌⊎◌, ℕ, ◌+◌, ◌<◌, List, [], ◌∷◌, ◌++◌, length, map, Bool, true, false, Option, Some, None, is_some, slice_set, slice_index, slice_index_or, count_by, replicate, refl, sym, ap, ◌∙◌, inl, inr, arith, true≢false, Contains, vec_capacity, if◌then◌else◌}
use Rattle.base_lists.proofs.Common.{get_or-replicate, get_or_past, length_push, length-replicate, get_or_default, Contains-push, Contains-push_cases, Contains-append_left, cases_lt, is_some_there}
use Rattle.std.specs.Prelude.{unwrap_or}
use Rattle.std.proofs.lemmas.List.{map-set}
use Rattle.std.proofs.Math.Seq.{map-set_same}
use Rattle.base_lists.specs.Places.{numbers}
use Rattle.block_pool.specs.Blocks.{Blocks, held, IsLive, used, zeros, Changes}
use Rattle.block_pool.specs.Table.{present, before, older, is_present, has_older, is_changed, slot_at, byte_in, contents, pages_of, NamesBlock, Owns, IsSound, Claims}
use Rattle.block_pool.specs.declared.table.Slot.{Slot}
use Rattle.block_pool.specs.declared.table.Slot.TheVariants.{Absent, Kept, New, Changed}
use Rattle.block_pool.specs.declared.table.Table.{Table}
use Rattle.block_pool.proofs.Counts.{count_within, count_fewer}
use Rattle.block_pool.proofs.Replaced.{Replaces, before_named, bytes_after, contents_after, dead}
use Rattle.block_pool.proofs.Moved.{Moves, sound_after}

pub present_named : (s : Slot) (b : ℕ) → present s ≡ Some b → NamesBlock s b
present_named s b e = inl e

pub older_changed : (s : Slot) → has_older s ≡ true → is_changed s ≡ true
older_changed Absent e = cc
older_changed (Kept b) e = cc
older_changed (New b) e = cc
older_changed (Changed b c) e = refl

changed_present : (s : Slot) → is_changed s ≡ true → is_present s ≡ true
changed_present Absent e = cc
changed_present (Kept b) e = refl
changed_present (New b) e = refl
changed_present (Changed b c) e = refl

pub older_present : (s : Slot) → has_older s ≡ true → is_present s ≡ true
older_present s e = changed_present s (older_changed s e)

module _ (t : Table) (sound : IsSound t) where
  -- The pool has a spare block for a block that was never written.
  pub spare_below : t.written < t.most → 0 < t.pool.spare
  spare_below h =
      let f = count_within has_older is_present older_present t.slots.items in
      let g = sound.account in let i = sound.room in let j = sound.written in omega arith

  pub listed_below : t.written < t.most → length t.changed.items < t.most
  listed_below h =
      let f = count_within is_changed is_present changed_present t.slots.items in
      let g = sound.few in let j = sound.written in omega arith

  module _ (k b : ℕ) (inside : k < length t.slots.items) (kept : slot_at t.slots.items k ≡ Kept b) where
    -- The pool has a spare block for the copy of a block that was written before the mark.
    pub spare_kept : 0 < t.pool.spare
    spare_kept =
        let f : count_by has_older t.slots.items < count_by is_present t.slots.items = count_fewer has_older is_present older_present t.slots.items k Absent inside (ap has_older kept) (ap is_present kept) in
        let g = sound.account in let i = sound.room in let j = sound.written in let l = sound.most in omega arith

    pub listed_kept : length t.changed.items < t.most
    listed_kept =
        let f : count_by is_changed t.slots.items < count_by is_present t.slots.items = count_fewer is_changed is_present changed_present t.slots.items k Absent inside (ap is_changed kept) (ap is_present kept) in
        let g = sound.few in let j = sound.written in let l = sound.most in omega arith

pub taken_replaces : (pool after : Blocks) (slots : List Slot) (k : ℕ) (s : Slot) (b : ℕ) (bytes : List ℕ) → Owns pool slots → k < length slots → held pool b ≡ None → Changes pool after b (Some bytes) → ((c : ℕ) → NamesBlock s c → (c ≡ b) ⊎ NamesBlock (slot_at slots k) c) →
    ((c : ℕ) → present s ≡ Some c → older s ≡ Some c → ⊥) → Replaces pool after slots k s
taken_replaces pool after slots k s b bytes owns inside gone changes named apart =
    let other : (c : ℕ) → IsLive pool c → c ≢ b = λ c live e. dead (held pool c) live (rw e gone) in
    record {
      inside = inside;
      fresh = λ c n. elim (named c n) [ inl e ↦ inr (rw e gone) | inr old ↦ inl old ];
      live = λ c n. elim (named c n) [
        | inl e ↦ rw (e, changes.changed) refl
        | inr old ↦ let live : IsLive pool c = owns.live k c old in rw (changes.others c (other c live)) live
      ];
      others = λ c live n. changes.others c (other c live);
      apart = apart;
    }

module _ (t u : Table) (k : ℕ) (s : Slot) (owns : Owns t.pool t.slots.items) (m : Moves t u k s) (marked : u.marked ≡ t.marked) where
  pub mark_after : (t.marked ≡ true → ((offset : ℕ) → offset < 4096 → byte_in u.pool (before s) offset ≡ byte_in t.pool (before (slot_at t.slots.items k)) offset) × (is_some (before s) ≡ is_some (before (slot_at t.slots.items k)))) → (pages_of u).mark ≡ (pages_of t).mark
  mark_after same =
      rw (marked, m.slots, m.size) (
      let P : Bool → Type 0 = λ on. (on ≡ true → contents u.pool (slice_set t.slots.items k s) before t.size ≡ contents t.pool t.slots.items before t.size) → (if on then Some (contents u.pool (slice_set t.slots.items k s) before t.size) else None) ≡
      (if on then Some (contents t.pool t.slots.items before t.size) else None) in
      let cases : P t.marked = elim t.marked as P [ true ↦ λ f. ap Some (f refl) | false ↦ λ f. refl ] in
      cases (λ on. contents_after t.pool u.pool t.slots.items k s owns m.replaces before t.size before_named (same on).0 (same on).1))

  pub claims_after : ((offset : ℕ) → offset < 4096 → byte_in u.pool (present s) offset ≡ byte_in t.pool (present (slot_at t.slots.items k)) offset) → is_present s ≡ true → (pages_of u).mark ≡ (pages_of t).mark → Claims t u k
  claims_after now here mark = record {
    bytes = rw (m.slots, m.size) (ap (λ f. map f (numbers 0 t.size)) (bytes_after t.pool u.pool t.slots.items k s owns m.replaces present present_named now));
    written = rw m.slots (map-set is_present t.slots.items k s ∙ ap (slice_set (map is_present t.slots.items) k) here);
    mark = mark;
    blocks = m.blocks;
  }

zero_offset : (n offset : ℕ) → slice_index (replicate n 0) offset ≡ 0
zero_offset n offset =
    elim (cases_lt offset n) [
      | inl h ↦ get_or-replicate n offset 0 0 h
      | inr h ↦ get_or_past (replicate n 0) offset 0 (omega (arith, length-replicate {A = ℕ} n 0))
    ]

-- The bytes of a block of zeros are those of a slot without a block.
zero_bytes : (pool after : Blocks) (b offset : ℕ) → held after b ≡ Some zeros → byte_in after (Some b) offset ≡ byte_in pool None offset
zero_bytes pool after b offset e = rw e (zero_offset 4096 offset)

-- A block with these bytes is taken from the pool.
pub record Takes (pool after : Blocks) (b : ℕ) (bytes : Option (List ℕ)) : Type 0 where
  pub fresh : held pool b ≡ None
  pub changes : Changes pool after b bytes
  pub used : used after ≡ used pool + 1
  pub spare : after.spare + 1 ≡ pool.spare
  pub numbers : after.numbers ≡ pool.numbers

-- A block is claimed for the slot `k`, and the other slots and counts of the table are unchanged.
pub record Claimed (t u : Table) (k : ℕ) (s : Slot) : Type 0 where
  pub inside : k < length t.slots.items
  pub slots : u.slots.items ≡ slice_set t.slots.items k s
  pub size : u.size ≡ t.size
  pub most : u.most ≡ t.most
  pub marked : u.marked ≡ t.marked
  pub capacity : vec_capacity u.changed ≡ vec_capacity t.changed

pub listed_moves : (t u : Table) (k : ℕ) → u.changed.items ≡ t.changed.items ++ k ∷ [] → (j : ℕ) → Contains u.changed.items j → Contains t.changed.items j ⊎ (j ≡ k)
listed_moves t u k e j h = elim (Contains-push_cases t.changed.items k j (rw e at h)) [ inl old ↦ inl old | inr same ↦ inr (sym same) ]

module _ (t u : Table) (k b : ℕ) (sound : IsSound t) (takes : Takes t.pool u.pool b (Some zeros)) (absent : slot_at t.slots.items k ≡ Absent) (written : u.written ≡ t.written + 1) (room : t.written < t.most) where
  new_moves : Claimed t u k (New b) → u.changed.items ≡ t.changed.items ++ k ∷ [] → t.marked ≡ true → Moves t u k (New b)
  new_moves c listed on = record {
    replaces = taken_replaces t.pool u.pool t.slots.items k (New b) b zeros sound.owns c.inside takes.fresh takes.changes (λ d n. elim n [ inl e ↦ inl (cc) | inr e ↦ cc ]) (λ d e f. cc);
    slots = c.slots;
    size = c.size;
    most = c.most;
    numbers = takes.numbers;
    capacity = c.capacity;
    written = rw absent (omega (arith, written));
    account = rw absent (omega (arith, takes.used));
    blocks = omega (arith, takes.used, takes.spare);
    fits = omega (arith, written, c.most);
    stays = λ j n h. rw listed (Contains-append_left t.changed.items (k ∷ []) j h);
    listed = λ _. rw listed (Contains-push t.changed.items k);
    within = listed_moves t u k listed;
    few = rw (absent, listed) (omega (arith, length_push t.changed.items k));
    unmarked = λ off. absurd (true≢false (sym on ∙ (sym c.marked ∙ off)));
  }

  new_claims : (c : Claimed t u k (New b)) → Moves t u k (New b) → Claims t u k
  new_claims c m =
      claims_after t u k (New b) sound.owns m c.marked
      (λ offset h. rw absent (zero_bytes t.pool u.pool b offset takes.changes.changed))
      refl
      (mark_after t u k (New b) sound.owns m c.marked (λ on. rw absent ((λ offset h. refl), refl)))

  -- The case of a block that is first written after the mark.
  pub new_done : Claimed t u k (New b) → u.changed.items ≡ t.changed.items ++ k ∷ [] → t.marked ≡ true → IsSound u × Claims t u k
  new_done c listed on =
      let m : Moves t u k (New b) = new_moves c listed on in
      (sound_after t u k (New b) sound m, new_claims c m)

  kept_moves : Claimed t u k (Kept b) → u.changed.items ≡ t.changed.items → t.marked ≡ false → Moves t u k (Kept b)
  kept_moves c same off = record {
    replaces = taken_replaces t.pool u.pool t.slots.items k (Kept b) b zeros sound.owns c.inside takes.fresh takes.changes (λ d n. elim n [ inl e ↦ inl (cc) | inr e ↦ cc ]) (λ d e f. cc);
    slots = c.slots;
    size = c.size;
    most = c.most;
    numbers = takes.numbers;
    capacity = c.capacity;
    written = rw absent (omega (arith, written));
    account = rw absent (omega (arith, takes.used));
    blocks = omega (arith, takes.used, takes.spare);
    fits = omega (arith, written, c.most);
    stays = λ j n h. rw same h;
    listed = λ e. cc;
    within = λ j h. inl (rw same at h);
    few = rw (absent, same) (omega arith);
    unmarked = λ _. same ∙ sound.unmarked off;
  }

  kept_claims : (c : Claimed t u k (Kept b)) → Moves t u k (Kept b) → t.marked ≡ false → Claims t u k
  kept_claims c m off =
      claims_after t u k (Kept b) sound.owns m c.marked
      (λ offset h. rw absent (zero_bytes t.pool u.pool b offset takes.changes.changed))
      refl
      (mark_after t u k (Kept b) sound.owns m c.marked (λ on. absurd (true≢false (sym on ∙ off))))

  -- The case of a block that is first written while no mark is set.
  pub kept_done : Claimed t u k (Kept b) → u.changed.items ≡ t.changed.items → t.marked ≡ false → IsSound u × Claims t u k
  kept_done c same off =
      let m : Moves t u k (Kept b) = kept_moves c same off in
      (sound_after t u k (Kept b) sound m, kept_claims c m off)

module _ (t u : Table) (k b old : ℕ) (sound : IsSound t) (takes : Takes t.pool u.pool b (held t.pool old)) (kept : slot_at t.slots.items k ≡ Kept old) (c : Claimed t u k (Changed b old)) (written : u.written ≡ t.written) (listed : u.changed.items ≡ t.changed.items ++ k ∷ []) (on : t.marked ≡ true)
  where
    old_named : NamesBlock (slot_at t.slots.items k) old
    old_named = rw kept (inl refl)

    old_live : IsLive t.pool old
    old_live = sound.owns.live k old old_named

    old_other : old ≢ b
    old_other e = dead (held t.pool old) old_live (rw e takes.fresh)

    aside_moves : (bytes : List ℕ) → held t.pool old ≡ Some bytes → Moves t u k (Changed b old)
    aside_moves bytes there = record {
      replaces = taken_replaces t.pool u.pool t.slots.items k (Changed b old) b bytes sound.owns c.inside takes.fresh (rw there at takes.changes)
          (λ d n. elim n [ inl e ↦ inl (cc) | inr e ↦ inr (rw kept (inl (cc))) ])
          (λ d e f. old_other (cc));
      slots = c.slots;
      size = c.size;
      most = c.most;
      numbers = takes.numbers;
      capacity = c.capacity;
      written = rw kept (omega (arith, written));
      account = rw kept (omega (arith, takes.used));
      blocks = omega (arith, takes.used, takes.spare);
      fits = omega (arith, written, c.most, sound.most);
      stays = λ j n h. rw listed (Contains-append_left t.changed.items (k ∷ []) j h);
      listed = λ _. rw listed (Contains-push t.changed.items k);
      within = listed_moves t u k listed;
      few = rw (kept, listed) (omega (arith, length_push t.changed.items k));
      unmarked = λ off. absurd (true≢false (sym on ∙ (sym c.marked ∙ off)));
    }

    -- The case of a block that was written before the mark, and is written for the first time after
    -- it.
    pub aside_done : IsSound u × Claims t u k
    aside_done =
        let live : (v : List ℕ) × (held t.pool old ≡ Some v) = is_some_there (held t.pool old) old_live in
        let m : Moves t u k (Changed b old) = aside_moves live.0 live.1 in (
          sound_after t u k (Changed b old) sound m,
          claims_after t u k (Changed b old) sound.owns m c.marked
              (λ offset h. rw kept (ap (λ o. slice_index (unwrap_or o []) offset) takes.changes.changed))
              refl
              (mark_after t u k (Changed b old) sound.owns m c.marked (λ _. rw kept ((λ offset h. ap (λ o. slice_index (unwrap_or o []) offset) (takes.changes.others old old_other)), refl))),
        )

-- A block that already counts as written is claimed as it is.
pub claimed_already : (t : Table) (k : ℕ) (s : Slot) → slot_at t.slots.items k ≡ s → is_present s ≡ true → Claims t t k
claimed_already t k s at here = record {
  bytes = refl;
  written =
      (let same : map is_present (slice_set t.slots.items k s) ≡ map is_present t.slots.items = map-set_same is_present t.slots.items k s Absent (ap is_present (sym at)) in
      sym same ∙ (map-set is_present t.slots.items k s ∙ ap (slice_set (map is_present t.slots.items) k) here));
  mark = refl;
  blocks = refl;
}

-- The slot that is read from the table is the slot at this position.
pub read_slot : (xs : List Slot) (n : ℕ) (r s : Slot) → n < length xs → r ≡ slice_index_or xs n r → r ≡ s → slot_at xs n ≡ s
read_slot xs n r s h e f = get_or_default xs n Absent r h ∙ (sym e ∙ f)
