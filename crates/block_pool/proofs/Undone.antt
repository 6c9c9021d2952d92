-- A block that was written since the mark is taken back, or kept for good.
use Rattle.base_lists.proofs.Common.{◌≡◌, ◌≢◌, ◌⊎◌, ℕ, ◌+◌, ◌<◌, ◌≤◌, List, [], ◌∷◌, ◌++◌, length, Bool, true, false, Some, None, is_some, slice_set, slice_index, count_by, refl, sym, ap, ◌∙◌, inl, inr, arith, true≢false, vec_capacity, length_push, Contains-push, Contains-push_cases}
use Rattle.base_lists.proofs.Common.{Contains-append_left}
use Rattle.std.specs.Prelude.{unwrap_or}
use Rattle.block_pool.specs.Blocks.{Blocks, IsLive, used, Changes}
use Rattle.block_pool.specs.Table.{present, before, older, is_present, has_older, is_changed, slot_at, byte_in, NamesBlock, Owns, IsSound, TakesBack, Settles}
use Rattle.block_pool.specs.declared.table.Slot.{Slot}
use Rattle.block_pool.specs.declared.table.Slot.TheVariants.{Absent, Kept, New, Changed}
use Rattle.block_pool.specs.declared.table.Table.{Table}
use Rattle.block_pool.proofs.Counts.{flag, count_fewer}
use Rattle.block_pool.proofs.Replaced.{Replaces, contents_after}
use Rattle.block_pool.proofs.Moved.{Moves, sound_after}
use Rattle.block_pool.proofs.Claimed.{mark_after, present_named}

given_replaces : (pool after : Blocks) (slots : List Slot) (k : ℕ) (s : Slot) (p : ℕ) → Owns pool slots → k < length slots → NamesBlock (slot_at slots k) p → Changes pool after p None → ((c : ℕ) → NamesBlock s c → NamesBlock (slot_at slots k) c × (c ≢ p)) →
    ((c : ℕ) → present s ≡ Some c → older s ≡ Some c → ⊥) → Replaces pool after slots k s
given_replaces pool after slots k s p owns inside named changes still apart = record {
  inside = inside;
  fresh = λ c n. inl (still c n).0;
  live = λ c n. let live : IsLive pool c = owns.live k c (still c n).0 in rw (changes.others c (still c n).1) live;
  others = λ c live n. changes.others c (λ e. n (rw e named));
  apart = apart;
}

same_replaces : (pool : Blocks) (slots : List Slot) (k : ℕ) (s : Slot) → Owns pool slots → k < length slots → ((c : ℕ) → NamesBlock s c → NamesBlock (slot_at slots k) c) → ((c : ℕ) → present s ≡ Some c → older s ≡ Some c → ⊥) → Replaces pool pool slots k s
same_replaces pool slots k s owns inside still apart = record {
  inside = inside;
  fresh = λ c n. inl (still c n);
  live = λ c n. owns.live k c (still c n);
  others = λ c live n. refl;
  apart = apart;
}

-- The last block is removed from the list of changed blocks, and its slot `k` becomes `s`; the rest
-- of the table is unchanged.
pub record Undoes (t u : Table) (k : ℕ) (s : Slot) : Type 0 where
  pub inside : k < length t.slots.items
  pub slots : u.slots.items ≡ slice_set t.slots.items k s
  pub size : u.size ≡ t.size
  pub most : u.most ≡ t.most
  pub marked : u.marked ≡ t.marked
  pub on : t.marked ≡ true
  pub capacity : vec_capacity u.changed ≡ vec_capacity t.changed
  pub listed : t.changed.items ≡ u.changed.items ++ k ∷ []
  pub unchanged : is_changed s ≡ false

pub last_inside : (t : Table) (k : ℕ) (front : List ℕ) → IsSound t → t.changed.items ≡ front ++ k ∷ [] → k < length t.slots.items
last_inside t k front sound e = sound.within k (rw e (Contains-push front k))

flag_most : (b : Bool) → flag b ≤ 1
flag_most true = omega arith
flag_most false = omega arith

-- A block is given back to the pool.
pub record Gives (pool after : Blocks) (b : ℕ) : Type 0 where
  pub gone : Changes pool after b None
  pub used : used after + 1 ≡ used pool
  pub spare : after.spare ≡ pool.spare + 1
  pub numbers : after.numbers ≡ pool.numbers

module _ (t u : Table) (k : ℕ) (s : Slot) (sound : IsSound t) (r : Replaces t.pool u.pool t.slots.items k s) (d : Undoes t u k s) where
  length_before : length t.changed.items ≡ length u.changed.items + 1
  length_before = ap length d.listed ∙ length_push u.changed.items k

  undone_moves : u.pool.numbers ≡ t.pool.numbers → u.written + flag (is_present (slot_at t.slots.items k)) ≡ t.written + flag (is_present s) →
      used u.pool + (flag (is_present (slot_at t.slots.items k)) + flag (has_older (slot_at t.slots.items k))) ≡ used t.pool + (flag (is_present s) + flag (has_older s)) → used u.pool + u.pool.spare ≡ used t.pool + t.pool.spare → u.written ≤ t.written → Moves t u k s
  undone_moves numbers written account blocks fewer = record {
    replaces = r;
    slots = d.slots;
    size = d.size;
    most = d.most;
    numbers = numbers;
    capacity = d.capacity;
    written = written;
    account = account;
    blocks = blocks;
    fits = omega (arith, fewer, d.most, sound.most);
    stays = λ j n h. elim (Contains-push_cases u.changed.items k j (rw d.listed at h)) [ inl old ↦ old | inr same ↦ absurd (n (sym same)) ];
    listed = λ h. absurd (true≢false (sym h ∙ d.unchanged));
    within = λ j h. inl (rw d.listed (Contains-append_left u.changed.items (k ∷ []) j h));
    few = omega (arith, length_before, flag_most (is_changed (slot_at t.slots.items k)));
    unmarked = λ off. absurd (true≢false (sym d.on ∙ (sym d.marked ∙ off)));
  }

  back_done : Moves t u k s → ((offset : ℕ) → offset < 4096 → byte_in u.pool (before s) offset ≡ byte_in t.pool (before (slot_at t.slots.items k)) offset) → is_some (before s) ≡ is_some (before (slot_at t.slots.items k)) → IsSound u × TakesBack t u
  back_done m bytes there = (
    sound_after t u k s sound m,
    record { mark = mark_after t u k s sound.owns m d.marked (λ _. (bytes, there)); blocks = m.blocks; fewer = sym length_before },
  )

  settle_done : Moves t u k s → ((offset : ℕ) → offset < 4096 → byte_in u.pool (present s) offset ≡ byte_in t.pool (present (slot_at t.slots.items k)) offset) → is_some (present s) ≡ is_some (present (slot_at t.slots.items k)) → IsSound u × Settles t u
  settle_done m bytes there = (
    sound_after t u k s sound m,
    record { now = rw (m.slots, m.size) (contents_after t.pool u.pool t.slots.items k s sound.owns r present t.size present_named bytes there); blocks = m.blocks; fewer = sym length_before },
  )

module _ (t u : Table) (k : ℕ) (sound : IsSound t) where
  -- The case of a block that was not written before the mark.
  pub new_back : (p : ℕ) → slot_at t.slots.items k ≡ New p → Undoes t u k Absent → Gives t.pool u.pool p → u.written + 1 ≡ t.written → IsSound u × TakesBack t u
  new_back p at d g written =
      let r : Replaces t.pool u.pool t.slots.items k Absent = given_replaces t.pool u.pool t.slots.items k Absent p sound.owns d.inside (rw at (inl refl)) g.gone (λ c n. elim n [ inl e ↦ cc | inr e ↦ cc ]) (λ c e f. cc) in
      back_done t u k Absent sound r d
      (undone_moves t u k Absent sound r d g.numbers (rw at (omega (arith, written))) (rw at (omega (arith, g.used))) (omega (arith, g.used, g.spare)) (omega (arith, written)))
      (λ offset h. rw at refl) (rw at refl)

  pub new_settled : (p : ℕ) → slot_at t.slots.items k ≡ New p → Undoes t u k (Kept p) → u.pool ≡ t.pool → u.written ≡ t.written → IsSound u × Settles t u
  new_settled p at d same written =
      let r : Replaces t.pool u.pool t.slots.items k (Kept p) = rw same (same_replaces t.pool t.slots.items k (Kept p) sound.owns d.inside (λ c n. elim n [ inl e ↦ rw at (inl e) | inr e ↦ cc ]) (λ c e f. cc)) in
      settle_done t u k (Kept p) sound r d
      (undone_moves t u k (Kept p) sound r d (ap (λ q. q.numbers) same) (rw at (omega (arith, written))) (rw (at, same) (omega arith)) (rw same refl) (omega (arith, written)))
      (λ offset h. rw (at, same) refl) (rw at refl)

  module _ (p o : ℕ) (at : slot_at t.slots.items k ≡ Changed p o) where
    apart : o ≢ p
    apart e = sound.owns.apart k p (rw at refl) (rw at (ap Some e))

    -- The case of a block that was written before the mark and after it.
    pub changed_back : Undoes t u k (Kept o) → Gives t.pool u.pool p → u.written ≡ t.written → IsSound u × TakesBack t u
    changed_back d g written =
        let r : Replaces t.pool u.pool t.slots.items k (Kept o) = given_replaces t.pool u.pool t.slots.items k (Kept o) p sound.owns d.inside (rw at (inl refl)) g.gone (λ c n. elim n [ inl e ↦ (rw at (inr e), λ f. apart (cc)) | inr e ↦ cc ]) (λ c e f. cc) in
        back_done t u k (Kept o) sound r d
        (undone_moves t u k (Kept o) sound r d g.numbers (rw at (omega (arith, written))) (rw at (omega (arith, g.used))) (omega (arith, g.used, g.spare)) (omega (arith, written)))
        (λ offset h. rw at (ap (λ x. slice_index (unwrap_or x []) offset) (g.gone.others o apart))) (rw at refl)

    pub changed_settled : Undoes t u k (Kept p) → Gives t.pool u.pool o → u.written ≡ t.written → IsSound u × Settles t u
    changed_settled d g written =
        let r : Replaces t.pool u.pool t.slots.items k (Kept p) = given_replaces t.pool u.pool t.slots.items k (Kept p) o sound.owns d.inside (rw at (inr refl)) g.gone (λ c n. elim n [ inl e ↦ (rw at (inl e), λ f. apart (cc)) | inr e ↦ cc ]) (λ c e f. cc) in
        settle_done t u k (Kept p) sound r d
        (undone_moves t u k (Kept p) sound r d g.numbers (rw at (omega (arith, written))) (rw at (omega (arith, g.used))) (omega (arith, g.used, g.spare)) (omega (arith, written)))
        (λ offset h. rw at (ap (λ x. slice_index (unwrap_or x []) offset) (g.gone.others p (λ e. apart (sym e))))) (rw at refl)

  -- The case of a block that is not changed.
  module _ (s : Slot) (at : slot_at t.slots.items k ≡ s) (d : Undoes t u k s) (same : u.pool ≡ t.pool) (written : u.written ≡ t.written) where
    left_replaces : Replaces t.pool u.pool t.slots.items k s
    left_replaces = rw same (same_replaces t.pool t.slots.items k s sound.owns d.inside (λ c n. rw at n) (λ c e f. sound.owns.apart k c (rw at e) (rw at f)))

    left_moves : Moves t u k s
    left_moves = undone_moves t u k s sound left_replaces d (ap (λ q. q.numbers) same) (rw at (omega (arith, written))) (rw (at, same) refl) (rw same refl) (omega (arith, written))

    pub left_back : IsSound u × TakesBack t u
    left_back = back_done t u k s sound left_replaces d left_moves (λ offset h. rw (at, same) refl) (rw at refl)

    pub left_settled : IsSound u × Settles t u
    left_settled = settle_done t u k s sound left_replaces d left_moves (λ offset h. rw (at, same) refl) (rw at refl)

-- A table with a present block has at least one written block.
pub written_some : (t : Table) (k : ℕ) → IsSound t → k < length t.slots.items → is_present (slot_at t.slots.items k) ≡ true → 1 ≤ t.written
written_some t k sound inside there =
    let f : count_by (λ s. false) t.slots.items < count_by is_present t.slots.items = count_fewer (λ s. false) is_present (λ s e. absurd (true≢false (sym e))) t.slots.items k Absent inside refl there in
    let g = sound.written in omega arith

pub plain_unchanged : (s : Slot) → (s ≡ Absent) ⊎ ((x : ℕ) × (s ≡ Kept x)) → is_changed s ≡ false
plain_unchanged s h = elim h [ inl e ↦ ap is_changed e | inr p ↦ ap is_changed p.1 ]
