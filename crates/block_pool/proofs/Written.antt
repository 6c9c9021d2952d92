-- Bytes are written to a block that the table may write to.
use Rattle.base_lists.proofs.Common.{◌≡◌, ◌≢◌, ℕ, ◌+◌, ◌-◌, ◌*◌, ◌/◌, ◌%◌, ◌<◌, ◌≤◌, List, [], length, map, true, Option, Some, None, slice_index, refl, sym, ap, ◌∙◌, inl, inr, arith, zero-add, cases_eq, set-get_or, get_or-set_same, get_or-set_other, length-map, map_numbers_index, length-numbers}
use Rattle.std.specs.Prelude.{unwrap_or}
use Rattle.base_lists.specs.Places.{numbers}
use Rattle.block_pool.specs.Blocks.{Blocks, held, IsLive, used, with_bytes, with_part, WritesPart}
use Rattle.block_pool.specs.Pages.{WritesBytes, size}
use Rattle.block_pool.specs.Table.{present, before, older, is_present, is_changed, slot_at, byte_in, byte_at, pages_of, NamesBlock, IsSound, IsFixed, Claims}
use Rattle.block_pool.specs.declared.table.Slot.{Slot}
use Rattle.block_pool.specs.declared.table.Slot.TheVariants.{Absent, Kept, New, Changed}
use Rattle.block_pool.specs.declared.table.Table.{Table}
use Rattle.block_pool.proofs.Counts.{as_many, there}
use Rattle.block_pool.proofs.Parts.{is_part, part_below, part_inside, part_above}
use Rattle.block_pool.proofs.Replaced.{Replaces, same_contents}
use Rattle.block_pool.proofs.Moved.{Moves, sound_after}
use Rattle.block_pool.proofs.Claimed.{mark_after}
use Rattle.block_pool.proofs.Reached.{reached_one}

older_not_before : (s : Slot) (b : ℕ) → is_changed s ≡ true → (older s ≡ Some b → ⊥) → before s ≡ Some b → ⊥
older_not_before Absent b e f g = cc
older_not_before (Kept c) b e f g = cc
older_not_before (New c) b e f g = cc
older_not_before (Changed c d) b e f g = f g

-- The size of the memory is that in the table.
pub size_is : (t : Table) → size (pages_of t) ≡ t.size
size_is t = length-map (numbers 0 t.size) (byte_at t.pool t.slots.items present) ∙ length-numbers 0 t.size

-- The table with other bytes in a part of a block of the pool.
abbrev pub with_block : Table → (b : ℕ) → (old : List ℕ) → (offset : ℕ) → List ℕ → Table
with_block t b old offset new = record t { pool = with_bytes t.pool b (with_part old offset new) }

module _ (t : Table) (k b offset : ℕ) (new old : List ℕ) (sound : IsSound t) (inside : k < length t.slots.items) (named : present (slot_at t.slots.items k) ≡ Some b) (private : t.marked ≡ true → is_changed (slot_at t.slots.items k) ≡ true) (bytes : held t.pool b ≡ Some old)
    (whole : length old ≡ 4096) (fits : offset + length new ≤ 4096) where
  abbrev pool : Blocks
  pool = with_bytes t.pool b (with_part old offset new)

  abbrev s : Slot
  s = slot_at t.slots.items k

  held_here : held pool b ≡ Some (with_part old offset new)
  held_here = get_or-set_same t.pool.slots b (Some (with_part old offset new)) None (there t.pool.slots b old bytes)

  held_other : (c : ℕ) → c ≢ b → held pool c ≡ held t.pool c
  held_other c n = get_or-set_other t.pool.slots b c (Some (with_part old offset new)) None n

  as_used : used pool ≡ used t.pool
  as_used = as_many t.pool.slots b old (with_part old offset new) bytes

  named_here : NamesBlock s b
  named_here = inl named

  replaces : Replaces t.pool pool t.slots.items k s
  replaces = record {
    inside = inside;
    fresh = λ c n. inl n;
    live = λ c n. elim (cases_eq c b) [
      | inl e ↦ rw (e, held_here) refl
      | inr e ↦ let live : IsLive t.pool c = sound.owns.live k c n in rw (held_other c e) live
    ];
    others = λ c live n. held_other c (λ e. n (rw e named_here));
    apart = λ c e f. sound.owns.apart k c e f;
  }

  moves : Moves t (with_block t b old offset new) k s
  moves = record {
    replaces = replaces;
    slots = sym (set-get_or t.slots.items k Absent);
    size = refl;
    most = refl;
    numbers = refl;
    capacity = refl;
    written = refl;
    account = omega (arith, as_used);
    blocks = omega (arith, as_used);
    fits = sound.most;
    stays = λ j n h. h;
    listed = λ h. sound.listed k h;
    within = λ j h. inl h;
    few = omega arith;
    unmarked = sound.unmarked;
  }

  pub block_sound : IsSound (with_block t b old offset new)
  block_sound = sound_after t (with_block t b old offset new) k s sound moves

  mark_stays : (o : Option ℕ) → ((c : ℕ) → o ≡ Some c → c ≢ b) → (i : ℕ) → byte_in pool o i ≡ byte_in t.pool o i
  mark_stays None f i = refl
  mark_stays (Some c) f i = ap (λ o. slice_index (unwrap_or o []) i) (held_other c (f c refl))

  pub block_mark : (pages_of (with_block t b old offset new)).mark ≡ (pages_of t).mark
  block_mark =
      mark_after t (with_block t b old offset new) k s sound.owns moves refl (λ on. (
        (λ i h. mark_stays (before s) (λ c e f. older_not_before s b (private on) (λ g. sound.owns.apart k b named g) (rw f at e)) i),
        refl,
      ))

  pub block_blocks : (pages_of (with_block t b old offset new)).blocks ≡ (pages_of t).blocks
  block_blocks = omega (arith, as_used)

  byte_here : (at : ℕ) → at / 4096 ≡ k → byte_at pool t.slots.items present at ≡ slice_index (with_part old offset new) (at % 4096)
  byte_here at e = rw (e, named, held_here) refl

  byte_before : (at : ℕ) → at / 4096 ≡ k → byte_at t.pool t.slots.items present at ≡ slice_index old (at % 4096)
  byte_before at e = rw (e, named, bytes) refl

  byte_other : (at : ℕ) → at / 4096 ≢ k → byte_at pool t.slots.items present at ≡ byte_at t.pool t.slots.items present at
  byte_other at n = mark_stays (present (slot_at t.slots.items (at / 4096))) (λ c e f. n (sound.owns.once (at / 4096) k b (inl (e ∙ ap Some f)) named_here)) (at % 4096)

  fits_old : offset + length new ≤ length old
  fits_old = rw whole fits

  outside : (i : ℕ) → ((i / 4096 ≡ k) → slice_index (with_part old offset new) (i % 4096) ≡ slice_index old (i % 4096)) → byte_at pool t.slots.items present i ≡ byte_at t.pool t.slots.items present i
  outside i same =
      elim (cases_eq (i / 4096) k) [
        | inl e ↦ byte_here i e ∙ (same e ∙ sym (byte_before i e))
        | inr n ↦ byte_other i n
      ]

  covered : (i : ℕ) → 4096 * k + offset ≤ i → i < 4096 * k + offset + length new → byte_at pool t.slots.items present i ≡ slice_index new (i - (4096 * k + offset))
  covered i g h =
      byte_here i (omega arith)
      ∙ (part_inside old offset new fits_old (i % 4096) (omega arith) (omega arith)
      ∙ ap (slice_index new) (let e : i % 4096 - offset ≡ i - (4096 * k + offset) = omega arith in e))

  at_place : (f : ℕ → ℕ) (i : ℕ) → i < t.size → slice_index (map f (numbers 0 t.size)) i ≡ f i
  at_place f i h = map_numbers_index f 0 t.size i h ∙ ap f (zero-add i)

  many : (f : ℕ → ℕ) → length (map f (numbers 0 t.size)) ≡ t.size
  many f = length-map (numbers 0 t.size) f ∙ length-numbers 0 t.size

  pub block_bytes : 4096 * k + offset + length new ≤ t.size → (pages_of (with_block t b old offset new)).now.bytes ≡ with_part (pages_of t).now.bytes (4096 * k + offset) new
  block_bytes h =
      let f : ℕ → ℕ = byte_at t.pool t.slots.items present in
      let g : ℕ → ℕ = byte_at pool t.slots.items present in
      is_part (map f (numbers 0 t.size)) (4096 * k + offset) new (rw (many f) h) (map g (numbers 0 t.size)) (many g ∙ sym (many f))
      (λ i below. at_place g i (omega arith) ∙ (outside i (λ e. part_below old offset new fits_old (i % 4096) (omega arith)) ∙ sym (at_place f i (omega arith))))
      (λ i behind inside. at_place g i (omega arith) ∙ covered i behind inside)
      (λ i above inside.
      let small : i < t.size = rw (many f) at inside in
      at_place g i small ∙ (outside i (λ e. part_above old offset new fits_old (i % 4096) (omega arith)) ∙ sym (at_place f i small)))

-- A block is claimed and then written.
pub block_written : (t u : Table) (pool : Blocks) (k b offset : ℕ) (new : List ℕ) → IsSound u → Claims t u k → IsFixed t u → k < length u.slots.items → present (slot_at u.slots.items k) ≡ Some b → (u.marked ≡ true → is_changed (slot_at u.slots.items k) ≡ true) → WritesPart u.pool pool b offset new →
    0 < length new → offset + length new ≤ 4096 → 4096 * k + offset + length new ≤ u.size → IsSound (record u { pool = pool }) × WritesBytes (pages_of t) (pages_of (record u { pool = pool })) (4096 * k + offset) new
block_written t u pool k b offset new sound claims fixed inside named private w some within small =
    rw w.after (
      block_sound u k b offset new w.before sound inside named private w.there w.whole within,
      record {
        now = same_contents
            (block_bytes u k b offset new w.before sound inside named private w.there w.whole within small ∙ ap (λ xs. with_part xs (4096 * k + offset) new) claims.bytes)
            (claims.written ∙ reached_one k offset (length new) (map is_present t.slots.items) (rw (length-map t.slots.items is_present, ← fixed.slots) inside) some within);
        size = size_is (record u { pool = with_bytes u.pool b (with_part w.before offset new) }) ∙ (fixed.size ∙ sym (size_is t));
        flags = length-map u.slots.items is_present ∙ (fixed.slots ∙ sym (length-map t.slots.items is_present));
        mark = block_mark u k b offset new w.before sound inside named private w.there w.whole within ∙ claims.mark;
        most = fixed.most;
        blocks = block_blocks u k b offset new w.before sound inside named private w.there w.whole within ∙ claims.blocks;
      },
    )
