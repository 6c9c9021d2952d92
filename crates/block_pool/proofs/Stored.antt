-- Bytes are written from an address on within one block.
use Rattle.base_lists.proofs.Common.{◌≡◌, ℕ, zero, suc, ◌+◌, ◌*◌, ◌/◌, ◌%◌, ◌<◌, ◌≤◌, List, length, true, Option, Some, is_some, slice_index_or, refl, sym, ap, ◌∙◌, subst, arith, get_or_default}
use Rattle.block_pool.specs.Blocks.{Blocks, WritesPart}
use Rattle.block_pool.specs.Pages.{WritesBytes, little_bytes}
use Rattle.block_pool.specs.Table.{present, is_changed, slot_at, pages_of, IsSound, IsFixed, Claims}
use Rattle.block_pool.specs.declared.table.Slot.{Slot}
use Rattle.block_pool.specs.declared.table.Slot.TheVariants.{Absent}
use Rattle.block_pool.specs.declared.table.Table.{Table}
use Rattle.block_pool.proofs.Claimed.{claimed_already}
use Rattle.block_pool.proofs.Plain.{fixed_self}
use Rattle.block_pool.proofs.Written.{block_written}

-- A slot that is read from the table names the block of the slot at this position.
pub read_present : (xs : List Slot) (n : ℕ) (r : Slot) (o : Option ℕ) → n < length xs → r ≡ slice_index_or xs n r → o ≡ present r → present (slot_at xs n) ≡ o
read_present xs n r o h e f = ap present (get_or_default xs n Absent r h ∙ sym e) ∙ sym f

pub little_bytes_size : (n v : ℕ) → length (little_bytes n v) ≡ n
little_bytes_size zero v = refl
little_bytes_size (suc n) v = ap suc (little_bytes_size n (v / 256))

-- A block is claimed and then written.
pub written_at : (t u : Table) (pool : Blocks) (at b : ℕ) (new : List ℕ) → IsSound u → Claims t u (at / 4096) → IsFixed t u → present (slot_at u.slots.items (at / 4096)) ≡ Some b → (u.marked ≡ true → is_changed (slot_at u.slots.items (at / 4096)) ≡ true) → WritesPart u.pool pool b (at % 4096) new →
    0 < length new → at % 4096 + length new ≤ 4096 → at + length new ≤ u.size → IsSound (record u { pool = pool }) × WritesBytes (pages_of t) (pages_of (record u { pool = pool })) at new
written_at t u pool at b new sound claims fixed named private w some within small =
    let place : 4096 * (at / 4096) + at % 4096 ≡ at = omega arith in
    let inside : at / 4096 < length u.slots.items = rw sound.slots (omega arith) in
    let both = block_written t u pool (at / 4096) b (at % 4096) new sound claims fixed inside named private w some within (omega arith) in
    (both.0, subst (λ (a : ℕ). WritesBytes (pages_of t) (pages_of (record u { pool = pool })) a new) place both.1)

-- A block that may be written as it is needs no claim.
pub written_ready : (t : Table) (pool : Blocks) (at b : ℕ) (new : List ℕ) → IsSound t → present (slot_at t.slots.items (at / 4096)) ≡ Some b → (t.marked ≡ true → is_changed (slot_at t.slots.items (at / 4096)) ≡ true) → WritesPart t.pool pool b (at % 4096) new → 0 < length new →
    at % 4096 + length new ≤ 4096 → at + length new ≤ t.size → IsSound (record t { pool = pool }) × WritesBytes (pages_of t) (pages_of (record t { pool = pool })) at new
written_ready t pool at b new sound named private w some within small =
    written_at t t pool at b new sound (claimed_already t (at / 4096) (slot_at t.slots.items (at / 4096)) refl (ap is_some named)) (fixed_self t) named private w some within small
