-- The bytes that are read while a memory is copied within itself.
use Rattle.std.proofs.Common.{◌≡◌, ℕ, ◌+◌, ◌-◌, ◌<◌, ◌≤◌, List, ◌++◌, length, slice_index, sym, ap, subst, ◌∙◌, arith}
use Rattle.block_pool.specs.Blocks.{with_part}
use Rattle.block_pool.specs.Pages.{Pages, WritesBytes, part, size}
use Rattle.block_pool.specs.Table.{pages_of, IsSound, IsFixed}
use Rattle.block_pool.specs.declared.table.Table.{Table}
use Rattle.block_pool.proofs.Parts.{part_below, part_above}
use Rattle.block_pool.proofs.Reading.{part_at, part_is, part_size, part_joined}
use Rattle.block_pool.proofs.Joined.{joined_back}
use Rattle.block_pool.proofs.Plain.{fixed_on}
use Rattle.block_pool.proofs.Written.{size_is}
use Rattle.block_pool.proofs.Rooms.{Puts, puts_on}

part_same : (xs ys : List ℕ) (at n : ℕ) → at + n ≤ length xs → at + n ≤ length ys → ((i : ℕ) → at ≤ i → i < at + n → slice_index xs i ≡ slice_index ys i) → part xs at n ≡ part ys at n
part_same xs ys at n f g same = part_is (part xs at n) ys at n g (part_size xs at n f) (λ i h. part_at xs at n i h ∙ same (at + i) (omega arith) (omega arith))

module _ (p q : Pages) (to : ℕ) (ys : List ℕ) (w : WritesBytes p q to ys) (fits : to + length ys ≤ size p) (a n : ℕ) (inside : a + n ≤ size p) where
  after_size : a + n ≤ length q.now.bytes
  after_size = rw w.size inside

  same_at : (i : ℕ) → slice_index q.now.bytes i ≡ slice_index (with_part p.now.bytes to ys) i
  same_at i = ap (λ c. slice_index c.bytes i) w.now

  -- The bytes after those that were written, and the bytes before them, are unchanged.
  pub behind : to + length ys ≤ a → part q.now.bytes a n ≡ part p.now.bytes a n
  behind h = part_same q.now.bytes p.now.bytes a n after_size inside (λ i f g. same_at i ∙ part_above p.now.bytes to ys fits i (omega arith))

  pub ahead : a + n ≤ to → part q.now.bytes a n ≡ part p.now.bytes a n
  ahead h = part_same q.now.bytes p.now.bytes a n after_size inside (λ i f g. same_at i ∙ part_below p.now.bytes to ys fits i (omega arith))

abbrev bytes_of : Table → List ℕ
bytes_of t = (pages_of t).now.bytes

bytes_many : (t : Table) → length (bytes_of t) ≡ t.size
bytes_many t = size_is t

module _ (start t u : Table) (to from done n : ℕ) (sound : IsSound u) (fixed : IsFixed t u) where
  pub forward_on : Puts start t to (part (bytes_of start) from done) → to ≤ from → from + done + n ≤ start.size → WritesBytes (pages_of t) (pages_of u) (to + done) (part (bytes_of t) (from + done) n) → Puts start u to (part (bytes_of start) from (done + n))
  forward_on p order inside w =
      let b : List ℕ = bytes_of start in
      let many : length b ≡ start.size = bytes_many start in
      let first : length (part b from done) ≡ done = part_size b from done (omega arith) in
      let second : length (part b (from + done) n) ≡ n = part_size b (from + done) n (omega arith) in
      let read : part (bytes_of t) (from + done) n ≡ part b (from + done) n = behind (pages_of start) (pages_of t) to (part b from done) p.writes (omega arith) (from + done) n (omega arith) (omega arith) in
      subst (λ (xs : List ℕ). Puts start u to xs) (part_joined b from done n (omega arith)) (
      puts_on start t u to (to + done) (part b from done) (part b (from + done) n) p (ap (λ k. to + k) (sym first)) (omega arith) sound fixed
      (subst (λ (xs : List ℕ). WritesBytes (pages_of t) (pages_of u) (to + done) xs) read w))

-- A copy from the last byte to the first, with `left` bytes left.
module _ (start t u : Table) (to from count left n : ℕ) (sound : IsSound u) (fixed : IsFixed t u) where
  pub backward_on : Puts start t (to + left) (part (bytes_of start) (from + left) (count - left)) → from < to → to + count ≤ start.size → left ≤ count → n ≤ left → WritesBytes (pages_of t) (pages_of u) (to + left - n) (part (bytes_of t) (from + left - n) n) →
      Puts start u (to + (left - n)) (part (bytes_of start) (from + (left - n)) (count - (left - n)))
  backward_on p order inside small some w =
      let b : List ℕ = bytes_of start in
      let many : length b ≡ start.size = bytes_many start in
      let rest : length (part b (from + left) (count - left)) ≡ count - left = part_size b (from + left) (count - left) (omega arith) in
      let piece : length (part b (from + (left - n)) n) ≡ n = part_size b (from + (left - n)) n (omega arith) in
      let place : to + left - n ≡ to + (left - n) = omega arith in
      let source : from + left - n ≡ from + (left - n) = omega arith in
      let next : from + (left - n) + n ≡ from + left = omega arith in
      let read : part (bytes_of t) (from + left - n) n ≡ part b (from + (left - n)) n =
      ap (λ a. part (bytes_of t) a n) source ∙ ahead (pages_of start) (pages_of t) (to + left) (part b (from + left) (count - left)) p.writes (omega arith) (from + (left - n)) n (omega arith) (omega arith) in
      let written : WritesBytes (pages_of t) (pages_of u) (to + (left - n)) (part b (from + (left - n)) n) =
      subst (λ (xs : List ℕ). WritesBytes (pages_of t) (pages_of u) (to + (left - n)) xs) read (subst (λ (a : ℕ). WritesBytes (pages_of t) (pages_of u) a (part (bytes_of t) (from + left - n) n)) place w) in
      let there : to + left ≡ to + (left - n) + length (part b (from + (left - n)) n) = omega arith in
      let whole : part b (from + (left - n)) n ++ part b (from + left) (count - left) ≡ part b (from + (left - n)) (count - (left - n)) =
      ap (λ a. part b (from + (left - n)) n ++ part b a (count - left)) (sym next) ∙ (part_joined b (from + (left - n)) n (count - left) (omega arith) ∙ ap (part b (from + (left - n))) (let e : n + (count - left) ≡ count - (left - n) = omega arith in e)) in
      record {
        sound = sound;
        writes = subst (λ (xs : List ℕ). WritesBytes (pages_of start) (pages_of u) (to + (left - n)) xs) whole (
            joined_back (pages_of start) (pages_of t) (pages_of u) (to + (left - n)) (part b (from + (left - n)) n) (part b (from + left) (count - left)) (omega arith)
            (subst (λ (a : ℕ). WritesBytes (pages_of start) (pages_of t) a (part b (from + left) (count - left))) there p.writes) written);
        fixed = fixed_on start t u p.fixed fixed;
      }
