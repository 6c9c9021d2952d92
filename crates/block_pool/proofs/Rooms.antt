-- Room for a number of bytes, and the state of a write in several steps.
use Rattle.std.proofs.Common.{◌≡◌, ℕ, zero, suc, ◌+◌, ◌-◌, ◌*◌, ◌/◌, ◌<◌, ◌≤◌, List, [], ◌∷◌, ◌++◌, length, map, Bool, true, false, ◌||◌, slice_index_or, count_by, refl, sym, ap, ap₂, ◌∙◌, arith, zero-add, take, drop, length-take-le, length-drop}
use Rattle.std.proofs.lemmas.List.{length-map}
use Rattle.block_pool.specs.Pages.{Pages, WritesBytes, HasRoomFor, reaches, with_reached}
use Rattle.block_pool.specs.Table.{is_present, slot_at, pages_of, IsSound, IsFixed}
use Rattle.block_pool.specs.declared.table.Slot.{Slot}
use Rattle.block_pool.specs.declared.table.Slot.TheVariants.{Absent}
use Rattle.block_pool.specs.declared.table.Table.{Table}
use Rattle.block_pool.proofs.Counts.{flag, count_step}
use Rattle.block_pool.proofs.Reached.{reaches_yes}
use Rattle.block_pool.proofs.Joined.{Reaches, reaches_is, reaches_from, writes_nothing, joined}
use Rattle.block_pool.proofs.Plain.{written_is, fixed_self, fixed_on}
use Rattle.block_pool.proofs.Written.{size_is}

abbrev pub count : List Bool → ℕ
count ws = count_by (λ w. w) ws

flag_or : (a b : Bool) → flag a ≤ flag (a || b)
flag_or true b = omega arith
flag_or false b = omega arith

reached_more : (at n j : ℕ) (ws : List Bool) → count ws ≤ count (with_reached at n j ws)
reached_more at n j [] = omega arith
reached_more at n j (w ∷ ws) =
    omega (arith, count_step (λ b. b) w ws, count_step (λ b. b) (w || reaches at n j) (with_reached at n (suc j) ws), flag_or w (reaches at n j), reached_more at n (suc j) ws)

reached_fewer : (at n j : ℕ) (ws : List Bool) (k : ℕ) → k < length ws → slice_index_or ws k false ≡ false → reaches at n (j + k) ≡ true → count ws < count (with_reached at n j ws)
reached_fewer at n j [] k i e r = absurd (omega arith)
reached_fewer at n j (w ∷ ws) zero i e r =
    let here : flag w ≡ 0 = ap flag e in
    let there : flag (w || reaches at n j) ≡ 1 = rw e (ap flag (ap (reaches at n) (let f : j ≡ j + 0 = omega arith in f) ∙ r)) in
    omega (arith, count_step (λ b. b) w ws, count_step (λ b. b) (w || reaches at n j) (with_reached at n (suc j) ws), here, there, reached_more at n (suc j) ws)
reached_fewer at n j (w ∷ ws) (suc k) i e r =
    omega (arith, count_step (λ b. b) w ws, count_step (λ b. b) (w || reaches at n j) (with_reached at n (suc j) ws), flag_or w (reaches at n j), reached_fewer at n (suc j) ws k (omega arith) e (ap (reaches at n) (let f : suc j + k ≡ j + suc k = omega arith in f) ∙ r))

again : (w a b : Bool) → (a ≡ true → b ≡ true) → ((w || a) || b) ≡ (w || b)
again true a b h = refl
again false true b h = sym (h refl)
again false false b h = refl

-- A range reaches the blocks that a part of it reaches.
pub reached_again : (at n a m j : ℕ) → ((k : ℕ) → reaches a m k ≡ true → reaches at n k ≡ true) → (ws : List Bool) → with_reached at n j (with_reached a m j ws) ≡ with_reached at n j ws
reached_again at n a m j h [] = refl
reached_again at n a m j h (w ∷ ws) = ap₂ (λ b bs. b ∷ bs) (again w (reaches a m j) (reaches at n j) (h j)) (reached_again at n a m (suc j) h ws)

pub reaches_part : (at n a m : ℕ) → at ≤ a → a + m ≤ at + n → (k : ℕ) → reaches a m k ≡ true → reaches at n k ≡ true
reaches_part at n a m f g k h =
    let r : Reaches a m k = reaches_is a m k h in
    let s : 0 < m = r.some in
    let b : a < 4096 * k + 4096 = r.before in
    let c : 4096 * k < a + m = r.behind in
    reaches_from at n k (record { some = omega arith; before = omega arith; behind = omega arith })

pub fits_still : (p q : Pages) (at n a : ℕ) (ys : List ℕ) → WritesBytes p q a ys → at ≤ a → a + length ys ≤ at + n → HasRoomFor p at n → HasRoomFor q at n
fits_still p q at n a ys w f g fits =
    rw (w.now, w.most, reached_again at n a (length ys) 0 (reaches_part at n a (length ys) f g) p.now.written) fits

pub map_there : (xs : List Slot) (k : ℕ) → k < length xs → slice_index_or (map is_present xs) k false ≡ is_present (slot_at xs k)
map_there [] k h = absurd (omega arith)
map_there (x ∷ xs) zero h = refl
map_there (x ∷ xs) (suc k) h = map_there xs k (omega arith)

pub room_for : (t : Table) (at n k : ℕ) → IsSound t → HasRoomFor (pages_of t) at n → k < length t.slots.items → slot_at t.slots.items k ≡ Absent → reaches at n k ≡ true → t.written < t.most
room_for t at n k sound fits inside absent r =
    let unwritten : slice_index_or (map is_present t.slots.items) k false ≡ false = map_there t.slots.items k inside ∙ ap is_present absent in
    let f : count (map is_present t.slots.items) < count (with_reached at n 0 (map is_present t.slots.items)) = reached_fewer at n 0 (map is_present t.slots.items) k (rw (length-map t.slots.items is_present) inside) unwritten (ap (reaches at n) (zero-add k) ∙ r) in
    let g : count (map is_present t.slots.items) ≡ t.written = written_is t sound in
    let h : count (with_reached at n 0 (map is_present t.slots.items)) ≤ t.most = fits in
    omega arith

-- The state of a write in several steps: these bytes are written.
pub record Puts (start t : Table) (at : ℕ) (bytes : List ℕ) : Type 0 where
  pub sound : IsSound t
  pub writes : WritesBytes (pages_of start) (pages_of t) at bytes
  pub fixed : IsFixed start t

pub puts_nothing : (t : Table) (at : ℕ) → IsSound t → Puts t t at []
puts_nothing t at sound = record { sound = sound; writes = writes_nothing (pages_of t) at; fixed = fixed_self t }

pub puts_on : (start t u : Table) (at place : ℕ) (ys zs : List ℕ) → Puts start t at ys → place ≡ at + length ys → at + length ys + length zs ≤ start.size → IsSound u → IsFixed t u → WritesBytes (pages_of t) (pages_of u) place zs → Puts start u at (ys ++ zs)
puts_on start t u at place ys zs p e inside sound fixed w = record {
  sound = sound;
  writes = joined (pages_of start) (pages_of t) (pages_of u) at ys zs (rw (size_is start) inside) p.writes (rw e at w);
  fixed = fixed_on start t u p.fixed fixed;
}

-- A write in several steps has room for its next bytes.
pub puts_room : (start t : Table) (at n place m : ℕ) (a : ℕ) (ys : List ℕ) → IsSound t → WritesBytes (pages_of start) (pages_of t) a ys → HasRoomFor (pages_of start) at n → at ≤ a → a + length ys ≤ at + n → at ≤ place → place + m ≤ at + n → 0 < m → at + n ≤ t.size →
    slot_at t.slots.items (place / 4096) ≡ Absent → t.written < t.most
puts_room start t at n place m a ys sound w fits f g h i some small absent =
    room_for t at n (place / 4096) sound (fits_still (pages_of start) (pages_of t) at n a ys w f g fits) (rw sound.slots (omega arith)) absent
    (reaches_yes at n (place / 4096) (omega arith) (omega arith) (omega arith))

-- The next bytes of a list that is written in pieces.
pub next_piece : (xs : List ℕ) (d n : ℕ) → take (d + n - d) (drop d xs) ≡ take n (drop d xs)
next_piece xs d n = ap (λ m. take m (drop d xs)) (let e : d + n - d ≡ n = omega arith in e)

pub piece_size : (xs : List ℕ) (d n : ℕ) → d + n ≤ length xs → length (take n (drop d xs)) ≡ n
piece_size xs d n h = length-take-le n (drop d xs) (simp length-drop (omega arith))

-- The bytes that were written had room.
pub written_fits : (t u : Table) (at : ℕ) (bytes : List ℕ) → IsSound u → WritesBytes (pages_of t) (pages_of u) at bytes → HasRoomFor (pages_of t) at (length bytes)
written_fits t u at bytes sound w =
    let many : count (with_reached at (length bytes) 0 (map is_present t.slots.items)) ≡ u.written = ap (λ c. count c.written) (sym w.now) ∙ written_is u sound in
    let most : u.most ≡ t.most = w.most in
    let below : u.written ≤ u.most = sound.most in
    omega arith
