-- The sections of a file, in order (Core 2.0, 5.5.2 and 5.5.16).
use Rattle.std.specs.Prelude.{◌≡◌, ◌≢◌, ℕ, zero, suc, ◌+◌, List, [], ◌∷◌, ◌++◌, length, take, Bool, true, Result, Ok, Err, IsTrue, nat_lt, nat_le, ◌==◌, ◌&&◌, if◌then◌else◌}
use Rattle.wasm_bytes.specs.declared.cursor.Wrong.{Wrong}
use Rattle.wasm_bytes.specs.declared.cursor.Wrong.TheVariants.{Short, Spelling}
use Rattle.wasm_bytes.specs.Reading.{◌>>=◌, sized_at}
use Rattle.wasm_bytes.specs.Joins.{Then, Sized}

-- A section: its id and its content.
abbrev pub Section : Type 0
Section = ℕ × List ℕ

-- The magic number and the version.
abbrev pub header : List ℕ
header = 0x00 ∷ 0x61 ∷ 0x73 ∷ 0x6D ∷ 0x01 ∷ 0x00 ∷ 0x00 ∷ 0x00 ∷ []

-- The first eight bytes are the header.
abbrev pub HasHeader : List ℕ → Type 0
HasHeader bytes = take 8 bytes ≡ header

-- ---- frames

-- The position of a section id in the order 1 to 9, 12, 10, 11.
abbrev pub section_order : ℕ → ℕ
section_order id = if id == 12 then 10 else (if nat_lt 9 id then id + 1 else id)

-- Whether a section with this id may follow when `last` is the position of the last section that is
-- not custom (0: none).
abbrev pub may_follow : ℕ → ℕ → Bool
may_follow last id = if id == 0 then true else (nat_le id 12 && nat_lt last (section_order id))

-- The position of the last section that is not custom, after this one.
abbrev pub order_after : ℕ → ℕ → ℕ
order_after last id = if id == 0 then last else section_order id

-- The bytes are the frame of a section that may follow: its id, size and content.
abbrev pub SectionFrame : ℕ → List ℕ → Section → Type 0
SectionFrame last bytes s = IsTrue (may_follow last s.0) × ((sized : List ℕ) × Sized sized s.1 × (bytes ≡ s.0 ∷ sized))

-- The bytes are frames of these sections, each of which may follow those before it.
abbrev pub Frames : ℕ → List ℕ → List Section → Type 0
Frames last bytes [] = bytes ≡ []
Frames last bytes (s ∷ ss) = Then (λ b. SectionFrame last b s) (λ b. Frames (order_after last s.0) b ss) bytes

-- The bytes are a file with these sections.
abbrev pub Framed : List ℕ → List Section → Type 0
Framed bytes ss = Then (λ b. b ≡ header) (λ b. Frames 0 b ss) bytes

-- The position of the last section that is not custom, after these sections.
abbrev pub last_of : ℕ → List Section → ℕ
last_of last [] = last
last_of last (s ∷ ss) = last_of (order_after last s.0) ss

-- After `n` good frames come bytes that do not begin with a frame that may follow.
abbrev pub FirstBadFrame : ℕ → List ℕ → ℕ → Type 0
FirstBadFrame last bytes n = (ss : List Section) × (front : List ℕ) × (back : List ℕ) × Frames last front ss × (length ss ≡ n) × (bytes ≡ front ++ back)
    × (back ≢ []) × ((s : Section) (text : List ℕ) (rest : List ℕ) → SectionFrame (last_of last ss) text s → back ≡ text ++ rest → ⊥)

-- After the header come `n` good frames, and then a bad one.
abbrev pub FirstBad : List ℕ → ℕ → Type 0
FirstBad bytes n = Then (λ b. b ≡ header) (λ b. FirstBadFrame 0 b n) bytes

-- ---- reading frames

unfoldable pub frame_at : ℕ → List ℕ → Result (Section × List ℕ) Wrong
frame_at last [] = Err Short
frame_at last (id ∷ bs) = if may_follow last id then (sized_at bs >>= (λ s. Ok ((id, s.0), s.1))) else Err Spelling

abbrev pub before : {A E : Type 0} → A → Result (List A) E → Result (List A) E
before x (Ok xs) = Ok (x ∷ xs)
before x (Err e) = Err e

abbrev pub or_number : {A E : Type 0} → ℕ → Result A E → Result A ℕ
or_number n (Ok x) = Ok x
or_number n (Err e) = Err n

-- The sections, or the number of the first bad frame, counted from `n`. `fuel` is at least the
-- number of bytes.
unfoldable pub frames_at : ℕ → ℕ → ℕ → List ℕ → Result (List Section) ℕ
frames_at fuel last n [] = Ok []
frames_at zero last n (b ∷ bs) = Err n
frames_at (suc fuel) last n (b ∷ bs) = or_number n (frame_at last (b ∷ bs)) >>= (λ s. before s.0 (frames_at fuel (order_after last s.0.0) (n + 1) s.1))
