-- The frames of a file as parts of its bytes.
use Rattle.std.specs.Prelude.{◌≡◌, ℕ, ◌+◌, ◌<◌, ◌≤◌, List, [], ◌∷◌, ◌++◌, length, take, drop, map, get_or, Result, Ok, Err, Option, Some, None, ◌↔◌}
use Rattle.wasm_bytes.specs.declared.framing.Frame.{Frame as Place}
use Rattle.wasm_bytes.specs.declared.framing.FrameFault.{FrameFault}
use Rattle.wasm_bytes.specs.declared.framing.FrameFault.TheVariants.{NotModule, BadFrame, NoMemory}
use Rattle.wasm_bytes.specs.Joins.{U32}
use Rattle.wasm_bytes.specs.Reading.{IsBytes}
use Rattle.wasm_bytes.specs.Frames.{Section, HasHeader, Framed, FirstBad, frame_at, frames_at, or_number}

-- The section that a frame is in the bytes: its id and its content.
abbrev pub framed : List ℕ → Place → Section
framed bytes f = (f.id, take f.len (drop f.start bytes))

abbrev pub framed_all : List ℕ → List Place → List Section
framed_all bytes fs = map (framed bytes) fs

abbrev pub GivesFrame : List ℕ → ℕ → ℕ → Option Place → Type 0
GivesFrame bytes last at (Some f) = frame_at last (drop at bytes) ≡ Ok (framed bytes f, drop (f.start + f.len) bytes)
GivesFrame bytes last at None = (n : ℕ) → or_number n (frame_at last (drop at bytes)) ≡ Err n

-- At `at` the bytes have the frame: its id, its size, and then its content.
abbrev pub StandsAt : List ℕ → ℕ → Place → Type 0
StandsAt bytes at f = (size : List ℕ) × U32 size f.len × (drop at bytes ≡ f.id ∷ (size ++ drop f.start bytes)) × (f.start ≡ at + 1 + length size)

-- The frames follow one another from `at` to `end`.
abbrev pub Stand : List ℕ → ℕ → List Place → ℕ → Type 0
Stand bytes at [] end = at ≡ end
Stand bytes at (f ∷ fs) end = StandsAt bytes at f × Stand bytes (f.start + f.len) fs end

-- What is read behind the header.
abbrev pub frames_behind : List ℕ → Result (List Section) ℕ
frames_behind bytes = frames_at (length bytes) 0 0 (drop 8 bytes)

-- What is read behind the header is how the file is framed.
pub record FramesAreRead : Type 0 where
  -- If sections are read, the file is framed as these sections.
  pub sound : (bytes : List ℕ) (ss : List Section) → IsBytes bytes → HasHeader bytes → frames_behind bytes ≡ Ok ss → Framed bytes ss
  -- If a file is framed as sections, these are read.
  pub complete : (bytes : List ℕ) (ss : List Section) → Framed bytes ss → frames_behind bytes ≡ Ok ss
  -- The number that is read instead is that of the first bad frame.
  pub bad : (bytes : List ℕ) (n : ℕ) → IsBytes bytes → HasHeader bytes → (frames_behind bytes ≡ Err n) ↔ FirstBad bytes n

-- The program's result is what is read behind the header, unless memory runs out.
abbrev pub GivesFrames : List ℕ → Result (List Place) FrameFault → Type 0
GivesFrames bytes (Ok fs) = frames_behind bytes ≡ Ok (framed_all bytes fs)
GivesFrames bytes (Err NotModule) = ⊥
GivesFrames bytes (Err (BadFrame n)) = frames_behind bytes ≡ Err n
GivesFrames bytes (Err NoMemory) = Unit {0}

abbrev pub in_front : {A E : Type 0} → List A → Result (List A) E → Result (List A) E
in_front front (Ok xs) = Ok (front ++ xs)
in_front front (Err e) = Err e

-- Each frame is within the bytes.
abbrev pub Whole : List ℕ → List Place → Type 0
Whole bytes fs = (i : ℕ) → i < length fs → (f : Place) → f ≡ get_or fs i f → f.start + f.len ≤ length bytes

-- Each frame is within the bytes, and there are no more frames than bytes.
pub record Inside (bytes : List ℕ) (fs : List Place) : Type 0 where
  pub few : length fs ≤ length bytes
  pub each : Whole bytes fs
