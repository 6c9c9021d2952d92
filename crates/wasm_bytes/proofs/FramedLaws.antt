-- The frames that are read behind the header are those of the whole file.
use Rattle.std.proofs.Common.{◌≡◌, ℕ, ◌≤◌, List, ◌++◌, length, drop, Result, Ok, Err, IfOk, ◌⊎◌, inl, inr, refl, sym, ap, ◌∙◌, subst, arith, length-append, length-drop}
use Rattle.std.specs.Prelude.{IsOkAnd}
use Rattle.wasm_bytes.specs.declared.framing.Frame.{Frame as Place}
use Rattle.wasm_bytes.specs.declared.framing.FrameFault.{FrameFault}
use Rattle.wasm_bytes.specs.declared.framing.FrameFault.TheVariants.{NotModule, BadFrame, NoMemory}
use Rattle.wasm_bytes.specs.Reading.{IsBytes}
use Rattle.wasm_bytes.specs.Frames.{Section, header, HasHeader, Framed, FirstBad, frames_at}
use Rattle.wasm_bytes.specs.FrameViews.{framed_all, frames_behind, FramesAreRead, GivesFrames}
use Rattle.wasm_bytes.proofs.Lists.{halves, bytes_drop}
use Rattle.wasm_bytes.proofs.FrameLaws.{frames_sound, frames_complete, bad_sound, bad_complete}

header_split : (bytes : List ℕ) → HasHeader bytes → bytes ≡ header ++ drop 8 bytes
header_split bytes h = halves 8 bytes ∙ ap (λ t. t ++ drop 8 bytes) h

-- The bytes behind the header are the rest of the file.
behind : (bytes front back : List ℕ) → front ≡ header → bytes ≡ front ++ back → (drop 8 bytes ≡ back) × (length back ≤ length bytes)
behind bytes front back h e =
    let whole : bytes ≡ header ++ back = e ∙ ap (λ t. t ++ back) h in
    (ap (drop 8) whole, omega (arith, ap length whole, length-append header back))

read_framed : (bytes : List ℕ) (ss : List Section) → IsBytes bytes → HasHeader bytes → frames_behind bytes ≡ Ok ss → Framed bytes ss
read_framed bytes ss small h e = (header, drop 8 bytes, refl, frames_sound (length bytes) 0 0 (drop 8 bytes) ss (bytes_drop 8 bytes small) e, header_split bytes h)

pub found : (bytes : List ℕ) (r : Result (List Place) FrameFault) → IsBytes bytes → HasHeader bytes → GivesFrames bytes r → IfOk r (λ fs. Framed bytes (framed_all bytes fs))
found bytes (Ok fs) small h g = read_framed bytes (framed_all bytes fs) small h g
found bytes (Err e) small h g = tt

read_of_framed : (bytes : List ℕ) (ss : List Section) → Framed bytes ss → frames_behind bytes ≡ Ok ss
read_of_framed bytes ss f =
    let b = behind bytes f.0 f.1 f.2 f.4 in
    ap (frames_at (length bytes) 0 0) b.0 ∙ frames_complete (length bytes) 0 0 f.1 ss b.1 f.3

pub only : (bytes : List ℕ) (r : Result (List Place) FrameFault) → GivesFrames bytes r → (ss : List Section) → Framed bytes ss → (r ≡ Err NoMemory) ⊎ IsOkAnd r (λ fs. framed_all bytes fs ≡ ss)
only bytes (Ok fs) g ss f = inr (let k = sym g ∙ read_of_framed bytes ss f in let same : framed_all bytes fs ≡ ss = cc in same)
only bytes (Err NotModule) g ss f = absurd g
only bytes (Err (BadFrame n)) g ss f = absurd (let k = sym g ∙ read_of_framed bytes ss f in cc)
only bytes (Err NoMemory) g ss f = inl refl

bad_read : (bytes : List ℕ) (n : ℕ) → IsBytes bytes → HasHeader bytes → frames_behind bytes ≡ Err n → FirstBad bytes n
bad_read bytes n small h e =
    let b = bad_sound (length bytes) 0 0 n (drop 8 bytes) (omega (arith, length-drop 8 bytes)) (bytes_drop 8 bytes small) e in
    let same : b.0 ≡ n = omega (arith, b.1) in
    subst (FirstBad bytes) same (header, drop 8 bytes, refl, b.2, header_split bytes h)

pub bad : (bytes : List ℕ) (r : Result (List Place) FrameFault) → IsBytes bytes → HasHeader bytes → GivesFrames bytes r → (n : ℕ) → r ≡ Err (BadFrame n) → FirstBad bytes n
bad bytes (Ok fs) small h g n e = cc
bad bytes (Err NotModule) small h g n e = absurd g
bad bytes (Err (BadFrame m)) small h g n e = let same : BadFrame m ≡ BadFrame n = cc in let k : m ≡ n = cc in subst (FirstBad bytes) k (bad_read bytes m small h g)
bad bytes (Err NoMemory) small h g n e = cc

read_of_bad : (bytes : List ℕ) (n : ℕ) → IsBytes bytes → FirstBad bytes n → frames_behind bytes ≡ Err n
read_of_bad bytes n small f =
    let b = behind bytes f.0 f.1 f.2 f.4 in
    let w = f.3 in
    ap (frames_at (length bytes) 0 0) b.0 ∙ bad_complete (length bytes) 0 0 n f.1 w.0 w.1 w.2 b.1 (subst IsBytes b.0 (bytes_drop 8 bytes small)) w.3 w.4 w.5 w.6 w.7 ∙ ap Err (omega arith)

pub only_bad : (bytes : List ℕ) (r : Result (List Place) FrameFault) → IsBytes bytes → GivesFrames bytes r → (n : ℕ) → FirstBad bytes n → (r ≡ Err NoMemory) ⊎ (r ≡ Err (BadFrame n))
only_bad bytes (Ok fs) small g n f = absurd (let k = sym g ∙ read_of_bad bytes n small f in cc)
only_bad bytes (Err NotModule) small g n f = absurd g
only_bad bytes (Err (BadFrame m)) small g n f = inr (let k = sym g ∙ read_of_bad bytes n small f in let same : m ≡ n = cc in ap (λ i. Err (BadFrame i)) same)
only_bad bytes (Err NoMemory) small g n f = inl refl

pub frames_read : FramesAreRead
frames_read = record { sound = read_framed; complete = read_of_framed; bad = λ bytes n small h. (bad_read bytes n small h, read_of_bad bytes n small) }
