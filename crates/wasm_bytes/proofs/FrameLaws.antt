-- The frames that are read are those of the file, and the frame reported as bad is the first bad
-- one.
use Rattle.std.proofs.Common.{◌≡◌, ◌≢◌, ℕ, zero, suc, ◌+◌, ◌<◌, ◌≤◌, List, [], ◌∷◌, ◌++◌, length, Result, Ok, Err, Bool, true, false, cond, ◌⊎◌, inl, inr, ⊎_elim, refl, sym, ap, ◌∙◌, subst, arith, append_assoc, length-append}
use Rattle.std.specs.Prelude.{IsTrue}
use Rattle.wasm_bytes.specs.declared.cursor.Wrong.{Wrong}
use Rattle.wasm_bytes.specs.declared.cursor.Wrong.TheVariants.{Spelling}
use Rattle.wasm_bytes.specs.Reading.{◌>>=◌, IsBytes, sized_at}
use Rattle.wasm_bytes.specs.Joins.{TakesOff}
use Rattle.wasm_bytes.specs.Frames.{Section, may_follow, order_after, SectionFrame, Frames, last_of, FirstBadFrame, frame_at, before, or_number, frames_at}
use Rattle.wasm_bytes.proofs.Lists.{small_rest}
use Rattle.wasm_bytes.proofs.Sized.{sized_sound, sized_complete}
use Rattle.base_lists.proofs.Common.{bind_ok, ok_pair}

chosen : {A E : Type 0} (b : Bool) (r : Result A E) (e : E) (y : A) → cond b r (Err e) ≡ Ok y → IsTrue b × (r ≡ Ok y)
chosen true r e y h = (refl, h)
chosen false r e y h = cc

pub frame_sound : (last : ℕ) (bytes : List ℕ) (s : Section) (rest : List ℕ) → IsBytes bytes → frame_at last bytes ≡ Ok (s, rest) → TakesOff (λ t. SectionFrame last t s) bytes rest
unfolding frame_at
frame_sound last [] s rest small e = cc
frame_sound last (id ∷ bs) s rest small e =
    let c = chosen (may_follow last id) _ Spelling _ e in
    let z = bind_ok (sized_at bs) _ _ c.1 in
    let t = sized_sound bs z.0.0 z.0.1 (λ i. small (suc i)) z.1 in
    let p = ok_pair {E = Wrong} (id, z.0.0) s z.0.1 rest z.2 in
    subst (TakesOff (λ t. SectionFrame last t s) (id ∷ bs)) p.1 (subst (λ q. TakesOff (λ t. SectionFrame last t q) (id ∷ bs) z.0.1) p.0 (id ∷ t.0, (c.0, (t.0, t.1, refl)), ap (λ xs. id ∷ xs) t.2))

pub frame_complete : (last : ℕ) (text rest : List ℕ) (s : Section) → SectionFrame last text s → frame_at last (text ++ rest) ≡ Ok (s, rest)
unfolding frame_at
frame_complete last text rest s h = rw (ap (λ t. t ++ rest) h.1.2, h.0, sized_complete h.1.0 rest s.1 h.1.1)

before_ok : {A E : Type 0} (x : A) (r : Result (List A) E) (ys : List A) → before x r ≡ Ok ys → (xs : List A) × (r ≡ Ok xs) × (x ∷ xs ≡ ys)
before_ok x (Ok xs) ys e = let same : x ∷ xs ≡ ys = cc in (xs, refl, same)
before_ok x (Err w) ys e = cc

before_err : {A E : Type 0} (x : A) (r : Result (List A) E) (e : E) → before x r ≡ Err e → r ≡ Err e
before_err x (Ok xs) e h = cc
before_err x (Err w) e h = let same : w ≡ e = cc in ap Err same

number_ok : {A E : Type 0} (n : ℕ) (r : Result A E) (x : A) → or_number n r ≡ Ok x → r ≡ Ok x
number_ok n (Ok y) x e = let same : y ≡ x = cc in ap Ok same
number_ok n (Err w) x e = cc

pub frames_sound : (fuel last n : ℕ) (bytes : List ℕ) (ss : List Section) → IsBytes bytes → frames_at fuel last n bytes ≡ Ok ss → Frames last bytes ss
unfolding frames_at
frames_sound fuel last n [] ss small e = let same : [] ≡ ss = cc in subst (Frames last []) same refl
frames_sound zero last n (b ∷ bs) ss small e = cc
frames_sound (suc fuel) last n (b ∷ bs) ss small e =
    let s = bind_ok (or_number n (frame_at last (b ∷ bs))) _ _ e in
    let t = frame_sound last (b ∷ bs) s.0.0 s.0.1 small (number_ok n _ _ s.1) in
    let more = before_ok s.0.0 _ ss s.2 in
    let later = frames_sound fuel (order_after last s.0.0.0) (n + 1) s.0.1 more.0 (small_rest _ (b ∷ bs) s.0.1 small t) more.1 in
    subst (Frames last (b ∷ bs)) more.2 (t.0, s.0.1, t.1, later, t.2)

frame_long : (last : ℕ) (text : List ℕ) (s : Section) → SectionFrame last text s → 0 < length text
frame_long last text s h = rw h.1.2 (omega arith)

-- A good frame at the front is read, whatever bytes follow.
step_good : (fuel last n : ℕ) (text rest : List ℕ) (s : Section) → SectionFrame last text s → frames_at (suc fuel) last n (text ++ rest) ≡ before s (frames_at fuel (order_after last s.0) (n + 1) rest)
unfolding frames_at
step_good fuel last n [] rest s h = absurd (omega (arith, frame_long last [] s h))
step_good fuel last n (b ∷ bs) rest s h = rw (frame_complete last (b ∷ bs) rest s h)

pub frames_complete : (fuel last n : ℕ) (bytes : List ℕ) (ss : List Section) → length bytes ≤ fuel → Frames last bytes ss → frames_at fuel last n bytes ≡ Ok ss
unfolding frames_at
frames_complete fuel last n bytes [] enough h = rw h
frames_complete zero last n bytes (s ∷ ss) enough h = absurd (omega (arith, frame_long last h.0 s h.2, ap length h.4, length-append h.0 h.1))
frames_complete (suc fuel) last n bytes (s ∷ ss) enough h =
    rw (h.4, step_good fuel last n h.0 h.1 s h.2, frames_complete fuel (order_after last s.0) (n + 1) h.1 ss (omega (arith, frame_long last h.0 s h.2, ap length h.4, length-append h.0 h.1)) h.3)

-- ---- the first bad frame

number_err : {A E B : Type 0} (n m : ℕ) (r : Result A E) (f : A → Result B ℕ) → (or_number n r >>= f) ≡ Err m → ((e : E) × (r ≡ Err e) × (n ≡ m)) ⊎ ((x : A) × (r ≡ Ok x) × (f x ≡ Err m))
number_err n m (Ok x) f h = inr (x, refl, h)
number_err n m (Err w) f h = let same : n ≡ m = cc in inl (w, refl, same)

pub bad_sound : (fuel last n m : ℕ) (bytes : List ℕ) → length bytes ≤ fuel → IsBytes bytes → frames_at fuel last n bytes ≡ Err m → (k : ℕ) × (m ≡ n + k) × FirstBadFrame last bytes k
unfolding frames_at
bad_sound fuel last n m [] enough small e = cc
bad_sound zero last n m (b ∷ bs) enough small e = absurd (omega arith)
bad_sound (suc fuel) last n m (b ∷ bs) enough small e = ⊎_elim
    (λ h. (
      0,
      sym h.2 ∙ omega arith,
      (
        [],
        [],
        b ∷ bs,
        refl,
        refl,
        refl,
        (λ q. cc),
        λ s text rest f q. let good = frame_complete last text rest s f in let bad : frame_at last (b ∷ bs) ≡ Ok (s, rest) = ap (frame_at last) q ∙ good in let both = sym h.1 ∙ bad in cc,
      ),
    ))
    (λ h.
    let s = h.0 in
    let t = frame_sound last (b ∷ bs) s.0 s.1 small h.1 in
    let long = frame_long last t.0 s.0 t.1 in
    let less : length s.1 ≤ fuel = omega (arith, long, ap length t.2, length-append t.0 s.1) in
    let later = bad_sound fuel (order_after last s.0.0) (n + 1) m s.1 less (small_rest _ (b ∷ bs) s.1 small t) (before_err s.0 _ m h.2) in
    let w = later.2 in (
      suc later.0,
      later.1 ∙ omega arith,
      (
        s.0 ∷ w.0,
        t.0 ++ w.1,
        w.2,
        (t.0, w.1, t.1, w.3, refl),
        ap suc w.4,
        t.2 ∙ ap (λ x. t.0 ++ x) w.5 ∙ sym (append_assoc t.0 w.1 w.2),
        w.6,
        w.7,
      ),
    ))
    (number_err n m (frame_at last (b ∷ bs)) _ e)

stuck : (fuel last n : ℕ) (back : List ℕ) → length back ≤ fuel → IsBytes back → back ≢ [] → ((s : Section) (text : List ℕ) (rest : List ℕ) → SectionFrame last text s → back ≡ text ++ rest → ⊥) → frames_at fuel last n back ≡ Err n
unfolding frames_at
stuck fuel last n [] enough small some never = absurd (some refl)
stuck zero last n (b ∷ bs) enough small some never = absurd (omega arith)
stuck (suc fuel) last n (b ∷ bs) enough small some never =
    let split : (r : Result (Section × List ℕ) Wrong) → frame_at last (b ∷ bs) ≡ r → (or_number n r >>= (λ s. before s.0 (frames_at fuel (order_after last s.0.0) (n + 1) s.1))) ≡ Err n
    = elim [ Ok x ↦ (λ e. let t = frame_sound last (b ∷ bs) x.0 x.1 small e in absurd (never x.0 t.0 x.1 t.1 t.2)) | Err w ↦ (λ e. refl) ] in
    split (frame_at last (b ∷ bs)) refl

pub bad_complete : (fuel last n m : ℕ) (bytes : List ℕ) (ss : List Section) (front back : List ℕ) → length bytes ≤ fuel → IsBytes bytes → Frames last front ss → length ss ≡ m → bytes ≡ front ++ back → back ≢ [] →
    ((s : Section) (text : List ℕ) (rest : List ℕ) → SectionFrame (last_of last ss) text s → back ≡ text ++ rest → ⊥) → frames_at fuel last n bytes ≡ Err (n + m)
bad_complete fuel last n m bytes [] front back enough small f count e some never =
    let same : bytes ≡ back = e ∙ ap (λ t. t ++ back) f in
    rw (same, sym count) (stuck fuel last n back (subst (λ t. length t ≤ fuel) same enough) (subst IsBytes same small) some never ∙ ap Err (omega arith))
bad_complete zero last n m bytes (s ∷ ss) front back enough small f count e some never =
    absurd (omega (arith, frame_long last f.0 s f.2, ap length f.4, length-append f.0 f.1, ap length e, length-append front back))
bad_complete (suc fuel) last n m bytes (s ∷ ss) front back enough small f count e some never =
    let split : bytes ≡ f.0 ++ (f.1 ++ back) = e ∙ ap (λ t. t ++ back) f.4 ∙ append_assoc f.0 f.1 back in
    let less : length (f.1 ++ back) ≤ fuel = omega (arith, frame_long last f.0 s f.2, ap length split, length-append f.0 (f.1 ++ back)) in
    let rest = bad_complete fuel (order_after last s.0) (n + 1) (length ss) (f.1 ++ back) ss f.1 back less (small_rest (λ t. SectionFrame last t s) bytes (f.1 ++ back) small (f.0, f.2, split)) f.3 refl refl some never in
    rw (split, step_good fuel last n f.0 (f.1 ++ back) s f.2, rest) (ap Err (omega arith))
