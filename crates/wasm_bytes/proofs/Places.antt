-- Where the content of a frame stands, and the loop over the frames.
use Rattle.std.proofs.Common.{◌≡◌, ℕ, zero, suc, ◌+◌, ◌-◌, ◌<◌, ◌≤◌, List, [], ◌∷◌, ◌++◌, length, take, drop, map, get_or, Result, Ok, Err, true, refl, sym, ap, ◌∙◌, subst, arith, append_assoc, append-nil, length-append}
use Rattle.wasm_bytes.specs.declared.cursor.Wrong.{Wrong}
use Rattle.wasm_bytes.specs.declared.framing.Frame.{Frame as Place}
use Rattle.wasm_bytes.specs.Reading.{IsBytes, byte_at, sized_at}
use Rattle.wasm_bytes.specs.Frames.{Section, may_follow, order_after, frame_at, before, or_number, frames_at}
use Rattle.wasm_bytes.specs.FrameViews.{framed, framed_all, in_front, frames_behind, Stand, StandsAt, Whole}
use Rattle.wasm_bytes.proofs.Lists.{take_all, drop_all, halves, taken, bytes_drop}
use Rattle.wasm_bytes.proofs.Sized.{sized_sound}

placed : (bytes front content rest : List ℕ) (start : ℕ) → bytes ≡ front ++ (content ++ rest) → start ≡ length front → (take (length content) (drop start bytes) ≡ content) × (drop (start + length content) bytes ≡ rest)
placed bytes front content rest start e s =
    let whole : bytes ≡ (front ++ content) ++ rest = e ∙ sym (append_assoc front content rest) in
    let long : start + length content ≡ length (front ++ content) = omega (arith, length-append front content) in
    (rw (e, s, drop_all front (content ++ rest)) (take_all content rest), rw (long, whole) (drop_all (front ++ content) rest))

pub record IsPlace (bytes : List ℕ) (last at id start len : ℕ) : Type 0 where
  pub gives : frame_at last (drop at bytes) ≡ Ok ((id, take len (drop start bytes)), drop (start + len) bytes)
  pub further : at < start + len
  pub inside : start + len ≤ length bytes
  pub stands : StandsAt bytes at (record { id = id; start = start; len = len })

pub good_frame : (bytes : List ℕ) (last at id : ℕ) (cs content rest : List ℕ) → IsBytes bytes → at ≤ length bytes → drop at bytes ≡ id ∷ cs → may_follow last id ≡ true → sized_at cs ≡ Ok (content, rest) →
    (length rest ≤ length bytes) × (length content ≤ length bytes - length rest) × IsPlace bytes last at id (length bytes - length rest - length content) (length content)
unfolding frame_at
good_frame bytes last at id cs content rest small le e may reads =
    let tail : IsBytes cs = λ i. subst IsBytes e (bytes_drop at bytes small) (suc i) in
    let t = sized_sound cs content rest tail reads in
    let size = t.1.0 in
    let front = take at bytes ++ (id ∷ size) in
    let split : bytes ≡ front ++ (content ++ rest) =
    halves at bytes ∙ ap (λ x. take at bytes ++ x) (e ∙ ap (λ x. id ∷ x) (t.2 ∙ ap (λ x. x ++ rest) t.1.2 ∙ append_assoc size content rest)) ∙ sym (append_assoc (take at bytes) (id ∷ size) (content ++ rest)) in
    let long : length bytes ≡ length front + (length content + length rest) = ap length split ∙ length-append front (content ++ rest) ∙ ap (λ k. length front + k) (length-append content rest) in
    let ahead : length front ≡ at + suc (length size) = length-append (take at bytes) (id ∷ size) ∙ ap (λ k. k + suc (length size)) (taken at bytes le) in
    let start : length bytes - length rest - length content ≡ length front = omega arith in
    let here : drop (length bytes - length rest - length content) bytes ≡ content ++ rest = ap (λ k. drop k bytes) start ∙ ap (drop (length front)) split ∙ drop_all front (content ++ rest) in
    let p = placed bytes front content rest (length bytes - length rest - length content) split start in (
      omega arith,
      omega arith,
      record {
        gives = rw (e, may, reads) (ap (λ (q : List ℕ × List ℕ). Ok ((id, q.0), q.1)) (ap (λ x. (x, rest)) (sym p.0) ∙ ap (λ y. (take (length content) (drop (length bytes - length rest - length content) bytes), y)) (sym p.1)));
        further = omega arith;
        inside = omega arith;
        stands = (size, t.1.1, e ∙ ap (λ x. id ∷ x) (t.2 ∙ ap (λ x. x ++ rest) t.1.2 ∙ append_assoc size content rest ∙ ap (λ x. size ++ x) (sym here)), omega (arith, start, ahead));
      },
    )

take_length : (bs : List ℕ) → take (length bs) bs ≡ bs
take_length [] = refl
take_length (b ∷ bs) = ap (λ t. b ∷ t) (take_length bs)

pub rest_of : (n : ℕ) (bs : List ℕ) → take (length bs - n) (drop n bs) ≡ drop n bs
rest_of zero bs = let k : length bs - 0 ≡ length bs = omega arith in rw k (take_length bs)
rest_of (suc n) [] = let k : length {A = ℕ} [] - suc n ≡ 0 = omega arith in rw k
rest_of (suc n) (b ∷ bs) = let k : suc (length bs) - suc n ≡ length bs - n = omega arith in rw k (rest_of n bs)

pub first_of : (bs cs : List ℕ) (id : ℕ) → byte_at bs ≡ Ok (id, cs) → bs ≡ id ∷ cs
first_of [] cs id e = cc
first_of (b ∷ bs) cs id e = let same : (b, bs) ≡ (id, cs) = cc in ap (λ (p : ℕ × List ℕ). p.0 ∷ p.1) same

pub sized_fails : (bytes : List ℕ) (last id n : ℕ) (cs : List ℕ) (w : Wrong) → bytes ≡ id ∷ cs → may_follow last id ≡ true → sized_at cs ≡ Err w → or_number n (frame_at last bytes) ≡ Err n
unfolding frame_at
sized_fails bytes last id n cs w e may bad = rw (e, may, bad)

-- ---- the loop over the frames

front_front : {A E : Type 0} (a b : List A) (r : Result (List A) E) → in_front a (in_front b r) ≡ in_front (a ++ b) r
front_front a b (Ok xs) = ap Ok (sym (append_assoc a b xs))
front_front a b (Err e) = refl

pub front_none : {A E : Type 0} (r : Result (List A) E) → r ≡ in_front [] r
front_none (Ok xs) = refl
front_none (Err e) = refl

one : {A E : Type 0} (x : A) (r : Result (List A) E) → before x r ≡ in_front (x ∷ []) r
one x (Ok xs) = refl
one x (Err e) = refl

map_last : {A B : Type 0} (f : A → B) (xs : List A) (x : A) → map f (xs ++ x ∷ []) ≡ map f xs ++ f x ∷ []
map_last f [] x = refl
map_last f (y ∷ ys) x = ap (λ zs. f y ∷ zs) (map_last f ys x)

some_left : (n : ℕ) (bs : List ℕ) → n < length bs → (b : ℕ) × (cs : List ℕ) × (drop n bs ≡ b ∷ cs)
some_left n [] h = absurd (omega arith)
some_left zero (b ∷ bs) h = (b, bs, refl)
some_left (suc n) (b ∷ bs) h = some_left n bs (omega arith)

none_left : (n : ℕ) (bs : List ℕ) → length bs ≤ n → drop n bs ≡ []
none_left zero [] h = refl
none_left (suc n) [] h = refl
none_left zero (b ∷ bs) h = absurd (omega arith)
none_left (suc n) (b ∷ bs) h = none_left n bs (omega arith)

-- The frames already read, followed by those read from the remaining bytes, are the frames of all
-- bytes.
abbrev pub GoesOn : List ℕ → List Place → ℕ → ℕ → ℕ → Type 0
GoesOn bytes fs at last count = (fuel : ℕ) × (length bytes ≤ fuel + at) × (frames_behind bytes ≡ in_front (framed_all bytes fs) (frames_at fuel last count (drop at bytes)))

step_read : (fuel last n : ℕ) (bs rest : List ℕ) (s : Section) → frame_at last bs ≡ Ok (s, rest) → frames_at (suc fuel) last n bs ≡ before s (frames_at fuel (order_after last s.0) (n + 1) rest)
unfolding frames_at frame_at
step_read fuel last n [] rest s e = cc
step_read fuel last n (b ∷ bs) rest s e = rw e

step_bad : (fuel last n : ℕ) (bs : List ℕ) (b : ℕ) (cs : List ℕ) → bs ≡ b ∷ cs → ((k : ℕ) → or_number k (frame_at last bs) ≡ Err k) → frames_at (suc fuel) last n bs ≡ Err n
unfolding frames_at
step_bad fuel last n bs b cs e bad = let k = rw e at (bad n) in rw (e, k)

pub goes_on_more : (bytes : List ℕ) (fs : List Place) (f : Place) (new : List Place) (at last next count : ℕ) → at < length bytes → at < f.start + f.len → new ≡ fs ++ f ∷ [] → next ≡ order_after last f.id →
    frame_at last (drop at bytes) ≡ Ok (framed bytes f, drop (f.start + f.len) bytes) → GoesOn bytes fs at last count → GoesOn bytes new (f.start + f.len) next (count + 1)
goes_on_more bytes fs f new at last next count lt far more is e (zero, enough, h) = absurd (omega arith)
goes_on_more bytes fs f new at last next count lt far more is e (suc fuel, enough, h) = (
  fuel,
  omega arith,
  rw is (h ∙ ap (in_front (framed_all bytes fs)) (step_read fuel last count _ _ _ e ∙ one (framed bytes f) _) ∙ front_front (framed_all bytes fs) (framed bytes f ∷ []) _
      ∙ ap (λ xs. in_front xs (frames_at fuel (order_after last f.id) (count + 1) (drop (f.start + f.len) bytes))) (sym (map_last (framed bytes) fs f) ∙ ap (framed_all bytes) (sym more))),
)

pub goes_on_bad : (bytes : List ℕ) (fs : List Place) (at last count : ℕ) → at < length bytes → ((k : ℕ) → or_number k (frame_at last (drop at bytes)) ≡ Err k) → GoesOn bytes fs at last count → frames_behind bytes ≡ Err count
goes_on_bad bytes fs at last count lt bad (zero, enough, h) = absurd (omega arith)
goes_on_bad bytes fs at last count lt bad (suc fuel, enough, h) = let w = some_left at bytes lt in h ∙ ap (in_front (framed_all bytes fs)) (step_bad fuel last count _ w.0 w.1 w.2 bad)

pub goes_on_end : (bytes : List ℕ) (fs : List Place) (at last count : ℕ) → length bytes ≤ at → GoesOn bytes fs at last count → frames_behind bytes ≡ Ok (framed_all bytes fs)
unfolding frames_at
goes_on_end bytes fs at last count le (fuel, enough, h) = h ∙ rw (none_left at bytes le) (ap Ok (append-nil (framed_all bytes fs)))

at_last : (P : Place → Type 0) (fs : List Place) (f : Place) → P f → ((i : ℕ) → i < length fs → (g : Place) → g ≡ get_or fs i g → P g) → (i : ℕ) → i < length (fs ++ f ∷ []) → (g : Place) → g ≡ get_or (fs ++ f ∷ []) i g → P g
at_last P [] f here h zero lt g is = subst P (sym is) here
at_last P [] f here h (suc i) lt g is = absurd (omega arith)
at_last P (y ∷ ys) f here h zero lt g is = h zero (omega arith) g is
at_last P (y ∷ ys) f here h (suc i) lt g is = at_last P ys f here (λ j l k e. h (suc j) (omega arith) k e) i (omega arith) g is

pub whole_more : (bytes : List ℕ) (fs : List Place) (f : Place) (new : List Place) → new ≡ fs ++ f ∷ [] → f.start + f.len ≤ length bytes → Whole bytes fs → Whole bytes new
whole_more bytes fs f new e le h = rw e (at_last (λ g. g.start + g.len ≤ length bytes) fs f le h)

-- A further frame stands at the place where the frames before it end.
pub stand_more : (bytes : List ℕ) (at : ℕ) (fs : List Place) (f : Place) (new : List Place) (end : ℕ) → new ≡ fs ++ f ∷ [] → StandsAt bytes end f → Stand bytes at fs end → Stand bytes at new (f.start + f.len)
stand_more bytes at [] f new end e one h = rw (e, h) (one, refl)
stand_more bytes at (g ∷ gs) f new end e one h = rw e (h.0, stand_more bytes (g.start + g.len) gs f (gs ++ f ∷ []) end refl one h.1)
