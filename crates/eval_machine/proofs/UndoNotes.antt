-- The notes of the undo log still say, after each change and each step back, what the globals and
-- data segments were at the mark.
use Rattle.base_lists.proofs.Common.{◌≡◌, ℕ, zero, suc, ◌<◌, ◌||◌, List, [], ◌∷◌, ◌++◌, length, Bool, true, false, cond, Option, Some, None, IsSome, nat_eq, refl, sym, ap, ap₂, ◌∙◌, inl, inr, subst, true≢false, slice_get, slice_set, same_Some, same_number, cases_eq, eq-eqb, slice_get_within, set_at}
use Rattle.base_lists.proofs.Common.{set_other, length-set, or-false, or-true, among_append}
use Rattle.std.specs.Option.{option_or}
use Rattle.base_lists.specs.Members.{is_among}
use Rattle.eval_machine.specs.declared.undo.UndoLog.{UndoLog}
use Rattle.eval_machine.specs.declared.undo.EarlierGlobal.{EarlierGlobal}
use Rattle.eval_machine.specs.declared.globals.GlobalSlot.{GlobalSlot}
use Rattle.eval_machine.specs.Undo.{AreGlobalsBefore, AreSegmentsBefore, FlagsAreRight, UndoStays, segment_before, noted_global, global_before}

-- ---- lists ----

same_lists : {A : Type 0} (xs ys : List A) → ((n : ℕ) → slice_get xs n ≡ slice_get ys n) → xs ≡ ys
same_lists [] [] e = refl
same_lists [] (y ∷ ys) e = absurd (let k = e 0 in cc)
same_lists (x ∷ xs) [] e = absurd (let k = e 0 in cc)
same_lists (x ∷ xs) (y ∷ ys) e = ap₂ (λ z zs. z ∷ zs) (same_Some x y (e 0)) (same_lists xs ys (λ n. e (suc n)))

pub set_same : {A : Type 0} (xs : List A) (n : ℕ) (x : A) → slice_get xs n ≡ Some x → slice_set xs n x ≡ xs
set_same [] n x e = refl
set_same (y ∷ ys) zero x e = ap (λ z. z ∷ ys) (sym (same_Some y x e))
set_same (y ∷ ys) (suc n) x e = ap (λ zs. y ∷ zs) (set_same ys n x e)

set_gives : {A : Type 0} (xs : List A) (n : ℕ) (y z : A) → slice_get (slice_set xs n y) n ≡ Some z → y ≡ z
set_gives [] n y z e = absurd (let k = e in cc)
set_gives (x ∷ xs) zero y z e = same_Some y z e
set_gives (x ∷ xs) (suc n) y z e = set_gives xs n y z e

unequal : (n k : ℕ) → nat_eq n k ≡ false → n ≡ k → ⊥
unequal n k h same = true≢false (sym (eq-eqb n k same) ∙ h)

-- ---- globals ----

noted_push : (es : List EarlierGlobal) (e : EarlierGlobal) (n : ℕ) → noted_global (es ++ e ∷ []) n ≡ option_or (noted_global es n) (noted_global (e ∷ []) n)
noted_push [] e n = refl
noted_push (x ∷ es) e n = by (nat_eq n x.global) (noted_push es e n)
  where
    by : (b : Bool) → noted_global (es ++ e ∷ []) n ≡ option_or (noted_global es n) (noted_global (e ∷ []) n) → cond b (Some x.before) (noted_global (es ++ e ∷ []) n) ≡ option_or (cond b (Some x.before) (noted_global es n)) (noted_global (e ∷ []) n)
    by true h = refl
    by false h = h

-- A note of a global's present value does not change what the notes say.
pub before_noted : (es : List EarlierGlobal) (now : List GlobalSlot) (e : EarlierGlobal) → slice_get now e.global ≡ Some e.before → (n : ℕ) → global_before (es ++ e ∷ []) now n ≡ global_before es now n
before_noted es now e at n = ap (λ o. option_or o (slice_get now n)) (noted_push es e n) ∙ by (noted_global es n)
  where
    here : (b : Bool) → nat_eq n e.global ≡ b → option_or (cond b (Some e.before) None) (slice_get now n) ≡ slice_get now n
    here true h = sym at ∙ ap (slice_get now) (sym (same_number n e.global h))
    here false h = refl

    by : (o : Option GlobalSlot) → option_or (option_or o (noted_global (e ∷ []) n)) (slice_get now n) ≡ option_or o (slice_get now n)
    by (Some g) = refl
    by None = here (nat_eq n e.global) refl

-- A set of a noted global does not change what the notes say.
pub before_set : (es : List EarlierGlobal) (now : List GlobalSlot) (k : ℕ) (g : GlobalSlot) → IsSome (noted_global es k) → (n : ℕ) → global_before es (slice_set now k g) n ≡ global_before es now n
before_set es now k g noted n = elim (cases_eq n k) [
  | inl same ↦ by (noted_global es n) (rw same noted)
  | inr other ↦ ap (option_or (noted_global es n)) (set_other now k n g other)
]
  where
    by : (o : Option GlobalSlot) → IsSome o → option_or o (slice_get (slice_set now k g) n) ≡ option_or o (slice_get now n)
    by (Some x) h = refl
    by None h = absurd (let k = h in cc)

-- The notes say the same once the global that was noted last is put back and its note removed.
before_back : (es : List EarlierGlobal) (now : List GlobalSlot) (e : EarlierGlobal) → e.global < length now → (n : ℕ) → global_before (es ++ e ∷ []) now n ≡ global_before es (slice_set now e.global e.before) n
before_back es now e lt n = ap (λ o. option_or o (slice_get now n)) (noted_push es e n) ∙ by (noted_global es n) refl
  where
    here : (b : Bool) → nat_eq n e.global ≡ b → option_or (cond b (Some e.before) None) (slice_get now n) ≡ slice_get (slice_set now e.global e.before) n
    here true h = let same = same_number n e.global h in sym (set_at now e.global e.before lt) ∙ ap (slice_get (slice_set now e.global e.before)) (sym same)
    here false h = sym (set_other now e.global n e.before (unequal n e.global h))

    by : (o : Option GlobalSlot) → noted_global es n ≡ o → option_or (option_or o (noted_global (e ∷ []) n)) (slice_get now n) ≡ option_or o (slice_get (slice_set now e.global e.before) n)
    by (Some g) h = refl
    by None h = here (nat_eq n e.global) refl

is_last : (es : List EarlierGlobal) (now : List GlobalSlot) (e : EarlierGlobal) → IsSome (global_before (es ++ e ∷ []) now e.global)
is_last es now e = rw (noted_push es e e.global) (by (noted_global es e.global))
  where
    by : (o : Option GlobalSlot) → IsSome (option_or (option_or o (noted_global (e ∷ []) e.global)) (slice_get now e.global))
    by (Some g) = refl
    by None = rw (eq-eqb e.global e.global refl) refl

there : {A : Type 0} (xs : List A) (n : ℕ) → IsSome (slice_get xs n) → n < length xs
there {A = A} xs n h = by (slice_get xs n) refl h
  where
    by : (o : Option A) → slice_get xs n ≡ o → IsSome o → n < length xs
    by (Some x) e h = slice_get_within xs n x e
    by None e h = absurd (let k = h in cc)

-- The globals at the mark stay the same after one note is put back.
pub one_back : (es : List EarlierGlobal) (now gs : List GlobalSlot) (e : EarlierGlobal) → AreGlobalsBefore (es ++ e ∷ []) now gs → AreGlobalsBefore es (slice_set now e.global e.before) gs
one_back es now gs e before =
    let lt : e.global < length gs = there gs e.global (subst IsSome (sym (before.each e.global)) (is_last es now e)) in
    record {
      many = before.many ∙ sym (length-set now e.global e.before);
      each = λ n. before.each n ∙ before_back es now e (rw (← before.many) lt) n;
    }

pub all_back : (now gs : List GlobalSlot) → AreGlobalsBefore [] now gs → now ≡ gs
all_back now gs before = same_lists now gs (λ n. sym (before.each n))

-- ---- flags of globals ----

pub noted_pushed : (es : List EarlierGlobal) (flags : List Bool) (e : EarlierGlobal) → FlagsAreRight es flags → FlagsAreRight (es ++ e ∷ []) (slice_set flags e.global true)
noted_pushed es flags e noted n at = subst IsSome (sym (noted_push es e n)) (by (nat_eq n e.global) refl)
  where
    or_left : (o p : Option GlobalSlot) → IsSome o → IsSome (option_or o p)
    or_left (Some x) p h = refl
    or_left None p h = absurd (let k = h in cc)

    or_right : (o p : Option GlobalSlot) → IsSome p → IsSome (option_or o p)
    or_right (Some x) p h = refl
    or_right None p h = h

    by : (b : Bool) → nat_eq n e.global ≡ b → IsSome (option_or (noted_global es n) (noted_global (e ∷ []) n))
    by true h = or_right (noted_global es n) (noted_global (e ∷ []) n) (rw h refl)
    by false h = or_left (noted_global es n) (noted_global (e ∷ []) n) (noted n (sym (set_other flags e.global n true (unequal n e.global h)) ∙ at))

pub pushed_is_noted : (es : List EarlierGlobal) (e : EarlierGlobal) → IsSome (noted_global (es ++ e ∷ []) e.global)
pushed_is_noted es e = rw (noted_push es e e.global) (by (noted_global es e.global))
  where
    by : (o : Option GlobalSlot) → IsSome (option_or o (noted_global (e ∷ []) e.global))
    by (Some g) = refl
    by None = rw (eq-eqb e.global e.global refl) refl

pub noted_popped : (es : List EarlierGlobal) (flags : List Bool) (e : EarlierGlobal) → FlagsAreRight (es ++ e ∷ []) flags → FlagsAreRight es (slice_set flags e.global false)
noted_popped es flags e noted n at = by (nat_eq n e.global) refl
  where
    or_none : (o : Option GlobalSlot) → IsSome (option_or o None) → IsSome o
    or_none (Some x) h = refl
    or_none None h = h

    by : (b : Bool) → nat_eq n e.global ≡ b → IsSome (noted_global es n)
    by true h = let same = same_number n e.global h in absurd (true≢false (sym (set_gives flags e.global false true (ap (slice_get (slice_set flags e.global false)) (sym same) ∙ at))))
    by false h =
        let is : IsSome (noted_global (es ++ e ∷ []) n) = noted n (sym (set_other flags e.global n false (unequal n e.global h)) ∙ at) in
        let last : noted_global (e ∷ []) n ≡ None = rw h refl in
        or_none (noted_global es n) (subst (λ o. IsSome (option_or (noted_global es n) o)) last (subst IsSome (noted_push es e n) is))

-- ---- data segments ----

one_among : (ds : List ℕ) (k n : ℕ) → is_among (ds ++ k ∷ []) n ≡ (is_among ds n || nat_eq n k)
one_among ds k n = among_append ds (k ∷ []) n ∙ ap (λ b. is_among ds n || b) (or-false (nat_eq n k))

-- A segment that is dropped and noted does not change what the notes say.
pub segment_dropped : (ds : List ℕ) (now : List Bool) (k : ℕ) → slice_get now k ≡ Some false → (n : ℕ) → segment_before (ds ++ k ∷ []) (slice_set now k true) n ≡ segment_before ds now n
segment_dropped ds now k at n = ap (λ b. cond b (Some false) (slice_get (slice_set now k true) n)) (one_among ds k n) ∙ by (is_among ds n) (nat_eq n k) refl
  where
    by : (a b : Bool) → nat_eq n k ≡ b → cond (a || b) (Some false) (slice_get (slice_set now k true) n) ≡ cond a (Some false) (slice_get now n)
    by true b h = refl
    by false true h = sym at ∙ ap (slice_get now) (sym (same_number n k h))
    by false false h = set_other now k n true (unequal n k h)

-- The notes say the same once the segment that was dropped last is put back and its note removed.
segment_back : (ds : List ℕ) (now : List Bool) (k : ℕ) → k < length now → (n : ℕ) → segment_before (ds ++ k ∷ []) now n ≡ segment_before ds (slice_set now k false) n
segment_back ds now k lt n = ap (λ b. cond b (Some false) (slice_get now n)) (one_among ds k n) ∙ by (is_among ds n) (nat_eq n k) refl
  where
    by : (a b : Bool) → nat_eq n k ≡ b → cond (a || b) (Some false) (slice_get now n) ≡ cond a (Some false) (slice_get (slice_set now k false) n)
    by true b h = refl
    by false true h = sym (set_at now k false lt) ∙ ap (slice_get (slice_set now k false)) (sym (same_number n k h))
    by false false h = sym (set_other now k n false (unequal n k h))

pub one_segment_back : (ds : List ℕ) (now flags : List Bool) (k : ℕ) → AreSegmentsBefore (ds ++ k ∷ []) now flags → AreSegmentsBefore ds (slice_set now k false) flags
one_segment_back ds now flags k before =
    let among : is_among (ds ++ k ∷ []) k ≡ true = one_among ds k k ∙ (ap (λ b. is_among ds k || b) (eq-eqb k k refl) ∙ or-true (is_among ds k)) in
    let at : slice_get flags k ≡ Some false = before.each k ∙ ap (λ b. cond b (Some false) (slice_get now k)) among in
    record {
      many = before.many ∙ sym (length-set now k false);
      each = λ n. before.each n ∙ segment_back ds now k (rw (← before.many) (slice_get_within flags k false at)) n;
    }

pub all_segments_back : (now flags : List Bool) → AreSegmentsBefore [] now flags → now ≡ flags
all_segments_back now flags before = same_lists now flags (λ n. sym (before.each n))

-- ---- globals and data segments ----

pub undo_same : (c : UndoLog) (gs : List GlobalSlot) (flags : List Bool) → UndoStays c gs flags c gs flags
undo_same c gs flags = record { flags = λ h. h; globals = λ n. refl; segments = λ n. refl }

pub undo_then : (a : UndoLog) (gs : List GlobalSlot) (xs : List Bool) (b : UndoLog) (hs : List GlobalSlot) (ys : List Bool) (c : UndoLog) (is : List GlobalSlot) (zs : List Bool) →
    UndoStays a gs xs b hs ys → UndoStays b hs ys c is zs → UndoStays a gs xs c is zs
undo_then a gs xs b hs ys c is zs x y = record {
  flags = λ h. y.flags (x.flags h);
  globals = λ n. y.globals n ∙ x.globals n;
  segments = λ n. y.segments n ∙ x.segments n;
}
