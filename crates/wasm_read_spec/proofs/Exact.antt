-- Readers that find what is encoded and small, and nothing else, and combinations of them.
use Rattle.base_lists.proofs.Common.{◌≡◌, ℕ, zero, suc, ◌≤◌, List, [], ◌∷◌, ◌++◌, length, Option, Result, Ok, Err, Bool, true, false, cond, refl, sym, ap, ◌∙◌, subst, arith, append_assoc, le-ltb, eqb-true, IsUtf8-from_is_utf8, is_utf8-from_IsUtf8, ◌==◌, IsUtf8, is_utf8, bind_ok, ok_pair, err_ok}
use Rattle.base_lists.proofs.Common.{within_most}
use Rattle.wasm_bytes.specs.declared.cursor.Wrong.{Wrong}
use Rattle.wasm_bytes.specs.declared.cursor.Wrong.TheVariants.{Spelling}
use Rattle.wasm_bytes.specs.Prelude.{TakesOff, Signed, last_unsigned, join_unsigned, last_signed, join_signed, Then, U32, Each, Vector, Sized, Named, ◌>>=◌, IsBytes}
use Rattle.wasm_bytes.specs.Reading.{reading, unsigned_at, signed_at, name_at as text_at, sized_at as content_at}
use Rattle.wasm_bytes.specs.Numbers.{SpellsNumber as SpellsNumber}
use Rattle.wasm_bytes.proofs.NumberLaws.{reading_of_spelled, spelled_of_reading}
use Rattle.wasm_bytes.proofs.Lists.{small_rest}
use Rattle.wasm_bytes.proofs.Sized.{content_sound, content_complete}
use Rattle.wasm_tree_spec.specs.Prelude.{Which, limit}
use Rattle.wasm_read_spec.specs.declared.fault.Fault.{Fault}
use Rattle.wasm_read_spec.specs.declared.fault.Fault.TheVariants.{Malformed, Limit}
use Rattle.base_lists.specs.Every.{Every}
use Rattle.wasm_read_spec.specs.Prelude.{Byte, Never, Both, MadeFrom, When, After, Any, Few, Reader, or_malformed, byte_at, u32_at, name_at, sized_at, fault_at, pair_at, mapped_at, chosen_at, when_at, tagged_at, each_at}
use Rattle.wasm_read_spec.specs.Exact.{Exact, Along}
use Rattle.wasm_read_spec.specs.SpellingForms.{S32, S64, Coded, Just, Chosen, Closed}
use Rattle.wasm_read_spec.specs.Reading.{s32_at, s64_at, just_at, coded_at, tag_at, closed_at, each_from, list_at, vector_at}

-- ---- tools

pub or_ok : {A : Type 0} (r : Result A Wrong) (x : A) → or_malformed r ≡ Ok x → r ≡ Ok x
or_ok (Ok y) x e = let same : y ≡ x = cc in ap Ok same
or_ok (Err w) x e = cc

pub took_then : (P Q : List ℕ → Type 0) (bytes mid rest : List ℕ) → TakesOff P bytes mid → TakesOff Q mid rest → TakesOff (Then P Q) bytes rest
took_then P Q bytes mid rest a b = (a.0 ++ b.0, (a.0, b.0, a.1, b.1, refl), a.2 ∙ ap (λ xs. a.0 ++ xs) b.2 ∙ sym (append_assoc a.0 b.0 rest))

pub took_as : (P Q : List ℕ → Type 0) (bytes rest : List ℕ) → ((text : List ℕ) → P text → Q text) → TakesOff P bytes rest → TakesOff Q bytes rest
took_as P Q bytes rest f t = (t.0, f t.0 t.1, t.2)

pub split : (P Q : List ℕ → Type 0) (text rest : List ℕ) (h : Then P Q text) → text ++ rest ≡ h.0 ++ (h.1 ++ rest)
split P Q text rest h = ap (λ t. t ++ rest) h.4 ∙ append_assoc h.0 h.1 rest

-- ---- exactness

-- A reader is exact also for an equivalent property of being small.
pub other_small : {A E : Type 0} {P : List ℕ → A → Type 0} {S T : A → Type 0} {r : List ℕ → Result (A × List ℕ) E} → ((x : A) → S x → T x) → ((x : A) → T x → S x) → Exact P S r → Exact P T r
other_small {A} {E} {P} {S} {T} {r} to back exact = record {
  sound = λ bytes x rest small e. let t = exact.sound bytes x rest small e in (t.0, to x t.1);
  complete = λ text rest x h k. exact.complete text rest x h (back x k);
}

byte_sound : (bytes : List ℕ) (x : ℕ) (rest : List ℕ) → byte_at bytes ≡ Ok (x, rest) → TakesOff (λ t. Byte t x) bytes rest
byte_sound [] x rest e = cc
byte_sound (b ∷ bs) x rest e = let p = ok_pair {E = Fault} b x bs rest e in (x ∷ [], refl, ap (λ c. c ∷ bs) p.0 ∙ ap (λ t. x ∷ t) p.1)

pub byte_exact : Exact Byte Any byte_at
byte_exact = record {
  sound = λ bytes x rest small e. (byte_sound bytes x rest e, tt);
  complete = λ text rest x h k. rw h;
}

-- The reader of numbers is exact for every form of numbers.
number_exact : {V : Type 0} (last : ℕ → ℕ → Option V) (join : ℕ → V → V) (bits : ℕ) → Exact (SpellsNumber last join bits) Any (λ bs. or_malformed (reading last join bits bs))
number_exact last join bits = record {
  sound = λ bytes x rest small e. (spelled_of_reading last join bits bytes x rest small (or_ok _ _ e), tt);
  complete = λ text rest x h k. ap or_malformed (reading_of_spelled last join bits text rest x h);
}

pub u32_exact : Exact U32 Any u32_at
unfolding unsigned_at
u32_exact = number_exact last_unsigned join_unsigned 32

signed_exact : (bits : ℕ) → Exact (Signed bits) Any (λ bs. or_malformed (signed_at bits bs))
unfolding signed_at
signed_exact bits = number_exact last_signed join_signed bits

pub s32_exact : Exact S32 Any s32_at
s32_exact = signed_exact 32

pub s33_exact : Exact (Signed 33) Any (λ bs. or_malformed (signed_at 33 bs))
s33_exact = signed_exact 33

pub s64_exact : Exact S64 Any s64_at
s64_exact = signed_exact 64

pub sized_exact : Exact Sized Any sized_at
unfolding unsigned_at
sized_exact = record {
  sound = λ bytes x rest small e. (content_sound U32 (unsigned_at 32) (λ bs n more ok k. (u32_exact.sound bs n more ok (ap or_malformed k)).0) bytes x rest small (or_ok _ _ e), tt);
  complete = λ text rest x h k. ap or_malformed (content_complete U32 (unsigned_at 32) (λ t more n g. or_ok _ _ (u32_exact.complete t more n g tt)) text rest x h);
}

-- A name is read only if its bytes are UTF-8.
text_is : (b : Bool) (content rest x more : List ℕ) → ◌≡◌ {A = Result (List ℕ × List ℕ) Wrong} (cond b (Ok (content, rest)) (Err Spelling)) (Ok (x, more)) → (b ≡ true) × (content ≡ x) × (rest ≡ more)
text_is true content rest x more e = let p = ok_pair {E = Wrong} content x rest more e in (refl, p.0, p.1)
text_is false content rest x more e = cc

name_sound : (bytes x rest : List ℕ) → IsBytes bytes → text_at bytes ≡ Ok (x, rest) → TakesOff (λ t. Named t x) bytes rest
unfolding text_at
name_sound bytes x rest small e =
    let c = bind_ok (content_at bytes) _ _ e in
    let s = (sized_exact.sound bytes c.0.0 c.0.1 small (ap or_malformed c.1)).0 in
    let u = text_is (is_utf8 c.0.0) c.0.0 c.0.1 x rest c.2 in
    (s.0, (subst IsUtf8 u.1 (IsUtf8-from_is_utf8 c.0.0 u.0), subst (Sized s.0) u.1 s.1), s.2 ∙ ap (λ t. s.0 ++ t) u.2)

name_complete : (text rest x : List ℕ) → Named text x → text_at (text ++ rest) ≡ Ok (x, rest)
unfolding text_at
name_complete text rest x h = rw (or_ok _ _ (sized_exact.complete text rest x h.1 tt), is_utf8-from_IsUtf8 x h.0)

pub name_exact : Exact Named Any name_at
name_exact = record {
  sound = λ bytes x rest small e. (name_sound bytes x rest small (or_ok _ _ e), tt);
  complete = λ text rest x h k. ap or_malformed (name_complete text rest x h);
}

-- ---- combinations of readers

pub just_exact : {A : Type 0} (x : A) → Exact (Just x) Any (just_at x)
just_exact {A} x = record {
  sound = λ bytes y rest small e. let p = ok_pair {E = Fault} x y bytes rest e in (([], (refl, sym p.0), p.1), tt);
  complete = λ text rest y h k. rw (h.0, h.1);
}

pub never_exact : {A : Type 0} (e : Fault) → Exact {A = A} Never Any (fault_at e)
never_exact {A} e = record {
  sound = λ bytes y rest small h. absurd (err_ok e (y, rest) h);
  complete = λ text rest y h k. absurd h;
}

pub pair_exact : {A B : Type 0} {P : List ℕ → A → Type 0} {Q : List ℕ → B → Type 0} {S : A → Type 0} {T : B → Type 0} {r : Reader A} {q : Reader B} → Exact P S r → Exact Q T q →
    Exact {A = A × B} (Both P Q) (λ p. S p.0 × T p.1) (pair_at r q)
pair_exact {A} {B} {P = P} {Q = Q} {S = S} {T = T} {r = r} {q = q} a b = record {
  sound = λ bytes p rest small e.
      let x = bind_ok (r bytes) _ _ e in
      let y = bind_ok (q x.0.1) _ _ x.2 in
      let one = a.sound bytes x.0.0 x.0.1 small x.1 in
      let two = b.sound x.0.1 y.0.0 y.0.1 (small_rest _ bytes x.0.1 small one.0) y.1 in
      let same = ok_pair {E = Fault} (x.0.0, y.0.0) p y.0.1 rest y.2 in (
        subst (TakesOff (λ t. Both P Q t p) bytes) same.1
            (subst (λ z. TakesOff (λ t. Both P Q t z) bytes y.0.1) same.0 (took_then _ _ bytes x.0.1 y.0.1 one.0 two.0)),
        subst (λ (z : A × B). S z.0 × T z.1) same.0 (one.1, two.1),
      );
  complete = λ text rest p h k. rw (split _ _ text rest h, a.complete h.0 (h.1 ++ rest) p.0 h.2 k.0, b.complete h.1 rest p.1 h.3 k.1);
}

-- A pair of readers without limits is exact without limits.
pub both_exact : {A B : Type 0} {P : List ℕ → A → Type 0} {Q : List ℕ → B → Type 0} {r : Reader A} {q : Reader B} → Exact P Any r → Exact Q Any q → Exact {A = A × B} (Both P Q) Any (pair_at r q)
both_exact a b = other_small (λ x h. tt) (λ x h. (tt, tt)) (pair_exact a b)

-- A reader is exact also for an equivalent form of its values.
pub mapped_exact : {A B : Type 0} {P : List ℕ → A → Type 0} {S : A → Type 0} {r : Reader A} (make : A → B) (back : B → A) → ((x : A) → back (make x) ≡ x) → ((y : B) → make (back y) ≡ y) → Exact P S r →
    Exact {A = B} (λ b y. P b (back y)) (λ y. S (back y)) (mapped_at make r)
mapped_exact {A} {B} {P} {S} {r} make back one two exact = record {
  sound = λ bytes y rest small e.
      let x = bind_ok (r bytes) _ _ e in
      let t = exact.sound bytes x.0.0 x.0.1 small x.1 in
      let p = ok_pair {E = Fault} (make x.0.0) y x.0.1 rest x.2 in
      let same : x.0.0 ≡ back y = sym (one x.0.0) ∙ ap back p.0 in
      (subst (λ z. TakesOff (λ b. P b z) bytes rest) same (subst (TakesOff (λ b. P b x.0.0) bytes) p.1 t.0), subst S same t.1);
  complete = λ text rest y h k. rw (exact.complete text rest (back y) h k) (ap (λ z. Ok (z, rest)) (two y));
}

pub made_exact : {A B : Type 0} {P : List ℕ → A → Type 0} {r : Reader A} (make : A → B) → Exact P Any r → Exact (MadeFrom make P) Any (mapped_at make r)
made_exact {A} {B} {P} {r} make exact = record {
  sound = λ bytes y rest small e.
      let x = bind_ok (r bytes) _ _ e in
      let t = (exact.sound bytes x.0.0 x.0.1 small x.1).0 in
      let p = ok_pair {E = Fault} (make x.0.0) y x.0.1 rest x.2 in
      ((t.0, (x.0.0, t.1, sym p.0), t.2 ∙ ap (λ z. t.0 ++ z) p.1), tt);
  complete = λ text rest y h k. rw (exact.complete text rest h.0 h.1 tt, h.2);
}

pub chosen_exact : {K A : Type 0} {P : List ℕ → K → Type 0} {Q : K → List ℕ → A → Type 0} {first : Reader K} {next : K → Reader A} → Exact P Any first → ((k : K) → Exact (Q k) Any (next k)) → Exact (Chosen P Q) Any (chosen_at first next)
chosen_exact {K} {A} {P} {Q} {first} {next} a b = record {
  sound = λ bytes y rest small e.
      let x = bind_ok (first bytes) _ _ e in
      let one = (a.sound bytes x.0.0 x.0.1 small x.1).0 in
      let two = ((b x.0.0).sound x.0.1 y rest (small_rest _ bytes x.0.1 small one) x.2).0 in
      let both = took_then (λ t. P t x.0.0) (λ t. Q x.0.0 t y) bytes x.0.1 rest one two in
      ((both.0, (x.0.0, both.1), both.2), tt);
  complete = λ text rest y h k. rw (split _ _ text rest h.1, a.complete h.1.0 (h.1.1 ++ rest) h.0 h.1.2 tt) ((b h.0).complete h.1.1 rest y h.1.3 tt);
}

pub when_exact : {A : Type 0} {P Q : List ℕ → A → Type 0} {S : A → Type 0} {r q : Reader A} (test : Bool) → Exact P S r → Exact Q S q → Exact (When test P Q) S (when_at test r q)
when_exact true a b = record { sound = a.sound; complete = a.complete }
when_exact false a b = record { sound = b.sound; complete = b.complete }

coded_sound : {A : Type 0} (code : ℕ → Result A Fault) (bytes : List ℕ) (x : A) (rest : List ℕ) → coded_at code bytes ≡ Ok (x, rest) → TakesOff (λ t. Coded code t x) bytes rest
coded_sound code [] x rest e = cc
coded_sound {A} code (b ∷ bs) x rest e =
    let c = bind_ok (code b) _ _ e in
    let p = ok_pair {E = Fault} c.0 x bs rest c.2 in
    (b ∷ [], (b, c.1 ∙ ap Ok p.0, refl), ap (λ t. b ∷ t) p.1)

pub coded_exact : {A : Type 0} (code : ℕ → Result A Fault) → Exact (Coded code) Any (coded_at code)
coded_exact code = record {
  sound = λ bytes x rest small e. (coded_sound code bytes x rest e, tt);
  complete = λ text rest x h k. rw (h.2, h.1);
}

-- A reader after a given byte is used only if the byte is there.
chosen_tag : {A : Type 0} (c : Bool) (bs : List ℕ) (r : Reader A) (y : A × List ℕ) → ◌>>=◌ {A = Unit {0} × List ℕ} (cond c (Ok (tt {0}, bs)) (Err Malformed)) (λ u. r u.1) ≡ Ok y → (c ≡ true) × (r bs ≡ Ok y)
chosen_tag true bs r y e = (refl, e)
chosen_tag false bs r y e = cc

tag_then : {A : Type 0} (tag : ℕ) (r : Reader A) (bytes : List ℕ) (y : A × List ℕ) → tagged_at tag r bytes ≡ Ok y → (bs : List ℕ) × (bytes ≡ tag ∷ bs) × (r bs ≡ Ok y)
unfolding tag_at
tag_then tag r [] y e = cc
tag_then tag r (b ∷ bs) y e = let h = chosen_tag (b == tag) bs r y e in (bs, ap (λ c. c ∷ bs) (eqb-true b tag h.0), h.1)

tag_self : {A : Type 0} (tag : ℕ) (r : Reader A) (bs : List ℕ) → tagged_at tag r (tag ∷ bs) ≡ r bs
unfolding tag_at
tag_self tag r bs = let same : tag == tag ≡ true = grind arith in rw same

pub tagged_exact : {A : Type 0} {P : List ℕ → A → Type 0} {S : A → Type 0} {r : Reader A} (tag : ℕ) → Exact P S r → Exact {A = A} (After tag P) S (tagged_at tag r)
tagged_exact {A} {P} {S} {r} tag exact = record {
  sound = λ bytes x rest small e.
      let t = tag_then tag r bytes (x, rest) e in
      let u = exact.sound t.0 x rest (λ i. subst IsBytes t.1 small (suc i)) t.2 in
      ((tag ∷ u.0.0, (u.0.0, u.0.1, refl), t.1 ∙ ap (λ b. tag ∷ b) u.0.2), u.1);
  complete = λ text rest x h k. rw h.2 (tag_self tag r (h.0 ++ rest) ∙ exact.complete h.0 rest x h.1 k);
}

pub closed_exact : {A : Type 0} {P : List ℕ → A → Type 0} {r : Reader A} (tag : ℕ) → Exact P Any r → Exact {A = A} (Closed tag P) Any (closed_at tag r)
closed_exact {A} {P} {r} tag exact = record {
  sound = λ bytes x rest small e.
      let y = bind_ok (r bytes) _ _ e in
      let one = (exact.sound bytes y.0.0 y.0.1 small y.1).0 in
      let t = tag_then tag (λ bs. Ok (y.0.0, bs)) y.0.1 (x, rest) y.2 in
      let p = ok_pair {E = Fault} y.0.0 x t.0 rest t.2 in
      let two : TakesOff (λ b. b ≡ tag ∷ []) y.0.1 rest = (tag ∷ [], refl, t.1 ∙ ap (λ b. tag ∷ b) p.1) in
      (took_then (λ b. P b x) (λ b. b ≡ tag ∷ []) bytes y.0.1 rest (subst (λ z. TakesOff (λ b. P b z) bytes y.0.1) p.0 one) two, tt);
  complete = λ text rest x h k. rw (split _ _ text rest h, exact.complete h.0 (h.1 ++ rest) x h.2 tt, h.3) (tag_self tag (λ bs. Ok (x, bs)) rest);
}

-- ---- a given number of items

module _ {A E : Type 0} (P : List ℕ → A → Type 0) (S : ℕ → A → Type 0) (item : ℕ → List ℕ → Result (A × List ℕ) E) (next : ℕ → A → ℕ) (exact : (state : ℕ) → Exact P (S state) (item state)) where
  pub each_sound : (n state : ℕ) (bytes : List ℕ) (xs : List A) (rest : List ℕ) → IsBytes bytes → each_from item next n state bytes ≡ Ok (xs, rest) → TakesOff (λ b. Each P b xs) bytes rest × (n ≡ length xs) × Along S next state xs
  unfolding each_from
  each_sound zero state bytes xs rest small e =
      let p = ok_pair {E = E} [] xs bytes rest e in
      (([], subst (Each P []) p.0 refl, p.1), ap length p.0, subst (Along S next state) p.0 tt)
  each_sound (suc n) state bytes xs rest small e =
      let x = bind_ok (item state bytes) _ _ e in
      let first = (exact state).sound bytes x.0.0 x.0.1 small x.1 in
      let others = bind_ok (each_from item next n (next state x.0.0) x.0.1) _ _ x.2 in
      let later = each_sound n (next state x.0.0) x.0.1 others.0.0 others.0.1 (small_rest _ bytes x.0.1 small first.0) others.1 in
      let p = ok_pair {E = E} (x.0.0 ∷ others.0.0) xs others.0.1 rest others.2 in
      let both = took_then (λ b. P b x.0.0) (λ b. Each P b others.0.0) bytes x.0.1 others.0.1 first.0 later.0 in (
        subst (TakesOff (λ b. Each P b xs) bytes) p.1 (took_as _ (λ b. Each P b xs) bytes others.0.1 (λ text h. subst (Each P text) p.0 h) both),
        ap suc later.1 ∙ ap length p.0,
        subst (Along S next state) p.0 (first.1, later.2),
      )

  pub each_complete : (xs : List A) (state : ℕ) (text rest : List ℕ) → Each P text xs → Along S next state xs → each_from item next (length xs) state (text ++ rest) ≡ Ok (xs, rest)
  unfolding each_from
  each_complete [] state text rest h k = rw h
  each_complete (x ∷ xs) state text rest h k =
      rw (split _ _ text rest h, (exact state).complete h.0 (h.1 ++ rest) x h.2 k.0, each_complete xs (next state x) h.1 rest h.3 k.1)

pub along_every : {A : Type 0} (S : A → Type 0) (xs : List A) → Along (λ s. S) (λ s x. 0) 0 xs → Every S xs
along_every S [] h = tt
along_every S (x ∷ xs) h = (h.0, along_every S xs h.1)

pub every_along : {A : Type 0} (S : A → Type 0) (xs : List A) → Every S xs → Along (λ s. S) (λ s x. 0) 0 xs
every_along S [] h = tt
every_along S (x ∷ xs) h = (h.0, every_along S xs h.1)

pub every_any : {A : Type 0} (xs : List A) → Every {A = A} Any xs
every_any [] = tt
every_any (x ∷ xs) = (tt, every_any xs)

module _ {A : Type 0} (P : List ℕ → A → Type 0) (S : A → Type 0) (item : Reader A) (exact : Exact P S item) where
  same_sound : (n : ℕ) (bytes : List ℕ) (xs : List A) (rest : List ℕ) → IsBytes bytes → each_at item n bytes ≡ Ok (xs, rest) → TakesOff (λ b. Each P b xs) bytes rest × (n ≡ length xs) × Every S xs
  same_sound n bytes xs rest small e =
      let t = each_sound P (λ s. S) (λ s. item) (λ s x. 0) (λ s. exact) n 0 bytes xs rest small e in (t.0, t.1, along_every S xs t.2)

  same_complete : (xs : List A) (text rest : List ℕ) → Each P text xs → Every S xs → each_at item (length xs) (text ++ rest) ≡ Ok (xs, rest)
  same_complete xs text rest h k = each_complete P (λ s. S) (λ s. item) (λ s x. 0) (λ s. exact) xs 0 text rest h (every_along S xs k)

  -- The reader of a vector without a limit is exact.
  list_exact_at : Exact (Vector P) (Every S) (list_at item)
  unfolding list_at
  list_exact_at = record {
    sound = λ bytes xs rest small e.
        let n = bind_ok (u32_at bytes) _ _ e in
        let count = (u32_exact.sound bytes n.0.0 n.0.1 small n.1).0 in
        let later = same_sound n.0.0 n.0.1 xs rest (small_rest _ bytes n.0.1 small count) n.2 in
        (took_then (λ b. U32 b (length xs)) (λ b. Each P b xs) bytes n.0.1 rest (subst (λ k. TakesOff (λ b. U32 b k) bytes n.0.1) later.1 count) later.0, later.2);
    complete = λ text rest xs h k. rw (split _ _ text rest h, u32_exact.complete h.0 (h.1 ++ rest) (length xs) h.2 tt, same_complete xs h.1 rest h.3 k);
  }

  -- The reader of a vector with a limit is exact.
  vector_exact_at : (which : Which) → Exact (Vector P) (Few (limit which) S) (vector_at which item)
  unfolding vector_at
  vector_exact_at which = record {
    sound = λ bytes xs rest small e.
        let n = bind_ok (u32_at bytes) _ _ e in
        let count = (u32_exact.sound bytes n.0.0 n.0.1 small n.1).0 in
        let few = within_most (Limit which) (limit which) n.0.0 _ _ n.2 in
        let later = same_sound n.0.0 n.0.1 xs rest (small_rest _ bytes n.0.1 small count) few.1 in (
          took_then (λ b. U32 b (length xs)) (λ b. Each P b xs) bytes n.0.1 rest (subst (λ k. TakesOff (λ b. U32 b k) bytes n.0.1) later.1 count) later.0,
          (subst (λ k. k ≤ limit which) later.1 few.0, later.2),
        );
    complete = λ text rest xs h k.
        rw (split _ _ text rest h, u32_exact.complete h.0 (h.1 ++ rest) (length xs) h.2 tt, le-ltb (limit which) (length xs) k.0, same_complete xs h.1 rest h.3 k.1);
  }

pub list_exact : {A : Type 0} {P : List ℕ → A → Type 0} {item : Reader A} → Exact P Any item → Exact (Vector P) Any (list_at item)
list_exact {A} {P} {item} exact = other_small (λ xs h. tt) (λ xs h. every_any xs) (list_exact_at P Any item exact)

pub vector_exact : {A : Type 0} {P : List ℕ → A → Type 0} {S : A → Type 0} {item : Reader A} (which : Which) → Exact P S item → Exact (Vector P) (Few (limit which) S) (vector_at which item)
vector_exact {A} {P} {S} {item} which exact = vector_exact_at P S item exact which

-- ---- one value

-- Bytes that begin with encodings of two values begin with one encoding of one value.
pub one_value : {A E : Type 0} (P : List ℕ → A → Type 0) (S : A → Type 0) (r : List ℕ → Result (A × List ℕ) E) → Exact P S r → (one other rest more : List ℕ) (x y : A) → one ++ rest ≡ other ++ more → P one x → S x → P other y → S y → (x ≡ y) × (rest ≡ more)
one_value {A} {E} P S r exact one other rest more x y e p s q t =
    ok_pair {E = E} x y rest more (sym (exact.complete one rest x p s) ∙ ap r e ∙ exact.complete other more y q t)
