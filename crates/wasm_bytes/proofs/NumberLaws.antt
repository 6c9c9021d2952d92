-- Reading a number finds the number that the bytes spell, and no other.
use Rattle.std.proofs.Common.{◌≡◌, ℕ, suc, ◌-◌, ◌^◌, ◌<◌, ◌≤◌, List, [], ◌∷◌, ◌++◌, append-nil, Option, Some, None, Result, Ok, Err, ⊎_elim, refl, sym, ap, ◌∙◌, arith, lt-ltb, le-ltb, ℤ, pos}
use Rattle.std.proofs.lemmas.Bool.{cases_lt}
use Rattle.std.proofs.lemmas.Nat.{pow_pos}
use Rattle.wasm_bytes.specs.declared.cursor.Wrong.{Wrong}
use Rattle.wasm_bytes.specs.declared.cursor.Wrong.TheVariants.{Short, Spelling}
use Rattle.wasm_bytes.specs.Numbers.{SpellsNumber, Takes, IsCut, IsRead, last_unsigned, last_signed}
use Rattle.wasm_bytes.specs.Reading.{ok_or_spelling, map_value, reading, CursorGives, IsBytes}

tail : (b : ℕ) (bs : List ℕ) → IsBytes (b ∷ bs) → IsBytes bs
tail b bs h i = h (suc i)

ok_or_spelling_ok : {V : Type 0} (o : Option V) (bs rest : List ℕ) (v : V) → ok_or_spelling o bs ≡ Ok (v, rest) → (o ≡ Some v) × (bs ≡ rest)
ok_or_spelling_ok (Some w) bs rest v e = let same : (w, bs) ≡ (v, rest) = cc in (ap (λ (p : _ × List ℕ). Some p.0) same, ap (λ (p : _ × List ℕ). p.1) same)
ok_or_spelling_ok None bs rest v e = cc

ok_or_spelling_short : {V : Type 0} (o : Option V) (bs : List ℕ) → ok_or_spelling o bs ≡ Err Short → ⊥
ok_or_spelling_short (Some w) bs e = cc
ok_or_spelling_short None bs e = cc

after_ok : {V : Type 0} (f : V → V) (r : Result (V × List ℕ) Wrong) (v : V) (rest : List ℕ) → map_value f r ≡ Ok (v, rest) → (high : V) × (r ≡ Ok (high, rest)) × (v ≡ f high)
after_ok f (Ok (w, bs)) v rest e = let same : (f w, bs) ≡ (v, rest) = cc in (w, ap (λ (p : _ × List ℕ). Ok (w, p.1)) same, sym (ap (λ (p : _ × List ℕ). p.0) same))
after_ok f (Err w) v rest e = cc

after_err : {V : Type 0} (f : V → V) (r : Result (V × List ℕ) Wrong) (w : Wrong) → map_value f r ≡ Err w → r ≡ Err w
after_err f (Ok p) w e = cc
after_err f (Err u) w e = let same : u ≡ w = cc in ap Err same

module _ {V : Type 0} (last : ℕ → ℕ → Option V) (join : ℕ → V → V) where
  pub SpellsNumber-more : (bits b : ℕ) (text : List ℕ) (v high : V) → 128 ≤ b → b < 256 → 7 < bits → v ≡ join b high → SpellsNumber last join (bits - 7) text high → SpellsNumber last join bits (b ∷ text) v
  SpellsNumber-more bits b [] v high h k l e s = absurd s
  SpellsNumber-more bits b (c ∷ bs) v high h k l e s = (h, k, l, high, e, s)

  pub reading_of_spelled : (bits : ℕ) (text rest : List ℕ) (v : V) → SpellsNumber last join bits text v → reading last join bits (text ++ rest) ≡ Ok (v, rest)
  reading_of_spelled bits [] rest v h = absurd h
  reading_of_spelled bits (b ∷ []) rest v h = rw (lt-ltb b 128 h.0, h.1)
  reading_of_spelled bits (b ∷ c ∷ bs) rest v h = rw (le-ltb b 128 h.0, lt-ltb 7 bits h.2, reading_of_spelled (bits - 7) (c ∷ bs) rest h.3 h.5) (ap (λ w. Ok (w, rest)) (sym h.4))

  pub spelled_of_reading : (bits : ℕ) (bytes : List ℕ) (v : V) (rest : List ℕ) → IsBytes bytes → reading last join bits bytes ≡ Ok (v, rest) → Takes (SpellsNumber last join bits) bytes v rest
  spelled_of_reading bits [] v rest small e = cc
  spelled_of_reading bits (b ∷ bs) v rest small e = ⊎_elim
      (λ lt. let p = ok_or_spelling_ok _ _ _ _ (rw (lt-ltb b 128 lt) at e) in (b ∷ [], (lt, p.0), ap (λ xs. b ∷ xs) p.1))
      (λ le. ⊎_elim
      (λ more.
      let p = after_ok (join b) _ v rest (rw (le-ltb b 128 le, lt-ltb 7 bits more) at e) in
      let t = spelled_of_reading (bits - 7) bs p.0 rest (tail b bs small) p.1 in
      (b ∷ t.0, SpellsNumber-more bits b t.0 v p.0 le (small 0) more p.2 t.1, ap (λ xs. b ∷ xs) t.2))
      (λ no. let bad = rw (le-ltb b 128 le, le-ltb 7 bits no) at e in cc)
      (cases_lt 7 bits))
      (cases_lt b 128)

  pub reading_of_cut : (bits : ℕ) (bytes : List ℕ) (x : ℕ) (more : List ℕ) (v : V) → SpellsNumber last join bits (bytes ++ x ∷ more) v → reading last join bits bytes ≡ Err Short
  reading_of_cut bits [] x more v h = refl
  reading_of_cut bits (b ∷ []) x more v h = rw (le-ltb b 128 h.0, lt-ltb 7 bits h.2)
  reading_of_cut bits (b ∷ c ∷ bs) x more v h = rw (le-ltb b 128 h.0, lt-ltb 7 bits h.2, reading_of_cut (bits - 7) (c ∷ bs) x more h.3 h.5)

  -- No spelling of a number is a proper prefix of another.
  pub ends_itself : (bits : ℕ) (text more : List ℕ) (v w : V) → SpellsNumber last join bits text v → SpellsNumber last join bits (text ++ more) w → (more ≡ []) × (v ≡ w)
  ends_itself bits text more v w one two =
      let first = reading_of_spelled bits text more v one in
      let whole : reading last join bits (text ++ more) ≡ Ok (w, []) = ap (reading last join bits) (sym (append-nil (text ++ more))) ∙ reading_of_spelled bits (text ++ more) [] w two in
      let both : (v, more) ≡ (w, []) = let k = sym first ∙ whole in cc in
      (ap (λ (p : V × List ℕ). p.1) both, ap (λ (p : V × List ℕ). p.0) both)

  -- The following lemmas are for encodings in which 0 can be a last byte.
  module _ (ends : (bits : ℕ) → 0 < bits → (v : V) × (last bits 0 ≡ Some v)) where
    pub cut_of_reading : (bits : ℕ) (bytes : List ℕ) → 0 < bits → IsBytes bytes → reading last join bits bytes ≡ Err Short → IsCut (SpellsNumber last join bits) bytes
    cut_of_reading bits [] some small e = let v = ends bits some in (0, [], v.0, (omega arith, v.1))
    cut_of_reading bits (b ∷ bs) some small e = ⊎_elim
        (λ lt. absurd (ok_or_spelling_short _ bs (rw (lt-ltb b 128 lt) at e)))
        (λ le. ⊎_elim
        (λ more.
        let p = after_err (join b) _ Short (rw (le-ltb b 128 le, lt-ltb 7 bits more) at e) in
        let t = cut_of_reading (bits - 7) bs (omega arith) (tail b bs small) p in
        (t.0, t.1, join b t.2, SpellsNumber-more bits b (bs ++ t.0 ∷ t.1) (join b t.2) t.2 le (small 0) more refl t.3))
        (λ no. let bad = rw (le-ltb b 128 le, le-ltb 7 bits no) at e in cc)
        (cases_lt 7 bits))
        (cases_lt b 128)

    pub read_of : (bits : ℕ) (old : List ℕ) (result : Result V Wrong) (new : List ℕ) (r : Result (V × List ℕ) Wrong) → 0 < bits → IsBytes old → reading last join bits old ≡ r → CursorGives r old result new → IsRead (SpellsNumber last join bits) old result new
    read_of bits old result new (Ok p) some small e g =
        let took = spelled_of_reading bits old p.0 p.1 small e in
        let not_err : (w : Wrong) → result ≡ Err w → ⊥ = λ w h. let k = sym g.0 ∙ h in cc in
        record {
          ok = rw (g.0, g.1) took;
          only = λ v rest t. let q : (p.0, p.1) ≡ (v, rest) = let k = sym e ∙ (ap (reading last join bits) t.2 ∙ reading_of_spelled bits t.0 rest v t.1) in cc in (g.0 ∙ ap (λ (x : V × List ℕ). Ok x.0) q, g.1 ∙ ap (λ (x : V × List ℕ). x.1) q);
          short = (λ h. absurd (not_err Short h), λ c. absurd (let k = sym e ∙ reading_of_cut bits old c.0 c.1 c.2 c.3 in cc));
          misspelled = (λ h. absurd (not_err Spelling h), λ m. absurd (m.0 p.0 p.1 took));
          err = rw g.0 tt;
        }
    read_of bits old result new (Err Short) some small e g =
        let cut = cut_of_reading bits old some small e in
        record {
          ok = rw g.0 tt;
          only = λ v rest t. absurd (let k = sym e ∙ (ap (reading last join bits) t.2 ∙ reading_of_spelled bits t.0 rest v t.1) in cc);
          short = (λ h. cut, λ c. g.0);
          misspelled = (λ h. absurd (let k = sym g.0 ∙ h in cc), λ m. absurd (m.1 cut));
          err = rw g.0 g.1;
        }
    read_of bits old result new (Err Spelling) some small e g =
        let no : (v : V) (rest : List ℕ) → Takes (SpellsNumber last join bits) old v rest → ⊥ = λ v rest t. let k = sym e ∙ (ap (reading last join bits) t.2 ∙ reading_of_spelled bits t.0 rest v t.1) in cc in
        let whole : IsCut (SpellsNumber last join bits) old → ⊥ = λ c. let k = sym e ∙ reading_of_cut bits old c.0 c.1 c.2 c.3 in cc in
        record {
          ok = rw g.0 tt;
          only = λ v rest t. absurd (no v rest t);
          short = (λ h. absurd (let k = sym g.0 ∙ h in cc), λ c. absurd (whole c));
          misspelled = (λ h. (no, whole), λ m. g.0);
          err = rw g.0 g.1;
        }

pub unsigned_ends : (bits : ℕ) → 0 < bits → (v : ℕ) × (last_unsigned bits 0 ≡ Some v)
unsigned_ends bits some = (0, rw (lt-ltb 0 (2 ^ bits) (pow_pos bits)))

pub signed_ends : (bits : ℕ) → 0 < bits → (v : ℤ) × (last_signed bits 0 ≡ Some v)
signed_ends bits some = (pos 0, rw (lt-ltb 0 (2 ^ (bits - 1)) (pow_pos (bits - 1))))
