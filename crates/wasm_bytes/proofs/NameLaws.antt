-- A name is read exactly where one is spelled.
use Rattle.base_lists.proofs.Common.{◌≡◌, ℕ, ◌≤◌, List, ◌++◌, length, take, drop, Result, Ok, Err, false, inl, inr, ⊎_elim, refl, sym, ap, ◌∙◌, subst, arith, append_assoc, cases_lt, lt-ltb, le-ltb, cases_Bool, IsUtf8-from_is_utf8, is_utf8-from_IsUtf8, IsUtf8, is_utf8}
use Rattle.wasm_bytes.specs.declared.cursor.Wrong.{Wrong}
use Rattle.wasm_bytes.specs.declared.cursor.Wrong.TheVariants.{Short, Spelling}
use Rattle.wasm_bytes.specs.Prelude.{Takes, last_unsigned, join_unsigned, IsBytes, U32, Named}
use Rattle.wasm_bytes.specs.Numbers.{IsCut, IsMisspelled}
use Rattle.wasm_bytes.specs.Reading.{CursorGives, unsigned_at, utf8_or_spelling, name_at}
use Rattle.wasm_bytes.specs.Joins.{IsNameShort, IsNameMisspelled, IsNameRead}
use Rattle.wasm_bytes.proofs.NumberLaws.{reading_of_cut, cut_of_reading, unsigned_ends}
use Rattle.wasm_bytes.proofs.Lists.{halves, taken}
use Rattle.wasm_bytes.proofs.Sized.{u32_sound, u32_complete, sized_complete}

u32_cut : (old : List ℕ) → IsCut U32 old → unsigned_at 32 old ≡ Err Short
unfolding unsigned_at
u32_cut old c = reading_of_cut last_unsigned join_unsigned 32 old c.0 c.1 c.2 c.3

cut_u32 : (old : List ℕ) → IsBytes old → unsigned_at 32 old ≡ Err Short → IsCut U32 old
unfolding unsigned_at
cut_u32 old small e = cut_of_reading last_unsigned join_unsigned unsigned_ends 32 old (omega arith) small e

u32_taken : (old : List ℕ) (n : ℕ) (rest : List ℕ) → Takes U32 old n rest → unsigned_at 32 old ≡ Ok (n, rest)
u32_taken old n rest t = ap (unsigned_at 32) t.2 ∙ u32_complete t.0 rest n t.1

misspelled_u32 : (old : List ℕ) → IsBytes old → unsigned_at 32 old ≡ Err Spelling → IsMisspelled U32 old
misspelled_u32 old small e = ((λ v rest t. let k = sym e ∙ u32_taken old v rest t in cc), (λ c. let k = sym e ∙ u32_cut old c in cc))

u32_misspelled : (old : List ℕ) → IsBytes old → IsMisspelled U32 old → unsigned_at 32 old ≡ Err Spelling
u32_misspelled old small m =
    let wrong : (w : Wrong) → unsigned_at 32 old ≡ Err w → ◌≡◌ {A = Result (ℕ × List ℕ) Wrong} (Err w) (Err Spelling)
    = elim [ Short ↦ (λ e. absurd (m.1 (cut_u32 old small e))) | Spelling ↦ (λ e. refl) ] in
    let split : (u : Result (ℕ × List ℕ) Wrong) → unsigned_at 32 old ≡ u → u ≡ Err Spelling
    = elim [ Ok p ↦ (λ e. absurd (m.0 p.0 p.1 (u32_sound old p.0 p.1 small e))) | Err w ↦ wrong w ] in
    split (unsigned_at 32 old) refl

-- ---- what a reading shows

Shows : List ℕ → Result (List ℕ × List ℕ) Wrong → Type 0
Shows old (Ok p) = Takes Named old p.0 p.1
Shows old (Err Short) = IsNameShort old
Shows old (Err Spelling) = IsNameMisspelled old

shows_text : (old : List ℕ) (n : ℕ) (rest : List ℕ) → Takes U32 old n rest → n ≤ length rest → Shows old (utf8_or_spelling (take n rest) (drop n rest))
unfolding Shows
shows_text old n rest t le = ⊎_elim
    (λ yes. rw yes
    (let e : old ≡ (t.0 ++ take n rest) ++ drop n rest = t.2 ∙ ap (λ r. t.0 ++ r) (halves n rest) ∙ sym (append_assoc t.0 (take n rest) (drop n rest)) in
    let size = subst (U32 t.0) (sym (taken n rest le)) t.1 in
    (t.0 ++ take n rest, (IsUtf8-from_is_utf8 (take n rest) yes, (t.0, size, refl)), e)))
    (λ no. rw no (inr (n, rest, t, le, (λ u. let k = sym no ∙ is_utf8-from_IsUtf8 (take n rest) u in cc))))
    (cases_Bool (is_utf8 (take n rest)))

shows : (old : List ℕ) → IsBytes old → (u : Result (ℕ × List ℕ) Wrong) → unsigned_at 32 old ≡ u → Shows old (name_at old)
unfolding name_at Shows
shows old small (Ok p) e = ⊎_elim
    (λ lt. rw (e, lt-ltb (length p.1) p.0 lt) (inr (p.0, p.1, u32_sound old p.0 p.1 small e, lt)))
    (λ le. rw (e, le-ltb (length p.1) p.0 le) (shows_text old p.0 p.1 (u32_sound old p.0 p.1 small e) le))
    (cases_lt (length p.1) p.0)
shows old small (Err Short) e = rw e (inl (cut_u32 old small e))
shows old small (Err Spelling) e = rw e (inl (misspelled_u32 old small e))

-- ---- what is read of what is spelled

name_of_named : (old text rest : List ℕ) → Takes Named old text rest → name_at old ≡ Ok (text, rest)
unfolding name_at
name_of_named old text rest t = rw (t.2, sized_complete t.0 rest text t.1.1, is_utf8-from_IsUtf8 text t.1.0)

name_of_short : (old : List ℕ) → IsNameShort old → name_at old ≡ Err Short
unfolding name_at
name_of_short old h = ⊎_elim
    (λ c. rw (u32_cut old c))
    (λ t. rw (u32_taken old t.0 t.1 t.2, lt-ltb (length t.1) t.0 t.3))
    h

not_text : (text : List ℕ) → (IsUtf8 text → ⊥) → is_utf8 text ≡ false
not_text text never = ⊎_elim (λ yes. absurd (never (IsUtf8-from_is_utf8 text yes))) (λ e. e) (cases_Bool (is_utf8 text))

name_of_misspelled : (old : List ℕ) → IsBytes old → IsNameMisspelled old → name_at old ≡ Err Spelling
unfolding name_at
name_of_misspelled old small h = ⊎_elim
    (λ m. rw (u32_misspelled old small m))
    (λ t. rw (u32_taken old t.0 t.1 t.2, le-ltb (length t.1) t.0 t.3, not_text (take t.0 t.1) t.4))
    h

pub name_read : (old : List ℕ) (result : Result (List ℕ) Wrong) (new : List ℕ) (r : Result (List ℕ × List ℕ) Wrong) → IsBytes old → name_at old ≡ r → CursorGives r old result new → IsNameRead old result new
unfolding Shows
name_read old result new (Ok p) small e g =
    let took = subst (Shows old) e (shows old small _ refl) in
    let not_err : (w : Wrong) → result ≡ Err w → ⊥ = λ w h. let k = sym g.0 ∙ h in cc in
    record {
      ok = rw (g.0, g.1) took;
      only = λ text rest t. let q : p ≡ (text, rest) = let k = sym e ∙ name_of_named old text rest t in cc in (g.0 ∙ ap (λ (x : List ℕ × List ℕ). Ok x.0) q, g.1 ∙ ap (λ (x : List ℕ × List ℕ). x.1) q);
      short = (λ h. absurd (not_err Short h), λ h. absurd (let k = sym e ∙ name_of_short old h in cc));
      misspelled = (λ h. absurd (not_err Spelling h), λ h. absurd (let k = sym e ∙ name_of_misspelled old small h in cc));
      err = rw g.0 tt;
    }
name_read old result new (Err Short) small e g =
    let cut = subst (Shows old) e (shows old small _ refl) in
    record {
      ok = rw g.0 tt;
      only = λ text rest t. absurd (let k = sym e ∙ name_of_named old text rest t in cc);
      short = (λ h. cut, λ h. g.0);
      misspelled = (λ h. absurd (let k = sym g.0 ∙ h in cc), λ h. absurd (let k = sym e ∙ name_of_misspelled old small h in cc));
      err = rw g.0 g.1;
    }
name_read old result new (Err Spelling) small e g =
    let wrong = subst (Shows old) e (shows old small _ refl) in
    record {
      ok = rw g.0 tt;
      only = λ text rest t. absurd (let k = sym e ∙ name_of_named old text rest t in cc);
      short = (λ h. absurd (let k = sym g.0 ∙ h in cc), λ h. absurd (let k = sym e ∙ name_of_short old h in cc));
      misspelled = (λ h. wrong, λ h. g.0);
      err = rw g.0 g.1;
    }

-- ---- the steps of reading one

pub name_text : (bytes : List ℕ) (n : ℕ) (rest : List ℕ) → unsigned_at 32 bytes ≡ Ok (n, rest) → n ≤ length rest → IsUtf8 (take n rest) → name_at bytes ≡ Ok (take n rest, drop n rest)
unfolding name_at
name_text bytes n rest e le u = rw (e, le-ltb (length rest) n le, is_utf8-from_IsUtf8 (take n rest) u)

pub name_no_text : (bytes : List ℕ) (n : ℕ) (rest : List ℕ) → unsigned_at 32 bytes ≡ Ok (n, rest) → n ≤ length rest → (IsUtf8 (take n rest) → ⊥) → name_at bytes ≡ Err Spelling
unfolding name_at
name_no_text bytes n rest e le never = rw (e, le-ltb (length rest) n le, not_text (take n rest) never)
