-- The number or content that is read off the front of bytes is the one that is spelled there.
use Rattle.base_lists.proofs.Common.{◌≡◌, ℕ, ◌≤◌, List, ◌++◌, length, take, drop, Result, Ok, Err, cond, ⊎_elim, refl, sym, ap, ◌∙◌, subst, arith, append_assoc, cases_lt, lt-ltb, le-ltb, nat_lt, bind_ok}
use Rattle.std.proofs.Common.{length-append}
use Rattle.wasm_bytes.specs.declared.cursor.Wrong.{Wrong}
use Rattle.wasm_bytes.specs.declared.cursor.Wrong.TheVariants.{Short}
use Rattle.wasm_bytes.specs.Prelude.{Takes, TakesOff, last_unsigned, join_unsigned, IsBytes, sized_at, U32, Sized, ◌>>=◌}
use Rattle.wasm_bytes.specs.Reading.{take_at, unsigned_at}
use Rattle.wasm_bytes.proofs.NumberLaws.{reading_of_spelled, spelled_of_reading}
use Rattle.wasm_bytes.proofs.Lists.{take_all, drop_all, halves, taken}

pub u32_sound : (bytes : List ℕ) (n : ℕ) (rest : List ℕ) → IsBytes bytes → unsigned_at 32 bytes ≡ Ok (n, rest) → Takes U32 bytes n rest
unfolding unsigned_at
u32_sound bytes n rest small e = spelled_of_reading last_unsigned join_unsigned 32 bytes n rest small e

pub u32_complete : (text rest : List ℕ) (n : ℕ) → U32 text n → unsigned_at 32 (text ++ rest) ≡ Ok (n, rest)
unfolding unsigned_at
u32_complete text rest n h = reading_of_spelled last_unsigned join_unsigned 32 text rest n h

enough : (a b : ℕ) (x y : List ℕ × List ℕ) → cond (nat_lt a b) (Err Short) (Ok x) ≡ Ok y → (b ≤ a) × (x ≡ y)
enough a b x y e = ⊎_elim (λ lt. let bad = rw (lt-ltb a b lt) at e in cc) (λ le. let good = rw (le-ltb a b le) at e in (le, cc)) (cases_lt a b)

pub take_sound : (count : ℕ) (bytes text rest : List ℕ) → take_at count bytes ≡ Ok (text, rest) → (bytes ≡ text ++ rest) × (length text ≡ count)
take_sound count bytes text rest e =
    let p = enough (length bytes) count (take count bytes, drop count bytes) (text, rest) e in
    let one : take count bytes ≡ text = ap (λ (q : List ℕ × List ℕ). q.0) p.1 in
    let two : drop count bytes ≡ rest = ap (λ (q : List ℕ × List ℕ). q.1) p.1 in
    (halves count bytes ∙ ap (λ t. t ++ drop count bytes) one ∙ ap (λ t. text ++ t) two, ap length (sym one) ∙ taken count bytes p.0)

pub take_complete : (text rest : List ℕ) → take_at (length text) (text ++ rest) ≡ Ok (text, rest)
take_complete text rest =
    let fits : length text ≤ length (text ++ rest) = omega (arith, length-append text rest) in
    rw (le-ltb (length (text ++ rest)) (length text) fits, take_all text rest, drop_all text rest)

-- The content behind its length, for any encoding of the length.
module _ (encodes : List ℕ → ℕ → Type 0) (reader : List ℕ → Result (ℕ × List ℕ) Wrong) where
  pub content_sound : ((bytes : List ℕ) (n : ℕ) (rest : List ℕ) → IsBytes bytes → reader bytes ≡ Ok (n, rest) → Takes encodes bytes n rest) → (bytes content rest : List ℕ) → IsBytes bytes →
      (reader bytes >>= (λ n. take_at n.0 n.1)) ≡ Ok (content, rest) → TakesOff (λ t. (size : List ℕ) × encodes size (length content) × (t ≡ size ++ content)) bytes rest
  content_sound sound bytes content rest small e =
      let n = bind_ok (reader bytes) _ _ e in
      let size = sound bytes n.0.0 n.0.1 small n.1 in
      let t = take_sound n.0.0 n.0.1 content rest n.2 in
      (size.0 ++ content, (size.0, subst (encodes size.0) (sym t.1) size.1, refl), size.2 ∙ ap (λ t. size.0 ++ t) t.0 ∙ sym (append_assoc size.0 content rest))

  pub content_complete : ((text rest : List ℕ) (n : ℕ) → encodes text n → reader (text ++ rest) ≡ Ok (n, rest)) → (text rest content : List ℕ) → ((size : List ℕ) × encodes size (length content) × (text ≡ size ++ content)) →
      (reader (text ++ rest) >>= (λ n. take_at n.0 n.1)) ≡ Ok (content, rest)
  content_complete complete text rest content h =
      let e : text ++ rest ≡ h.0 ++ (content ++ rest) = ap (λ t. t ++ rest) h.2 ∙ append_assoc h.0 content rest in
      rw (e, complete h.0 (content ++ rest) (length content) h.1) (take_complete content rest)

pub sized_sound : (bytes content rest : List ℕ) → IsBytes bytes → sized_at bytes ≡ Ok (content, rest) → TakesOff (λ t. Sized t content) bytes rest
sized_sound = content_sound U32 (unsigned_at 32) u32_sound

pub sized_complete : (text rest content : List ℕ) → Sized text content → sized_at (text ++ rest) ≡ Ok (content, rest)
sized_complete = content_complete U32 (unsigned_at 32) u32_complete
