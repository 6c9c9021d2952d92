-- Reading a body reports the stops of its bytes, and no others; so does reading the content of a
-- code entry.
use Rattle.base_lists.proofs.Common.{◌≡◌, ℕ, zero, suc, ◌≤◌, List, [], ◌∷◌, ◌++◌, length, Result, Ok, Err, Bool, true, false, cond, ◌⊎◌, inl, inr, ⊎_elim, refl, sym, ap, ◌∙◌, subst, arith, append_assoc, ◌==◌, cond_is}
use Rattle.std.proofs.Common.{length-append}
use Rattle.wasm_bytes.specs.Prelude.{TakesOff, Then, Each, ◌>>=◌, IsBytes}
use Rattle.wasm_bytes.proofs.Lists.{small_rest}
use Rattle.wasm_tree_spec.specs.Prelude.{BlockType, Instr, Block, Loop, If, Nesting, limit}
use Rattle.wasm_read_spec.specs.declared.fault.Fault.{Fault}
use Rattle.wasm_read_spec.specs.declared.fault.Fault.TheVariants.{Malformed, Limit}
use Rattle.wasm_read_spec.specs.declared.token.Opener.{Opener}
use Rattle.wasm_read_spec.specs.declared.token.Opener.TheVariants as opener
use Rattle.wasm_read_spec.specs.declared.token.Token.{Token}
use Rattle.wasm_read_spec.specs.declared.token.Token.TheVariants.{Open, Else, End, Plain}
use Rattle.wasm_read_spec.specs.declared.token.Sequence.{Sequence}
use Rattle.wasm_read_spec.specs.Prelude.{SpellsToken, Stop, Over, ReadResult, behind, token_at, after_token, whole, enclosed, code_of, locals_at}
use Rattle.wasm_read_spec.specs.Stops.{LocalsStop, TokenStops, LeaveOpen, nested, in_block, in_else, NestingStops, BodyStops, CodeStops}
use Rattle.wasm_read_spec.specs.BodyReading.{block_at, sequence_at, body_at, closed, code_at}
use Rattle.wasm_read_spec.proofs.TokenLaws.{token_sound, token_complete}
use Rattle.wasm_read_spec.proofs.NestLaws.{to_in, from_in}
use Rattle.wasm_read_spec.proofs.BodyLaws.{NestsIn, no_more, one_plain, tokens_split, tokens_join, long, flat_token, reads_to_else, sequence_complete, ended, took_join, one_token, block_sound, sequence_sound}
use Rattle.wasm_read_spec.proofs.ItemLaws.{locals_exact}
use Rattle.wasm_read_spec.proofs.Stopping.{bind_err, ok_err, same_err, fault_of, Known, known_as, Tells}
use Rattle.wasm_read_spec.proofs.ItemStops.{locals_tell}
use Rattle.wasm_read_spec.proofs.TokenStops.{token_tells}

-- ---- tokens that leave a sequence open, by their depth

data LeaveIn : ℕ → List Token → ℕ → Type 0 where
  nests : {d : ℕ} {ts : List Token} {is : List Instr} → NestsIn d ts is → LeaveIn d ts d
  inside : {d e : ℕ} {ts us : List Token} {is : List Instr} (k : Opener) (ty : BlockType) → NestsIn (suc d) ts is → LeaveIn d us e → LeaveIn (suc d) (ts ++ Open k ty ∷ us) e
  behind_else : {d e : ℕ} {ts arm us : List Token} {is js : List Instr} (ty : BlockType) → NestsIn (suc d) ts is → NestsIn d arm js → LeaveIn d us e → LeaveIn (suc d) (ts ++ Open opener.If ty ∷ (arm ++ Else ∷ us)) e

to_leave_in : {d e : ℕ} {ts : List Token} → LeaveOpen d ts e → LeaveIn d ts e
to_leave_in (nested n le) = nests (to_in n _ le)
to_leave_in (in_block k ty n le r) = inside k ty (to_in n _ le) (to_leave_in r)
to_leave_in (in_else ty n le m low r) = behind_else ty (to_in n _ le) (to_in m _ low) (to_leave_in r)

from_leave_in : {d e : ℕ} {ts : List Token} → LeaveIn d ts e → LeaveOpen d ts e
from_leave_in (nests n) = let k = from_in n in nested k.0 k.1
from_leave_in (inside k ty n r) = let a = from_in n in in_block k ty a.0 a.1 (from_leave_in r)
from_leave_in (behind_else ty n m r) = let a = from_in n in let b = from_in m in in_else ty a.0 a.1 b.0 b.1 (from_leave_in r)

leave_as : (d e : ℕ) (a b : List Token) → a ≡ b → LeaveIn d a e → LeaveIn d b e
leave_as d e a b same h = subst (λ z. LeaveIn d z e) same h

-- A sequence is left open in the same way after the tokens of one more instruction.
further : {d e : ℕ} {ts : List Token} (front : List Token) (i : Instr) → ((ts : List Token) (is : List Instr) → NestsIn d ts is → NestsIn d (front ++ ts) (i ∷ is)) → LeaveIn d ts e → LeaveIn d (front ++ ts) e
further front i g (nests n) = nests (g _ _ n)
further front i g (inside {d = d} {e = e} {ts = ts} {us = us} k ty n r) =
    leave_as (suc d) e ((front ++ ts) ++ Open k ty ∷ us) (front ++ (ts ++ Open k ty ∷ us)) (append_assoc front ts (Open k ty ∷ us)) (inside k ty (g ts _ n) r)
further front i g (behind_else {d = d} {e = e} {ts = ts} {arm = arm} {us = us} ty n m r) =
    leave_as (suc d) e ((front ++ ts) ++ Open opener.If ty ∷ (arm ++ Else ∷ us)) (front ++ (ts ++ Open opener.If ty ∷ (arm ++ Else ∷ us))) (append_assoc front ts (Open opener.If ty ∷ (arm ++ Else ∷ us))) (behind_else ty (g ts _ n) m r)

module _ (many : Bool) where
  abbrev Tokens : List Token → List ℕ → Type 0
  Tokens ts text = Each (SpellsToken many) text ts

  -- The stops of a body, with the depth of the tokens before the stop.
  abbrev StopsIn : ℕ → Stop → List ℕ → Type 0
  StopsIn d s bytes = (ts : List Token) × (e : ℕ) × LeaveIn d ts e × Then (Tokens ts) (λ b. TokenStops s b ⊎ NestingStops many e s b) bytes

  -- ---- a fault that is read is a malformed part or a stop

  behind_err : (a : List Instr) (r : ReadResult Sequence) (e : Fault) → behind a r ≡ Err e → r ≡ Err e
  behind_err a (Ok p) e h = cc
  behind_err a (Err w) e h = ap Err (same_err {A = Sequence × List ℕ} w e h)

  one_of : {A : Type 0} (b : Bool) (x : A) (e : Fault) → ◌≡◌ {A = Result A Fault} (cond b (Err Malformed) (Ok x)) (Err e) → e ≡ Malformed
  one_of true x e k = let same : Malformed ≡ e = cc in sym same
  one_of false x e k = cc

  whole_err : (s : Sequence × List ℕ) (e : Fault) → whole s ≡ Err e → e ≡ Malformed
  whole_err (s, rest) e h = two_of s.by_else (length rest == 0) h
    where
      two_of : (b c : Bool) → ◌≡◌ {A = Result (List Instr) Fault} (cond b (Err Malformed) (cond c (Ok s.items) (Err Malformed))) (Err e) → e ≡ Malformed
      two_of true c k = let same : Malformed ≡ e = cc in sym same
      two_of false true k = cc
      two_of false false k = let same : Malformed ≡ e = cc in sym same

  closed_err : (make : List Instr → Instr) (s : Sequence × List ℕ) (e : Fault) → closed make s ≡ Err e → e ≡ Malformed
  closed_err make (s, rest) e h = one_of s.by_else (make s.items, rest) e h

  join_tokens : (a b : List Token) (Q : List ℕ → Type 0) (bytes rest : List ℕ) → TakesOff (Tokens a) bytes rest → Then (Tokens b) Q rest → Then (Tokens (a ++ b)) Q bytes
  join_tokens a b Q bytes rest t h = (t.0 ++ h.0, h.1, tokens_join many a b t.0 h.0 t.1 h.2, h.3, t.2 ∙ ap (λ z. t.0 ++ z) h.4 ∙ sym (append_assoc t.0 h.0 h.1))

  -- A stop is also one after the tokens of one more instruction.
  carried : (d : ℕ) (front : List Token) (i : Instr) → ((ts : List Token) (is : List Instr) → NestsIn d ts is → NestsIn d (front ++ ts) (i ∷ is)) → (bytes rest : List ℕ) (s : Stop) → TakesOff (Tokens front) bytes rest → StopsIn d s rest → StopsIn d s bytes
  carried d front i g bytes rest s t h = (front ++ h.0, h.1, further front i g h.2, join_tokens front h.0 _ bytes rest t h.3)

  -- A stop inside a block is one of the sequence that begins with the block.
  entered : (d : ℕ) (k : Opener) (ty : BlockType) (bytes rest : List ℕ) (s : Stop) → TakesOff (λ x. SpellsToken many x (Open k ty)) bytes rest → StopsIn d s rest → StopsIn (suc d) s bytes
  entered d k ty bytes rest s t h = (Open k ty ∷ h.0, h.1, inside k ty no_more h.2, join_tokens (Open k ty ∷ []) h.0 _ bytes rest (one_token many (Open k ty) bytes rest t) h.3)

  -- A stop after the `else` of an `if` is one of the sequence that begins with the `if`.
  entered_else : (d : ℕ) (ty : BlockType) (bytes mid rest : List ℕ) (arm : List Token) (js : List Instr) (s : Stop) → TakesOff (λ x. SpellsToken many x (Open opener.If ty)) bytes mid → NestsIn d arm js → TakesOff (Tokens (arm ++ Else ∷ [])) mid rest → StopsIn d s rest → StopsIn (suc d) s bytes
  entered_else d ty bytes mid rest arm js s t n u h =
      let first = one_token many (Open opener.If ty) bytes mid t in
      let both = took_join many (Open opener.If ty ∷ []) (arm ++ Else ∷ []) bytes mid rest first u in
      let same : (Open opener.If ty ∷ (arm ++ Else ∷ [])) ++ h.0 ≡ Open opener.If ty ∷ (arm ++ Else ∷ h.0) = ap (λ z. Open opener.If ty ∷ z) (append_assoc arm (Else ∷ []) h.0) in
      (Open opener.If ty ∷ (arm ++ Else ∷ h.0), h.1, behind_else ty no_more n h.2, subst (λ z. Then (Tokens z) (λ b. TokenStops s b ⊎ NestingStops many h.1 s b) bytes) same (join_tokens (Open opener.If ty ∷ (arm ++ Else ∷ [])) h.0 _ bytes rest both h.3))

  module _ (n : ℕ) (ih : (d : ℕ) (bytes : List ℕ) (e : Fault) → IsBytes bytes → sequence_at many n d bytes ≡ Err e → Known (λ s. StopsIn d s bytes) e) where
    block_found : (d : ℕ) (k : Opener) (ty : BlockType) (bytes mid : List ℕ) (e : Fault) → IsBytes mid → TakesOff (λ x. SpellsToken many x (Open k ty)) bytes mid → block_at (sequence_at many n) d k ty mid ≡ Err e → Known (λ s. StopsIn d s bytes) e
    unfolding block_at
    block_found zero k ty bytes mid e small t h =
        inr (Over Nesting, sym (same_err {A = Instr × List ℕ} (Limit Nesting) e h), ([], zero, nests no_more, ([], bytes, refl, inr (k, ty, (t.0, mid, t.1, tt, t.2), refl, refl), refl)))
    block_found (suc d) k ty bytes mid e small t h = ⊎_elim
        (λ bad. known_as (λ s. StopsIn d s mid) (λ s. StopsIn (suc d) s bytes) e (λ s. entered d k ty bytes mid s t) (ih d mid e small bad))
        (λ good. end_found k good.0.0 good.0.1 good.1 t good.2)
        (bind_err (sequence_at many n d mid) (enclosed k ty (sequence_at many n d)) e h)
      where
        end_found : (k : Opener) (s : Sequence) (rest : List ℕ) → sequence_at many n d mid ≡ Ok (s, rest) → TakesOff (λ x. SpellsToken many x (Open k ty)) bytes mid → enclosed k ty (sequence_at many n d) (s, rest) ≡ Err e → Known (λ s. StopsIn (suc d) s bytes) e
        end_found opener.Block s rest read t h = inl (closed_err (Block ty) (s, rest) e h)
        end_found opener.Loop s rest read t h = inl (closed_err (Loop ty) (s, rest) e h)
        end_found opener.If s rest read t h = ⊎_elim
            (λ a. ⊎_elim
            (λ bad.
            let f = sequence_sound many n d mid s rest small read in
            let first = ended many d mid s rest true f a.0 in
            known_as (λ s. StopsIn d s rest) (λ s. StopsIn (suc d) s bytes) e (λ x. entered_else d ty bytes mid rest f.0 s.items x t f.1 first) (ih d rest e (small_rest _ mid rest small first) bad))
            (λ good. inl (closed_err (If ty s.items) good.0 e good.2))
            (bind_err (sequence_at many n d rest) _ e a.1))
            (λ a. absurd (ok_err (If ty s.items [], rest) e a.1))
            (cond_is s.by_else _ _ _ h)

    token_found : (d : ℕ) (t : Token) (bytes mid : List ℕ) (e : Fault) → IsBytes mid → TakesOff (λ x. SpellsToken many x t) bytes mid → after_token (sequence_at many n) d t mid ≡ Err e → Known (λ s. StopsIn d s bytes) e
    token_found d End bytes mid e small t h = absurd (ok_err _ e h)
    token_found d Else bytes mid e small t h = absurd (ok_err _ e h)
    token_found d (Plain i) bytes mid e small t h =
        known_as (λ s. StopsIn d s mid) (λ s. StopsIn d s bytes) e
        (λ s. carried d (Plain i ∷ []) i (λ ts is m. one_plain i (flat_token many d t.0 i t.1) m) bytes mid s (one_token many (Plain i) bytes mid t))
        (ih d mid e small (behind_err (i ∷ []) (sequence_at many n d mid) e h))
    token_found d (Open k ty) bytes mid e small t h = ⊎_elim
        (λ bad. block_found d k ty bytes mid e small t bad)
        (λ good.
        let node = block_sound many (sequence_at many n) (sequence_sound many n) d k ty mid good.0.0 good.0.1 small good.1 in
        known_as (λ s. StopsIn d s good.0.1) (λ s. StopsIn d s bytes) e
        (λ s. carried d (Open k ty ∷ node.0) good.0.0 node.1 bytes good.0.1 s (took_join many (Open k ty ∷ []) node.0 bytes mid good.0.1 (one_token many (Open k ty) bytes mid t) node.2))
        (ih d good.0.1 e (small_rest _ mid good.0.1 small node.2) (behind_err (good.0.0 ∷ []) (sequence_at many n d good.0.1) e good.2)))
        (bind_err (block_at (sequence_at many n) d k ty mid) _ e h)

  sequence_found : (n d : ℕ) (bytes : List ℕ) (e : Fault) → IsBytes bytes → sequence_at many n d bytes ≡ Err e → Known (λ s. StopsIn d s bytes) e
  unfolding sequence_at
  sequence_found zero d bytes e small h = inl (sym (same_err {A = Sequence × List ℕ} Malformed e h))
  sequence_found (suc n) d bytes e small h = ⊎_elim
      (λ bad. known_as (λ s. TokenStops s bytes) (λ s. StopsIn d s bytes) e (λ s k. ([], d, nests no_more, ([], bytes, refl, inl k, refl))) ((token_tells many).found bytes e small bad))
      (λ good.
      let took = token_sound many bytes good.0.0 good.0.1 small good.1 in
      token_found n (sequence_found n) d good.0.0 bytes good.0.1 e (small_rest _ bytes good.0.1 small took) took good.2)
      (bind_err (token_at many bytes) _ e h)

  -- ---- a stop is read as its fault

  -- Reading reports the stop if it has enough fuel.
  abbrev Meets : ℕ → List ℕ → Stop → Type 0
  Meets d bytes s = (n : ℕ) → length bytes ≤ n → sequence_at many n d bytes ≡ Err (fault_of s)

  behind_met : (a : List Instr) (r : ReadResult Sequence) (e : Fault) → r ≡ Err e → behind a r ≡ Err e
  behind_met a r e h = rw h

  token_met : (d : ℕ) (bytes : List ℕ) (s : Stop) → TokenStops s bytes → Meets d bytes s
  unfolding sequence_at
  token_met d bytes s h zero enough = let t = h.1 in let is = t.4 ∙ ap (λ z. z ++ t.1) t.2 in let le = ap length is in absurd (omega (arith, enough, le))
  token_met d bytes s h (suc n) enough = rw ((token_tells many).met bytes s h)

  nesting_met : (d : ℕ) (bytes : List ℕ) (s : Stop) → NestingStops many d s bytes → Meets d bytes s
  unfolding sequence_at block_at
  nesting_met d bytes s h zero enough = let t = h.2 in let le = ap length t.4 in let l = length-append t.0 t.1 in let k = long many t.0 (Open h.0 h.1) t.2 in absurd (omega (arith, enough, le, l, k))
  nesting_met d bytes s h (suc n) enough = let t = h.2 in rw (t.4, token_complete many t.0 (Open h.0 h.1) t.1 t.2, h.3, h.4)

  here_met : (d : ℕ) (bytes : List ℕ) (s : Stop) → TokenStops s bytes ⊎ NestingStops many d s bytes → Meets d bytes s
  here_met d bytes s h = ⊎_elim (token_met d bytes s) (nesting_met d bytes s) h

  -- A stop inside a block is reported after the token that opens the block.
  opened_met : (d : ℕ) (k : Opener) (ty : BlockType) (text rest : List ℕ) (s : Stop) → SpellsToken many text (Open k ty) → ((n : ℕ) → length rest ≤ n → (sequence_at many n d rest >>= enclosed k ty (sequence_at many n d)) ≡ Err (fault_of s)) → Meets (suc d) (text ++ rest) s
  unfolding sequence_at block_at
  opened_met d k ty text rest s t h zero enough = let l = length-append text rest in let p = long many text (Open k ty) t in absurd (omega (arith, enough, l, p))
  opened_met d k ty text rest s t h (suc n) enough = let l = length-append text rest in let p = long many text (Open k ty) t in rw (token_complete many text (Open k ty) rest t, h n (omega (arith, enough, l, p)))

  -- A stop is reported after the tokens of complete instructions.
  nested_met : (d : ℕ) (ts : List Token) (is : List Instr) (front back : List ℕ) (s : Stop) → NestsIn d ts is → Tokens ts front → Meets d back s → Meets d (front ++ back) s
  nested_met d ts is front back s n t h m enough =
      let r = sequence_complete many n front back t m enough in
      r.2 ∙ behind_met is _ _ (h r.0 r.1)

  regrouped : (text back a b c d : List ℕ) → text ≡ a ++ b → b ≡ c ++ d → a ++ (c ++ (d ++ back)) ≡ text ++ back
  regrouped text back a b c d p q = rw (p, q) (simp append_assoc)

  leave_met : {d e : ℕ} {ts : List Token} → LeaveIn d ts e → (front back : List ℕ) (s : Stop) → Tokens ts front → Meets e back s → Meets d (front ++ back) s
  leave_met (nests {d = d} {ts = ts} {is = is} n) front back s t h = nested_met d ts is front back s n t h
  leave_met (inside {d = d} {ts = ts} {us = us} {is = is} k ty n r) front back s t h =
      let p = tokens_split many ts (Open k ty ∷ us) front t in
      let w = p.3 in
      let same : p.0 ++ (w.0 ++ (w.1 ++ back)) ≡ front ++ back = regrouped front back p.0 p.1 w.0 w.1 p.4 w.4 in
      let later : Meets (suc d) (w.0 ++ (w.1 ++ back)) s = opened_met d k ty w.0 (w.1 ++ back) s w.2 (λ m enough. rw (leave_met r w.1 back s w.3 h m enough)) in
      subst (λ z. Meets (suc d) z s) same (nested_met (suc d) ts is p.0 (w.0 ++ (w.1 ++ back)) s n p.2 later)
  leave_met (behind_else {d = d} {ts = ts} {arm = arm} {us = us} {is = is} {js = js} ty n m r) front back s t h =
      let p = tokens_split many ts (Open opener.If ty ∷ (arm ++ Else ∷ us)) front t in
      let w = p.3 in
      let a = tokens_split many arm (Else ∷ us) w.1 w.3 in
      let v = a.3 in
      let same : p.0 ++ (w.0 ++ (w.1 ++ back)) ≡ front ++ back = regrouped front back p.0 p.1 w.0 w.1 p.4 w.4 in
      let inner : a.0 ++ (v.0 ++ (v.1 ++ back)) ≡ w.1 ++ back = regrouped w.1 back a.0 a.1 v.0 v.1 a.4 v.4 in
      let later : Meets (suc d) (w.0 ++ (w.1 ++ back)) s = opened_met d opener.If ty w.0 (w.1 ++ back) s w.2 (λ f enough.
      let le = ap length inner in
      let l1 = length-append a.0 (v.0 ++ (v.1 ++ back)) in
      let l2 = length-append v.0 (v.1 ++ back) in
      let read = reads_to_else many d a.0 js v.0 (v.1 ++ back) (sequence_complete many m a.0 (v.0 ++ (v.1 ++ back)) a.2) v.2 f (omega (arith, enough, le)) in
      let first : sequence_at many f d (w.1 ++ back) ≡ Ok (record { items = js; by_else = true }, v.1 ++ back) = subst (λ z. sequence_at many f d z ≡ Ok (record { items = js; by_else = true }, v.1 ++ back)) inner read in
      rw (first, leave_met r v.1 back s v.3 h f (omega (arith, enough, le, l1, l2)))) in
      subst (λ z. Meets (suc d) z s) same (nested_met (suc d) ts is p.0 (w.0 ++ (w.1 ++ back)) s n p.2 later)

  -- ---- a body, and what is inside an entry

  body_tells : Tells (BodyStops many (limit Nesting)) (body_at many)
  unfolding body_at
  body_tells = record {
    found = λ bytes e small h. ⊎_elim
        (λ bad. known_as (λ s. StopsIn (limit Nesting) s bytes) (λ s. BodyStops many (limit Nesting) s bytes) e (λ s k. (k.0, k.1, from_leave_in k.2, k.3)) (sequence_found (length bytes) (limit Nesting) bytes e small bad))
        (λ good. inl (whole_err good.0 e good.2))
        (bind_err (sequence_at many (length bytes) (limit Nesting) bytes) whole e h);
    met = λ bytes s h.
        let t = h.3 in
        let front = leave_met (to_leave_in h.2) t.0 t.1 s t.2 (here_met h.1 t.1 s t.3) (length (t.0 ++ t.1)) (omega arith) in
        let all : sequence_at many (length bytes) (limit Nesting) bytes ≡ Err (fault_of s) = subst (λ z. sequence_at many (length z) (limit Nesting) z ≡ Err (fault_of s)) (sym t.4) front in
        rw all;
  }

  pub code_tells : Tells (CodeStops many) (code_at many)
  unfolding code_at
  code_tells = record {
    found = λ bytes e small h. ⊎_elim
        (λ bad. known_as (λ s. LocalsStop s bytes) (λ s. CodeStops many s bytes) e (λ s. inl) (locals_tell.found bytes e small bad))
        (λ good.
        let ls = good.0 in
        let t = locals_exact.sound bytes ls.0 ls.1 small good.1 in
        ⊎_elim
        (λ bad. known_as (λ s. BodyStops many (limit Nesting) s ls.1) (λ s. CodeStops many s bytes) e (λ s k. inr (ls.0, t.1, (t.0.0, ls.1, t.0.1, k, t.0.2))) (body_tells.found ls.1 e (small_rest _ bytes ls.1 small t.0) bad))
        (λ ok. absurd (ok_err (code_of ls.0 ok.0) e ok.2))
        (bind_err (body_at many ls.1) _ e good.2))
        (bind_err (locals_at bytes) _ e h);
    met = λ bytes s h. ⊎_elim
        (λ k. rw (locals_tell.met bytes s k))
        (λ k. let t = k.2 in rw (t.4, locals_exact.complete t.0 t.1 k.0 t.2 k.1, body_tells.met t.1 s t.3))
        h;
  }
