-- Reading a sequence finds the instructions that its tokens encode, and nothing else.
use Rattle.base_lists.proofs.Common.{◌≡◌, ℕ, zero, suc, ◌<◌, ◌≤◌, List, [], ◌∷◌, ◌++◌, length, Ok, Err, Bool, true, false, cond, refl, sym, ap, ◌∙◌, subst, arith, append_assoc, append-nil, inl, inr, ⊎_elim, ◌⊎◌, eqb-suc-zero, bind_ok, ok_pair, err_ok}
use Rattle.std.proofs.Common.{length-append}
use Rattle.wasm_bytes.specs.Prelude.{TakesOff, Then, Each, IsBytes}
use Rattle.wasm_bytes.proofs.Lists.{small_rest}
use Rattle.wasm_tree_spec.specs.Prelude.{BlockType, Instr, Block, Loop, If, Nesting, limit}
use Rattle.wasm_read_spec.specs.declared.fault.Fault.{Fault}
use Rattle.wasm_read_spec.specs.declared.fault.Fault.TheVariants.{Malformed, Limit}
use Rattle.wasm_read_spec.specs.declared.token.Opener.{Opener}
use Rattle.wasm_read_spec.specs.declared.token.Opener.TheVariants as opener
use Rattle.wasm_read_spec.specs.declared.token.Token.{Token}
use Rattle.wasm_read_spec.specs.declared.token.Token.TheVariants.{Open, Else, End, Plain}
use Rattle.wasm_read_spec.specs.declared.token.Sequence.{Sequence}
use Rattle.wasm_read_spec.specs.Prelude.{SpellsToken, depth_of, ReadResult, behind, token_at, after_token, whole}
use Rattle.wasm_read_spec.specs.BodyReading.{block_at, sequence_at, body_at}
use Rattle.wasm_read_spec.proofs.TokenLaws.{token_sound, token_complete}
use Rattle.wasm_read_spec.proofs.Leaves.{of_token, flat}
use Rattle.wasm_read_spec.proofs.Blocks.{behind_none, behind_behind, seq_end, seq_else, seq_plain, seq_open}

-- The tokens encode the instructions, with at most `d` blocks open at once.
pub data NestsIn : ℕ → List Token → List Instr → Type 0 where
  no_more : {d : ℕ} → NestsIn d [] []
  one_plain : {d : ℕ} {ts : List Token} {is : List Instr} → (i : Instr) → depth_of i ≤ d → NestsIn d ts is → NestsIn d (Plain i ∷ ts) (i ∷ is)
  one_block : {d : ℕ} {inner ts : List Token} {body is : List Instr} → (ty : BlockType) → NestsIn d inner body → NestsIn (suc d) ts is → NestsIn (suc d) (Open opener.Block ty ∷ (inner ++ End ∷ ts)) (Block ty body ∷ is)
  one_loop : {d : ℕ} {inner ts : List Token} {body is : List Instr} → (ty : BlockType) → NestsIn d inner body → NestsIn (suc d) ts is → NestsIn (suc d) (Open opener.Loop ty ∷ (inner ++ End ∷ ts)) (Loop ty body ∷ is)
  one_if : {d : ℕ} {inner ts : List Token} {body is : List Instr} → (ty : BlockType) → NestsIn d inner body → NestsIn (suc d) ts is → NestsIn (suc d) (Open opener.If ty ∷ (inner ++ End ∷ ts)) (If ty body [] ∷ is)
  one_if_else : {d : ℕ} {inner other ts : List Token} {body otherwise is : List Instr} → (ty : BlockType) → NestsIn d inner body → NestsIn d other otherwise → NestsIn (suc d) ts is →
      NestsIn (suc d) (Open opener.If ty ∷ (inner ++ Else ∷ (other ++ End ∷ ts))) (If ty body otherwise ∷ is)

module _ (many : Bool) where
  -- ---- lists of tokens

  pub tokens_split : (a b : List Token) (text : List ℕ) → Each (SpellsToken many) text (a ++ b) → Then (λ x. Each (SpellsToken many) x a) (λ x. Each (SpellsToken many) x b) text
  tokens_split [] b text h = ([], text, refl, h, refl)
  tokens_split (t ∷ a) b text h =
      let s = tokens_split a b h.1 h.3 in
      (h.0 ++ s.0, s.1, (h.0, s.0, h.2, s.2, refl), s.3, h.4 ∙ ap (λ xs. h.0 ++ xs) s.4 ∙ sym (append_assoc h.0 s.0 s.1))

  pub tokens_join : (a b : List Token) (front back : List ℕ) → Each (SpellsToken many) front a → Each (SpellsToken many) back b → Each (SpellsToken many) (front ++ back) (a ++ b)
  tokens_join [] b front back h k = rw h k
  tokens_join (t ∷ a) b front back h k =
      (h.0, h.1 ++ back, h.2, tokens_join a b h.1 back h.3 k, ap (λ xs. xs ++ back) h.4 ∙ append_assoc h.0 h.1 back)

  pub long : (text : List ℕ) (t : Token) → SpellsToken many text t → 0 < length text
  long text t h = omega (arith, ap length (h.1.4 ∙ ap (λ z. z ++ h.1.1) h.1.2))

  pub flat_token : (d : ℕ) (text : List ℕ) (i : Instr) → SpellsToken many text (Plain i) → depth_of i ≤ d
  flat_token d text i h = let e = of_token many (λ j. depth_of j ≡ 0) (flat many) text i h in omega (arith, e)

  four : (a b c : List Token) → ((a ++ Else ∷ []) ++ (b ++ End ∷ [])) ++ c ≡ a ++ Else ∷ (b ++ End ∷ c)
  four a b c = simp append_assoc

  -- ---- what is encoded is read

  abbrev pub Reads : ℕ → List ℕ → List Instr → List ℕ → Type 0
  Reads d text is tail = (n : ℕ) → length (text ++ tail) ≤ n → (m : ℕ) × (length tail ≤ m) × (sequence_at many n d (text ++ tail) ≡ behind is (sequence_at many m d tail))

  pub reads_to_end : (d : ℕ) (text : List ℕ) (is : List Instr) (last rest : List ℕ) → Reads d text is (last ++ rest) → SpellsToken many last End →
      (n : ℕ) → length (text ++ (last ++ rest)) ≤ n → sequence_at many n d (text ++ (last ++ rest)) ≡ Ok (record { items = is; by_else = false }, rest)
  reads_to_end d text is last rest r s n enough =
      let q = r n enough in
      q.2 ∙ ap (behind is) (seq_end many d q.0 (last ++ rest) rest q.1 (token_complete many last End rest s)) ∙ rw append-nil

  pub reads_to_else : (d : ℕ) (text : List ℕ) (is : List Instr) (last rest : List ℕ) → Reads d text is (last ++ rest) → SpellsToken many last Else →
      (n : ℕ) → length (text ++ (last ++ rest)) ≤ n → sequence_at many n d (text ++ (last ++ rest)) ≡ Ok (record { items = is; by_else = true }, rest)
  reads_to_else d text is last rest r s n enough =
      let q = r n enough in
      q.2 ∙ ap (behind is) (seq_else many d q.0 (last ++ rest) rest q.1 (token_complete many last Else rest s)) ∙ rw append-nil

  -- A sequence is read that begins with a block: the block is read, and then the rest of the
  -- sequence.
  with_block : (d : ℕ) (k : Opener) (ty : BlockType) (i : Instr) (is : List Instr) (text front inside after_text tail : List ℕ) →
      SpellsToken many front (Open k ty) → text ++ tail ≡ front ++ (inside ++ (after_text ++ tail)) →
      ((f : ℕ) → length (inside ++ (after_text ++ tail)) ≤ f → block_at (sequence_at many f) d k ty (inside ++ (after_text ++ tail)) ≡ Ok (i, after_text ++ tail)) →
      Reads d after_text is tail → Reads d text (i ∷ is) tail
  with_block d k ty i is text front inside after_text tail s e block later n enough =
      let l = long front (Open k ty) s in
      let l1 = length-append front (inside ++ (after_text ++ tail)) in
      let l2 = length-append inside (after_text ++ tail) in
      let le = ap length e in
      let q = seq_open many d n (front ++ (inside ++ (after_text ++ tail))) (inside ++ (after_text ++ tail)) (after_text ++ tail) k ty i (omega arith) (token_complete many front (Open k ty) _ s) (omega arith) block (omega arith) in
      let r = later q.0 q.1 in
      (r.0, r.1, ap (sequence_at many n d) e ∙ q.2 ∙ ap (behind (i ∷ [])) r.2 ∙ behind_behind (i ∷ []) is _)

  regroup : (text front k inner rest last back tail : List ℕ) → text ≡ front ++ k → k ≡ inner ++ rest → rest ≡ last ++ back → text ++ tail ≡ front ++ ((inner ++ last) ++ (back ++ tail))
  regroup text front k inner rest last back tail a b c = rw (a, b, c) (simp append_assoc)

  regroup2 : (text front k inner rest last k2 other rest2 last2 back tail : List ℕ) → text ≡ front ++ k → k ≡ inner ++ rest → rest ≡ last ++ k2 → k2 ≡ other ++ rest2 → rest2 ≡ last2 ++ back →
      text ++ tail ≡ front ++ ((inner ++ (last ++ (other ++ last2))) ++ (back ++ tail))
  regroup2 text front k inner rest last k2 other rest2 last2 back tail a b c d e = rw (a, b, c, d, e) (simp append_assoc)

  inside2 : (inner last other last2 more : List ℕ) → (inner ++ (last ++ (other ++ last2))) ++ more ≡ inner ++ (last ++ (other ++ (last2 ++ more)))
  inside2 inner last other last2 more = simp append_assoc

  pub sequence_complete : {d : ℕ} {ts : List Token} {is : List Instr} → NestsIn d ts is → (text tail : List ℕ) → Each (SpellsToken many) text ts → Reads d text is tail
  unfolding block_at
  sequence_complete (no_more {d = d}) text tail h n enough =
      let e : text ++ tail ≡ tail = ap (λ t. t ++ tail) h in
      let le = ap length e in
      (n, omega arith, ap (sequence_at many n d) e ∙ sym (behind_none _))
  sequence_complete (one_plain {d = d} {is = is} i flat r) text tail h n enough =
      let e : text ++ tail ≡ h.0 ++ (h.1 ++ tail) = ap (λ t. t ++ tail) h.4 ∙ append_assoc h.0 h.1 tail in
      let l = long h.0 (Plain i) h.2 in
      let l1 = length-append h.0 (h.1 ++ tail) in
      let le = ap length e in
      let q = seq_plain many d n (h.0 ++ (h.1 ++ tail)) (h.1 ++ tail) i (omega arith) (token_complete many h.0 (Plain i) _ h.2) (omega arith) in
      let t = sequence_complete r h.1 tail h.3 q.0 q.1 in
      (t.0, t.1, ap (sequence_at many n d) e ∙ q.2 ∙ ap (behind (i ∷ [])) t.2 ∙ behind_behind (i ∷ []) is _)
  sequence_complete (one_block {d = d} {inner = its} {ts = ts} {body = body} {is = is} ty inner r) text tail h n enough =
      let s = tokens_split its (End ∷ ts) h.1 h.3 in
      let w = s.3 in
      let block : (f : ℕ) → length ((s.0 ++ w.0) ++ (w.1 ++ tail)) ≤ f → block_at (sequence_at many f) (suc d) opener.Block ty ((s.0 ++ w.0) ++ (w.1 ++ tail)) ≡ Ok (Block ty body, w.1 ++ tail) = λ f more.
      let e = append_assoc s.0 w.0 (w.1 ++ tail) in
      let le = ap length e in
      rw (e, reads_to_end d s.0 body w.0 (w.1 ++ tail) (sequence_complete inner s.0 (w.0 ++ (w.1 ++ tail)) s.2) w.2 f (omega arith)) in
      with_block (suc d) opener.Block ty (Block ty body) is text h.0 (s.0 ++ w.0) w.1 tail h.2 (regroup text h.0 h.1 s.0 s.1 w.0 w.1 tail h.4 s.4 w.4) block (sequence_complete r w.1 tail w.3) n enough
  sequence_complete (one_loop {d = d} {inner = its} {ts = ts} {body = body} {is = is} ty inner r) text tail h n enough =
      let s = tokens_split its (End ∷ ts) h.1 h.3 in
      let w = s.3 in
      let block : (f : ℕ) → length ((s.0 ++ w.0) ++ (w.1 ++ tail)) ≤ f → block_at (sequence_at many f) (suc d) opener.Loop ty ((s.0 ++ w.0) ++ (w.1 ++ tail)) ≡ Ok (Loop ty body, w.1 ++ tail) = λ f more.
      let e = append_assoc s.0 w.0 (w.1 ++ tail) in
      let le = ap length e in
      rw (e, reads_to_end d s.0 body w.0 (w.1 ++ tail) (sequence_complete inner s.0 (w.0 ++ (w.1 ++ tail)) s.2) w.2 f (omega arith)) in
      with_block (suc d) opener.Loop ty (Loop ty body) is text h.0 (s.0 ++ w.0) w.1 tail h.2 (regroup text h.0 h.1 s.0 s.1 w.0 w.1 tail h.4 s.4 w.4) block (sequence_complete r w.1 tail w.3) n enough
  sequence_complete (one_if {d = d} {inner = its} {ts = ts} {body = body} {is = is} ty inner r) text tail h n enough =
      let s = tokens_split its (End ∷ ts) h.1 h.3 in
      let w = s.3 in
      let block : (f : ℕ) → length ((s.0 ++ w.0) ++ (w.1 ++ tail)) ≤ f → block_at (sequence_at many f) (suc d) opener.If ty ((s.0 ++ w.0) ++ (w.1 ++ tail)) ≡ Ok (If ty body [], w.1 ++ tail) = λ f more.
      let e = append_assoc s.0 w.0 (w.1 ++ tail) in
      let le = ap length e in
      rw (e, reads_to_end d s.0 body w.0 (w.1 ++ tail) (sequence_complete inner s.0 (w.0 ++ (w.1 ++ tail)) s.2) w.2 f (omega arith)) in
      with_block (suc d) opener.If ty (If ty body []) is text h.0 (s.0 ++ w.0) w.1 tail h.2 (regroup text h.0 h.1 s.0 s.1 w.0 w.1 tail h.4 s.4 w.4) block (sequence_complete r w.1 tail w.3) n enough
  sequence_complete (one_if_else {d = d} {inner = its} {other = ots} {ts = ts} {body = body} {otherwise = otherwise} {is = is} ty inner other r) text tail h n enough =
      let s = tokens_split its (Else ∷ (ots ++ End ∷ ts)) h.1 h.3 in
      let v = s.3 in
      let o = tokens_split ots (End ∷ ts) v.1 v.3 in
      let w = o.3 in
      let after = w.1 ++ tail in
      let block : (f : ℕ) → length ((s.0 ++ (v.0 ++ (o.0 ++ w.0))) ++ after) ≤ f → block_at (sequence_at many f) (suc d) opener.If ty ((s.0 ++ (v.0 ++ (o.0 ++ w.0))) ++ after) ≡ Ok (If ty body otherwise, after) = λ f more.
      let e = inside2 s.0 v.0 o.0 w.0 after in
      let le = ap length e in
      let l1 = length-append s.0 (v.0 ++ (o.0 ++ (w.0 ++ after))) in
      let l2 = length-append v.0 (o.0 ++ (w.0 ++ after)) in
      rw (
        e,
        reads_to_else d s.0 body v.0 (o.0 ++ (w.0 ++ after)) (sequence_complete inner s.0 (v.0 ++ (o.0 ++ (w.0 ++ after))) s.2) v.2 f (omega arith),
        reads_to_end d o.0 otherwise w.0 after (sequence_complete other o.0 (w.0 ++ after) o.2) w.2 f (omega arith),
      ) in
      with_block (suc d) opener.If ty (If ty body otherwise) is text h.0 (s.0 ++ (v.0 ++ (o.0 ++ w.0))) w.1 tail h.2 (regroup2 text h.0 h.1 s.0 s.1 v.0 v.1 o.0 o.1 w.0 w.1 tail h.4 s.4 v.4 o.4 w.4) block (sequence_complete r w.1 tail w.3) n enough

  -- ---- what is read is encoded

  abbrev pub ender : Bool → Token
  ender true = Else
  ender false = End

  -- The bytes begin with tokens that encode the items, and the token that ends the sequence
  -- follows.
  abbrev pub Found : ℕ → List ℕ → Sequence → List ℕ → Type 0
  Found d bytes s rest = (ts : List Token) × NestsIn d ts s.items × TakesOff (λ text. Each (SpellsToken many) text (ts ++ ender s.by_else ∷ [])) bytes rest

  -- The bytes begin with tokens that encode the instruction together with the token that opens it,
  -- whatever follows them.
  abbrev pub Node : ℕ → Opener → BlockType → Instr → List ℕ → List ℕ → Type 0
  Node d k ty i bytes rest = (mid : List Token) × ((ts : List Token) (is : List Instr) → NestsIn d ts is → NestsIn d (Open k ty ∷ (mid ++ ts)) (i ∷ is)) × TakesOff (λ text. Each (SpellsToken many) text mid) bytes rest

  behind_ok : (a : List Instr) (r : ReadResult Sequence) (s : Sequence) (rest : List ℕ) → behind a r ≡ Ok (s, rest) → (t : Sequence) × (r ≡ Ok (t, rest)) × (record { items = a ++ t.items; by_else = t.by_else } ≡ s)
  behind_ok a (Ok p) s rest e = let q = ok_pair {E = Fault} _ s p.1 rest e in (p.0, ap (λ xs. Ok (p.0, xs)) q.1, q.0)
  behind_ok a (Err w) s rest e = cc

  closed_by : (b : Bool) (x i : Instr) (mid rest : List ℕ) → ◌≡◌ {A = ReadResult Instr} (cond b (Err Malformed) (Ok (x, mid))) (Ok (i, rest)) → (b ≡ false) × (x ≡ i) × (mid ≡ rest)
  closed_by true x i mid rest e = absurd (err_ok Malformed _ e)
  closed_by false x i mid rest e = let q = ok_pair {E = Fault} x i mid rest e in (refl, q.0, q.1)

  pub armed : {A : Type 0} (b : Bool) (x y z : A) → cond b x y ≡ z → ((b ≡ true) × (x ≡ z)) ⊎ ((b ≡ false) × (y ≡ z))
  armed true x y z e = inl (refl, e)
  armed false x y z e = inr (refl, e)

  -- The bytes begin with the tokens of the sequence and the token that ends it.
  pub ended : (d : ℕ) (bytes : List ℕ) (s : Sequence) (rest : List ℕ) (b : Bool) (f : Found d bytes s rest) → s.by_else ≡ b → TakesOff (λ text. Each (SpellsToken many) text (f.0 ++ ender b ∷ [])) bytes rest
  ended d bytes s rest b f e = subst (λ c. TakesOff (λ text. Each (SpellsToken many) text (f.0 ++ ender c ∷ [])) bytes rest) e f.2

  pub took_join : (a b : List Token) (bytes mid rest : List ℕ) → TakesOff (λ t. Each (SpellsToken many) t a) bytes mid → TakesOff (λ t. Each (SpellsToken many) t b) mid rest → TakesOff (λ t. Each (SpellsToken many) t (a ++ b)) bytes rest
  took_join a b bytes mid rest p q = (p.0 ++ q.0, tokens_join a b p.0 q.0 p.1 q.1, p.2 ∙ ap (λ xs. p.0 ++ xs) q.2 ∙ sym (append_assoc p.0 q.0 rest))

  place : (d : ℕ) (k : Opener) (ty : BlockType) (x i : Instr) (a b : List Token) (is : List Instr) → a ≡ b → x ≡ i → NestsIn d (Open k ty ∷ b) (x ∷ is) → NestsIn d (Open k ty ∷ a) (i ∷ is)
  place d k ty x i a b is p q n = rw (p, ← q) n

  pub one_token : (t : Token) (bytes rest : List ℕ) → TakesOff (λ x. SpellsToken many x t) bytes rest → TakesOff (λ x. Each (SpellsToken many) x (t ∷ [])) bytes rest
  one_token t bytes rest k = (k.0, (k.0, [], k.1, refl, sym (append-nil k.0)), k.2)

  module _ (next : ℕ → List ℕ → ReadResult Sequence) (ih : (d : ℕ) (bytes : List ℕ) (s : Sequence) (rest : List ℕ) → IsBytes bytes → next d bytes ≡ Ok (s, rest) → Found d bytes s rest) where
    pub block_sound : (d : ℕ) (k : Opener) (ty : BlockType) (bytes : List ℕ) (i : Instr) (rest : List ℕ) → IsBytes bytes → block_at next d k ty bytes ≡ Ok (i, rest) → Node d k ty i bytes rest
    unfolding block_at
    block_sound zero k ty bytes i rest small e = absurd (err_ok (Limit Nesting) _ e)
    block_sound (suc d) opener.Block ty bytes i rest small e =
        let r = bind_ok (next d bytes) _ _ e in
        let c = closed_by r.0.0.by_else (Block ty r.0.0.items) i r.0.1 rest r.2 in
        let f = ih d bytes r.0.0 r.0.1 small r.1 in
        (f.0 ++ End ∷ [], λ ts is n. place (suc d) opener.Block ty (Block ty r.0.0.items) i _ _ is (append_assoc f.0 (End ∷ []) ts) c.1 (one_block ty f.1 n), subst (TakesOff _ bytes) c.2 (ended d bytes r.0.0 r.0.1 false f c.0))
    block_sound (suc d) opener.Loop ty bytes i rest small e =
        let r = bind_ok (next d bytes) _ _ e in
        let c = closed_by r.0.0.by_else (Loop ty r.0.0.items) i r.0.1 rest r.2 in
        let f = ih d bytes r.0.0 r.0.1 small r.1 in
        (f.0 ++ End ∷ [], λ ts is n. place (suc d) opener.Loop ty (Loop ty r.0.0.items) i _ _ is (append_assoc f.0 (End ∷ []) ts) c.1 (one_loop ty f.1 n), subst (TakesOff _ bytes) c.2 (ended d bytes r.0.0 r.0.1 false f c.0))
    block_sound (suc d) opener.If ty bytes i rest small e =
        let r = bind_ok (next d bytes) _ _ e in
        let f = ih d bytes r.0.0 r.0.1 small r.1 in
        ⊎_elim
        (λ a.
        let o = bind_ok (next d r.0.1) _ _ a.1 in
        let c = closed_by o.0.0.by_else (If ty r.0.0.items o.0.0.items) i o.0.1 rest o.2 in
        let first = ended d bytes r.0.0 r.0.1 true f a.0 in
        let g = ih d r.0.1 o.0.0 o.0.1 (small_rest _ bytes r.0.1 small first) o.1 in
        let second = ended d r.0.1 o.0.0 o.0.1 false g c.0 in (
          (f.0 ++ Else ∷ []) ++ (g.0 ++ End ∷ []),
          λ ts is n. place (suc d) opener.If ty (If ty r.0.0.items o.0.0.items) i _ _ is (four f.0 g.0 ts) c.1 (one_if_else ty f.1 g.1 n),
          subst (TakesOff _ bytes) c.2 (took_join (f.0 ++ Else ∷ []) (g.0 ++ End ∷ []) bytes r.0.1 o.0.1 first second),
        ))
        (λ a.
        let q = ok_pair {E = Fault} (If ty r.0.0.items []) i r.0.1 rest a.1 in
        (f.0 ++ End ∷ [], λ ts is n. place (suc d) opener.If ty (If ty r.0.0.items []) i _ _ is (append_assoc f.0 (End ∷ []) ts) q.0 (one_if ty f.1 n), subst (TakesOff _ bytes) q.1 (ended d bytes r.0.0 r.0.1 false f a.0)))
        (armed r.0.0.by_else _ _ _ r.2)

    token_step : (d : ℕ) (t : Token) (bytes mid : List ℕ) (s : Sequence) (rest : List ℕ) → IsBytes mid → TakesOff (λ text. SpellsToken many text t) bytes mid → after_token next d t mid ≡ Ok (s, rest) → Found d bytes s rest
    token_step d End bytes mid s rest small took e =
        let q = ok_pair {E = Fault} _ s mid rest e in
        subst (λ x. Found d bytes x rest) q.0 ([], no_more, subst (TakesOff _ bytes) q.1 (one_token End bytes mid took))
    token_step d Else bytes mid s rest small took e =
        let q = ok_pair {E = Fault} _ s mid rest e in
        subst (λ x. Found d bytes x rest) q.0 ([], no_more, subst (TakesOff _ bytes) q.1 (one_token Else bytes mid took))
    token_step d (Plain i) bytes mid s rest small took e =
        let b = behind_ok (i ∷ []) (next d mid) s rest e in
        let f = ih d mid b.0 rest small b.1 in
        subst (λ x. Found d bytes x rest) b.2
        (Plain i ∷ f.0, one_plain i (flat_token d took.0 i took.1) f.1, took_join (Plain i ∷ []) (f.0 ++ ender b.0.by_else ∷ []) bytes mid rest (one_token (Plain i) bytes mid took) f.2)
    token_step d (Open k ty) bytes mid s rest small took e =
        let r = bind_ok (block_at next d k ty mid) _ _ e in
        let node = block_sound d k ty mid r.0.0 r.0.1 small r.1 in
        let b = behind_ok (r.0.0 ∷ []) (next d r.0.1) s rest r.2 in
        let f = ih d r.0.1 b.0 rest (small_rest _ mid r.0.1 small node.2) b.1 in
        let inside = took_join node.0 (f.0 ++ ender b.0.by_else ∷ []) mid r.0.1 rest node.2 f.2 in
        let whole = took_join (Open k ty ∷ []) (node.0 ++ (f.0 ++ ender b.0.by_else ∷ [])) bytes mid rest (one_token (Open k ty) bytes mid took) inside in
        subst (λ x. Found d bytes x rest) b.2
        (Open k ty ∷ (node.0 ++ f.0), node.1 f.0 b.0.items f.1, subst (λ ts. TakesOff (λ text. Each (SpellsToken many) text (Open k ty ∷ ts)) bytes rest) (sym (append_assoc node.0 f.0 (ender b.0.by_else ∷ []))) whole)

  pub sequence_sound : (n d : ℕ) (bytes : List ℕ) (s : Sequence) (rest : List ℕ) → IsBytes bytes → sequence_at many n d bytes ≡ Ok (s, rest) → Found d bytes s rest
  unfolding sequence_at
  sequence_sound zero d bytes s rest small e = absurd (err_ok Malformed _ e)
  sequence_sound (suc n) d bytes s rest small e =
      let t = bind_ok (token_at many bytes) _ _ e in
      let took = token_sound many bytes t.0.0 t.0.1 small t.1 in
      token_step (sequence_at many n) (sequence_sound n) d t.0.0 bytes t.0.1 s rest (small_rest _ bytes t.0.1 small took) took t.2

  -- ---- whole bodies

  ended_all : (s : Sequence) (rest : List ℕ) (is : List Instr) → whole (s, rest) ≡ Ok is → (s.by_else ≡ false) × (rest ≡ []) × (s.items ≡ is)
  ended_all s [] is e = ⊎_elim (λ a. absurd (err_ok Malformed _ a.1)) (λ a. (a.0, refl, let same : s.items ≡ is = let k = a.1 in cc in same)) (armed s.by_else _ _ _ e)
  ended_all s (b ∷ bs) is e = ⊎_elim (λ a. absurd (err_ok Malformed _ a.1)) (λ a. let bad = rw (eqb-suc-zero (length bs)) at a.1 in absurd (err_ok Malformed is bad)) (armed s.by_else _ _ _ e)

  -- The bytes encode a body with its last end and with at most `d` blocks open at once.
  abbrev pub BodyIn : ℕ → List ℕ → List Instr → Type 0
  BodyIn d bytes is = (ts : List Token) × NestsIn d ts is × Each (SpellsToken many) bytes (ts ++ End ∷ [])

  pub body_sound : (bytes : List ℕ) (is : List Instr) → IsBytes bytes → body_at many bytes ≡ Ok is → BodyIn (limit Nesting) bytes is
  unfolding body_at
  body_sound bytes is small e =
      let r = bind_ok (sequence_at many (length bytes) (limit Nesting) bytes) whole is e in
      let w = ended_all r.0.0 r.0.1 is r.2 in
      let f = sequence_sound (length bytes) (limit Nesting) bytes r.0.0 r.0.1 small r.1 in
      let t = ended (limit Nesting) bytes r.0.0 r.0.1 false f w.0 in
      let all : bytes ≡ t.0 = t.2 ∙ ap (λ xs. t.0 ++ xs) w.1 ∙ append-nil t.0 in
      (f.0, subst (NestsIn (limit Nesting) f.0) w.2 f.1, subst (λ x. Each (SpellsToken many) x (f.0 ++ End ∷ [])) (sym all) t.1)

  -- An encoded body is read, whatever follows it.
  pub body_reads : (d : ℕ) (bytes rest : List ℕ) (is : List Instr) → BodyIn d bytes is → sequence_at many (length (bytes ++ rest)) d (bytes ++ rest) ≡ Ok (record { items = is; by_else = false }, rest)
  body_reads d bytes rest is h =
      let s = tokens_split h.0 (End ∷ []) bytes h.2 in
      let w = s.3 in
      let e : bytes ++ rest ≡ s.0 ++ (w.0 ++ rest) = ap (λ xs. xs ++ rest) (s.4 ∙ ap (λ xs. s.0 ++ xs) (w.4 ∙ ap (λ xs. w.0 ++ xs) w.3 ∙ append-nil w.0)) ∙ append_assoc s.0 w.0 rest in
      let le = ap length e in
      let read = reads_to_end d s.0 is w.0 rest (sequence_complete h.1 s.0 (w.0 ++ rest) s.2) w.2 (length (bytes ++ rest)) (omega arith) in
      ap (sequence_at many (length (bytes ++ rest)) d) e ∙ read

  pub body_complete : (bytes : List ℕ) (is : List Instr) → BodyIn (limit Nesting) bytes is → body_at many bytes ≡ Ok is
  unfolding body_at
  body_complete bytes is h =
      let read = subst (λ z. sequence_at many (length z) (limit Nesting) z ≡ Ok (record { items = is; by_else = false }, [])) (append-nil bytes) (body_reads (limit Nesting) bytes [] is h) in
      rw read
