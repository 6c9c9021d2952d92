-- What is encoded is read, or a quantity in it is over its limit.
use Rattle.base_lists.proofs.Common.{◌≡◌, ℕ, zero, suc, ◌-◌, ◌≤◌, List, [], ◌∷◌, ◌++◌, length, max, Result, Ok, Err, Bool, true, false, cond, ◌⊎◌, inl, inr, ⊎_elim, refl, sym, ap, subst, arith, append-nil, cases_lt, lt-ltb, le-ltb, nat_lt}
use Rattle.wasm_bytes.specs.Prelude.{U32, Each, Vector, ◌>>=◌}
use Rattle.wasm_tree_spec.specs.Prelude.{BlockType, FuncType, Instr, If, Which, Nesting, Locals, Parameters, Results, LocalGroup, limit}
use Rattle.wasm_read_spec.specs.declared.fault.Fault.{Fault}
use Rattle.wasm_read_spec.specs.declared.fault.Fault.TheVariants as fault
use Rattle.wasm_read_spec.specs.declared.token.Opener.{Opener}
use Rattle.wasm_read_spec.specs.declared.token.Opener.TheVariants as opener
use Rattle.wasm_read_spec.specs.declared.token.Token.{Token}
use Rattle.wasm_read_spec.specs.declared.token.Token.TheVariants.{Open, Else, End, Plain}
use Rattle.wasm_read_spec.specs.declared.token.Sequence.{Sequence}
use Rattle.wasm_read_spec.specs.Prelude.{CodeEntry, Any, Both, After, SpellsVal, SpellsFuncType, SpellsGroup, SpellsBody, SpellsCode, Reader, tag_at, u32_at, val_at, pair_at, mapped_at, tagged_at, func_type_of, with_group, ReadResult, behind, token_at, after_token, whole, enclosed}
use Rattle.wasm_read_spec.specs.Bodies.{depth}
use Rattle.wasm_read_spec.specs.Reading.{each_from, vector_at, func_type_at, local_at, locals_at}
use Rattle.wasm_read_spec.specs.BodyReading.{block_at, sequence_at, body_at, closed, code_at}
use Rattle.wasm_read_spec.specs.Exact.{Exact}
use Rattle.wasm_read_spec.proofs.Exact.{split, u32_exact}
use Rattle.wasm_read_spec.proofs.ItemLaws.{val_exact}
use Rattle.wasm_read_spec.proofs.NestLaws.{to_in}
use Rattle.wasm_read_spec.proofs.BodyLaws.{body_reads}
use Rattle.wasm_read_spec.proofs.Stopping.{tag_reads}

-- The value is read, or a quantity is reported as over its limit.
abbrev pub Got : {A E : Type 0} → (Which → E) → Result A E → A → Type 0
Got over r x = (r ≡ Ok x) ⊎ ((w : Which) × (r ≡ Err (over w)))

pub bind_got : {A B E : Type 0} (over : Which → E) (r : Result A E) (x : A) (f : A → Result B E) (y : B) → Got over r x → Got over (f x) y → Got over (r >>= f) y
bind_got over r x f y (inl e) (inl g) = inl (rw e g)
bind_got over r x f y (inl e) (inr g) = inr (g.0, rw e g.1)
bind_got over r x f y (inr e) g = inr (e.0, rw e.1)

-- Comparing a count with its limit only adds the fault of this limit.
pub count_got : {A E : Type 0} (over : Which → E) (which : Which) (most n : ℕ) (r : Result A E) (y : A) → Got over r y → Got over (cond (nat_lt most n) (Err (over which)) r) y
count_got over which most n r y g = ⊎_elim
    (λ lt. inr (which, rw (lt-ltb most n lt)))
    (λ le. subst (λ b. Got over (cond b (Err (over which)) r) y) (sym (le-ltb most n le)) g)
    (cases_lt most n)

-- The reader finds the value that the first bytes encode, or reports a limit.
pub record Gets {A E : Type 0} (over : Which → E) (spells : List ℕ → A → Type 0) (reader : List ℕ → Result (A × List ℕ) E) : Type 0 where
  pub gets : (text rest : List ℕ) (x : A) → spells text x → Got over (reader (text ++ rest)) (x, rest)

pub exact_gets : {A E : Type 0} {over : Which → E} {P : List ℕ → A → Type 0} {r : List ℕ → Result (A × List ℕ) E} → Exact P Any r → Gets over P r
exact_gets exact = record { gets = λ text rest x h. inl (exact.complete text rest x h tt) }

pair_gets : {A B : Type 0} {P : List ℕ → A → Type 0} {Q : List ℕ → B → Type 0} {r : Reader A} {q : Reader B} → Gets fault.Limit P r → Gets fault.Limit Q q → Gets {A = A × B} fault.Limit (Both P Q) (pair_at r q)
pair_gets {A} {B} {P} {Q} {r} {q} a b = record {
  gets = λ text rest p h. subst (λ z. Got {A = (A × B) × List ℕ} fault.Limit (pair_at r q z) (p, rest)) (sym (split (λ t. P t p.0) (λ t. Q t p.1) text rest h))
      (bind_got fault.Limit (r (h.0 ++ (h.1 ++ rest))) (p.0, h.1 ++ rest) _ (p, rest) (a.gets h.0 (h.1 ++ rest) p.0 h.2) (bind_got fault.Limit (q (h.1 ++ rest)) (p.1, rest) _ (p, rest) (b.gets h.1 rest p.1 h.3) (inl refl)));
}

mapped_gets : {A B : Type 0} {P : List ℕ → A → Type 0} {r : Reader A} (make : A → B) (back : B → A) → ((y : B) → make (back y) ≡ y) → Gets fault.Limit P r → Gets {A = B} fault.Limit (λ b y. P b (back y)) (mapped_at make r)
mapped_gets {A} {B} {P} {r} make back two a = record {
  gets = λ text rest y h. bind_got fault.Limit (r (text ++ rest)) (back y, rest) _ (y, rest) (a.gets text rest (back y) h) (inl (ap (λ z. Ok (z, rest)) (two y)));
}

tagged_gets : {A : Type 0} {P : List ℕ → A → Type 0} {r : Reader A} (tag : ℕ) → Gets fault.Limit P r → Gets {A = A} fault.Limit (After tag P) (tagged_at tag r)
tagged_gets {A} {P} {r} tag a = record {
  gets = λ text rest x h. subst (λ z. Got {A = A × List ℕ} fault.Limit (tagged_at tag r (z ++ rest)) (x, rest)) (sym h.2)
      (bind_got fault.Limit (tag_at tag (tag ∷ (h.0 ++ rest))) (tt, h.0 ++ rest) _ (x, rest) (inl (tag_reads tag (h.0 ++ rest))) (a.gets h.0 rest x h.1));
}

-- ---- a given number of items

module _ {A E : Type 0} (over : Which → E) (P : List ℕ → A → Type 0) (item : ℕ → List ℕ → Result (A × List ℕ) E) (next : ℕ → A → ℕ) (a : (state : ℕ) → Gets over P (item state)) where
  pub each_gets : (xs : List A) (state : ℕ) (text rest : List ℕ) → Each P text xs → Got over (each_from item next (length xs) state (text ++ rest)) (xs, rest)
  unfolding each_from
  each_gets [] state text rest h = inl (rw h)
  each_gets (x ∷ xs) state text rest h =
      subst (λ z. Got {A = List A × List ℕ} over (each_from item next (suc (length xs)) state z) (x ∷ xs, rest)) (sym (split (λ t. P t x) (λ t. Each P t xs) text rest h))
      (bind_got over (item state (h.0 ++ (h.1 ++ rest))) (x, h.1 ++ rest) _ (x ∷ xs, rest) ((a state).gets h.0 (h.1 ++ rest) x h.2)
      (bind_got over (each_from item next (length xs) (next state x) (h.1 ++ rest)) (xs, rest) _ (x ∷ xs, rest) (each_gets xs (next state x) h.1 rest h.3) (inl refl)))

pub vector_gets : {A : Type 0} {P : List ℕ → A → Type 0} {r : Reader A} (which : Which) → Gets fault.Limit P r → Gets fault.Limit (Vector P) (vector_at which r)
unfolding vector_at
vector_gets {A} {P} {r} which a = record {
  gets = λ text rest xs h. subst (λ z. Got {A = List A × List ℕ} fault.Limit (vector_at which r z) (xs, rest)) (sym (split (λ t. U32 t (length xs)) (λ t. Each P t xs) text rest h))
      (bind_got fault.Limit (u32_at (h.0 ++ (h.1 ++ rest))) (length xs, h.1 ++ rest) _ (xs, rest) (inl (u32_exact.complete h.0 (h.1 ++ rest) (length xs) h.2 tt))
      (count_got fault.Limit which (limit which) (length xs) _ (xs, rest) (each_gets fault.Limit P (λ s. r) (λ s x. 0) (λ s. a) xs 0 h.1 rest h.3)));
}

-- ---- types and locals

pub func_type_gets : Gets fault.Limit SpellsFuncType func_type_at
unfolding func_type_at
func_type_gets = tagged_gets 0x60 (mapped_gets func_type_of (λ (t : FuncType). (t.params, t.results)) (λ y. refl) (pair_gets (vector_gets Parameters (exact_gets val_exact)) (vector_gets Results (exact_gets val_exact))))

group_gets : (sum : ℕ) → Gets fault.Limit SpellsGroup (local_at sum)
unfolding local_at
group_gets sum = record {
  gets = λ text rest g h. subst (λ z. Got {A = LocalGroup × List ℕ} fault.Limit (local_at sum z) (g, rest)) (sym (split (λ t. U32 t g.count) (λ t. SpellsVal t g.ty) text rest h))
      (bind_got fault.Limit (u32_at (h.0 ++ (h.1 ++ rest))) (g.count, h.1 ++ rest) _ (g, rest) (inl (u32_exact.complete h.0 (h.1 ++ rest) g.count h.2 tt))
      (count_got fault.Limit Locals (limit Locals - sum) g.count _ (g, rest)
      (bind_got fault.Limit (val_at (h.1 ++ rest)) (g.ty, rest) _ (g, rest) (inl (val_exact.complete h.1 rest g.ty h.3 tt)) (inl refl))));
}

locals_get : Gets fault.Limit (Vector SpellsGroup) locals_at
unfolding locals_at
locals_get = record {
  gets = λ text rest gs h. subst (λ z. Got {A = List LocalGroup × List ℕ} fault.Limit (locals_at z) (gs, rest)) (sym (split (λ t. U32 t (length gs)) (λ t. Each SpellsGroup t gs) text rest h))
      (bind_got fault.Limit (u32_at (h.0 ++ (h.1 ++ rest))) (length gs, h.1 ++ rest) _ (gs, rest) (inl (u32_exact.complete h.0 (h.1 ++ rest) (length gs) h.2 tt))
      (each_gets fault.Limit SpellsGroup local_at with_group group_gets gs 0 h.1 rest h.3));
}

-- ---- bodies

-- The results are equal, or the first is the fault of the limit on nesting.
abbrev SameOrDeep : {A : Type 0} → Result A Fault → Result A Fault → Type 0
SameOrDeep r q = (r ≡ q) ⊎ (r ≡ Err (fault.Limit Nesting))

then_same : {A B : Type 0} (r q : Result A Fault) (f g : A → Result B Fault) → SameOrDeep r q → ((x : A) → SameOrDeep (f x) (g x)) → SameOrDeep (r >>= f) (q >>= g)
then_same {A} r q f g (inl same) k = subst (λ z. SameOrDeep (r >>= f) (z >>= g)) same (of r)
  where
    of : (r : Result A Fault) → SameOrDeep (r >>= f) (r >>= g)
    of (Ok x) = k x
    of (Err e) = inl refl
then_same r q f g (inr deep) k = inr (rw deep)

module _ (many : Bool) where
  behind_same : (front : List Instr) (r q : ReadResult Sequence) → SameOrDeep r q → SameOrDeep (behind front r) (behind front q)
  behind_same front r q (inl same) = inl (ap (behind front) same)
  behind_same front r q (inr deep) = inr (rw deep)

  module _ (next : ℕ → List ℕ → ReadResult Sequence) (ih : (d e : ℕ) → d ≤ e → (bytes : List ℕ) → SameOrDeep (next d bytes) (next e bytes)) where
    if_same : (d e : ℕ) → d ≤ e → (b : Bool) (ty : BlockType) (s : Sequence) (rest : List ℕ) →
        SameOrDeep (cond b (next d rest >>= closed (If ty s.items)) (Ok (If ty s.items [], rest))) (cond b (next e rest >>= closed (If ty s.items)) (Ok (If ty s.items [], rest)))
    if_same d e le true ty s rest = then_same (next d rest) (next e rest) _ _ (ih d e le rest) (λ x. inl refl)
    if_same d e le false ty s rest = inl refl

    enclosed_same : (d e : ℕ) → d ≤ e → (k : Opener) (ty : BlockType) (r : Sequence × List ℕ) → SameOrDeep (enclosed k ty (next d) r) (enclosed k ty (next e) r)
    enclosed_same d e le opener.Block ty r = inl refl
    enclosed_same d e le opener.Loop ty r = inl refl
    enclosed_same d e le opener.If ty (s, rest) = if_same d e le s.by_else ty s rest

    block_same : (d e : ℕ) → d ≤ e → (k : Opener) (ty : BlockType) (bytes : List ℕ) → SameOrDeep (block_at next d k ty bytes) (block_at next e k ty bytes)
    unfolding block_at
    block_same zero e le k ty bytes = inr refl
    block_same (suc d) zero le k ty bytes = absurd (omega (arith, le))
    block_same (suc d) (suc e) le k ty bytes = then_same (next d bytes) (next e bytes) _ _ (ih d e (omega (arith, le)) bytes) (enclosed_same d e (omega (arith, le)) k ty)

    token_same : (d e : ℕ) → d ≤ e → (t : Token) (rest : List ℕ) → SameOrDeep (after_token next d t rest) (after_token next e t rest)
    token_same d e le End rest = inl refl
    token_same d e le Else rest = inl refl
    token_same d e le (Plain i) rest = behind_same (i ∷ []) (next d rest) (next e rest) (ih d e le rest)
    token_same d e le (Open k ty) rest =
        then_same (block_at next d k ty rest) (block_at next e k ty rest) _ _ (block_same d e le k ty rest) (λ b. behind_same (b.0 ∷ []) (next d b.1) (next e b.1) (ih d e le b.1))

  sequence_same : (n d e : ℕ) → d ≤ e → (bytes : List ℕ) → SameOrDeep (sequence_at many n d bytes) (sequence_at many n e bytes)
  unfolding sequence_at
  sequence_same zero d e le bytes = inl refl
  sequence_same (suc n) d e le bytes = then_same (token_at many bytes) (token_at many bytes) _ _ (inl refl) (λ t. token_same (sequence_at many n) (sequence_same n) d e le t.0 t.1)

  read_or_deep : (n d e : ℕ) (bytes : List ℕ) (r : Sequence × List ℕ) (is : List Instr) → sequence_at many n e bytes ≡ Ok r → whole r ≡ Ok is → SameOrDeep (sequence_at many n d bytes) (sequence_at many n e bytes) →
      Got fault.Limit (sequence_at many n d bytes >>= whole) is
  read_or_deep n d e bytes r is reads ends (inl same) = inl (rw (same, reads) ends)
  read_or_deep n d e bytes r is reads ends (inr deep) = inr (Nesting, rw deep)

  body_gets : (bytes : List ℕ) (is : List Instr) → SpellsBody many bytes is → Got fault.Limit (body_at many bytes) is
  unfolding body_at
  body_gets bytes is h =
      let d = max (limit Nesting) (depth is) in
      let reads = body_reads many d bytes [] is (h.0, to_in h.1 d (omega arith), h.2) in
      let all : sequence_at many (length bytes) d bytes ≡ Ok (record { items = is; by_else = false }, []) = subst (λ z. sequence_at many (length z) d z ≡ Ok (record { items = is; by_else = false }, [])) (append-nil bytes) reads in
      read_or_deep (length bytes) (limit Nesting) d bytes (record { items = is; by_else = false }, []) is all refl (sequence_same (length bytes) (limit Nesting) d (omega arith) bytes)

  pub code_gets : (bytes : List ℕ) (f : CodeEntry) → SpellsCode many bytes f → Got fault.Limit (code_at many bytes) f
  unfolding code_at
  code_gets bytes f h =
      subst (λ z. Got fault.Limit (code_at many z) f) (sym h.4)
      (bind_got fault.Limit (locals_at (h.0 ++ h.1)) (f.locals, h.1) _ f (locals_get.gets h.0 h.1 f.locals h.2) (bind_got fault.Limit (body_at many h.1) f.body _ f (body_gets h.1 f.body h.3) (inl refl)))
