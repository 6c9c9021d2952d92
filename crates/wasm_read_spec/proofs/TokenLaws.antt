-- Reading tokens finds what is encoded, and nothing else.
use Rattle.base_lists.proofs.Common.{◌≡◌, ℕ, ◌<◌, ◌≤◌, List, [], ◌∷◌, ◌++◌, Result, Ok, Bool, true, false, cond, Option, Some, None, ◌⊎◌, inl, inr, ⊎_elim, refl, ap, ◌∙◌, subst, arith, ℤ, pos, negsuc, ◌-ℤ◌, ints, cases_lt, eqb-true, ne_eqb, ◌&&◌, nat_lt, and_false, cond_is, bind_ok, ok_pair, err_ok}
use Rattle.std.proofs.Common.{le-ltb, eqb, leb}
use Rattle.wasm_bytes.specs.Prelude.{TakesOff, Signed, ◌>>=◌, IsBytes, signed_at}
use Rattle.wasm_tree_spec.specs.Prelude.{ValType, BlockType, Value, BrTable, SelectTyped, I32Const, I64Const, RefNull}
use Rattle.wasm_tree.specs.declared.types.BlockType.TheVariants.{Empty, Index}
use Rattle.wasm_read_spec.specs.declared.fault.Fault.{Fault}
use Rattle.wasm_read_spec.specs.declared.fault.Fault.TheVariants.{Malformed, Unsupported}
use Rattle.wasm_read_spec.specs.declared.token.Token.{Token}
use Rattle.wasm_read_spec.specs.declared.token.Token.TheVariants.{Open, Else, End, Plain}
use Rattle.wasm_read_spec.specs.Prelude.{Any, SpellsBlockType, Form, plain, number, numbers, const32, const64, table, access, memory, memories, with_memory, null, open', else', end', prefixed, unsupported, unknown, the_form, sub_form, SpellsMemArg, SpellsMemory, Simple, FollowsOpcode, SpellsToken}
use Rattle.wasm_read_spec.specs.Prelude.{or_malformed, mapped_at, val_at, token_of}
use Rattle.wasm_read_spec.specs.Values.{val_of_code}
use Rattle.wasm_read_spec.specs.Tokens.{typed, arg_of, arg_in, arg_form}
use Rattle.wasm_read_spec.specs.Reading.{index_of, block_type_at}
use Rattle.wasm_read_spec.specs.BodyReading.{arg_at, memory_at, simple_of, prefixed_at, token_at}
use Rattle.wasm_read_spec.specs.Exact.{Exact}
use Rattle.wasm_read_spec.proofs.Exact.{byte_exact, u32_exact, s32_exact, s33_exact, s64_exact, just_exact, never_exact, both_exact, made_exact, chosen_exact, when_exact, tagged_exact, list_exact}
use Rattle.wasm_read_spec.proofs.ItemLaws.{val_exact, ref_exact}

-- ---- block types

some_same : {A : Type 0} (x y : A) → ◌≡◌ {A = Option A} (Some x) (Some y) → x ≡ y
some_same x y e = cc

none_some : {A : Type 0} (x : A) → ◌≡◌ {A = Option A} None (Some x) → ⊥
none_some x h = cc

leb_no : (a b : ℕ) → b < a → leb a b ≡ false
leb_no a b h = grind arith

-- A value type that is read is encoded as a block type.
value_sound : (bytes : List ℕ) (ty : BlockType) (rest : List ℕ) → IsBytes bytes → mapped_at Value val_at bytes ≡ Ok (ty, rest) → TakesOff (λ t. SpellsBlockType t ty) bytes rest
value_sound bytes ty rest small e =
    let x = bind_ok (val_at bytes) _ _ e in
    let t = (val_exact.sound bytes x.0.0 x.0.1 small x.1).0 in
    let p = ok_pair {E = Fault} (Value x.0.0) ty x.0.1 rest x.2 in
    subst (λ z. TakesOff (λ t. SpellsBlockType t z) bytes rest) p.0 (t.0, t.1, t.2 ∙ ap (λ z. t.0 ++ z) p.1)

index_sound : (z : ℤ) (mid rest : List ℕ) (ty : BlockType) → index_of (z, mid) ≡ Ok (ty, rest) → (n : ℕ) × (z ≡ pos n) × (Index n ≡ ty) × (mid ≡ rest)
index_sound (pos n) mid rest ty e = let p = ok_pair {E = Fault} (Index n) ty mid rest e in (n, refl, p.0, p.1)
index_sound (negsuc n) mid rest ty e = cc

empty_sound : (b : ℕ) (bs rest : List ℕ) (ty : BlockType) → eqb b 0x40 ≡ true → ◌≡◌ {A = Result (BlockType × List ℕ) Fault} (Ok (Empty, bs)) (Ok (ty, rest)) → TakesOff (λ t. SpellsBlockType t ty) (b ∷ bs) rest
empty_sound b bs rest ty same e =
    let p = ok_pair {E = Fault} Empty ty bs rest e in
    subst (λ z. TakesOff (λ t. SpellsBlockType t z) (b ∷ bs) rest) p.0 (0x40 ∷ [], refl, ap (λ c. c ∷ bs) (eqb-true b 0x40 same) ∙ ap (λ xs. 0x40 ∷ xs) p.1)

number_sound : (b : ℕ) (bs rest : List ℕ) (ty : BlockType) → IsBytes (b ∷ bs) → (or_malformed (signed_at 33 (b ∷ bs)) >>= index_of) ≡ Ok (ty, rest) → TakesOff (λ t. SpellsBlockType t ty) (b ∷ bs) rest
number_sound b bs rest ty small e =
    let z = bind_ok (or_malformed (signed_at 33 (b ∷ bs))) index_of _ e in
    let t = (s33_exact.sound (b ∷ bs) z.0.0 z.0.1 small z.1).0 in
    let i = index_sound z.0.0 z.0.1 rest ty z.2 in
    subst (TakesOff (λ t. SpellsBlockType t ty) (b ∷ bs)) i.3 (t.0, subst (SpellsBlockType t.0) i.2 (subst (Signed 33 t.0) i.1 t.1), t.2)

either_sound : (c : Bool) (b : ℕ) (bs rest : List ℕ) (ty : BlockType) (other : Result (BlockType × List ℕ) Fault) → IsBytes (b ∷ bs) → (other ≡ Ok (ty, rest) → TakesOff (λ t. SpellsBlockType t ty) (b ∷ bs) rest) →
    cond c (mapped_at Value val_at (b ∷ bs)) other ≡ Ok (ty, rest) → TakesOff (λ t. SpellsBlockType t ty) (b ∷ bs) rest
either_sound true b bs rest ty other small next e = value_sound (b ∷ bs) ty rest small e
either_sound false b bs rest ty other small next e = next e

block_type_sound : (bytes : List ℕ) (ty : BlockType) (rest : List ℕ) → IsBytes bytes → block_type_at bytes ≡ Ok (ty, rest) → TakesOff (λ t. SpellsBlockType t ty) bytes rest
unfolding block_type_at
block_type_sound [] ty rest small e = cc
block_type_sound (b ∷ bs) ty rest small e = ⊎_elim (λ h. empty_sound b bs rest ty h.0 h.1)
    (λ h. either_sound (leb 0x7B b && leb b 0x7F) b bs rest ty _ small (λ k. either_sound (leb 0x6F b && leb b 0x70) b bs rest ty _ small (λ l. number_sound b bs rest ty small l) k) h.1)
    (cond_is _ _ _ _ e)

-- A number of one byte whose sign bit is set is negative, so it is no type index.
no_negative : (b n : ℕ) → b < 128 → pos b -ℤ pos 128 ≡ pos n → ⊥
no_negative b n lt e = omega (arith, ints)

first_index : (b : ℕ) (bs : List ℕ) (n : ℕ) → Signed 33 (b ∷ bs) (pos n) → (b < 64) ⊎ (128 ≤ b)
first_index b (c ∷ bs) n h = inr h.0
first_index b [] n h = ⊎_elim inl
    (λ le. let e = rw (le-ltb b 64 le) at h.1 in
    absurd (⊎_elim (λ k. no_negative b n h.0 (some_same _ _ k.1)) (λ k. none_some _ k.1) (cond_is _ _ _ _ e)))
    (cases_lt b 64)

not_at : (b k : ℕ) → (b < 64) ⊎ (128 ≤ b) → 64 ≤ k → k < 128 → eqb b k ≡ false
not_at b k first low high = ne_eqb b k (λ e. ⊎_elim (λ h. omega arith) (λ h. omega arith) first)

not_between : (low high b : ℕ) → 64 ≤ low → high < 128 → (b < 64) ⊎ (128 ≤ b) → leb low b && leb b high ≡ false
not_between low high b le lt first = ⊎_elim (λ h. rw (leb_no low b (omega arith))) (λ h. rw (leb_no b high (omega arith)) (and_false (leb low b))) first

-- The bytes of value types are only these four.
val_bytes : (b : ℕ) (t : ValType) → val_of_code b ≡ Ok t → (b ≡ 0x7F) ⊎ ((b ≡ 0x7E) ⊎ ((b ≡ 0x70) ⊎ (b ≡ 0x6F)))
unfolding val_of_code
val_bytes b t e = ⊎_elim (λ h. inl (eqb-true b 0x7F h.0))
    (λ h. ⊎_elim (λ h. inr (inl (eqb-true b 0x7E h.0)))
    (λ h. ⊎_elim (λ h. inr (inr (inl (eqb-true b 0x70 h.0))))
    (λ h. ⊎_elim (λ h. inr (inr (inr (eqb-true b 0x6F h.0))))
    (λ h. absurd (⊎_elim (λ k. err_ok Unsupported t k.1) (λ k. err_ok Malformed t k.1) (cond_is _ _ _ _ h.1)))
    (cond_is _ _ _ _ h.1)) (cond_is _ _ _ _ h.1)) (cond_is _ _ _ _ h.1)) (cond_is _ _ _ _ e)

-- A block type that begins with the byte of a value type is read as this value type.
val_first : (b : ℕ) (bs : List ℕ) → (b ≡ 0x7F) ⊎ ((b ≡ 0x7E) ⊎ ((b ≡ 0x70) ⊎ (b ≡ 0x6F))) → block_type_at (b ∷ bs) ≡ mapped_at Value val_at (b ∷ bs)
unfolding block_type_at
val_first b bs h = ⊎_elim (λ e. rw e) (λ h. ⊎_elim (λ e. rw e) (λ h. ⊎_elim (λ e. rw e) (λ e. rw e) h) h) h

block_type_complete : (ty : BlockType) (text rest : List ℕ) → SpellsBlockType text ty → block_type_at (text ++ rest) ≡ Ok (ty, rest)
unfolding block_type_at
block_type_complete Empty text rest h = rw h
block_type_complete (Value t) text rest h =
    let one : block_type_at (h.0 ∷ rest) ≡ mapped_at Value val_at (h.0 ∷ rest) = val_first h.0 rest (val_bytes h.0 t h.1) in
    let two : val_at (h.0 ∷ rest) ≡ Ok (t, rest) = val_exact.complete (h.0 ∷ []) rest t (h.0, h.1, refl) tt in
    ap (λ z. block_type_at (z ++ rest)) h.2 ∙ one ∙ ap (λ r. r >>= (λ x. Ok (Value x.0, x.1))) two
block_type_complete (Index n) [] rest h = absurd h
block_type_complete (Index n) (b ∷ bs) rest h =
    let first = first_index b bs n h in
    rw (not_at b 64 first (omega arith) (omega arith), not_between 0x7B 0x7F b (omega arith) (omega arith) first, not_between 0x6F 0x70 b (omega arith) (omega arith) first)
    (rw (s33_exact.complete (b ∷ bs) rest (pos n) h tt))

pub block_type_exact : Exact SpellsBlockType Any block_type_at
block_type_exact = record {
  sound = λ bytes ty rest small e. (block_type_sound bytes ty rest small e, tt);
  complete = λ text rest ty h k. block_type_complete ty text rest h;
}

-- ---- tokens

pub arg_exact : (many : Bool) → Exact (SpellsMemArg many) Any (arg_at many)
unfolding arg_at arg_form
arg_exact false = chosen_exact u32_exact (λ a. made_exact (arg_of a) u32_exact)
arg_exact true = chosen_exact u32_exact (λ a. when_exact (nat_lt a 64) (made_exact (arg_of a) u32_exact) (when_exact (nat_lt a 128) (made_exact (arg_in a) (both_exact u32_exact u32_exact)) (never_exact Malformed)))

pub memory_exact : (many : Bool) → Exact (SpellsMemory many) Any (memory_at many)
unfolding memory_at
memory_exact false = tagged_exact 0x00 (just_exact 0)
memory_exact true = u32_exact

simple_exact : (many : Bool) (f : Form) → Exact (Simple many f) Any (simple_of many f)
unfolding simple_of
simple_exact many (plain i) = just_exact (Plain i)
simple_exact many (number f) = made_exact (λ x. Plain (f x)) u32_exact
simple_exact many (numbers f) = made_exact (λ (p : ℕ × ℕ). Plain (f p.0 p.1)) (both_exact u32_exact u32_exact)
simple_exact many const32 = made_exact (λ z. Plain (I32Const z)) s32_exact
simple_exact many const64 = made_exact (λ z. Plain (I64Const z)) s64_exact
simple_exact many table = made_exact (λ (p : List ℕ × ℕ). Plain (BrTable p.0 p.1)) (both_exact (list_exact u32_exact) u32_exact)
simple_exact many typed = made_exact (λ ts. Plain (SelectTyped ts)) (list_exact val_exact)
simple_exact many (access f) = made_exact (λ m. Plain (f m)) (arg_exact many)
simple_exact many (memory f) = made_exact (λ m. Plain (f m)) (memory_exact many)
simple_exact many (memories f) = made_exact (λ (p : ℕ × ℕ). Plain (f p.0 p.1)) (both_exact (memory_exact many) (memory_exact many))
simple_exact many (with_memory f) = made_exact (λ (p : ℕ × ℕ). Plain (f p.0 p.1)) (both_exact u32_exact (memory_exact many))
simple_exact many null = made_exact (λ t. Plain (RefNull t)) ref_exact
simple_exact many (open' k) = made_exact (λ t. Open k t) block_type_exact
simple_exact many else' = just_exact Else
simple_exact many end' = just_exact End
simple_exact many prefixed = never_exact Malformed
simple_exact many unsupported = never_exact Unsupported
simple_exact many unknown = never_exact Malformed

prefixed_exact : (many : Bool) → Exact (FollowsOpcode many prefixed) Any (prefixed_at many)
unfolding prefixed_at
prefixed_exact many = chosen_exact u32_exact (λ n. simple_exact many (sub_form n))

follows_exact : (many : Bool) (f : Form) → Exact (FollowsOpcode many f) Any (token_of many f)
follows_exact many (plain i) = simple_exact many (plain i)
follows_exact many (number f) = simple_exact many (number f)
follows_exact many (numbers f) = simple_exact many (numbers f)
follows_exact many const32 = simple_exact many const32
follows_exact many const64 = simple_exact many const64
follows_exact many table = simple_exact many table
follows_exact many typed = simple_exact many typed
follows_exact many (access f) = simple_exact many (access f)
follows_exact many (memory f) = simple_exact many (memory f)
follows_exact many (memories f) = simple_exact many (memories f)
follows_exact many (with_memory f) = simple_exact many (with_memory f)
follows_exact many null = simple_exact many null
follows_exact many (open' k) = simple_exact many (open' k)
follows_exact many else' = simple_exact many else'
follows_exact many end' = simple_exact many end'
follows_exact many prefixed = prefixed_exact many
follows_exact many unsupported = simple_exact many unsupported
follows_exact many unknown = simple_exact many unknown

pub token_exact : (many : Bool) → Exact (SpellsToken many) Any (token_at many)
unfolding token_at
token_exact many = chosen_exact byte_exact (λ b. follows_exact many (the_form b))

pub token_sound : (many : Bool) (bytes : List ℕ) (t : Token) (rest : List ℕ) → IsBytes bytes → token_at many bytes ≡ Ok (t, rest) → TakesOff (λ b. SpellsToken many b t) bytes rest
token_sound many bytes t rest small e = ((token_exact many).sound bytes t rest small e).0

pub token_complete : (many : Bool) (text : List ℕ) (t : Token) (rest : List ℕ) → SpellsToken many text t → token_at many (text ++ rest) ≡ Ok (t, rest)
token_complete many text t rest h = (token_exact many).complete text rest t h tt
