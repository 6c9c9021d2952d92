-- The readers of tokens report the stops of their bytes, and no others.
use Rattle.base_lists.proofs.Common.{◌≡◌, ℕ, List, [], ◌∷◌, Err, Bool, true, false, inl, ⊎_elim, refl, sym, ap, ◌∙◌, arith, ℤ, pos, negsuc, and_parts, nat_lt, nat_le, ◌==◌, ◌&&◌, cond_is}
use Rattle.wasm_bytes.specs.Prelude.{◌>>=◌, IsBytes, signed_at}
use Rattle.wasm_tree_spec.specs.Prelude.{Value}
use Rattle.wasm_read_spec.specs.declared.fault.Fault.{Fault}
use Rattle.wasm_read_spec.specs.declared.fault.Fault.TheVariants.{Malformed}
use Rattle.wasm_read_spec.specs.declared.token.Token.TheVariants.{Else, End, Plain}
use Rattle.wasm_read_spec.specs.Prelude.{Form, plain, number, numbers, const32, const64, table, access, memory, memories, with_memory, null, open', else', end', prefixed, unsupported, unknown, the_form, sub_form, NoStop, or_malformed, u32_at, list_at, val_at, mapped_at, token_of}
use Rattle.wasm_read_spec.specs.Tokens.{typed}
use Rattle.wasm_read_spec.specs.Stops.{is_unsupported_val, ValStops, SimpleStops, FollowsStop, TokenStops}
use Rattle.wasm_read_spec.specs.Reading.{index_of, block_type_at}
use Rattle.wasm_read_spec.specs.BodyReading.{arg_at, memory_at, simple_of, prefixed_at, token_at}
use Rattle.wasm_read_spec.proofs.Exact.{byte_exact, u32_exact, list_exact}
use Rattle.wasm_read_spec.proofs.ItemLaws.{val_exact}
use Rattle.wasm_read_spec.proofs.TokenLaws.{memory_exact}
use Rattle.wasm_read_spec.proofs.Stopping.{bind_err, ok_err, Known, Tells, other_stops, or_tells, just_tells, malformed_tells, unsupported_tells, mapped_tells, chosen_tells, u32_tells, list_tells}
use Rattle.wasm_read_spec.proofs.ItemStops.{nothing_then, nothing_when, nothing_chosen, byte_tells, nothing_tagged, s32_tells, s64_tells, val_tells, ref_tells}

-- ---- block types

value_tells : Tells ValStops (mapped_at Value val_at)
value_tells = mapped_tells Value val_tells

index_err : (z : ℤ × List ℕ) (e : Fault) → index_of z ≡ Err e → e ≡ Malformed
index_err (pos n, rest) e h = cc
index_err (negsuc n, rest) e h = let same : Malformed ≡ e = cc in sym same

number_tells : Tells NoStop (λ bs. or_malformed (signed_at 33 bs))
number_tells = or_tells _

number_err : (bytes : List ℕ) (e : Fault) → IsBytes bytes → (or_malformed (signed_at 33 bytes) >>= index_of) ≡ Err e → e ≡ Malformed
number_err bytes e small h = ⊎_elim (λ bad. ⊎_elim (λ m. m) (λ k. absurd k.2) (number_tells.found bytes e small bad)) (λ good. index_err good.0 e good.2) (bind_err (or_malformed (signed_at 33 bytes)) index_of e h)

block_found : (bytes : List ℕ) (e : Fault) → IsBytes bytes → block_type_at bytes ≡ Err e → Known (λ s. ValStops s bytes) e
unfolding block_type_at
block_found [] e small h = inl (let same : Malformed ≡ e = cc in sym same)
block_found (b ∷ bs) e small h = ⊎_elim (λ k. absurd (ok_err _ e k.1))
    (λ k. ⊎_elim (λ v. value_tells.found (b ∷ bs) e small v.1)
    (λ v. ⊎_elim (λ w. value_tells.found (b ∷ bs) e small w.1) (λ w. inl (number_err (b ∷ bs) e small w.1)) (cond_is (nat_le 0x6F b && nat_le b 0x70) _ _ _ v.1))
    (cond_is (nat_le 0x7B b && nat_le b 0x7F) _ _ _ k.1))
    (cond_is (b == 0x40) _ _ _ h)

-- The byte of an unsupported type as a block type is read as that of a value type.
unsupported_first : (b : ℕ) (bs : List ℕ) → is_unsupported_val b ≡ true → block_type_at (b ∷ bs) ≡ mapped_at Value val_at (b ∷ bs)
unfolding block_type_at is_unsupported_val
unsupported_first b bs h =
    let k = and_parts (nat_le 0x7B b) (nat_le b 0x7D) h in
    let other : (b == 0x40) ≡ false = grind (arith, k.0, k.1) in
    let low : nat_le 0x7B b ≡ true = k.0 in
    let high : nat_le b 0x7F ≡ true = grind (arith, k.1) in
    rw (other, low, high)

pub block_type_tells : Tells ValStops block_type_at
block_type_tells = record {
  found = block_found;
  met = λ bytes s h. ap block_type_at h.2 ∙ unsupported_first h.0 h.1 h.3 ∙ value_tells.met (h.0 ∷ h.1) s (h.0, h.1, refl, h.3, h.4);
}

-- ---- tokens

nothing_list : Tells NoStop (list_at u32_at)
nothing_list = other_stops (λ s b h. h.1.3.3.3) (λ s b h. absurd h) (list_tells u32_exact u32_tells)

arg_tells : (many : Bool) → Tells NoStop (arg_at many)
unfolding arg_at
arg_tells false = nothing_chosen u32_exact u32_tells (λ a. mapped_tells _ u32_tells)
arg_tells true = nothing_chosen u32_exact u32_tells (λ a. nothing_when (nat_lt a 64) (mapped_tells _ u32_tells) (nothing_when (nat_lt a 128) (mapped_tells _ (nothing_then u32_exact u32_tells u32_tells)) malformed_tells))

memory_tells : (many : Bool) → Tells NoStop (memory_at many)
unfolding memory_at
memory_tells false = nothing_tagged 0x00 (just_tells 0)
memory_tells true = u32_tells

simple_tells : (many : Bool) (f : Form) → Tells (SimpleStops f) (simple_of many f)
unfolding simple_of
simple_tells many (plain i) = just_tells (Plain i)
simple_tells many (number f) = mapped_tells _ u32_tells
simple_tells many (numbers f) = mapped_tells _ (nothing_then u32_exact u32_tells u32_tells)
simple_tells many const32 = mapped_tells _ s32_tells
simple_tells many const64 = mapped_tells _ s64_tells
simple_tells many table = mapped_tells _ (nothing_then (list_exact u32_exact) nothing_list u32_tells)
simple_tells many typed = mapped_tells _ (list_tells val_exact val_tells)
simple_tells many (access f) = mapped_tells _ (arg_tells many)
simple_tells many (memory f) = mapped_tells _ (memory_tells many)
simple_tells many (memories f) = mapped_tells _ (nothing_then (memory_exact many) (memory_tells many) (memory_tells many))
simple_tells many (with_memory f) = mapped_tells _ (nothing_then u32_exact u32_tells (memory_tells many))
simple_tells many null = mapped_tells _ ref_tells
simple_tells many (open' k) = mapped_tells _ block_type_tells
simple_tells many else' = just_tells Else
simple_tells many end' = just_tells End
simple_tells many prefixed = malformed_tells
simple_tells many unsupported = unsupported_tells
simple_tells many unknown = malformed_tells

follows_tells : (many : Bool) (f : Form) → Tells (FollowsStop f) (token_of many f)
unfolding prefixed_at
follows_tells many (plain i) = simple_tells many (plain i)
follows_tells many (number f) = simple_tells many (number f)
follows_tells many (numbers f) = simple_tells many (numbers f)
follows_tells many const32 = simple_tells many const32
follows_tells many const64 = simple_tells many const64
follows_tells many table = simple_tells many table
follows_tells many typed = simple_tells many typed
follows_tells many (access f) = simple_tells many (access f)
follows_tells many (memory f) = simple_tells many (memory f)
follows_tells many (memories f) = simple_tells many (memories f)
follows_tells many (with_memory f) = simple_tells many (with_memory f)
follows_tells many null = simple_tells many null
follows_tells many (open' k) = simple_tells many (open' k)
follows_tells many else' = simple_tells many else'
follows_tells many end' = simple_tells many end'
follows_tells many prefixed = chosen_tells u32_exact u32_tells (λ n. simple_tells many (sub_form n))
follows_tells many unsupported = simple_tells many unsupported
follows_tells many unknown = simple_tells many unknown

pub token_tells : (many : Bool) → Tells TokenStops (token_at many)
unfolding token_at
token_tells many = chosen_tells byte_exact byte_tells (λ b. follows_tells many (the_form b))
