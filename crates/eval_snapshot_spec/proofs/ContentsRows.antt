-- Contents of memories as data segments, computed.
use Rattle.base_lists.proofs.Common.{◌≡◌, ◌∙◌, ap, ap₂, refl, arith, ℕ, zero, suc, ◌+◌, ◌-◌, pos, negsuc, List, [], ◌∷◌, ◌++◌, map, replicate, drop, take}
use Rattle.base_lists.specs.Places.{places}
use Rattle.wasm_tree.specs.declared.module.ConstExpr.TheVariants as const
use Rattle.wasm_tree.specs.declared.module.DataMode.TheVariants as data'
use Rattle.wasm_num.specs.Operations.{signed}
use Rattle.eval_snapshot_spec.specs.Contents.{contents, is_nonzero, stretch_segment, stretches_over}
use Rattle.eval_snapshot_spec.proofs.Modules.{at}

abbrev pub zeros : ℕ → List ℕ
zeros n = replicate n 0

nothing_is_there : contents 0 (zeros 65536) ≡ []
nothing_is_there = refl

one_byte : contents 0 (zeros 1024 ++ 42 ∷ zeros 64511) ≡ at 1024 (42 ∷ []) ∷ []
unfolding signed
one_byte = refl

-- Zeros at both ends are left out.
ends_are_left_out : contents 0 (0 ∷ 1 ∷ 0 ∷ 2 ∷ 0 ∷ []) ≡ at 1 (1 ∷ 0 ∷ 2 ∷ []) ∷ []
unfolding signed
ends_are_left_out = refl

-- The first and the last byte of a memory count like any other.
all_of_it : contents 0 (1 ∷ 2 ∷ 3 ∷ []) ≡ at 0 (1 ∷ 2 ∷ 3 ∷ []) ∷ []
unfolding signed
all_of_it = refl

-- Two bytes with 255 zeros between them stand in one segment.
pub they_join : contents 0 (zeros 10 ++ 7 ∷ zeros 255 ++ 8 ∷ zeros 300) ≡ at 10 (7 ∷ zeros 255 ++ 8 ∷ []) ∷ []
unfolding signed
they_join = refl

-- Two bytes with 256 zeros between them stand in two segments.
pub they_part : contents 0 (zeros 10 ++ 7 ∷ zeros 256 ++ 8 ∷ zeros 300) ≡ at 10 (7 ∷ []) ∷ at 267 (8 ∷ []) ∷ []
unfolding signed
they_part = refl

-- The limit of 255 zeros also holds for bytes in two blocks of a memory, and a segment may join
-- more than two bytes.
three_in_one : contents 0 (zeros 4000 ++ 7 ∷ zeros 255 ++ 8 ∷ zeros 255 ++ 9 ∷ zeros 256 ++ 10 ∷ []) ≡ at 4000 (7 ∷ zeros 255 ++ 8 ∷ zeros 255 ++ 9 ∷ []) ∷ at 4769 (10 ∷ []) ∷ []
unfolding signed
three_in_one = refl

-- ---- offsets from 2 ^ 31 on ----

positive : (stretch_segment 0 [] (record { first = 2147483647; last = 2147483647 })).mode ≡ data'.Active 0 (const.I32 (pos 2147483647))
unfolding signed
positive = refl

pub negative : (stretch_segment 0 [] (record { first = 2147483648; last = 2147483648 })).mode ≡ data'.Active 0 (const.I32 (negsuc 2147483647))
unfolding signed
negative = refl

zeros_before : (n k : ℕ) (bytes : List ℕ) → places is_nonzero (zeros n ++ bytes) k ≡ places is_nonzero bytes (n + k)
zeros_before zero k bytes = ap (places is_nonzero bytes) (let e : k ≡ 0 + k = omega arith in e)
zeros_before (suc n) k bytes = zeros_before n (suc k) bytes ∙ ap (places is_nonzero bytes) (let e : n + suc k ≡ suc n + k = omega arith in e)

behind_zeros : (n : ℕ) (bytes : List ℕ) → drop n (zeros n ++ bytes) ≡ bytes
behind_zeros zero bytes = refl
behind_zeros (suc n) bytes = behind_zeros n bytes

-- A memory with `n` zeros and then a 1 has one segment, at offset `n`.
one_behind : (n : ℕ) → contents 0 (zeros n ++ 1 ∷ []) ≡ record { mode = data'.Active 0 (const.I32 (signed 32 n)); bytes = 1 ∷ [] } ∷ []
one_behind n =
    let place : n + 0 ≡ n = omega arith in
    let count : suc n - n ≡ 1 = omega arith in
    ap (λ ps. map (stretch_segment 0 (zeros n ++ 1 ∷ [])) (stretches_over ps)) (zeros_before n 0 (1 ∷ []) ∙ ap (λ k. k ∷ []) place)
    ∙ ap (λ bytes. record { mode = data'.Active 0 (const.I32 (signed 32 n)); bytes = bytes } ∷ []) (ap₂ take count (behind_zeros n (1 ∷ [])))

-- The last byte of 65,536 pages stands at the offset that is written as -1.
the_last_of_all : contents 0 (zeros 4294967295 ++ 1 ∷ []) ≡ record { mode = data'.Active 0 (const.I32 (negsuc 0)); bytes = 1 ∷ [] } ∷ []
unfolding signed
the_last_of_all = one_behind 4294967295
