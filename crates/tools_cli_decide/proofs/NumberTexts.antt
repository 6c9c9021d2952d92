-- Numbers that are read from decimal digits.
use Rattle.base_lists.proofs.Common.{◌≡◌, ◌∙◌, refl, ℕ, ◌<◌, ◌≤◌, ◌^◌, Bool, true, false, not, cond, ltb, length, Option, Some, None, Err, arith, ◌&&◌, and_parts, nat_tests}
use Rattle.std.specs.Str.{all_ascii_digits}
use Rattle.std.specs.Str.Parse.{digits_value, ParsesUnsigned}
use Rattle.std.proofs.lemmas.Str.Parse.{numerals_by_value, tells_all_ascii_digits, parse_digits}
use Rattle.tools_cli_words.specs.Arguments.{Text}
use Rattle.tools_cli_spec.specs.Numbers.{is_number, number_within}

-- The number if it is in the range.
abbrev pub within : (least most n : ℕ) → Option ℕ
within least most n = cond (not (ltb n least) && not (ltb most n)) (Some n) None

above : (least most n : ℕ) → most < n → within least most n ≡ None
above least most n lt = let test : ltb most n ≡ true = grind (arith, nat_tests) in by (ltb n least) (ltb most n) test
  where
    by : (a b : Bool) → b ≡ true → cond (not a && not b) (Some n) None ≡ None
    by true b e = refl
    by false true e = refl
    by false false e = absurd (cc)

-- The result of `number_within` for a text that is a number.
number_is : (least most : ℕ) (text : Text) → is_number text ≡ true → number_within least most text ≡ within least most (digits_value 10 text)
number_is least most text e = rw e refl

parts : (text : Text) → is_number text ≡ true → (all_ascii_digits text ≡ true) × (0 < length text)
parts text e =
    let first = and_parts (all_ascii_digits text) (ltb 0 (length text) && ltb (length text) 11) e in
    let second = and_parts (ltb 0 (length text)) (ltb (length text) 11) first.1 in
    (first.0, some second.0)
  where
    some : ltb 0 (length text) ≡ true → 0 < length text
    some h = grind (arith, nat_tests)

not_small : (n : ℕ) → (n < 2 ^ 32 → ⊥) → 2 ^ 32 ≤ n
not_small n never = by (ltb n (2 ^ 32)) refl
  where
    by : (b : Bool) → ltb n (2 ^ 32) ≡ b → 2 ^ 32 ≤ n
    by true e = let lt : n < 2 ^ 32 = grind (arith, nat_tests) in absurd (never lt)
    by false e = grind (arith, nat_tests)

-- A text of a number that is not read as a u32 has no number in the range.
pub not_parsed : {E : Type 0} (text : Text) → is_number text ≡ true → (x : E) → ParsesUnsigned 32 10 text (Err x) → (least most : ℕ) → most < 2 ^ 32 → number_within least most text ≡ None
not_parsed text e x h least most few =
    let (digits, some) = parts text e in
    let never = parse_digits (numerals_by_value (λ ds. all_ascii_digits ds ≡ true) tells_all_ascii_digits) 32 text (Err x) h digits in
    let never_small : digits_value 10 text < 2 ^ 32 → ⊥ = λ lt. never (some, lt) in
    let large = not_small (digits_value 10 text) never_small in
    number_is least most text e ∙ above least most (digits_value 10 text) (omega (arith, few, large))
