-- Numbers that are read from decimal digits are in their range.
use Rattle.base_lists.proofs.Common.{◌≡◌, refl, ℕ, ◌≤◌, Bool, true, false, not, cond, ltb, Some, None, IfSome, arith, ◌&&◌, nat_tests}
use Rattle.std.specs.Str.Parse.{digits_value}
use Rattle.tools_cli_words.specs.Arguments.{Text}
use Rattle.tools_cli_spec.specs.Numbers.{is_number, number_within}

-- A number that is read is in the range.
pub in_range : (least most : ℕ) (text : Text) → IfSome (number_within least most text) (λ n. (least ≤ n) × (n ≤ most))
in_range least most text = by (is_number text) (ltb (digits_value 10 text) least) (ltb most (digits_value 10 text)) refl refl
  where
    by : (a b c : Bool) → ltb (digits_value 10 text) least ≡ b → ltb most (digits_value 10 text) ≡ c → IfSome (cond (a && (not b && not c)) (Some (digits_value 10 text)) None) (λ n. (least ≤ n) × (n ≤ most))
    by false b c below over = tt
    by true true c below over = tt
    by true false true below over = tt
    by true false false below over = (grind (arith, nat_tests), grind (arith, nat_tests))
