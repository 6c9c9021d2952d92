-- Numbers among the arguments of a command line.
use Rattle.std.specs.Prelude.{ℕ, Bool, not, ◌&&◌, ltb, length, if◌then◌else◌, Option, Some, None}
use Rattle.std.specs.Str.{all_ascii_digits}
use Rattle.std.specs.Str.Parse.{digits_value}
use Rattle.tools_cli_words.specs.Arguments.{Text}

-- The text is one to ten decimal digits, without a sign. It may begin with zeros.
abbrev pub is_number : Text → Bool
is_number text = all_ascii_digits text && (ltb 0 (length text) && ltb (length text) 11)

-- The number that the text has in decimal (`is_number`), if it is from `least` to `most`.
abbrev pub number_within : (least most : ℕ) → Text → Option ℕ
number_within least most text =
    if is_number text && (not (ltb (digits_value 10 text) least) && not (ltb most (digits_value 10 text))) then Some (digits_value 10 text) else None
