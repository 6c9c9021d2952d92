-- The integer operations, as formulas over whole numbers (WebAssembly Core 2.0, section 4.3.2; wrap
-- and extend_i32 are in section 4.3.4). An operand of w bits is a number below 2 ^ w, which is read
-- with its sign if the operation is signed.
use Rattle.std.specs.Prelude.{ℕ, zero, suc, ◌+◌, ◌-◌, ◌*◌, ◌/◌, ◌%◌, ◌^◌, Option, Some, None, Result, Ok, Err, Bool, if◌then◌else◌, nat_eq, nat_lt, nat_le, not, ℤ, pos, negsuc, ◌-ℤ◌, int_lt, int_le}
use Rattle.std.specs.Prelude.{int_div, int_rem, bit_and, bit_or, bit_xor}
use Rattle.wasm_num.specs.declared.Num.{Num}
use Rattle.wasm_num.specs.declared.Num.TheVariants as num
use Rattle.wasm_num.specs.declared.Trap.{Trap}
use Rattle.wasm_num.specs.declared.UnOp.{UnOp}
use Rattle.wasm_num.specs.declared.UnOp.TheVariants as un
use Rattle.wasm_num.specs.declared.BinOp.{BinOp}
use Rattle.wasm_num.specs.declared.BinOp.TheVariants as bin

-- The two integer types.
pub data Width : Type 0 where
  W32 : Width
  W64 : Width

abbrev pub bits_of : Width → ℕ
bits_of W32 = 32
bits_of W64 = 64

-- A number of the program: its type and its value.
abbrev pub type_of : Num → Width
type_of (num.I32 n) = W32
type_of (num.I64 n) = W64

abbrev pub value_of : Num → ℕ
value_of (num.I32 n) = n
value_of (num.I64 n) = n

abbrev pub number : Width → ℕ → Num
number W32 n = num.I32 n
number W64 n = num.I64 n

-- The number with this value, or a trap if there is no value.
abbrev pub or_trap : Width → Option ℕ → Result Num Trap
or_trap w (Some n) = Ok (number w n)
or_trap w None = Err (record {})

-- ---- readings of numbers ----

-- The number read with its sign.
unfoldable pub signed : ℕ → ℕ → ℤ
signed bits n = if nat_lt n (2 ^ (bits - 1)) then pos n else pos n -ℤ pos (2 ^ bits)

-- The number below 2 ^ bits that differs from the given one by a multiple of 2 ^ bits.
unfoldable pub wrapped : ℕ → ℤ → ℕ
wrapped bits (pos n) = n % 2 ^ bits
wrapped bits (negsuc n) = 2 ^ bits - 1 - n % 2 ^ bits

-- The result of a test.
unfoldable pub truth : Bool → ℕ
truth holds = if holds then 1 else 0

-- A signed number divided by 2 ^ k, rounded down.
unfoldable pub halved : ℕ → ℤ → ℤ
halved k (pos n) = pos (n / 2 ^ k)
halved k (negsuc n) = negsuc (n / 2 ^ k)

-- ---- counts of bits ----

-- How many of the highest bits are 0.
unfoldable pub leading : ℕ → ℕ → ℕ
leading zero n = 0
leading (suc bits) n = if nat_lt n (2 ^ bits) then suc (leading bits n) else 0

-- How many of the lowest bits are 0.
unfoldable pub trailing : ℕ → ℕ → ℕ
trailing zero n = 0
trailing (suc bits) n = if nat_eq (n % 2) 0 then suc (trailing bits (n / 2)) else 0

-- How many bits are 1.
unfoldable pub ones : ℕ → ℕ → ℕ
ones zero n = 0
ones (suc bits) n = n % 2 + ones bits (n / 2)

-- The lowest bits of a number, extended with their sign.
unfoldable pub extended : (from bits : ℕ) → ℕ → ℕ
unfolding signed wrapped
extended from bits n = wrapped bits (signed from (n % 2 ^ from))

-- ---- operations of two numbers ----

unfoldable pub add : ℕ → ℕ → ℕ → ℕ
add bits a b = (a + b) % 2 ^ bits

unfoldable pub subtract : ℕ → ℕ → ℕ → ℕ
unfolding wrapped
subtract bits a b = wrapped bits (pos a -ℤ pos b)

unfoldable pub multiply : ℕ → ℕ → ℕ → ℕ
multiply bits a b = (a * b) % 2 ^ bits

-- Rounded towards zero. `None` if the divisor is 0 or the type cannot hold the quotient.
unfoldable pub divide_signed : ℕ → ℕ → ℕ → Option ℕ
unfolding signed wrapped
divide_signed bits a b =
    if nat_eq b 0 then None
    else (if int_le (pos (2 ^ (bits - 1))) (int_div (signed bits a) (signed bits b)) then None else Some (wrapped bits (int_div (signed bits a) (signed bits b))))

unfoldable pub divide_unsigned : ℕ → ℕ → Option ℕ
divide_unsigned a b = if nat_eq b 0 then None else Some (a / b)

-- The sign is that of the dividend. `None` if the divisor is 0.
unfoldable pub remainder_signed : ℕ → ℕ → ℕ → Option ℕ
unfolding signed wrapped
remainder_signed bits a b = if nat_eq b 0 then None else Some (wrapped bits (int_rem (signed bits a) (signed bits b)))

unfoldable pub remainder_unsigned : ℕ → ℕ → Option ℕ
remainder_unsigned a b = if nat_eq b 0 then None else Some (a % b)

-- Shifts and rotations use the count modulo the width.
unfoldable pub shift_left : ℕ → ℕ → ℕ → ℕ
shift_left bits a count = (a * 2 ^ (count % bits)) % 2 ^ bits

unfoldable pub shift_right_signed : ℕ → ℕ → ℕ → ℕ
unfolding signed wrapped halved
shift_right_signed bits a count = wrapped bits (halved (count % bits) (signed bits a))

unfoldable pub shift_right_unsigned : ℕ → ℕ → ℕ → ℕ
shift_right_unsigned bits a count = a / 2 ^ (count % bits)

unfoldable pub rotate_left : ℕ → ℕ → ℕ → ℕ
rotate_left bits a count = (a * 2 ^ (count % bits)) % 2 ^ bits + a / 2 ^ (bits - count % bits)

unfoldable pub rotate_right : ℕ → ℕ → ℕ → ℕ
rotate_right bits a count = a / 2 ^ (count % bits) + (a * 2 ^ (bits - count % bits)) % 2 ^ bits

-- ---- by operation ----

-- The type of the operand.
unfoldable pub un_from : UnOp → Width
un_from un.I32Eqz = W32
un_from un.I64Eqz = W64
un_from un.I32Clz = W32
un_from un.I32Ctz = W32
un_from un.I32Popcnt = W32
un_from un.I64Clz = W64
un_from un.I64Ctz = W64
un_from un.I64Popcnt = W64
un_from un.I32Extend8S = W32
un_from un.I32Extend16S = W32
un_from un.I64Extend8S = W64
un_from un.I64Extend16S = W64
un_from un.I64Extend32S = W64
un_from un.I32WrapI64 = W64
un_from un.I64ExtendI32S = W32
un_from un.I64ExtendI32U = W32

-- The type of the result.
unfoldable pub un_to : UnOp → Width
un_to un.I32Eqz = W32
un_to un.I64Eqz = W32
un_to un.I32Clz = W32
un_to un.I32Ctz = W32
un_to un.I32Popcnt = W32
un_to un.I64Clz = W64
un_to un.I64Ctz = W64
un_to un.I64Popcnt = W64
un_to un.I32Extend8S = W32
un_to un.I32Extend16S = W32
un_to un.I64Extend8S = W64
un_to un.I64Extend16S = W64
un_to un.I64Extend32S = W64
un_to un.I32WrapI64 = W32
un_to un.I64ExtendI32S = W64
un_to un.I64ExtendI32U = W64

-- The value of the result.
unfoldable pub un_value : UnOp → ℕ → ℕ
unfolding truth leading trailing ones extended
un_value un.I32Eqz n = truth (nat_eq n 0)
un_value un.I64Eqz n = truth (nat_eq n 0)
un_value un.I32Clz n = leading 32 n
un_value un.I32Ctz n = trailing 32 n
un_value un.I32Popcnt n = ones 32 n
un_value un.I64Clz n = leading 64 n
un_value un.I64Ctz n = trailing 64 n
un_value un.I64Popcnt n = ones 64 n
un_value un.I32Extend8S n = extended 8 32 n
un_value un.I32Extend16S n = extended 16 32 n
un_value un.I64Extend8S n = extended 8 64 n
un_value un.I64Extend16S n = extended 16 64 n
un_value un.I64Extend32S n = extended 32 64 n
un_value un.I32WrapI64 n = n % 2 ^ 32
un_value un.I64ExtendI32S n = extended 32 64 n
un_value un.I64ExtendI32U n = n

-- The type of both operands.
unfoldable pub bin_from : BinOp → Width
bin_from bin.I32Eq = W32
bin_from bin.I32Ne = W32
bin_from bin.I32LtS = W32
bin_from bin.I32LtU = W32
bin_from bin.I32GtS = W32
bin_from bin.I32GtU = W32
bin_from bin.I32LeS = W32
bin_from bin.I32LeU = W32
bin_from bin.I32GeS = W32
bin_from bin.I32GeU = W32
bin_from bin.I32Add = W32
bin_from bin.I32Sub = W32
bin_from bin.I32Mul = W32
bin_from bin.I32DivS = W32
bin_from bin.I32DivU = W32
bin_from bin.I32RemS = W32
bin_from bin.I32RemU = W32
bin_from bin.I32And = W32
bin_from bin.I32Or = W32
bin_from bin.I32Xor = W32
bin_from bin.I32Shl = W32
bin_from bin.I32ShrS = W32
bin_from bin.I32ShrU = W32
bin_from bin.I32Rotl = W32
bin_from bin.I32Rotr = W32
bin_from bin.I64Eq = W64
bin_from bin.I64Ne = W64
bin_from bin.I64LtS = W64
bin_from bin.I64LtU = W64
bin_from bin.I64GtS = W64
bin_from bin.I64GtU = W64
bin_from bin.I64LeS = W64
bin_from bin.I64LeU = W64
bin_from bin.I64GeS = W64
bin_from bin.I64GeU = W64
bin_from bin.I64Add = W64
bin_from bin.I64Sub = W64
bin_from bin.I64Mul = W64
bin_from bin.I64DivS = W64
bin_from bin.I64DivU = W64
bin_from bin.I64RemS = W64
bin_from bin.I64RemU = W64
bin_from bin.I64And = W64
bin_from bin.I64Or = W64
bin_from bin.I64Xor = W64
bin_from bin.I64Shl = W64
bin_from bin.I64ShrS = W64
bin_from bin.I64ShrU = W64
bin_from bin.I64Rotl = W64
bin_from bin.I64Rotr = W64

-- The type of the result. That of a test is i32.
unfoldable pub bin_to : BinOp → Width
bin_to bin.I32Eq = W32
bin_to bin.I32Ne = W32
bin_to bin.I32LtS = W32
bin_to bin.I32LtU = W32
bin_to bin.I32GtS = W32
bin_to bin.I32GtU = W32
bin_to bin.I32LeS = W32
bin_to bin.I32LeU = W32
bin_to bin.I32GeS = W32
bin_to bin.I32GeU = W32
bin_to bin.I32Add = W32
bin_to bin.I32Sub = W32
bin_to bin.I32Mul = W32
bin_to bin.I32DivS = W32
bin_to bin.I32DivU = W32
bin_to bin.I32RemS = W32
bin_to bin.I32RemU = W32
bin_to bin.I32And = W32
bin_to bin.I32Or = W32
bin_to bin.I32Xor = W32
bin_to bin.I32Shl = W32
bin_to bin.I32ShrS = W32
bin_to bin.I32ShrU = W32
bin_to bin.I32Rotl = W32
bin_to bin.I32Rotr = W32
bin_to bin.I64Eq = W32
bin_to bin.I64Ne = W32
bin_to bin.I64LtS = W32
bin_to bin.I64LtU = W32
bin_to bin.I64GtS = W32
bin_to bin.I64GtU = W32
bin_to bin.I64LeS = W32
bin_to bin.I64LeU = W32
bin_to bin.I64GeS = W32
bin_to bin.I64GeU = W32
bin_to bin.I64Add = W64
bin_to bin.I64Sub = W64
bin_to bin.I64Mul = W64
bin_to bin.I64DivS = W64
bin_to bin.I64DivU = W64
bin_to bin.I64RemS = W64
bin_to bin.I64RemU = W64
bin_to bin.I64And = W64
bin_to bin.I64Or = W64
bin_to bin.I64Xor = W64
bin_to bin.I64Shl = W64
bin_to bin.I64ShrS = W64
bin_to bin.I64ShrU = W64
bin_to bin.I64Rotl = W64
bin_to bin.I64Rotr = W64

-- The value of the result; `None` is a trap.
unfoldable pub bin_value : BinOp → ℕ → ℕ → Option ℕ
unfolding truth signed add subtract multiply divide_signed divide_unsigned remainder_signed remainder_unsigned shift_left shift_right_signed shift_right_unsigned rotate_left rotate_right
bin_value bin.I32Eq a b = Some (truth (nat_eq a b))
bin_value bin.I32Ne a b = Some (truth (not (nat_eq a b)))
bin_value bin.I32LtS a b = Some (truth (int_lt (signed 32 a) (signed 32 b)))
bin_value bin.I32LtU a b = Some (truth (nat_lt a b))
bin_value bin.I32GtS a b = Some (truth (int_lt (signed 32 b) (signed 32 a)))
bin_value bin.I32GtU a b = Some (truth (nat_lt b a))
bin_value bin.I32LeS a b = Some (truth (int_le (signed 32 a) (signed 32 b)))
bin_value bin.I32LeU a b = Some (truth (nat_le a b))
bin_value bin.I32GeS a b = Some (truth (int_le (signed 32 b) (signed 32 a)))
bin_value bin.I32GeU a b = Some (truth (nat_le b a))
bin_value bin.I32Add a b = Some (add 32 a b)
bin_value bin.I32Sub a b = Some (subtract 32 a b)
bin_value bin.I32Mul a b = Some (multiply 32 a b)
bin_value bin.I32DivS a b = divide_signed 32 a b
bin_value bin.I32DivU a b = divide_unsigned a b
bin_value bin.I32RemS a b = remainder_signed 32 a b
bin_value bin.I32RemU a b = remainder_unsigned a b
bin_value bin.I32And a b = Some (bit_and a b)
bin_value bin.I32Or a b = Some (bit_or a b)
bin_value bin.I32Xor a b = Some (bit_xor a b)
bin_value bin.I32Shl a b = Some (shift_left 32 a b)
bin_value bin.I32ShrS a b = Some (shift_right_signed 32 a b)
bin_value bin.I32ShrU a b = Some (shift_right_unsigned 32 a b)
bin_value bin.I32Rotl a b = Some (rotate_left 32 a b)
bin_value bin.I32Rotr a b = Some (rotate_right 32 a b)
bin_value bin.I64Eq a b = Some (truth (nat_eq a b))
bin_value bin.I64Ne a b = Some (truth (not (nat_eq a b)))
bin_value bin.I64LtS a b = Some (truth (int_lt (signed 64 a) (signed 64 b)))
bin_value bin.I64LtU a b = Some (truth (nat_lt a b))
bin_value bin.I64GtS a b = Some (truth (int_lt (signed 64 b) (signed 64 a)))
bin_value bin.I64GtU a b = Some (truth (nat_lt b a))
bin_value bin.I64LeS a b = Some (truth (int_le (signed 64 a) (signed 64 b)))
bin_value bin.I64LeU a b = Some (truth (nat_le a b))
bin_value bin.I64GeS a b = Some (truth (int_le (signed 64 b) (signed 64 a)))
bin_value bin.I64GeU a b = Some (truth (nat_le b a))
bin_value bin.I64Add a b = Some (add 64 a b)
bin_value bin.I64Sub a b = Some (subtract 64 a b)
bin_value bin.I64Mul a b = Some (multiply 64 a b)
bin_value bin.I64DivS a b = divide_signed 64 a b
bin_value bin.I64DivU a b = divide_unsigned a b
bin_value bin.I64RemS a b = remainder_signed 64 a b
bin_value bin.I64RemU a b = remainder_unsigned a b
bin_value bin.I64And a b = Some (bit_and a b)
bin_value bin.I64Or a b = Some (bit_or a b)
bin_value bin.I64Xor a b = Some (bit_xor a b)
bin_value bin.I64Shl a b = Some (shift_left 64 a b)
bin_value bin.I64ShrS a b = Some (shift_right_signed 64 a b)
bin_value bin.I64ShrU a b = Some (shift_right_unsigned 64 a b)
bin_value bin.I64Rotl a b = Some (rotate_left 64 a b)
bin_value bin.I64Rotr a b = Some (rotate_right 64 a b)
