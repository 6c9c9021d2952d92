-- Reading functions for tokens and their nesting, in the order of the bytes.
use Rattle.std.specs.Prelude.{◌≡◌, ◌≤◌, ℕ, zero, suc, ◌+◌, length, List, [], ◌∷◌, ◌++◌, Bool, true, false, Result, Ok, Err, nat_lt, ◌==◌, if◌then◌else◌}
use Rattle.wasm_bytes.specs.Prelude.{◌>>=◌}
use Rattle.wasm_tree_spec.specs.Prelude.{Nesting, BlockType, MemArg, Instr, Block, Loop, If, BrTable, SelectTyped, I32Const, I64Const, RefNull, LocalGroup, limit}
use Rattle.wasm_read_spec.specs.declared.fault.Fault.{Fault}
use Rattle.wasm_read_spec.specs.declared.fault.Fault.TheVariants.{Malformed, Unsupported, Limit}
use Rattle.wasm_read_spec.specs.declared.token.Opener.{Opener}
use Rattle.wasm_read_spec.specs.declared.token.Opener.TheVariants as opener
use Rattle.wasm_read_spec.specs.declared.token.Token.{Token}
use Rattle.wasm_read_spec.specs.declared.token.Token.TheVariants.{Open, Else, End, Plain}
use Rattle.wasm_read_spec.specs.declared.token.Sequence.{Sequence}
use Rattle.wasm_read_spec.specs.Tokens.{Form, plain, number, numbers, const32, const64, table, typed, access, memory, memories, with_memory, null, open', else', end', prefixed, unsupported, unknown}
use Rattle.wasm_read_spec.specs.Tokens.{the_form, sub_form, arg_of, arg_in}
use Rattle.wasm_read_spec.specs.Bodies.{CodeEntry}
use Rattle.wasm_read_spec.specs.Reading.{Reader, byte_at, u32_at, s32_at, s64_at, just_at, fault_at, pair_at, mapped_at, chosen_at, when_at, tagged_at, list_at, val_at, ref_at, block_type_at}
use Rattle.wasm_read_spec.specs.Reading.{locals_at}

-- ---- tokens

abbrev pub arg_from : Bool → ℕ → Reader MemArg
arg_from false a = mapped_at (arg_of a) u32_at
arg_from true a = when_at (nat_lt a 64) (mapped_at (arg_of a) u32_at) (when_at (nat_lt a 128) (mapped_at (arg_in a) (pair_at u32_at u32_at)) (fault_at Malformed))

unfoldable pub arg_at : Bool → Reader MemArg
arg_at many = chosen_at u32_at (arg_from many)

unfoldable pub memory_at : Bool → Reader ℕ
memory_at false = tagged_at 0x00 (just_at 0)
memory_at true = u32_at

abbrev pub plain_at : {A : Type 0} → (A → Instr) → Reader A → Reader Token
plain_at make = mapped_at (λ x. Plain (make x))

unfoldable pub simple_of : Bool → Form → Reader Token
simple_of many (plain i) = just_at (Plain i)
simple_of many (number f) = plain_at f u32_at
simple_of many (numbers f) = plain_at (λ (p : ℕ × ℕ). f p.0 p.1) (pair_at u32_at u32_at)
simple_of many const32 = plain_at I32Const s32_at
simple_of many const64 = plain_at I64Const s64_at
simple_of many table = plain_at (λ (p : List ℕ × ℕ). BrTable p.0 p.1) (pair_at (list_at u32_at) u32_at)
simple_of many typed = plain_at SelectTyped (list_at val_at)
simple_of many (access f) = plain_at f (arg_at many)
simple_of many (memory f) = plain_at f (memory_at many)
simple_of many (memories f) = plain_at (λ (p : ℕ × ℕ). f p.0 p.1) (pair_at (memory_at many) (memory_at many))
simple_of many (with_memory f) = plain_at (λ (p : ℕ × ℕ). f p.0 p.1) (pair_at u32_at (memory_at many))
simple_of many null = plain_at RefNull ref_at
simple_of many (open' k) = mapped_at (λ t. Open k t) block_type_at
simple_of many else' = just_at Else
simple_of many end' = just_at End
simple_of many prefixed = fault_at Malformed
simple_of many unsupported = fault_at Unsupported
simple_of many unknown = fault_at Malformed

unfoldable pub prefixed_at : Bool → Reader Token
prefixed_at many = chosen_at u32_at (λ n. simple_of many (sub_form n))

abbrev pub token_of : Bool → Form → Reader Token
token_of many prefixed = prefixed_at many
token_of many f = simple_of many f

unfoldable pub token_at : Bool → Reader Token
token_at many = chosen_at byte_at (λ b. token_of many (the_form b))

-- ---- blocks

abbrev pub ReadResult : Type 0 → Type 0
ReadResult A = Result (A × List ℕ) Fault

-- The sequence with these instructions in front.
abbrev pub behind : List Instr → ReadResult Sequence → ReadResult Sequence
behind front (Ok r) = Ok (record { items = front ++ r.0.items; by_else = r.0.by_else }, r.1)
behind front (Err e) = Err e

-- The instruction made of the sequence, if an `end` ended it.
abbrev pub closed : (List Instr → Instr) → Sequence × List ℕ → ReadResult Instr
closed make (s, rest) = if s.by_else then Err Malformed else Ok (make s.items, rest)

abbrev pub two_armed : BlockType → (List ℕ → ReadResult Sequence) → Sequence × List ℕ → ReadResult Instr
two_armed ty next (s, rest) = if s.by_else then (next rest >>= closed (If ty s.items)) else Ok (If ty s.items [], rest)

abbrev pub enclosed : Opener → BlockType → (List ℕ → ReadResult Sequence) → Sequence × List ℕ → ReadResult Instr
enclosed opener.Block ty next = closed (Block ty)
enclosed opener.Loop ty next = closed (Loop ty)
enclosed opener.If ty next = two_armed ty next

-- `next deeper` reads a sequence in which at most `deeper` blocks can be open at once.
unfoldable pub block_at : (ℕ → List ℕ → ReadResult Sequence) → ℕ → Opener → BlockType → List ℕ → ReadResult Instr
block_at next zero k ty bs = Err (Limit Nesting)
block_at next (suc deeper) k ty bs = next deeper bs >>= enclosed k ty (next deeper)

abbrev pub after_token : (ℕ → List ℕ → ReadResult Sequence) → ℕ → Token → List ℕ → ReadResult Sequence
after_token next deeper End rest = Ok (record { items = []; by_else = false }, rest)
after_token next deeper Else rest = Ok (record { items = []; by_else = true }, rest)
after_token next deeper (Plain i) rest = behind (i ∷ []) (next deeper rest)
after_token next deeper (Open k ty) rest = block_at next deeper k ty rest >>= (λ b. behind (b.0 ∷ []) (next deeper b.1))

-- The sequence up to the `end` or `else` that ends it. `fuel` is at least the number of bytes.
unfoldable pub sequence_at : Bool → ℕ → ℕ → List ℕ → ReadResult Sequence
sequence_at many zero deeper bs = Err Malformed
sequence_at many (suc fuel) deeper bs = token_at many bs >>= (λ t. after_token (sequence_at many fuel) deeper t.0 t.1)

-- With at least as much fuel as there are bytes, a sequence is read token by token. What follows the
-- token is read with fuel of which there is still enough.
abbrev pub TokenByToken : Type 0
TokenByToken = (many : Bool) (fuel deeper : ℕ) (bytes : List ℕ) → length bytes ≤ fuel →
    (left : ℕ) × (length bytes ≤ left + 1) × (sequence_at many fuel deeper bytes ≡ (token_at many bytes >>= (λ t. after_token (sequence_at many left) deeper t.0 t.1)))

-- The instructions of the sequence, if it is all of the bytes and an `end` ended it.
abbrev pub whole : Sequence × List ℕ → Result (List Instr) Fault
whole (s, rest) = if s.by_else then Err Malformed else (if length rest == 0 then Ok s.items else Err Malformed)

unfoldable pub body_at : Bool → List ℕ → Result (List Instr) Fault
body_at many bs = sequence_at many (length bs) (limit Nesting) bs >>= whole

-- ---- the content of an entry

abbrev pub code_of : List LocalGroup → List Instr → CodeEntry
code_of ls is = record { locals = ls; body = is }

unfoldable pub code_at : Bool → List ℕ → Result CodeEntry Fault
code_at many bs = locals_at bs >>= (λ ls. body_at many ls.1 >>= (λ is. Ok (code_of ls.0 is)))
