-- Which bytes encode a token: an opcode with its immediates (Core 2.0, 5.4). The table of opcodes
-- is data.
use Rattle.std.specs.Prelude.{ℕ, ◌-◌, List, Option, Some, None, Bool, true, false, nat_le, nat_lt, ◌==◌, ◌&&◌, ◌||◌, if◌then◌else◌}
use Rattle.wasm_bytes.specs.Prelude.{U32, Vector}
use Rattle.wasm_tree_spec.specs.Prelude.{MemArg, Instr, Unreachable, Nop, Br, BrIf, BrTable, Return, Call, CallIndirect, Drop, Select, SelectTyped, LocalGet, LocalSet, LocalTee, GlobalGet, GlobalSet}
use Rattle.wasm_tree_spec.specs.Prelude.{TableGet, TableSet, Load, Store, MemorySize, MemoryGrow, I32Const, I64Const, Un, Bin, RefNull, RefIsNull, RefFunc, MemoryInit, DataDrop, MemoryCopy}
use Rattle.wasm_tree_spec.specs.Prelude.{MemoryFill, TableInit, ElemDrop, TableCopy, TableGrow, TableSize, TableFill}
use Rattle.wasm_read_spec.specs.declared.token.Opener.{Opener}
use Rattle.wasm_read_spec.specs.declared.token.Opener.TheVariants as opener
use Rattle.wasm_read_spec.specs.declared.token.Token.{Token}
use Rattle.wasm_read_spec.specs.declared.token.Token.TheVariants.{Open, Else, End, Plain}
use Rattle.wasm_read_spec.specs.SpellingForms.{S32, S64, Byte, Just, Never, Both, MadeFrom, Chosen, When, After}
use Rattle.wasm_read_spec.specs.Values.{SpellsVal, SpellsRef, SpellsBlockType}
use Rattle.wasm_read_spec.specs.Operations.{un_of, bin_of, load_of, store_of}

-- ---- the table

-- What follows an opcode.
pub data Form : Type 0 where
  plain : Instr → Form
  number : (ℕ → Instr) → Form
  numbers : (ℕ → ℕ → Instr) → Form
  const32 : Form
  const64 : Form
  table : Form
  typed : Form
  access : (MemArg → Instr) → Form
  memory : (ℕ → Instr) → Form
  memories : (ℕ → ℕ → Instr) → Form
  with_memory : (ℕ → ℕ → Instr) → Form
  null : Form
  open' : Opener → Form
  else' : Form
  end' : Form
  prefixed : Form
  unsupported : Form
  unknown : Form

abbrev pub form_or : {A : Type 0} → Option A → (A → Form) → Form → Form
form_or (Some x) f other = f x
form_or None f other = other

-- The form of the number after FC (5.4.5 to 5.4.7).
unfoldable pub sub_form : ℕ → Form
sub_form n =
    if n == 8 then with_memory MemoryInit
    else (if n == 9 then number DataDrop
    else (if n == 10 then memories MemoryCopy
    else (if n == 11 then memory MemoryFill
    else (if n == 12 then numbers TableInit
    else (if n == 13 then number ElemDrop
    else (if n == 14 then numbers TableCopy
    else (if n == 15 then number TableGrow
    else (if n == 16 then number TableSize
    else (if n == 17 then number TableFill
    else (if nat_le n 7 then unsupported
    else unknown))))))))))

-- The form of an opcode that is no operation, load or store.
unfoldable pub rest_form : ℕ → Form
rest_form b =
    (if b == 0x00 then plain Unreachable else
    (if b == 0x01 then plain Nop else
    (if b == 0x02 then open' opener.Block else
    (if b == 0x03 then open' opener.Loop else
    (if b == 0x04 then open' opener.If else
    (if b == 0x05 then else' else
    (if b == 0x0B then end' else
    (if b == 0x0C then number Br else
    (if b == 0x0D then number BrIf else
    (if b == 0x0E then table else
    (if b == 0x0F then plain Return else
    (if b == 0x10 then number Call else
    (if b == 0x11 then numbers CallIndirect else
    (if b == 0x1A then plain Drop else
    (if b == 0x1B then plain Select else
    (if b == 0x1C then typed else
    (if b == 0x20 then number LocalGet else
    (if b == 0x21 then number LocalSet else
    (if b == 0x22 then number LocalTee else
    (if b == 0x23 then number GlobalGet else
    (if b == 0x24 then number GlobalSet else
    (if b == 0x25 then number TableGet else
    (if b == 0x26 then number TableSet else
    (if b == 0x3F then memory MemorySize else
    (if b == 0x40 then memory MemoryGrow else
    (if b == 0x41 then const32 else
    (if b == 0x42 then const64 else
    (if b == 0xD0 then null else
    (if b == 0xD1 then plain RefIsNull else
    (if b == 0xD2 then number RefFunc else
    (if b == 0xFC then prefixed else
    (if (nat_le 0x2A b && nat_le b 0x2B) || (nat_le 0x38 b && nat_le b 0x39) || (nat_le 0x43 b && nat_le b 0x44) || (nat_le 0x5B b && nat_le b 0x66) || (nat_le 0x8B b && nat_le b 0xA6) ||
    (nat_le 0xA8 b && nat_le b 0xAB) || (nat_le 0xAE b && nat_le b 0xBF) || (nat_le 0xFD b && nat_le b 0xFD) then unsupported else
    unknown))))))))))))))))))))))))))))))))

unfoldable pub the_form : ℕ → Form
the_form b = form_or (un_of b) (λ op. plain (Un op)) (form_or (bin_of b) (λ op. plain (Bin op))
    (form_or (load_of b) (λ op. access (Load op)) (form_or (store_of b) (λ op. access (Store op)) (rest_form b))))

-- ---- the immediates of an opcode, and its token

-- An alignment and an offset. If `many` is true, an alignment of at least 64 is 64 more than what
-- it stands for, and a memory index follows it.
abbrev pub arg_of : ℕ → ℕ → MemArg
arg_of a o = record { align = a; offset = o; memory = 0 }

abbrev pub arg_in : ℕ → ℕ × ℕ → MemArg
arg_in a p = record { align = a - 64; offset = p.1; memory = p.0 }

unfoldable pub arg_form : Bool → ℕ → List ℕ → MemArg → Type 0
arg_form false a = MadeFrom (arg_of a) U32
arg_form true a = When (nat_lt a 64) (MadeFrom (arg_of a) U32) (When (nat_lt a 128) (MadeFrom (arg_in a) (Both U32 U32)) Never)

abbrev pub SpellsMemArg : Bool → List ℕ → MemArg → Type 0
SpellsMemArg many = Chosen U32 (arg_form many)

-- A memory: the byte 00, or its index if `many` is true.
abbrev pub SpellsMemory : Bool → List ℕ → ℕ → Type 0
SpellsMemory false = After 0x00 (Just 0)
SpellsMemory true = U32

abbrev pub Simple : Bool → Form → List ℕ → Token → Type 0
Simple many (plain i) = Just (Plain i)
Simple many (number f) = MadeFrom (λ x. Plain (f x)) U32
Simple many (numbers f) = MadeFrom (λ (p : ℕ × ℕ). Plain (f p.0 p.1)) (Both U32 U32)
Simple many const32 = MadeFrom (λ z. Plain (I32Const z)) S32
Simple many const64 = MadeFrom (λ z. Plain (I64Const z)) S64
Simple many table = MadeFrom (λ (p : List ℕ × ℕ). Plain (BrTable p.0 p.1)) (Both (Vector U32) U32)
Simple many typed = MadeFrom (λ ts. Plain (SelectTyped ts)) (Vector SpellsVal)
Simple many (access f) = MadeFrom (λ m. Plain (f m)) (SpellsMemArg many)
Simple many (memory f) = MadeFrom (λ m. Plain (f m)) (SpellsMemory many)
Simple many (memories f) = MadeFrom (λ (p : ℕ × ℕ). Plain (f p.0 p.1)) (Both (SpellsMemory many) (SpellsMemory many))
Simple many (with_memory f) = MadeFrom (λ (p : ℕ × ℕ). Plain (f p.0 p.1)) (Both U32 (SpellsMemory many))
Simple many null = MadeFrom (λ t. Plain (RefNull t)) SpellsRef
Simple many (open' k) = MadeFrom (λ t. Open k t) SpellsBlockType
Simple many else' = Just Else
Simple many end' = Just End
Simple many prefixed = Never
Simple many unsupported = Never
Simple many unknown = Never

abbrev pub FollowsOpcode : Bool → Form → List ℕ → Token → Type 0
FollowsOpcode many prefixed = Chosen U32 (λ n. Simple many (sub_form n))
FollowsOpcode many f = Simple many f

abbrev pub SpellsToken : Bool → List ℕ → Token → Type 0
SpellsToken many = Chosen Byte (λ b. FollowsOpcode many (the_form b))
