-- What reading a body leaves on the pile of its instructions.
use Rattle.std.specs.Prelude.{◌≡◌, ℕ, List, [], ◌∷◌, ◌++◌, Result, Ok, Err, Option, Some, None, ◌||◌}
use Rattle.wasm_tree_spec.specs.Prelude.{Instr, uses_data_in}
use Rattle.wasm_read_spec.specs.declared.fault.Fault.{Fault}
use Rattle.wasm_read_spec.specs.declared.token.Token.{Token}
use Rattle.wasm_read_spec.specs.declared.token.Token.TheVariants.{Open, Else, End, Plain}
use Rattle.wasm_read_spec.specs.Prelude.{Fails, mapped_at, block_type_at}
use Rattle.wasm_read_items.specs.declared.pile.Pile.{Pile}
use Rattle.wasm_read_items.specs.declared.pile.Kind.{Kind}
use Rattle.wasm_read_items.specs.declared.pile.Kind.TheVariants as kind

-- The pile with one more instruction, at the end.
abbrev pub with_instr : Pile → Instr → Pile
with_instr p i = record { instrs = p.instrs ++ i ∷ []; uses_data = p.uses_data || uses_data_in i }

-- The pile with the instruction of a plain token.
abbrev pub piled : Pile → Result (Token × List ℕ) Fault → Option (Pile × List ℕ)
piled p (Ok (Plain i, rest)) = Some (with_instr p i, rest)
piled p (Ok (Open k ty, rest)) = None
piled p (Ok (Else, rest)) = None
piled p (Ok (End, rest)) = None
piled p (Err e) = None

-- The result of a call, and the pile that it left, are those of the token that the reading function
-- gives, unless memory ran out. A plain instruction was put on the pile. Of a token that opens a
-- block only the opcode was read, and the block type is left.
abbrev pub Tells : Result Kind Fault → List ℕ → Pile → Pile → Result (Token × List ℕ) Fault → Type 0
Tells (Ok kind.Plain) rest old new read = piled old read ≡ Some (new, rest)
Tells (Ok (kind.Open k)) rest old new read = (read ≡ mapped_at (λ ty. Open k ty) block_type_at rest) × (new ≡ old)
Tells (Ok kind.Else) rest old new read = (read ≡ Ok (Else, rest)) × (new ≡ old)
Tells (Ok kind.End) rest old new read = (read ≡ Ok (End, rest)) × (new ≡ old)
Tells (Err e) rest old new read = Fails e read
