-- Stops: the first bytes of a form that is not supported, or a quantity over its limit. Everything
-- before a stop is encoded and within the limits, and leaves the item incomplete. What follows a
-- stop is not examined.
use Rattle.std.specs.Prelude.{◌≡◌, ℕ, suc, ◌+◌, ◌<◌, ◌≤◌, ◌⊎◌, List, ◌∷◌, ◌++◌, length, Bool, true, false, IsTrue, nat_le, ◌==◌, ◌&&◌, ◌||◌}
use Rattle.base_lists.specs.Every.{Every}
use Rattle.wasm_bytes.specs.Prelude.{Then, U32, Each, Vector, Named}
use Rattle.wasm_tree_spec.specs.Prelude.{Which, Imports, Exports, Nesting, Locals, Parameters, Results, BlockType, Instr, LocalGroup, limit, declared_count}
use Rattle.wasm_tree.specs.declared.which.Which.TheVariants.{Types, Functions, Tables, Memories, Globals, ElementSegments, DataSegments}
use Rattle.wasm_read_spec.specs.declared.token.Opener.{Opener}
use Rattle.wasm_read_spec.specs.declared.token.Opener.TheVariants as opener
use Rattle.wasm_read_spec.specs.declared.token.Token.{Token}
use Rattle.wasm_read_spec.specs.declared.token.Token.TheVariants.{Open, Else}
use Rattle.wasm_read_spec.specs.SpellingForms.{Byte, Any, Few}
use Rattle.wasm_read_spec.specs.Values.{SpellsVal, SpellsRef, SpellsFuncType, SmallFuncType, SpellsTable, SpellsLimits, SpellsConst, SpellsGlobal}
use Rattle.wasm_read_spec.specs.Sections.{SpellsImport, SpellsGlobalDef, SpellsExport, SpellsElem, SpellsData}
use Rattle.wasm_read_spec.specs.Tokens.{Form, plain, number, numbers, const32, const64, table, typed, access, memory, memories, with_memory, null, open', else', end', prefixed, unsupported, unknown}
use Rattle.wasm_read_spec.specs.Tokens.{the_form, sub_form, SpellsToken}
use Rattle.wasm_read_spec.specs.Bodies.{Nests, SpellsGroup, SpellsEntry, SmallCode, depth}

pub data Stop : Type 0 where
  NotSupported : Stop
  Over : Which → Stop

-- ---- stops of parts that are made of others

abbrev pub NoStop : Stop → List ℕ → Type 0
NoStop stop bytes = ⊥

-- The first byte is not supported.
abbrev pub ByteStops : (ℕ → Bool) → Stop → List ℕ → Type 0
ByteStops test stop bytes = (b : ℕ) × (rest : List ℕ) × (bytes ≡ b ∷ rest) × IsTrue (test b) × (stop ≡ NotSupported)

-- A stop behind this byte.
abbrev pub AfterStops : ℕ → (Stop → List ℕ → Type 0) → Stop → List ℕ → Type 0
AfterStops tag next stop bytes = (rest : List ℕ) × (bytes ≡ tag ∷ rest) × next stop rest

-- A stop behind a first value, on which it depends.
abbrev pub ChosenStops : {K : Type 0} → (List ℕ → K → Type 0) → (K → Stop → List ℕ → Type 0) → Stop → List ℕ → Type 0
ChosenStops {K} P next stop bytes = (k : K) × Then (λ b. P b k) (next k stop) bytes

abbrev pub BehindStops : {K : Type 0} → (List ℕ → K → Type 0) → (Stop → List ℕ → Type 0) → Stop → List ℕ → Type 0
BehindStops P next = ChosenStops P (λ k. next)

-- A stop in the first of two values, or in the second, behind a first that is within the limits.
abbrev pub BothStops : {A : Type 0} → (List ℕ → A → Type 0) → (A → Type 0) → (first second : Stop → List ℕ → Type 0) → Stop → List ℕ → Type 0
BothStops {A} P small first second stop bytes = first stop bytes ⊎ ((x : A) × small x × Then (λ b. P b x) (second stop) bytes)

abbrev pub WhenStops : Bool → (Stop → List ℕ → Type 0) → (Stop → List ℕ → Type 0) → Stop → List ℕ → Type 0
WhenStops true P Q = P
WhenStops false P Q = Q

-- A stop in one of `n` items, behind items within the limits.
abbrev pub EachStops : {A : Type 0} → (List ℕ → A → Type 0) → (A → Type 0) → (Stop → List ℕ → Type 0) → ℕ → Stop → List ℕ → Type 0
EachStops {A} P small next n stop bytes = (xs : List A) × (length xs < n) × Every small xs × Then (λ b. Each P b xs) (next stop) bytes

-- A stop in an item of a vector.
abbrev pub ListStops : {A : Type 0} → (List ℕ → A → Type 0) → (A → Type 0) → (Stop → List ℕ → Type 0) → Stop → List ℕ → Type 0
ListStops P small next = ChosenStops U32 (EachStops P small next)

-- The count of a vector is over its limit, whether or not so many items follow; or there is a stop
-- in an item.
abbrev pub CountedStops : Which → ℕ → (Stop → List ℕ → Type 0) → Stop → List ℕ → Type 0
CountedStops which n items stop bytes = ((limit which < n) × (stop ≡ Over which)) ⊎ ((n ≤ limit which) × items stop bytes)

abbrev pub VectorStops : {A : Type 0} → Which → (List ℕ → A → Type 0) → (A → Type 0) → (Stop → List ℕ → Type 0) → Stop → List ℕ → Type 0
VectorStops which P small next = ChosenStops U32 (λ n. CountedStops which n (EachStops P small next n))

-- ---- types and constant expressions

-- The codes of f32, f64 and v128.
unfoldable pub is_unsupported_val : ℕ → Bool
is_unsupported_val b = nat_le 0x7B b && nat_le b 0x7D

abbrev pub ValStops : Stop → List ℕ → Type 0
ValStops = ByteStops is_unsupported_val

abbrev pub FuncTypeStops : Stop → List ℕ → Type 0
FuncTypeStops = AfterStops 0x60 (BothStops (Vector SpellsVal) (Few (limit Parameters) Any) (VectorStops Parameters SpellsVal Any ValStops) (VectorStops Results SpellsVal Any ValStops))

-- The opcodes of f32.const and f64.const, and FD.
unfoldable pub is_unsupported_const : ℕ → Bool
is_unsupported_const b = (b == 0x43) || ((b == 0x44) || (b == 0xFD))

abbrev pub ConstStops : Stop → List ℕ → Type 0
ConstStops = ByteStops is_unsupported_const

-- ---- the contents of sections

-- A stop behind the kind byte of an import: at the value type of a global.
unfoldable pub import_stops : ℕ → Stop → List ℕ → Type 0
import_stops k = WhenStops (k == 0x00) NoStop (WhenStops (k == 0x01) NoStop (WhenStops (k == 0x02) NoStop (WhenStops (k == 0x03) ValStops NoStop)))

abbrev pub ImportStops : Stop → List ℕ → Type 0
ImportStops = BehindStops Named (BehindStops Named (ChosenStops Byte import_stops))

abbrev pub GlobalDefStops : Stop → List ℕ → Type 0
GlobalDefStops = BothStops SpellsGlobal Any ValStops ConstStops

abbrev pub ItemsStop : Stop → List ℕ → Type 0
ItemsStop = ListStops SpellsConst Any ConstStops

-- A stop in an offset, or in an item that is a constant expression.
unfoldable pub elem_stops : ℕ → Stop → List ℕ → Type 0
elem_stops n =
    WhenStops (n == 0) ConstStops
    (WhenStops (n == 1) NoStop
    (WhenStops (n == 2) (BehindStops U32 ConstStops)
    (WhenStops (n == 3) NoStop
    (WhenStops (n == 4) (BothStops SpellsConst Any ConstStops ItemsStop)
    (WhenStops (n == 5) (BehindStops SpellsRef ItemsStop)
    (WhenStops (n == 6) (BehindStops U32 (BothStops SpellsConst Any ConstStops (BehindStops SpellsRef ItemsStop)))
    (WhenStops (n == 7) (BehindStops SpellsRef ItemsStop)
    NoStop)))))))

abbrev pub ElemStops : Stop → List ℕ → Type 0
ElemStops = ChosenStops U32 elem_stops

unfoldable pub data_stops : ℕ → Stop → List ℕ → Type 0
data_stops n = WhenStops (n == 0) ConstStops (WhenStops (n == 1) NoStop (WhenStops (n == 2) (BehindStops U32 ConstStops) NoStop))

abbrev pub DataStops : Stop → List ℕ → Type 0
DataStops = ChosenStops U32 data_stops

-- ---- code

-- A stop in a group of locals, with `sum` locals before it: the sum is over the limit, or the value
-- type is not supported.
abbrev pub GroupStops : ℕ → Stop → List ℕ → Type 0
GroupStops sum = ChosenStops U32 (λ n stop bytes. ((limit Locals < sum + n) × (stop ≡ Over Locals)) ⊎ ((sum + n ≤ limit Locals) × ValStops stop bytes))

abbrev pub GroupsStop : ℕ → Stop → List ℕ → Type 0
GroupsStop n stop bytes = (gs : List LocalGroup) × (length gs < n) × (declared_count gs ≤ limit Locals) × Then (λ b. Each SpellsGroup b gs) (GroupStops (declared_count gs) stop) bytes

abbrev pub LocalsStop : Stop → List ℕ → Type 0
LocalsStop = ChosenStops U32 GroupsStop

-- A stop behind an opcode of this form.
abbrev pub SimpleStops : Form → Stop → List ℕ → Type 0
SimpleStops (plain i) = NoStop
SimpleStops (number f) = NoStop
SimpleStops (numbers f) = NoStop
SimpleStops const32 = NoStop
SimpleStops const64 = NoStop
SimpleStops table = NoStop
SimpleStops typed = ListStops SpellsVal Any ValStops
SimpleStops (access f) = NoStop
SimpleStops (memory f) = NoStop
SimpleStops (memories f) = NoStop
SimpleStops (with_memory f) = NoStop
SimpleStops null = NoStop
SimpleStops (open' k) = ValStops
SimpleStops else' = NoStop
SimpleStops end' = NoStop
SimpleStops prefixed = NoStop
SimpleStops unsupported = λ stop bytes. stop ≡ NotSupported
SimpleStops unknown = NoStop

abbrev pub FollowsStop : Form → Stop → List ℕ → Type 0
FollowsStop prefixed = ChosenStops U32 (λ n. SimpleStops (sub_form n))
FollowsStop f = SimpleStops f

-- The first bytes of a token that is not supported.
abbrev pub TokenStops : Stop → List ℕ → Type 0
TokenStops = ChosenStops Byte (λ b. FollowsStop (the_form b))

-- Tokens that leave a sequence open. `d` blocks can be open at once in it, and `e` more in its
-- innermost open block. Either all blocks in the tokens are closed, or such tokens are followed by
-- a block, loop or if that is left open, or by an if whose else is left open.
pub data LeaveOpen : (d : ℕ) → List Token → (e : ℕ) → Type 0 where
  nested : {d : ℕ} {ts : List Token} {is : List Instr} → Nests ts is → depth is ≤ d → LeaveOpen d ts d
  in_block : {d e : ℕ} {ts us : List Token} {is : List Instr} (k : Opener) (ty : BlockType) → Nests ts is → depth is ≤ suc d → LeaveOpen d us e → LeaveOpen (suc d) (ts ++ Open k ty ∷ us) e
  in_else : {d e : ℕ} {ts arm us : List Token} {is js : List Instr} (ty : BlockType) → Nests ts is → depth is ≤ suc d → Nests arm js → depth js ≤ d → LeaveOpen d us e →
      LeaveOpen (suc d) (ts ++ Open opener.If ty ∷ (arm ++ Else ∷ us)) e

-- A block, loop or if that is one too many.
abbrev pub NestingStops : Bool → ℕ → Stop → List ℕ → Type 0
NestingStops many e stop bytes = (k : Opener) × (ty : BlockType) × Then (λ b. SpellsToken many b (Open k ty)) Any bytes × (e ≡ 0) × (stop ≡ Over Nesting)

-- Tokens that leave the body open, and then one that is not supported or nested too deep.
abbrev pub BodyStops : Bool → ℕ → Stop → List ℕ → Type 0
BodyStops many d stop bytes = (ts : List Token) × (e : ℕ) × LeaveOpen d ts e × Then (λ b. Each (SpellsToken many) b ts) (λ b. TokenStops stop b ⊎ NestingStops many e stop b) bytes

-- The sum of the locals is within its limit.
abbrev pub SmallLocals : List LocalGroup → Type 0
SmallLocals gs = declared_count gs ≤ limit Locals

-- A stop in the content of a code entry.
abbrev pub CodeStops : Bool → Stop → List ℕ → Type 0
CodeStops many = BothStops (Vector SpellsGroup) SmallLocals LocalsStop (BodyStops many (limit Nesting))

-- ---- sections

-- A stop in the content of a section with this id. In the code section it is at the count of
-- entries.
unfoldable pub section_stops : Bool → ℕ → Stop → List ℕ → Type 0
section_stops many id =
    WhenStops (id == 0) NoStop
    (WhenStops (id == 1) (VectorStops Types SpellsFuncType SmallFuncType FuncTypeStops)
    (WhenStops (id == 2) (VectorStops Imports SpellsImport Any ImportStops)
    (WhenStops (id == 3) (VectorStops Functions U32 Any NoStop)
    (WhenStops (id == 4) (VectorStops Tables SpellsTable Any NoStop)
    (WhenStops (id == 5) (VectorStops Memories SpellsLimits Any NoStop)
    (WhenStops (id == 6) (VectorStops Globals SpellsGlobalDef Any GlobalDefStops)
    (WhenStops (id == 7) (VectorStops Exports SpellsExport Any NoStop)
    (WhenStops (id == 8) NoStop
    (WhenStops (id == 9) (VectorStops ElementSegments SpellsElem Any ElemStops)
    (WhenStops (id == 10) (VectorStops Functions (SpellsEntry many) SmallCode NoStop)
    (WhenStops (id == 11) (VectorStops DataSegments SpellsData Any DataStops)
    (WhenStops (id == 12) NoStop
    NoStop))))))))))))
