-- A property of the instructions that enclose no others holds of each instruction that is a token.
use Rattle.base_lists.proofs.Common.{◌≡◌, ℕ, List, Bool, true, false, cond, Option, Some, None, ap, subst, rules, ℤ, ◌==◌, ◌&&◌, ◌||◌, nat_le}
use Rattle.wasm_num.specs.declared.UnOp.{UnOp}
use Rattle.wasm_num.specs.declared.BinOp.{BinOp}
use Rattle.wasm_tree_spec.specs.Prelude.{RefType, ValType, LoadOp, StoreOp, MemArg, Instr, the_lemmas, Unreachable, Nop, Return, Drop, Select, RefIsNull, Br, BrIf, Call, LocalGet, LocalSet, LocalTee, GlobalGet, GlobalSet, TableGet, TableSet, RefFunc, DataDrop, ElemDrop, TableGrow, TableSize}
use Rattle.wasm_tree_spec.specs.Prelude.{TableFill, CallIndirect, TableInit, TableCopy, BrTable, SelectTyped, Load, Store, MemorySize, MemoryGrow, MemoryFill, MemoryInit, MemoryCopy, I32Const, I64Const, Un, Bin, RefNull}
use Rattle.wasm_tree.specs.MemoryZero.{memory_zero}
use Rattle.wasm_read_spec.specs.declared.token.Opener.TheVariants as opener
use Rattle.wasm_read_spec.specs.declared.token.Token.{Token}
use Rattle.wasm_read_spec.specs.declared.token.Token.TheVariants.{Plain}
use Rattle.wasm_read_spec.specs.Prelude.{un_of, bin_of, load_of, store_of, Form, plain, number, numbers, const32, const64, table, access, memory, memories, with_memory, null, open', else', end', prefixed, unsupported, unknown, SpellsMemArg, SpellsMemory, Simple, FollowsOpcode, SpellsToken, depth_of}
use Rattle.wasm_read_spec.specs.Tokens.{typed, form_or, the_form, rest_form, sub_form, arg_form}

-- The index of a memory is 0 where memories have no indices.
abbrev pub Named : Bool → ℕ → Type 0
Named false x = x ≡ 0
Named true x = Unit {0}

pub record Leaves (many : Bool) (Q : Instr → Type 0) : Type 0 where
  pub of_Unreachable : Q Unreachable
  pub of_Nop : Q Nop
  pub of_Return : Q Return
  pub of_Drop : Q Drop
  pub of_Select : Q Select
  pub of_RefIsNull : Q RefIsNull
  pub of_Br : (x : ℕ) → Q (Br x)
  pub of_BrIf : (x : ℕ) → Q (BrIf x)
  pub of_Call : (x : ℕ) → Q (Call x)
  pub of_LocalGet : (x : ℕ) → Q (LocalGet x)
  pub of_LocalSet : (x : ℕ) → Q (LocalSet x)
  pub of_LocalTee : (x : ℕ) → Q (LocalTee x)
  pub of_GlobalGet : (x : ℕ) → Q (GlobalGet x)
  pub of_GlobalSet : (x : ℕ) → Q (GlobalSet x)
  pub of_TableGet : (x : ℕ) → Q (TableGet x)
  pub of_TableSet : (x : ℕ) → Q (TableSet x)
  pub of_RefFunc : (x : ℕ) → Q (RefFunc x)
  pub of_DataDrop : (x : ℕ) → Q (DataDrop x)
  pub of_ElemDrop : (x : ℕ) → Q (ElemDrop x)
  pub of_TableGrow : (x : ℕ) → Q (TableGrow x)
  pub of_TableSize : (x : ℕ) → Q (TableSize x)
  pub of_TableFill : (x : ℕ) → Q (TableFill x)
  pub of_CallIndirect : (x y : ℕ) → Q (CallIndirect x y)
  pub of_TableInit : (x y : ℕ) → Q (TableInit x y)
  pub of_TableCopy : (x y : ℕ) → Q (TableCopy x y)
  pub of_BrTable : (xs : List ℕ) (y : ℕ) → Q (BrTable xs y)
  pub of_SelectTyped : (ts : List ValType) → Q (SelectTyped ts)
  pub of_Load : (op : LoadOp) (m : MemArg) → Named many m.memory → Q (Load op m)
  pub of_Store : (op : StoreOp) (m : MemArg) → Named many m.memory → Q (Store op m)
  pub of_MemorySize : (x : ℕ) → Named many x → Q (MemorySize x)
  pub of_MemoryGrow : (x : ℕ) → Named many x → Q (MemoryGrow x)
  pub of_MemoryFill : (x : ℕ) → Named many x → Q (MemoryFill x)
  pub of_MemoryInit : (x y : ℕ) → Named many y → Q (MemoryInit x y)
  pub of_MemoryCopy : (x y : ℕ) → Named many x → Named many y → Q (MemoryCopy x y)
  pub of_I32Const : (z : ℤ) → Q (I32Const z)
  pub of_I64Const : (z : ℤ) → Q (I64Const z)
  pub of_Un : (op : UnOp) → Q (Un op)
  pub of_Bin : (op : BinOp) → Q (Bin op)
  pub of_RefNull : (t : RefType) → Q (RefNull t)

module _ (many : Bool) (Q : Instr → Type 0) (leaves : Leaves many Q) where
  -- The property holds of each instruction that a form makes.
  Holds : Form → Type 0
  Holds (plain i) = Q i
  Holds (number f) = (x : ℕ) → Q (f x)
  Holds (numbers f) = (x y : ℕ) → Q (f x y)
  Holds (access f) = (m : MemArg) → Named many m.memory → Q (f m)
  Holds (memory f) = (x : ℕ) → Named many x → Q (f x)
  Holds (memories f) = (x y : ℕ) → Named many x → Named many y → Q (f x y)
  Holds (with_memory f) = (x y : ℕ) → Named many y → Q (f x y)
  Holds f = Unit {0}

  record Sure (f : Form) : Type 0 where
    it : Holds f

  sure : (f : Form) → Holds f → Sure f
  sure f h = record { it = h }

  choice : (c : Bool) (f g : Form) → Sure f → Sure g → Sure (cond c f g)
  choice true f g p q = p
  choice false f g p q = q

  option : {A : Type 0} (o : Option A) (f : A → Form) (g : Form) → ((x : A) → Sure (f x)) → Sure g → Sure (form_or o f g)
  option (Some x) f g p q = p x
  option None f g p q = q

  of_sub : (n : ℕ) → Sure (sub_form n)
  unfolding sub_form Holds
  of_sub n = (choice _ _ _ (sure (with_memory MemoryInit) leaves.of_MemoryInit) (choice _ _ _ (sure (number DataDrop) leaves.of_DataDrop)
      (choice _ _ _ (sure (memories MemoryCopy) leaves.of_MemoryCopy) (choice _ _ _ (sure (memory MemoryFill) leaves.of_MemoryFill)
      (choice _ _ _ (sure (numbers TableInit) leaves.of_TableInit) (choice _ _ _ (sure (number ElemDrop) leaves.of_ElemDrop)
      (choice _ _ _ (sure (numbers TableCopy) leaves.of_TableCopy) (choice _ _ _ (sure (number TableGrow) leaves.of_TableGrow)
      (choice _ _ _ (sure (number TableSize) leaves.of_TableSize) (choice _ _ _ (sure (number TableFill) leaves.of_TableFill) (choice _ _ _ (sure (unsupported) tt) (sure unknown tt))))))))))))

  of_rest : (b : ℕ) → Sure (rest_form b)
  unfolding rest_form Holds
  of_rest b = (choice (b == 0x00) _ _ (sure (plain Unreachable) leaves.of_Unreachable) (choice (b == 0x01) _ _ (sure (plain Nop) leaves.of_Nop)
      (choice (b == 0x02) _ _ (sure (open' opener.Block) tt) (choice (b == 0x03) _ _ (sure (open' opener.Loop) tt)
      (choice (b == 0x04) _ _ (sure (open' opener.If) tt) (choice (b == 0x05) _ _ (sure (else') tt) (choice (b == 0x0B) _ _ (sure (end') tt)
      (choice (b == 0x0C) _ _ (sure (number Br) leaves.of_Br) (choice (b == 0x0D) _ _ (sure (number BrIf) leaves.of_BrIf)
      (choice (b == 0x0E) _ _ (sure (table) tt) (choice (b == 0x0F) _ _ (sure (plain Return) leaves.of_Return)
      (choice (b == 0x10) _ _ (sure (number Call) leaves.of_Call) (choice (b == 0x11) _ _ (sure (numbers CallIndirect) leaves.of_CallIndirect)
      (choice (b == 0x1A) _ _ (sure (plain Drop) leaves.of_Drop) (choice (b == 0x1B) _ _ (sure (plain Select) leaves.of_Select)
      (choice (b == 0x1C) _ _ (sure (typed) tt) (choice (b == 0x20) _ _ (sure (number LocalGet) leaves.of_LocalGet)
      (choice (b == 0x21) _ _ (sure (number LocalSet) leaves.of_LocalSet) (choice (b == 0x22) _ _ (sure (number LocalTee) leaves.of_LocalTee)
      (choice (b == 0x23) _ _ (sure (number GlobalGet) leaves.of_GlobalGet) (choice (b == 0x24) _ _ (sure (number GlobalSet) leaves.of_GlobalSet)
      (choice (b == 0x25) _ _ (sure (number TableGet) leaves.of_TableGet) (choice (b == 0x26) _ _ (sure (number TableSet) leaves.of_TableSet)
      (choice (b == 0x3F) _ _ (sure (memory MemorySize) leaves.of_MemorySize) (choice (b == 0x40) _ _ (sure (memory MemoryGrow) leaves.of_MemoryGrow)
      (choice (b == 0x41) _ _ (sure (const32) tt) (choice (b == 0x42) _ _ (sure (const64) tt) (choice (b == 0xD0) _ _ (sure (null) tt)
      (choice (b == 0xD1) _ _ (sure (plain RefIsNull) leaves.of_RefIsNull) (choice (b == 0xD2) _ _ (sure (number RefFunc) leaves.of_RefFunc)
      (choice (b == 0xFC) _ _ (sure (prefixed) tt) (choice ((nat_le 0x2A b && nat_le b 0x2B) || (nat_le 0x38 b && nat_le b 0x39) || (nat_le 0x43 b && nat_le b 0x44) || (nat_le 0x5B b && nat_le b 0x66) || (nat_le 0x8B b && nat_le b 0xA6) || (nat_le 0xA8 b && nat_le b 0xAB) ||
      (nat_le 0xAE b && nat_le b 0xBF) || (nat_le 0xFD b && nat_le b 0xFD)) _ _ (sure (unsupported) tt) (sure unknown tt)))))))))))))))))))))))))))))))))

  of_form : (b : ℕ) → Sure (the_form b)
  unfolding the_form Holds
  of_form b = option (un_of b) (λ op. plain (Un op)) _ (λ op. sure (plain (Un op)) (leaves.of_Un op)) (option (bin_of b) (λ op. plain (Bin op)) _ (λ op. sure (plain (Bin op)) (leaves.of_Bin op))
      (option (load_of b) (λ op. access (Load op)) _ (λ op. sure (access (Load op)) (leaves.of_Load op)) (option (store_of b) (λ op. access (Store op)) _ (λ op. sure (access (Store op)) (leaves.of_Store op)) (of_rest b))))

  -- The instruction of a token has the property if an equal token has it.
  made : {i j : Instr} → ◌≡◌ {A = Token} (Plain i) (Plain j) → Q j → Q i
  made {i} {j} e q = let same : j ≡ i = cc in subst Q same q

  arg_named : (b : Bool) (text : List ℕ) (m : MemArg) → SpellsMemArg b text m → Named b m.memory
  unfolding arg_form
  arg_named false text m h = ap (λ (z : MemArg). z.memory) h.1.3.2
  arg_named true text m h = tt

  memory_named : (b : Bool) (text : List ℕ) (x : ℕ) → SpellsMemory b text x → Named b x
  memory_named false text x h = h.1.1
  memory_named true text x h = tt

  of_simple : (f : Form) (text : List ℕ) (i : Instr) → Holds f → Simple many f text (Plain i) → Q i
  unfolding Holds
  of_simple (plain j) text i p h = made h.1 p
  of_simple (number f) text i p h = made h.2 (p h.0)
  of_simple (numbers f) text i p h = made h.2 (p h.0.0 h.0.1)
  of_simple const32 text i p h = made h.2 (leaves.of_I32Const h.0)
  of_simple const64 text i p h = made h.2 (leaves.of_I64Const h.0)
  of_simple table text i p h = made h.2 (leaves.of_BrTable h.0.0 h.0.1)
  of_simple typed text i p h = made h.2 (leaves.of_SelectTyped h.0)
  of_simple (access f) text i p h = made h.2 (p h.0 (arg_named many text h.0 h.1))
  of_simple (memory f) text i p h = made h.2 (p h.0 (memory_named many text h.0 h.1))
  of_simple (memories f) text i p h = made h.2 (p h.0.0 h.0.1 (memory_named many h.1.0 h.0.0 h.1.2) (memory_named many h.1.1 h.0.1 h.1.3))
  of_simple (with_memory f) text i p h = made h.2 (p h.0.0 h.0.1 (memory_named many h.1.1 h.0.1 h.1.3))
  of_simple null text i p h = made h.2 (leaves.of_RefNull h.0)
  of_simple (open' k) text i p h = cc
  of_simple else' text i p h = cc
  of_simple end' text i p h = cc
  of_simple prefixed text i p h = absurd h
  of_simple unsupported text i p h = absurd h
  of_simple unknown text i p h = absurd h

  of_follows : (f : Form) (text : List ℕ) (i : Instr) → Holds f → FollowsOpcode many f text (Plain i) → Q i
  of_follows prefixed text i p h = of_simple (sub_form h.0) h.1.1 i (of_sub h.0).it h.1.3
  of_follows f text i p h = of_simple f text i p h

  -- Each instruction that is a token has the property.
  pub of_token : (text : List ℕ) (i : Instr) → SpellsToken many text (Plain i) → Q i
  of_token text i h = of_follows (the_form h.0) h.1.1 i (of_form h.0).it h.1.3

-- ---- their depth is 0

pub flat : (many : Bool) → Leaves many (λ i. depth_of i ≡ 0)
flat many = search (rules, the_lemmas)

-- ---- they name memory 0 alone where memories have no indices

pub zero_memory : Leaves false (λ i. memory_zero i ≡ true)
zero_memory = search (rules, the_lemmas)
