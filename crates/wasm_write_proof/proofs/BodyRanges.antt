-- The numbers of an encoded body are in range.
use Rattle.base_lists.proofs.Common.{◌≡◌, ℕ, List, [], ◌∷◌, ◌++◌, Bool, true, false, cond, ◌&&◌, Option, Some, None, refl, sym, subst, rules, nat_eq, ◌==◌, ◌||◌, nat_le, list_all, and_from}
use Rattle.wasm_bytes.specs.Prelude.{U32, Each}
use Rattle.wasm_tree_spec.specs.Prelude.{ValType, BlockType, RefType, MemArg, LoadOp, StoreOp, Instr, the_lemmas, Unreachable, Nop, Block, Loop, If, Br, BrIf, BrTable, Return, Call, CallIndirect, Drop, Select, SelectTyped, LocalGet, LocalSet, LocalTee, GlobalGet, GlobalSet, TableGet, TableSet, Load}
use Rattle.wasm_tree_spec.specs.Prelude.{Store, MemorySize, MemoryGrow, I32Const, I64Const, Un, Bin, RefNull, RefIsNull, RefFunc, MemoryInit, DataDrop, MemoryCopy, MemoryFill, TableInit, ElemDrop, TableCopy, TableGrow, TableSize, TableFill, block_operands}
use Rattle.wasm_tree.specs.declared.types.BlockType.TheVariants as block
use Rattle.wasm_num.specs.declared.UnOp.{UnOp}
use Rattle.wasm_num.specs.declared.BinOp.{BinOp}
use Rattle.wasm_read_spec.specs.declared.token.Opener.{Opener}
use Rattle.wasm_read_spec.specs.declared.token.Opener.TheVariants as opener
use Rattle.wasm_read_spec.specs.declared.token.Token.{Token}
use Rattle.wasm_read_spec.specs.declared.token.Token.TheVariants.{Open, Else, End, Plain}
use Rattle.base_lists.specs.Every.{Every}
use Rattle.wasm_read_spec.specs.Prelude.{SpellsBlockType, un_of, bin_of, load_of, store_of, Form, plain, number, numbers, const32, const64, table, access, memory, memories, with_memory, null, open', else', end', prefixed, unsupported, unknown, SpellsMemArg, SpellsMemory, Simple, FollowsOpcode}
use Rattle.wasm_read_spec.specs.Prelude.{SpellsToken, Nests, no_more, one_plain, one_block, one_loop, one_if, one_if_else, SpellsBody}
use Rattle.wasm_read_spec.specs.Tokens.{typed, form_or, the_form, rest_form, sub_form, arg_form}
use Rattle.wasm_write_proof.specs.Ranges.{small, spellable, all_spellable, all_in_range, IsU32}
use Rattle.wasm_write_proof.proofs.Inside.{in_range_of, Small, block_in, loop_in, if_in, more_in}
use Rattle.wasm_write_proof.proofs.NumberRanges.{RangeLaws, u32_in, is_small, is_small_32, is_small_64, is_index, says_vector}

-- The numbers of a token are in range.
abbrev Right : Token → Type 0
Right (Plain i) = spellable i ≡ true
Right (Open k ty) = Small (block_operands ty)
Right Else = Unit {0}
Right End = Unit {0}

abbrev Sound : Form → Type 0
Sound f = (text : List ℕ) (t : Token) → Simple false f text t → Right t

if_sound : (test : Bool) (a b : Form) → Sound a → Sound b → Sound (cond test a b)
if_sound true a b h k = h
if_sound false a b h k = k

or_sound : {A : Type 0} (o : Option A) (f : A → Form) (other : Form) → ((x : A) → Sound (f x)) → Sound other → Sound (form_or o f other)
or_sound (Some x) f other h k = h x
or_sound None f other h k = k

module _ (laws : RangeLaws) where
  -- ---- forms

  plain_sound : (i : Instr) → spellable i ≡ true → Sound (plain i)
  plain_sound i h text t s = subst Right (sym s.1) h

  number_sound : (f : ℕ → Instr) → ((x : ℕ) → small x ≡ true → spellable (f x) ≡ true) → Sound (number f)
  number_sound f h text t s = subst Right (sym s.2) (h s.0 (is_small s.0 (u32_in laws text s.0 s.1)))

  numbers_sound : (f : ℕ → ℕ → Instr) → ((x y : ℕ) → small x ≡ true → small y ≡ true → spellable (f x y) ≡ true) → Sound (numbers f)
  numbers_sound f h text t s =
      let p = s.1 in
      subst Right (sym s.2) (h s.0.0 s.0.1 (is_small s.0.0 (u32_in laws p.0 s.0.0 p.2)) (is_small s.0.1 (u32_in laws p.1 s.0.1 p.3)))

  const32_sound : Sound const32
  const32_sound text t s = let k = is_small_32 s.0 (laws.signed 32 text s.0 s.1) in let in_it : spellable (I32Const s.0) ≡ true = search (rules, the_lemmas, k) in subst Right (sym s.2) in_it

  const64_sound : Sound const64
  const64_sound text t s = let k = is_small_64 s.0 (laws.signed 64 text s.0 s.1) in let in_it : spellable (I64Const s.0) ≡ true = search (rules, the_lemmas, k) in subst Right (sym s.2) in_it

  labels_in : (xs : List ℕ) → Every IsU32 xs → list_all small xs ≡ true
  labels_in [] h = refl
  labels_in (x ∷ xs) h = and_from (small x) (list_all small xs) (is_small x h.0) (labels_in xs h.1)

  table_in : (xs : List ℕ) (y : ℕ) → list_all small xs && small y ≡ true → spellable (BrTable xs y) ≡ true
  table_in xs y k = search (rules, the_lemmas, k)

  table_sound : Sound table
  table_sound text t s =
      let p = s.1 in
      subst Right (sym s.2) (table_in s.0.0 s.0.1 (and_from (list_all small s.0.0) (small s.0.1) (labels_in s.0.0 (says_vector IsU32 U32 (u32_in laws) p.0 s.0.0 p.2)) (is_small s.0.1 (u32_in laws p.1 s.0.1 p.3))))

  types_in : (ts : List ValType) → spellable (SelectTyped ts) ≡ true
  types_in ts = search (rules, the_lemmas)

  typed_sound : Sound typed
  typed_sound text t s = subst Right (sym s.2) (types_in s.0)

  abbrev ArgIn : MemArg → Type 0
  ArgIn m = (small m.align && small m.offset ≡ true) × (nat_eq m.memory 0 ≡ true)

  arg_in : (text : List ℕ) (m : MemArg) → SpellsMemArg false text m → ArgIn m
  unfolding arg_form
  arg_in text m h =
      let made = h.1.3 in
      let a = is_small h.0 (u32_in laws h.1.0 h.0 h.1.2) in
      let o = is_small made.0 (u32_in laws h.1.1 made.0 made.1) in
      subst ArgIn (sym made.2) (and_from (small h.0) (small made.0) a o, refl)

  access_sound : (f : MemArg → Instr) → ((m : MemArg) → small m.align && small m.offset ≡ true → nat_eq m.memory 0 ≡ true → spellable (f m) ≡ true) → Sound (access f)
  access_sound f h text t s = let a = arg_in text s.0 s.1 in subst Right (sym s.2) (h s.0 a.0 a.1)

  zero_in : (text : List ℕ) (x : ℕ) → SpellsMemory false text x → nat_eq x 0 ≡ true
  zero_in text x h = rw h.1.1

  memory_sound : (f : ℕ → Instr) → ((x : ℕ) → nat_eq x 0 ≡ true → spellable (f x) ≡ true) → Sound (memory f)
  memory_sound f h text t s = subst Right (sym s.2) (h s.0 (zero_in text s.0 s.1))

  memories_sound : (f : ℕ → ℕ → Instr) → ((x y : ℕ) → nat_eq x 0 ≡ true → nat_eq y 0 ≡ true → spellable (f x y) ≡ true) → Sound (memories f)
  memories_sound f h text t s =
      let p = s.1 in subst Right (sym s.2) (h s.0.0 s.0.1 (zero_in p.0 s.0.0 p.2) (zero_in p.1 s.0.1 p.3))

  with_memory_sound : (f : ℕ → ℕ → Instr) → ((x y : ℕ) → small x ≡ true → nat_eq y 0 ≡ true → spellable (f x y) ≡ true) → Sound (with_memory f)
  with_memory_sound f h text t s =
      let p = s.1 in subst Right (sym s.2) (h s.0.0 s.0.1 (is_small s.0.0 (u32_in laws p.0 s.0.0 p.2)) (zero_in p.1 s.0.1 p.3))

  null_in : (r : RefType) → spellable (RefNull r) ≡ true
  null_in r = search (rules, the_lemmas)

  null_sound : Sound null
  null_sound text t s = subst Right (sym s.2) (null_in s.0)

  type_in : (text : List ℕ) (ty : BlockType) → SpellsBlockType text ty → Small (block_operands ty)
  type_in text block.Empty h = tt
  type_in text (block.Value v) h = tt
  type_in text (block.Index n) h = (is_index laws text n h, tt)

  open_sound : (k : Opener) → Sound (open' k)
  open_sound k text t s = subst Right (sym s.2) (type_in text s.0 s.1)

  else_sound : Sound else'
  else_sound text t s = subst Right (sym s.1) tt

  end_sound : Sound end'
  end_sound text t s = subst Right (sym s.1) tt

  none_sound : (text : List ℕ) (t : Token) → ⊥ → Right t
  none_sound text t s = absurd s

  -- ---- the table

  un_in : (op : UnOp) → spellable (Un op) ≡ true
  un_in op = search (rules, the_lemmas)

  bin_in : (op : BinOp) → spellable (Bin op) ≡ true
  bin_in op = search (rules, the_lemmas)

  load_in : (op : LoadOp) (m : MemArg) → small m.align && small m.offset ≡ true → nat_eq m.memory 0 ≡ true → spellable (Load op m) ≡ true
  load_in op m k z = search (rules, the_lemmas, k, z)

  store_in : (op : StoreOp) (m : MemArg) → small m.align && small m.offset ≡ true → nat_eq m.memory 0 ≡ true → spellable (Store op m) ≡ true
  store_in op m k z = search (rules, the_lemmas, k, z)

  in_Unreachable : spellable Unreachable ≡ true
  in_Unreachable = search (rules, the_lemmas)

  in_Nop : spellable Nop ≡ true
  in_Nop = search (rules, the_lemmas)

  in_Return : spellable Return ≡ true
  in_Return = search (rules, the_lemmas)

  in_Drop : spellable Drop ≡ true
  in_Drop = search (rules, the_lemmas)

  in_Select : spellable Select ≡ true
  in_Select = search (rules, the_lemmas)

  in_RefIsNull : spellable RefIsNull ≡ true
  in_RefIsNull = search (rules, the_lemmas)

  in_Br : (x : ℕ) → small x ≡ true → spellable (Br x) ≡ true
  in_Br x k = search (rules, the_lemmas, k)

  in_BrIf : (x : ℕ) → small x ≡ true → spellable (BrIf x) ≡ true
  in_BrIf x k = search (rules, the_lemmas, k)

  in_Call : (x : ℕ) → small x ≡ true → spellable (Call x) ≡ true
  in_Call x k = search (rules, the_lemmas, k)

  in_LocalGet : (x : ℕ) → small x ≡ true → spellable (LocalGet x) ≡ true
  in_LocalGet x k = search (rules, the_lemmas, k)

  in_LocalSet : (x : ℕ) → small x ≡ true → spellable (LocalSet x) ≡ true
  in_LocalSet x k = search (rules, the_lemmas, k)

  in_LocalTee : (x : ℕ) → small x ≡ true → spellable (LocalTee x) ≡ true
  in_LocalTee x k = search (rules, the_lemmas, k)

  in_GlobalGet : (x : ℕ) → small x ≡ true → spellable (GlobalGet x) ≡ true
  in_GlobalGet x k = search (rules, the_lemmas, k)

  in_GlobalSet : (x : ℕ) → small x ≡ true → spellable (GlobalSet x) ≡ true
  in_GlobalSet x k = search (rules, the_lemmas, k)

  in_TableGet : (x : ℕ) → small x ≡ true → spellable (TableGet x) ≡ true
  in_TableGet x k = search (rules, the_lemmas, k)

  in_TableSet : (x : ℕ) → small x ≡ true → spellable (TableSet x) ≡ true
  in_TableSet x k = search (rules, the_lemmas, k)

  in_RefFunc : (x : ℕ) → small x ≡ true → spellable (RefFunc x) ≡ true
  in_RefFunc x k = search (rules, the_lemmas, k)

  in_DataDrop : (x : ℕ) → small x ≡ true → spellable (DataDrop x) ≡ true
  in_DataDrop x k = search (rules, the_lemmas, k)

  in_ElemDrop : (x : ℕ) → small x ≡ true → spellable (ElemDrop x) ≡ true
  in_ElemDrop x k = search (rules, the_lemmas, k)

  in_TableGrow : (x : ℕ) → small x ≡ true → spellable (TableGrow x) ≡ true
  in_TableGrow x k = search (rules, the_lemmas, k)

  in_TableSize : (x : ℕ) → small x ≡ true → spellable (TableSize x) ≡ true
  in_TableSize x k = search (rules, the_lemmas, k)

  in_TableFill : (x : ℕ) → small x ≡ true → spellable (TableFill x) ≡ true
  in_TableFill x k = search (rules, the_lemmas, k)

  in_MemorySize : (x : ℕ) → nat_eq x 0 ≡ true → spellable (MemorySize x) ≡ true
  in_MemorySize x k = search (rules, the_lemmas, k)

  in_MemoryGrow : (x : ℕ) → nat_eq x 0 ≡ true → spellable (MemoryGrow x) ≡ true
  in_MemoryGrow x k = search (rules, the_lemmas, k)

  in_MemoryFill : (x : ℕ) → nat_eq x 0 ≡ true → spellable (MemoryFill x) ≡ true
  in_MemoryFill x k = search (rules, the_lemmas, k)

  in_CallIndirect : (x y : ℕ) → small x ≡ true → small y ≡ true → spellable (CallIndirect x y) ≡ true
  in_CallIndirect x y h k = search (rules, the_lemmas, h, k)

  in_TableInit : (x y : ℕ) → small x ≡ true → small y ≡ true → spellable (TableInit x y) ≡ true
  in_TableInit x y h k = search (rules, the_lemmas, h, k)

  in_TableCopy : (x y : ℕ) → small x ≡ true → small y ≡ true → spellable (TableCopy x y) ≡ true
  in_TableCopy x y h k = search (rules, the_lemmas, h, k)

  in_MemoryInit : (x y : ℕ) → small x ≡ true → nat_eq y 0 ≡ true → spellable (MemoryInit x y) ≡ true
  in_MemoryInit x y h k = search (rules, the_lemmas, h, k)

  in_MemoryCopy : (x y : ℕ) → nat_eq x 0 ≡ true → nat_eq y 0 ≡ true → spellable (MemoryCopy x y) ≡ true
  in_MemoryCopy x y h k = search (rules, the_lemmas, h, k)

  sub_sound : (n : ℕ) → Sound (sub_form n)
  unfolding sub_form
  sub_sound n =
      if_sound (n == 8) _ _ (with_memory_sound MemoryInit in_MemoryInit) (
      if_sound (n == 9) _ _ (number_sound DataDrop in_DataDrop) (
      if_sound (n == 10) _ _ (memories_sound MemoryCopy in_MemoryCopy) (
      if_sound (n == 11) _ _ (memory_sound MemoryFill in_MemoryFill) (
      if_sound (n == 12) _ _ (numbers_sound TableInit in_TableInit) (
      if_sound (n == 13) _ _ (number_sound ElemDrop in_ElemDrop) (
      if_sound (n == 14) _ _ (numbers_sound TableCopy in_TableCopy) (
      if_sound (n == 15) _ _ (number_sound TableGrow in_TableGrow) (
      if_sound (n == 16) _ _ (number_sound TableSize in_TableSize) (
      if_sound (n == 17) _ _ (number_sound TableFill in_TableFill) (
      if_sound (nat_le n 7) unsupported unknown none_sound none_sound))))))))))

  rest_sound : (b : ℕ) → Sound (rest_form b)
  unfolding rest_form
  rest_sound b =
      if_sound (b == 0x00) _ _ (plain_sound Unreachable in_Unreachable) (
      if_sound (b == 0x01) _ _ (plain_sound Nop in_Nop) (
      if_sound (b == 0x02) _ _ (open_sound opener.Block) (
      if_sound (b == 0x03) _ _ (open_sound opener.Loop) (
      if_sound (b == 0x04) _ _ (open_sound opener.If) (
      if_sound (b == 0x05) _ _ (else_sound) (
      if_sound (b == 0x0B) _ _ (end_sound) (
      if_sound (b == 0x0C) _ _ (number_sound Br in_Br) (
      if_sound (b == 0x0D) _ _ (number_sound BrIf in_BrIf) (
      if_sound (b == 0x0E) _ _ (table_sound) (
      if_sound (b == 0x0F) _ _ (plain_sound Return in_Return) (
      if_sound (b == 0x10) _ _ (number_sound Call in_Call) (
      if_sound (b == 0x11) _ _ (numbers_sound CallIndirect in_CallIndirect) (
      if_sound (b == 0x1A) _ _ (plain_sound Drop in_Drop) (
      if_sound (b == 0x1B) _ _ (plain_sound Select in_Select) (
      if_sound (b == 0x1C) _ _ (typed_sound) (
      if_sound (b == 0x20) _ _ (number_sound LocalGet in_LocalGet) (
      if_sound (b == 0x21) _ _ (number_sound LocalSet in_LocalSet) (
      if_sound (b == 0x22) _ _ (number_sound LocalTee in_LocalTee) (
      if_sound (b == 0x23) _ _ (number_sound GlobalGet in_GlobalGet) (
      if_sound (b == 0x24) _ _ (number_sound GlobalSet in_GlobalSet) (
      if_sound (b == 0x25) _ _ (number_sound TableGet in_TableGet) (
      if_sound (b == 0x26) _ _ (number_sound TableSet in_TableSet) (
      if_sound (b == 0x3F) _ _ (memory_sound MemorySize in_MemorySize) (
      if_sound (b == 0x40) _ _ (memory_sound MemoryGrow in_MemoryGrow) (
      if_sound (b == 0x41) _ _ (const32_sound) (
      if_sound (b == 0x42) _ _ (const64_sound) (
      if_sound (b == 0xD0) _ _ (null_sound) (
      if_sound (b == 0xD1) _ _ (plain_sound RefIsNull in_RefIsNull) (
      if_sound (b == 0xD2) _ _ (number_sound RefFunc in_RefFunc) (
      if_sound (b == 0xFC) _ _ (none_sound) (
      if_sound ((nat_le 0x2A b && nat_le b 0x2B) || (nat_le 0x38 b && nat_le b 0x39) || (nat_le 0x43 b && nat_le b 0x44) || (nat_le 0x5B b && nat_le b 0x66) || (nat_le 0x8B b && nat_le b 0xA6) || (nat_le 0xA8 b && nat_le b 0xAB) || (nat_le 0xAE b && nat_le b 0xBF) ||
      (nat_le 0xFD b && nat_le b 0xFD)) unsupported unknown none_sound none_sound)))))))))))))))))))))))))))))))

  form_sound : (b : ℕ) → Sound (the_form b)
  unfolding the_form
  form_sound b =
      or_sound (un_of b) _ _ (λ op. plain_sound (Un op) (un_in op)) (
      or_sound (bin_of b) _ _ (λ op. plain_sound (Bin op) (bin_in op)) (
      or_sound (load_of b) _ _ (λ op. access_sound (Load op) (load_in op)) (
      or_sound (store_of b) _ _ (λ op. access_sound (Store op) (store_in op)) (
      rest_sound b))))

  follows_right : (f : Form) → Sound f → (text : List ℕ) (t : Token) → FollowsOpcode false f text t → Right t
  follows_right (plain i) h = h
  follows_right (number g) h = h
  follows_right (numbers g) h = h
  follows_right const32 h = h
  follows_right const64 h = h
  follows_right table h = h
  follows_right typed h = h
  follows_right (access g) h = h
  follows_right (memory g) h = h
  follows_right (memories g) h = h
  follows_right (with_memory g) h = h
  follows_right null h = h
  follows_right (open' k) h = h
  follows_right else' h = h
  follows_right end' h = h
  follows_right unsupported h = h
  follows_right unknown h = h
  follows_right prefixed h = λ text t s. sub_sound s.0 s.1.1 t s.1.3

  token_right : (text : List ℕ) (t : Token) → SpellsToken false text t → Right t
  token_right text t s = follows_right (the_form s.0) (form_sound s.0) s.1.1 t s.1.3

  tokens_right : (ts : List Token) (bytes : List ℕ) → Each (SpellsToken false) bytes ts → Every Right ts
  tokens_right [] bytes h = tt
  tokens_right (t ∷ ts) bytes h = (token_right h.0 t h.2, tokens_right ts h.1 h.3)

  -- ---- nesting

  every_left : {A : Type 0} (P : A → Type 0) (a b : List A) → Every P (a ++ b) → Every P a
  every_left P [] b h = tt
  every_left P (x ∷ xs) b h = (h.0, every_left P xs b h.1)

  every_right : {A : Type 0} (P : A → Type 0) (a b : List A) → Every P (a ++ b) → Every P b
  every_right P [] b h = h
  every_right P (x ∷ xs) b h = every_right P xs b h.1

  nests_in : {ts : List Token} {is : List Instr} → Nests ts is → Every Right ts → all_spellable is ≡ true
  nests_in no_more h = refl
  nests_in (one_plain {is = is} i r) h = more_in i is h.0 (nests_in r h.1)
  nests_in (one_block {inner = inner} {ts = ts} {body = body} {is = is} ty a r) h =
      more_in (Block ty body) is (block_in laws.inside ty body h.0 (nests_in a (every_left Right inner (End ∷ ts) h.1))) (nests_in r (every_right Right inner (End ∷ ts) h.1).1)
  nests_in (one_loop {inner = inner} {ts = ts} {body = body} {is = is} ty a r) h =
      more_in (Loop ty body) is (loop_in laws.inside ty body h.0 (nests_in a (every_left Right inner (End ∷ ts) h.1))) (nests_in r (every_right Right inner (End ∷ ts) h.1).1)
  nests_in (one_if {inner = inner} {ts = ts} {body = body} {is = is} ty a r) h =
      more_in (If ty body []) is (if_in laws.inside ty body [] h.0 (nests_in a (every_left Right inner (End ∷ ts) h.1)) refl) (nests_in r (every_right Right inner (End ∷ ts) h.1).1)
  nests_in (one_if_else {inner = inner} {other = other} {ts = ts} {body = body} {otherwise = otherwise} {is = is} ty a b r) h =
      let rest = (every_right Right inner (Else ∷ (other ++ End ∷ ts)) h.1).1 in
      more_in (If ty body otherwise) is
      (if_in laws.inside ty body otherwise h.0 (nests_in a (every_left Right inner (Else ∷ (other ++ End ∷ ts)) h.1)) (nests_in b (every_left Right other (End ∷ ts) rest)))
      (nests_in r (every_right Right other (End ∷ ts) rest).1)

  pub body_in : (bytes : List ℕ) (is : List Instr) → SpellsBody false bytes is → all_in_range is ≡ true
  body_in bytes is h = in_range_of is (nests_in h.1 (every_left Right h.0 (End ∷ []) (tokens_right (h.0 ++ End ∷ []) bytes h.2)))
