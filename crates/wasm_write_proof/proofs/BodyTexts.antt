-- The canonical encoding of a body encodes it.
use Rattle.base_lists.proofs.Common.{◌≡◌, ℕ, suc, ◌+◌, ◌<◌, ◌^◌, List, [], ◌∷◌, ◌++◌, map, length, true, false, refl, sym, ap, ◌∙◌, subst, arith, append_assoc, append-nil, nat_eq, ◌&&◌, list_all, eqb-true, left_true, right_true}
use Rattle.std.proofs.Common.{length-append}
use Rattle.wasm_bytes.specs.Prelude.{u32_text, s32_text, s64_text, U32, Each, Vector}
use Rattle.wasm_bytes.specs.Writing.{unsigned_text}
use Rattle.wasm_num.specs.declared.UnOp.{UnOp}
use Rattle.wasm_num.specs.declared.UnOp.TheVariants as un
use Rattle.wasm_num.specs.declared.BinOp.{BinOp}
use Rattle.wasm_num.specs.declared.BinOp.TheVariants as bin
use Rattle.wasm_tree_spec.specs.Prelude.{LoadOp, StoreOp, MemArg, Instr, map-Instr, Unreachable, Nop, Br, BrIf, BrTable, Return, Call, CallIndirect, Drop, Select, SelectTyped, LocalGet, LocalSet, LocalTee, GlobalGet, GlobalSet, TableGet, TableSet, Load, Store, MemorySize, MemoryGrow, I32Const}
use Rattle.wasm_tree_spec.specs.Prelude.{I64Const, Un, Bin, RefNull, RefIsNull, RefFunc, MemoryInit, DataDrop, MemoryCopy, MemoryFill, TableInit, ElemDrop, TableCopy, TableGrow, TableSize, TableFill}
use Rattle.wasm_tree.specs.declared.instr.LoadOp.TheVariants as load
use Rattle.wasm_tree.specs.declared.instr.StoreOp.TheVariants as store
use Rattle.wasm_tree.specs.declared.instr.Instr.{ind-Instr, fold-roll-Instr, out-roll-Instr, roll-Instr}
use Rattle.wasm_tree.specs.declared.instr.Instr.TheOpen.{Instr-F}
use Rattle.wasm_tree.specs.declared.instr.Instr.TheVariants.{rolls-Unreachable, rolls-Nop, rolls-Block, rolls-Loop, rolls-If, rolls-Br, rolls-BrIf, rolls-BrTable, rolls-Return, rolls-Call, rolls-CallIndirect, rolls-Drop, rolls-Select, rolls-SelectTyped, rolls-LocalGet, rolls-LocalSet}
use Rattle.wasm_tree.specs.declared.instr.Instr.TheVariants.{rolls-LocalTee, rolls-GlobalGet, rolls-GlobalSet, rolls-TableGet, rolls-TableSet, rolls-Load, rolls-Store, rolls-MemorySize, rolls-MemoryGrow, rolls-I32Const, rolls-I64Const, rolls-Un, rolls-Bin, rolls-RefNull, rolls-RefIsNull}
use Rattle.wasm_tree.specs.declared.instr.Instr.TheVariants.{rolls-RefFunc, rolls-MemoryInit, rolls-DataDrop, rolls-MemoryCopy, rolls-MemoryFill, rolls-TableInit, rolls-ElemDrop, rolls-TableCopy, rolls-TableGrow, rolls-TableSize, rolls-TableFill}
use Rattle.wasm_read_spec.specs.declared.token.Opener.TheVariants as opener
use Rattle.wasm_read_spec.specs.declared.token.Token.{Token}
use Rattle.wasm_read_spec.specs.declared.token.Token.TheVariants.{Open, Else, End, Plain}
use Rattle.base_lists.specs.Every.{Every}
use Rattle.wasm_read_spec.specs.Operations.{un_of, bin_of, load_of, store_of}
use Rattle.wasm_read_spec.specs.Prelude.{plain, access, SpellsMemArg, SpellsMemory, FollowsOpcode, SpellsToken, Nests, no_more, one_plain, one_block, one_loop, one_if, one_if_else, SpellsBody}
use Rattle.wasm_read_spec.specs.Tokens.{the_form, rest_form, sub_form, arg_form}
use Rattle.wasm_write_spec.specs.PlainValues.{vector_text, ref_text, val_text, block_type_text}
use Rattle.wasm_write_spec.specs.PlainCode.{un_code, bin_code, load_code, store_code, mem_arg_text, instr_step, instr_text, instrs_text, body_text}
use Rattle.wasm_write_proof.specs.Ranges.{small, spellable, all_spellable}
use Rattle.wasm_write_proof.proofs.Inside.{LayerInRange, layer_of, first_in, rest_in, front_in, back_in}
use Rattle.wasm_write_proof.proofs.Parts.{TextLaws, below, u32_some, u32_spells, s32_spells, s64_spells, within_32, within_64, flag_spells, vector_spells, each_join}
use Rattle.wasm_write_proof.proofs.ItemTexts.{ref_spells, vals_spell, block_type_spells}

-- ---- opcodes

un_code_form : (op : UnOp) → the_form (un_code op) ≡ plain (Un op)
unfolding the_form un_of bin_of load_of store_of un_code
un_code_form un.I32Eqz = refl
un_code_form un.I64Eqz = refl
un_code_form un.I32Clz = refl
un_code_form un.I32Ctz = refl
un_code_form un.I32Popcnt = refl
un_code_form un.I64Clz = refl
un_code_form un.I64Ctz = refl
un_code_form un.I64Popcnt = refl
un_code_form un.I32Extend8S = refl
un_code_form un.I32Extend16S = refl
un_code_form un.I64Extend8S = refl
un_code_form un.I64Extend16S = refl
un_code_form un.I64Extend32S = refl
un_code_form un.I32WrapI64 = refl
un_code_form un.I64ExtendI32S = refl
un_code_form un.I64ExtendI32U = refl

bin_code_form : (op : BinOp) → the_form (bin_code op) ≡ plain (Bin op)
unfolding the_form un_of bin_of load_of store_of bin_code
bin_code_form bin.I32Eq = refl
bin_code_form bin.I32Ne = refl
bin_code_form bin.I32LtS = refl
bin_code_form bin.I32LtU = refl
bin_code_form bin.I32GtS = refl
bin_code_form bin.I32GtU = refl
bin_code_form bin.I32LeS = refl
bin_code_form bin.I32LeU = refl
bin_code_form bin.I32GeS = refl
bin_code_form bin.I32GeU = refl
bin_code_form bin.I32Add = refl
bin_code_form bin.I32Sub = refl
bin_code_form bin.I32Mul = refl
bin_code_form bin.I32DivS = refl
bin_code_form bin.I32DivU = refl
bin_code_form bin.I32RemS = refl
bin_code_form bin.I32RemU = refl
bin_code_form bin.I32And = refl
bin_code_form bin.I32Or = refl
bin_code_form bin.I32Xor = refl
bin_code_form bin.I32Shl = refl
bin_code_form bin.I32ShrS = refl
bin_code_form bin.I32ShrU = refl
bin_code_form bin.I32Rotl = refl
bin_code_form bin.I32Rotr = refl
bin_code_form bin.I64Eq = refl
bin_code_form bin.I64Ne = refl
bin_code_form bin.I64LtS = refl
bin_code_form bin.I64LtU = refl
bin_code_form bin.I64GtS = refl
bin_code_form bin.I64GtU = refl
bin_code_form bin.I64LeS = refl
bin_code_form bin.I64LeU = refl
bin_code_form bin.I64GeS = refl
bin_code_form bin.I64GeU = refl
bin_code_form bin.I64Add = refl
bin_code_form bin.I64Sub = refl
bin_code_form bin.I64Mul = refl
bin_code_form bin.I64DivS = refl
bin_code_form bin.I64DivU = refl
bin_code_form bin.I64RemS = refl
bin_code_form bin.I64RemU = refl
bin_code_form bin.I64And = refl
bin_code_form bin.I64Or = refl
bin_code_form bin.I64Xor = refl
bin_code_form bin.I64Shl = refl
bin_code_form bin.I64ShrS = refl
bin_code_form bin.I64ShrU = refl
bin_code_form bin.I64Rotl = refl
bin_code_form bin.I64Rotr = refl

load_code_form : (op : LoadOp) → the_form (load_code op) ≡ access (Load op)
unfolding the_form un_of bin_of load_of store_of load_code
load_code_form load.I32Load = refl
load_code_form load.I64Load = refl
load_code_form load.I32Load8S = refl
load_code_form load.I32Load8U = refl
load_code_form load.I32Load16S = refl
load_code_form load.I32Load16U = refl
load_code_form load.I64Load8S = refl
load_code_form load.I64Load8U = refl
load_code_form load.I64Load16S = refl
load_code_form load.I64Load16U = refl
load_code_form load.I64Load32S = refl
load_code_form load.I64Load32U = refl

store_code_form : (op : StoreOp) → the_form (store_code op) ≡ access (Store op)
unfolding the_form un_of bin_of load_of store_of store_code
store_code_form store.I32Store = refl
store_code_form store.I64Store = refl
store_code_form store.I32Store8 = refl
store_code_form store.I32Store16 = refl
store_code_form store.I64Store8 = refl
store_code_form store.I64Store16 = refl
store_code_form store.I64Store32 = refl

-- ---- immediates

zero_text : u32_text 0 ≡ 0 ∷ []
unfolding unsigned_text
zero_text = refl

memory_spells : (m : ℕ) → nat_eq m 0 ≡ true → SpellsMemory false (u32_text m) m
memory_spells m h = let e : m ≡ 0 = eqb-true m 0 h in rw e ([], (refl, refl), zero_text)

arg_spells : TextLaws → (a o m : ℕ) → small a ≡ true → small o ≡ true → nat_eq m 0 ≡ true →
    SpellsMemArg false (mem_arg_text (record { align = a; offset = o; memory = m })) (record { align = a; offset = o; memory = m })
unfolding arg_form
arg_spells laws a o m h k e = let z : m ≡ 0 = eqb-true m 0 e in rw z (a, (u32_text a, u32_text o, u32_spells laws a (below a h), (o, u32_spells laws o (below o k), refl), refl))

mem_arg_spells : TextLaws → (a : MemArg) → nat_eq a.memory 0 ≡ true → small a.align && small a.offset ≡ true → SpellsMemArg false (mem_arg_text a) a
mem_arg_spells laws a z h = arg_spells laws a.align a.offset a.memory (left_true (small a.align) _ h) (right_true (small a.align) _ h) z

labels_each : TextLaws → (xs : List ℕ) → list_all small xs ≡ true → Every (λ x. U32 (u32_text x) x) xs
labels_each laws [] h = tt
labels_each laws (x ∷ xs) h = (u32_spells laws x (below x (left_true (small x) _ h)), labels_each laws xs (right_true (small x) _ h))

labels_spell : TextLaws → (xs : List ℕ) → list_all small xs ≡ true → length (vector_text u32_text xs) < 2 ^ 32 → Vector U32 (vector_text u32_text xs) xs
labels_spell laws xs h few = vector_spells laws U32 u32_text xs u32_some few (labels_each laws xs h)

-- ---- instructions

abbrev One : Instr → List ℕ → Type 0
One i bytes = (ts : List Token) × ((us : List Token) (is : List Instr) → Nests us is → Nests (ts ++ us) (i ∷ is)) × Each (SpellsToken false) bytes ts

abbrev Good : Instr → Type 0
Good i = spellable i ≡ true → length (instr_text i) < 2 ^ 32 → One i (instr_text i)

abbrev Such : Type 0
Such = (i : Instr) × Good i

abbrev trees : List Such → List Instr
trees = map (λ e. e.0)

abbrev Body : List Instr → Type 0
Body is = (ts : List Token) × Nests ts is × Each (SpellsToken false) (instrs_text is) ts

tokens_join : (ts us : List Token) (a b : List ℕ) → Each (SpellsToken false) a ts → Each (SpellsToken false) b us → Each (SpellsToken false) (a ++ b) (ts ++ us)
tokens_join ts us a b = each_join (SpellsToken false) ts us a b

body_of : (es : List Such) → all_spellable (trees es) ≡ true → length (instrs_text (trees es)) < 2 ^ 32 → Body (trees es)
body_of [] h few = ([], no_more, refl)
body_of (e ∷ es) h few =
    let both = length-append (instr_text e.0) (instrs_text (trees es)) in
    let o = e.1 (first_in e.0 (trees es) h) (omega (arith, few, both)) in
    let r = body_of es (rest_in e.0 (trees es) h) (omega (arith, few, both)) in
    (o.0 ++ r.0, o.1 r.0 (trees es) r.1, tokens_join o.0 r.0 (instr_text e.0) (instrs_text (trees es)) o.2 r.2)

-- An instruction without a body is encoded by its opcode and what follows the opcode.
leaf : (i : Instr) (code : ℕ) (rest : List ℕ) → FollowsOpcode false (the_form code) rest (Plain i) → One i (code ∷ rest)
leaf i code rest s = (Plain i ∷ [], λ us is n. one_plain i n, (code ∷ rest, [], (code, (code ∷ [], rest, refl, s, refl)), refl, sym (append-nil (code ∷ rest))))

end_spells : Each (SpellsToken false) (0x0B ∷ []) (End ∷ [])
unfolding the_form un_of bin_of load_of store_of rest_form
end_spells = (0x0B ∷ [], [], (0x0B, (0x0B ∷ [], [], refl, (refl, refl), refl)), refl, refl)

-- The canonical encoding of an instruction encodes it if those of the instructions inside it do.
node : TextLaws → (y : Instr-F Such) → LayerInRange (map-Instr Such Instr (λ e. e.0) y) →
    length (instr_step (map-Instr Instr (List ℕ) instr_text (map-Instr Such Instr (λ e. e.0) y))) < 2 ^ 32 →
    One (roll-Instr (map-Instr Such Instr (λ e. e.0) y)) (instr_step (map-Instr Instr (List ℕ) instr_text (map-Instr Such Instr (λ e. e.0) y)))
unfolding the_form un_of bin_of load_of store_of rest_form sub_form
node laws Instr-F.Unreachable h k = rw rolls-Unreachable (leaf Unreachable 0x00 [] (refl, refl))
node laws Instr-F.Nop h k = rw rolls-Nop (leaf Nop 0x01 [] (refl, refl))
node laws (Instr-F.Block ty body) h k =
    let inner = instrs_text (trees body) in
    let begin = 0x02 ∷ block_type_text ty in
    let b = body_of body h.2 (omega (arith, k, length-append (begin ++ inner) (0x0B ∷ []), length-append begin inner)) in
    rw rolls-Block (
      Open opener.Block ty ∷ (b.0 ++ End ∷ []),
      λ us is n. rw (append_assoc b.0 (End ∷ []) us) (one_block ty b.1 n),
      (
        begin,
        inner ++ 0x0B ∷ [],
        (0x02, (0x02 ∷ [], block_type_text ty, refl, (ty, block_type_spells laws ty h.0, refl), refl)),
        tokens_join b.0 (End ∷ []) inner (0x0B ∷ []) b.2 end_spells,
        append_assoc begin inner (0x0B ∷ []),
      ),
    )
node laws (Instr-F.Loop ty body) h k =
    let inner = instrs_text (trees body) in
    let begin = 0x03 ∷ block_type_text ty in
    let b = body_of body h.2 (omega (arith, k, length-append (begin ++ inner) (0x0B ∷ []), length-append begin inner)) in
    rw rolls-Loop (
      Open opener.Loop ty ∷ (b.0 ++ End ∷ []),
      λ us is n. rw (append_assoc b.0 (End ∷ []) us) (one_loop ty b.1 n),
      (
        begin,
        inner ++ 0x0B ∷ [],
        (0x03, (0x03 ∷ [], block_type_text ty, refl, (ty, block_type_spells laws ty h.0, refl), refl)),
        tokens_join b.0 (End ∷ []) inner (0x0B ∷ []) b.2 end_spells,
        append_assoc begin inner (0x0B ∷ []),
      ),
    )
node laws (Instr-F.If ty body []) h k =
    let inner = instrs_text (trees body) in
    let begin = 0x04 ∷ block_type_text ty in
    let none : (begin ++ inner ++ []) ++ 0x0B ∷ [] ≡ (begin ++ inner) ++ 0x0B ∷ [] = ap (λ x. x ++ 0x0B ∷ []) (append-nil (begin ++ inner)) in
    let b = body_of body (front_in (trees body) [] h.2) (omega (arith, k, ap length none, length-append (begin ++ inner) (0x0B ∷ []), length-append begin inner)) in
    rw rolls-If (
      Open opener.If ty ∷ (b.0 ++ End ∷ []),
      λ us is n. rw (append_assoc b.0 (End ∷ []) us) (one_if ty b.1 n),
      (
        begin,
        inner ++ 0x0B ∷ [],
        (0x04, (0x04 ∷ [], block_type_text ty, refl, (ty, block_type_spells laws ty h.0, refl), refl)),
        tokens_join b.0 (End ∷ []) inner (0x0B ∷ []) b.2 end_spells,
        none ∙ append_assoc begin inner (0x0B ∷ []),
      ),
    )
node laws (Instr-F.If ty body (e ∷ es)) h k =
    let inner = instrs_text (trees body) in
    let other = instrs_text (trees (e ∷ es)) in
    let begin = 0x04 ∷ block_type_text ty in
    let all : length ((begin ++ inner ++ (0x05 ∷ other)) ++ 0x0B ∷ []) < 2 ^ 32 = k in
    let sizes : length ((begin ++ inner ++ (0x05 ∷ other)) ++ 0x0B ∷ []) ≡ length begin + length inner + (1 + length other) + 1 =
    length-append (begin ++ inner ++ (0x05 ∷ other)) (0x0B ∷ []) ∙ ap (λ n. n + 1) (length-append (begin ++ inner) (0x05 ∷ other) ∙ ap (λ n. n + suc (length other)) (length-append begin inner)) ∙ omega arith in
    let b = body_of body (front_in (trees body) (trees (e ∷ es)) h.2) (omega (arith, all, sizes)) in
    let o = body_of (e ∷ es) (back_in (trees body) (trees (e ∷ es)) h.2) (omega (arith, all, sizes)) in
    rw rolls-If (
      Open opener.If ty ∷ (b.0 ++ Else ∷ (o.0 ++ End ∷ [])),
      λ us is n. rw (append_assoc b.0 (Else ∷ (o.0 ++ End ∷ [])) us, append_assoc o.0 (End ∷ []) us) (one_if_else ty b.1 o.1 n),
      (
        begin,
        inner ++ 0x05 ∷ (other ++ 0x0B ∷ []),
        (0x04, (0x04 ∷ [], block_type_text ty, refl, (ty, block_type_spells laws ty h.0, refl), refl)),
        tokens_join b.0 (Else ∷ (o.0 ++ End ∷ [])) inner (0x05 ∷ (other ++ 0x0B ∷ [])) b.2
            (0x05 ∷ [], other ++ 0x0B ∷ [], (0x05, (0x05 ∷ [], [], refl, (refl, refl), refl)), tokens_join o.0 (End ∷ []) other (0x0B ∷ []) o.2 end_spells, refl),
        append_assoc (begin ++ inner) (0x05 ∷ other) (0x0B ∷ []) ∙ append_assoc begin inner (0x05 ∷ (other ++ 0x0B ∷ [])),
      ),
    )
node laws (Instr-F.Br x) h k = rw rolls-Br (leaf (Br x) 0x0C (u32_text x) (x, u32_spells laws x (below x h.1), refl))
node laws (Instr-F.BrIf x) h k = rw rolls-BrIf (leaf (BrIf x) 0x0D (u32_text x) (x, u32_spells laws x (below x h.1), refl))
node laws (Instr-F.BrTable xs y) h k =
    let labels = vector_text u32_text xs in
    rw rolls-BrTable (leaf (BrTable xs y) 0x0E (labels ++ u32_text y)
    ((xs, y), (labels, u32_text y, labels_spell laws xs (left_true (list_all small xs) _ h.1) (omega (arith, k, length-append labels (u32_text y))), u32_spells laws y (below y (right_true (list_all small xs) _ h.1)), refl), refl))
node laws Instr-F.Return h k = rw rolls-Return (leaf Return 0x0F [] (refl, refl))
node laws (Instr-F.Call x) h k = rw rolls-Call (leaf (Call x) 0x10 (u32_text x) (x, u32_spells laws x (below x h.0.0), refl))
node laws (Instr-F.CallIndirect x y) h k = rw rolls-CallIndirect (leaf (CallIndirect x y) 0x11 (u32_text x ++ u32_text y) ((x, y), (u32_text x, u32_text y, u32_spells laws x (below x h.0.0), u32_spells laws y (below y h.0.1.0), refl), refl))
node laws Instr-F.Drop h k = rw rolls-Drop (leaf Drop 0x1A [] (refl, refl))
node laws Instr-F.Select h k = rw rolls-Select (leaf Select 0x1B [] (refl, refl))
node laws (Instr-F.SelectTyped ts) h k = rw rolls-SelectTyped (leaf (SelectTyped ts) 0x1C (vector_text val_text ts) (ts, vals_spell laws ts (omega (arith, k)), refl))
node laws (Instr-F.LocalGet x) h k = rw rolls-LocalGet (leaf (LocalGet x) 0x20 (u32_text x) (x, u32_spells laws x (below x h.1), refl))
node laws (Instr-F.LocalSet x) h k = rw rolls-LocalSet (leaf (LocalSet x) 0x21 (u32_text x) (x, u32_spells laws x (below x h.1), refl))
node laws (Instr-F.LocalTee x) h k = rw rolls-LocalTee (leaf (LocalTee x) 0x22 (u32_text x) (x, u32_spells laws x (below x h.1), refl))
node laws (Instr-F.GlobalGet x) h k = rw rolls-GlobalGet (leaf (GlobalGet x) 0x23 (u32_text x) (x, u32_spells laws x (below x h.0.0), refl))
node laws (Instr-F.GlobalSet x) h k = rw rolls-GlobalSet (leaf (GlobalSet x) 0x24 (u32_text x) (x, u32_spells laws x (below x h.0.0), refl))
node laws (Instr-F.TableGet x) h k = rw rolls-TableGet (leaf (TableGet x) 0x25 (u32_text x) (x, u32_spells laws x (below x h.0.0), refl))
node laws (Instr-F.TableSet x) h k = rw rolls-TableSet (leaf (TableSet x) 0x26 (u32_text x) (x, u32_spells laws x (below x h.0.0), refl))
node laws (Instr-F.Load op a) h k = rw rolls-Load (leaf (Load op a) (load_code op) (mem_arg_text a) (rw (load_code_form op) (a, mem_arg_spells laws a h.0.0 h.1, refl)))
node laws (Instr-F.Store op a) h k = rw rolls-Store (leaf (Store op a) (store_code op) (mem_arg_text a) (rw (store_code_form op) (a, mem_arg_spells laws a h.0.0 h.1, refl)))
node laws (Instr-F.MemorySize m) h k = rw rolls-MemorySize (leaf (MemorySize m) 0x3F (u32_text m) (m, memory_spells m h.0.0, refl))
node laws (Instr-F.MemoryGrow m) h k = rw rolls-MemoryGrow (leaf (MemoryGrow m) 0x40 (u32_text m) (m, memory_spells m h.0.0, refl))
node laws (Instr-F.I32Const z) h k = rw rolls-I32Const (leaf (I32Const z) 0x41 (s32_text z) (z, s32_spells laws z (within_32 z h.1), refl))
node laws (Instr-F.I64Const z) h k = rw rolls-I64Const (leaf (I64Const z) 0x42 (s64_text z) (z, s64_spells laws z (within_64 z h.1), refl))
node laws (Instr-F.Un op) h k = rw rolls-Un (leaf (Un op) (un_code op) [] (rw (un_code_form op) (refl, refl)))
node laws (Instr-F.Bin op) h k = rw rolls-Bin (leaf (Bin op) (bin_code op) [] (rw (bin_code_form op) (refl, refl)))
node laws (Instr-F.RefNull t) h k = rw rolls-RefNull (leaf (RefNull t) 0xD0 (ref_text t) (t, ref_spells t, refl))
node laws Instr-F.RefIsNull h k = rw rolls-RefIsNull (leaf RefIsNull 0xD1 [] (refl, refl))
node laws (Instr-F.RefFunc x) h k = rw rolls-RefFunc (leaf (RefFunc x) 0xD2 (u32_text x) (x, u32_spells laws x (below x h.0.0), refl))
node laws (Instr-F.MemoryInit x m) h k = rw rolls-MemoryInit (leaf (MemoryInit x m) 0xFC (8 ∷ u32_text x ++ u32_text m)
    (8, (8 ∷ [], u32_text x ++ u32_text m, flag_spells 8 (omega arith), ((x, m), (u32_text x, u32_text m, u32_spells laws x (below x h.0.0), memory_spells m h.0.1.0, refl), refl), refl)))
node laws (Instr-F.DataDrop x) h k = rw rolls-DataDrop (leaf (DataDrop x) 0xFC (9 ∷ u32_text x) (9, (9 ∷ [], u32_text x, flag_spells 9 (omega arith), (x, u32_spells laws x (below x h.0.0), refl), refl)))
node laws (Instr-F.MemoryCopy x y) h k = rw rolls-MemoryCopy (leaf (MemoryCopy x y) 0xFC (10 ∷ u32_text x ++ u32_text y) (10, (10 ∷ [], u32_text x ++ u32_text y, flag_spells 10 (omega arith), ((x, y), (u32_text x, u32_text y, memory_spells x h.0.0, memory_spells y h.0.1.0, refl), refl), refl)))
node laws (Instr-F.MemoryFill m) h k = rw rolls-MemoryFill (leaf (MemoryFill m) 0xFC (11 ∷ u32_text m) (11, (11 ∷ [], u32_text m, flag_spells 11 (omega arith), (m, memory_spells m h.0.0, refl), refl)))
node laws (Instr-F.TableInit x y) h k = rw rolls-TableInit (leaf (TableInit x y) 0xFC (12 ∷ u32_text x ++ u32_text y)
    (12, (12 ∷ [], u32_text x ++ u32_text y, flag_spells 12 (omega arith), ((x, y), (u32_text x, u32_text y, u32_spells laws x (below x h.0.0), u32_spells laws y (below y h.0.1.0), refl), refl), refl)))
node laws (Instr-F.ElemDrop x) h k = rw rolls-ElemDrop (leaf (ElemDrop x) 0xFC (13 ∷ u32_text x) (13, (13 ∷ [], u32_text x, flag_spells 13 (omega arith), (x, u32_spells laws x (below x h.0.0), refl), refl)))
node laws (Instr-F.TableCopy x y) h k = rw rolls-TableCopy (leaf (TableCopy x y) 0xFC (14 ∷ u32_text x ++ u32_text y)
    (14, (14 ∷ [], u32_text x ++ u32_text y, flag_spells 14 (omega arith), ((x, y), (u32_text x, u32_text y, u32_spells laws x (below x h.0.0), u32_spells laws y (below y h.0.1.0), refl), refl), refl)))
node laws (Instr-F.TableGrow x) h k = rw rolls-TableGrow (leaf (TableGrow x) 0xFC (15 ∷ u32_text x) (15, (15 ∷ [], u32_text x, flag_spells 15 (omega arith), (x, u32_spells laws x (below x h.0.0), refl), refl)))
node laws (Instr-F.TableSize x) h k = rw rolls-TableSize (leaf (TableSize x) 0xFC (16 ∷ u32_text x) (16, (16 ∷ [], u32_text x, flag_spells 16 (omega arith), (x, u32_spells laws x (below x h.0.0), refl), refl)))
node laws (Instr-F.TableFill x) h k = rw rolls-TableFill (leaf (TableFill x) 0xFC (17 ∷ u32_text x) (17, (17 ∷ [], u32_text x, flag_spells 17 (omega arith), (x, u32_spells laws x (below x h.0.0), refl), refl)))

good : TextLaws → (i : Instr) → Good i
good laws = ind-Instr Good (λ x y is. subst (λ z. Good (roll-Instr z)) is (λ h k.
    let z = map-Instr Such Instr (λ e. e.0) y in
    rw (fold-roll-Instr (List ℕ) instr_step z) (node laws y (subst LayerInRange (out-roll-Instr z) (layer_of laws.inside (roll-Instr z) h)) (subst (λ t. length t < 2 ^ 32) (fold-roll-Instr (List ℕ) instr_step z) k))))

all_spelled : TextLaws → (is : List Instr) → all_spellable is ≡ true → length (instrs_text is) < 2 ^ 32 → Body is
all_spelled laws [] h few = ([], no_more, refl)
all_spelled laws (i ∷ is) h few =
    let both = length-append (instr_text i) (instrs_text is) in
    let o = good laws i (first_in i is h) (omega (arith, few, both)) in
    let r = all_spelled laws is (rest_in i is h) (omega (arith, few, both)) in
    (o.0 ++ r.0, o.1 r.0 is r.1, tokens_join o.0 r.0 (instr_text i) (instrs_text is) o.2 r.2)

pub body_spells : TextLaws → (is : List Instr) → all_spellable is ≡ true → length (body_text is) < 2 ^ 32 → SpellsBody false (body_text is) is
body_spells laws is h few =
    let b = all_spelled laws is h (omega (arith, few, length-append (instrs_text is) (0x0B ∷ []))) in
    (b.0, b.1, tokens_join b.0 (End ∷ []) (instrs_text is) (0x0B ∷ []) b.2 end_spells)
