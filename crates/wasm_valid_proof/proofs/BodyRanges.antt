-- The operands of a well-typed body are below 2^32, and its memories are memory 0, because the
-- entities that it names exist.
use Rattle.base_lists.proofs.Common.{◌≡◌, ℕ, ◌<◌, ◌≤◌, ◌^◌, Bool, true, false, nat_eq, nat_lt, List, [], ◌∷◌, length, Option, Some, None, refl, sym, ap, ◌∙◌, arith, option_and_then, option_map, slice_get, nat_tests, slice_get_within, left_true, right_true, only_true}
use Rattle.base_lists.specs.Every.{Every}
use Rattle.wasm_tree_spec.specs.Prelude.{Operand, RefType, FuncType, BlockType, Instr, Row_of-Instr, end_of-Instr, more_of-Instr, Block', Loop', If', Call, CallIndirect, GlobalGet, GlobalSet, TableGet, TableSet, Load, Store, MemorySize, MemoryGrow, RefFunc, MemoryInit, DataDrop, MemoryCopy}
use Rattle.wasm_tree_spec.specs.Prelude.{MemoryFill, TableInit, ElemDrop, TableCopy, TableGrow, TableSize, TableFill, Layers, RowLayers, ListLayers, PassesLayerByLayer, operands, block_operands, all_operands_pass}
use Rattle.wasm_tree.specs.declared.types.BlockType.TheVariants as block
use Rattle.wasm_tree.specs.declared.instr.Instr.{out-Instr}
use Rattle.wasm_tree.specs.declared.instr.Instr.TheOpen.{Instr-F}
use Rattle.wasm_valid_bodies.specs.Typing.{Stack, Effect, Signature, Context, signature_of, signature_in, gives_of, both, under, only, effect_of, Fits, Leads, LeadsAll}
use Rattle.wasm_write_proof.specs.Ranges.{small, spelled_operand}

-- ---- indices of entries that exist are small

small_below : (n most : ℕ) → n < most → most < 2 ^ 32 → small n ≡ true
small_below n most h k = grind (arith, nat_tests)

small_there : {A : Type 0} (xs : List A) (n : ℕ) (o : Option A) → length xs < 2 ^ 32 → slice_get xs n ≡ o → (o ≡ None → ⊥) → small n ≡ true
small_there xs n None few e some = absurd (some refl)
small_there xs n (Some x) few e some = small_below n (length xs) (slice_get_within xs n x e) few

mapped : {A B : Type 0} (f : A → B) (o : Option A) (e : B) → option_map f o ≡ Some e → o ≡ None → ⊥
mapped f None e h n = cc
mapped f (Some x) e h n = cc

then_there : {A B : Type 0} (f : A → Option B) (o : Option A) (e : B) → option_and_then f o ≡ Some e → o ≡ None → ⊥
then_there f None e h n = cc
then_there f (Some x) e h n = cc

-- A context with fewer than 2^32 entries of each kind and at most one memory.
pub record IsSmall (c : Context) : Type 0 where
  pub types : length c.types < 2 ^ 32
  pub funcs : length c.funcs < 2 ^ 32
  pub tables : length c.tables < 2 ^ 32
  pub memories : c.memories ≤ 1
  pub globals : length c.globals < 2 ^ 32
  pub elems : length c.elems < 2 ^ 32
  pub datas : c.datas < 2 ^ 32
  pub named : length c.named < 2 ^ 32

small_under : (c : Context) (ts : List _) → IsSmall c → IsSmall (under c ts)
small_under c ts s = record { types = s.types; funcs = s.funcs; tables = s.tables; memories = s.memories; globals = s.globals; elems = s.elems; datas = s.datas; named = s.named }

small_under_count : (n most : ℕ) → most < 2 ^ 32 → nat_lt n most ≡ true → small n ≡ true
small_under_count n most few h = grind (arith, nat_tests)

one_below : (n most : ℕ) → most ≤ 1 → nat_lt n most ≡ true → nat_eq n 0 ≡ true
one_below n most few h = grind (arith, nat_tests)

abbrev Small : List Operand → Type 0
Small = Every (λ o. spelled_operand o ≡ true)

-- The operands of an instruction itself, without those of the instructions inside it, are small.
abbrev SmallLayer : Instr-F Instr → Type 0
SmallLayer layer = Small (operands layer)

type_small : (c : Context) → IsSmall c → (bt : BlockType) (f : Signature) → signature_of c.types bt ≡ Some f → Small (block_operands bt)
type_small c s block.Empty f h = tt
type_small c s (block.Value t) f h = tt
type_small c s (block.Index n) f h = (small_there c.types n (slice_get c.types n) s.types refl (λ none. let e : signature_in None ≡ Some f = ap signature_in (sym none) ∙ h in cc), tt)

both_there : (a b : Option RefType) → both a b ≡ true → (a ≡ None → ⊥) × (b ≡ None → ⊥)
both_there None b h = cc
both_there (Some a) None h = cc
both_there (Some a) (Some b) h = (λ n. cc, λ n. cc)

indirect_type : (o : Option RefType) (p : Option FuncType) (f : RefType → Bool) (g : Signature → Effect) (e : Effect) → option_and_then (λ r. only (f r) (option_map g (signature_in p))) o ≡ Some e → p ≡ None → ⊥
indirect_type None p f g e h n = cc
indirect_type (Some r) p f g e h n = by_test (f r) h
  where
    by_test : (b : Bool) → only b (option_map g (signature_in p)) ≡ Some e → ⊥
    by_test false k = cc
    by_test true k = let empty : option_map g (signature_in None) ≡ Some e = ap (λ q. option_map g (signature_in q)) (sym n) ∙ k in cc

call_there : (o : Option ℕ) (f : ℕ → Option FuncType) (e : Effect) → gives_of (signature_in (option_and_then f o)) ≡ Some e → o ≡ None → ⊥
call_there None f e h n = cc
call_there (Some x) f e h n = cc

effect_small : (c : Context) → IsSmall c → (i : Instr) (e : Effect) → effect_of c i ≡ Some e → SmallLayer (out-Instr i)
unfolding out-Instr denote.Hole.Carrier.out
effect_small c s (Call x) e h = (small_there c.funcs x (slice_get c.funcs x) s.funcs refl (call_there (slice_get c.funcs x) (λ t. slice_get c.types t) e h), tt)
effect_small c s (CallIndirect x y) e h =
    (small_there c.types x (slice_get c.types x) s.types refl (indirect_type (slice_get c.tables y) (slice_get c.types x) _ _ e h), (small_there c.tables y (slice_get c.tables y) s.tables refl (then_there _ (slice_get c.tables y) e h), tt))
effect_small c s (GlobalGet x) e h = (small_there c.globals x (slice_get c.globals x) s.globals refl (mapped _ (slice_get c.globals x) e h), tt)
effect_small c s (GlobalSet x) e h = (small_there c.globals x (slice_get c.globals x) s.globals refl (then_there _ (slice_get c.globals x) e h), tt)
effect_small c s (TableGet x) e h = (small_there c.tables x (slice_get c.tables x) s.tables refl (mapped _ (slice_get c.tables x) e h), tt)
effect_small c s (TableSet x) e h = (small_there c.tables x (slice_get c.tables x) s.tables refl (mapped _ (slice_get c.tables x) e h), tt)
effect_small c s (Load x y) e h = (one_below y.memory c.memories s.memories (left_true _ _ (only_true _ _ e h)), tt)
effect_small c s (Store x y) e h = (one_below y.memory c.memories s.memories (left_true _ _ (only_true _ _ e h)), tt)
effect_small c s (MemorySize x) e h = (one_below x c.memories s.memories (only_true _ _ e h), tt)
effect_small c s (MemoryGrow x) e h = (one_below x c.memories s.memories (only_true _ _ e h), tt)
effect_small c s (RefFunc x) e h = (small_there c.named x (slice_get c.named x) s.named refl (then_there _ (slice_get c.named x) e h), tt)
effect_small c s (MemoryInit x y) e h = (small_under_count x c.datas s.datas (left_true _ _ (only_true _ _ e h)), (one_below y c.memories s.memories (right_true _ _ (only_true _ _ e h)), tt))
effect_small c s (DataDrop x) e h = (small_under_count x c.datas s.datas (only_true _ _ e h), tt)
effect_small c s (MemoryCopy x y) e h = (one_below x c.memories s.memories (left_true _ _ (only_true _ _ e h)), (one_below y c.memories s.memories (right_true _ _ (only_true _ _ e h)), tt))
effect_small c s (MemoryFill x) e h = (one_below x c.memories s.memories (only_true _ _ e h), tt)
effect_small c s (TableInit x y) e h =
    let t = both_there (slice_get c.elems x) (slice_get c.tables y) (only_true _ _ e h) in (small_there c.elems x (slice_get c.elems x) s.elems refl t.0, (small_there c.tables y (slice_get c.tables y) s.tables refl t.1, tt))
effect_small c s (ElemDrop x) e h = (small_there c.elems x (slice_get c.elems x) s.elems refl (mapped _ (slice_get c.elems x) e h), tt)
effect_small c s (TableCopy x y) e h = let t = both_there (slice_get c.tables x) (slice_get c.tables y) (only_true _ _ e h) in (small_there c.tables x (slice_get c.tables x) s.tables refl t.0, (small_there c.tables y (slice_get c.tables y) s.tables refl t.1, tt))
effect_small c s (TableGrow x) e h = (small_there c.tables x (slice_get c.tables x) s.tables refl (mapped _ (slice_get c.tables x) e h), tt)
effect_small c s (TableSize x) e h = (small_there c.tables x (slice_get c.tables x) s.tables refl (mapped _ (slice_get c.tables x) e h), tt)
effect_small c s (TableFill x) e h = (small_there c.tables x (slice_get c.tables x) s.tables refl (mapped _ (slice_get c.tables x) e h), tt)
effect_small c s (Block' bt n body) e h = cc
effect_small c s (Loop' bt n body) e h = cc
effect_small c s (If' bt n body m other) e h = cc
effect_small c s _ e h = tt

mutual
  unfolding out-Instr denote.Hole.Carrier.out

  fits_small : (c : Context) → IsSmall c → (i : Instr) (s t : Stack) → Fits c i s t → Layers SmallLayer i
  fits_small c small (Block' bt n body) s t (f, e, (last, l, m), a) = (type_small c small bt f e, row_small (under c f.results) (small_under c f.results small) body _ last l)
  fits_small c small (Loop' bt n body) s t (f, e, (last, l, m), a) = (type_small c small bt f e, row_small (under c f.params) (small_under c f.params small) body _ last l)
  fits_small c small (If' bt n body m other) s t (f, e, (last, l, w), (last', l', w'), a) =
      let inner = small_under c f.results small in
      (type_small c small bt f e, row_small (under c f.results) inner body _ last l, row_small (under c f.results) inner other _ last' l')
  fits_small c small i s t h = effect_small c small i h.0 h.1

  row_small : {n : _} (c : Context) → IsSmall c → (row : Row_of-Instr n) (s t : Stack) → Leads c row s t → RowLayers SmallLayer row
  row_small c small end_of-Instr s t h = tt
  row_small c small (more_of-Instr i is) s t (u, f, l) = (fits_small c small i s u f, row_small c small is u t l)

list_small : (c : Context) → IsSmall c → (is : List Instr) (s t : Stack) → LeadsAll c is s t → ListLayers SmallLayer is
list_small c small [] s t h = tt
list_small c small (i ∷ is) s t (u, f, l) = (fits_small c small i s u f, list_small c small is u t l)

pub body_small : PassesLayerByLayer → (c : Context) → IsSmall c → (is : List Instr) (s t : Stack) → LeadsAll c is s t → all_operands_pass spelled_operand is ≡ true
body_small layers c small is s t l = (layers spelled_operand is).1 (list_small c small is s t l)
