-- Code that is well typed where there is at most one memory names memory 0 alone.
use Rattle.base_lists.proofs.Common.{◌≡◌, ℕ, ◌≤◌, true, IsTrue, nat_eq, nat_lt, List, [], ◌∷◌, Some, refl, subst, arith, slice_get, nat_tests, slice_get_within, left_true, right_true, list_all_from}
use Rattle.std.proofs.lemmas.Option.{cond_some}
use Rattle.base_lists.specs.Every.{Every}
use Rattle.wasm_tree_spec.specs.Prelude.{BlockType, Func, Module, Operand, Instr, Row_of-Instr, end_of-Instr, more_of-Instr, Block', Loop', If', Call, CallIndirect, GlobalGet, GlobalSet, TableGet, TableSet, Load, Store, MemorySize, MemoryGrow, RefFunc, MemoryInit, DataDrop, MemoryCopy, MemoryFill}
use Rattle.wasm_tree_spec.specs.Prelude.{TableInit, ElemDrop, TableCopy, TableGrow, TableSize, TableFill, Layers, RowLayers, ListLayers, is_memory_zero, memory_zero_all, memory_zero_funcs, PassesLayerByLayer, operands, block_operands}
use Rattle.wasm_tree.specs.declared.types.BlockType.TheVariants as block
use Rattle.wasm_tree.specs.declared.instr.Instr.{out-Instr}
use Rattle.wasm_tree.specs.declared.instr.Instr.TheOpen.{Instr-F}
use Rattle.wasm_valid_bodies.specs.Typing.{Stack, Effect, Context, under, effect_of, Fits, Leads, LeadsAll}
use Rattle.wasm_valid.specs.declared.kinds.ItemKind.TheVariants as kind
use Rattle.wasm_valid.specs.Prelude.{HoldsAt, IsValid, IsSingle}
use Rattle.wasm_valid.proofs.Order.{each_item}

-- An index of an existing memory is 0 where there is at most one memory.
zero_at : (c : Context) → c.memories ≤ 1 → (memory : ℕ) → nat_lt memory c.memories ≡ true → nat_eq memory 0 ≡ true
zero_at c few memory h = grind (arith, nat_tests)

abbrev AllZero : List Operand → Type 0
AllZero = Every (λ o. is_memory_zero o ≡ true)

-- The outermost layer of an instruction names no memory other than memory 0.
abbrev NamesZero : Instr-F Instr → Type 0
NamesZero layer = AllZero (operands layer)

effect_zero : (c : Context) → c.memories ≤ 1 → (i : Instr) (e : Effect) → effect_of c i ≡ Some e → NamesZero (out-Instr i)
unfolding out-Instr denote.Hole.Carrier.out
effect_zero c few (Load x y) e h = (zero_at c few y.memory (left_true _ _ (cond_some _ _ e h).0), tt)
effect_zero c few (Store x y) e h = (zero_at c few y.memory (left_true _ _ (cond_some _ _ e h).0), tt)
effect_zero c few (MemorySize x) e h = (zero_at c few x (cond_some _ _ e h).0, tt)
effect_zero c few (MemoryGrow x) e h = (zero_at c few x (cond_some _ _ e h).0, tt)
effect_zero c few (MemoryInit x y) e h = (refl, (zero_at c few y (right_true _ _ (cond_some _ _ e h).0), tt))
effect_zero c few (MemoryCopy x y) e h = (zero_at c few x (left_true _ _ (cond_some _ _ e h).0), (zero_at c few y (right_true _ _ (cond_some _ _ e h).0), tt))
effect_zero c few (MemoryFill x) e h = (zero_at c few x (cond_some _ _ e h).0, tt)
effect_zero c few (Call x) e h = (refl, tt)
effect_zero c few (CallIndirect x y) e h = (refl, (refl, tt))
effect_zero c few (GlobalGet x) e h = (refl, tt)
effect_zero c few (GlobalSet x) e h = (refl, tt)
effect_zero c few (TableGet x) e h = (refl, tt)
effect_zero c few (TableSet x) e h = (refl, tt)
effect_zero c few (RefFunc x) e h = (refl, tt)
effect_zero c few (DataDrop x) e h = (refl, tt)
effect_zero c few (TableInit x y) e h = (refl, (refl, tt))
effect_zero c few (ElemDrop x) e h = (refl, tt)
effect_zero c few (TableCopy x y) e h = (refl, (refl, tt))
effect_zero c few (TableGrow x) e h = (refl, tt)
effect_zero c few (TableSize x) e h = (refl, tt)
effect_zero c few (TableFill x) e h = (refl, tt)
effect_zero c few (Block' bt n body) e h = cc
effect_zero c few (Loop' bt n body) e h = cc
effect_zero c few (If' bt n body k other) e h = cc
effect_zero c few _ e h = tt

block_zero : (bt : BlockType) → AllZero (block_operands bt)
block_zero block.Empty = tt
block_zero (block.Value t) = tt
block_zero (block.Index ty) = (refl, tt)

mutual
  unfolding out-Instr denote.Hole.Carrier.out

  fits_zero : (c : Context) → c.memories ≤ 1 → (i : Instr) (s t : Stack) → Fits c i s t → Layers NamesZero i
  fits_zero c few (Block' bt n body) s t (f, e, (last, l, m), a) = (block_zero bt, row_zero (under c f.results) few body _ last l)
  fits_zero c few (Loop' bt n body) s t (f, e, (last, l, m), a) = (block_zero bt, row_zero (under c f.params) few body _ last l)
  fits_zero c few (If' bt n body k other) s t (f, e, (last, l, m), (last', l', m'), a) = (block_zero bt, row_zero (under c f.results) few body _ last l, row_zero (under c f.results) few other _ last' l')
  fits_zero c few i s t h = effect_zero c few i h.0 h.1

  row_zero : {n : _} (c : Context) → c.memories ≤ 1 → (row : Row_of-Instr n) (s t : Stack) → Leads c row s t → RowLayers NamesZero row
  row_zero c few end_of-Instr s t h = tt
  row_zero c few (more_of-Instr i is) s t (u, f, l) = (fits_zero c few i s u f, row_zero c few is u t l)

body_zero : (c : Context) → c.memories ≤ 1 → (is : List Instr) (s t : Stack) → LeadsAll c is s t → ListLayers NamesZero is
body_zero c few [] s t h = tt
body_zero c few (i ∷ is) s t (u, f, l) = (fits_zero c few i s u f, body_zero c few is u t l)

module _ (law : PassesLayerByLayer) where
  body_at : (m : Module) → IsSingle m → (k : ℕ) (f : Func) → slice_get m.funcs k ≡ Some f → HoldsAt m kind.Body k → memory_zero_all f.body ≡ true
  body_at m single k f e (g, ty, found, typed, (last, l, matched)) =
      let same : g ≡ f = cc in subst (λ z. memory_zero_all z.body ≡ true) same ((law is_memory_zero g.body).1 (body_zero _ single g.body _ last l))

  pub valid_zero : (m : Module) → IsValid m → IsSingle m → IsTrue (memory_zero_funcs m.funcs)
  valid_zero m valid single = list_all_from (λ f. memory_zero_all f.body) m.funcs (λ k f e. body_at m single k f e (each_item m valid kind.Body k (slice_get_within m.funcs k f e)))
