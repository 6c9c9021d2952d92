-- What is well typed, or valid, names only indices of its spaces, so that a map with as many
-- entries has one for each.
use Rattle.base_lists.proofs.Common.{◌≡◌, ℕ, true, nat_lt, List, [], ◌∷◌, Option, Some, None, refl, sym, arith, true≢false, slice_get, ltb-true, lt-ltb, and_then_is, left_true, right_true, option_map_is, only_true, only_rest}
use Rattle.wasm_tree_spec.specs.Prelude.{RefType, ValType, FuncType, BlockType, Operand, Layers, RowLayers, ListLayers, PassesLayerByLayer, operands, block_operands, Instr, Row_of-Instr, end_of-Instr, more_of-Instr, Block', Loop', If', Call, CallIndirect, GlobalGet, GlobalSet, TableGet, TableSet}
use Rattle.wasm_tree_spec.specs.Prelude.{Load, Store, MemorySize, MemoryGrow, RefFunc, MemoryInit, DataDrop, MemoryCopy, MemoryFill, TableInit, ElemDrop, TableCopy, TableGrow, TableSize, TableFill}
use Rattle.wasm_tree.specs.declared.types.BlockType.TheVariants as bt
use Rattle.base_lists.specs.Every.{Every}
use Rattle.wasm_tree.specs.declared.instr.Instr.TheOpen.{Instr-F}
use Rattle.wasm_tree.specs.declared.instr.Instr.{out-Instr}
use Rattle.wasm_valid_bodies.specs.Typing.{Stack, Effect, Context, Signature, signature_in, signature_of, both, effect_of, Fits, Leads, LeadsAll, WellTyped}
use Rattle.index_remap.specs.declared.remap.Remap.{Remap}
use Rattle.index_remap.specs.Prelude.{has, has_entry, fits_all, labelled}
use Rattle.index_remap_proof.specs.Along.{CoversContext}
use Rattle.index_remap_proof.proofs.Lists.{has_at}

both_there : (a b : Option RefType) → both a b ≡ true → (r : RefType) × (q : RefType) × (a ≡ Some r) × (b ≡ Some q)
both_there None b h = absurd (true≢false (sym h))
both_there (Some r) None h = absurd (true≢false (sym h))
both_there (Some r) (Some q) h = (r, q, refl, refl)

signature_there : (o : Option FuncType) (f : Signature) → signature_in o ≡ Some f → (t : FuncType) × (o ≡ Some t)
signature_there None f h = absurd (let k = h in cc)
signature_there (Some t) f h = (t, refl)

module _ (m : Remap) (c : Context) (k : CoversContext m c) where
  type_has : (x : ℕ) (t : FuncType) → slice_get c.types x ≡ Some t → has m.types x ≡ true
  type_has x t e = has_at c.types m.types x t k.types e

  table_has : (x : ℕ) (r : RefType) → slice_get c.tables x ≡ Some r → has m.tables x ≡ true
  table_has x r e = has_at c.tables m.tables x r k.tables e

  memory_has : (x : ℕ) → nat_lt x c.memories ≡ true → has m.mems x ≡ true
  memory_has x h = let lt = ltb-true _ _ h in let le = k.memories in lt-ltb _ _ (omega arith)

  data_has : (x : ℕ) → nat_lt x c.datas ≡ true → has m.datas x ≡ true
  data_has x h = let lt = ltb-true _ _ h in let le = k.datas in lt-ltb _ _ (omega arith)

  -- Each of these indices has an entry.
  abbrev AllEntries : List Operand → Type 0
  AllEntries = Every (λ o. has_entry m o ≡ true)

  abbrev NamesEntries : Instr-F Instr → Type 0
  NamesEntries layer = AllEntries (operands layer)

  plain_fits : (ls : List (List ValType)) (i : Instr) (e : Effect) → effect_of (labelled c ls) i ≡ Some e → NamesEntries (out-Instr i)
  unfolding out-Instr denote.Hole.Carrier.out
  plain_fits ls (Block' bt n body) e h = cc
  plain_fits ls (Loop' bt n body) e h = cc
  plain_fits ls (If' bt n body l other) e h = cc
  plain_fits ls (Call x) e h =
      let s = option_map_is _ _ e h in
      let t = signature_there _ s.0 s.1 in
      let f = and_then_is (slice_get c.funcs x) _ t.0 t.1 in
      (has_at c.funcs m.funcs x f.0 k.funcs f.1, tt)
  plain_fits ls (CallIndirect x y) e h =
      let r = and_then_is (slice_get c.tables y) _ e h in
      let s = option_map_is _ _ e (only_rest _ _ e r.2) in
      let t = signature_there _ s.0 s.1 in
      (type_has x t.0 t.1, (table_has y r.0 r.1, tt))
  plain_fits ls (GlobalGet x) e h = let g = option_map_is _ (slice_get c.globals x) e h in (has_at c.globals m.globals x g.0 k.globals g.1, tt)
  plain_fits ls (GlobalSet x) e h = let g = and_then_is (slice_get c.globals x) _ e h in (has_at c.globals m.globals x g.0 k.globals g.1, tt)
  plain_fits ls (TableGet x) e h = let r = option_map_is _ (slice_get c.tables x) e h in (table_has x r.0 r.1, tt)
  plain_fits ls (TableSet x) e h = let r = option_map_is _ (slice_get c.tables x) e h in (table_has x r.0 r.1, tt)
  plain_fits ls (Load op a) e h = (memory_has a.memory (left_true _ _ (only_true _ _ e h)), tt)
  plain_fits ls (Store op a) e h = (memory_has a.memory (left_true _ _ (only_true _ _ e h)), tt)
  plain_fits ls (MemorySize x) e h = (memory_has x (only_true _ _ e h), tt)
  plain_fits ls (MemoryGrow x) e h = (memory_has x (only_true _ _ e h), tt)
  plain_fits ls (RefFunc x) e h = let b = and_then_is (slice_get c.named x) _ e h in (has_at c.named m.funcs x b.0 k.refs b.1, tt)
  plain_fits ls (MemoryInit x y) e h = let b = only_true _ _ e h in (data_has x (left_true _ _ b), (memory_has y (right_true _ _ b), tt))
  plain_fits ls (DataDrop x) e h = (data_has x (only_true _ _ e h), tt)
  plain_fits ls (MemoryCopy x y) e h = let b = only_true _ _ e h in (memory_has x (left_true _ _ b), (memory_has y (right_true _ _ b), tt))
  plain_fits ls (MemoryFill x) e h = (memory_has x (only_true _ _ e h), tt)
  plain_fits ls (TableInit x y) e h = let r = both_there (slice_get c.elems x) (slice_get c.tables y) (only_true _ _ e h) in (has_at c.elems m.elems x r.0 k.elems r.2, (table_has y r.1 r.3, tt))
  plain_fits ls (ElemDrop x) e h = let r = option_map_is _ (slice_get c.elems x) e h in (has_at c.elems m.elems x r.0 k.elems r.1, tt)
  plain_fits ls (TableCopy x y) e h = let r = both_there (slice_get c.tables x) (slice_get c.tables y) (only_true _ _ e h) in (table_has x r.0 r.2, (table_has y r.1 r.3, tt))
  plain_fits ls (TableGrow x) e h = let r = option_map_is _ (slice_get c.tables x) e h in (table_has x r.0 r.1, tt)
  plain_fits ls (TableSize x) e h = let r = option_map_is _ (slice_get c.tables x) e h in (table_has x r.0 r.1, tt)
  plain_fits ls (TableFill x) e h = let r = option_map_is _ (slice_get c.tables x) e h in (table_has x r.0 r.1, tt)
  plain_fits ls _ e h = tt

  block_fits : (b : BlockType) (f : Signature) → signature_of c.types b ≡ Some f → AllEntries (block_operands b)
  block_fits bt.Empty f h = tt
  block_fits (bt.Value t) f h = tt
  block_fits (bt.Index i) f h = let t = signature_there _ f h in (type_has i t.0 t.1, tt)

  mutual
    unfolding out-Instr denote.Hole.Carrier.out

    instr_fits : (ls : List (List ValType)) (i : Instr) (s t : Stack) → Fits (labelled c ls) i s t → Layers NamesEntries i
    instr_fits ls (Block' bt n body) s t (f, e, (last, l, a), b) = (block_fits bt f e, row_fits (f.results ∷ ls) body _ last l)
    instr_fits ls (Loop' bt n body) s t (f, e, (last, l, a), b) = (block_fits bt f e, row_fits (f.params ∷ ls) body _ last l)
    instr_fits ls (If' bt n body o other) s t (f, e, (last, l, a), (end, r, q), b) = (block_fits bt f e, row_fits (f.results ∷ ls) body _ last l, row_fits (f.results ∷ ls) other _ end r)
    instr_fits ls i s t h = plain_fits ls i h.0 h.1

    row_fits : {n : _} (ls : List (List ValType)) (is : Row_of-Instr n) (s t : Stack) → Leads (labelled c ls) is s t → RowLayers NamesEntries is
    row_fits ls end_of-Instr s t h = tt
    row_fits ls (more_of-Instr i is) s t (u, f, l) = (instr_fits ls i s u f, row_fits ls is u t l)

  all_fits : (ls : List (List ValType)) (is : List Instr) (s t : Stack) → LeadsAll (labelled c ls) is s t → ListLayers NamesEntries is
  all_fits ls [] s t h = tt
  all_fits ls (i ∷ is) s t (u, f, l) = (instr_fits ls i s u f, all_fits ls is u t l)

  pub body_fits : PassesLayerByLayer → (is : List Instr) (ps rs : List ValType) → WellTyped c is ps rs → fits_all m is ≡ true
  body_fits law is ps rs (last, l, a) = (law (has_entry m) is).1 (all_fits c.labels is _ last l)
