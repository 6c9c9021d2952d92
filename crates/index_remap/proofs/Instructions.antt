-- An instruction without a body keeps its type where each index that it names agrees with its
-- entry, and a block the one of its block type.
use Rattle.base_lists.proofs.Common.{◌≡◌, ℕ, ◌^◌, true, nat_lt, nat_le, List, [], ◌∷◌, Some, sym, ap, ◌∙◌, subst, option_and_then, option_map, slice_get, slice_index, ltb-true, lt-ltb, keeps_map, keeps_then, keeps_only}
use Rattle.wasm_tree_spec.specs.Prelude.{ValType, BlockType, MemArg, Instr, fold_out-Instr, map-Instr, Block', Loop', If', Return, Call, CallIndirect, LocalGet, LocalSet, LocalTee, GlobalGet, GlobalSet, TableGet, TableSet, Load, Store, MemorySize, MemoryGrow, RefFunc, MemoryInit, DataDrop}
use Rattle.wasm_tree_spec.specs.Prelude.{MemoryCopy, MemoryFill, TableInit, ElemDrop, TableCopy, TableGrow, TableSize, TableFill, block_operands, map_operands, read_width, store_width}
use Rattle.wasm_tree.specs.declared.types.BlockType.TheVariants as bt
use Rattle.wasm_tree.specs.declared.instr.Instr.{out-Instr}
use Rattle.base_lists.specs.Every.{Every}
use Rattle.wasm_valid_bodies.specs.Typing.{Stack, Effect, Gives, Leaves, Acts, Context, signature_of, fits_memory, effect_of, Fits}
use Rattle.index_remap.specs.declared.remap.Remap.{Remap}
use Rattle.index_remap.specs.Prelude.{entry, new_type, renumbered, Keeps, OperandAgrees, LayerAgrees, labelled}
use Rattle.index_remap.specs.Renumbered.{new_memarg}
use Rattle.index_remap.specs.Agreement.{FuncAgrees, MemoryAgrees, DataAgrees}
use Rattle.index_remap.proofs.PresentResults.{keeps_signature, both_keeps, named_keeps, then_is}
use Rattle.base_lists.proofs.Bools.{and_keeps}

-- An instruction without a body fits two stacks if its type leads from one to the other.
fits_plain : (c : Context) (i : Instr) (s t : Stack) (e : Effect) → effect_of c i ≡ Some e → Acts e s t → Fits c i s t
fits_plain c (Block' bt n body) s t e h a = absurd cc
fits_plain c (Loop' bt n body) s t e h a = absurd cc
fits_plain c (If' bt n body k other) s t e h a = absurd cc
fits_plain c i s t e h a = (e, h, a)

module _ (m : Remap) (c d : Context) (locals : c.locals ≡ d.locals) (results : c.results ≡ d.results) where
  memory_keeps : (x : ℕ) → MemoryAgrees m c d x → nat_lt x c.memories ≡ true → nat_lt (slice_index m.mems x) d.memories ≡ true
  memory_keeps x k h = lt-ltb _ _ (k (ltb-true _ _ h))

  data_keeps : (x : ℕ) → DataAgrees m c d x → nat_lt x c.datas ≡ true → nat_lt (slice_index m.datas x) d.datas ≡ true
  data_keeps x k h = lt-ltb _ _ (k (ltb-true _ _ h))

  aligned_keeps : (ls : List (List ValType)) (w : ℕ) (a : MemArg) → MemoryAgrees m c d a.memory → fits_memory (labelled c ls) w a ≡ true → fits_memory (labelled d ls) w (new_memarg m a) ≡ true
  aligned_keeps ls w a k h =
      and_keeps (nat_lt a.memory c.memories) (nat_lt (slice_index m.mems a.memory) d.memories) (nat_le (2 ^ a.align) w) (nat_le (2 ^ a.align) w) (memory_keeps a.memory k) (λ z. z) h

  call_keeps : (x : ℕ) → FuncAgrees m c d x → Keeps (option_and_then (λ t. slice_get c.types t) (slice_get c.funcs x)) (option_and_then (λ t. slice_get d.types t) (slice_get d.funcs (slice_index m.funcs x)))
  call_keeps x k y h = then_is (slice_get d.funcs (slice_index m.funcs x)) (slice_get d.types) ∙ k y (sym (then_is (slice_get c.funcs x) (slice_get c.types)) ∙ h)

  effect_at : (ls : List (List ValType)) (i : Instr) → LayerAgrees m c d (out-Instr i) → (e : Effect) → effect_of (labelled c ls) i ≡ Some e →
      effect_of (labelled d ls) (map_operands (entry m) (map-Instr Instr Instr (renumbered m) (out-Instr i))) ≡ Some e
  unfolding out-Instr denote.Hole.Carrier.out
  effect_at ls (Block' bt n body) q e h = cc
  effect_at ls (Loop' bt n body) q e h = cc
  effect_at ls (If' bt n body k other) q e h = cc
  effect_at ls Return q e h = subst (λ z. Some (Leaves z) ≡ Some e) results h
  effect_at ls (Call x) q e h = keeps_map _ _ _ (keeps_signature _ _ (call_keeps x q.0)) e h
  effect_at ls (CallIndirect ty table) q e h = keeps_then _ _ _ _ q.1.0 (λ r. keeps_only _ _ _ _ (λ b. b) (keeps_map _ _ _ (keeps_signature _ _ q.0))) e h
  effect_at ls (LocalGet x) q e h = subst (λ z. option_map (λ t. Gives [] (t ∷ [])) (slice_get z x) ≡ Some e) locals h
  effect_at ls (LocalSet x) q e h = subst (λ z. option_map (λ t. Gives (t ∷ []) []) (slice_get z x) ≡ Some e) locals h
  effect_at ls (LocalTee x) q e h = subst (λ z. option_map (λ t. Gives (t ∷ []) (t ∷ [])) (slice_get z x) ≡ Some e) locals h
  effect_at ls (GlobalGet x) q e h = keeps_map _ _ _ q.0 e h
  effect_at ls (GlobalSet x) q e h = keeps_then _ _ _ _ q.0 (λ g z p. p) e h
  effect_at ls (TableGet x) q e h = keeps_map _ _ _ q.0 e h
  effect_at ls (TableSet x) q e h = keeps_map _ _ _ q.0 e h
  effect_at ls (Load op a) q e h = keeps_only (fits_memory (labelled c ls) (read_width op) a) (fits_memory (labelled d ls) (read_width op) (new_memarg m a)) _ _ (aligned_keeps ls (read_width op) a q.0) (λ z p. p) e h
  effect_at ls (Store op a) q e h = keeps_only (fits_memory (labelled c ls) (store_width op) a) (fits_memory (labelled d ls) (store_width op) (new_memarg m a)) _ _ (aligned_keeps ls (store_width op) a q.0) (λ z p. p) e h
  effect_at ls (MemorySize x) q e h = keeps_only _ _ _ _ (memory_keeps x q.0) (λ z p. p) e h
  effect_at ls (MemoryGrow x) q e h = keeps_only _ _ _ _ (memory_keeps x q.0) (λ z p. p) e h
  effect_at ls (RefFunc x) q e h = named_keeps _ _ q.0 e h
  effect_at ls (MemoryInit x y) q e h = keeps_only _ _ _ _ (and_keeps _ _ _ _ (data_keeps x q.0) (memory_keeps y q.1.0)) (λ z p. p) e h
  effect_at ls (DataDrop x) q e h = keeps_only _ _ _ _ (data_keeps x q.0) (λ z p. p) e h
  effect_at ls (MemoryCopy x y) q e h = keeps_only _ _ _ _ (and_keeps _ _ _ _ (memory_keeps x q.0) (memory_keeps y q.1.0)) (λ z p. p) e h
  effect_at ls (MemoryFill x) q e h = keeps_only _ _ _ _ (memory_keeps x q.0) (λ z p. p) e h
  effect_at ls (TableInit x y) q e h = keeps_only _ _ _ _ (both_keeps _ _ _ _ q.0 q.1.0) (λ z p. p) e h
  effect_at ls (ElemDrop x) q e h = keeps_map _ _ _ q.0 e h
  effect_at ls (TableCopy x y) q e h = keeps_only _ _ _ _ (both_keeps _ _ _ _ q.0 q.1.0) (λ z p. p) e h
  effect_at ls (TableGrow x) q e h = keeps_map _ _ _ q.0 e h
  effect_at ls (TableSize x) q e h = keeps_map _ _ _ q.0 e h
  effect_at ls (TableFill x) q e h = keeps_map _ _ _ q.0 e h
  effect_at ls _ q e h = h

  pub type_kept : (b : BlockType) → Every (λ o. OperandAgrees m c d o.space o.called o.index) (block_operands b) → Keeps (signature_of c.types b) (signature_of d.types (new_type m b))
  type_kept bt.Empty q f h = h
  type_kept (bt.Value t) q f h = h
  type_kept (bt.Index i) q f h = keeps_signature _ _ q.0 f h

  pub plain_kept : (ls : List (List ValType)) (i : Instr) (s t : Stack) → LayerAgrees m c d (out-Instr i) → (e : Effect) → effect_of (labelled c ls) i ≡ Some e → Acts e s t → Fits (labelled d ls) (renumbered m i) s t
  plain_kept ls i s t q e h a =
      fits_plain (labelled d ls) (renumbered m i) s t e (ap (effect_of (labelled d ls)) (fold_out-Instr Instr (map_operands (entry m)) i) ∙ effect_at ls i q e h) a
