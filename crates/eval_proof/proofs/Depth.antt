-- How many frames and labels are open after a step of the machine.
use Rattle.base_lists.proofs.Common.{◌≡◌, ℕ, zero, suc, ◌+◌, ◌≤◌, length, List, [], ◌∷◌, drop, slice_get, arith, nat_eq}
use Rattle.wasm_tree_spec.specs.Prelude.{Instr, out-Instr, StoreOp, ValType, BlockType}
use Rattle.wasm_tree.specs.declared.instr.Instr.TheOpen.{Instr-F}
use Rattle.wasm_num.specs.Operations.{W32}
use Rattle.wasm_meaning.specs.Prelude.{Outcome, split_at, slice, overwrite, copies, store_from, stored, Val, RefVal, Table, Memory, Global, Store, Func, Code, Own, Placeholder, Level, Frame, Entry, Running, Mark, Opening, Waiting, Ended, Growing, Env, Body, Act, Goes, Calls, AsksGrow, Ends, Next}
use Rattle.wasm_meaning.specs.Prelude.{Ran, typed, pop, pop_num, pop_ref, pop_typed, pushes, on_values, with_values, local_put, global_put, unary, binary, ref_is_null, select_any, select_typed, written, writes, store_into, load_from, grow_memory, memory_may_grow, init_memory, fill_memory, pop_three}
use Rattle.wasm_meaning.specs.Prelude.{with_memory, fits, writes_table, get_slot, set_slot, grow_table, table_may_grow, fill_table, init_table, with_table, call_slot, func_ref, type_at, resume, end_level, branch, level_here, open_level, shape_of, open_block, exec, act, give, give_levels, enter}
use Rattle.wasm_meaning.specs.Prelude.{perform, step}
use Rattle.wasm_meaning.proofs.Outcomes.{AllOf, ill_typed, stopped, just, cond_all, with_is, with_found, with_within, all_at}
use Rattle.eval_spec.specs.Prelude.{stack_depth}

-- ---- the frames and labels that an act leaves open in its frame ----

-- After the act at most `n` frames and labels are open in the frame, with the frame that a call
-- opens.
abbrev Opened : ℕ → Act → Type 0
Opened n (Goes c h) = suc (length h.outer) ≤ n
Opened n (Calls a vs h) = suc (suc (length h.outer)) ≤ n
Opened n _ = Unit {0}

more : (n : ℕ) → suc n ≤ suc (suc n)
more n = omega arith

same : (n : ℕ) → n ≤ n
same n = omega arith

drop_short : {A : Type 0} (n : ℕ) (xs : List A) → length (drop n xs) ≤ length xs
drop_short zero xs = same _
drop_short (suc n) [] = same _
drop_short (suc n) (x ∷ xs) = let h = drop_short n xs in omega (arith, h)

module _ (env : Env) where
  -- An instruction leaves at most one more frame or label open than before.
  abbrev Next_all : Body → Outcome Act → Type 0
  Next_all h = AllOf (Opened (suc (suc (length h.outer))))

  pushes_all : (h : Body) (v : Val) → Next_all h (pushes h v)
  pushes_all h v = just (more _)

  on_values_all : (h : Body) (f : List Val → Outcome (List Val)) → Next_all h (on_values h f)
  on_values_all h f = with_is (f h.values) _ (λ vs _. just (more _))

  local_put_all : (h : Body) (i : ℕ) (v : Val) → Next_all h (local_put h i v)
  local_put_all h i v = with_found (slice_get h.locals i) _ (λ old _. with_is (typed _ v) _ (λ w _. just (more _)))

  global_put_all : (h : Body) (a : ℕ) (g : Global) (v : Val) → Next_all h (global_put h a g v)
  global_put_all h a g v = cond_all g.ty.mutable (with_is (typed g.ty.ty v) _ (λ w _. just (more _))) ill_typed

  writes_all : (h : Body) (a : ℕ) (m : Outcome Memory) (vs : List Val) → Next_all h (writes h a m vs)
  writes_all h a m vs = with_is m _ (λ n _. just (more _))

  with_memory_all : (h : Body) (i : ℕ) (f : ℕ → Memory → Outcome Act) → ((a : ℕ) (m : Memory) → Next_all h (f a m)) → Next_all h (with_memory env i f)
  with_memory_all h i f p = with_found (slice_get env.inst.mems i) _ (λ a _. with_found (slice_get env.store.mems a) _ (λ m _. p a m))

  with_table_all : (h : Body) (i : ℕ) (f : ℕ → Table → Outcome Act) → ((a : ℕ) (t : Table) → Next_all h (f a t)) → Next_all h (with_table env i f)
  with_table_all h i f p = with_found (slice_get env.inst.tables i) _ (λ a _. with_found (slice_get env.store.tables a) _ (λ t _. p a t))

  store_all : (h : Body) (o : StoreOp) (offset a : ℕ) (m : Memory) → Next_all h (store_into h o offset a m)
  store_all h o offset a m = with_is (pop_num (store_from o) h.values) _ (λ v _. with_is (pop_num W32 v.1) _ (λ p _. writes_all h a (written m (p.0 + offset) (stored o v.0)) p.1))

  grow_memory_all : (h : Body) (a : ℕ) (m : Memory) → Next_all h (grow_memory h a m)
  grow_memory_all h a m = with_is (pop_num W32 h.values) _ (λ n _. cond_all (memory_may_grow m n.0) (just tt) (just (more _)))

  init_memory_all : (h : Body) (bs : List ℕ) (a : ℕ) (m : Memory) → Next_all h (init_memory h bs a m)
  init_memory_all h bs a m = with_is (pop_three h.values) _ (λ p _. with_within (slice bs p.0.1 p.0.2) _ (λ b _. writes_all h a (written m p.0.0 b) p.1))

  fill_memory_all : (h : Body) (a : ℕ) (m : Memory) → Next_all h (fill_memory h a m)
  fill_memory_all h a m = with_is (pop_three h.values) _ (λ p _. writes_all h a (written m p.0.0 (copies p.0.2 _)) p.1)

  table_all : (h : Body) (a : ℕ) (t : Table) (place : ℕ) (rs : List RefVal) (vs : List Val) → Next_all h (writes_table h a t (overwrite t.slots place rs) vs)
  table_all h a t place rs vs = with_within (overwrite t.slots place rs) _ (λ ss _. just (more _))

  get_slot_all : (h : Body) (a : ℕ) (t : Table) → Next_all h (get_slot h a t)
  get_slot_all h a t = with_is (pop_num W32 h.values) _ (λ i _. with_within (slice_get t.slots i.0) _ (λ r _. just (more _)))

  set_slot_all : (h : Body) (a : ℕ) (t : Table) → Next_all h (set_slot h a t)
  set_slot_all h a t = with_is (pop_ref h.values) _ (λ r _. with_is (fits t r.0) _ (λ v _. with_is (pop_num W32 r.1) _ (λ i _. table_all h a t i.0 (v ∷ []) i.1)))

  grow_table_all : (h : Body) (a : ℕ) (t : Table) → Next_all h (grow_table h a t)
  grow_table_all h a t = with_is (pop_num W32 h.values) _ (λ n _. with_is (pop_ref n.1) _ (λ r _. with_is (fits t r.0) _ (λ v _. cond_all (table_may_grow t n.0) (just tt) (just (more _)))))

  fill_table_all : (h : Body) (a : ℕ) (t : Table) → Next_all h (fill_table h a t)
  fill_table_all h a t = with_is (pop_num W32 h.values) _ (λ k _. with_is (pop_ref k.1) _ (λ r _. with_is (fits t r.0) _ (λ v _. with_is (pop_num W32 r.1) _ (λ d _. table_all h a t d.0 (copies k.0 v) d.1))))

  init_table_all : (h : Body) (items : List RefVal) (a : ℕ) (t : Table) → Next_all h (init_table h items a t)
  init_table_all h items a t = with_is (pop_three h.values) _ (λ p _. with_within (slice items p.0.1 p.0.2) _ (λ b _. table_all h a t p.0.0 b p.1))

  call_slot_all : (h : Body) (ty : ℕ) (t : Table) → Next_all h (call_slot env h ty t)
  call_slot_all h ty t =
      with_is (pop_num W32 h.values) _ (λ i _. with_within (slice_get t.slots i.0) _ (λ r _. with_is (func_ref r) _ (λ a _. with_found (type_at env.store a) _ (λ f _. with_found (slice_get env.inst.types ty) _ (λ u _. cond_all _ (just (same _)) stopped)))))

  resume_all : (h : Body) (vs : List Val) (c : List Instr) (ls : List Level) (n : ℕ) → length ls ≤ n → AllOf (Opened n) (resume h vs c ls)
  resume_all h vs c [] n le = just tt
  resume_all h vs c (l ∷ ls) n le = just le

  end_level_all : (h : Body) → AllOf (Opened (length h.outer)) (end_level h)
  end_level_all h = with_found (split_at h.gives h.values) _ (λ p _. resume_all h p.0 [] h.outer _ (same _))

  branch_all : (h : Body) (n : ℕ) → Next_all h (branch h n)
  branch_all h n =
      let short = drop_short n h.outer in
      with_found (slice_get (level_here h ∷ h.outer) n) _ (λ t _. with_found (split_at t.takes h.values) _ (λ p _. resume_all h p.0 t.back (drop n h.outer) _ (omega (arith, short))))

  open_level_all : (h : Body) (vs : List Val) (params : List ValType) (gives takes : ℕ) (body back : List Instr) → Next_all h (open_level h vs params gives takes body back)
  open_level_all h vs params gives takes body back = with_is (pop_typed params vs) _ (λ p _. just (same _))

  open_block_all : (h : Body) (vs : List Val) (b : BlockType) (body : List Instr) → Next_all h (open_block env h vs b body)
  open_block_all h vs b body = with_found (shape_of env.inst b) _ (λ t _. open_level_all h vs t.params (length t.results) (length t.results) body [])

  exec_all : (i : Instr-F Instr) (h : Body) → Next_all h (exec i env h)
  exec_all Instr-F.Unreachable h = stopped
  exec_all Instr-F.Nop h = just (more _)
  exec_all (Instr-F.Block b c) h = open_block_all h h.values b c
  exec_all (Instr-F.Loop b c) h = with_found (shape_of env.inst b) _ (λ t _. open_level_all h h.values t.params (length t.results) (length t.params) c _)
  exec_all (Instr-F.If b c d) h = with_is (pop_num W32 h.values) _ (λ p _. open_block_all h p.1 b _)
  exec_all (Instr-F.Br n) h = branch_all h n
  exec_all (Instr-F.BrIf n) h = with_is (pop_num W32 h.values) _ (λ p _. cond_all (nat_eq p.0 0) (just (more _)) (branch_all (with_values h p.1) n))
  exec_all (Instr-F.BrTable ns last) h = with_is (pop_num W32 h.values) _ (λ p _. branch_all (with_values h p.1) _)
  exec_all Instr-F.Return h = just tt
  exec_all (Instr-F.Call n) h = with_found (slice_get env.inst.funcs n) _ (λ a _. just (same _))
  exec_all (Instr-F.CallIndirect t n) h = with_table_all h n _ (λ a u. call_slot_all h t u)
  exec_all Instr-F.Drop h = with_is (pop h.values) _ (λ p _. just (more _))
  exec_all Instr-F.Select h = on_values_all h select_any
  exec_all (Instr-F.SelectTyped ts) h = on_values_all h (select_typed ts)
  exec_all (Instr-F.LocalGet n) h = with_found (slice_get h.locals n) _ (λ v _. just (more _))
  exec_all (Instr-F.LocalSet n) h = with_is (pop h.values) _ (λ p _. local_put_all (with_values h p.1) n p.0)
  exec_all (Instr-F.LocalTee n) h = with_is (pop h.values) _ (λ p _. local_put_all h n p.0)
  exec_all (Instr-F.GlobalGet n) h = with_found (slice_get env.inst.globals n) _ (λ a _. with_found (slice_get env.store.globals a) _ (λ g _. just (more _)))
  exec_all (Instr-F.GlobalSet n) h = with_found (slice_get env.inst.globals n) _ (λ a _. with_found (slice_get env.store.globals a) _ (λ g _. with_is (pop h.values) _ (λ p _. global_put_all (with_values h p.1) a g p.0)))
  exec_all (Instr-F.TableGet n) h = with_table_all h n _ (λ a t. get_slot_all h a t)
  exec_all (Instr-F.TableSet n) h = with_table_all h n _ (λ a t. set_slot_all h a t)
  exec_all (Instr-F.Load o arg) h = with_memory_all h _ _ (λ a m. on_values_all h (load_from m o arg.offset))
  exec_all (Instr-F.Store o arg) h = with_memory_all h _ _ (λ a m. store_all h o arg.offset a m)
  exec_all (Instr-F.MemorySize n) h = with_memory_all h n _ (λ a m. just (more _))
  exec_all (Instr-F.MemoryGrow n) h = with_memory_all h n _ (λ a m. grow_memory_all h a m)
  exec_all (Instr-F.I32Const z) h = just (more _)
  exec_all (Instr-F.I64Const z) h = just (more _)
  exec_all (Instr-F.Un o) h = on_values_all h (unary o)
  exec_all (Instr-F.Bin o) h = on_values_all h (binary o)
  exec_all (Instr-F.RefNull t) h = just (more _)
  exec_all Instr-F.RefIsNull h = on_values_all h ref_is_null
  exec_all (Instr-F.RefFunc n) h = with_found (slice_get env.inst.funcs n) _ (λ a _. just (more _))
  exec_all (Instr-F.MemoryInit s n) h = with_found (slice_get env.inst.datas s) _ (λ d _. with_found (slice_get env.store.datas d) _ (λ d _. with_memory_all h n _ (λ a m. init_memory_all h d.bytes a m)))
  exec_all (Instr-F.DataDrop n) h = with_found (slice_get env.inst.datas n) _ (λ a _. just (more _))
  exec_all (Instr-F.MemoryCopy n m) h = with_memory_all h m _ (λ b source. with_memory_all h n _ (λ a m. init_memory_all h source.bytes a m))
  exec_all (Instr-F.MemoryFill n) h = with_memory_all h n _ (λ a m. fill_memory_all h a m)
  exec_all (Instr-F.TableInit s n) h = with_found (slice_get env.inst.elems s) _ (λ d _. with_found (slice_get env.store.elems d) _ (λ d _. with_table_all h n _ (λ a t. init_table_all h d.items a t)))
  exec_all (Instr-F.ElemDrop n) h = with_found (slice_get env.inst.elems n) _ (λ a _. just (more _))
  exec_all (Instr-F.TableCopy n m) h = with_table_all h m _ (λ b source. with_table_all h n _ (λ a t. init_table_all h source.slots a t))
  exec_all (Instr-F.TableGrow n) h = with_table_all h n _ (λ a t. grow_table_all h a t)
  exec_all (Instr-F.TableSize n) h = with_table_all h n _ (λ a t. just (more _))
  exec_all (Instr-F.TableFill n) h = with_table_all h n _ (λ a t. fill_table_all h a t)

-- ---- the frames and labels that a step leaves open ----

abbrev pub DepthAtMost : ℕ → Next → Type 0
DepthAtMost n (Ran t fs) = stack_depth fs ≤ n
DepthAtMost n _ = Unit {0}

levels_depth : (s : Store) (vs : List Val) (f : Frame) (ls : List Level) (es : List Entry) (n : ℕ) → length ls + stack_depth es ≤ n → AllOf (DepthAtMost n) (give_levels s vs f ls es)
levels_depth s vs f [] es n le = ill_typed
levels_depth s vs f (l ∷ ls) es n le = just le

give_depth : (s : Store) (vs : List Val) (es : List Entry) (n : ℕ) → stack_depth es ≤ n → AllOf (DepthAtMost n) (give s vs es)
give_depth s vs [] n le = ill_typed
give_depth s vs (Running f ∷ es) n le = levels_depth s vs f f.levels es n le
give_depth s vs (Mark ∷ es) n le = just tt
give_depth s vs (Opening xs ∷ es) n le = just le
give_depth s vs (Waiting ts ∷ es) n le = ill_typed
give_depth s vs (Ended ws ∷ es) n le = ill_typed
give_depth s vs (Growing g ∷ es) n le = ill_typed

enter_depth : (s : Store) (f : Func) (args : List Val) (es : List Entry) (n : ℕ) → suc (stack_depth es) ≤ n → DepthAtMost n (enter s f args es)
enter_depth s (Code t i ls c) args es n le = omega (arith, le)
enter_depth s (Own p t) args es n le = tt
enter_depth s (Placeholder k t) args es n le = tt

perform_depth : (s : Store) (f : Frame) (es : List Entry) (n k : ℕ) (x : Act) → Opened n x → n + stack_depth es ≤ k → AllOf (DepthAtMost k) (perform s f es x)
perform_depth s f es n k (Goes c h) o le = just (omega (arith, o, le))
perform_depth s f es n k (Calls a vs h) o le =
    with_found (type_at s a) _ (λ t _. with_is (pop_typed t.params vs) _ (λ p _. with_found (slice_get s.funcs a) _ (λ g _. just (enter_depth s g p.0 _ k (omega (arith, o, le))))))
perform_depth s f es n k (AsksGrow g size count h) o le = just tt
perform_depth s f es n k (Ends vs) o le = with_is (pop_typed f.results vs) _ (λ p _. give_depth s p.0 es k (omega (arith, le)))

-- The body of a frame at its innermost level. The end of a level closes one label, and an
-- instruction opens at most one.
abbrev innermost : Frame → Level → List Level → Body
innermost f l ls = record { locals = f.locals; values = l.values; rest = []; gives = l.gives; takes = l.takes; back = l.back; outer = ls }

act_end : (s : Store) (f : Frame) (l : Level) (ls : List Level) → f.levels ≡ l ∷ ls → l.code ≡ [] → AllOf (Opened (length ls)) (act s f)
act_end s f l ls e c = rw (e, c) (end_level_all (record { store = s; inst = f.inst }) (innermost f l ls))

act_instr : (s : Store) (f : Frame) (l : Level) (ls : List Level) (o : Instr) (rest : List Instr) → f.levels ≡ l ∷ ls → l.code ≡ o ∷ rest → AllOf (Opened (suc (suc (length ls)))) (act s f)
act_instr s f l ls o rest e c = rw (e, c) (exec_all (record { store = s; inst = f.inst }) (out-Instr o) _)

pub end_depth : (s : Store) (f : Frame) (es : List Entry) (l : Level) (ls : List Level) → f.levels ≡ l ∷ ls → l.code ≡ [] → AllOf (DepthAtMost (length ls + stack_depth es)) (step s (Running f ∷ es))
end_depth s f es l ls e c = with_is (act s f) _ (λ x is. perform_depth s f es (length ls) _ x (all_at (act_end s f l ls e c) is) (same _))

pub instr_depth : (s : Store) (f : Frame) (es : List Entry) (l : Level) (ls : List Level) (o : Instr) (rest : List Instr) → f.levels ≡ l ∷ ls → l.code ≡ o ∷ rest →
    AllOf (DepthAtMost (suc (suc (length ls)) + stack_depth es)) (step s (Running f ∷ es))
instr_depth s f es l ls o rest e c = with_is (act s f) _ (λ x is. perform_depth s f es (suc (suc (length ls))) _ x (all_at (act_instr s f l ls o rest e c) is) (same _))
