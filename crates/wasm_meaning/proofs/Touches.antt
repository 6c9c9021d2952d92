-- The step of a frame writes exactly the places that are computed from the top of the stack before
-- it.
use Rattle.base_lists.proofs.Common.{◌≡◌, ◌∙◌, ℕ, ◌+◌, length, List, [], ◌∷◌, None, refl, sym, ap, drop, slice_get, Some, Option, Bool, true, false, cond, nat_eq, copies_length}
use Rattle.wasm_tree_spec.specs.Prelude.{Instr, out-Instr, StoreOp, ValType, BlockType, store_width}
use Rattle.wasm_tree.specs.declared.instr.Instr.TheOpen.{Instr-F}
use Rattle.wasm_tree.specs.declared.instr.StoreOp.TheVariants as op
use Rattle.wasm_num.specs.Operations.{W32}
use Rattle.wasm_meaning.specs.Prelude.{Outcome, Gives, IllTyped, bind, split_at, slice, overwrite, copies, or_trap, with_entry, Val, Num, Ref, FuncRef, RefVal, Table, Memory, Global, Level, Env, Body, Keep, SetGlobal, Act, Goes, typed, pop, pop_num, pop_ref, pop_typed, pushes, on_values}
use Rattle.wasm_meaning.specs.Prelude.{with_values, local_put, global_put, unary, binary, ref_is_null, select_any, select_typed, written, writes, store_into, load_from, grow_memory, memory_may_grow, init_memory, fill_memory, pop_three, with_memory, fits, writes_table, get_slot, set_slot, grow_table}
use Rattle.wasm_meaning.specs.Prelude.{table_may_grow, fill_table, init_table, with_table, call_slot, func_ref, type_at, resume, end_level, branch, level_here, open_level, shape_of, open_block, exec, step_code, step_levels, Touched, Nothing, Bytes, Slots, OneGlobal, touched_by, touched_next}
use Rattle.wasm_meaning.specs.Prelude.{touched_levels, a_global, ActWrites, StepsWriteWhatTheyTouch}
use Rattle.wasm_meaning.specs.Access.{store_from, stored, little_bytes}
use Rattle.wasm_meaning.specs.Touched.{OneElem, OneData, store_touches, range_touches, slot_touches, fill_touches, nothing, bytes, slots, an_elem, a_data, WritesTold}
use Rattle.wasm_meaning.proofs.Outcomes.{AllOf, ill_typed, stopped, just, cond_all, with_is, with_found, with_within, then_given, then_found, all_at}
use Rattle.base_lists.proofs.Parts.{slice_length}

stored_length : (o : StoreOp) (n : ℕ) → length (stored o n) ≡ store_width o
unfolding stored little_bytes
stored_length op.I32Store n = refl
stored_length op.I64Store n = refl
stored_length op.I32Store8 n = refl
stored_length op.I32Store16 n = refl
stored_length op.I64Store8 n = refl
stored_length op.I64Store16 n = refl
stored_length op.I64Store32 n = refl

module _ (env : Env) where
  -- Each action that an outcome gives writes exactly what `o` says.
  module _ (o : Outcome Touched) where
    abbrev All : Outcome Act → Type 0
    All = AllOf (ActWrites env.store o)

    written_all : (h : Body) (a : ℕ) (m : Memory) (place : ℕ) (bs : List ℕ) (vs : List Val) → slice_get env.store.mems a ≡ Some m → o ≡ Gives (Bytes a place (length bs)) → All (writes h a (written m place bs) vs)
    written_all h a m place bs vs e t = go (overwrite m.bytes place bs) refl
      where
        go : (x : Option (List ℕ)) → overwrite m.bytes place bs ≡ x → All (writes h a (bind (or_trap x) (λ b. Gives (record m { bytes = b }))) vs)
        go None i = stopped
        go (Some b) i = just (record { told = Bytes a place (length bs); is = t; writes = bytes bs e i refl refl })

    table_all : (h : Body) (a : ℕ) (t : Table) (place : ℕ) (rs : List RefVal) (vs : List Val) → slice_get env.store.tables a ≡ Some t → o ≡ Gives (Slots a place (length rs)) → All (writes_table h a t (overwrite t.slots place rs) vs)
    table_all h a t place rs vs e told = with_within (overwrite t.slots place rs) _ (λ ss is. just (record { told = Slots a place (length rs); is = told; writes = slots rs e is refl refl }))

  abbrev Quiet : Outcome Act → Type 0
  Quiet = All (Gives Nothing)

  keeps : WritesTold env.store (Gives Nothing) Keep
  keeps = record { told = Nothing; is = refl; writes = nothing }

  pushes_all : (h : Body) (v : Val) → Quiet (pushes h v)
  pushes_all h v = just keeps

  on_values_all : (h : Body) (f : List Val → Outcome (List Val)) → Quiet (on_values h f)
  on_values_all h f = with_is (f h.values) _ (λ vs _. just keeps)

  local_put_all : (h : Body) (i : ℕ) (v : Val) → Quiet (local_put h i v)
  local_put_all h i v = with_found (slice_get h.locals i) _ (λ old _. with_is (typed _ v) _ (λ w _. just keeps))

  global_put_all : (o : Outcome Touched) (h : Body) (a : ℕ) (g : Global) (v : Val) → slice_get env.store.globals a ≡ Some g → o ≡ Gives (OneGlobal a) → All o (global_put h a g v)
  global_put_all o h a g v e t = go g.ty.mutable refl
    where
      go : (b : Bool) → g.ty.mutable ≡ b → All o (cond b (bind (typed g.ty.ty v) (λ w. Gives (Goes (SetGlobal a (record g { value = w })) h))) IllTyped)
      go false m = ill_typed
      go true m = with_is (typed g.ty.ty v) _ (λ w _. just (record { told = OneGlobal a; is = t; writes = a_global e m refl }))

  with_memory_all : (o : Outcome Touched) (i : ℕ) (f : ℕ → Memory → Outcome Act) → ((a : ℕ) (m : Memory) → slice_get env.inst.mems i ≡ Some a → slice_get env.store.mems a ≡ Some m → All o (f a m)) → All o (with_memory env i f)
  with_memory_all o i f h = with_found (slice_get env.inst.mems i) _ (λ a j. with_found (slice_get env.store.mems a) _ (λ m e. h a m j e))

  with_table_all : (o : Outcome Touched) (i : ℕ) (f : ℕ → Table → Outcome Act) → ((a : ℕ) (t : Table) → slice_get env.inst.tables i ≡ Some a → slice_get env.store.tables a ≡ Some t → All o (f a t)) → All o (with_table env i f)
  with_table_all o i f h = with_found (slice_get env.inst.tables i) _ (λ a j. with_found (slice_get env.store.tables a) _ (λ t e. h a t j e))

  store_all : (h : Body) (so : StoreOp) (offset n a : ℕ) (m : Memory) → slice_get env.inst.mems n ≡ Some a → slice_get env.store.mems a ≡ Some m → All (with_entry env.inst.mems n (λ a. store_touches a offset so h.values)) (store_into h so offset a m)
  store_all h so offset n a m j e =
      with_is (pop_num (store_from so) h.values) _ (λ v is_v. with_is (pop_num W32 v.1) _ (λ p is_p.
      written_all _ h a m (p.0 + offset) (stored so v.0) p.1 e (then_found _ j ∙ then_given _ is_v ∙ then_given _ is_p ∙ ap (λ k. Gives (Bytes a (p.0 + offset) k)) (sym (stored_length so v.0)))))

  grow_memory_all : (h : Body) (a : ℕ) (m : Memory) → Quiet (grow_memory h a m)
  grow_memory_all h a m = with_is (pop_num W32 h.values) _ (λ n _. cond_all (memory_may_grow m n.0) (just refl) (just keeps))

  init_memory_all : (h : Body) (bs : List ℕ) (n a : ℕ) (m : Memory) → slice_get env.inst.mems n ≡ Some a → slice_get env.store.mems a ≡ Some m → All (with_entry env.inst.mems n (λ a. range_touches (Bytes a) h.values)) (init_memory h bs a m)
  init_memory_all h bs n a m j e =
      with_is (pop_three h.values) _ (λ p is_p. with_within (slice bs p.0.1 p.0.2) _ (λ b is_b.
      written_all _ h a m p.0.0 b p.1 e (then_found _ j ∙ then_given _ is_p ∙ ap (λ k. Gives (Bytes a p.0.0 k)) (sym (slice_length bs p.0.1 p.0.2 b is_b)))))

  fill_memory_all : (h : Body) (n a : ℕ) (m : Memory) → slice_get env.inst.mems n ≡ Some a → slice_get env.store.mems a ≡ Some m → All (with_entry env.inst.mems n (λ a. range_touches (Bytes a) h.values)) (fill_memory h a m)
  fill_memory_all h n a m j e =
      with_is (pop_three h.values) _ (λ p is_p. written_all _ h a m p.0.0 _ p.1 e (then_found _ j ∙ then_given _ is_p ∙ ap (λ k. Gives (Bytes a p.0.0 k)) (sym (copies_length p.0.2 _))))

  get_slot_all : (h : Body) (a : ℕ) (t : Table) → Quiet (get_slot h a t)
  get_slot_all h a t = with_is (pop_num W32 h.values) _ (λ i _. with_within (slice_get t.slots i.0) _ (λ r _. just keeps))

  set_slot_all : (h : Body) (n a : ℕ) (t : Table) → slice_get env.inst.tables n ≡ Some a → slice_get env.store.tables a ≡ Some t → All (with_entry env.inst.tables n (λ a. slot_touches a h.values)) (set_slot h a t)
  set_slot_all h n a t j e =
      with_is (pop_ref h.values) _ (λ r is_r. with_is (fits t r.0) _ (λ v _. with_is (pop_num W32 r.1) _ (λ i is_i. table_all _ h a t i.0 (v ∷ []) i.1 e (then_found _ j ∙ then_given _ is_r ∙ then_given _ is_i))))

  grow_table_all : (h : Body) (a : ℕ) (t : Table) → Quiet (grow_table h a t)
  grow_table_all h a t = with_is (pop_num W32 h.values) _ (λ n _. with_is (pop_ref n.1) _ (λ r _. with_is (fits t r.0) _ (λ v _. cond_all (table_may_grow t n.0) (just refl) (just keeps))))

  fill_table_all : (h : Body) (n a : ℕ) (t : Table) → slice_get env.inst.tables n ≡ Some a → slice_get env.store.tables a ≡ Some t → All (with_entry env.inst.tables n (λ a. fill_touches a h.values)) (fill_table h a t)
  fill_table_all h n a t j e =
      with_is (pop_num W32 h.values) _ (λ k is_k. with_is (pop_ref k.1) _ (λ r is_r. with_is (fits t r.0) _ (λ v _. with_is (pop_num W32 r.1) _ (λ d is_d.
      table_all _ h a t d.0 (copies k.0 v) d.1 e (then_found _ j ∙ then_given _ is_k ∙ then_given _ is_r ∙ then_given _ is_d ∙ ap (λ x. Gives (Slots a d.0 x)) (sym (copies_length k.0 v)))))))

  init_table_all : (h : Body) (items : List RefVal) (n a : ℕ) (t : Table) → slice_get env.inst.tables n ≡ Some a → slice_get env.store.tables a ≡ Some t → All (with_entry env.inst.tables n (λ a. range_touches (Slots a) h.values)) (init_table h items a t)
  init_table_all h items n a t j e =
      with_is (pop_three h.values) _ (λ p is_p. with_within (slice items p.0.1 p.0.2) _ (λ b is_b.
      table_all _ h a t p.0.0 b p.1 e (then_found _ j ∙ then_given _ is_p ∙ ap (λ k. Gives (Slots a p.0.0 k)) (sym (slice_length items p.0.1 p.0.2 b is_b)))))

  call_slot_all : (h : Body) (ty : ℕ) (t : Table) → Quiet (call_slot env h ty t)
  call_slot_all h ty t = with_is (pop_num W32 h.values) _ (λ i _. with_within (slice_get t.slots i.0) _ (λ r _. with_is (func_ref r) _ (λ a _. with_found (type_at env.store a) _ (λ f _. with_found (slice_get env.inst.types ty) _ (λ u _. cond_all _ (just refl) stopped)))))

  -- ---- control ----

  resume_all : (h : Body) (vs : List Val) (c : List Instr) (ls : List Level) → Quiet (resume h vs c ls)
  resume_all h vs c [] = just refl
  resume_all h vs c (l ∷ ls) = just keeps

  end_level_all : (h : Body) → Quiet (end_level h)
  end_level_all h = with_found (split_at h.gives h.values) _ (λ p _. resume_all h p.0 [] h.outer)

  branch_all : (h : Body) (n : ℕ) → Quiet (branch h n)
  branch_all h n = with_found (slice_get (level_here h ∷ h.outer) n) _ (λ t _. with_found (split_at t.takes h.values) _ (λ p _. resume_all h p.0 t.back (drop n h.outer)))

  open_level_all : (h : Body) (vs : List Val) (params : List ValType) (gives takes : ℕ) (body back : List Instr) → Quiet (open_level h vs params gives takes body back)
  open_level_all h vs params gives takes body back = with_is (pop_typed params vs) _ (λ p _. just keeps)

  open_block_all : (h : Body) (vs : List Val) (b : BlockType) (body : List Instr) → Quiet (open_block env h vs b body)
  open_block_all h vs b body = with_found (shape_of env.inst b) _ (λ t _. open_level_all h vs t.params (length t.results) (length t.results) body [])

  -- ---- every instruction ----

  exec_all : (i : Instr-F Instr) (h : Body) → All (touched_by i env h.values) (exec i env h)
  exec_all Instr-F.Unreachable h = stopped
  exec_all Instr-F.Nop h = just keeps
  exec_all (Instr-F.Block b c) h = open_block_all h h.values b c
  exec_all (Instr-F.Loop b c) h = with_found (shape_of env.inst b) _ (λ t _. open_level_all h h.values t.params (length t.results) (length t.params) c _)
  exec_all (Instr-F.If b c d) h = with_is (pop_num W32 h.values) _ (λ p _. open_block_all h p.1 b _)
  exec_all (Instr-F.Br n) h = branch_all h n
  exec_all (Instr-F.BrIf n) h = with_is (pop_num W32 h.values) _ (λ p _. cond_all (nat_eq p.0 0) (just keeps) (branch_all (with_values h p.1) n))
  exec_all (Instr-F.BrTable ns last) h = with_is (pop_num W32 h.values) _ (λ p _. branch_all (with_values h p.1) _)
  exec_all Instr-F.Return h = just refl
  exec_all (Instr-F.Call n) h = with_found (slice_get env.inst.funcs n) _ (λ a _. just refl)
  exec_all (Instr-F.CallIndirect t n) h = with_table_all _ n _ (λ a u _ _. call_slot_all h t u)
  exec_all Instr-F.Drop h = with_is (pop h.values) _ (λ p _. just keeps)
  exec_all Instr-F.Select h = on_values_all h select_any
  exec_all (Instr-F.SelectTyped ts) h = on_values_all h (select_typed ts)
  exec_all (Instr-F.LocalGet n) h = with_found (slice_get h.locals n) _ (λ v _. just keeps)
  exec_all (Instr-F.LocalSet n) h = with_is (pop h.values) _ (λ p _. local_put_all (with_values h p.1) n p.0)
  exec_all (Instr-F.LocalTee n) h = with_is (pop h.values) _ (λ p _. local_put_all h n p.0)
  exec_all (Instr-F.GlobalGet n) h = with_found (slice_get env.inst.globals n) _ (λ a _. with_found (slice_get env.store.globals a) _ (λ g _. just keeps))
  exec_all (Instr-F.GlobalSet n) h = with_found (slice_get env.inst.globals n) _ (λ a j. with_found (slice_get env.store.globals a) _ (λ g e. with_is (pop h.values) _ (λ p _. global_put_all _ (with_values h p.1) a g p.0 e (then_found _ j))))
  exec_all (Instr-F.TableGet n) h = with_table_all _ n _ (λ a t _ _. get_slot_all h a t)
  exec_all (Instr-F.TableSet n) h = with_table_all _ n _ (λ a t j e. set_slot_all h n a t j e)
  exec_all (Instr-F.Load o arg) h = with_memory_all _ _ _ (λ a m _ _. on_values_all h (load_from m o arg.offset))
  exec_all (Instr-F.Store o arg) h = with_memory_all _ _ _ (λ a m j e. store_all h o arg.offset arg.memory a m j e)
  exec_all (Instr-F.MemorySize n) h = with_memory_all _ n _ (λ a m _ _. just keeps)
  exec_all (Instr-F.MemoryGrow n) h = with_memory_all _ n _ (λ a m _ _. grow_memory_all h a m)
  exec_all (Instr-F.I32Const z) h = just keeps
  exec_all (Instr-F.I64Const z) h = just keeps
  exec_all (Instr-F.Un o) h = on_values_all h (unary o)
  exec_all (Instr-F.Bin o) h = on_values_all h (binary o)
  exec_all (Instr-F.RefNull t) h = just keeps
  exec_all Instr-F.RefIsNull h = on_values_all h ref_is_null
  exec_all (Instr-F.RefFunc n) h = with_found (slice_get env.inst.funcs n) _ (λ a _. just keeps)
  exec_all (Instr-F.MemoryInit s n) h = with_found (slice_get env.inst.datas s) _ (λ d _. with_found (slice_get env.store.datas d) _ (λ d _. with_memory_all _ n _ (λ a m j e. init_memory_all h d.bytes n a m j e)))
  exec_all (Instr-F.DataDrop n) h = with_found (slice_get env.inst.datas n) _ (λ a j. just (record { told = OneData a; is = then_found _ j; writes = a_data }))
  exec_all (Instr-F.MemoryCopy n m) h = with_memory_all _ m _ (λ b source _ _. with_memory_all _ n _ (λ a m j e. init_memory_all h source.bytes n a m j e))
  exec_all (Instr-F.MemoryFill n) h = with_memory_all _ n _ (λ a m j e. fill_memory_all h n a m j e)
  exec_all (Instr-F.TableInit s n) h = with_found (slice_get env.inst.elems s) _ (λ d _. with_found (slice_get env.store.elems d) _ (λ d _. with_table_all _ n _ (λ a t j e. init_table_all h d.items n a t j e)))
  exec_all (Instr-F.ElemDrop n) h = with_found (slice_get env.inst.elems n) _ (λ a j. just (record { told = OneElem a; is = then_found _ j; writes = an_elem }))
  exec_all (Instr-F.TableCopy n m) h = with_table_all _ m _ (λ b source _ _. with_table_all _ n _ (λ a t j e. init_table_all h source.slots n a t j e))
  exec_all (Instr-F.TableGrow n) h = with_table_all _ n _ (λ a t _ _. grow_table_all h a t)
  exec_all (Instr-F.TableSize n) h = with_table_all _ n _ (λ a t _ _. just keeps)
  exec_all (Instr-F.TableFill n) h = with_table_all _ n _ (λ a t j e. fill_table_all h n a t j e)

  code_all : (h : Body) (c : List Instr) → All (touched_next env h.values c) (step_code env h c)
  code_all h [] = end_level_all h
  code_all h (i ∷ is) = exec_all (out-Instr i) (record h { rest = is })

  levels_all : (locals : List Val) (ls : List Level) → All (touched_levels env ls) (step_levels env locals ls)
  levels_all locals [] = ill_typed
  levels_all locals (l ∷ ls) = code_all (record { locals = locals; values = l.values; rest = []; gives = l.gives; takes = l.takes; back = l.back; outer = ls }) l.code

pub steps_write : StepsWriteWhatTheyTouch
steps_write s f x e = all_at (levels_all (record { store = s; inst = f.inst }) f.locals f.levels) e

-- ---- what is told of a few instructions ----

abbrev one_of_each : Env
one_of_each = record {
  store = record { funcs = []; tables = []; mems = []; globals = []; elems = []; datas = [] };
  inst = record { types = []; funcs = []; tables = 5 ∷ []; mems = 6 ∷ []; globals = 7 ∷ []; elems = 8 ∷ []; datas = 9 ∷ [] };
}

abbrev number : ℕ → Val
number n = Num W32 n

a_store_of_two_bytes : touched_by (Instr-F.Store op.I32Store16 (record { align = 0; memory = 0; offset = 4 })) one_of_each (number 258 ∷ (number 3 ∷ [])) ≡ Gives (Bytes 6 7 2)
unfolding store_from
a_store_of_two_bytes = refl

a_fill_of_ten_bytes : touched_by (Instr-F.MemoryFill 0) one_of_each (number 10 ∷ (number 1 ∷ (number 3 ∷ []))) ≡ Gives (Bytes 6 3 10)
a_fill_of_ten_bytes = refl

a_copy_of_ten_slots : touched_by (Instr-F.TableCopy 0 0) one_of_each (number 10 ∷ (number 1 ∷ (number 3 ∷ []))) ≡ Gives (Slots 5 3 10)
a_copy_of_ten_slots = refl

a_slot_is_set : touched_by (Instr-F.TableSet 0) one_of_each (Ref (FuncRef None) ∷ (number 3 ∷ [])) ≡ Gives (Slots 5 3 1)
a_slot_is_set = refl

a_global_is_set : touched_by (Instr-F.GlobalSet 0) one_of_each (number 3 ∷ []) ≡ Gives (OneGlobal 7)
a_global_is_set = refl

the_size_of_a_memory_writes_nothing : touched_by (Instr-F.MemorySize 0) one_of_each [] ≡ Gives Nothing
the_size_of_a_memory_writes_nothing = refl
