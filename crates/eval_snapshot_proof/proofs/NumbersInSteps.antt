-- A step keeps the numbers of the store and of the configuration in the ranges of their types, and
-- their references null or functions.
use Rattle.base_lists.proofs.Common.{◌≡◌, ℕ, ◌+◌, ◌%◌, ◌^◌, ◌<◌, ◌≤◌, arith, List, [], ◌∷◌, length, drop, slice_get, unwrap_or, nat_eq, mod-lt, every_at}
use Rattle.base_lists.specs.Every.{Every}
use Rattle.wasm_tree_spec.specs.Prelude.{ValType, BlockType, Instr, out-Instr, LoadOp, StoreOp, same_func_type, same_ref}
use Rattle.wasm_tree.specs.declared.instr.Instr.TheOpen.{Instr-F}
use Rattle.wasm_tree.specs.declared.instr.Instr.TheVariants as i
use Rattle.wasm_num.specs.Operations.{W32}
use Rattle.wasm_meaning.specs.Prelude.{Outcome, copies, overwrite, slice, split_at, load_width, store_from, stored, RefVal, Val, Func, Code, Own, Placeholder, Table, Memory, Global, Elem, Data, Store, Level, Frame, Entry, Running, Mark, Opening, Waiting, Ended, Growing, Env, Body, Change, Keep}
use Rattle.wasm_meaning.specs.Prelude.{SetGlobal, SetMemory, SetTable, DropElem, DropData, Act, Goes, Calls, AsksGrow, Ends, Next, Ran, EndsCall, typed, type_of, zeros, pop, pop_num, pop_ref, pop_typed, type_of_ref, unary, binary, ref_is_null, select_any, select_typed, with_values, on_values}
use Rattle.wasm_meaning.specs.Prelude.{local_put, global_set, written, load_from, with_memory, writes, store_into, memory_may_grow, grow_memory, pop_three, init_memory, fill_memory, with_table, fits, writes_table, get_slot, set_slot, table_may_grow, grow_table, fill_table, init_table, type_at}
use Rattle.wasm_meaning.specs.Prelude.{func_ref, call_slot, resume, end_level, level_here, branch, shape_of, open_level, open_block, act, changed, enter, exec, frame_of, give, give_levels, no_bytes, no_items, perform, step, step_code, step_levels}
use Rattle.wasm_meaning.specs.Values.{local_get, global_get}
use Rattle.wasm_meaning.specs.Memory.{memory_init}
use Rattle.wasm_meaning.specs.Tables.{table_init}
use Rattle.wasm_meaning.specs.Control.{branch_if, branch_table}
use Rattle.wasm_meaning.proofs.Outcomes.{AllOf, ill_typed, stopped, just, cond_all, with_found, with_is, with_within}
use Rattle.eval_snapshot_proof.specs.Ranges.{IsByte, IsNullOrFunction, IsExpressible}
use Rattle.eval_snapshot_proof.proofs.ElementsOfLists.{each_of_both, each_dropped, each_set, each_copy, each_onto, SplitIn, each_split, each_slice, each_overwritten}
use Rattle.eval_snapshot_proof.proofs.IntegerOperations.{wrapped_in}
use Rattle.eval_snapshot_proof.proofs.ValuesOnStacks.{Vals, then_all, found_all, within_all, pop_in, pop_num_in, pop_ref_in, pop_typed_in, pop_three_in, typed_in, null_own, zeros_in, unary_gives, binary_gives, is_null_gives, select_any_gives, select_typed_gives, loaded_in, stored_in}

-- ---- the store and the configuration ----

-- A memory whose bytes are below 256, with fewer than 2 ^ 32 pages and at most 2 ^ 32 bytes.
abbrev pub MemoryIn : Memory → Type 0
MemoryIn x = Every IsByte x.bytes × (x.pages < 2 ^ 32) × (length x.bytes ≤ 2 ^ 32)

abbrev pub TableIn : Table → Type 0
TableIn t = Every IsNullOrFunction t.slots × (length t.slots < 2 ^ 32)

abbrev pub GlobalIn : Global → Type 0
GlobalIn g = IsExpressible g.value

abbrev pub ElemIn : Elem → Type 0
ElemIn e = Every IsNullOrFunction e.items

abbrev pub DataIn : Data → Type 0
DataIn d = Every IsByte d.bytes

pub record StoreIn (s : Store) : Type 0 where
  pub tables : Every TableIn s.tables
  pub mems : Every MemoryIn s.mems
  pub globals : Every GlobalIn s.globals
  pub elems : Every ElemIn s.elems
  pub datas : Every DataIn s.datas

abbrev pub LevelIn : Level → Type 0
LevelIn l = Vals l.values

abbrev pub FrameIn : Frame → Type 0
FrameIn f = Vals f.locals × Every LevelIn f.levels

abbrev pub EntryIn : Entry → Type 0
EntryIn (Running f) = FrameIn f
EntryIn (Ended vs) = Vals vs
EntryIn _ = Unit {0}

abbrev pub BodyIn : Body → Type 0
BodyIn h = Vals h.locals × Vals h.values × Every LevelIn h.outer

abbrev ChangeIn : Change → Type 0
ChangeIn (SetGlobal a g) = GlobalIn g
ChangeIn (SetMemory a x) = MemoryIn x
ChangeIn (SetTable a t) = TableIn t
ChangeIn _ = Unit {0}

abbrev ActIn : Act → Type 0
ActIn (Goes c h) = ChangeIn c × BodyIn h
ActIn (Calls a vs h) = Vals vs × BodyIn h
ActIn (AsksGrow g size count h) = BodyIn h
ActIn (Ends vs) = Vals vs

-- ---- instructions ----

module _ (env : Env) (ok : StoreIn env.store) where
  module _ (h : Body) (good : BodyIn h) where
    goes_with : (vs : List Val) → Vals vs → ActIn (Goes Keep (with_values h vs))
    goes_with vs k = (tt, (good.0, k, good.2))

    on_values_in : (f : List Val → Outcome (List Val)) → AllOf Vals (f h.values) → AllOf ActIn (on_values h f)
    on_values_in f k = then_all (f h.values) _ k (λ vs v. just (goes_with vs v))

    local_get_in : (n : ℕ) → AllOf ActIn (local_get h n)
    local_get_in n = with_found (slice_get h.locals n) _ (λ v e. just (tt, (good.0, (every_at IsExpressible h.locals n v good.0 e, good.1), good.2)))

    local_put_in : (vs : List Val) → Vals vs → (n : ℕ) (v : Val) → IsExpressible v → AllOf ActIn (local_put (with_values h vs) n v)
    local_put_in vs k n v i =
        with_found (slice_get h.locals n) _ (λ old e. then_all (typed (type_of old) v) _ (typed_in (type_of old) v i) (λ w j. just (tt, (each_set IsExpressible h.locals n w good.0 j, k, good.2))))

    global_get_in : (n : ℕ) → AllOf ActIn (global_get env h n)
    global_get_in n =
        with_found (slice_get env.inst.globals n) _ (λ a _. with_found (slice_get env.store.globals a) _ (λ g e.
        just (tt, (good.0, (every_at GlobalIn env.store.globals a g ok.globals e, good.1), good.2))))

    global_set_in : (n : ℕ) → AllOf ActIn (global_set env h n)
    global_set_in n =
        with_found (slice_get env.inst.globals n) _ (λ a _.
        with_found (slice_get env.store.globals a) _ (λ g _.
        then_all (pop h.values) _ (pop_in h.values good.1) (λ p k. cond_all g.ty.mutable (then_all (typed g.ty.ty p.0) _ (typed_in g.ty.ty p.0 k.0) (λ w i.
        just (i, (good.0, k.1, good.2)))) ill_typed)))

    -- ---- memories ----

    load_from_in : (x : Memory) (o : LoadOp) (offset : ℕ) → MemoryIn x → AllOf Vals (load_from x o offset h.values)
    load_from_in x o offset m =
        then_all (pop_num W32 h.values) _ (pop_num_in W32 h.values good.1) (λ a k.
        within_all (λ ys. Every IsByte ys × (length ys ≡ load_width o)) (slice x.bytes (a.0 + offset) (load_width o)) _ (each_slice IsByte x.bytes (a.0 + offset) (load_width o) m.0) (λ bytes b.
        just (loaded_in o bytes b.0 b.1, k.1)))

    writes_in : (a : ℕ) (x : Memory) (place : ℕ) (bytes : List ℕ) (vs : List Val) → MemoryIn x → Every IsByte bytes → Vals vs → AllOf ActIn (writes h a (written x place bytes) vs)
    writes_in a x place bytes vs m b k =
        then_all {P = MemoryIn} (written x place bytes) _
        (within_all (λ zs. Every IsByte zs × (length zs ≡ length x.bytes)) (overwrite x.bytes place bytes) _ (each_overwritten IsByte x.bytes place bytes m.0 b) (λ zs z.
        let same = z.1 in let most = m.2 in just (z.0, m.1, omega (arith, same, most))))
        (λ y i. just (i, (good.0, k, good.2)))

    store_into_in : (o : StoreOp) (offset a : ℕ) (x : Memory) → MemoryIn x → AllOf ActIn (store_into h o offset a x)
    store_into_in o offset a x m =
        then_all (pop_num (store_from o) h.values) _ (pop_num_in (store_from o) h.values good.1) (λ v k.
        then_all (pop_num W32 v.1) _ (pop_num_in W32 v.1 k.1) (λ p l. writes_in a x (p.0 + offset) (stored o v.0) p.1 m (stored_in o v.0) l.1))

    with_memory_in : (n : ℕ) (f : ℕ → Memory → Outcome Act) → ((a : ℕ) (x : Memory) → MemoryIn x → AllOf ActIn (f a x)) → AllOf ActIn (with_memory env n f)
    with_memory_in n f k = with_found (slice_get env.inst.mems n) _ (λ a _. with_found (slice_get env.store.mems a) _ (λ x e. k a x (every_at MemoryIn env.store.mems a x ok.mems e)))

    pages_in : (a : ℕ) (x : Memory) → MemoryIn x → AllOf ActIn (grow_memory h a x)
    pages_in a x m =
        then_all (pop_num W32 h.values) _ (pop_num_in W32 h.values good.1) (λ n k. cond_all (memory_may_grow x n.0) (just (good.0, k.1, good.2)) (just (tt, (good.0, (omega arith, k.1), good.2))))

    init_in : (bytes : List ℕ) → Every IsByte bytes → (a : ℕ) (x : Memory) → MemoryIn x → AllOf ActIn (init_memory h bytes a x)
    init_in bytes b a x m =
        then_all (pop_three h.values) _ (pop_three_in h.values good.1) (λ p k.
        within_all (λ ys. Every IsByte ys × (length ys ≡ p.0.2)) (slice bytes p.0.1 p.0.2) _ (each_slice IsByte bytes p.0.1 p.0.2 b) (λ ys y. writes_in a x p.0.0 ys p.1 m y.0 k))

    memory_init_in : (segment n : ℕ) → AllOf ActIn (memory_init env h segment n)
    memory_init_in segment n =
        with_found (slice_get env.inst.datas segment) _ (λ d _. with_found (slice_get env.store.datas d) _ (λ x e.
        with_memory_in n (init_memory h x.bytes) (init_in x.bytes (every_at DataIn env.store.datas d x ok.datas e))))

    fill_in : (a : ℕ) (x : Memory) → MemoryIn x → AllOf ActIn (fill_memory h a x)
    fill_in a x m =
        then_all (pop_three h.values) _ (pop_three_in h.values good.1) (λ p k.
        writes_in a x p.0.0 (copies p.0.2 (p.0.1 % 256)) p.1 m (each_copy IsByte p.0.2 (p.0.1 % 256) (mod-lt p.0.1 (omega arith))) k)

    -- ---- tables ----

    with_table_in : (n : ℕ) (f : ℕ → Table → Outcome Act) → ((a : ℕ) (t : Table) → TableIn t → AllOf ActIn (f a t)) → AllOf ActIn (with_table env n f)
    with_table_in n f k = with_found (slice_get env.inst.tables n) _ (λ a _. with_found (slice_get env.store.tables a) _ (λ t e. k a t (every_at TableIn env.store.tables a t ok.tables e)))

    writes_table_in : (a : ℕ) (t : Table) (place : ℕ) (refs : List RefVal) (vs : List Val) → TableIn t → Every IsNullOrFunction refs → Vals vs →
        AllOf ActIn (writes_table h a t (overwrite t.slots place refs) vs)
    writes_table_in a t place refs vs k r l =
        within_all (λ zs. Every IsNullOrFunction zs × (length zs ≡ length t.slots)) (overwrite t.slots place refs) _ (each_overwritten IsNullOrFunction t.slots place refs k.0 r) (λ zs z.
        let same = z.1 in let few = k.1 in just ((z.0, omega (arith, same, few)), (good.0, l, good.2)))

    fits_in : (t : Table) (r : RefVal) → IsNullOrFunction r → AllOf IsNullOrFunction (fits t r)
    fits_in t r k = cond_all (same_ref t.ty (type_of_ref r)) (just k) ill_typed

    get_slot_in : (a : ℕ) (t : Table) → TableIn t → AllOf ActIn (get_slot h a t)
    get_slot_in a t k =
        then_all (pop_num W32 h.values) _ (pop_num_in W32 h.values good.1) (λ n l.
        with_within (slice_get t.slots n.0) _ (λ r e. just (tt, (good.0, (every_at IsNullOrFunction t.slots n.0 r k.0 e, l.1), good.2))))

    set_slot_in : (a : ℕ) (t : Table) → TableIn t → AllOf ActIn (set_slot h a t)
    set_slot_in a t k =
        then_all (pop_ref h.values) _ (pop_ref_in h.values good.1) (λ r l. then_all (fits t r.0) _ (fits_in t r.0 l.0) (λ v o. then_all (pop_num W32 r.1) _ (pop_num_in W32 r.1 l.1) (λ n j.
        writes_table_in a t n.0 (v ∷ []) n.1 k (o, tt) j.1)))

    grow_table_in : (a : ℕ) (t : Table) → TableIn t → AllOf ActIn (grow_table h a t)
    grow_table_in a t k =
        then_all (pop_num W32 h.values) _ (pop_num_in W32 h.values good.1) (λ n l.
        then_all (pop_ref n.1) _ (pop_ref_in n.1 l.1) (λ r j. with_is (fits t r.0) _ (λ v _.
        cond_all (table_may_grow t n.0) (just (good.0, j.1, good.2)) (just (tt, (good.0, (omega arith, j.1), good.2))))))

    fill_table_in : (a : ℕ) (t : Table) → TableIn t → AllOf ActIn (fill_table h a t)
    fill_table_in a t k =
        then_all (pop_num W32 h.values) _ (pop_num_in W32 h.values good.1) (λ n l.
        then_all (pop_ref n.1) _ (pop_ref_in n.1 l.1) (λ r j. then_all (fits t r.0) _ (fits_in t r.0 j.0) (λ v o. then_all (pop_num W32 r.1) _ (pop_num_in W32 r.1 j.1) (λ d i.
        writes_table_in a t d.0 (copies n.0 v) d.1 k (each_copy IsNullOrFunction n.0 v o) i.1))))

    init_table_in : (items : List RefVal) → Every IsNullOrFunction items → (a : ℕ) (t : Table) → TableIn t → AllOf ActIn (init_table h items a t)
    init_table_in items own a t k =
        then_all (pop_three h.values) _ (pop_three_in h.values good.1) (λ p l.
        within_all (λ rs. Every IsNullOrFunction rs × (length rs ≡ p.0.2)) (slice items p.0.1 p.0.2) _ (each_slice IsNullOrFunction items p.0.1 p.0.2 own) (λ refs r. writes_table_in a t p.0.0 refs p.1 k r.0 l))

    table_init_in : (segment n : ℕ) → AllOf ActIn (table_init env h segment n)
    table_init_in segment n =
        with_found (slice_get env.inst.elems segment) _ (λ e _. with_found (slice_get env.store.elems e) _ (λ x at.
        with_table_in n (init_table h x.items) (init_table_in x.items (every_at ElemIn env.store.elems e x ok.elems at))))

    -- ---- calls, ends and branches ----

    call_slot_in : (ty : ℕ) (t : Table) → AllOf ActIn (call_slot env h ty t)
    call_slot_in ty t =
        then_all (pop_num W32 h.values) _ (pop_num_in W32 h.values good.1) (λ n k.
        with_within (slice_get t.slots n.0) _ (λ r _.
        with_is (func_ref r) _ (λ a _. with_found (type_at env.store a) _ (λ f _. with_found (slice_get env.inst.types ty) _ (λ u _. cond_all (same_func_type u f) (just (k.1, good)) stopped)))))

    resume_in : (vs : List Val) (code : List Instr) (ls : List Level) → Vals vs → Every LevelIn ls → AllOf ActIn (resume h vs code ls)
    resume_in vs code [] k l = just k
    resume_in vs code (x ∷ ls) k l = just (tt, (good.0, each_of_both IsExpressible vs x.values k l.0, l.1))

    end_level_in : AllOf ActIn (end_level h)
    end_level_in = found_all (SplitIn IsExpressible h.gives h.values) (split_at h.gives h.values) _ (each_split IsExpressible h.gives h.values good.1) (λ p k. resume_in p.0 [] h.outer k.first good.2)

    branch_in : (vs : List Val) → Vals vs → (n : ℕ) → AllOf ActIn (branch (with_values h vs) n)
    branch_in vs v n =
        with_found (slice_get (level_here (with_values h vs) ∷ h.outer) n) _ (λ t _.
        found_all (SplitIn IsExpressible t.takes vs) (split_at t.takes vs) _ (each_split IsExpressible t.takes vs v) (λ p k. by p.0 t.back (drop n h.outer) k.first (each_dropped LevelIn n h.outer good.2)))
      where
        by : (us : List Val) (code : List Instr) (ls : List Level) → Vals us → Every LevelIn ls → AllOf ActIn (resume (with_values h vs) us code ls)
        by us code [] k l = just k
        by us code (x ∷ ls) k l = just (tt, (good.0, each_of_both IsExpressible us x.values k l.0, l.1))

    branch_if_in : (n : ℕ) → AllOf ActIn (branch_if h n)
    branch_if_in n = then_all (pop_num W32 h.values) _ (pop_num_in W32 h.values good.1) (λ p k. cond_all (nat_eq p.0 0) (just (goes_with p.1 k.1)) (branch_in p.1 k.1 n))

    branch_table_in : (ns : List ℕ) (last : ℕ) → AllOf ActIn (branch_table h ns last)
    branch_table_in ns last = then_all (pop_num W32 h.values) _ (pop_num_in W32 h.values good.1) (λ p k. branch_in p.1 k.1 (unwrap_or (slice_get ns p.0) last))

    open_level_in : (vs : List Val) → Vals vs → (params : List ValType) (gives takes : ℕ) (body back : List Instr) → AllOf ActIn (open_level h vs params gives takes body back)
    open_level_in vs v params gives takes body back = then_all (pop_typed params vs) _ (pop_typed_in params vs v) (λ p k. just (tt, (good.0, each_onto IsExpressible p.0 [] k.0 tt, (k.1, good.2))))

    open_block_in : (vs : List Val) → Vals vs → (b : BlockType) (body : List Instr) → AllOf ActIn (open_block env h vs b body)
    open_block_in vs v b body = with_found (shape_of env.inst b) _ (λ t _. open_level_in vs v t.params (length t.results) (length t.results) body [])

  exec_in : (z : Instr-F Instr) (h : Body) → BodyIn h → AllOf ActIn (exec z env h)
  exec_in Instr-F.Unreachable h g = stopped
  exec_in Instr-F.Nop h g = just (tt, g)
  exec_in (Instr-F.Block b c) h g = open_block_in h g h.values g.1 b c
  exec_in (Instr-F.Loop b c) h g = with_found (shape_of env.inst b) _ (λ t _. open_level_in h g h.values g.1 t.params (length t.results) (length t.params) c (i.Loop b c ∷ []))
  exec_in (Instr-F.If b c d) h g = then_all (pop_num W32 h.values) _ (pop_num_in W32 h.values g.1) (λ p k. open_block_in h g p.1 k.1 b _)
  exec_in (Instr-F.Br n) h g = branch_in h g h.values g.1 n
  exec_in (Instr-F.BrIf n) h g = branch_if_in h g n
  exec_in (Instr-F.BrTable ns n) h g = branch_table_in h g ns n
  exec_in Instr-F.Return h g = just g.1
  exec_in (Instr-F.Call n) h g = with_found (slice_get env.inst.funcs n) _ (λ a _. just (g.1, g))
  exec_in (Instr-F.CallIndirect t n) h g = with_table_in h g n _ (λ a x k. call_slot_in h g t x)
  exec_in Instr-F.Drop h g = then_all (pop h.values) _ (pop_in h.values g.1) (λ p k. just (goes_with h g p.1 k.1))
  exec_in Instr-F.Select h g = on_values_in h g select_any (select_any_gives h.values g.1)
  exec_in (Instr-F.SelectTyped ts) h g = on_values_in h g (select_typed ts) (select_typed_gives ts h.values g.1)
  exec_in (Instr-F.LocalGet n) h g = local_get_in h g n
  exec_in (Instr-F.LocalSet n) h g = then_all (pop h.values) _ (pop_in h.values g.1) (λ p k. local_put_in h g p.1 k.1 n p.0 k.0)
  exec_in (Instr-F.LocalTee n) h g = then_all (pop h.values) _ (pop_in h.values g.1) (λ p k. local_put_in h g h.values g.1 n p.0 k.0)
  exec_in (Instr-F.GlobalGet n) h g = global_get_in h g n
  exec_in (Instr-F.GlobalSet n) h g = global_set_in h g n
  exec_in (Instr-F.TableGet n) h g = with_table_in h g n (get_slot h) (get_slot_in h g)
  exec_in (Instr-F.TableSet n) h g = with_table_in h g n (set_slot h) (set_slot_in h g)
  exec_in (Instr-F.Load o arg) h g = with_memory_in h g arg.memory _ (λ a x m. on_values_in h g (load_from x o arg.offset) (load_from_in h g x o arg.offset m))
  exec_in (Instr-F.Store o arg) h g = with_memory_in h g arg.memory (store_into h o arg.offset) (store_into_in h g o arg.offset)
  exec_in (Instr-F.MemorySize n) h g = with_memory_in h g n _ (λ a x m. just (tt, (g.0, (m.1, g.1), g.2)))
  exec_in (Instr-F.MemoryGrow n) h g = with_memory_in h g n (grow_memory h) (pages_in h g)
  exec_in (Instr-F.I32Const z) h g = just (tt, (g.0, (wrapped_in 32 z, g.1), g.2))
  exec_in (Instr-F.I64Const z) h g = just (tt, (g.0, (wrapped_in 64 z, g.1), g.2))
  exec_in (Instr-F.Un o) h g = on_values_in h g (unary o) (unary_gives o h.values g.1)
  exec_in (Instr-F.Bin o) h g = on_values_in h g (binary o) (binary_gives o h.values g.1)
  exec_in (Instr-F.RefNull t) h g = just (tt, (g.0, (null_own t, g.1), g.2))
  exec_in Instr-F.RefIsNull h g = on_values_in h g ref_is_null (is_null_gives h.values g.1)
  exec_in (Instr-F.RefFunc n) h g = with_found (slice_get env.inst.funcs n) _ (λ a _. just (tt, (g.0, (tt, g.1), g.2)))
  exec_in (Instr-F.MemoryInit s n) h g = memory_init_in h g s n
  exec_in (Instr-F.DataDrop n) h g = with_found (slice_get env.inst.datas n) _ (λ a _. just (tt, g))
  exec_in (Instr-F.MemoryCopy n m) h g = with_memory_in h g m _ (λ b x k. with_memory_in h g n (init_memory h x.bytes) (init_in h g x.bytes k.0))
  exec_in (Instr-F.MemoryFill n) h g = with_memory_in h g n (fill_memory h) (fill_in h g)
  exec_in (Instr-F.TableInit s n) h g = table_init_in h g s n
  exec_in (Instr-F.ElemDrop n) h g = with_found (slice_get env.inst.elems n) _ (λ a _. just (tt, g))
  exec_in (Instr-F.TableCopy n m) h g = with_table_in h g m _ (λ b x k. with_table_in h g n (init_table h x.slots) (init_table_in h g x.slots k.0))
  exec_in (Instr-F.TableGrow n) h g = with_table_in h g n (grow_table h) (grow_table_in h g)
  exec_in (Instr-F.TableSize n) h g = with_table_in h g n _ (λ a t k. just (tt, (g.0, (k.1, g.1), g.2)))
  exec_in (Instr-F.TableFill n) h g = with_table_in h g n (fill_table h) (fill_table_in h g)

  code_in : (code : List Instr) (h : Body) → BodyIn h → AllOf ActIn (step_code env h code)
  code_in [] h g = end_level_in h g
  code_in (z ∷ zs) h g = exec_in (out-Instr z) (record h { rest = zs }) g

  levels_in : (locals : List Val) (ls : List Level) → Vals locals → Every LevelIn ls → AllOf ActIn (step_levels env locals ls)
  levels_in locals [] v k = ill_typed
  levels_in locals (l ∷ ls) v k = code_in l.code (record { locals = locals; values = l.values; rest = []; gives = l.gives; takes = l.takes; back = l.back; outer = ls }) (v, k.0, k.1)

-- ---- a step ----

module _ (s : Store) (ok : StoreIn s) where
  abbrev pub NextIn : Next → Type 0
  NextIn (Ran t es) = StoreIn t × Every EntryIn es
  NextIn (EndsCall vs t es) = StoreIn t × Every EntryIn es
  NextIn _ = Unit {0}

  changed_in : (c : Change) → ChangeIn c → StoreIn (changed s c)
  changed_in Keep k = ok
  changed_in (SetGlobal a g) k = record { tables = ok.tables; mems = ok.mems; globals = each_set GlobalIn s.globals a g ok.globals k; elems = ok.elems; datas = ok.datas }
  changed_in (SetMemory a x) k = record { tables = ok.tables; mems = each_set MemoryIn s.mems a x ok.mems k; globals = ok.globals; elems = ok.elems; datas = ok.datas }
  changed_in (SetTable a t) k = record { tables = each_set TableIn s.tables a t ok.tables k; mems = ok.mems; globals = ok.globals; elems = ok.elems; datas = ok.datas }
  changed_in (DropElem a) k = record { tables = ok.tables; mems = ok.mems; globals = ok.globals; elems = each_set ElemIn s.elems a no_items ok.elems tt; datas = ok.datas }
  changed_in (DropData a) k = record { tables = ok.tables; mems = ok.mems; globals = ok.globals; elems = ok.elems; datas = each_set DataIn s.datas a no_bytes ok.datas tt }

  frame_in : (f : Frame) (h : Body) → BodyIn h → FrameIn (frame_of f h)
  frame_in f h g = (g.0, (g.1, g.2))

  give_levels_in : (vs : List Val) (f : Frame) (ls : List Level) (es : List Entry) → Vals vs → Vals f.locals → Every LevelIn ls → Every EntryIn es → AllOf NextIn (give_levels s vs f ls es)
  give_levels_in vs f [] es v k l e = ill_typed
  give_levels_in vs f (x ∷ ls) es v k l e = just (ok, ((k, (each_onto IsExpressible vs x.values v l.0, l.1)), e))

  give_in : (vs : List Val) (es : List Entry) → Vals vs → Every EntryIn es → AllOf NextIn (give s vs es)
  give_in vs [] v k = ill_typed
  give_in vs (Running f ∷ es) v k = give_levels_in vs f f.levels es v k.0.0 k.0.1 k.1
  give_in vs (Mark ∷ es) v k = just (ok, k.1)
  give_in vs (Opening xs ∷ es) v k = just (ok, (tt, k.1))
  give_in vs (Waiting ts ∷ es) v k = ill_typed
  give_in vs (Ended ws ∷ es) v k = ill_typed
  give_in vs (Growing g ∷ es) v k = ill_typed

  pub enter_in : (f : Func) (args : List Val) (es : List Entry) → Vals args → Every EntryIn es → NextIn (enter s f args es)
  enter_in (Code t j ls c) args es v k = (ok, ((each_of_both IsExpressible args (zeros ls) v (zeros_in ls), (tt, tt)), k))
  enter_in (Own p t) args es v k = tt
  enter_in (Placeholder n t) args es v k = tt

  perform_in : (f : Frame) (es : List Entry) (x : Act) → Every EntryIn es → ActIn x → AllOf NextIn (perform s f es x)
  perform_in f es (Goes c h) k a = just (changed_in c a.0, (frame_in f h a.1, k))
  perform_in f es (Calls a vs h) k x =
      with_found (type_at s a) _ (λ t _. then_all (pop_typed t.params vs) _ (pop_typed_in t.params vs x.0) (λ p l. with_found (slice_get s.funcs a) _ (λ g _.
      just (enter_in g p.0 _ l.0 ((x.1.0, (l.1, x.1.2)), k)))))
  perform_in f es (AsksGrow g size count h) k x = just tt
  perform_in f es (Ends vs) k x = then_all (pop_typed f.results vs) _ (pop_typed_in f.results vs x) (λ p l. give_in p.0 es l.0 k)

  pub step_in : (es : List Entry) → Every EntryIn es → AllOf NextIn (step s es)
  step_in [] k = ill_typed
  step_in (Running f ∷ es) k = then_all (act s f) _ (levels_in (record { store = s; inst = f.inst }) ok f.locals f.levels k.0.0 k.0.1) (λ x a. perform_in f es x k.1 a)
  step_in (Mark ∷ es) k = ill_typed
  step_in (Opening xs ∷ es) k = ill_typed
  step_in (Waiting ts ∷ es) k = ill_typed
  step_in (Ended vs ∷ es) k = ill_typed
  step_in (Growing g ∷ es) k = ill_typed
