-- One small step (WebAssembly Core 2.0, section 4.4).
use Rattle.std.proofs.Common.{ℕ, List, [], ◌∷◌, ◌++◌, length, true, slice_set}
use Rattle.wasm_tree_spec.specs.Prelude.{Instr, out-Instr}
use Rattle.wasm_tree.specs.declared.instr.Instr.TheOpen.{Instr-F}
use Rattle.wasm_meaning.specs.Outcomes.{Outcome, Gives, Traps, IllTyped, bind, onto, or_ill_typed, with_entry}
use Rattle.wasm_num.specs.Operations.{W32, W64, wrapped}
use Rattle.wasm_meaning.specs.State.{Val, Num, Ref, Func, Code, Own, Placeholder, Elem, Data, Store, Change, Keep, SetGlobal, SetMemory, SetTable, DropElem, DropData, Level, Frame, Entry, Running}
use Rattle.wasm_meaning.specs.State.{Caller, Host, Starter, Mark, Opening, Waiting, Growing, Env, Body, Act, Goes, Calls, AsksGrow, Ends, Next, Ran, CallsOwn, WaitsGrowth, CallsPlaceholder, EndsCall}
use Rattle.wasm_meaning.specs.Values.{pop, pop_typed, zeros, null_of, unary, binary, ref_is_null, select_any, select_typed, go, with_values, on_values, pushes, local_get, local_set, local_tee}
use Rattle.wasm_meaning.specs.Values.{global_get, global_set, ref_func}
use Rattle.wasm_meaning.specs.Memory.{load, store, memory_size, memory_grow, memory_init, data_drop, memory_copy, memory_fill}
use Rattle.wasm_meaning.specs.Tables.{table_get, table_set, table_size, table_grow, table_fill, table_copy, table_init, elem_drop}
use Rattle.wasm_meaning.specs.Control.{type_at, call, call_indirect, finish, end_level, branch, branch_if, branch_table, open_block, open_loop, open_if}

-- What an instruction does.
abbrev pub exec : Instr-F Instr → Env → Body → Outcome Act
exec Instr-F.Unreachable env h = Traps
exec Instr-F.Nop env h = Gives (go h)
exec (Instr-F.Block b c) env h = open_block env h h.values b c
exec (Instr-F.Loop b c) env h = open_loop env h b c
exec (Instr-F.If b c d) env h = open_if env h b c d
exec (Instr-F.Br n) env h = branch h n
exec (Instr-F.BrIf n) env h = branch_if h n
exec (Instr-F.BrTable ns n) env h = branch_table h ns n
exec Instr-F.Return env h = finish h h.values
exec (Instr-F.Call n) env h = call env h n
exec (Instr-F.CallIndirect t n) env h = call_indirect env h t n
exec Instr-F.Drop env h = bind (pop h.values) (λ p. Gives (go (with_values h p.1)))
exec Instr-F.Select env h = on_values h select_any
exec (Instr-F.SelectTyped ts) env h = on_values h (select_typed ts)
exec (Instr-F.LocalGet n) env h = local_get h n
exec (Instr-F.LocalSet n) env h = local_set h n
exec (Instr-F.LocalTee n) env h = local_tee h n
exec (Instr-F.GlobalGet n) env h = global_get env h n
exec (Instr-F.GlobalSet n) env h = global_set env h n
exec (Instr-F.TableGet n) env h = table_get env h n
exec (Instr-F.TableSet n) env h = table_set env h n
exec (Instr-F.Load o arg) env h = load env h o arg
exec (Instr-F.Store o arg) env h = store env h o arg
exec (Instr-F.MemorySize n) env h = memory_size env h n
exec (Instr-F.MemoryGrow n) env h = memory_grow env h n
exec (Instr-F.I32Const z) env h = pushes h (Num W32 (wrapped 32 z))
exec (Instr-F.I64Const z) env h = pushes h (Num W64 (wrapped 64 z))
exec (Instr-F.Un o) env h = on_values h (unary o)
exec (Instr-F.Bin o) env h = on_values h (binary o)
exec (Instr-F.RefNull t) env h = pushes h (Ref (null_of t))
exec Instr-F.RefIsNull env h = on_values h ref_is_null
exec (Instr-F.RefFunc n) env h = ref_func env h n
exec (Instr-F.MemoryInit s n) env h = memory_init env h s n
exec (Instr-F.DataDrop n) env h = data_drop env h n
exec (Instr-F.MemoryCopy n m) env h = memory_copy env h n m
exec (Instr-F.MemoryFill n) env h = memory_fill env h n
exec (Instr-F.TableInit s n) env h = table_init env h s n
exec (Instr-F.ElemDrop n) env h = elem_drop env h n
exec (Instr-F.TableCopy n m) env h = table_copy env h n m
exec (Instr-F.TableGrow n) env h = table_grow env h n
exec (Instr-F.TableSize n) env h = table_size env h n
exec (Instr-F.TableFill n) env h = table_fill env h n

abbrev pub step_code : Env → Body → List Instr → Outcome Act
step_code env h [] = end_level h
step_code env h (i ∷ is) = exec (out-Instr i) env (record h { rest = is })

abbrev pub step_levels : Env → List Val → List Level → Outcome Act
step_levels env locals [] = IllTyped
step_levels env locals (l ∷ ls) =
    step_code env (record { locals = locals; values = l.values; rest = []; gives = l.gives; takes = l.takes; back = l.back; outer = ls }) l.code

-- What the top frame does: its next instruction, or the end of its innermost level.
abbrev pub act : Store → Frame → Outcome Act
act s f = step_levels (record { store = s; inst = f.inst }) f.locals f.levels

-- The frame, put together again.
abbrev pub frame_of : Frame → Body → Frame
frame_of f h = record f { locals = h.locals; levels = record { values = h.values; code = h.rest; gives = h.gives; takes = h.takes; back = h.back } ∷ h.outer }

-- Gives values to a frame that waits for them.
abbrev pub give_levels : Store → List Val → Frame → List Level → List Entry → Outcome Next
give_levels s vs f [] es = IllTyped
give_levels s vs f (l ∷ ls) es = Gives (Ran s (Running (record f { levels = record l { values = onto vs l.values } ∷ ls }) ∷ es))

-- Gives values to the entry on top, which waits for them; an `Opening` drops them.
abbrev pub give : Store → List Val → List Entry → Outcome Next
give s vs (Running f ∷ es) = give_levels s vs f f.levels es
give s vs (Mark ∷ es) = Gives (EndsCall vs s es)
give s vs (Opening xs ∷ es) = Gives (Ran s (Opening xs ∷ es))
give s vs _ = IllTyped

-- Begins a function, on top of the entries that wait for it.
abbrev pub enter : Store → Func → List Val → List Entry → Next
enter s (Code t i ls c) args es =
    Ran s (Running (record { inst = i; locals = args ++ zeros ls; results = t.results; levels = record { values = []; code = c; gives = length t.results; takes = length t.results; back = [] } ∷ [] })
    ∷ es)
enter s (Own p t) args es = CallsOwn p t args s (Waiting t.results ∷ es)
enter s (Placeholder n t) args es = CallsPlaceholder n args s es

abbrev pub enter_at : Store → ℕ → List Val → List Entry → Outcome Next
enter_at s a vs es = with_entry s.funcs a (λ f. Gives (enter s f vs es))

abbrev pub no_items : Elem
no_items = record { items = []; dropped = true }

abbrev pub no_bytes : Data
no_bytes = record { bytes = []; dropped = true }

-- The store after a change.
abbrev pub changed : Store → Change → Store
changed s Keep = s
changed s (SetGlobal a g) = record s { globals = slice_set s.globals a g }
changed s (SetMemory a m) = record s { mems = slice_set s.mems a m }
changed s (SetTable a t) = record s { tables = slice_set s.tables a t }
changed s (DropElem a) = record s { elems = slice_set s.elems a no_items }
changed s (DropData a) = record s { datas = slice_set s.datas a no_bytes }

-- Carries out what the frame `f` does, on top of the entries `es`.
abbrev pub perform : Store → Frame → List Entry → Act → Outcome Next
perform s f es (Goes c h) = Gives (Ran (changed s c) (Running (frame_of f h) ∷ es))
perform s f es (Calls a vs h) = bind (or_ill_typed (type_at s a)) (λ t. bind (pop_typed t.params vs) (λ p. enter_at s a p.0 (Running (frame_of f (with_values h p.1)) ∷ es)))
perform s f es (AsksGrow g m n h) = Gives (WaitsGrowth g m n s (Growing g ∷ Running (frame_of f h) ∷ es))
perform s f es (Ends vs) = bind (pop_typed f.results vs) (λ p. give s p.0 es)

-- One small step of the frame on top.
abbrev pub step : Store → List Entry → Outcome Next
step s (Running f ∷ es) = bind (act s f) (perform s f es)
step s _ = IllTyped

-- Who waits at the nearest mark, and what is on the stack below it. The mark of a start is
-- `Opening`.
abbrev pub to_mark : List Entry → Outcome (Caller × List Entry)
to_mark [] = IllTyped
to_mark (Mark ∷ es) = Gives (Host, es)
to_mark (Opening xs ∷ es) = Gives (Starter, es)
to_mark (_ ∷ es) = to_mark es
