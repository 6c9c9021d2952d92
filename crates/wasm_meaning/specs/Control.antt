-- Calls, ends, branches and blocks (WebAssembly Core 2.0, sections 4.4.8 to 4.4.10).
use Rattle.std.proofs.Common.{ℕ, List, [], ◌∷◌, ◌++◌, length, Option, Some, None, cond, drop, slice_get, unwrap_or}
use Rattle.std.specs.Prelude.{nat_eq}
use Rattle.base_lists.specs.Options.{◌>>=◌}
use Rattle.wasm_tree_spec.specs.Prelude.{ValType, FuncType, BlockType, Instr, same_func_type}
use Rattle.wasm_tree.specs.declared.types.BlockType.TheVariants as bt
use Rattle.wasm_tree.specs.declared.instr.Instr.TheVariants as i
use Rattle.wasm_meaning.specs.Outcomes.{Outcome, Gives, Traps, IllTyped, or_trap, bind, onto, split_at, or_ill_typed, with_entry}
use Rattle.wasm_num.specs.Operations.{W32}
use Rattle.wasm_meaning.specs.State.{Pair, RefVal, FuncRef, ExternRef, Val, Inst, Func, Code, Own, Placeholder, Table, Store, Level, Env, Body, Act, Calls, Ends}
use Rattle.wasm_meaning.specs.Values.{pop_num, pop_typed, go, with_values}
use Rattle.wasm_meaning.specs.Tables.{with_table}

abbrev pub type_of_func : Func → FuncType
type_of_func (Code t i ls c) = t
type_of_func (Own p t) = t
type_of_func (Placeholder n t) = t

-- The pair and the type of a function, if it is one of the environment's own.
abbrev pub own_of : Func → Option (Pair × FuncType)
own_of (Own p t) = Some (p, t)
own_of _ = None

abbrev pub own_at : Store → ℕ → Option (Pair × FuncType)
own_at s a = slice_get s.funcs a >>= own_of

abbrev pub type_at : Store → ℕ → Option FuncType
type_at s a = slice_get s.funcs a >>= λ f. Some (type_of_func f)

abbrev pub call_address : Body → ℕ → Outcome Act
call_address h a = Gives (Calls a h.values h)

abbrev pub call : Env → Body → ℕ → Outcome Act
call env h i = with_entry env.inst.funcs i (call_address h)

abbrev pub func_ref : RefVal → Outcome ℕ
func_ref (FuncRef r) = or_trap r
func_ref (ExternRef r) = IllTyped

abbrev pub call_checked : Body → List Val → ℕ → FuncType → FuncType → Outcome Act
call_checked h vs a f t = cond (same_func_type t f) (Gives (Calls a vs h)) Traps

abbrev pub call_slot : Env → Body → ℕ → Table → Outcome Act
call_slot env h ty t =
    bind (pop_num W32 h.values) (λ i. bind (or_trap (slice_get t.slots i.0))
    (λ r. bind (func_ref r) (λ a. bind (or_ill_typed (type_at env.store a)) (λ f. with_entry env.inst.types ty (call_checked h i.1 a f)))))

abbrev pub call_indirect : Env → Body → (ty table : ℕ) → Outcome Act
call_indirect env h ty table = with_table env table (λ a t. call_slot env h ty t)

-- ---- ends and branches ----

abbrev pub finish : Body → List Val → Outcome Act
finish h vs = Gives (Ends vs)

-- Continues in the next level outwards, with `vs` on top of its values and `c` before its code. If
-- there is no such level, the frame ends with `vs`.
abbrev pub resume : Body → List Val → List Instr → List Level → Outcome Act
resume h vs c [] = finish h vs
resume h vs c (l ∷ ls) = Gives (go (record h { values = vs ++ l.values; rest = c ++ l.code; gives = l.gives; takes = l.takes; back = l.back; outer = ls }))

-- Ends the innermost level with the values on top, as many as it gives.
abbrev pub end_level : Body → Outcome Act
end_level h = bind (or_ill_typed (split_at h.gives h.values)) (λ p. resume h p.0 [] h.outer)

abbrev pub level_here : Body → Level
level_here h = record { values = h.values; code = h.rest; gives = h.gives; takes = h.takes; back = h.back }

abbrev pub branch : Body → ℕ → Outcome Act
branch h n = with_entry (level_here h ∷ h.outer) n (λ t. bind (or_ill_typed (split_at t.takes h.values)) (λ p. resume h p.0 t.back (drop n h.outer)))

-- Branches if the number on top is not 0. If it is 0, the label is not looked up.
abbrev pub branch_if : Body → ℕ → Outcome Act
branch_if h n = bind (pop_num W32 h.values) (λ p. cond (nat_eq p.0 0) (Gives (go (with_values h p.1))) (branch (with_values h p.1) n))

-- Branches to the label in `ns` at the place that is on top of the stack, or to `last` if that
-- place is past the end of `ns`. No other label is looked up.
abbrev pub branch_table : Body → List ℕ → (last : ℕ) → Outcome Act
branch_table h ns last = bind (pop_num W32 h.values) (λ p. branch (with_values h p.1) (unwrap_or (slice_get ns p.0) last))

-- ---- blocks ----

abbrev pub shape_of : Inst → BlockType → Option FuncType
shape_of i bt.Empty = Some (record { params = []; results = [] })
shape_of i (bt.Value t) = Some (record { params = []; results = t ∷ [] })
shape_of i (bt.Index n) = slice_get i.types n

-- Opens a level with values of the types `params`. The level gives `gives` values at its end; a
-- branch to it takes `takes` values and continues with `back`.
abbrev pub open_level : Body → List Val → (params : List ValType) → (gives takes : ℕ) → (body back : List Instr) → Outcome Act
open_level h vs params gives takes body back =
    bind (pop_typed params vs) (λ p. Gives (go (record h { values = onto p.0 []; rest = body; gives = gives; takes = takes; back = back; outer = level_here (with_values h p.1) ∷ h.outer })))

abbrev pub open_block : Env → Body → List Val → BlockType → List Instr → Outcome Act
open_block env h vs b body = bind (or_ill_typed (shape_of env.inst b)) (λ t. open_level h vs t.params (length t.results) (length t.results) body [])

abbrev pub open_loop : Env → Body → BlockType → List Instr → Outcome Act
open_loop env h b body = bind (or_ill_typed (shape_of env.inst b)) (λ t. open_level h h.values t.params (length t.results) (length t.params) body (i.Loop b body ∷ []))

abbrev pub open_if : Env → Body → BlockType → (body other : List Instr) → Outcome Act
open_if env h b body other = bind (pop_num W32 h.values) (λ p. open_block env h p.1 b (cond (nat_eq p.0 0) other body))
