-- The step that begins a call, and the stage to which it leads.
use Rattle.base_lists.proofs.Common.{◌≡◌, ℕ, ◌+◌, ◌-◌, ◌/◌, arith, List, length, slice_get, Bool, true, false, Option, Some, None, refl, sym, ap, ◌∙◌, ◌⊎◌, inl, inr, nat_le, nat_lt, cases_lt, same_Some, slice_get_within, numbers_is, slice_get_there}
use Rattle.wasm_tree_spec.specs.Prelude.{ValType, FuncType, Instr, out-Instr, Module, funcs_of, imported_funcs}
use Rattle.wasm_tree.specs.declared.instr.Instr.TheVariants as i
use Rattle.wasm_tree.specs.declared.instr.Instr.TheOpen.{Instr-F}
use Rattle.eval_proof.specs.ImportedFunctions.{ImportsAreTyped}
use Rattle.wasm_meaning.specs.Prelude.{Outcome, Gives, Traps, IllTyped, Pair, Val, Func, Code, Own, Entry, declared, pop_typed}
use Rattle.eval_spec.specs.declared.limits.TheConstants.{MOST_DEPTH}
use Rattle.eval_spec.specs.Prelude.{own_inst}
use Rattle.eval_machine.specs.declared.registers.Registers.{Registers}
use Rattle.eval_machine.specs.declared.registers.MachineAct.TheVariants as act
use Rattle.eval_machine.specs.Prelude.{MachineFits, store_in, LevelPlace, called, depth, ComesToAct, begun_by, done_by}
use Rattle.eval_machine.proofs.ModuleFunctions.{FuncsAre, funcs_now_are, funcs_size}
use Rattle.eval_machine.proofs.IndexSpaces.{address_of}
use Rattle.eval_machine.proofs.InstructionSteps.{by_layer}

-- A function is the environment's own, or code of the module's instance.
abbrev pub IsEither : Module → Func → Type 0
IsEither m x = ((q : Pair × FuncType) × (x ≡ Own q.0 q.1)) ⊎ ((q : FuncType × List ValType × List Instr) × (x ≡ Code q.0 (own_inst m) q.1 q.2))

pub either : (m : Module) (fs : List Func) → FuncsAre m fs → (n : ℕ) (x : Func) → slice_get fs n ≡ Some x → IsEither m x
either m fs a n x e = elim (cases_lt n (length (imported_funcs m.imports))) [
  | inl lt ↦ (let o = a.own n lt in inl (o.0, same_Some x (Own o.0.0 o.0.1) (sym e ∙ o.1)))
  | inr le ↦ (
      let g = slice_get_there m.funcs (n - length (imported_funcs m.imports)) (omega (arith, le, funcs_size m, a.many, slice_get_within fs n x e)) in
      let c = a.code (n - length (imported_funcs m.imports)) g.0 g.1 in
      let there : length (imported_funcs m.imports) + (n - length (imported_funcs m.imports)) ≡ n = omega (arith, le) in
      let found : slice_get fs n ≡ Some (Code c.0 (own_inst m) (declared g.0.locals) g.0.body) = rw there at c.2 in
      inr ((c.0, declared g.0.locals, g.0.body), same_Some x (Code c.0 (own_inst m) (declared g.0.locals) g.0.body) (sym e ∙ found)))
]

module _ (m : Module) (r : Registers) (o : Instr) (n : ℕ) (rest : List Instr) (p : LevelPlace) (es : List Entry) where
  abbrev begins_call : Type 0
  begins_call = begun_by m r o (Instr-F.Call n) rest p es (done_by m r (Instr-F.Call n) rest p) ≡ called m r n rest p es

  call_missing : (a : Option ℕ) → slice_get (own_inst m).funcs n ≡ a → ((x : ℕ) → a ≡ Some x → x ≡ n) → slice_get (store_in m r.kept).funcs n ≡ None → begins_call
  call_missing None e h f = rw (e, f)
  call_missing (Some x) e h f = let same : x ≡ n = h x refl in rw (e, same, f)

  call_own : (pair : Pair) (t : FuncType) → slice_get (own_inst m).funcs n ≡ Some n → slice_get (store_in m r.kept).funcs n ≡ Some (Own pair t) → begins_call
  call_own pair t e f = rw (e, f)

  call_code : (t : FuncType) (locals : List ValType) (body : List Instr) → slice_get (own_inst m).funcs n ≡ Some n → slice_get (store_in m r.kept).funcs n ≡ Some (Code t (own_inst m) locals body) →
      (q : Outcome (List Val × List Val)) → pop_typed t.params r.operands ≡ q → (b : Bool) → nat_lt r.kept.turns (length locals / 64) ≡ b → (d : Bool) → nat_le MOST_DEPTH (depth p es) ≡ d → begins_call
  call_code t locals body e f Traps g b h d k = rw (e, f, g)
  call_code t locals body e f IllTyped g b h d k = rw (e, f, g)
  call_code t locals body e f (Gives q) g true h d k = rw (e, f, g, h)
  call_code t locals body e f (Gives q) g false h true k = rw (e, f, g, h, k)
  call_code t locals body e f (Gives q) g false h false k = rw (e, f, g, h, k)

pub call_begins : (m : Module) (o : Instr) (r : Registers) (n : ℕ) → ImportsAreTyped m → MachineFits m r.kept → o ≡ i.Call n → ComesToAct m o r (act.Calls n) r
call_begins m o r n v f e = λ rest p es. by_layer m r o (Instr-F.Call n) rest p es _ (ap out-Instr e ∙ i.outs-Call n) (by rest p es (slice_get (store_in m r.kept).funcs n) refl)
  where
    fs : List Func
    fs = (store_in m r.kept).funcs

    are : FuncsAre m (store_in m r.kept).funcs
    are = funcs_now_are m r.kept v f

    address : (x : Func) → slice_get (store_in m r.kept).funcs n ≡ Some x → slice_get (own_inst m).funcs n ≡ Some n
    address x h = address_of (length (funcs_of m)) n (omega (arith, slice_get_within (store_in m r.kept).funcs n x h, are.many))

    by_kind : (rest : List Instr) (p : LevelPlace) (es : List Entry) (x : Func) → slice_get (store_in m r.kept).funcs n ≡ Some x → IsEither m x → begins_call m r o n rest p es
    by_kind rest p es x h (inl (q, is)) = call_own m r o n rest p es q.0 q.1 (address x h) (h ∙ ap Some is)
    by_kind rest p es x h (inr (q, is)) = call_code m r o n rest p es q.0 q.1 q.2 (address x h) (h ∙ ap Some is) (pop_typed q.0.params r.operands) refl (nat_lt r.kept.turns (length q.1 / 64)) refl (nat_le MOST_DEPTH (depth p es)) refl

    by : (rest : List Instr) (p : LevelPlace) (es : List Entry) (x : Option Func) → slice_get (store_in m r.kept).funcs n ≡ x → begins_call m r o n rest p es
    by rest p es None h = call_missing m r o n rest p es (slice_get (own_inst m).funcs n) refl (λ x k. sym (numbers_is (length (funcs_of m)) n x k).1) h
    by rest p es (Some x) h = by_kind rest p es x h (either m (store_in m r.kept).funcs are n x h)
