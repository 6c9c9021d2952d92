-- The instruction call_indirect, which calls a function through a table.
use Rattle.base_lists.proofs.Common.{◌≡◌, ℕ, ◌/◌, ◌<◌, ◌≤◌, List, [], ◌∷◌, length, slice_get, Bool, true, false, Option, Some, None, Err, refl, ap, ◌∙◌, inl, inr, nat_le, nat_lt, same_Some, is_some}
use Rattle.base_lists.specs.Options.{◌>>=◌}
use Rattle.wasm_tree_spec.specs.Prelude.{Types, FuncType, ValType, Instr, Module, same_func_type}
use Rattle.wasm_tree.specs.declared.instr.Instr.TheVariants as i
use Rattle.wasm_tree.specs.declared.instr.Instr.TheOpen.{Instr-F}
use Rattle.wasm_num.specs.Operations.{W32, W64}
use Rattle.eval_proof.specs.ImportedFunctions.{ImportsAreTyped}
use Rattle.wasm_meaning.specs.Prelude.{own_at, type_at, Outcome, Gives, Traps, IllTyped, RefVal, FuncRef, ExternRef, Val, Num, Ref, Table, Func, Code, Entry, Act, Calls, pop_num, pop_typed}
use Rattle.eval_spec.specs.declared.limits.TheConstants.{MOST_DEPTH}
use Rattle.eval_spec.specs.declared.stop.Stop.TheVariants as why
use Rattle.eval_spec.specs.Prelude.{calls_import, uses_unknown, own_inst}
use Rattle.eval_spec.specs.Stops.{func_in_slot, referred_func}
use Rattle.eval_machine.specs.declared.registers.Registers.{Registers}
use Rattle.eval_machine.specs.declared.registers.MachineAct.{MachineAct}
use Rattle.eval_machine.specs.declared.registers.MachineAct.TheVariants as act
use Rattle.eval_machine.specs.declared.registers.Flow.TheVariants as flow
use Rattle.eval_machine.specs.declared.value.Value.{Value}
use Rattle.eval_machine.specs.declared.slots.Slot.TheVariants as slot
use Rattle.eval_machine.specs.Prelude.{ended, val_of, LevelPlace, body_at, called, depth, MachineFits, base_of, state_in, store_in, IsSlot, is_unknown_in, ref_in, slot_count, ComesToAct, begun_by, done_by, env_in}
use Rattle.eval_machine.specs.DenotedValues.{func_of}
use Rattle.eval_machine.specs.Instructions.{ReachesThroughTable, type_matches}
use Rattle.eval_machine.proofs.CallInstructions.{either}
use Rattle.eval_machine.proofs.DataSteps.{none_before}
use Rattle.eval_machine.proofs.ModuleFunctions.{funcs_now_are}
use Rattle.eval_machine.proofs.InstructionSteps.{by_layer, ends_trap_first, ends_unknown}
use Rattle.eval_machine.proofs.Openings.{none_of, type_kind}
use Rattle.eval_machine.proofs.ReachedFunctions.{unmatched}
use Rattle.eval_machine.proofs.TableSteps.{IsTable, imported_table, no_table, own_table}

-- ---- the function in the slot that the top operand names ----

none_named : (vs : List Val) (t : Table) → pop_num W32 vs ≡ IllTyped → func_in_slot vs t ≡ None
none_named [] t e = refl
none_named (Num W32 n ∷ vs) t e = absurd (let k = e in cc)
none_named (Num W64 n ∷ vs) t e = refl
none_named (Ref r ∷ vs) t e = refl

abbrev place_of : Outcome (ℕ × List Val) → ℕ
place_of (Gives p) = p.0
place_of _ = 0

named : (vs below : List Val) (t : Table) (place : ℕ) → pop_num W32 vs ≡ Gives (place, below) → func_in_slot vs t ≡ (slice_get t.slots place >>= referred_func)
named [] below t place e = absurd (let k = e in cc)
named (Num W32 n ∷ vs) below t place e = let same : n ≡ place = ap place_of e in rw same
named (Num W64 n ∷ vs) below t place e = absurd (let k = e in cc)
named (Ref r ∷ vs) below t place e = absurd (let k = e in cc)

-- ---- what stops a call through a table ----

module _ (m : Module) (r new : Registers) (f : MachineFits m r.kept) (ty n : ℕ) (same : new.kept ≡ r.kept) where
  abbrev calls : Instr
  calls = i.CallIndirect ty n

  abbrev layer : Instr-F Instr
  layer = Instr-F.CallIndirect ty n

  unknown_stops : uses_unknown m (state_in m r.kept).unknown layer (env_in m r.kept) r.operands ≡ true → ComesToAct m calls r (act.Leaves (flow.Stopped why.Unknown)) new
  unknown_stops u = λ rest p es. rw same (ends_unknown m r calls layer rest p es (i.outs-CallIndirect ty n) refl refl u)

  pub indirect_imported : n < r.kept.imports.tables → ComesToAct m calls r (act.Leaves (flow.Stopped why.Unknown)) new
  indirect_imported lt = unknown_stops (rw (none_of Types type_kind m.imports 0, none_before ty, imported_table m r.kept f n lt))

  trap_stops : uses_unknown m (state_in m r.kept).unknown layer (env_in m r.kept) r.operands ≡ false → calls_import layer (env_in m r.kept) r.operands ≡ false → ((rest : List Instr) (p : LevelPlace) → ended (done_by m r layer rest p) ≡ Err why.Trap) →
      ComesToAct m calls r (act.Leaves (flow.Stopped why.Trap)) new
  trap_stops u c h = λ rest p es. rw same (ends_trap_first m r calls layer rest p es (i.outs-CallIndirect ty n) refl refl u c (h rest p))

  module _ (le : r.kept.imports.tables ≤ n) where
    pub indirect_nowhere : slot_count (base_of m) n ≡ None → ComesToAct m calls r (act.Leaves (flow.Stopped why.Trap)) new
    indirect_nowhere h = let none = no_table m r.kept f n le h in trap_stops (rw (none_of Types type_kind m.imports 0, none_before ty, own_table m r.kept f n le, none)) (rw none) (λ rest p. rw none)

    module _ (count : ℕ) (t : IsTable m n count) where
      pub indirect_untyped : pop_num W32 r.operands ≡ IllTyped → ComesToAct m calls r (act.Leaves (flow.Stopped why.Trap)) new
      indirect_untyped e = trap_stops (rw (none_of Types type_kind m.imports 0, none_before ty, own_table m r.kept f n le, t.address, e)) (rw (t.address, t.there, none_named r.operands t.table e)) (λ rest p. rw (t.address, t.there, e))

      module _ (place : ℕ) (pop : pop_num W32 r.operands ≡ Gives (place, new.operands)) where
        pub indirect_unknown : is_unknown_in (base_of m) n place ≡ true → ComesToAct m calls r (act.Leaves (flow.Stopped why.Unknown)) new
        indirect_unknown u = unknown_stops (rw (none_of Types type_kind m.imports 0, none_before ty, own_table m r.kept f n le, t.address, pop, u))

        module _ (u : is_unknown_in (base_of m) n place ≡ false) where
          known : uses_unknown m (state_in m r.kept).unknown layer (env_in m r.kept) r.operands ≡ false
          known = rw (none_of Types type_kind m.imports 0, none_before ty, own_table m r.kept f n le, t.address, pop, u)

          slot_is : (o : Option RefVal) → ref_in (base_of m) n place ≡ o → slice_get t.table.slots place ≡ o
          slot_is o e = rw t.there at e

          pub indirect_outside : ref_in (base_of m) n place ≡ None → ComesToAct m calls r (act.Leaves (flow.Stopped why.Trap)) new
          indirect_outside e = trap_stops known (rw (t.address, t.there, named r.operands new.operands t.table place pop, slot_is None e)) (λ rest p. rw (t.address, t.there, pop, slot_is None e))

          -- The slot refers to no function.
          no_func : (x : RefVal) → ref_in (base_of m) n place ≡ Some x → func_of (Ref x) ≡ None → ComesToAct m calls r (act.Leaves (flow.Stopped why.Trap)) new
          no_func (FuncRef o) e h = trap_stops known (rw (t.address, t.there, named r.operands new.operands t.table place pop, slot_is (Some (FuncRef o)) e, h)) (λ rest p. rw (t.address, t.there, pop, slot_is (Some (FuncRef o)) e, h))
          no_func (ExternRef o) e h = trap_stops known (rw (t.address, t.there, named r.operands new.operands t.table place pop, slot_is (Some (ExternRef o)) e)) (λ rest p. rw (t.address, t.there, pop, slot_is (Some (ExternRef o)) e))

          no_func_at : (v : Val) (o : Option RefVal) → ref_in (base_of m) n place ≡ o → (o >>= λ x. Some (Ref x)) ≡ Some v → func_of v ≡ None → ComesToAct m calls r (act.Leaves (flow.Stopped why.Trap)) new
          no_func_at v None e g h = absurd (let k = g in cc)
          no_func_at v (Some x) e g h = let is : Ref x ≡ v = same_Some (Ref x) v g in no_func x e (ap func_of is ∙ h)

          -- The slot refers to a function.
          module _ (func : ℕ) (at : ref_in (base_of m) n place ≡ Some (FuncRef (Some func))) where
            pub indirect_import : is_some (own_at (base_of m).store func) ≡ true → ComesToAct m calls r (act.Leaves (flow.Stopped why.Import)) new
            indirect_import o = λ rest p es.
                rw same (by_layer m r calls layer rest p es _ (i.outs-CallIndirect ty n)
                (rw (none_of Types type_kind m.imports 0, none_before ty, own_table m r.kept f n le, t.address, pop, u, t.there, named r.operands new.operands t.table place pop, slot_is (Some (FuncRef (Some func))) at, o)))

            module _ (own : own_at (base_of m).store func ≡ None) where
              no_import : calls_import layer (env_in m r.kept) r.operands ≡ false
              no_import = rw (t.address, t.there, named r.operands new.operands t.table place pop, slot_is (Some (FuncRef (Some func))) at, own)

              other_type : (x : Option FuncType) → type_at (base_of m).store func ≡ x → (asked : Option FuncType) → slice_get m.types ty ≡ asked → ((type_matches m ty func ≡ Some true) → ⊥) → (rest : List Instr) (p : LevelPlace) → ended (done_by m r layer rest p) ≡ Err why.Trap
              other_type None e asked g h rest p = rw (t.address, t.there, pop, slot_is (Some (FuncRef (Some func))) at, e)
              other_type (Some has) e None g h rest p = rw (t.address, t.there, pop, slot_is (Some (FuncRef (Some func))) at, e, g)
              other_type (Some has) e (Some a) g h rest p = by (same_func_type a has) refl
                where
                  by : (b : Bool) → same_func_type a has ≡ b → ended (done_by m r layer rest p) ≡ Err why.Trap
                  by true s = absurd (h (rw (g, e, s)))
                  by false s = rw (t.address, t.there, pop, slot_is (Some (FuncRef (Some func))) at, e, g, s)

              pub indirect_other : ((type_matches m ty func ≡ Some true) → ⊥) → ComesToAct m calls r (act.Leaves (flow.Stopped why.Trap)) new
              indirect_other h = trap_stops known no_import (other_type (type_at (base_of m).store func) refl (slice_get m.types ty) refl h)

              -- The function is entered.
              module _ (here : new.locals ≡ r.locals) (rest : List Instr) (p : LevelPlace) (es : List Entry) where
                abbrev Enters : Type 0
                Enters = begun_by m r calls layer rest p es (done_by m r layer rest p) ≡ called m new func rest p es

                module _ (asked has : FuncType) (locals : List ValType) (body : List Instr) (g : slice_get m.types ty ≡ Some asked) (e : slice_get (store_in m r.kept).funcs func ≡ Some (Code has (own_inst m) locals body)) (s : same_func_type asked has ≡ true) where
                  done_is : done_by m r layer rest p ≡ Gives (Calls func new.operands (body_at r rest p))
                  done_is = rw (t.address, t.there, pop, slot_is (Some (FuncRef (Some func))) at, e, g, s)

                  abbrev Enters_with : Outcome Act → Type 0
                  Enters_with done = begun_by m r calls layer rest p es done ≡ called m new func rest p es

                  enters : (q : Outcome (List Val × List Val)) → pop_typed has.params new.operands ≡ q → (b : Bool) → nat_lt r.kept.turns (length locals / 64) ≡ b → (d : Bool) → nat_le MOST_DEPTH (depth p es) ≡ d → Enters_with (Gives (Calls func new.operands (body_at r rest p)))
                  enters Traps q b h d k = rw (same, here, none_of Types type_kind m.imports 0, none_before ty, own_table m r.kept f n le, t.address, pop, u, t.there, named r.operands new.operands t.table place pop, slot_is (Some (FuncRef (Some func))) at, e, q)
                  enters IllTyped q b h d k = rw (same, here, none_of Types type_kind m.imports 0, none_before ty, own_table m r.kept f n le, t.address, pop, u, t.there, named r.operands new.operands t.table place pop, slot_is (Some (FuncRef (Some func))) at, e, q)
                  enters (Gives x) q true h d k = rw (same, here, none_of Types type_kind m.imports 0, none_before ty, own_table m r.kept f n le, t.address, pop, u, t.there, named r.operands new.operands t.table place pop, slot_is (Some (FuncRef (Some func))) at, e, q, h)
                  enters (Gives x) q false h true k = rw (same, here, none_of Types type_kind m.imports 0, none_before ty, own_table m r.kept f n le, t.address, pop, u, t.there, named r.operands new.operands t.table place pop, slot_is (Some (FuncRef (Some func))) at, e, q, h, k)
                  enters (Gives x) q false h false k = rw (same, here, none_of Types type_kind m.imports 0, none_before ty, own_table m r.kept f n le, t.address, pop, u, t.there, named r.operands new.operands t.table place pop, slot_is (Some (FuncRef (Some func))) at, e, q, h, k)

                  entered : Enters
                  entered = rw done_is (enters (pop_typed has.params new.operands) refl (nat_lt r.kept.turns (length locals / 64)) refl (nat_le MOST_DEPTH (depth p es)) refl)

                module _ (valid : ImportsAreTyped m) (matches : type_matches m ty func ≡ Some true) where
                  by_asked : (has : FuncType) (locals : List ValType) (body : List Instr) → slice_get (store_in m r.kept).funcs func ≡ Some (Code has (own_inst m) locals body) → (asked : Option FuncType) → slice_get m.types ty ≡ asked → Enters
                  by_asked has locals body e None g = absurd (let k = rw g at matches in cc)
                  by_asked has locals body e (Some asked) g = entered asked has locals body g e (same_Some (same_func_type asked has) true (rw (g, e) at matches))

                  by_func : (x : Option Func) → slice_get (store_in m r.kept).funcs func ≡ x → Enters
                  by_func None e = absurd (unmatched (slice_get m.types ty) (type_at (base_of m).store func) (rw e) matches)
                  by_func (Some x) e = elim (either m (store_in m r.kept).funcs (funcs_now_are m r.kept valid f) func x e) [
                    | inl q ↦ absurd (let k = rw (e, q.1) at own in cc)
                    | inr q ↦ by_asked q.0.0 q.0.1 q.0.2 (e ∙ ap Some q.1) (slice_get m.types ty) refl
                  ]

            pub indirect_reaches : ImportsAreTyped m → new.locals ≡ r.locals → (a : MachineAct) → ReachesThroughTable m ty func a → ComesToAct m calls r a new
            indirect_reaches valid here (act.Calls x) (e, own, matches) = λ rest p es. rw e (by_layer m r calls layer rest p es _ (i.outs-CallIndirect ty n) (by_func own here rest p es valid matches (slice_get (store_in m r.kept).funcs func) refl))
            indirect_reaches valid here (act.Leaves (flow.Stopped why.Import)) h = indirect_import h
            indirect_reaches valid here (act.Leaves (flow.Stopped why.Trap)) h = indirect_other h.0 h.1
            indirect_reaches valid here _ h = elim h [ ]

          -- The call of the function that the machine finds in a known slot.
          pub indirect_at : ImportsAreTyped m → new.locals ≡ r.locals → (v : Value) (func : ℕ) → IsSlot (base_of m) n place (slot.Known v) → func_of (val_of v) ≡ Some func → (a : MachineAct) → ReachesThroughTable m ty func a → ComesToAct m calls r a new
          indirect_at valid here v func h g a reaches = by (ref_in (base_of m) n place) refl h.1
            where
              by_ref : (x : RefVal) → ref_in (base_of m) n place ≡ Some x → func_of (Ref x) ≡ Some func → ComesToAct m calls r a new
              by_ref (FuncRef o) e k = indirect_reaches func (e ∙ ap (λ y. Some (FuncRef y)) k) valid here a reaches
              by_ref (ExternRef o) e k = absurd (let z = k in cc)

              by : (o : Option RefVal) → ref_in (base_of m) n place ≡ o → (o >>= λ x. Some (Ref x)) ≡ Some (val_of v) → ComesToAct m calls r a new
              by None e k = absurd (let z = k in cc)
              by (Some x) e k = by_ref x e (ap func_of (same_Some (Ref x) (val_of v) k) ∙ g)

          pub indirect_nothing : (v : Value) → IsSlot (base_of m) n place (slot.Known v) → func_of (val_of v) ≡ None → ComesToAct m calls r (act.Leaves (flow.Stopped why.Trap)) new
          indirect_nothing v h g = no_func_at (val_of v) (ref_in (base_of m) n place) refl h.1 g
