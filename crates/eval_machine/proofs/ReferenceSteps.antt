-- The instruction ref.func.
use Rattle.base_lists.proofs.Common.{◌≡◌, ℕ, ◌<◌, ◌≤◌, arith, List, ◌∷◌, length, slice_get, Bool, false, Some, None, refl, inl, inr, IsTrue, cases_lt, slice_get_past, length-numbers}
use Rattle.wasm_tree.specs.declared.instr.Instr.TheVariants as i
use Rattle.wasm_tree_spec.specs.Prelude.{Instr, Module, funcs_of}
use Rattle.wasm_tree.specs.declared.instr.Instr.TheOpen.{Instr-F}
use Rattle.wasm_meaning.specs.Prelude.{FuncRef, Val, Ref, Entry}
use Rattle.eval_spec.specs.declared.stop.Stop.TheVariants as why
use Rattle.eval_spec.specs.Prelude.{own_inst}
use Rattle.eval_machine.specs.declared.kept.Kept.{Kept}
use Rattle.eval_machine.specs.Prelude.{LevelPlace, BeginsWith}
use Rattle.eval_machine.proofs.IndexSpaces.{address_of}
use Rattle.eval_machine.proofs.InstructionSteps.{IsStill, ends_on, ends_trap}

module _ (m : Module) (k : Kept) (n : ℕ) (vs us : List Val) where
  ref_still : (ls : List Val) (rest : List Instr) (p : LevelPlace) (es : List Entry) → IsStill m (record { kept = k; operands = vs; locals = ls }) (i.RefFunc n) (Instr-F.RefFunc n) rest p es
  ref_still ls rest p es = record { grow = refl; table = refl; unknown = refl; import = refl; further = refl; opens = refl; few = refl; written = refl }

  pub ref_missing : length (funcs_of m) ≤ n → BeginsWith m (i.RefFunc n) k vs (Some why.Trap) k us
  ref_missing le = λ ls rest p es.
      let none : slice_get (own_inst m).funcs n ≡ None = slice_get_past (own_inst m).funcs n (omega (arith, le, length-numbers 0 (length (funcs_of m)))) in
      ends_trap m (record { kept = k; operands = vs; locals = ls }) (i.RefFunc n) (Instr-F.RefFunc n) rest p es (i.outs-RefFunc n) (ref_still ls rest p es) (rw none)

  pub ref_there : n < length (funcs_of m) → BeginsWith m (i.RefFunc n) k vs None k (Ref (FuncRef (Some n)) ∷ vs)
  ref_there lt = λ ls rest p es.
      let at : slice_get (own_inst m).funcs n ≡ Some n = address_of (length (funcs_of m)) n lt in
      ends_on m (record { kept = k; operands = vs; locals = ls }) (i.RefFunc n) (Instr-F.RefFunc n) rest p es (i.outs-RefFunc n) (ref_still ls rest p es) (record { kept = k; operands = Ref (FuncRef (Some n)) ∷ vs; locals = ls }) (rw at) refl

-- A number is at least `k` if a test that holds below `k` does not hold.
pub not_below : (n k : ℕ) (b : Bool) → b ≡ false → (n < k → IsTrue b) → k ≤ n
not_below n k b e h = elim (cases_lt n k) [ inl lt ↦ absurd (let q = h lt in cc) | inr le ↦ le ]
