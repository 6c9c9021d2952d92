-- The step of an instruction that uses only operands and locals.
use Rattle.base_lists.proofs.Common.{◌≡◌, List, true, Option, Some, None, Ok, Err, refl, ap, ◌∙◌, subst, sym}
use Rattle.wasm_tree_spec.specs.Prelude.{Instr, out-Instr, Module}
use Rattle.wasm_tree.specs.declared.instr.Instr.TheOpen.{Instr-F}
use Rattle.wasm_meaning.specs.Prelude.{Outcome, Gives, Traps, IllTyped, Val, Entry}
use Rattle.eval_spec.specs.declared.stop.Stop.{Stop}
use Rattle.eval_spec.specs.declared.stop.Stop.TheVariants as why
use Rattle.eval_spec.specs.Prelude.{Stopped}
use Rattle.eval_machine.specs.declared.kept.Kept.{Kept}
use Rattle.eval_machine.specs.declared.registers.Registers.{Registers}
use Rattle.eval_machine.specs.Prelude.{ended, LevelPlace, body_at, BeginsWith, done_by, env_in}
use Rattle.eval_machine.specs.Instructions.{Begins, DoesPlainly, is_plain}
use Rattle.eval_machine.proofs.InstructionSteps.{IsStill, still, still_goes, still_stops}

pub ended_gives : {A : Type 0} (o : Outcome A) (a : A) → ended o ≡ Ok a → o ≡ Gives a
ended_gives (Gives b) a e = let same : b ≡ a = cc in ap Gives same
ended_gives Traps a e = absurd (let k = e in cc)
ended_gives IllTyped a e = absurd (let k = e in cc)

pub ended_trap : {A : Type 0} (o : Outcome A) (x : Stop) → ended o ≡ Err x → x ≡ why.Trap
ended_trap (Gives b) x e = absurd (let k = e in cc)
ended_trap Traps x e = cc
ended_trap IllTyped x e = cc

plain_still : (m : Module) (r : Registers) (o : Instr) (z : Instr-F Instr) (rest : List Instr) (p : LevelPlace) (es : List Entry) → is_plain z ≡ true → IsStill m r o z rest p es
plain_still m r o Instr-F.Unreachable rest p es e = record { grow = refl; table = refl; unknown = refl; import = refl; further = refl; opens = refl; few = refl; written = refl }
plain_still m r o Instr-F.Nop rest p es e = record { grow = refl; table = refl; unknown = refl; import = refl; further = refl; opens = refl; few = refl; written = refl }
plain_still m r o Instr-F.Drop rest p es e = record { grow = refl; table = refl; unknown = refl; import = refl; further = refl; opens = refl; few = refl; written = refl }
plain_still m r o Instr-F.Select rest p es e = record { grow = refl; table = refl; unknown = refl; import = refl; further = refl; opens = refl; few = refl; written = refl }
plain_still m r o (Instr-F.SelectTyped ts) rest p es e = record { grow = refl; table = refl; unknown = refl; import = refl; further = refl; opens = refl; few = refl; written = refl }
plain_still m r o (Instr-F.LocalGet n) rest p es e = record { grow = refl; table = refl; unknown = refl; import = refl; further = refl; opens = refl; few = refl; written = refl }
plain_still m r o (Instr-F.LocalSet n) rest p es e = record { grow = refl; table = refl; unknown = refl; import = refl; further = refl; opens = refl; few = refl; written = refl }
plain_still m r o (Instr-F.LocalTee n) rest p es e = record { grow = refl; table = refl; unknown = refl; import = refl; further = refl; opens = refl; few = refl; written = refl }
plain_still m r o (Instr-F.I32Const v) rest p es e = record { grow = refl; table = refl; unknown = refl; import = refl; further = refl; opens = refl; few = refl; written = refl }
plain_still m r o (Instr-F.I64Const v) rest p es e = record { grow = refl; table = refl; unknown = refl; import = refl; further = refl; opens = refl; few = refl; written = refl }
plain_still m r o (Instr-F.Un op) rest p es e = record { grow = refl; table = refl; unknown = refl; import = refl; further = refl; opens = refl; few = refl; written = refl }
plain_still m r o (Instr-F.Bin op) rest p es e = record { grow = refl; table = refl; unknown = refl; import = refl; further = refl; opens = refl; few = refl; written = refl }
plain_still m r o (Instr-F.RefNull ty) rest p es e = record { grow = refl; table = refl; unknown = refl; import = refl; further = refl; opens = refl; few = refl; written = refl }
plain_still m r o Instr-F.RefIsNull rest p es e = record { grow = refl; table = refl; unknown = refl; import = refl; further = refl; opens = refl; few = refl; written = refl }
plain_still m r o _ rest p es e = absurd (let k = e in cc)

pub plain_begins : (m : Module) (o : Instr) (r : Registers) (stop : Option Stop) (us ks : List Val) → is_plain (out-Instr o) ≡ true → DoesPlainly (out-Instr o) r.operands r.locals stop us ks →
    Begins m o r stop (record r { operands = us; locals = ks })
plain_begins m o r None us ks e d = λ rest p es.
    let s = plain_still m r o (out-Instr o) rest p es e in
    let done = done_by m r (out-Instr o) rest p in
    still m r o (out-Instr o) rest p es s done ∙ still_goes m r o (out-Instr o) rest p es done (record r { operands = us; locals = ks }) (ended_gives done _ (d (env_in m r.kept) (body_at r rest p))) refl
plain_begins m o r (Some x) us ks e d = λ rest p es.
    let s = plain_still m r o (out-Instr o) rest p es e in
    let done = done_by m r (out-Instr o) rest p in
    let same : x ≡ why.Trap = ended_trap done x (d (env_in m r.kept) (body_at r rest p)) in
    still m r o (out-Instr o) rest p es s done ∙ (still_stops m r o (out-Instr o) rest p es done (d (env_in m r.kept) (body_at r rest p) ∙ ap Err same) ∙ ap (λ y. Stopped y r.kept.turns) (sym same))

-- A step of an instruction is one of an instruction that is equal to it.
pub begins_as : (m : Module) (o z : Instr) (r : Registers) (stop : Option Stop) (j : Kept) (us : List Val) → o ≡ z → BeginsWith m z r.kept r.operands stop j us → Begins m o r stop (record r { kept = j; operands = us })
begins_as m o z r stop j us e b = subst (λ o. Begins m o r stop (record r { kept = j; operands = us })) (sym e) (b r.locals)
