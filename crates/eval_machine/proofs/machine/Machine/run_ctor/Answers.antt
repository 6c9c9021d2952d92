use Rattle.std.proofs.Common.{None, Some, subst}
use Rattle.wasm_valid.specs.Validity.{IsValid}
use Rattle.eval_machine.specs.Marks.{AreMarked}
use Rattle.eval_machine.specs.Calls.{CallEnds}
use Rattle.eval_machine.proofs.ConstructorCalls.{back_rests, done, done_rests, left, only_is, stopped}
use Rattle.eval_machine.proofs.HostCalls.{type_there}
use Rattle.eval_machine.proofs.machine.Machine.run_ctor.Goals as goal

pub call-requires-clause-there : goal.call-requires-clause-there
call-requires-clause-there c =
    type_there c.module.result.now (c.imported_functions_are_typed.ensures c.module.result.now c.module.ensures.valid) ((c.valid_where_items_hold.ensures c.module.result.now).0 c.module.ensures.valid) c.args.func (rw c.module.ensures.value c.requires.there)

pub returns-in-Ok-None-clause-done : goal.returns-in-Ok-None-clause-done
returns-in-Ok-None-clause-done c =
    let only = only_is c.self.inside.registers.kept c.args.self.now c.mark.new.self c.mark.ensures.rest c.self.view_is in
    let are : AreMarked c.args.self.now.memory c.mark.new.self.memory = subst (λ k. AreMarked k.memory c.mark.new.self.memory) c.self.view_is c.mark.ensures.marked in
    let ends : CallEnds c.module.result.now c.args.func c.mark.new.self None c.call.new.self.kept = rw c.in-Ok-None.field-0-is at c.in-Ok-None.ensures.ends in
    done c.args.input.now c.args.func c.args.self.now c.mark.new.self c.requires.rests only are c.mark.ensures.none c.call.new.self.kept c.commit.new.self c.in-Ok-None.ensures.stays c.commit.ensures.rest c.commit.ensures.keeps
    (subst (λ m. CallEnds m c.args.func c.mark.new.self None c.call.new.self.kept) c.module.ensures.value ends)

pub returns-in-Ok-None-clause-rests : goal.returns-in-Ok-None-clause-rests
returns-in-Ok-None-clause-rests c =
    let only = only_is c.self.inside.registers.kept c.args.self.now c.mark.new.self c.mark.ensures.rest c.self.view_is in
    let are : AreMarked c.args.self.now.memory c.mark.new.self.memory = subst (λ k. AreMarked k.memory c.mark.new.self.memory) c.self.view_is c.mark.ensures.marked in
    let ends : CallEnds c.module.result.now c.args.func c.mark.new.self None c.call.new.self.kept = rw c.in-Ok-None.field-0-is at c.in-Ok-None.ensures.ends in
    let valid : IsValid c.args.input.now = subst IsValid c.module.ensures.value c.module.ensures.valid in
    done_rests c.args.input.now c.args.func c.args.self.now c.mark.new.self c.requires.rests only are c.mark.ensures.none c.call.new.self.kept c.commit.new.self c.in-Ok-None.ensures.stays c.commit.ensures.rest c.commit.ensures.keeps c.calls_keep_values_of_globals.ensures.references
    c.calls_keep_values_of_globals.ensures.types valid
    (subst (λ m. CallEnds m c.args.func c.mark.new.self None c.call.new.self.kept) c.module.ensures.value ends)

pub returns-in-Ok-Some-clause-stopped : goal.returns-in-Ok-Some-clause-stopped
returns-in-Ok-Some-clause-stopped c =
    let only = only_is c.self.inside.registers.kept c.args.self.now c.mark.new.self c.mark.ensures.rest c.self.view_is in
    let are : AreMarked c.args.self.now.memory c.mark.new.self.memory = subst (λ k. AreMarked k.memory c.mark.new.self.memory) c.self.view_is c.mark.ensures.marked in
    let ends : CallEnds c.module.result.now c.args.func c.mark.new.self (Some c.in-Ok-Some.stop) c.call.new.self.kept = rw c.in-Ok-Some.field-0-is at c.in-Ok-Some.ensures.ends in
    stopped c.args.input.now c.args.func c.args.self.now c.mark.new.self c.requires.rests only are c.mark.ensures.none c.call.new.self.kept c.rollback.new.self c.in-Ok-Some.ensures.stays c.rollback.ensures.rest c.rollback.ensures.rolls c.rollback.ensures.globals c.rollback.ensures.dropped
    c.in-Ok-Some.stop
    (subst (λ m. CallEnds m c.args.func c.mark.new.self (Some c.in-Ok-Some.stop) c.call.new.self.kept) c.module.ensures.value ends)

pub returns-in-Ok-Some-clause-rests : goal.returns-in-Ok-Some-clause-rests
returns-in-Ok-Some-clause-rests c =
    let only = only_is c.self.inside.registers.kept c.args.self.now c.mark.new.self c.mark.ensures.rest c.self.view_is in
    let are : AreMarked c.args.self.now.memory c.mark.new.self.memory = subst (λ k. AreMarked k.memory c.mark.new.self.memory) c.self.view_is c.mark.ensures.marked in
    back_rests c.args.input.now c.args.func c.args.self.now c.mark.new.self c.requires.rests only are c.mark.ensures.none c.call.new.self.kept c.rollback.new.self c.in-Ok-Some.ensures.stays c.rollback.ensures.rest c.rollback.ensures.rolls c.rollback.ensures.globals c.rollback.ensures.dropped
    c.rollback.ensures.flags

pub returns-in-Err-clause-rests : goal.returns-in-Err-clause-rests
returns-in-Err-clause-rests c =
    let only = only_is c.self.inside.registers.kept c.args.self.now c.mark.new.self c.mark.ensures.rest c.self.view_is in
    let are : AreMarked c.args.self.now.memory c.mark.new.self.memory = subst (λ k. AreMarked k.memory c.mark.new.self.memory) c.self.view_is c.mark.ensures.marked in
    back_rests c.args.input.now c.args.func c.args.self.now c.mark.new.self c.requires.rests only are c.mark.ensures.none c.call.new.self.kept c.rollback-in-Err.new.self c.in-Err.ensures.stays c.rollback-in-Err.ensures.rest c.rollback-in-Err.ensures.rolls c.rollback-in-Err.ensures.globals
    c.rollback-in-Err.ensures.dropped c.rollback-in-Err.ensures.flags

pub returns-in-Ok-Some-clause-left : goal.returns-in-Ok-Some-clause-left
returns-in-Ok-Some-clause-left c =
    let only = only_is c.self.inside.registers.kept c.args.self.now c.mark.new.self c.mark.ensures.rest c.self.view_is in
    let are : AreMarked c.args.self.now.memory c.mark.new.self.memory = subst (λ k. AreMarked k.memory c.mark.new.self.memory) c.self.view_is c.mark.ensures.marked in
    left c.args.input.now c.args.func c.args.self.now c.mark.new.self c.requires.rests only are c.mark.ensures.none c.call.new.self.kept c.rollback.new.self c.in-Ok-Some.ensures.stays c.rollback.ensures.rest c.rollback.ensures.rolls c.rollback.ensures.globals c.rollback.ensures.dropped

pub returns-in-Err-clause-left : goal.returns-in-Err-clause-left
returns-in-Err-clause-left c =
    let only = only_is c.self.inside.registers.kept c.args.self.now c.mark.new.self c.mark.ensures.rest c.self.view_is in
    let are : AreMarked c.args.self.now.memory c.mark.new.self.memory = subst (λ k. AreMarked k.memory c.mark.new.self.memory) c.self.view_is c.mark.ensures.marked in
    left c.args.input.now c.args.func c.args.self.now c.mark.new.self c.requires.rests only are c.mark.ensures.none c.call.new.self.kept c.rollback-in-Err.new.self c.in-Err.ensures.stays c.rollback-in-Err.ensures.rest c.rollback-in-Err.ensures.rolls c.rollback-in-Err.ensures.globals
    c.rollback-in-Err.ensures.dropped
