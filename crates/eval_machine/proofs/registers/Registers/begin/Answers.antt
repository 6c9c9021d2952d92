use Rattle.std.proofs.Common.{[], refl}
use Rattle.eval_machine.proofs.CallInstructions.{call_begins}
use Rattle.eval_machine.proofs.Openings.{block_begins, loop_begins, if_begins, if_traps, not_zero_chooses, zero_chooses}
use Rattle.eval_machine.proofs.SimpleInstructions.{simple}
use Rattle.eval_machine.proofs.registers.Registers.begin.Goals as goal

pub returns-in-Block-clause-begins : goal.returns-in-Block-clause-begins
returns-in-Block-clause-begins c = block_begins c.args.input.now c.args.instr.now c.args.self.now c.in-Block.ty c.in-Block.body c.opening.result c.in-Block.is c.opening.ensures

pub returns-in-Loop-clause-begins : goal.returns-in-Loop-clause-begins
returns-in-Loop-clause-begins c = loop_begins c.args.input.now c.args.instr.now c.args.self.now c.in-Loop.ty c.in-Loop.body c.opening-in-Loop.result c.in-Loop.is c.opening-in-Loop.ensures

pub returns-in-Some-eq0-clause-begins : goal.returns-in-Some-eq0-clause-begins
returns-in-Some-eq0-clause-begins c =
    if_begins c.args.input.now c.args.instr.now c.args.self.now c.in-If.ty c.in-If.other c.in-If.body c.in-If.other c.in-Some-eq0.field-0
    (record c.args.self.now { operands = c.pop_narrow.new.self }) c.opening-in-Some-eq0.result c.in-If.is c.in-Some-eq0.ensures.some refl refl
    (zero_chooses c.in-Some-eq0.field-0 c.in-If.other c.in-If.body c.in-Some-eq0.field-0-test) c.opening-in-Some-eq0.ensures

pub returns-in-Some-clause-begins : goal.returns-in-Some-clause-begins
returns-in-Some-clause-begins c =
    if_begins c.args.input.now c.args.instr.now c.args.self.now c.in-If.ty c.in-If.body c.in-If.body c.in-If.other c.in-Some.field-0
    (record c.args.self.now { operands = c.pop_narrow.new.self }) c.opening-in-Some.result c.in-If.is c.in-Some.ensures.some refl refl
    (not_zero_chooses c.in-Some.field-0 c.in-If.other c.in-If.body c.in-Some.field-0-test.1) c.opening-in-Some.ensures

pub returns-in-None-clause-begins : goal.returns-in-None-clause-begins
returns-in-None-clause-begins c = rw c.stopped.ensures (if_traps c.args.input.now c.args.instr.now c.args.self.now c.in-If.ty [] c.in-If.body c.in-If.other (record c.args.self.now { operands = c.pop_narrow.new.self }) c.in-If.is (c.in-None.ensures.none refl) refl)

pub returns-in-Call-clause-begins : goal.returns-in-Call-clause-begins
returns-in-Call-clause-begins c = call_begins c.args.input.now c.args.instr.now c.args.self.now c.in-Call.func (c.imported_functions_are_typed.ensures c.args.input.now c.requires.valid) c.requires.fits c.in-Call.is

pub returns-in-Some-2 : goal.returns-in-Some-2
returns-in-Some-2 c =
    let is = simple c.args.instr.now (record {
      no_block = c.in_default.not-Block;
      no_loop = c.in_default.not-Loop;
      no_if = c.in_default.not-If;
      no_br = c.in_default.not-Br;
      no_brif = c.in_default.not-BrIf;
      no_brtable = c.in_default.not-BrTable;
      no_return = c.in_default.not-Return;
      no_call = c.in_default.not-Call;
      no_callindirect = c.in_default.not-CallIndirect;
    }) in
    record { begins = rw c.stopped-in-Some-2.ensures (rw c.in-Some-2.is at (c.in_ok-stop-in_default.ensures.begins is)); stays = c.simple.ensures.stays }
