use Rattle.std.proofs.Common.{length}
use Rattle.wasm_tree.specs.Spaces.{funcs_of}
use Rattle.eval_machine.proofs.ReferenceSteps.{ref_missing, ref_there, not_below}
use Rattle.eval_machine.proofs.kept.Kept.ref_func.Goals as goal

pub returns-then-not-is_func : goal.returns-then-not-is_func
returns-then-not-is_func c = ref_missing c.args.input.now c.args.self.now c.args.func c.args.operands.now c.args.operands.now (not_below c.args.func (length (funcs_of c.args.input.now)) c.is_func.result c.if-not-is_func.true c.is_func.ensures.1)

pub returns : goal.returns
returns c = rw c.in_ok-push.ensures (ref_there c.args.input.now c.args.self.now c.args.func c.args.operands.now c.args.operands.now (c.is_func.ensures.0 c.if-not-is_func.false))
