use Rattle.std.proofs.Common.{◌<◌, ◌≤◌, length, refl, arith}
use Rattle.eval_machine.specs.DenotedValues.{val_of}
use Rattle.eval_machine.proofs.OperandStacks.{taken, too_few}
use Rattle.eval_machine.proofs.operands.Operands.take_top.Goals as goal

pub returns-then-len-count : goal.returns-then-len-count
returns-then-len-count c =
    let few : length c.self.inside.items < c.args.count = omega (arith, c.if-len-count.true, c.len-len.ensures) in (rw (← c.self.view_is) (too_few val_of c.self.inside.items c.args.count few), refl)

pub returns : goal.returns
returns c =
    let enough : c.args.count ≤ length c.self.inside.items = omega (arith, c.if-len-count.false, c.len-len.ensures) in
    rw (← c.self.view_is) (taken val_of c.self.inside.items c.split_off.new.self c.in_ok-items.items c.args.count enough (rw c.len-len.ensures at c.in_ok-items.ensures.front) (rw c.len-len.ensures at c.in_ok-items.ensures.back))
