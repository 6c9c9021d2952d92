use Rattle.std.proofs.Common.{◌∙◌, Some, ap, sym}
use Rattle.eval_machine.proofs.InitialState.{names_func, reads_zero}
use Rattle.eval_machine.proofs.initial.initial_value.Goals as goal

pub returns-in-Func : goal.returns-in-Func
returns-in-Func c m e = rw c.in-Func.is (names_func m c.in-Func.func c.args.def.ty.ty (rw c.in-Func.is at e))

pub returns-in-Global : goal.returns-in-Global
returns-in-Global c m e = rw c.in-Global.is (reads_zero m c.in-Global.field-0 c.args.def.ty.ty (rw c.in-Global.is at e) ∙ ap Some (sym c.zero.ensures))
