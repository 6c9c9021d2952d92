use Rattle.std.proofs.Common.{subst}
use Rattle.wasm_valid.specs.Validity.{IsValid}
use Rattle.tools_cli_decide.proofs.MetadceDecided.{exact_marks, closed_marks}
use Rattle.tools_cli_decide.proofs.sweeping.marks_in.Goals as goal

pub returns-clause-exact : goal.returns-clause-exact
returns-clause-exact c = exact_marks c.reached.result c.args.graph.now c.args.module.now c.reached.ensures.exactly c.reached.ensures.one_each

pub returns-clause-closed : goal.returns-clause-closed
returns-clause-closed c =
    let valid : IsValid c.args.module.now = subst IsValid c.module-valid.ensures.value c.module-valid.ensures.valid in
    closed_marks c.reached.result c.args.graph.now c.args.module.now c.reached_marks_are_closed.ensures.closed valid
    (exact_marks c.reached.result c.args.graph.now c.args.module.now c.reached.ensures.exactly c.reached.ensures.one_each)
