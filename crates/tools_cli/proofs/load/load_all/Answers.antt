use Rattle.base_lists.proofs.Common.{◌≡◌, false, Err, arith}
use Rattle.tools_cli_spec.specs.Prelude.{Text, LoadsFile, OneFails}
use Rattle.tools_cli_decide.specs.Prelude.{input_entries}
use Rattle.tools_cli.proofs.Loading.{stops_weaker, short_input, all_load, fails_here}
use Rattle.tools_cli.proofs.load.load_all.Goals as goal

pub load-requires : goal.load-requires
load-requires c = short_input c.args.inputs.now c.loop-input.input-index c.input-item.result c.loop-input-test.true c.input-item.is c.requires

pub returns-clause-loaded : goal.returns-clause-loaded
returns-clause-loaded c = all_load c.args.inputs.now c.loop-input.input-index c.loop-input.modules.items c.loop-input-test.false c.loop-input.invariant.load

pub returns-in_err-tree-clause-stops : goal.returns-in_err-tree-clause-stops
returns-in_err-tree-clause-stops c =
    let x = c.input-item.result in
    let stop = c.in_err-tree.field-0.0 in
    let gone : c.from_residual.result ≡ Err stop = grind arith in
    let P : Text → Type 0 = λ text. LoadsFile false x.name.now x.bytes.items (Err text) in
    let Q : Text → Type 0 = OneFails false (input_entries c.args.inputs.now) in
    rw gone (stops_weaker P Q (fails_here c.args.inputs.now c.loop-input.input-index x c.loop-input-test.true c.input-item.is c.loop-input.invariant.fail) stop c.in_err-tree.ensures.stops)
