use Rattle.std.proofs.Common.{◌<◌, ◌≤◌, sym, rules, length}
use Rattle.wasm_write_spec.specs.Plain.{plain}
use Rattle.tools_cli_spec.specs.Job.{most_output}
use Rattle.tools_cli.proofs.Encoding.{fits_is, exceeds_is, one_within, one_exceeds, none_left}
use Rattle.tools_cli.proofs.encode.are_within.Goals as goal

pub returns-then-not-fits : goal.returns-then-not-fits
returns-then-not-fits c =
    let x = c.output-item.result in
    let large : most_output < length (plain x.tree) = search rules in
    sym (one_exceeds _ c.args.outputs.now c.loop-output.output-index x c.loop-output-test.true c.output-item.is (exceeds_is x.tree large) c.loop-output.invariant)

pub loop-output-preserved : goal.loop-output-preserved
loop-output-preserved c =
    let x = c.output-item.result in
    let fits : length (plain x.tree) ≤ most_output = search rules in
    one_within _ c.args.outputs.now c.loop-output.output-index x c.loop-output-test.true c.output-item.is (fits_is x.tree fits) c.loop-output.invariant

pub returns : goal.returns
returns c = sym (none_left _ c.args.outputs.now c.loop-output.output-index c.loop-output-test.false c.loop-output.invariant)
