use Rattle.std.proofs.Common.{◌≡◌, sym, true, rules}
use Rattle.tools_cli_spec.specs.Numbers.{is_number}
use Rattle.tools_cli_decide.proofs.NumberTexts.{not_parsed}
use Rattle.tools_cli_decide.proofs.numbers.number_within.Goals as goal

pub returns-in_default-3 : goal.returns-in_default-3
returns-in_default-3 c =
    let e : is_number c.args.text.now ≡ true = search rules in
    sym (not_parsed c.args.text.now e c.in_default.field-0 c.in_default.ensures.value.0 c.args.least c.args.most c.ranges.most.fits)
