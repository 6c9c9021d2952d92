use Rattle.std.proofs.Common.{◌∙◌, ap, ◌++◌, option_map}
use Rattle.std.specs.Prelude.{codes, decimal, unwrap_or}
use Rattle.tools_cli_decide.proofs.Lines.{one_or}
use Rattle.tools_cli_decide.proofs.Lines.{three_more}
use Rattle.tools_cli_decide.proofs.kept_funcs.add_line.Goals as goal

pub returns : goal.returns
returns c =
    let old = c.args.lines.now.items in
    let name = option_map (λ t. t.now) c.args.name in
    let told = ap (λ t. t.now) c.unwrap_or.ensures ∙ one_or c.args.name c.as_str.result ∙ ap (unwrap_or name) (c.as_str.ensures ∙ ap decimal c.in_ok-digits.ensures) in
    three_more old _ _ _ _ _ _ c.in_ok-extend_from_slice.ensures.items c.in_ok-extend_from_slice-2.ensures.items c.in_ok-extend_from_slice-3.ensures.items
    ∙ ap (λ l. old ++ (l ++ (c.as_bytes-2.result.now ++ c.as_bytes-3.result.now))) c.as_bytes.ensures.value
    ∙ ap (λ l. old ++ (codes "kept " ++ (c.as_bytes-2.result.now ++ l))) c.as_bytes-3.ensures.value
    ∙ ap (λ l. old ++ (codes "kept " ++ (l ++ codes ": uses a segment\n"))) (c.as_bytes-2.ensures.value ∙ told)
