use Rattle.base_lists.proofs.Common.{◌≡◌, ◌∙◌, length, rules, string_bytes, codes}
use Rattle.wasm_write_spec.specs.Plain.{plain}
use Rattle.tools_cli_decide.proofs.SampleText.{added_as, five_added}
use Rattle.tools_cli_decide.proofs.sample_lines.sample_lines.Goals as goal

pub returns : goal.returns
returns c =
    let s0 = string_bytes c.new-lines.result in
    let s1 = string_bytes c.add.new.lines in
    let s2 = string_bytes c.add-2.new.lines in
    let s3 = string_bytes c.add-3.new.lines in
    let s4 = string_bytes c.add-4.new.lines in
    let s5 = string_bytes c.add-5.new.lines in
    let bytes : c.len-3.result ≡ length (plain c.args.tree.now) = search rules in
    let whole : c.into_bytes.result.items ≡ string_bytes c.push_str.new.self = search rules in
    whole
    ∙ five_added s0 s1 s2 s3 s4 s5 (string_bytes c.push_str.new.self) (codes "sample seed ") (codes " count ") (codes "\nparts 2\nfunctions ") (codes "\nexports ") (codes "\nbytes ") (codes "\n")
    c.args.sample.now.seed c.args.sample.now.count (length c.args.tree.now.funcs) (length c.args.tree.now.exports) (length (plain c.args.tree.now))
    c.new-lines.ensures.bytes c.in_ok-add.ensures c.in_ok-add-2.ensures (added_as s2 s3 (codes "\nparts 2\nfunctions ") _ _ c.len.ensures c.in_ok-add-3.ensures) (added_as s3 s4 (codes "\nexports ") _ _ c.len-2.ensures c.in_ok-add-4.ensures)
    (added_as s4 s5 (codes "\nbytes ") _ _ bytes c.in_ok-add-5.ensures) c.in_ok-push_str.ensures.bytes
