use Rattle.tools_cli_eval.proofs.Looked.{found_more}
use Rattle.std.proofs.Common.{◌≡◌, ◌∙◌, ◌+◌, ap, sym, subst, Some}
use Rattle.eval_snapshot_spec.specs.Evaluated.{func_named}
use Rattle.tools_cli_eval.specs.Named.{func_under}
use Rattle.tools_cli_eval.proofs.Looked.{Found}
use Rattle.tools_cli_eval.proofs.named.funcs_named.Goals as goal

pub loop-name-preserved : goal.loop-name-preserved
loop-name-preserved c =
    let m = c.args.module.now in
    let names = c.args.names.now in
    let i = c.loop-name.name-index in
    let x = c.name-item.result in
    let found = c.func_named.ensures c.as_slice.result.now c.in_ok-table.ensures ∙ (ap (func_under c.as_slice.result.now) c.as_str.ensures.text ∙ ap (λ es. func_under es x) c.as_slice.ensures) in
    let is : func_named m x ≡ Some c.in-Some.func = sym found ∙ c.in-Some.is in
    subst (λ fs. Found m names (i + 1) fs) (sym c.in_ok-keep.ensures.ok)
    (found_more m names i x c.loop-name.funcs c.loop-name.invariant c.loop-name-test.true c.name-item.is c.found_exports_are_there.ensures.there ((c.valid_where_items_hold.ensures m).0 c.requires) c.in-Some.func is)
