use Rattle.std.proofs.Common.{◌∙◌, ap, ◌++◌, arith}
use Rattle.merge_join.proofs.Calling.{calling_is}
use Rattle.merge_join.proofs.Results.{ok_map}
use Rattle.merge_join.proofs.starts.add_calling.Goals as goal

pub returns : goal.returns
returns c = ok_map c.keep.result _ _ c.keep.ensures.ok (λ h ps same.
    h ∙ ap (λ x. c.args.funcs.now ++ x) (calling_is ps c.args.starts.now c.args.types.now.list c.new.result c.new-2.result c.in_ok-type_place.field-0 c.new-3.result c.in_ok-calls.field-0
    (omega (arith, c.if-starts-lt2.false)) same c.new.ensures c.new-2.ensures c.in_ok-type_place.ensures c.new-3.ensures c.in_ok-calls.ensures))
