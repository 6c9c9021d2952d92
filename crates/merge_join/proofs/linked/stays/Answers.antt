use Rattle.std.proofs.Common.{◌∙◌, sym, ap}
use Rattle.merge_spec.specs.Parts.{named_modules}
use Rattle.merge_join.specs.LinkedParts.{site}
use Rattle.merge_join.proofs.Ends.{is_self, stays_is, same_part, other_part}
use Rattle.merge_join.proofs.linked.stays.Goals as goal

pub returns-then-other-part : goal.returns-then-other-part
returns-then-other-part c =
    let s = site c.args.part c.args.import in
    same_part c.args.part c.args.import c.in-Outside.other c.in-Outside.place c.if-other-part.true
    ∙ ap (is_self s) (sym c.in-Outside.is) ∙ sym (stays_is (named_modules c.args.parts.now) s c.end_of.result c.end_of.ensures)

pub returns-else-other-part : goal.returns-else-other-part
returns-else-other-part c =
    let s = site c.args.part c.args.import in
    other_part c.args.part c.args.import c.in-Outside.other c.in-Outside.place c.if-other-part.false
    ∙ ap (is_self s) (sym c.in-Outside.is) ∙ sym (stays_is (named_modules c.args.parts.now) s c.end_of.result c.end_of.ensures)

pub returns-in-Defined : goal.returns-in-Defined
returns-in-Defined c =
    let s = site c.args.part c.args.import in
    ap (is_self s) (sym c.in-Defined.is) ∙ sym (stays_is (named_modules c.args.parts.now) s c.end_of.result c.end_of.ensures)
