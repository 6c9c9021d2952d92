use Rattle.std.proofs.Common.{◌∙◌, sym, ap, ◌++◌, map, arith}
use Rattle.merge_names.specs.Given.{texts}
use Rattle.merge_spec.specs.Parts.{named_modules}
use Rattle.merge_join.proofs.ByPart.{part_more, part_all}
use Rattle.merge_join.proofs.Exported.{names_are}
use Rattle.merge_join.proofs.exports.all_names.Goals as goal

pub loop-part-preserved : goal.loop-part-preserved
loop-part-preserved c =
    part_more (λ p m. map (λ e. e.name) m.exports) (named_modules c.args.parts.now) c.loop-part.part c.module_of.result.now (texts c.loop-part.names.items) (texts c.add_names.new.names.items)
    c.module_of.ensures.at c.loop-part.invariant (c.in_ok-add_names.ensures ∙ ap (λ es. texts c.loop-part.names.items ++ map (λ e. e.name) es) c.as_slice.ensures)

pub returns : goal.returns
returns c =
    part_all (λ p m. map (λ e. e.name) m.exports) c.args.parts.now c.loop-part.part (texts c.loop-part.names.items) (omega (arith, c.loop-part-test.false)) c.loop-part.invariant
    ∙ sym (names_are (named_modules c.args.parts.now))
