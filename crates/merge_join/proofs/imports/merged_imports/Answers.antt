use Rattle.base_lists.proofs.Common.{◌∙◌, length, arith, filter, filter_map}
use Rattle.wasm_meaning.specs.Prelude.{sites_in}
use Rattle.merge_spec.specs.Prelude.{named_modules, stays, merged_import}
use Rattle.merge_join.proofs.ByPart.{part_more, part_all, module_exists}
use Rattle.merge_join.proofs.Staying.{kept_imports}
use Rattle.merge_join.proofs.imports.merged_imports.Goals as goal

pub loop-part-preserved : goal.loop-part-preserved
loop-part-preserved c =
    let ps = named_modules c.args.joining.now.parts.now in
    let m = module_exists c.args.joining.now.parts.now c.loop-part.part c.loop-part-test.true in
    part_more (λ p m. filter_map (merged_import ps) (filter (stays ps) (sites_in p (length m.imports) 0))) ps c.loop-part.part m.0 c.loop-part.all c.add_imports.new.all m.1 c.loop-part.invariant (c.in_ok-add_imports.ensures m.0 m.1)

pub returns : goal.returns
returns c =
    let ps = named_modules c.args.joining.now.parts.now in
    part_all (λ p m. filter_map (merged_import ps) (filter (stays ps) (sites_in p (length m.imports) 0))) c.args.joining.now.parts.now c.loop-part.part c.loop-part.all (omega (arith, c.loop-part-test.false)) c.loop-part.invariant
    ∙ kept_imports ps (merged_import ps)
