use Rattle.base_lists.proofs.Common.{◌≡◌, length, drop, rules, into_iter_items}
use Rattle.merge_spec.specs.Prelude.{named_modules}
use Rattle.tools_cli_decide.specs.Prelude.{source_values}
use Rattle.tools_cli_decide.proofs.MergeDecided.{all_named}
use Rattle.tools_cli_decide.proofs.merging.name_parts.Goals as goal

pub returns : goal.returns
returns c =
    let none : length (into_iter_items c.loop-module.module-iterator) ≡ 0 = search rules in
    all_named (named_modules c.loop-module.parts) _ (source_values (drop (length c.loop-module.parts) c.args.sources.now)) (into_iter_items c.loop-module.module-iterator) none c.loop-module.invariant.named
