use Rattle.base_lists.proofs.Common.{arith}
use Rattle.wasm_tree_spec.specs.Prelude.{Types}
use Rattle.merge_spec.specs.Prelude.{named_modules}
use Rattle.merge_join.proofs.Counts.{types_count}
use Rattle.merge_join.proofs.tree.plan_over.Goals as goal

pub all_types-requires : goal.all_types-requires
all_types-requires c = omega (arith, types_count (named_modules c.args.parts.now), c.requires.linked.few.entries Types)
