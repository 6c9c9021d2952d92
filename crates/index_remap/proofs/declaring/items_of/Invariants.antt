use Rattle.base_lists.proofs.Common.{◌≡◌, map, filter, range_with_len}
use Rattle.wasm_tree.specs.declared.module.ConstExpr.TheVariants as const
use Rattle.index_remap.specs.Prelude.{marked_only}
use Rattle.index_remap.proofs.declaring.items_of.Given as goal

abbrev pub invariant-loop-func : goal.invariant-loop-func
invariant-loop-func l = l.items ≡ map const.Func (filter (marked_only l.inside l.outside) (range_with_len 0 l.func))
