use Rattle.index_remap_proof.proofs.Items.{items_kept, items_weakly}
use Rattle.index_remap_proof.proofs.WholeTrees.{standing_valid, standing_weakly, tree_valid}
use Rattle.index_remap_proof.proofs.renumbered_trees_are_valid.Goals as goal

pub returns : goal.returns
returns c = record {
  items = λ m kept t u n i j k refs. items_kept m kept t u k c.renumbering_keeps_typing.ensures.bodies n i j refs;
  undeclared = λ m kept t u n i j k. items_weakly m kept t u k c.renumbering_keeps_typing.ensures.bodies n i j;
  trees = λ m kept t u valid k refs each. standing_valid c.valid_where_items_hold.ensures c.renumbering_keeps_typing.ensures.bodies m kept t u k valid each refs;
  undeclared_trees = λ m kept t u valid k each. standing_weakly c.valid_where_items_hold.ensures c.renumbering_keeps_typing.ensures.bodies m kept t u k valid each;
  renumbered = λ m kept t valid names k imports. tree_valid m kept t k imports names c.valid_where_items_hold.ensures c.renumbering_keeps_typing.ensures.bodies valid;
}
