use Rattle.index_remap_proof.proofs.DeclaredTrees.{declared_valid, declared_single, declared_bounded, declared_stays, valid_weaker}
use Rattle.index_remap_proof.proofs.declared_trees_are_valid.Goals as goal

pub returns : goal.returns
returns c = record {
  valid = declared_valid c.valid_where_items_hold.ensures;
  single = declared_single;
  bounded = declared_bounded;
  stays = declared_stays c.valid_where_items_hold.ensures;
  weaker = valid_weaker c.valid_where_items_hold.ensures;
}
