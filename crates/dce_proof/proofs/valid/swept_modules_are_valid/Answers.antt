use Rattle.dce_proof.proofs.SweptModuleValidity.{Laws, swept_valid, swept_single, swept_bounded}
use Rattle.dce_proof.proofs.valid.swept_modules_are_valid.Goals as goal

laws : (c : goal.After-counts_are_within_where_none_is_over) → Laws
laws c = record {
  items = c.valid_where_items_hold.ensures;
  constants = c.renumbering_keeps_typing.ensures.constants;
  undeclared = c.renumbered_trees_are_valid.ensures.undeclared_trees;
  valid = c.declared_trees_are_valid.ensures.valid;
  single = c.declared_trees_are_valid.ensures.single;
  bounded = c.declared_trees_are_valid.ensures.bounded;
  within = c.counts_are_within_where_none_is_over.ensures;
}

pub returns : goal.returns
returns c = record {
  valid = swept_valid (laws c);
  single = swept_single (laws c);
  bounded = swept_bounded (laws c);
}
