use Rattle.merge_proof.proofs.MergedValidity.{Laws, joined_valid, joined_bounded, joined_single}
use Rattle.merge_proof.proofs.valid.merged_modules_are_valid.Goals as goal

laws : (c : goal.After-counts_are_within_where_none_is_over) → Laws
laws c = record {
  items = c.valid_where_items_hold.ensures;
  entries = c.renumbering_keeps_typing.ensures.tree_entries;
  named = c.renumbering_keeps_typing.ensures.tree_named;
  constants = c.renumbering_keeps_typing.ensures.constants;
  undeclared = c.renumbered_trees_are_valid.ensures.undeclared;
  valid = c.declared_trees_are_valid.ensures.valid;
  single = c.declared_trees_are_valid.ensures.single;
  bounded = c.declared_trees_are_valid.ensures.bounded;
  ends = c.ends_and_reads_are_paths.ensures.ends;
  reads = c.ends_and_reads_are_paths.ensures.reads;
  differ = c.given_names_differ.ensures.differ;
  first = c.conflicts_are_first.ensures.first;
  within = c.counts_are_within_where_none_is_over.ensures;
}

pub returns : goal.returns
returns c = record {
  valid = joined_valid (laws c);
  bounded = joined_bounded (laws c);
  single = joined_single (laws c);
}
