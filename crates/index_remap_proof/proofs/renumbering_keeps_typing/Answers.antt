use Rattle.index_remap.specs.Prelude.{has_entry}
use Rattle.index_remap_proof.proofs.Along.{kept_along, kept_by_index}
use Rattle.index_remap_proof.proofs.Entries.{body_fits}
use Rattle.index_remap_proof.proofs.Items.{const_kept}
use Rattle.index_remap_proof.proofs.TreeEntries.{tree_fits}
use Rattle.index_remap_proof.proofs.WholeTrees.{tree_named}
use Rattle.index_remap_proof.proofs.renumbering_keeps_typing.Goals as goal

pub returns : goal.returns
returns c = record {
  bodies = kept_along c.steps_agree.ensures.typed c.steps_agree.ensures.not_opaque;
  by_index = kept_by_index c.steps_agree.ensures.typed c.steps_agree.ensures.not_opaque;
  constants = λ m kept t u e k. const_kept m kept t u k e;
  entries = λ m d is ps rs k. body_fits m d k c.operands_pass_layer_by_layer.ensures.layers is ps rs;
  tree_entries = λ m t valid k. tree_fits c.operands_pass_layer_by_layer.ensures.layers m t k c.valid_where_items_hold.ensures valid;
  named = λ m is. (c.operands_pass_layer_by_layer.ensures.layers (has_entry m) is).0;
  tree_named = tree_named c.operands_pass_layer_by_layer.ensures.layers;
}
