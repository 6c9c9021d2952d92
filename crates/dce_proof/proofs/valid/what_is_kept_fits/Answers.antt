use Rattle.dce_proof.proofs.KeptBounds.{kept_bounded}
use Rattle.dce_proof.proofs.ItemOrigins.{item_there}
use Rattle.dce_proof.proofs.SweepMapEntries.{kept_fits}
use Rattle.dce_proof.proofs.valid.what_is_kept_fits.Goals as goal

pub returns : goal.returns
returns c = record {
  entries = λ k m. kept_fits k m c.renumbering_keeps_typing.ensures.tree_entries;
  funcs = λ k m valid closed few. (kept_bounded k m closed ((c.valid_where_items_hold.ensures m).0 valid) few).funcs;
  items = item_there;
}
