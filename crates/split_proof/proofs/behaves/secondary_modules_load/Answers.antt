use Rattle.split_proof.proofs.LoadsInRuns.{LoadLaws, secondaries_load, secondaries_always_load}
use Rattle.split_proof.proofs.behaves.secondary_modules_load.Goals as goal

pub returns : goal.returns
returns c =
    let laws : LoadLaws = record {
      items = c.valid_where_items_hold.ensures;
      primary = c.primary_modules_are_valid.ensures.valid;
      secondary = c.secondary_modules_are_valid.ensures.valid;
      leave = c.instantiated_stores_match_their_modules.ensures.added;
      typed = c.instances_stay_typed.ensures.made;
      stays = c.instances_stay_typed.ensures.stays;
      calls = c.stores_are_extended.ensures.call;
      loaders = c.stores_are_extended.ensures.loader;
      over = c.closed_runs_stay_closed.ensures.over;
      kept = c.store_extension_is_a_preorder.ensures.kept;
    } in
    record { load = secondaries_load laws; always = secondaries_always_load laws }
