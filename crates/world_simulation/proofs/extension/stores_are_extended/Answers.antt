use Rattle.world_simulation.proofs.RunStepExtension.{tick_extends, call_extends}
use Rattle.world_simulation.proofs.AddedModuleExtension.{own_segments_fill, segments_fill, added_extends, loader_extends}
use Rattle.world_simulation.proofs.extension.stores_are_extended.Goals as goal

pub returns : goal.returns
returns c = record {
  step = tick_extends c.steps_write_only_touched_places.ensures.writes;
  call = call_extends c.steps_write_only_touched_places.ensures.writes;
  own_segments = own_segments_fill;
  segments = segments_fill;
  added = added_extends;
  loader = loader_extends c.steps_write_only_touched_places.ensures.writes;
}
