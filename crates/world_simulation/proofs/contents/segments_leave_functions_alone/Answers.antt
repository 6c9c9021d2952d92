use Rattle.world_simulation.proofs.FunctionIndependence.{segments_funcs, segments_with}
use Rattle.world_simulation.proofs.contents.segments_leave_functions_alone.Goals as goal

pub returns : goal.returns
returns c = record { kept = segments_funcs; ignored = segments_with }
