use Rattle.run_simulation.proofs.UnknownPlaces.{nothing_unknown, set_globals_are_known}
use Rattle.run_simulation.proofs.set_globals_are_known.Goals as goal

pub returns : goal.returns
returns c = record { nothing = nothing_unknown; set = set_globals_are_known }
