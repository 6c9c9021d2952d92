-- Runs that are over before anything could be called, because the instantiation of the world failed
-- or trapped.
use Rattle.std.specs.Prelude.{◌≡◌, []}
use Rattle.wasm_meaning.specs.Run.{Closed, Run, Out, Makes, transition}

-- the world is closed, and nothing is on the stack
pub record IsOver (r : Run) : Type 0 where
  pub phase : r.phase ≡ Closed
  pub entries : r.entries ≡ []

-- no step of the machine follows, and the run stays over
abbrev pub RunsThatAreOverStaySo : Type 0
RunsThatAreOverStaySo = (r : Run) → IsOver r → (o : Out) × (transition r ≡ Makes o) × IsOver o.0
