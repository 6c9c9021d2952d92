-- Lockstep: machines whose steps keep a relation, with equal events, have equal traces.
use Rattle.std.proofs.Common.{zero, suc, refl, ap₂}
use Rattle.std.specs.List.{cons_option}
use Rattle.base_simulation.specs.Simulations.{LockstepTracesAreEqual}

pub lockstep : {S T E : Type 0} → LockstepTracesAreEqual S T E
lockstep t u R next s q r zero = refl
lockstep t u R next s q r (suc n) = let o = next s q r in ap₂ cons_option o.event (lockstep t u R next _ _ o.states n)
