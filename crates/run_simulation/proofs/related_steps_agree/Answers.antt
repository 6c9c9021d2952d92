use Rattle.run_simulation.specs.Laws.{passed}
use Rattle.run_simulation.proofs.AboveSteps.{step_above, traps_agree}
use Rattle.run_simulation.proofs.KnownNames.{entries_known}
use Rattle.run_simulation.proofs.ShownValues.{show_all_rel}
use Rattle.run_simulation.proofs.CodeToItself.{code_self}
use Rattle.run_simulation.proofs.related_steps_agree.Goals as goal

pub returns : goal.returns
returns c = record {
  steps = λ of named l apart s t es fs cs ds p q touches free known. step_above (passed of named l) apart cs ds p q touches free known;
  known = λ of named l. entries_known (passed of named l);
  shown = λ of named l apart s t vs ws xs ys h v x. show_all_rel (passed of named l) apart h v xs ys x;
  traps = λ of named l. traps_agree (passed of named l);
  reflexive = λ of named l i code h. code_self (passed of named l) i h code;
}
