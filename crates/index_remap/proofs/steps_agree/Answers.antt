use Rattle.run_simulation.specs.Laws.{passed, passed_with}
use Rattle.index_remap.proofs.RenumberedCode.{renumbered_rel, replaced_rel}
use Rattle.index_remap.proofs.UnreplacedCode.{unlisted_renumbered}
use Rattle.index_remap.proofs.Replacing.{replaced_typed}
use Rattle.index_remap.proofs.steps_agree.Goals as goal

pub returns : goal.returns
returns c = record {
  steps = c.related_steps_agree.ensures.steps;
  known = c.related_steps_agree.ensures.known;
  shown = c.related_steps_agree.ensures.shown;
  traps = c.related_steps_agree.ensures.traps;
  code = λ of named l m i j code h. renumbered_rel (passed of named l) m i j code h;
  replaced = λ of named l stands m i j types labels listed codes is js may h k. replaced_rel (passed_with of named l stands) m i j types listed codes may labels is js h k;
  not_opaque = unlisted_renumbered;
  reflexive = c.related_steps_agree.ensures.reflexive;
  typed = replaced_typed;
}
