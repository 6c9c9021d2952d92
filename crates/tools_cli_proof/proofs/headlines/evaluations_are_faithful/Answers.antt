use Rattle.tools_cli_proof.proofs.EachHeadline.{eval_headline}
use Rattle.tools_cli_proof.proofs.headlines.evaluations_are_faithful.Goals as goal

pub returns : goal.returns
returns c = eval_headline
