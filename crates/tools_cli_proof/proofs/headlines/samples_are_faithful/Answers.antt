use Rattle.tools_cli_proof.proofs.EachHeadline.{sample_headline}
use Rattle.tools_cli_proof.proofs.headlines.samples_are_faithful.Goals as goal

pub returns : goal.returns
returns c = sample_headline
