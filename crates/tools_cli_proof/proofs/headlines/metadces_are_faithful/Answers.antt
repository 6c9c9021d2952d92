use Rattle.tools_cli_proof.proofs.EachHeadline.{metadce_headline}
use Rattle.tools_cli_proof.proofs.headlines.metadces_are_faithful.Goals as goal

pub returns : goal.returns
returns c = metadce_headline
