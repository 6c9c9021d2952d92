use Rattle.tools_cli_proof.proofs.EachHeadline.{split_headline}
use Rattle.tools_cli_proof.proofs.headlines.splits_are_faithful.Goals as goal

pub returns : goal.returns
returns c = split_headline
