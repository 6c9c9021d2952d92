use Rattle.tools_cli_proof.proofs.EachHeadline.{merge_headline}
use Rattle.tools_cli_proof.proofs.headlines.merges_are_faithful.Goals as goal

pub returns : goal.returns
returns c = merge_headline
