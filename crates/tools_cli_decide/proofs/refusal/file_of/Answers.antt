use Rattle.tools_cli_decide.proofs.MergeDecided.{file_there}
use Rattle.tools_cli_decide.proofs.refusal.file_of.Goals as goal

pub returns : goal.returns
returns c = file_there c.args.sources.now c.args.part _ c.requires
