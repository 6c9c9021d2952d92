use Rattle.std.proofs.Common.{append-nil}
use Rattle.tools_cli_decide.proofs.refusal.at.Goals as goal

pub returns : goal.returns
returns c = rw c.as_str.ensures (simp append-nil)
