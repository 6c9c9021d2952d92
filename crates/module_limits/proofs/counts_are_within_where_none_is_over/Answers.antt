use Rattle.module_limits.proofs.Within.{within_limits}
use Rattle.module_limits.proofs.counts_are_within_where_none_is_over.Goals as goal

pub returns : goal.returns
returns c = within_limits
