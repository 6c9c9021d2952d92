use Rattle.merge_names.proofs.Rules.{follow_rules}
use Rattle.merge_names.proofs.new_names_follow_rules.Goals as goal

pub returns : goal.returns
returns c = record { rules = follow_rules }
