use Rattle.merge_names.proofs.Distinct.{given_differ}
use Rattle.merge_names.proofs.given_names_differ.Goals as goal

pub returns : goal.returns
returns c = record { differ = given_differ }
