use Rattle.dce_proof.proofs.SmallerViews.{smaller_views_link}
use Rattle.dce_proof.proofs.behaves.smaller_views_link.Goals as goal

pub returns : goal.returns
returns c = record { links = smaller_views_link }
