use Rattle.eval_proof.proofs.InstantiationBudgets as law
use Rattle.eval_proof.proofs.quiet.evaluation_is_monotone_in_the_budget.Goals as goal

pub returns : goal.returns
returns c = record { monotone = law.evaluation_is_monotone_in_the_budget }
