use Rattle.base_lists.proofs.Common.{arith, length-map}
use Rattle.merge_names.specs.Given.{texts}
use Rattle.merge_names.proofs.Clauses.{chosen_follow, chosen_differ, chosen_conflict}
use Rattle.merge_names.proofs.choose_names.Goals as goal

pub returns-clause-rule : goal.returns-clause-rule
returns-clause-rule c = chosen_follow c.args.mode (texts c.args.names.now) c.names_by.result (omega (arith, length-map c.args.names.now (λ n. n.now))) c.names_by.ensures.chosen

pub returns-clause-distinct : goal.returns-clause-distinct
returns-clause-distinct c = chosen_differ c.args.mode (texts c.args.names.now) c.names_by.result (omega (arith, length-map c.args.names.now (λ n. n.now))) c.names_by.ensures.chosen c.names_by.ensures.none

pub returns-clause-first : goal.returns-clause-first
returns-clause-first c = chosen_conflict c.args.mode (texts c.args.names.now) c.names_by.result c.names_by.ensures.conflict
