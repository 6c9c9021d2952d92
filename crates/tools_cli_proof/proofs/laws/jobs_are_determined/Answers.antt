use Rattle.tools_cli_proof.proofs.FirstItems.{first_is_one, none_is_first}
use Rattle.tools_cli_proof.proofs.Determined.{jobs_once}
use Rattle.tools_cli_proof.proofs.laws.jobs_are_determined.Goals as goal

pub returns : goal.returns
returns c words files one other hold h k =
    jobs_once (record { marks = c.exact_marks_exist.ensures.one; names = c.name_lists_are_those_of_the_first_name_section.ensures; trees = c.decoding_is_unique.ensures; faults = c.no_fault_where_encoded.ensures; first = first_is_one; none = none_is_first }) words files hold one other h k
