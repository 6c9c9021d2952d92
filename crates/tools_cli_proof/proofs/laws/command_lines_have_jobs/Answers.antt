use Rattle.tools_cli_proof.proofs.Existing.{job_exists}
use Rattle.tools_cli_proof.proofs.Accepted.{tree_decided}
use Rattle.tools_cli_proof.proofs.laws.command_lines_have_jobs.Goals as goal

pub returns : goal.returns
returns c = record {
  exists = λ words files hold. job_exists (record {
    marks = c.exact_marks_exist.ensures.exist;
    names = c.name_lists_are_those_of_the_first_name_section.ensures;
    words = c.plan_faults_have_causes.ensures;
    faults = c.no_fault_where_encoded.ensures;
    causes = λ bytes many e small h.
        (c.faults_have_causes.ensures.causes bytes many e small).0 h;
    decided = tree_decided c.modules_are_valid_or_have_a_first_invalid_item.ensures;
    link_names = c.link_faults_name_parts.ensures.names;
    link_memory = c.link_faults_name_parts.ensures.memory;
  }) words files hold;
}
