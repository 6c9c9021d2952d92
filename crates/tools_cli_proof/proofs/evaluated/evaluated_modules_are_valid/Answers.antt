use Rattle.tools_cli_proof.proofs.TreesHold.{Known, are_bounded, are_single, are_valid}
use Rattle.tools_cli_proof.proofs.evaluated.evaluated_modules_are_valid.Goals as goal

pub returns : goal.returns
returns c =
    let known : Known = record {
      typed = c.evaluated_states_suit.ensures.typed;
      empty_type = c.evaluated_states_suit.ensures.empty_type;
      valid = c.snapshots_are_valid.ensures.valid;
      single = c.snapshots_are_valid.ensures.single;
      bounded = c.snapshots_are_valid.ensures.bounded;
    } in
    record { valid = are_valid known; single = are_single known; bounded = are_bounded known }
