use Rattle.split_proof.proofs.MovedCalls
use Rattle.split_proof.proofs.behaves.steps_call_moved_functions_together.Goals as goal

pub returns : goal.returns
returns c =
    let calls = c.calls_through_slots_simulate_direct_calls.ensures in
    record { together = MovedCalls.steps_call_moved_functions_together calls.popped calls.passed }
