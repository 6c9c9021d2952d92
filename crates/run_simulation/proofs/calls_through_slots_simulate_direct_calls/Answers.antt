use Rattle.base_lists.proofs.Related.{if_there_at}
use Rattle.wasm_meaning.proofs.Outcomes.{all_at}
use Rattle.run_simulation.specs.Laws.{passed_with}
use Rattle.run_simulation.proofs.FramesBetween.{not_seen}
use Rattle.run_simulation.proofs.SlotCalls.{trampolines_enter, slot_calls_enter, trampoline_calls, calls_agree, direct_calls_agree}
use Rattle.run_simulation.proofs.ValueSteps.{pop_typed_all}
use Rattle.run_simulation.proofs.PassedValues.{fits_received}
use Rattle.run_simulation.proofs.calls_through_slots_simulate_direct_calls.Goals as goal

pub returns : goal.returns
returns c = record {
  passing_frames = λ of named l stands apart r q h skips known. not_seen (passed_with of named l stands) apart r q h skips known;
  trampolines = trampolines_enter;
  slots = slot_calls_enter;
  through = λ of named l stands. trampoline_calls (passed_with of named l stands);
  replaced = λ of named l stands. calls_agree (passed_with of named l stands);
  direct = λ of named l stands. direct_calls_agree (passed_with of named l stands);
  popped = λ ts vs taken left e. all_at (pop_typed_all ts vs) e;
  passed = λ o ms ts xs vs e. if_there_at (fits_received o ms ts xs) e;
}
