use Rattle.base_lists.proofs.Common.{◌≡◌, ◌+◌, ◌*◌, ◌≤◌, List, length, drop}
use Rattle.wasm_meaning.specs.Prelude.{Entry}
use Rattle.eval_spec.specs.Prelude.{ComesTo}
use Rattle.eval_machine.specs.Prelude.{LevelPlace, depth, running, Stays}
use Rattle.eval_machine.proofs.registers.Registers.+run.Given as goal

abbrev pub decreases-run_call : goal.decreases-run_call
decreases-run_call l = 4 * l.self.now.kept.turns + 5

abbrev pub decreases-run_opened : goal.decreases-run_opened
decreases-run_opened l = 4 * l.self.now.kept.turns + 5

abbrev pub decreases-run_frame : goal.decreases-run_frame
decreases-run_frame l = 4 * l.self.now.kept.turns + 4

abbrev pub decreases-run_code : goal.decreases-run_code
decreases-run_code l = 4 * l.self.now.kept.turns + 3

abbrev pub decreases-run_instr : goal.decreases-run_instr
decreases-run_instr l = 4 * l.self.now.kept.turns + 2

-- Running the code from its beginning leads to running the rest of the code from the current place.
abbrev pub invariant-run_code-code : goal.invariant-run_code-code
invariant-run_code-code l = record {
  runs : (p : LevelPlace) (es : List Entry) → depth p es ≡ l.depth → ComesTo l.input (running l.input l.initial.self l.code p es) (running l.input l.self (drop l.at l.code) p es);
  stays : Stays l.initial.self.kept l.self.kept;
  inside : l.at ≤ length l.code;
}

abbrev pub decreases-run_code-code : goal.decreases-run_code-code
decreases-run_code-code l = l.self.kept.turns
