use Rattle.std.proofs.Common.{◌++◌, ◌∷◌, refl, sym, ap, ap₂, ◌∙◌, arith}
use Rattle.wasm_meaning.specs.Values.{declared}
use Rattle.eval_spec.specs.Quiet.{here}
use Rattle.eval_machine.specs.Flows.{back_of, running}
use Rattle.eval_machine.specs.declared.registers.Registers.{Registers}
use Rattle.eval_machine.specs.declared.registers.Flow.TheVariants as flow
use Rattle.eval_machine.proofs.Levels.{and_then, no_turn, fell, fell_short, jumped, jumped_short, jumped_out}
use Rattle.eval_machine.proofs.InstructionSteps.{spends}
use Rattle.eval_machine.proofs.Frames.{came, code_more, code_end, level_runs, level_short, level_deep, back_again, back_on, frame_runs, frame_ends, frame_past, entered_slow, entered_deep, ended_given, ended_short, call_none, call_import, call_short, call_in, call_back, waiting}
use Rattle.eval_machine.proofs.ModuleFunctions.{own_call, no_call, callee_is, callee_typed}
use Rattle.eval_machine.proofs.TypedOperands.{onto_below}
use Rattle.eval_machine.proofs.PreservedParts.{fits_still, stays_less, stays_same, stays_then}
use Rattle.eval_machine.proofs.registers.Registers.+run.Goals as goal
use Rattle.eval_machine.proofs.registers.Registers.+run.Goals.{run_frame-in-Branch+else-label-gt0, run_frame-in-Fell, run_frame-in-Return}

-- ---- code ----

pub run_code-code-init : goal.run_code-code-init
run_code-code-init t c = record { runs = λ p es d. here; stays = stays_same c.args.self.now.kept; inside = omega arith }

pub run_code-run_instr-requires : goal.run_code-run_instr-requires
run_code-run_instr-requires t c = (omega (arith, c.code.invariant.stays.turns), (c.requires.deep, (c.requires.valid, fits_still c.args.input.now c.args.self.now.kept c.code.self.kept c.requires.fits c.code.invariant.stays)))

pub run_code-code-preserved-in-On : goal.run_code-code-preserved-in-On
run_code-code-preserved-in-On t c = record {
  runs = λ p es d.
      and_then (c.code.invariant.runs p es d)
      (rw (code_more c.args.code.now c.code.at _ c.code-test.true c.index-code-at.is) ((rw c.in-On.is at c.in_ok-run_instr.ensures.runs) _ p es d));
  stays = stays_then _ _ _ c.code.invariant.stays c.run_instr.ensures.stays;
  inside = omega (arith, c.code-test.true);
}

pub run_code-code-preserved : goal.run_code-code-preserved
run_code-code-preserved t c = record {
  runs = λ p es d.
      and_then (c.code.invariant.runs p es d)
      (rw (code_more c.args.code.now c.code.at _ c.code-test.true c.index-code-at.is) ((rw c.in-Again.is at c.in_ok-run_instr.ensures.runs) _ p es d));
  stays = stays_then _ _ _ c.code.invariant.stays c.run_instr.ensures.stays;
  inside = omega (arith, c.code-test.true);
}

pub run_code-returns-in-Out-clause-runs : goal.run_code-returns-in-Out-clause-runs
run_code-returns-in-Out-clause-runs t c = λ p es d.
    and_then (c.code.invariant.runs p es d)
    (rw (code_more c.args.code.now c.code.at _ c.code-test.true c.index-code-at.is) ((rw c.in-Out.is at c.in_ok-run_instr.ensures.runs) _ p es d))

pub run_code-returns-clause-runs : goal.run_code-returns-clause-runs
run_code-returns-clause-runs t c = λ p es d. and_then (c.code.invariant.runs p es d) (rw (code_end c.args.code.now c.code.at c.code-test.false) here)

-- ---- an instruction ----

pub run_instr-returns-then-self-eq0-clause-runs : goal.run_instr-returns-then-self-eq0-clause-runs
run_instr-returns-then-self-eq0-clause-runs t c = λ rest p es d. no_turn c.args.input.now c.args.self.now c.args.instr.now rest p es (omega (arith, c.if-self-eq0.true))

pub run_instr-run_opened-requires : goal.run_instr-run_opened-requires
run_instr-run_opened-requires t c = (
  omega (arith, c.begin.ensures.stays.turns, c.if-self-eq0.false),
  (c.requires.deep, (c.requires.valid, fits_still c.args.input.now c.args.self.now.kept c.begin.new.self.kept c.requires.fits (stays_then _ _ _ (stays_less c.args.self.now.kept _ (omega arith)) c.begin.ensures.stays))),
)

pub run_instr-run_call-requires : goal.run_instr-run_call-requires
run_instr-run_call-requires t c = (
  omega (arith, c.begin.ensures.stays.turns, c.if-self-eq0.false),
  (c.requires.deep, (c.requires.valid, fits_still c.args.input.now c.args.self.now.kept c.begin.new.self.kept c.requires.fits (stays_then _ _ _ (stays_less c.args.self.now.kept _ (omega arith)) c.begin.ensures.stays))),
)

pub run_instr-returns-in-Continues-clause-runs : goal.run_instr-returns-in-Continues-clause-runs
run_instr-returns-in-Continues-clause-runs t c = λ rest p es d.
    spends c.args.input.now c.args.self.now _ c.args.instr.now rest p es _ (omega (arith, c.if-self-eq0.false)) refl (came ((rw c.in-Continues.is at c.in_ok-begin.ensures.begins) rest p es) here)

pub run_instr-returns-in-Leaves-clause-runs : goal.run_instr-returns-in-Leaves-clause-runs
run_instr-returns-in-Leaves-clause-runs t c = λ rest p es d.
    spends c.args.input.now c.args.self.now _ c.args.instr.now rest p es _ (omega (arith, c.if-self-eq0.false)) refl (came ((rw c.in-Leaves.is at c.in_ok-begin.ensures.begins) rest p es) here)

pub run_instr-returns-in_ok-run_opened-in-Opens-clause-runs : goal.run_instr-returns-in_ok-run_opened-in-Opens-clause-runs
run_instr-returns-in_ok-run_opened-in-Opens-clause-runs t c = λ rest p es d.
    spends c.args.input.now c.args.self.now _ c.args.instr.now rest p es _ (omega (arith, c.if-self-eq0.false)) refl
    (came ((rw c.in-Opens.is at c.in_ok-begin.ensures.begins) rest p es) (c.in_ok-run_opened-in-Opens.ensures.runs c.args.instr.now rest p es d))

pub run_instr-returns-in_ok-run_call-in-Calls-clause-runs : goal.run_instr-returns-in_ok-run_call-in-Calls-clause-runs
run_instr-returns-in_ok-run_call-in-Calls-clause-runs t c = λ rest p es d.
    spends c.args.input.now c.args.self.now _ c.args.instr.now rest p es _ (omega (arith, c.if-self-eq0.false)) refl
    (came ((rw c.in-Calls.is at c.in_ok-begin.ensures.begins) rest p es) (c.in_ok-run_call-in-Calls.ensures.runs c.args.instr.now rest p es d))

-- ---- a level ----

pub run_opened-returns-in_default-clause-runs : goal.run_opened-returns-in_default-clause-runs
run_opened-returns-in_default-clause-runs t c = λ o rest p es d. level_short c.args.input.now c.args.self.now c.args.opening.now o rest p es (rw c.in_default.is at c.in_ok-top.ensures)

pub run_opened-returns-then-depth-eq-MOST_DEPTH-clause-runs : goal.run_opened-returns-then-depth-eq-MOST_DEPTH-clause-runs
run_opened-returns-then-depth-eq-MOST_DEPTH-clause-runs t c = λ o rest p es d.
    let cut = rw c.in-Some.is at c.in_ok-top.ensures in
    level_deep c.args.input.now c.args.self.now c.args.opening.now o rest p es cut.0 c.take_level.new.self cut.1 (omega (arith, d, c.if-depth-eq-MOST_DEPTH.true))

pub run_opened-returns-in_default-2-clause-runs : goal.run_opened-returns-in_default-2-clause-runs
run_opened-returns-in_default-2-clause-runs t c = λ o rest p es d.
    let b = c.args.opening.now in
    let cut = rw c.in-Some.is at c.in_ok-top.ensures in
    level_runs c.args.input.now c.args.self.now b o rest p es cut.0 c.take_level.new.self c.replace-below.new.dest c.run_code.new.self flow.Fell c.args.depth _ d
    (omega (arith, c.requires.deep, c.if-depth-eq-MOST_DEPTH.false)) cut.1 (c.replace-below.ensures.after ∙ cut.2)
    (rw c.in-Fell.is at c.in_ok-run_code.ensures.runs)
    (fell_short c.args.input.now c.run_code.new.self b.gives b.takes (back_of o b.again) c.take_level.new.self rest p es (rw c.in_default-2.is at c.in_ok-given-in-Fell.ensures).0)

pub run_opened-returns-then-label-gt0-clause-runs : goal.run_opened-returns-then-label-gt0-clause-runs
run_opened-returns-then-label-gt0-clause-runs t c = λ o rest p es d.
    let b = c.args.opening.now in
    let cut = rw c.in-Some.is at c.in_ok-top.ensures in
    level_runs c.args.input.now c.args.self.now b o rest p es cut.0 c.take_level.new.self c.replace-below.new.dest c.run_code.new.self (flow.Branch c.in-Branch.label) c.args.depth _ d
    (omega (arith, c.requires.deep, c.if-depth-eq-MOST_DEPTH.false)) cut.1 (c.replace-below.ensures.after ∙ cut.2)
    (rw c.in-Branch.is at c.in_ok-run_code.ensures.runs)
    (came (jumped_out c.args.input.now c.run_code.new.self b.gives b.takes c.in-Branch.label (back_of o b.again) c.take_level.new.self rest p es c.if-label-gt0.true) here)

pub run_opened-returns-in_default-3-clause-runs : goal.run_opened-returns-in_default-3-clause-runs
run_opened-returns-in_default-3-clause-runs t c = λ o rest p es d.
    let b = c.args.opening.now in
    let cut = rw c.in-Some.is at c.in_ok-top.ensures in
    level_runs c.args.input.now c.args.self.now b o rest p es cut.0 c.take_level.new.self c.replace-below.new.dest c.run_code.new.self (flow.Branch c.in-Branch.label) c.args.depth _ d
    (omega (arith, c.requires.deep, c.if-depth-eq-MOST_DEPTH.false)) cut.1 (c.replace-below.ensures.after ∙ cut.2)
    (rw c.in-Branch.is at c.in_ok-run_code.ensures.runs)
    (came (jumped_short c.args.input.now c.run_code.new.self c.in-Branch.label b.gives b.takes (back_of o b.again) c.take_level.new.self rest p es (omega (arith, c.if-label-gt0.false)) (rw c.in_default-3.is at c.in_ok-carried-in-Branch.ensures).0) here)

pub run_opened-returns-in_ok-put_back-in-Fell-clause-runs : goal.run_opened-returns-in_ok-put_back-in-Fell-clause-runs
run_opened-returns-in_ok-put_back-in-Fell-clause-runs t c = λ o rest p es d.
    let b = c.args.opening.now in
    let cut = rw c.in-Some.is at c.in_ok-top.ensures in
    level_runs c.args.input.now c.args.self.now b o rest p es cut.0 c.take_level.new.self c.replace-below.new.dest c.run_code.new.self flow.Fell c.args.depth _ d
    (omega (arith, c.requires.deep, c.if-depth-eq-MOST_DEPTH.false)) cut.1 (c.replace-below.ensures.after ∙ cut.2)
    (rw c.in-Fell.is at c.in_ok-run_code.ensures.runs)
    (fell c.args.input.now c.run_code.new.self b.gives b.takes (back_of o b.again) c.take_level.new.self c.in-Some-2.given c.take_top.new.self c.put_back.new.self rest p es (rw c.in-Some-2.is at c.in_ok-given-in-Fell.ensures)
    (c.in_ok-put_back-in-Fell.ensures ∙ ap (λ ys. c.in-Some-2.given ++ ys) c.replace-below.ensures.value))

pub run_opened-returns-then-opening-clause-runs : goal.run_opened-returns-then-opening-clause-runs
run_opened-returns-then-opening-clause-runs t c = λ o rest p es d.
    let b = c.args.opening.now in
    let cut = rw c.in-Some.is at c.in_ok-top.ensures in
    level_runs c.args.input.now c.args.self.now b o rest p es cut.0 c.take_level.new.self c.replace-below.new.dest c.run_code.new.self (flow.Branch c.in-Branch.label) c.args.depth _ d
    (omega (arith, c.requires.deep, c.if-depth-eq-MOST_DEPTH.false)) cut.1 (c.replace-below.ensures.after ∙ cut.2)
    (rw c.in-Branch.is at c.in_ok-run_code.ensures.runs)
    (came
    (jumped c.args.input.now c.run_code.new.self c.in-Branch.label b.gives b.takes (back_of o b.again) c.take_level.new.self c.in-Some-3.carried c.take_top-in-Branch.new.self c.put_back-in-Branch.new.self rest p es (omega (arith, c.if-label-gt0.false))
    (rw c.in-Some-3.is at c.in_ok-carried-in-Branch.ensures)
    (c.in_ok-put_back-in-Branch.ensures ∙ ap (λ ys. c.in-Some-3.carried ++ ys) c.replace-below.ensures.value)
    ∙ ap (λ k. running c.args.input.now (record c.run_code.new.self { operands = c.put_back-in-Branch.new.self }) k p es) (back_again o b.again rest c.if-opening.true))
    here)

pub run_opened-returns-else-opening-clause-runs : goal.run_opened-returns-else-opening-clause-runs
run_opened-returns-else-opening-clause-runs t c = λ o rest p es d.
    let b = c.args.opening.now in
    let cut = rw c.in-Some.is at c.in_ok-top.ensures in
    level_runs c.args.input.now c.args.self.now b o rest p es cut.0 c.take_level.new.self c.replace-below.new.dest c.run_code.new.self (flow.Branch c.in-Branch.label) c.args.depth _ d
    (omega (arith, c.requires.deep, c.if-depth-eq-MOST_DEPTH.false)) cut.1 (c.replace-below.ensures.after ∙ cut.2)
    (rw c.in-Branch.is at c.in_ok-run_code.ensures.runs)
    (came
    (jumped c.args.input.now c.run_code.new.self c.in-Branch.label b.gives b.takes (back_of o b.again) c.take_level.new.self c.in-Some-3.carried c.take_top-in-Branch.new.self c.put_back-in-Branch.new.self rest p es (omega (arith, c.if-label-gt0.false))
    (rw c.in-Some-3.is at c.in_ok-carried-in-Branch.ensures)
    (c.in_ok-put_back-in-Branch.ensures ∙ ap (λ ys. c.in-Some-3.carried ++ ys) c.replace-below.ensures.value)
    ∙ ap (λ k. running c.args.input.now (record c.run_code.new.self { operands = c.put_back-in-Branch.new.self }) k p es) (back_on o b.again rest c.if-opening.false))
    here)

pub run_opened-returns-in-Return-clause-runs : goal.run_opened-returns-in-Return-clause-runs
run_opened-returns-in-Return-clause-runs t c = λ o rest p es d.
    let b = c.args.opening.now in
    let cut = rw c.in-Some.is at c.in_ok-top.ensures in
    level_runs c.args.input.now c.args.self.now b o rest p es cut.0 c.take_level.new.self c.replace-below.new.dest c.run_code.new.self flow.Return c.args.depth _ d
    (omega (arith, c.requires.deep, c.if-depth-eq-MOST_DEPTH.false)) cut.1 (c.replace-below.ensures.after ∙ cut.2)
    (rw c.in-Return.is at c.in_ok-run_code.ensures.runs)
    here

pub run_opened-returns-in-Stopped-clause-runs : goal.run_opened-returns-in-Stopped-clause-runs
run_opened-returns-in-Stopped-clause-runs t c = λ o rest p es d.
    let b = c.args.opening.now in
    let cut = rw c.in-Some.is at c.in_ok-top.ensures in
    level_runs c.args.input.now c.args.self.now b o rest p es cut.0 c.take_level.new.self c.replace-below.new.dest c.run_code.new.self (flow.Stopped c.in-Stopped.stop) c.args.depth _ d
    (omega (arith, c.requires.deep, c.if-depth-eq-MOST_DEPTH.false)) cut.1 (c.replace-below.ensures.after ∙ cut.2)
    (rw c.in-Stopped.is at c.in_ok-run_code.ensures.runs)
    here

-- ---- a frame ----

pub run_frame-returns-in_default-clause-runs : goal.run_frame-returns-in_default-clause-runs
run_frame-returns-in_default-clause-runs t c = λ es d. entered_slow c.args.input.now c.args.self.now c.args.ty.now c.args.self.now.locals (declared c.args.callee.now.locals) c.args.callee.now.body es (rw c.as_slice.ensures at (c.in_default.ensures.none refl))

pub run_frame-returns-then-depth-eq-MOST_DEPTH-clause-runs : goal.run_frame-returns-then-depth-eq-MOST_DEPTH-clause-runs
run_frame-returns-then-depth-eq-MOST_DEPTH-clause-runs t c = λ es d.
    entered_deep c.args.input.now c.args.self.now c.args.ty.now c.args.self.now.locals (declared c.args.callee.now.locals) c.args.callee.now.body es c.in-Some.left
    (rw c.as_slice.ensures at (c.in-Some.ensures.enough refl)) (omega (arith, d, c.if-depth-eq-MOST_DEPTH.true)) (rw c.as_slice.ensures at c.in-Some.ensures.some)

pub run_frame-returns-in-Stopped-clause-runs : goal.run_frame-returns-in-Stopped-clause-runs
run_frame-returns-in-Stopped-clause-runs t c = λ es d.
    frame_runs c.args.input.now c.args.self.now c.args.ty.now c.args.self.now.locals (declared c.args.callee.now.locals) c.args.callee.now.body es
    c.in-Some.left
    (record { kept = record c.args.self.now.kept { turns = c.in-Some.left }; operands = c.args.self.now.operands; locals = c.declare_all.new.self }) c.run_code.new.self c.as_slice-3.result.now
    (flow.Stopped c.in-Stopped.stop) c.args.depth _ d
    (omega (arith, c.requires.deep, c.if-depth-eq-MOST_DEPTH.false)) (rw c.as_slice.ensures at (c.in-Some.ensures.enough refl)) (rw c.as_slice.ensures at c.in-Some.ensures.some)
    (rw (c.requires.bare, c.in_ok-declare_all.ensures, c.as_slice-2.ensures)) c.as_slice-3.ensures (rw c.in-Stopped.is at c.in_ok-stop.ensures.runs)
    here

pub run_frame-returns-then-label-gt0-clause-runs : goal.run_frame-returns-then-label-gt0-clause-runs
run_frame-returns-then-label-gt0-clause-runs t c = λ es d.
    frame_runs c.args.input.now c.args.self.now c.args.ty.now c.args.self.now.locals (declared c.args.callee.now.locals) c.args.callee.now.body es
    c.in-Some.left
    (record { kept = record c.args.self.now.kept { turns = c.in-Some.left }; operands = c.args.self.now.operands; locals = c.declare_all.new.self }) c.run_code.new.self c.as_slice-3.result.now
    (flow.Branch c.in-Branch.label) c.args.depth _ d
    (omega (arith, c.requires.deep, c.if-depth-eq-MOST_DEPTH.false)) (rw c.as_slice.ensures at (c.in-Some.ensures.enough refl)) (rw c.as_slice.ensures at c.in-Some.ensures.some)
    (rw (c.requires.bare, c.in_ok-declare_all.ensures, c.as_slice-2.ensures)) c.as_slice-3.ensures (rw c.in-Branch.is at c.in_ok-stop.ensures.runs)
    (came (frame_past c.args.input.now c.run_code.new.self c.args.ty.now.results es c.in-Branch.label c.if-label-gt0.true) here)

pub run_frame-returns-in-Some-2-clause-runs : goal.run_frame-returns-in-Some-2-clause-runs
run_frame-returns-in-Some-2-clause-runs t c =
    let cut = rw (c.in-Some-2.is, c.as_slice-4.ensures) at c.in_ok-given.ensures in (
      cut.0,
      cut.2,
      λ es d.
          frame_runs c.args.input.now c.args.self.now c.args.ty.now c.args.self.now.locals (declared c.args.callee.now.locals) c.args.callee.now.body es
          c.in-Some.left
          (record { kept = record c.args.self.now.kept { turns = c.in-Some.left }; operands = c.args.self.now.operands; locals = c.declare_all.new.self }) c.run_code.new.self c.as_slice-3.result.now c.in_ok-stop.field-0 c.args.depth _ d
          (omega (arith, c.requires.deep, c.if-depth-eq-MOST_DEPTH.false)) (rw c.as_slice.ensures at (c.in-Some.ensures.enough refl)) (rw c.as_slice.ensures at c.in-Some.ensures.some)
          (rw (c.requires.bare, c.in_ok-declare_all.ensures, c.as_slice-2.ensures)) c.as_slice-3.ensures c.in_ok-stop.ensures.runs
          (and_then
          (frame_ends c.args.input.now c.run_code.new.self c.args.ty.now.results es c.in_ok-stop.field-0 (elim c.match-branch-3.branch [
            | run_frame-in-Branch+else-label-gt0 w ↦ rw w.in-Branch.is (omega (arith, w.if-label-gt0.false))
            | run_frame-in-Fell w ↦ rw w.in-Fell.is tt
            | run_frame-in-Return w ↦ rw w.in-Return.is tt
          ]))
          (came (ended_given c.args.input.now c.run_code.new.self c.args.ty.now.results es (record c.run_code.new.self { operands = c.in-Some-2.given }) cut.0 c.take_level.new.self cut.1 refl) here)),
    )

pub run_frame-returns-in-None-clause-runs : goal.run_frame-returns-in-None-clause-runs
run_frame-returns-in-None-clause-runs t c = λ es d.
    frame_runs c.args.input.now c.args.self.now c.args.ty.now c.args.self.now.locals (declared c.args.callee.now.locals) c.args.callee.now.body es
    c.in-Some.left
    (record { kept = record c.args.self.now.kept { turns = c.in-Some.left }; operands = c.args.self.now.operands; locals = c.declare_all.new.self }) c.run_code.new.self c.as_slice-3.result.now c.in_ok-stop.field-0 c.args.depth _ d
    (omega (arith, c.requires.deep, c.if-depth-eq-MOST_DEPTH.false)) (rw c.as_slice.ensures at (c.in-Some.ensures.enough refl)) (rw c.as_slice.ensures at c.in-Some.ensures.some)
    (rw (c.requires.bare, c.in_ok-declare_all.ensures, c.as_slice-2.ensures)) c.as_slice-3.ensures c.in_ok-stop.ensures.runs
    (and_then
    (frame_ends c.args.input.now c.run_code.new.self c.args.ty.now.results es c.in_ok-stop.field-0 (elim c.match-branch-3.branch [
      | run_frame-in-Branch+else-label-gt0 w ↦ rw w.in-Branch.is (omega (arith, w.if-label-gt0.false))
      | run_frame-in-Fell w ↦ rw w.in-Fell.is tt
      | run_frame-in-Return w ↦ rw w.in-Return.is tt
    ]))
    (came (ended_short c.args.input.now c.run_code.new.self c.args.ty.now.results es (rw (c.in-None.is, c.as_slice-4.ensures) at c.in_ok-given.ensures)) here))

-- ---- a call ----

pub run_call-returns-then-func-self-clause-runs : goal.run_call-returns-then-func-self-clause-runs
run_call-returns-then-func-self-clause-runs t c = λ o rest p es d. let own = own_call c.args.input.now c.args.self.now.kept (c.imported_functions_are_typed.ensures c.args.input.now c.requires.valid) c.requires.fits c.args.func c.if-func-self.true in
    call_import c.args.input.now c.args.self.now c.args.func rest p es own.0.0 own.0.1 own.1

pub run_call-returns-in_default-clause-runs : goal.run_call-returns-in_default-clause-runs
run_call-returns-in_default-clause-runs t c = λ o rest p es d. call_none c.args.input.now c.args.self.now c.args.func rest p es
    (no_call c.args.input.now c.args.self.now.kept (c.imported_functions_are_typed.ensures c.args.input.now c.requires.valid) c.requires.fits c.args.func c.if-func-self.false (sym c.in_default.ensures.value))

pub run_call-returns-in_default-get-clause-runs : goal.run_call-returns-in_default-get-clause-runs
run_call-returns-in_default-get-clause-runs t c = λ o rest p es d. absurd (callee_typed c.args.input.now c.args.self.now.kept (c.imported_functions_are_typed.ensures c.args.input.now c.requires.valid) c.requires.fits c.args.func c.in-Some.callee.now c.if-func-self.false
    (sym c.in-Some.ensures.value) (sym c.in_default-get.ensures.value))

pub run_call-returns-in_default-2-clause-runs : goal.run_call-returns-in_default-2-clause-runs
run_call-returns-in_default-2-clause-runs t c = λ o rest p es d.
    let is = callee_is c.args.input.now c.args.self.now.kept (c.imported_functions_are_typed.ensures c.args.input.now c.requires.valid) c.requires.fits c.args.func c.in-Some.callee.now c.if-func-self.false (sym c.in-Some.ensures.value) c.in-Some-get.ty.now
    (sym c.in-Some-get.ensures.value) in
    call_short c.args.input.now c.args.self.now c.args.func rest p es c.in-Some-get.ty.now (declared c.in-Some.callee.now.locals) c.in-Some.callee.now.body is
    (rw (c.in_default-2.is, c.as_slice.ensures) at c.in_ok-args.ensures)

pub run_call-returns-in-Some-3-clause-runs : goal.run_call-returns-in-Some-3-clause-runs
run_call-returns-in-Some-3-clause-runs t c = λ o rest p es d.
    let is = callee_is c.args.input.now c.args.self.now.kept (c.imported_functions_are_typed.ensures c.args.input.now c.requires.valid) c.requires.fits c.args.func c.in-Some.callee.now c.if-func-self.false (sym c.in-Some.ensures.value) c.in-Some-get.ty.now
    (sym c.in-Some-get.ensures.value) in
    let cut = rw (c.in-Some-2.is, c.as_slice.ensures) at c.in_ok-args.ensures in
    call_in c.args.input.now c.args.self.now c.args.func rest p es c.in-Some-get.ty.now
    (declared c.in-Some.callee.now.locals) c.in-Some.callee.now.body is c.replace-outside.new.dest c.take_typed.new.self
    (record { kept = c.args.self.now.kept; operands = c.replace-below.new.dest; locals = c.replace-outside.new.dest }) _ (rw (c.replace-outside.ensures.after ∙ c.of.ensures) cut) refl
    ((rw c.in-Some-3.is at c.in_ok-stop.ensures.runs) (waiting c.args.input.now c.args.self.now c.args.func rest p es c.take_typed.new.self ∷ es) d)

pub run_call-returns-in_ok-put_back-in-None-clause-runs : goal.run_call-returns-in_ok-put_back-in-None-clause-runs
run_call-returns-in_ok-put_back-in-None-clause-runs t c = λ o rest p es d.
    let is = callee_is c.args.input.now c.args.self.now.kept (c.imported_functions_are_typed.ensures c.args.input.now c.requires.valid) c.requires.fits c.args.func c.in-Some.callee.now c.if-func-self.false (sym c.in-Some.ensures.value) c.in-Some-get.ty.now
    (sym c.in-Some-get.ensures.value) in
    let cut = rw (c.in-Some-2.is, c.as_slice.ensures) at c.in_ok-args.ensures in
    let run = rw c.in-None.is at c.in_ok-stop.ensures.runs in
    let below = c.replace-given.ensures.after ∙ c.replace-below.ensures.value in
    let back = c.in_ok-put_back-in-None.ensures ∙ (ap₂ (λ xs ys. xs ++ ys) (c.replace-given.ensures.value ∙ run.1) below ∙ onto_below run.0 c.take_typed.new.self) in
    let after : Registers = record { kept = c.run_frame.new.self.kept; operands = c.put_back.new.self; locals = c.replace-outside.result } in
    call_in c.args.input.now c.args.self.now c.args.func rest p es c.in-Some-get.ty.now
    (declared c.in-Some.callee.now.locals) c.in-Some.callee.now.body is c.replace-outside.new.dest c.take_typed.new.self
    (record { kept = c.args.self.now.kept; operands = c.replace-below.new.dest; locals = c.replace-outside.new.dest }) _ (rw (c.replace-outside.ensures.after ∙ c.of.ensures) cut) refl
    (and_then (run.2 (waiting c.args.input.now c.args.self.now c.args.func rest p es c.take_typed.new.self ∷ es) d) (came (call_back c.args.input.now c.args.self.now c.args.func rest p es c.run_frame.new.self after c.take_typed.new.self run.0 (rw (back, c.replace-outside.ensures.value) refl)) here))
