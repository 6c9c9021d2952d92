-- The law of steps of control.
use Rattle.run_simulation.specs.Related
use Rattle.run_simulation.specs.Prelude.{trap, Control, GroupAgrees}
use Rattle.run_simulation.proofs.ValueSteps.{go_rel}
use Rattle.run_simulation.proofs.ControlSteps.{call_rel, call_indirect_rel, finish_rel, branch_rel, branch_if_rel, branch_table_rel, open_here_rel, open_loop_rel, open_if_rel}

pub control_agrees : GroupAgrees Control
control_agrees R off ev ew st _ _ r _ _ Related.unreachable _ _ = trap
control_agrees R off ev ew st _ _ r _ _ Related.nop _ _ = go_rel R off ev ew st r
control_agrees R off ev ew st _ _ r _ _ (Related.block {b = b} {d = d} p c) _ _ = open_here_rel R off ev ew st b d r p c
control_agrees R off ev ew st _ _ r _ _ (Related.loop {b = b} {d = d} {c = c} {e = e} p q) _ _ = open_loop_rel R off ev ew st b d c e r p q
control_agrees R off ev ew st _ _ r _ _ (Related.if_else {b = b} {d = d} {c = c} {e = e} {p = f} {q = g} p q s) _ _ = open_if_rel R off ev ew st b d c e f g r p q s
control_agrees R off ev ew st _ _ r _ _ (Related.br {n = n}) _ _ = branch_rel R off ev ew st n r
control_agrees R off ev ew st _ _ r _ _ (Related.br_if {n = n}) _ _ = branch_if_rel R off ev ew st n r
control_agrees R off ev ew st _ _ r _ _ (Related.br_table {ns = ns} {n = n}) _ _ = branch_table_rel R off ev ew st ns n r
control_agrees R off ev ew st _ _ r _ _ Related.return _ _ = finish_rel R off ev ew st r r.values
control_agrees R off ev ew st _ _ r _ _ (Related.call {n = n} {m = m} p) _ _ = call_rel R off ev ew st n m r p
control_agrees R off ev ew st _ _ r _ _ (Related.call_indirect {s = s} {t = t} {n = n} {m = m} e p) reads _ = call_indirect_rel R off ev ew st s t n m r e p reads
control_agrees R off ev ew st h k r a b o reads e = absurd (cc e)
