use Rattle.std.proofs.Common.{sym, ◌∙◌}
use Rattle.eval_machine.proofs.SelectAndSet.{set_at, set_none}
use Rattle.eval_machine.proofs.locals.Locals.set.Goals as goal
use Rattle.eval_machine.proofs.locals.Locals.set.Goals.{in-Some+else-not-has_type, in-None}

pub returns : goal.returns
returns c = elim c.match-get_mut.branch [
  | in-Some+else-not-has_type w ↦
      rw (w.result-is, w.self-inside-is, ← c.self.view_is) (set_at c.self.inside.items c.args.local w.in-Some.old.now c.args.value (sym w.in-Some.ensures.value) (rw w.ty.ensures at (sym w.has_type.ensures ∙ w.if-not-has_type.false)))
  | in-None w ↦ rw (w.result-is, ← c.self.view_is) (set_none c.self.inside.items c.args.local c.args.value (sym w.in-None.ensures.value))
]
