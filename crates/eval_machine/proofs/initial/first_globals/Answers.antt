use Rattle.eval_machine.proofs.InitialGlobals.{are_first}
use Rattle.eval_machine.proofs.initial.first_globals.Goals as goal

pub returns : goal.returns
returns c =
    rw (c.of.ensures, c.in_ok-append.ensures.ok) (are_first c.args.input.now c.in_ok-slots.slots c.in_ok-own.own c.in_ok-slots.ensures.globals c.in_ok-slots.ensures.standings c.in_ok-own.ensures.globals c.in_ok-own.ensures.standings)
