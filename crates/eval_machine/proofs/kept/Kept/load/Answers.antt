use Rattle.std.proofs.Common.{◌≡◌, refl, arith}
use Rattle.eval_machine.proofs.DefinedMemory.{found, none_defined, none_past_it}
use Rattle.eval_machine.proofs.MemorySteps.{load_unknown, load_nowhere, load_untyped, load_outside, load_inside}
use Rattle.eval_machine.proofs.kept.Kept.load.Goals as goal

pub returns-then-arg-self : goal.returns-then-arg-self
returns-then-arg-self c = load_unknown c.args.input.now c.args.self.now c.requires.fits c.args.op c.args.arg c.args.operands.now c.args.operands.now c.if-arg-self.true

pub returns-then-arg-self-2 : goal.returns-then-arg-self-2
returns-then-arg-self-2 c = load_nowhere c.args.input.now c.args.self.now c.requires.fits c.args.op c.args.arg c.args.operands.now c.args.operands.now c.if-arg-self.false (none_past_it c.args.input.now c.args.self.now c.requires.fits c.args.arg.memory c.if-arg-self-2.true)

pub returns-in_default : goal.returns-in_default
returns-in_default c =
    let same : c.args.arg.memory ≡ c.args.self.now.imports.memories = omega (arith, c.if-arg-self.false, c.if-arg-self-2.false) in
    load_nowhere c.args.input.now c.args.self.now c.requires.fits c.args.op c.args.arg c.args.operands.now c.args.operands.now c.if-arg-self.false (none_defined c.args.input.now c.args.self.now c.requires.fits c.args.arg.memory same c.in_default.is)

pub returns-in_default-pop_narrow : goal.returns-in_default-pop_narrow
returns-in_default-pop_narrow c =
    let same : c.args.arg.memory ≡ c.args.self.now.imports.memories = omega (arith, c.if-arg-self.false, c.if-arg-self-2.false) in
    load_untyped c.args.input.now c.args.self.now c.requires.fits c.args.op c.args.arg c.args.operands.now c.args.operands.now c.in-Some.paged c.if-arg-self.false (found c.args.input.now c.args.self.now c.requires.fits c.args.arg.memory c.in-Some.paged same c.in-Some.is)
    (c.in_default-pop_narrow.ensures.none refl)

pub returns-then-at-from : goal.returns-then-at-from
returns-then-at-from c =
    let same : c.args.arg.memory ≡ c.args.self.now.imports.memories = omega (arith, c.if-arg-self.false, c.if-arg-self-2.false) in
    load_outside c.args.input.now c.args.self.now c.requires.fits c.args.op c.args.arg c.args.operands.now c.args.operands.now c.in-Some.paged c.if-arg-self.false (found c.args.input.now c.args.self.now c.requires.fits c.args.arg.memory c.in-Some.paged same c.in-Some.is) c.in-Some-pop_narrow.base
    c.pop_narrow.new.self c.in-Some-pop_narrow.ensures.some (rw (c.from.ensures, c.from-2.ensures, c.from-3.ensures, c.width_of-width.ensures.value, c.size.ensures) at c.if-at-from.true)

pub returns : goal.returns
returns c =
    let same : c.args.arg.memory ≡ c.args.self.now.imports.memories = omega (arith, c.if-arg-self.false, c.if-arg-self-2.false) in
    rw (c.in_ok-push.ensures, c.value_of.ensures, c.load.ensures.value, c.from.ensures, c.from-2.ensures, c.width_of-width.ensures.value)
    (load_inside c.args.input.now c.args.self.now c.requires.fits c.args.op c.args.arg c.args.operands.now c.args.operands.now c.in-Some.paged c.if-arg-self.false (found c.args.input.now c.args.self.now c.requires.fits c.args.arg.memory c.in-Some.paged same c.in-Some.is) c.in-Some-pop_narrow.base
    c.pop_narrow.new.self c.in-Some-pop_narrow.ensures.some (rw (c.from.ensures, c.from-2.ensures, c.from-3.ensures, c.width_of-width.ensures.value, c.size.ensures) at c.if-at-from.false))
