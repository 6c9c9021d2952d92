use Rattle.std.proofs.Common.{◌≡◌, refl, arith}
use Rattle.eval_machine.proofs.DefinedMemory.{found, none_defined, none_past_it, own_memory}
use Rattle.eval_machine.proofs.MemorySteps.{fill_unknown, fill_nowhere, fill_untyped}
use Rattle.eval_machine.proofs.WriteSteps.{fill_begins}
use Rattle.eval_machine.proofs.kept.Kept.memory_fill.Goals as goal

pub returns-then-memory-self-clause-begins : goal.returns-then-memory-self-clause-begins
returns-then-memory-self-clause-begins c = fill_unknown c.args.input.now c.args.self.now c.requires.fits c.args.memory c.args.operands.now c.args.operands.now c.if-memory-self.true

pub returns-then-memory-self-2-clause-begins : goal.returns-then-memory-self-2-clause-begins
returns-then-memory-self-2-clause-begins c = fill_nowhere c.args.input.now c.args.self.now c.requires.fits c.args.memory c.args.operands.now c.args.operands.now c.if-memory-self.false (none_past_it c.args.input.now c.args.self.now c.requires.fits c.args.memory c.if-memory-self-2.true)

pub returns-in_default-clause-begins : goal.returns-in_default-clause-begins
returns-in_default-clause-begins c =
    let same : c.args.memory ≡ c.args.self.now.imports.memories = omega (arith, c.if-memory-self.false, c.if-memory-self-2.false) in
    fill_nowhere c.args.input.now c.args.self.now c.requires.fits c.args.memory c.args.operands.now c.args.operands.now c.if-memory-self.false (none_defined c.args.input.now c.args.self.now c.requires.fits c.args.memory same c.in_default.is)

pub returns-in_default-pop_range-clause-begins : goal.returns-in_default-pop_range-clause-begins
returns-in_default-pop_range-clause-begins c =
    let same : c.args.memory ≡ c.args.self.now.imports.memories = omega (arith, c.if-memory-self.false, c.if-memory-self-2.false) in
    fill_untyped c.args.input.now c.args.self.now c.requires.fits c.args.memory c.args.operands.now c.pop_range.new.operands c.if-memory-self.false c.in-Some.paged (found c.args.input.now c.args.self.now c.requires.fits c.args.memory c.in-Some.paged same c.in-Some.is)
    (c.in_default-pop_range.ensures.none refl)

pub returns-clause-begins : goal.returns-clause-begins
returns-clause-begins c =
    let same : c.args.memory ≡ c.args.self.now.imports.memories = omega (arith, c.if-memory-self.false, c.if-memory-self-2.false) in
    fill_begins c.args.input.now c.args.self.now c.requires.fits c.args.memory c.in-Some.paged (found c.args.input.now c.args.self.now c.requires.fits c.args.memory c.in-Some.paged same c.in-Some.is) (own_memory c.args.input.now c.args.self.now c.requires.fits c.args.memory c.if-memory-self.false)
    c.in-Some.is c.args.operands.now c.pop_range.new.operands
    c.in-Some-pop_range.range.to c.in-Some-pop_range.range.from c.in-Some-pop_range.range.count c.in-Some-pop_range.ensures.some c.fill.result c.fill.new.paged c.fill.new.turns c.fill.ensures.told c.fill.ensures.wrote
