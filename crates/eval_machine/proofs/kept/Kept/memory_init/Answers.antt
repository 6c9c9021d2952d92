use Rattle.std.proofs.Common.{◌≡◌, ◌+◌, ◌-◌, refl, arith}
use Rattle.eval_machine.proofs.DefinedMemory.{found, none_defined, none_past_it, own_memory}
use Rattle.eval_machine.proofs.MemoryInitSteps.{data_found, init_begins, init_missing, init_nowhere, init_outside, init_unknown, init_untyped}
use Rattle.eval_machine.proofs.kept.Kept.memory_init.Goals as goal

pub returns-then-memory-self-clause-begins : goal.returns-then-memory-self-clause-begins
returns-then-memory-self-clause-begins c = init_unknown c.args.input.now c.args.self.now c.requires.fits c.args.segment c.args.memory c.args.operands.now c.args.operands.now c.if-memory-self.true

pub returns-then-memory-self-2-clause-begins : goal.returns-then-memory-self-2-clause-begins
returns-then-memory-self-2-clause-begins c = init_nowhere c.args.input.now c.args.self.now c.requires.fits c.args.segment c.args.memory c.args.operands.now c.args.operands.now c.if-memory-self.false (none_past_it c.args.input.now c.args.self.now c.requires.fits c.args.memory c.if-memory-self-2.true)

pub returns-in_default-clause-begins : goal.returns-in_default-clause-begins
returns-in_default-clause-begins c = init_missing c.args.input.now c.args.self.now c.requires.fits c.args.segment c.args.memory c.args.operands.now c.args.operands.now c.if-memory-self.false (c.in_default.ensures.none refl)

pub returns-in_default-memory-clause-begins : goal.returns-in_default-memory-clause-begins
returns-in_default-memory-clause-begins c =
    let same : c.args.memory ≡ c.args.self.now.imports.memories = omega (arith, c.if-memory-self.false, c.if-memory-self-2.false) in
    init_nowhere c.args.input.now c.args.self.now c.requires.fits c.args.segment c.args.memory c.args.operands.now c.args.operands.now c.if-memory-self.false (none_defined c.args.input.now c.args.self.now c.requires.fits c.args.memory same c.in_default-memory.is)

pub returns-in_default-pop_range-clause-begins : goal.returns-in_default-pop_range-clause-begins
returns-in_default-pop_range-clause-begins c =
    let same : c.args.memory ≡ c.args.self.now.imports.memories = omega (arith, c.if-memory-self.false, c.if-memory-self-2.false) in
    init_untyped c.args.input.now c.args.self.now c.requires.fits c.args.segment c.args.memory c.args.operands.now c.pop_range.new.operands c.if-memory-self.false c.in-Some-memory.paged
    (found c.args.input.now c.args.self.now c.requires.fits c.args.memory c.in-Some-memory.paged same c.in-Some-memory.is)
    c.in-Some.bytes.now (data_found c.args.input.now c.args.self.now c.args.segment c.in-Some.bytes.now c.in-Some.ensures.some) (c.in_default-pop_range.ensures.none refl)

pub returns-then-from-bytes-clause-begins : goal.returns-then-from-bytes-clause-begins
returns-then-from-bytes-clause-begins c =
    let same : c.args.memory ≡ c.args.self.now.imports.memories = omega (arith, c.if-memory-self.false, c.if-memory-self-2.false) in
    init_outside c.args.input.now c.args.self.now c.requires.fits c.args.segment c.args.memory c.args.operands.now c.pop_range.new.operands c.if-memory-self.false c.in-Some-memory.paged
    (found c.args.input.now c.args.self.now c.requires.fits c.args.memory c.in-Some-memory.paged same c.in-Some-memory.is)
    c.in-Some.bytes.now (data_found c.args.input.now c.args.self.now c.args.segment c.in-Some.bytes.now c.in-Some.ensures.some) c.in-Some-pop_range.range.to c.in-Some-pop_range.range.from c.in-Some-pop_range.range.count c.pop_range.new.operands c.in-Some-pop_range.ensures.some
    (rw (c.from.ensures, c.from-2.ensures) at c.if-from-bytes.true)

pub returns-clause-begins : goal.returns-clause-begins
returns-clause-begins c =
    let same : c.args.memory ≡ c.args.self.now.imports.memories = omega (arith, c.if-memory-self.false, c.if-memory-self-2.false) in
    let many : c.in-Some-pop_range.range.from + c.in-Some-pop_range.range.count - c.in-Some-pop_range.range.from ≡ c.in-Some-pop_range.range.count = omega arith in
    init_begins c.args.input.now c.args.self.now c.requires.fits c.args.segment c.args.memory c.in-Some-memory.paged (found c.args.input.now c.args.self.now c.requires.fits c.args.memory c.in-Some-memory.paged same c.in-Some-memory.is)
    (own_memory c.args.input.now c.args.self.now c.requires.fits c.args.memory c.if-memory-self.false) c.in-Some-memory.is c.args.operands.now c.pop_range.new.operands c.in-Some.bytes.now (data_found c.args.input.now c.args.self.now c.args.segment c.in-Some.bytes.now c.in-Some.ensures.some)
    c.in-Some-pop_range.range.to c.in-Some-pop_range.range.from c.in-Some-pop_range.range.count c.in-Some-pop_range.ensures.some (rw (c.from.ensures, c.from-2.ensures) at c.if-from-bytes.false) c.init.result c.init.new.paged c.init.new.turns (rw many at c.init.ensures.told)
    (rw many at c.init.ensures.wrote)
