use Rattle.std.proofs.Common.{◌≡◌, refl, arith}
use Rattle.eval_machine.proofs.DefinedMemory.{found, none_defined, none_past_it, own_memory}
use Rattle.eval_machine.proofs.MemorySteps.{copy_unknown, copy_unknown_source, copy_nowhere, copy_nowhere_source, copy_untyped, copy_outside}
use Rattle.eval_machine.proofs.WriteSteps.{copy_begins}
use Rattle.eval_machine.proofs.kept.Kept.memory_copy.Goals as goal

pub returns-then-memory-imported-clause-begins : goal.returns-then-memory-imported-clause-begins
returns-then-memory-imported-clause-begins c = copy_unknown c.args.input.now c.args.self.now c.requires.fits c.args.memory c.args.source c.args.operands.now c.args.operands.now c.if-memory-imported.true

pub returns-then-source-imported-clause-begins : goal.returns-then-source-imported-clause-begins
returns-then-source-imported-clause-begins c = copy_unknown_source c.args.input.now c.args.self.now c.requires.fits c.args.memory c.args.source c.args.operands.now c.args.operands.now c.if-memory-imported.false c.if-source-imported.true

pub returns-then-memory-imported-2-clause-begins : goal.returns-then-memory-imported-2-clause-begins
returns-then-memory-imported-2-clause-begins c = copy_nowhere c.args.input.now c.args.self.now c.requires.fits c.args.memory c.args.source c.args.operands.now c.args.operands.now c.if-memory-imported.false c.if-source-imported.false
    (none_past_it c.args.input.now c.args.self.now c.requires.fits c.args.memory c.if-memory-imported-2.true)

pub returns-then-source-imported-2-clause-begins : goal.returns-then-source-imported-2-clause-begins
returns-then-source-imported-2-clause-begins c = copy_nowhere_source c.args.input.now c.args.self.now c.requires.fits c.args.memory c.args.source c.args.operands.now c.args.operands.now c.if-memory-imported.false c.if-source-imported.false
    (none_past_it c.args.input.now c.args.self.now c.requires.fits c.args.source c.if-source-imported-2.true)

pub returns-in_default-clause-begins : goal.returns-in_default-clause-begins
returns-in_default-clause-begins c =
    let same : c.args.memory ≡ c.args.self.now.imports.memories = omega (arith, c.if-memory-imported.false, c.if-memory-imported-2.false) in
    let also : c.args.source ≡ c.args.memory = omega (arith, same, c.if-source-imported.false, c.if-source-imported-2.false) in
    copy_nowhere c.args.input.now c.args.self.now c.requires.fits c.args.memory c.args.source c.args.operands.now c.args.operands.now c.if-memory-imported.false c.if-source-imported.false (none_defined c.args.input.now c.args.self.now c.requires.fits c.args.memory same c.in_default.is)

pub returns-in_default-pop_range-clause-begins : goal.returns-in_default-pop_range-clause-begins
returns-in_default-pop_range-clause-begins c =
    let same : c.args.memory ≡ c.args.self.now.imports.memories = omega (arith, c.if-memory-imported.false, c.if-memory-imported-2.false) in
    let also : c.args.source ≡ c.args.memory = omega (arith, same, c.if-source-imported.false, c.if-source-imported-2.false) in
    copy_untyped c.args.input.now c.args.self.now c.requires.fits c.args.memory c.args.source c.args.operands.now c.pop_range.new.operands c.if-memory-imported.false c.if-source-imported.false c.in-Some.paged
    (found c.args.input.now c.args.self.now c.requires.fits c.args.memory c.in-Some.paged same c.in-Some.is) also (c.in_default-pop_range.ensures.none refl)

pub returns-then-from-size-clause-begins : goal.returns-then-from-size-clause-begins
returns-then-from-size-clause-begins c =
    let same : c.args.memory ≡ c.args.self.now.imports.memories = omega (arith, c.if-memory-imported.false, c.if-memory-imported-2.false) in
    let also : c.args.source ≡ c.args.memory = omega (arith, same, c.if-source-imported.false, c.if-source-imported-2.false) in
    copy_outside c.args.input.now c.args.self.now c.requires.fits c.args.memory c.args.source c.args.operands.now c.pop_range.new.operands c.if-memory-imported.false c.if-source-imported.false c.in-Some.paged
    (found c.args.input.now c.args.self.now c.requires.fits c.args.memory c.in-Some.paged same c.in-Some.is) also c.in-Some-pop_range.range.to c.in-Some-pop_range.range.from c.in-Some-pop_range.range.count c.pop_range.new.operands c.in-Some-pop_range.ensures.some
    (rw (c.from.ensures, c.from-2.ensures, c.size.ensures) at c.if-from-size.true)

pub returns-clause-begins : goal.returns-clause-begins
returns-clause-begins c =
    let same : c.args.memory ≡ c.args.self.now.imports.memories = omega (arith, c.if-memory-imported.false, c.if-memory-imported-2.false) in
    let also : c.args.source ≡ c.args.memory = omega (arith, same, c.if-source-imported.false, c.if-source-imported-2.false) in
    rw also
    (copy_begins c.args.input.now c.args.self.now c.requires.fits c.args.memory c.in-Some.paged (found c.args.input.now c.args.self.now c.requires.fits c.args.memory c.in-Some.paged same c.in-Some.is)
    (own_memory c.args.input.now c.args.self.now c.requires.fits c.args.memory c.if-memory-imported.false) c.in-Some.is c.args.operands.now c.pop_range.new.operands
    c.in-Some-pop_range.range.to c.in-Some-pop_range.range.from c.in-Some-pop_range.range.count c.in-Some-pop_range.ensures.some (rw (c.from.ensures, c.from-2.ensures, c.size.ensures) at c.if-from-size.false) c.copy.result c.copy.new.paged c.copy.new.turns c.copy.ensures.told c.copy.ensures.wrote)
