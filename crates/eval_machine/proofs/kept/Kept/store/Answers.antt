use Rattle.std.proofs.Common.{◌≡◌, refl, sym, arith}
use Rattle.eval_machine.proofs.DefinedMemory.{found, none_defined, none_past_it, own_memory}
use Rattle.eval_machine.proofs.StoreSteps.{store_begins, store_no_place, store_nothing, store_nowhere, store_unknown, store_untyped}
use Rattle.eval_machine.proofs.kept.Kept.store.Goals as goal

pub returns-then-arg-self-clause-begins : goal.returns-then-arg-self-clause-begins
returns-then-arg-self-clause-begins c = store_unknown c.args.input.now c.args.self.now c.requires.fits c.args.op c.args.arg c.args.operands.now c.args.operands.now c.if-arg-self.true

pub returns-then-arg-self-2-clause-begins : goal.returns-then-arg-self-2-clause-begins
returns-then-arg-self-2-clause-begins c = store_nowhere c.args.input.now c.args.self.now c.requires.fits c.args.op c.args.arg c.args.operands.now c.args.operands.now c.if-arg-self.false (none_past_it c.args.input.now c.args.self.now c.requires.fits c.args.arg.memory c.if-arg-self-2.true)

pub returns-in_default-clause-begins : goal.returns-in_default-clause-begins
returns-in_default-clause-begins c =
    let same : c.args.arg.memory ≡ c.args.self.now.imports.memories = omega (arith, c.if-arg-self.false, c.if-arg-self-2.false) in
    store_nowhere c.args.input.now c.args.self.now c.requires.fits c.args.op c.args.arg c.args.operands.now c.args.operands.now c.if-arg-self.false (none_defined c.args.input.now c.args.self.now c.requires.fits c.args.arg.memory same c.in_default.is)

pub returns-in_default-pop-clause-begins : goal.returns-in_default-pop-clause-begins
returns-in_default-pop-clause-begins c =
    let same : c.args.arg.memory ≡ c.args.self.now.imports.memories = omega (arith, c.if-arg-self.false, c.if-arg-self-2.false) in
    store_nothing c.args.input.now c.args.self.now c.requires.fits c.args.op c.args.arg c.args.operands.now c.pop.new.self c.if-arg-self.false c.in-Some.paged (found c.args.input.now c.args.self.now c.requires.fits c.args.arg.memory c.in-Some.paged same c.in-Some.is) c.in_default-pop.ensures.0

pub returns-in_default-number_of-clause-begins : goal.returns-in_default-number_of-clause-begins
returns-in_default-number_of-clause-begins c =
    let same : c.args.arg.memory ≡ c.args.self.now.imports.memories = omega (arith, c.if-arg-self.false, c.if-arg-self-2.false) in
    store_untyped c.args.input.now c.args.self.now c.requires.fits c.args.op c.args.arg c.args.operands.now c.pop.new.self c.if-arg-self.false c.in-Some.paged (found c.args.input.now c.args.self.now c.requires.fits c.args.arg.memory c.in-Some.paged same c.in-Some.is) _ c.pop.new.self
    c.in-Some-pop.ensures (sym c.in_default-number_of.ensures)

pub returns-in_default-pop_narrow-clause-begins : goal.returns-in_default-pop_narrow-clause-begins
returns-in_default-pop_narrow-clause-begins c =
    let same : c.args.arg.memory ≡ c.args.self.now.imports.memories = omega (arith, c.if-arg-self.false, c.if-arg-self-2.false) in
    store_no_place c.args.input.now c.args.self.now c.requires.fits c.args.op c.args.arg c.args.operands.now c.pop_narrow.new.self c.if-arg-self.false c.in-Some.paged (found c.args.input.now c.args.self.now c.requires.fits c.args.arg.memory c.in-Some.paged same c.in-Some.is) _ c.pop.new.self
    c.in-Some-number_of.number c.in-Some-pop.ensures (sym c.in-Some-number_of.ensures) (c.in_default-pop_narrow.ensures.none refl)

pub returns-clause-begins : goal.returns-clause-begins
returns-clause-begins c =
    let same : c.args.arg.memory ≡ c.args.self.now.imports.memories = omega (arith, c.if-arg-self.false, c.if-arg-self-2.false) in
    rw c.in-Some-pop.ensures
    (store_begins c.args.input.now c.args.self.now c.requires.fits c.args.op c.args.arg c.in-Some.paged (found c.args.input.now c.args.self.now c.requires.fits c.args.arg.memory c.in-Some.paged same c.in-Some.is)
    (own_memory c.args.input.now c.args.self.now c.requires.fits c.args.arg.memory c.if-arg-self.false) c.in-Some.is _ c.pop.new.self c.pop_narrow.new.self
    c.in-Some-number_of.number c.in-Some-pop_narrow.base (sym c.in-Some-number_of.ensures) c.in-Some-pop_narrow.ensures.some c.store.result c.store.new.paged (rw (c.from.ensures, c.from-2.ensures, c.written_by.ensures.value) at c.store.ensures.told)
    (rw (c.from.ensures, c.from-2.ensures, c.written_by.ensures.value) at c.store.ensures.wrote))
