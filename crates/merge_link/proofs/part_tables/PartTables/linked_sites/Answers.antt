use Rattle.std.proofs.Common.{◌≡◌, ◌∙◌, inl, inr, sym, refl, subst, None, Some, Err, arith}
use Rattle.merge_spec.specs.Parts.{named_modules}
use Rattle.merge_link.specs.Resolving.{clash_faults, global_faults, import_faults}
use Rattle.merge_link.proofs.Whole.{fault_one, fault_two, fault_three, fault_four, refused}
use Rattle.merge_link.proofs.part_tables.PartTables.linked_sites.Goals as goal

pub returns-in_err-ends-clause-fault : goal.returns-in_err-ends-clause-fault
returns-in_err-ends-clause-fault c =
    let lp = named_modules c.args.self.now.parts.now in
    let f = c.in_err-ends.field-0.0 in
    let gone : c.from_residual.result ≡ Err f = grind arith in
    rw gone (refused (import_faults lp) lp f (fault_one lp f) c.in_err-ends.ensures)

pub returns-in_err-kept-clause-fault : goal.returns-in_err-kept-clause-fault
returns-in_err-kept-clause-fault c =
    let lp = named_modules c.args.self.now.parts.now in
    let f = c.in_err-kept.field-0.0 in
    let gone : c.from_residual-in_err-kept.result ≡ Err f = grind arith in
    rw gone (refused (clash_faults lp) lp f (fault_two lp f c.in_ok-ends.ensures.1) c.in_err-kept.ensures)

pub returns-then-has_too_many_memories-clause-fault : goal.returns-then-has_too_many_memories-clause-fault
returns-then-has_too_many_memories-clause-fault c =
    inr (fault_three (named_modules c.args.self.now.parts.now) c.in_ok-ends.ensures.1 c.in_ok-kept.ensures.1 (sym c.has_too_many_memories.ensures ∙ c.if-has_too_many_memories.true))

pub returns-in_err-reads-clause-fault : goal.returns-in_err-reads-clause-fault
returns-in_err-reads-clause-fault c =
    let lp = named_modules c.args.self.now.parts.now in
    let f = c.in_err-reads.field-0.0 in
    let gone : c.from_residual-in_err-reads.result ≡ Err f = grind arith in
    rw gone (refused (global_faults lp) lp f (fault_four lp (Some f) c.in_ok-ends.ensures.1 c.in_ok-kept.ensures.1 (sym c.has_too_many_memories.ensures ∙ c.if-has_too_many_memories.false)) c.in_err-reads.ensures)

pub returns-clause-linked : goal.returns-clause-linked
returns-clause-linked c =
    fault_four (named_modules c.args.self.now.parts.now) None c.in_ok-ends.ensures.1 c.in_ok-kept.ensures.1 (sym c.has_too_many_memories.ensures ∙ c.if-has_too_many_memories.false) c.in_ok-reads.ensures.1
