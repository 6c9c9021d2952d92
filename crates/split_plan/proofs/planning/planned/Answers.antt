use Rattle.base_lists.proofs.Common.{◌≡◌, Err, sym, ◌∙◌, refl, arith, option_copied}
use Rattle.split_plan.specs.NameTable.{has_wanted_mark}
use Rattle.split_plan.specs.PlannedMoves.{plan_for, plan_of}
use Rattle.split_plan.proofs.PlanLaws.{split_fault, keep_fault, both_fault, no_fault, plan_told}
use Rattle.split_plan.proofs.planning.planned.Goals as goal

pub returns-in_err-wanted-clause-fault : goal.returns-in_err-wanted-clause-fault
returns-in_err-wanted-clause-fault c =
    let gone : c.from_residual-in_err-wanted.result ≡ Err c.in_err-wanted.field-0.0 = grind arith in
    rw (gone, sym c.module-module.ensures.value) (split_fault c.module-module.result.now c.args.names.now _ c.in_ok-table.ensures (option_copied c.args.split) (option_copied c.args.keep) _ (rw c.words_of.ensures at c.in_err-wanted.ensures.fault))

pub returns-in_err-kept-clause-fault : goal.returns-in_err-kept-clause-fault
returns-in_err-kept-clause-fault c =
    let gone : c.from_residual-in_err-kept.result ≡ Err c.in_err-kept.field-0.0 = grind arith in
    rw (gone, sym c.module-module.ensures.value) (keep_fault c.module-module.result.now c.args.names.now _ c.in_ok-table.ensures (option_copied c.args.split) (option_copied c.args.keep) _ (rw c.words_of.ensures at (c.in_ok-wanted.ensures.none refl))
    (rw c.words_of-2.ensures at c.in_err-kept.ensures.fault))

pub returns-in_err-refuse_kept-clause-fault : goal.returns-in_err-refuse_kept-clause-fault
returns-in_err-refuse_kept-clause-fault c =
    let gone : c.from_residual-in_err-refuse_kept.result ≡ Err c.in_err-refuse_kept.field-0.0 = grind arith in
    rw (gone, sym c.module-module.ensures.value) (both_fault c.module-module.result.now c.args.names.now _ c.in_ok-table.ensures (option_copied c.args.split) (option_copied c.args.keep) c.in_ok-kept.kept.items
    (rw (c.words_of-2.ensures, c.func_space-count.ensures) at c.in_ok-kept.ensures.marks) _ (rw c.words_of.ensures at (c.in_ok-wanted.ensures.none refl)) (rw c.words_of-2.ensures at (c.in_ok-kept.ensures.none refl))
    (rw (c.deref.ensures.value, c.words_of-3.ensures) at c.in_err-refuse_kept.ensures.fault))

pub returns-clause-plan : goal.returns-clause-plan
returns-clause-plan c =
    let m = c.module-module.result.now in
    let split = option_copied c.args.split in
    let keep = option_copied c.args.keep in
    let wanted = c.in_ok-wanted.wanted.items in
    let kept = c.in_ok-kept.kept.items in
    let told : plan_for m (has_wanted_mark split wanted kept) ≡ plan_of m c.args.names.now split keep = plan_told m c.args.names.now _ c.in_ok-table.ensures split keep wanted kept (rw (c.words_of.ensures, c.func_space-count.ensures) at c.in_ok-wanted.ensures.marks)
    (rw (c.words_of-2.ensures, c.func_space-count.ensures) at c.in_ok-kept.ensures.marks) in
    rw (sym c.module-module.ensures.value) (rw (c.deref-2.ensures.value, c.deref-3.ensures.value) at c.in_ok-choose_by.ensures ∙ told)

pub returns-clause-none : goal.returns-clause-none
returns-clause-none c = λ ok. rw (sym c.module-module.ensures.value) (no_fault c.module-module.result.now c.args.names.now _ c.in_ok-table.ensures (option_copied c.args.split) (option_copied c.args.keep) c.in_ok-kept.kept.items
    (rw (c.words_of-2.ensures, c.func_space-count.ensures) at c.in_ok-kept.ensures.marks) (rw c.words_of.ensures at (c.in_ok-wanted.ensures.none refl)) (rw c.words_of-2.ensures at (c.in_ok-kept.ensures.none refl))
    (rw (c.deref.ensures.value, c.words_of-3.ensures) at (c.in_ok-refuse_kept.ensures.none refl)))
