use Rattle.base_lists.proofs.Common.{take, [], ◌∷◌, ◌++◌, sym, ap, ◌∙◌, subst, refl, take_more}
use Rattle.split_plan.specs.NameTable.{AreMarks, held_of, fault_in}
use Rattle.split_plan.proofs.Firsts.{goes_on}
use Rattle.split_plan.proofs.WordMarks.{one_more_mark}
use Rattle.split_plan.proofs.marking.marked.Goals as goal

pub loop-word-preserved : goal.loop-word-preserved
loop-word-preserved c =
    let i = c.loop-word.word-index in
    let words = c.args.words.now in
    let word = c.word-item.result in
    let held = held_of c.args.table.now in
    let next = take_more words i word c.loop-word-test.true ∙ ap (λ w. take i words ++ w ∷ []) (sym c.word-item.is) in record {
      marks = subst (λ ws. AreMarks held ws c.args.count c.mark.new.marks.items) (sym next) (one_more_mark held c.args.count (take i words) word c.in_ok-func.func _ _ c.in_ok-func.ensures.func c.mark.ensures c.loop-word.invariant.marks);
      none = goes_on (λ w. fault_in (held w) w) words i word c.loop-word-test.true (ap (λ w. fault_in (held w) w) (sym c.word-item.is) ∙ c.in_ok-func.ensures.none refl) c.loop-word.invariant.none;
    }
