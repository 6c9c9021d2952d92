use Rattle.base_lists.proofs.Common.{ℕ, ◌-◌, ◌+◌, ◌||◌, [], List, take, length, slice_get, arith, ap, ap₂, ◌∙◌, subst, slice_index, cons_option, list_any, every_at, slice_get_there, slice_index_is}
use Rattle.wasm_tree_spec.specs.Prelude.{Space, Func}
use Rattle.split_spec.specs.Prelude.{defined_at, entities}
use Rattle.split_slots.specs.OperandMarks.{Notes, body_names}
use Rattle.split_slots.proofs.MarkedOperands.{all_noted, notes_as, one_func, take_all, then_notes}
use Rattle.split_slots.proofs.named_entities.named_marks.Goals as goal

pub note_func-requires-clause-defined : goal.note_func-requires-clause-defined
note_func-requires-clause-defined c =
    let own = c.args.own.now in
    let (f, at) = slice_get_there own c.loop-at.at c.loop-at-test.true in
    let le = every_at _ own c.loop-at.at f c.requires.defined at in
    let is = slice_index_is own c.loop-at.at f at in
    let first = c.imported_funcs-first.ensures.value in
    omega (arith, le, is, first)

pub loop-at-preserved : goal.loop-at-preserved
loop-at-preserved c =
    let own = c.args.own.now in
    let m = c.args.module.now in
    let slots = c.args.slots.now in
    let k = c.loop-at.at in
    let (f, at) = slice_get_there own k c.loop-at-test.true in
    let test : Space → ℕ → Func → _ = λ s i g. body_names slots g.body s i in
    let place = ap₂ (λ a b. a - b) (slice_index_is own k f at) c.imported_funcs-first.ensures.value in
    notes_as (λ s i. list_any (test s i) (defined_at m (take k own)) || list_any (test s i) (cons_option (slice_get m.funcs (slice_index own k - c.imported_funcs-first.result)) [])) (λ s i. list_any (test s i) (defined_at m (take (k + 1) own)))
    c.in_ok-marks.marks c.note_func.new.marks
    (λ s i. ap (λ p. list_any (test s i) (defined_at m (take k own)) || list_any (test s i) (cons_option (slice_get m.funcs p) [])) place ∙ one_func test m own k f at s i)
    (then_notes (λ s i. list_any (test s i) (defined_at m (take k own))) (λ s i. list_any (test s i) (cons_option (slice_get m.funcs (slice_index own k - c.imported_funcs-first.result)) [])) c.in_ok-marks.marks c.loop-at.marks c.note_func.new.marks c.loop-at.invariant c.note_func.ensures)

pub returns : goal.returns
returns c space =
    let own = c.args.own.now in
    let m = c.args.module.now in
    let slots = c.args.slots.now in
    let test : Space → ℕ → _ = λ s i. list_any (λ f. body_names slots f.body s i) (defined_at m own) in
    let all = take_all own c.loop-at.at (omega (arith, c.loop-at-test.false)) in
    all_noted test c.in_ok-marks.marks c.loop-at.marks space (length (entities m space)) (c.in_ok-marks.ensures space)
    (subst (λ (fs : List ℕ). Notes (λ s i. list_any (λ f. body_names slots f.body s i) (defined_at m fs)) c.in_ok-marks.marks c.loop-at.marks) all c.loop-at.invariant)
