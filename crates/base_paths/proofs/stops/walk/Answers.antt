use Rattle.base_lists.proofs.Common.{◌≡◌, ◌∙◌, inl, inr, ap, sym, refl, Some, None, length, slice_get, arith, slice_get-get_or, slice_get_read}
use Rattle.base_paths.proofs.Marks.{walk_on, walk_stop, walk_met, walk_round, begun_more, keeps_more}
use Rattle.base_paths.proofs.stops.walk.Goals as goal

pub returns-in-None-clause-marked : goal.returns-in-None-clause-marked
returns-in-None-clause-marked c =
    let same : c.len-number.result ≡ length c.args.answers.now.items = omega arith in
    let step : slice_get c.args.steps.now c.walk.at ≡ Some None = slice_get-get_or c.args.steps.now c.walk.at None c.walk.invariant.inside ∙ ap Some c.in-None.is in
    rw same (walk_stop _ _ _ _ _ _ c.walk.invariant step)

pub returns-in-None-clause-taken : goal.returns-in-None-clause-taken
returns-in-None-clause-taken c = begun_more c.walk.marks.items c.walk.at c.len-number.result c.args.start (let i = c.walk.invariant.inside in let s = c.walk.invariant.sizes in omega arith) c.walk.invariant.begun

pub returns-in-None-clause-keeps : goal.returns-in-None-clause-keeps
returns-in-None-clause-keeps c = keeps_more c.args.marks.now.items c.walk.marks.items c.walk.at c.len-number.result (let i = c.walk.invariant.inside in let s = c.walk.invariant.sizes in omega arith) c.walk.invariant.keeps

pub walk-preserved : goal.walk-preserved
walk-preserved c =
    let same : c.len-number.result ≡ length c.args.answers.now.items = omega arith in
    let step : slice_get c.args.steps.now c.walk.at ≡ Some (Some c.in-Some.next) = slice_get-get_or c.args.steps.now c.walk.at None c.walk.invariant.inside ∙ ap Some c.in-Some.is in
    rw same (walk_on _ _ _ _ _ _ c.in-Some.next c.walk.invariant step (c.requires.there _ _ step))

pub returns-in-Some-index-clause-marked : goal.returns-in-Some-index-clause-marked
returns-in-Some-index-clause-marked c =
    let here : slice_get c.walk.marks.items c.walk.at ≡ Some (Some c.in-Some-index.walk) =
    slice_get_read c.walk.marks.items (length c.args.steps.now) c.walk.at c.index-2.result.now (sym c.walk.invariant.sizes) c.walk.invariant.inside c.index-2.ensures ∙ ap Some c.in-Some-index.is in
    let there : slice_get c.args.answers.now.items c.in-Some-index.walk ≡ Some c.index-in-Some-index.result.now =
    slice_get_read c.args.answers.now.items (length c.args.answers.now.items) c.in-Some-index.walk c.index-in-Some-index.result.now refl (omega arith) c.index-in-Some-index.ensures in
    walk_met _ _ _ _ _ _ c.in-Some-index.walk c.index-in-Some-index.result.now c.walk.invariant here there

pub returns-in-Some-index-clause-taken : goal.returns-in-Some-index-clause-taken
returns-in-Some-index-clause-taken c =
    let here : slice_get c.walk.marks.items c.walk.at ≡ Some (Some c.in-Some-index.walk) =
    slice_get_read c.walk.marks.items (length c.args.steps.now) c.walk.at c.index-2.result.now (sym c.walk.invariant.sizes) c.walk.invariant.inside c.index-2.ensures ∙ ap Some c.in-Some-index.is in
    elim c.walk.invariant.begun [ inl e ↦ (c.in-Some-index.walk, ap (slice_get c.walk.marks.items) (sym e) ∙ here) | inr b ↦ b ]

pub returns-in_default-clause-marked : goal.returns-in_default-clause-marked
returns-in_default-clause-marked c =
    let here : slice_get c.walk.marks.items c.walk.at ≡ Some (Some c.in-Some-index.walk) =
    slice_get_read c.walk.marks.items (length c.args.steps.now) c.walk.at c.index-2.result.now (sym c.walk.invariant.sizes) c.walk.invariant.inside c.index-2.ensures ∙ ap Some c.in-Some-index.is in
    walk_round _ _ _ _ _ _ c.in-Some-index.walk c.walk.invariant here (omega arith)

pub returns-in_default-clause-taken : goal.returns-in_default-clause-taken
returns-in_default-clause-taken c =
    let here : slice_get c.walk.marks.items c.walk.at ≡ Some (Some c.in-Some-index.walk) =
    slice_get_read c.walk.marks.items (length c.args.steps.now) c.walk.at c.index-2.result.now (sym c.walk.invariant.sizes) c.walk.invariant.inside c.index-2.ensures ∙ ap Some c.in-Some-index.is in
    elim c.walk.invariant.begun [ inl e ↦ (c.in-Some-index.walk, ap (slice_get c.walk.marks.items) (sym e) ∙ here) | inr b ↦ b ]
