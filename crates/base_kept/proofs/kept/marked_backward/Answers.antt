use Rattle.base_lists.proofs.Common.{ap, sym, ◌∙◌, reverse, refl, arith, length, ◌++◌, ◌∷◌, [], length-append}
use Rattle.base_kept.specs.Kept.{kept, is_marked}
use Rattle.base_kept.proofs.Laws.{one_taken, one_left, kept_none}
use Rattle.base_kept.proofs.kept.marked_backward.Goals as goal

-- src/kept.rt:20:5
pub loop-item-preserved-in-Continue-1 : goal.loop-item-preserved-in-Continue-1
loop-item-preserved-in-Continue-1 g c =
    let shorter = ap length c.in-Some.ensures.some in
    let many = c.loop-item.invariant.many in
    let counted = length-append c.pop.new.self (c.in-Some.item ∷ []) in
    record {
      many = omega (arith, shorter, many, counted);
      is =
          ap (λ back. kept c.args.marks.now c.pop.new.self ++ reverse back) c.in_ok-keep.ensures.ok
          ∙ one_taken c.args.marks.now c.args.items c.loop-item.items c.pop.new.self c.loop-item.back c.in-Some.item c.in-Some.ensures.some (ap (is_marked c.args.marks.now) (sym c.len.ensures) ∙ c.if-marks-len.true) c.loop-item.invariant.is;
    }

-- src/kept.rt:20:5
pub loop-item-preserved : goal.loop-item-preserved
loop-item-preserved g c =
    let shorter = ap length c.in-Some.ensures.some in
    let many = c.loop-item.invariant.many in
    let counted = length-append c.pop.new.self (c.in-Some.item ∷ []) in
    record {
      many = omega (arith, shorter, many, counted);
      is = one_left c.args.marks.now c.args.items c.loop-item.items c.pop.new.self c.loop-item.back c.in-Some.item c.in-Some.ensures.some (ap (is_marked c.args.marks.now) (sym c.len.ensures) ∙ c.if-marks-len.false) c.loop-item.invariant.is;
    }

-- src/kept.rt:10:1
pub returns : goal.returns
returns g c =
    ap (λ xs. xs ++ reverse c.loop-item.back) (sym (ap (kept c.args.marks.now) (c.in_default.ensures.none.0 refl) ∙ kept_none c.args.marks.now)) ∙ c.loop-item.invariant.is
