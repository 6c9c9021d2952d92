use Rattle.base_lists.proofs.Common.{◌≡◌, ◌∙◌, ap, ap₂, sym, subst, ◌<◌, ◌≤◌, ◌++◌, map, ◌∷◌, [], Some, length, slice_get, set, arith, drop_all, length-append, length-set, take_all, get_or_from_slice_get, mapped_more, part_at, part_more, none_past}
use Rattle.std.proofs.lemmas.List.{append-nil}
use Rattle.eval_snapshot.specs.Names.{redirected, stays}
use Rattle.eval_snapshot.proofs.exports.redirect_all.Goals as goal
use Rattle.eval_snapshot.proofs.exports.redirect_all.Goals.{in-Some+in_ok-keep, in_default}

pub loop-at-preserved : goal.loop-at-preserved
loop-at-preserved c =
    let xs = c.args.exports.now in
    let i = c.loop-at.at in
    let inv = c.loop-at.invariant in
    elim c.match-get_mut.branch [
      | in-Some+in_ok-keep w ↦
          let x = w.in-Some.export.now in
          let before = inv.many in
          let pushed = ap length (w.marks-is ∙ w.in_ok-keep.ensures.ok) in
          let counted = length-append c.loop-at.marks (w.redirect.result ∷ []) in
          record {
            redirected = λ evaluated kept h.
                let f = redirected evaluated c.args.empty in
                let at : Some x ≡ slice_get xs i = w.in-Some.ensures.value ∙ ap (λ ys. slice_get ys i) (inv.redirected evaluated kept h) ∙ part_at f xs i in
                w.exports-is ∙ (ap (set c.loop-at.exports i) (w.redirect.ensures.redirected evaluated kept h) ∙ (ap (λ ys. set ys i (f x)) (inv.redirected evaluated kept h) ∙ part_more f xs i x at));
            many = omega (arith, before, pushed, counted);
            size = ap length w.exports-is ∙ (length-set c.loop-at.exports i w.redirect.new.export ∙ inv.size);
            stay = λ evaluated kept h.
                let f = redirected evaluated c.args.empty in
                let at : Some x ≡ slice_get xs i = w.in-Some.ensures.value ∙ ap (λ ys. slice_get ys i) (inv.redirected evaluated kept h) ∙ part_at f xs i in
                w.marks-is ∙ (w.in_ok-keep.ensures.ok ∙ (ap₂ (λ ms b. ms ++ b ∷ []) (inv.stay evaluated kept h) (w.redirect.ensures.stays evaluated kept h) ∙
                sym (mapped_more (stays evaluated kept) xs i x (subst (λ n. i < n) c.len-at-end.ensures c.loop-at-test.true) (sym (get_or_from_slice_get xs i x x (sym at))))));
          }
      | in_default w ↦ absurd (let size = inv.size in let before = c.loop-at-test.true in let long = c.len-at-end.ensures in omega (arith, size, before, long, none_past c.loop-at.exports i w.in_default.ensures.value))
    ]

pub returns-clause-redirected : goal.returns-clause-redirected
returns-clause-redirected c = λ evaluated kept h.
    let over = c.loop-at-test.false in
    let long = c.len-at-end.ensures in
    let f = redirected evaluated c.args.empty in
    let xs = c.args.exports.now in
    let past : length xs ≤ c.loop-at.at = omega (arith, over, long) in
    c.loop-at.invariant.redirected evaluated kept h ∙ (ap₂ (λ ys zs. map f ys ++ zs) (take_all c.loop-at.at xs past) (drop_all c.loop-at.at xs past) ∙ append-nil (map f xs))
