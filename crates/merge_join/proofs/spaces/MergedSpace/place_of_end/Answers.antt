use Rattle.std.proofs.Common.{◌∙◌, sym, ap}
use Rattle.std.specs.Option.{unwrap_or}
use Rattle.merge_spec.specs.Parts.{named_modules}
use Rattle.merge_join.specs.LinkedParts.{place_at, site}
use Rattle.merge_join.specs.Spaces.{staying_place}
use Rattle.merge_join.proofs.Ends.{or_zero}
use Rattle.merge_join.proofs.spaces.MergedSpace.place_of_end.Goals as goal

pub returns-in-Outside : goal.returns-in-Outside
unfolding place_at
returns-in-Outside c =
    let s = c.args.self.now in
    let ps = named_modules s.parts.now in
    let k = s.space in
    c.unwrap_or.ensures ∙ ap (λ o. unwrap_or o 0) c.staying_at.ensures ∙ or_zero (staying_place ps k (site c.in-Outside.part c.in-Outside.import)) ∙ ap (place_at ps k) (sym c.in-Outside.is)
