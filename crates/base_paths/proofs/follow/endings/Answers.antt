use Rattle.base_lists.proofs.Common.{List, Option, map, subst, sym, take, ℕ, ap, ◌≡◌, ◌∙◌, slice_get, take_all}
use Rattle.std.specs.Option.{option_and_then}
use Rattle.base_paths.specs.Paths.{AreEnds, AreThere}
use Rattle.base_paths.specs.Steps.{AreEndings, next_place, ending_of}
use Rattle.base_paths.proofs.Leads.{endings_right, named_there}
use Rattle.base_paths.proofs.follow.endings.Goals as goal

pub ends-requires-clause-there : goal.ends-requires-clause-there
ends-requires-clause-there g c = subst AreThere (sym (c.deref.ensures.value ∙ c.in_ok-nexts.ensures)) (named_there c.args.steps.now c.requires.there)

pub returns : goal.returns
returns g c =
    let ends : AreEnds (map next_place c.args.steps.now) c.in_ok-stops.stops.items =
    subst (λ (xs : List (Option ℕ)). AreEnds xs c.in_ok-stops.stops.items) (c.deref.ensures.value ∙ c.in_ok-nexts.ensures) c.in_ok-stops.ensures.ends in
    let all = c.loop-stop.invariant in
    let same : c.deref-stop-items.result.now ≡ c.in_ok-stops.stops.items = c.deref-stop-items.ensures.value in
    let stops : take c.loop-stop.stop-index c.deref-stop-items.result.now ≡ c.in_ok-stops.stops.items = take_all c.loop-stop.stop-index c.deref-stop-items.result.now c.loop-stop-test.false ∙ same in
    let is = all ∙ ap (map (option_and_then (λ n. option_and_then ending_of (slice_get c.args.steps.now n)))) stops in
    subst (AreEndings c.args.steps.now) (sym is) (endings_right c.args.steps.now c.in_ok-stops.stops.items ends)
