use Rattle.base_lists.proofs.Common.{◌≡◌, ◌∙◌, ◌<◌, ap, sym, length, take, get_or, is_some, true, false, Some, cond, arith, bytes_eq}
use Rattle.dce_graph.specs.Prelude.{names_of, place_of_name, first_repeated, entries_now}
use Rattle.dce_graph.proofs.NamePlaces.{name_at, names_long, repeated_more, repeated_here, places_more}
use Rattle.dce_graph.proofs.names.all_names.Goals as goal

pub loop-place-preserved : goal.loop-place-preserved
loop-place-preserved c =
    let es = c.args.entries.now in
    let ns = names_of (entries_now es) in
    let i = c.loop-place.place in
    let name = (get_or es i c.index-entries-place.result).name.now in
    let within : i < length ns = omega (arith, names_long es) in
    let is = name_at es i c.index-entries-place.result c.loop-place-test.true in
    let new : is_some (place_of_name (take i ns) name) ≡ false = sym (c.in_ok-insert_name.ensures.had ∙ ap is_some (c.loop-place.invariant.places name)) ∙ c.if-branch.false in
    record {
      ahead = sym (repeated_more ns i name within is new) ∙ c.loop-place.invariant.ahead;
      places = λ q. c.in_ok-insert_name.ensures.noted q ∙ ap (cond (bytes_eq name q) (Some i)) (c.loop-place.invariant.places q) ∙ sym (places_more ns i name q within is new);
    }

pub returns-then-branch-clause-fault : goal.returns-then-branch-clause-fault
returns-then-branch-clause-fault c =
    let es = c.args.entries.now in
    let ns = names_of (entries_now es) in
    let i = c.loop-place.place in
    let name = (get_or es i c.index-entries-place.result).name.now in
    let within : i < length ns = omega (arith, names_long es) in
    let is = name_at es i c.index-entries-place.result c.loop-place-test.true in
    let old : is_some (place_of_name (take i ns) name) ≡ true = sym (c.in_ok-insert_name.ensures.had ∙ ap is_some (c.loop-place.invariant.places name)) ∙ c.if-branch.true in
    let first : first_repeated ns ≡ Some name = sym c.loop-place.invariant.ahead ∙ repeated_here ns i name within is old in
    rw first c.twice.ensures
