use Rattle.base_lists.proofs.Common.{◌≡◌, ◌∙◌, ◌<◌, sym, ap, refl, subst, ℕ, List, length, slice_get, arith, Err, Some, length-map, slice_get_read, slice_get_within, map_at}
use Rattle.std.proofs.Common.{Bor}
use Rattle.merge_names.specs.Given.{texts, IsConflictOf}
use Rattle.merge_names.specs.Names.{conflict}
use Rattle.merge_spec.specs.Prelude.{named_modules}
use Rattle.merge_join.proofs.Exported.{none_repeated, repeated_at}
use Rattle.merge_join.proofs.exports.new_names.Goals as goal

-- A place of a name in the borrowed list is a place in the kept list.
is_within : (lent kept : List (Bor (List ℕ))) (place : ℕ) (name : List ℕ) → lent ≡ kept → slice_get (texts lent) place ≡ Some name → place < length kept
is_within lent kept place name same at =
    let within = slice_get_within (texts lent) place name at in
    omega (arith, within, length-map lent (λ n. n.now), ap length same)

pub returns-in-Ok-clause-none : goal.returns-in-Ok-clause-none
returns-in-Ok-clause-none c = λ ok.
    none_repeated (named_modules c.args.parts.now) c.args.mode (texts c.as_slice.result.now) (ap texts c.as_slice.ensures.value ∙ c.in_ok-names.ensures) (c.in-Ok.ensures.none ok)

pub index-requires : goal.index-requires
index-requires c =
    let place = c.in-Err-Conflict.place in
    let first = (c.choose_names.ensures.first place (c.in-Err-Conflict.is ∙ ap Err c.in-Err-Conflict.field-0-is)).1.came in
    let within = is_within c.as_slice.result.now c.in_ok-names.names.items place first.0 c.as_slice.ensures.value first.1 in
    omega arith

pub returns-in-Err-Conflict-clause-repeated : goal.returns-in-Err-Conflict-clause-repeated
returns-in-Err-Conflict-clause-repeated c =
    let items = c.in_ok-names.names.items in
    let place = c.in-Err-Conflict.place in
    let names = texts c.as_slice.result.now in
    let same = ap texts c.as_slice.ensures.value ∙ c.in_ok-names.ensures in
    let came = repeated_at (named_modules c.args.parts.now) c.args.mode names place same (subst (λ e. IsConflictOf e (conflict c.args.mode names)) c.in-Err-Conflict.field-0-is c.in-Err-Conflict.ensures.conflict) in
    let first = (c.choose_names.ensures.first place (c.in-Err-Conflict.is ∙ ap Err c.in-Err-Conflict.field-0-is)).1.came in
    let within = is_within c.as_slice.result.now items place first.0 c.as_slice.ensures.value first.1 in
    let read = slice_get_read items (length items) place c.index.result.now refl within c.index.ensures in
    sym came ∙ ap (λ xs. slice_get (texts xs) place) c.as_slice.ensures.value ∙ map_at (λ n. n.now) items place c.index.result.now read ∙ ap Some (sym c.in_ok-name-in-Err-Conflict.ensures)
