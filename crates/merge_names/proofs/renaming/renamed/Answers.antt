use Rattle.base_lists.proofs.Common.{◌≡◌, ◌∙◌, sym, ap, subst, ◌++◌, ◌∷◌, [], ℕ, List, ◌+◌, Some, map, take, slice_get, arith, contains_text, bytes_eq, map_push, length-map, take_all}
use Rattle.std.specs.HashMap.{get_by}
use Rattle.merge_names.specs.Names.{renamed}
use Rattle.merge_names.specs.Given.{texts}
use Rattle.merge_names.proofs.Coming.{HasCome, come_on, next_is}
use Rattle.merge_names.proofs.Renamed.{renamed_length}
use Rattle.merge_names.proofs.renaming.renamed.Goals as goal

pub loop-place-preserved : goal.loop-place-preserved
loop-place-preserved c =
    let names = texts c.args.names.now in
    let i = c.loop-place.place in
    let name = c.text_at-name.result.now in
    let at : slice_get names i ≡ Some name = c.text_at-name.ensures in
    let more : take (i + 1) (renamed names) ≡ take i (renamed names) ++ c.in_ok-rename_one.field-0 ∷ [] =
    next_is names i (contains_text c.loop-place.taken) _ (λ q. get_by (λ k. bytes_eq q k.now) c.loop-place.tried) _ name c.in_ok-rename_one.field-0 (omega (arith, length-map c.args.names.now (λ n. n.now))) c.loop-place.invariant.come at c.in_ok-rename_one.ensures.chosen in
    let P : List (List ℕ) → Type 0 = λ ns. HasCome names (i + 1) ns (contains_text c.rename_one.new.taken) (λ q. get_by (λ k. bytes_eq q k.now) c.rename_one.new.tried) in
    record {
      made = c.in_ok-keep.ensures.ok ∙ ap (λ x. x ++ Some c.in_ok-rename_one.field-0 ∷ []) c.loop-place.invariant.made ∙ sym (ap (map Some) more ∙ map_push Some (take i (renamed names)) c.in_ok-rename_one.field-0);
      come = subst P (sym more) (come_on names i (take i (renamed names)) _ _ _ _ name c.in_ok-rename_one.field-0 c.loop-place.invariant.come at c.in_ok-rename_one.ensures.chosen);
      few = omega (arith, c.in_ok-rename_one.ensures.few, c.loop-place.invariant.few);
    }

pub rename_one-requires-clause-tried : goal.rename_one-requires-clause-tried
rename_one-requires-clause-tried c = c.loop-place.invariant.come.tried c.text_at-name.result.now

pub returns-clause-renamed : goal.returns-clause-renamed
returns-clause-renamed c =
    let names = texts c.args.names.now in
    c.loop-place.invariant.made ∙ ap (map Some) (take_all c.loop-place.place (renamed names) (omega (arith, renamed_length names [] [] names, length-map c.args.names.now (λ n. n.now))))
