use Rattle.base_lists.proofs.Common.{◌≡◌, ◌∙◌, sym, ap, refl, ℕ, Some, None, true, cond, List, string_bytes, contains_text, bytes_eq, hash_map_updates_str}
use Rattle.std.specs.HashMap.{get_by}
use Rattle.std.proofs.lemmas.Map.Text.{btree_set_updates_text}
use Rattle.merge_names.specs.Chosen.IsChosen.{first, again}
use Rattle.merge_names.proofs.renaming.rename_one.Goals as goal

pub returns-in_ok-from_text-in-None-clause-chosen : goal.returns-in_ok-from_text-in-None-clause-chosen
returns-in_ok-from_text-in-None-clause-chosen c =
    let none : get_by (λ k. bytes_eq c.args.name.now k.now) c.args.tried.now ≡ None = sym (c.in-None.ensures ∙ c.get.ensures.value) in
    first none c.in_ok-from_text-in-None.ensures (λ q. refl) (hash_map_updates_str c.args.name.now c.args.tried.now c.insert.new.self _ c.in_ok-insert-in-None.ensures.updates)

pub returns-in_ok-insert-in-Some-2-clause-chosen : goal.returns-in_ok-insert-in-Some-2-clause-chosen
returns-in_ok-insert-in-Some-2-clause-chosen c =
    let some : get_by (λ k. bytes_eq c.args.name.now k.now) c.args.tried.now ≡ Some c.in-Some.from = sym (c.in-Some.ensures ∙ c.get.ensures.value) in
    let made : c.in_ok-chosen-in-Some.chosen ≡ string_bytes c.in_ok-new-in-Some.new = c.in_ok-chosen-in-Some.ensures ∙ c.as_str.ensures.value in
    again c.in-Some.from c.in_ok-new-in-Some.k some c.in_ok-new-in-Some.ensures.number (made ∙ c.in_ok-new-in-Some.ensures.name)
    (hash_map_updates_str c.args.name.now c.args.tried.now c.insert-in-Some-2.new.self _ c.in_ok-insert-in-Some-2.ensures.updates)
    (λ q. btree_set_updates_text _ c.args.taken.now c.insert-in-Some.new.self _ c.in_ok-insert-in-Some.ensures.updates q ∙ ap (λ (n : List ℕ). cond (bytes_eq n q) true (contains_text c.args.taken.now q)) (sym made))
