use Rattle.base_lists.proofs.Common.{◌≡◌, ◌∙◌, sym, ap, ◌+◌, ◌≤◌, ℕ, List, Bool, true, false, cond, take, string_bytes, arith, bytes_eq, length-map, take_all}
use Rattle.std.proofs.lemmas.Map.Text.{btree_set_updates_text}
use Rattle.merge_names.specs.Names.{among}
use Rattle.merge_names.specs.Given.{texts}
use Rattle.merge_names.proofs.Among.{among_next}
use Rattle.merge_names.proofs.renaming.set_of.Goals as goal

one_more : (b : Bool) (new old i : ℕ) → new ≡ old + cond b 1 0 → old ≤ i → new ≤ i + 1
one_more true new old i e h = omega arith
one_more false new old i e h = omega arith

pub loop-place-preserved : goal.loop-place-preserved
loop-place-preserved c =
    let names = texts c.args.names.now in
    let i = c.loop-place.place in
    let name = c.text_at-name.result.now in
    let made : string_bytes c.in_ok-from_str.field-0 ≡ name = c.in_ok-from_str.ensures.ok in
    record {
      has = λ q. btree_set_updates_text _ c.loop-place.taken c.insert.new.self _ c.in_ok-insert.ensures.updates q
          ∙ ap (λ (b : Bool). cond (bytes_eq (string_bytes c.in_ok-from_str.field-0) q) true b) (c.loop-place.invariant.has q)
          ∙ ap (λ (n : List ℕ). cond (bytes_eq n q) true (among (take i names) q)) made
          ∙ sym (among_next names i name q c.text_at-name.ensures);
      few = one_more c.in_ok-insert.field-0 _ _ _ c.in_ok-insert.ensures.len c.loop-place.invariant.few;
    }

pub returns-clause-has : goal.returns-clause-has
returns-clause-has c = λ q.
    let names = texts c.args.names.now in
    c.loop-place.invariant.has q ∙ ap (λ (x : List (List ℕ)). among x q) (take_all c.loop-place.place names (omega (arith, length-map c.args.names.now (λ n. n.now))))
