use Rattle.base_lists.proofs.Common.{◌≡◌, Some, ℕ, List, Bool, true, false, ap, sym, ◌∙◌, list_any, bytes_eq}
use Rattle.split_slots.proofs.TakenNames.{find_more}
use Rattle.split_slots.proofs.taken_export_names.prefix_taken.Goals as goal

pub returns-then-contains_key : goal.returns-then-contains_key
returns-then-contains_key c =
    let has : List ℕ → Bool = λ name. list_any (λ e. bytes_eq e.name name) c.args.exports.now in
    let x = c.export-item.result in
    let known = sym (ap has c.as_str.ensures.text) ∙ sym (c.in_ok-taken.ensures c.as_str.result.now) ∙ sym c.contains_key.ensures in
    let there : has x.name ≡ true = known ∙ c.if-contains_key.true in
    ap Some c.in_ok-copy.ensures
    ∙ sym (c.loop-export.invariant ∙ find_more has (λ e. e.name) c.args.added.now c.loop-export.export-index x true c.loop-export-test.true c.export-item.is there)

pub loop-export-preserved : goal.loop-export-preserved
loop-export-preserved c =
    let has : List ℕ → Bool = λ name. list_any (λ e. bytes_eq e.name name) c.args.exports.now in
    let x = c.export-item.result in
    let known = sym (ap has c.as_str.ensures.text) ∙ sym (c.in_ok-taken.ensures c.as_str.result.now) ∙ sym c.contains_key.ensures in
    let none : has x.name ≡ false = known ∙ c.if-contains_key.false in
    c.loop-export.invariant ∙ find_more has (λ e. e.name) c.args.added.now c.loop-export.export-index x false c.loop-export-test.true c.export-item.is none
