use Rattle.base_lists.proofs.Common.{rules, ◌≡◌, ◌∙◌, ap, sym, subst, ℕ, ◌<◌, ◌+◌, length, arith, List, Some, slice_get}
use Rattle.wasm_tree_spec.specs.Prelude.{Globals}
use Rattle.wasm_meaning.specs.Linking as linking
use Rattle.merge_link.proofs.Places.{space_zero, space_more, space_same, grown}
use Rattle.merge_link.proofs.tables.global_indices.Goals as goal
use Rattle.merge_link.proofs.tables.global_indices.Goals.{then-is_in, else-is_in}

pub loop-import-init : goal.loop-import-init
loop-import-init c = record { one_each = search rules; most = omega arith; count = sym (space_zero c.args.imports.now Globals); right = λ n h. absurd (omega arith) }

pub loop-import-preserved : goal.loop-import-preserved
loop-import-preserved c =
    let i = c.loop-import.invariant in
    let within : c.loop-import.import-index < length c.args.imports.now = omega arith in
    let more = grown c.loop-import.indices.items c.loop-import.count c.loop-import.import-index (λ n. linking.space_index c.args.imports.now n Globals) i.one_each i.right i.count in
    let right = subst (λ (xs : List ℕ). (n : ℕ) → n < c.loop-import.import-index + 1 → slice_get xs n ≡ Some (linking.space_index c.args.imports.now n Globals)) (sym c.in_ok-push.ensures.items) more in
    let size : length c.push.new.self.items ≡ c.loop-import.import-index + 1 = search rules in
    elim c.if-is_in.branch [
      | then-is_in w ↦ record {
        one_each = size;
        most = omega (arith, w.count-is);
        count = w.count-is ∙ ap (λ n. n + 1) i.count ∙ sym (space_more c.args.imports.now c.loop-import.import-index Globals c.import-item.result within c.import-item.is (sym c.is_in.ensures ∙ w.if-is_in.true));
        right = right;
      }
      | else-is_in w ↦ record {
        one_each = size;
        most = omega (arith, w.count-is);
        count = w.count-is ∙ i.count ∙ sym (space_same c.args.imports.now c.loop-import.import-index Globals c.import-item.result within c.import-item.is (sym c.is_in.ensures ∙ w.if-is_in.false));
        right = right;
      }
    ]
