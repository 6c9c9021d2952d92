use Rattle.base_lists.proofs.Common.{ℕ, ◌≡◌, ◌∙◌, sym, ap, true, false, ◌++◌, ◌∷◌, []}
use Rattle.wasm_tree_spec.specs.Prelude.{Globals}
use Rattle.wasm_meaning.specs.Prelude.{has_kind}
use Rattle.merge_spec.specs.Prelude.{named_modules, read_at}
use Rattle.merge_join.specs.LinkedParts.{site}
use Rattle.merge_join.proofs.Growing.{item_there, place_kept, place_left}
use Rattle.merge_join.proofs.consts.reads_of.Goals as goal

pub loop-place-preserved : goal.loop-place-preserved
loop-place-preserved c =
    let read = λ (n : ℕ). read_at (named_modules c.args.joining.now.parts.now) (site c.args.part n) in
    let is = c.as_slice-imports.result.now in
    let i = c.index-imports-place.result in
    let at = item_there is c.loop-place.place i c.loop-place-test.true c.index-imports-place.is in
    let held : has_kind Globals i ≡ true = ap (has_kind Globals) c.index-imports-place.is ∙ sym c.is_in.ensures ∙ c.if-not-is_in.false in
    place_kept (has_kind Globals) read is c.loop-place.place i c.loop-place.reads c.keep.new.self at held c.loop-place.invariant
    (c.in_ok-keep.ensures.ok ∙ ap (λ r. c.loop-place.reads ++ r ∷ []) c.read_of.ensures)

pub loop-place-preserved-then-not-is_in : goal.loop-place-preserved-then-not-is_in
loop-place-preserved-then-not-is_in c =
    let read = λ (n : ℕ). read_at (named_modules c.args.joining.now.parts.now) (site c.args.part n) in
    let is = c.as_slice-imports.result.now in
    let i = c.index-imports-place.result in
    let at = item_there is c.loop-place.place i c.loop-place-test.true c.index-imports-place.is in
    let missing : has_kind Globals i ≡ false = ap (has_kind Globals) c.index-imports-place.is ∙ sym c.is_in.ensures ∙ c.if-not-is_in.true in
    place_left (has_kind Globals) read is c.loop-place.place i c.loop-place.reads at missing c.loop-place.invariant
