use Rattle.std.proofs.Common.{◌≡◌, ◌∙◌, refl, sym, ap, ◌++◌, ◌∷◌, [], length, arith}
use Rattle.wasm_meaning.specs.Linking.{places, has_kind}
use Rattle.merge_spec.specs.Parts.{named_modules}
use Rattle.merge_join.specs.Spaces.{imported_in}
use Rattle.merge_join.proofs.ByPart.{part_more, part_all}
use Rattle.merge_join.proofs.spaces.imported_of.Goals as goal

pub loop-part-preserved : goal.loop-part-preserved
loop-part-preserved c =
    let ps = named_modules c.args.parts.now in
    let k = c.args.space in
    let m = c.module_of.result.now in
    let many : imported_in ps k c.loop-part.part m ≡ length (places (has_kind k) m.imports 0) = rw c.module_of.ensures.at refl in
    part_more (λ p m. imported_in ps k p m ∷ []) ps c.loop-part.part m c.loop-part.imported _ c.module_of.ensures.at c.loop-part.invariant
    (c.in_ok-keep.ensures.ok ∙ ap (λ n. c.loop-part.imported ++ n ∷ []) (c.imported_count.ensures ∙ ap (λ is. length (places (has_kind k) is 0)) c.as_slice-imports.ensures ∙ sym many))

pub returns : goal.returns
returns c = part_all (λ p m. imported_in (named_modules c.args.parts.now) c.args.space p m ∷ []) c.args.parts.now c.loop-part.part c.loop-part.imported (omega arith) c.loop-part.invariant
