use Rattle.std.proofs.Common.{◌≡◌, ◌∙◌, ap}
use Rattle.std.specs.Option.{unwrap_or}
use Rattle.wasm_meaning.specs.Linking.{first_place}
use Rattle.wasm_tree.specs.SameTypes.{same_func_type}
use Rattle.merge_join.specs.Texts.{text_of_type}
use Rattle.merge_join.proofs.Ends.{or_zero}
use Rattle.merge_join.proofs.Interning.{place_by_text, has_text}
use Rattle.merge_join.proofs.types.Types.type_place.Goals as goal

pub returns : goal.returns
returns c =
    let ty = c.args.ty.now in
    let list = c.args.self.now.list in
    let text : c.as_str.result.now ≡ text_of_type ty = c.as_str.ensures.value ∙ c.in_ok-text.ensures in
    c.unwrap_or.ensures ∙ ap (λ o. unwrap_or o 0) (c.copied.ensures ∙ c.get.ensures.value ∙ c.args.self.now.known c.as_str.result.now) ∙ ap (λ q. unwrap_or (first_place (has_text q) list 0) 0) text ∙ ap (λ o. unwrap_or o 0) (place_by_text ty list) ∙ or_zero (first_place (same_func_type ty) list 0)
