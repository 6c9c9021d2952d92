use Rattle.base_lists.proofs.Common.{◌≡◌, ◌∙◌, sym, ap, ◌∷◌, ◌++◌, [], is_some, cond, Some, length, bytes_eq}
use Rattle.std.specs.BTreeMap.{get_by_text}
use Rattle.wasm_meaning.specs.Prelude.{first_place}
use Rattle.merge_join.specs.Texts.{text_of_type}
use Rattle.merge_join.proofs.Interning.{known_type, new_type, new_place, has_text}
use Rattle.merge_join.proofs.Results.{ok_map, ok_always}
use Rattle.merge_join.proofs.types.add_type.Goals as goal

pub returns-then-contains_key-clause-list : goal.returns-then-contains_key-clause-list
returns-then-contains_key-clause-list c =
    let text : c.as_str.result.now ≡ text_of_type c.args.ty.now = c.as_str.ensures.value ∙ c.in_ok-text.ensures in
    known_type c.args.list.now c.args.ty.now (ap (λ q. is_some (first_place (has_text q) c.args.list.now 0)) (sym text) ∙ sym (ap is_some (c.requires.known c.as_str.result.now)) ∙ sym c.contains_key.ensures ∙ c.if-contains_key.true)

pub returns-clause-list : goal.returns-clause-list
returns-clause-list c =
    let text : c.as_str.result.now ≡ text_of_type c.args.ty.now = c.as_str.ensures.value ∙ c.in_ok-text.ensures in
    ok_always c.put.result _ (c.in_ok-keep.ensures.ok ∙ ap (λ t. c.args.list.now ++ t ∷ []) c.in_ok-copy.ensures
    ∙ new_type c.args.list.now c.args.ty.now (ap (λ q. is_some (first_place (has_text q) c.args.list.now 0)) (sym text) ∙ sym (ap is_some (c.requires.known c.as_str.result.now)) ∙ sym c.contains_key.ensures ∙ c.if-contains_key.false))

pub returns-clause-known : goal.returns-clause-known
returns-clause-known c =
    let list = c.args.list.now in
    let ty = c.args.ty.now in
    let text : c.as_str.result.now ≡ text_of_type ty = c.as_str.ensures.value ∙ c.in_ok-text.ensures in
    let missing = ap (λ q. is_some (first_place (has_text q) list 0)) (sym text) ∙ sym (ap is_some (c.requires.known c.as_str.result.now)) ∙ sym c.contains_key.ensures ∙ c.if-contains_key.false in
    ok_map c.put.result _ _ c.put.ensures (λ h q.
    h q ∙ ap (λ x. cond (bytes_eq x q) (Some c.len-place.result) (get_by_text c.args.places.now q)) c.in_ok-text.ensures
    ∙ ap (λ n. cond (bytes_eq (text_of_type ty) q) (Some n) (get_by_text c.args.places.now q)) c.len-place.ensures
    ∙ ap (cond (bytes_eq (text_of_type ty) q) (Some (length list))) (c.requires.known q)
    ∙ new_place list ty q missing ∙ ap (λ ts. first_place (has_text q) ts 0) (sym (c.in_ok-keep.ensures.ok ∙ ap (λ t. list ++ t ∷ []) c.in_ok-copy.ensures)))
