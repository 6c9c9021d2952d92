use Rattle.base_lists.proofs.Common.{◌≡◌, ◌+◌, [], ◌∷◌, ◌++◌, is_some, map, take, sym, ap, ◌∙◌, get_by, slice_cmp, nat_cmp, list_any, bytes_eq, btree_map_updates_str, mapped_more}
use Rattle.wasm_valid.proofs.Repeats.{joined_more}
use Rattle.base_lists.proofs.Texts.{known_more, map_more}
use Rattle.wasm_valid.proofs.repeated.repeated_names.Goals as goal

pub loop-export-preserved : goal.loop-export-preserved
loop-export-preserved c =
    let i = c.loop-export.export-index in
    let es = c.args.exports.now in
    let e = c.export-item.result in
    let before = map (λ x. x.name) (take i es) in
    let name = c.as_str-name.result.now in
    let bytes : name ≡ e.name = c.as_str-name.ensures.text in
    let more : map (λ x. x.name) (take (i + 1) es) ≡ before ++ e.name ∷ [] = mapped_more (λ x. x.name) es i e c.loop-export-test.true c.export-item.is in
    let found : c.contains_key.result ≡ list_any (bytes_eq e.name) before = c.contains_key.ensures ∙ c.loop-export.invariant.known name ∙ ap (λ z. list_any (bytes_eq z) before) bytes in
    record {
      known = λ text.
          known_more (λ t. is_some (get_by (λ k. slice_cmp nat_cmp t k.now) c.loop-export.names)) (λ t. is_some (get_by (λ k. slice_cmp nat_cmp t k.now) c.insert.new.self)) before name c.loop-export.invariant.known
          (λ t. map_more (bytes_eq name t) _ _ (btree_map_updates_str name c.loop-export.names c.insert.new.self _ c.in_ok-insert.ensures.updates t)) text
          ∙ ap (λ z. list_any (bytes_eq text) (before ++ z ∷ [])) bytes ∙ ap (list_any (bytes_eq text)) (sym more);
      joined = joined_more c.loop-export.all.items c.push.new.self.items c.contains_key.result es i e c.loop-export-test.true c.export-item.is c.in_ok-push.ensures.items found ∙ c.loop-export.invariant.joined;
    }
