use Rattle.std.proofs.Common.{◌≡◌, ◌∙◌, ap, sym, ◌++◌, ◌∷◌, [], ◌-◌, ◌+◌, List, map, drop, arith}
use Rattle.std.proofs.lemmas.List.{append_assoc, map_push}
use Rattle.wasm_meaning.specs.Linking as linking
use Rattle.merge_spec.specs.Parts.{named_modules}
use Rattle.merge_link.specs.declared.sites.Site.{Site}
use Rattle.merge_link.specs.Sites.{the_site}
use Rattle.merge_link.proofs.Numbers.{sites_in_more}
use Rattle.merge_link.proofs.sites.all_sites.Goals as goal

pub loop-import-preserved : goal.loop-import-preserved
loop-import-preserved c =
    let more = sites_in_more c.loop-at.at c.len-imports.result c.loop-import.import (omega arith) in
    let site : Site = record { part = c.loop-at.at; import = c.loop-import.import } in
    let old = map the_site c.loop-import.sites.items in
    let here = linking.sites_in c.loop-at.at (c.len-imports.result - (c.loop-import.import + 1)) (c.loop-import.import + 1) in
    let rest = linking.sites_from (c.loop-at.at + 1) (named_modules (drop (c.loop-at.at + 1) c.args.parts.now)) in
    let push : map the_site c.push.new.self.items ≡ old ++ the_site site ∷ [] = ap (map the_site) c.in_ok-push.ensures.items ∙ map_push the_site c.loop-import.sites.items site in
    ap (λ (xs : List linking.Site). xs ++ here ++ rest) push
    ∙ ap (λ (xs : List linking.Site). xs ++ rest) (append_assoc old (the_site site ∷ []) here ∙ ap (λ (xs : List linking.Site). old ++ xs) (sym more))
    ∙ c.loop-import.invariant
