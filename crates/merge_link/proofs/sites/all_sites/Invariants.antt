use Rattle.std.proofs.Common.{drop, map, ◌+◌, ◌++◌, ◌-◌, ◌≡◌}
use Rattle.wasm_meaning.specs.Linking as linking
use Rattle.merge_spec.specs.Parts.{named_modules}
use Rattle.merge_link.specs.Sites.{the_site}
use Rattle.merge_link.proofs.sites.all_sites.Given as goal

abbrev pub invariant-loop-at : goal.invariant-loop-at
invariant-loop-at l = map the_site l.sites.items ++ linking.sites_from l.at (named_modules (drop l.at l.parts)) ≡ linking.sites (named_modules l.parts)

abbrev pub invariant-loop-import : goal.invariant-loop-import
invariant-loop-import l =
    map the_site l.sites.items ++ linking.sites_in l.at (l.imports - l.import) l.import ++ linking.sites_from (l.at + 1) (named_modules (drop (l.at + 1) l.parts))
    ≡ linking.sites (named_modules l.parts)
