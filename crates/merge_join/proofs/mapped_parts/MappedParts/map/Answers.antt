use Rattle.std.proofs.Common.{sym, subst, arith, IsTrue}
use Rattle.index_remap.specs.Renumbered.{fits_tree}
use Rattle.merge_spec.specs.Parts.{named_modules}
use Rattle.merge_join.proofs.PartMaps.{maps_length, map_at}
use Rattle.merge_join.proofs.mapped_parts.MappedParts.map.Goals as goal

pub bounds-self-part : goal.bounds-self-part
bounds-self-part c = let l = maps_length c.args.self.now c.requires.joined in omega (arith, l, c.requires.there)

pub returns-clause-is : goal.returns-clause-is
returns-clause-is c = λ m at. map_at c.args.self.now c.args.part m c.index-self-part.result c.requires.joined at

pub returns-clause-fits : goal.returns-clause-fits
returns-clause-fits c = λ m at.
    subst (λ r. IsTrue (fits_tree r m)) (sym (map_at c.args.self.now c.args.part m c.index-self-part.result c.requires.joined at))
    (c.maps_have_entries.ensures.entries (named_modules c.args.self.now.parts.now) c.args.part m (c.requires.joined.linked.hold c.args.part m at).0)
