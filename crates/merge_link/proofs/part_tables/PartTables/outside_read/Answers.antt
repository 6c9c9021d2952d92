use Rattle.base_lists.proofs.Common.{refl, length, arith, slice_get_read}
use Rattle.merge_spec.specs.Prelude.{named_modules}
use Rattle.merge_link.specs.Prelude.{the_site}
use Rattle.merge_link.proofs.Meets.{module_within, part_there}
use Rattle.merge_link.proofs.Reading.{index_there, read_outside}
use Rattle.merge_link.proofs.part_tables.PartTables.outside_read.Goals as goal

pub global_index-index-requires : goal.global_index-index-requires
global_index-index-requires c =
    let lp = named_modules c.args.self.now.parts.now in
    let ts = c.args.self.now.tables.items in
    let s = the_site c.args.site in
    let m = part_there lp s c.requires.there.0 c.requires.there.1 in
    let at = slice_get_read ts (length ts) s.part c.index.result.now refl (omega (arith, module_within lp s.part m.0 m.1, c.requires.joining.tables.one_each)) c.index.ensures in
    index_there lp ts s c.requires.there.0 c.index.result.now c.requires.joining.tables c.requires.there.1 at

pub returns : goal.returns
returns c =
    let lp = named_modules c.args.self.now.parts.now in
    let ts = c.args.self.now.tables.items in
    let s = the_site c.args.site in
    let m = part_there lp s c.requires.there.0 c.requires.there.1 in
    let at = slice_get_read ts (length ts) s.part c.index.result.now refl (omega (arith, module_within lp s.part m.0 m.1, c.requires.joining.tables.one_each)) c.index.ensures in
    read_outside lp ts s c.requires.there.0 c.index.result.now c.global_index-index.result c.requires.joining.tables c.requires.there.1 at c.global_index-index.ensures
