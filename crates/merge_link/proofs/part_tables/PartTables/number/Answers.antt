use Rattle.base_lists.proofs.Common.{◌∙◌, ap, refl, ℕ, ◌+◌, length, slice_get, arith, slice_get_read, slice_get_within}
use Rattle.wasm_meaning.specs.Linking as linking
use Rattle.merge_spec.specs.Prelude.{named_modules}
use Rattle.merge_link.specs.Prelude.{the_site}
use Rattle.merge_link.proofs.Meets.{module_within, number_at, part_there}
use Rattle.merge_link.proofs.part_tables.PartTables.number.Goals as goal

pub overflow_add-result : goal.overflow_add-result
overflow_add-result c =
    let lp = named_modules c.args.self.now.parts.now in
    let s = the_site c.args.site in
    let m = part_there lp s c.requires.there.0 c.requires.there.1 in
    let at = slice_get_read c.args.self.now.tables.items (length c.args.self.now.tables.items) s.part c.index.result.now refl (omega (arith, module_within lp s.part m.0 m.1, c.requires.joining.tables.one_each)) c.index.ensures in
    let n = number_at lp c.args.self.now.tables.items s c.requires.there.0 c.index.result.now c.requires.joining.tables c.requires.there.1 at in
    omega (arith, slice_get_within (linking.sites lp) (c.index.result.now.first_import + s.import) s n, c.requires.joining.imports, c.first_import.ensures)

pub returns : goal.returns
returns c =
    let lp = named_modules c.args.self.now.parts.now in
    let s = the_site c.args.site in
    let m = part_there lp s c.requires.there.0 c.requires.there.1 in
    let at = slice_get_read c.args.self.now.tables.items (length c.args.self.now.tables.items) s.part c.index.result.now refl (omega (arith, module_within lp s.part m.0 m.1, c.requires.joining.tables.one_each)) c.index.ensures in
    ap (λ (k : ℕ). slice_get (linking.sites lp) (k + s.import)) c.first_import.ensures ∙ number_at lp c.args.self.now.tables.items s c.requires.there.0 c.index.result.now c.requires.joining.tables c.requires.there.1 at
