use Rattle.std.proofs.Common.{◌∙◌, sym, ap, subst, refl, None, IsTrue}
use Rattle.wasm_tree.specs.declared.module.ConstExpr.TheVariants as const
use Rattle.index_remap.specs.Renumbered.{fits_const, new_const}
use Rattle.merge_spec.specs.Parts.{named_modules}
use Rattle.merge_join.proofs.ByPart.{part_there}
use Rattle.merge_join.proofs.Reading.{global_within, global_read, read_entry_there, becomes_read, stays_expr}
use Rattle.merge_join.proofs.consts.merged_read.Goals as goal

pub bounds : goal.bounds
bounds c = global_within c.args.joining.now c.requires.joined c.args.part c.args.reads.now c.requires.reads (const.Global c.args.global) c.requires.typed c.args.global refl

pub map-requires-clause-there : goal.map-requires-clause-there
map-requires-clause-there c =
    let e = read_entry_there c.args.joining.now c.requires.joined c.args.part c.args.reads.now c.requires.reads (const.Global c.args.global) c.requires.typed c.args.global refl c.maps_have_entries.ensures.reads c.in-Some.read c.in-Some.is in
    part_there c.args.joining.now.parts.now c.in-Some.read.part e.of e.is_part

pub renumber_const-requires : goal.renumber_const-requires
renumber_const-requires c =
    let e = read_entry_there c.args.joining.now c.requires.joined c.args.part c.args.reads.now c.requires.reads (const.Global c.args.global) c.requires.typed c.args.global refl c.maps_have_entries.ensures.reads c.in-Some.read c.in-Some.is in
    subst (λ map. IsTrue (fits_const map c.in-Some.read.expr)) (sym (c.map.ensures.is e.of e.is_part)) e.fits

pub returns-in-Some : goal.returns-in-Some
returns-in-Some c =
    let j = c.args.joining.now in
    let e = read_entry_there j c.requires.joined c.args.part c.args.reads.now c.requires.reads (const.Global c.args.global) c.requires.typed c.args.global refl c.maps_have_entries.ensures.reads c.in-Some.read c.in-Some.is in
    let read = global_read j c.requires.joined c.args.part c.args.reads.now c.requires.reads (const.Global c.args.global) c.requires.typed c.args.global refl None ∙ c.in-Some.is in
    c.renumber_const.ensures ∙ ap (λ map. new_const map c.in-Some.read.expr) (c.map.ensures.is e.of e.is_part)
    ∙ becomes_read (named_modules j.parts.now) c.args.part (const.Global c.args.global) c.in-Some.read e.of read e.is_part

pub returns-in-None : goal.returns-in-None
returns-in-None c =
    let j = c.args.joining.now in
    let none = global_read j c.requires.joined c.args.part c.args.reads.now c.requires.reads (const.Global c.args.global) c.requires.typed c.args.global refl None ∙ c.in-None.is in
    stays_expr (named_modules j.parts.now) c.args.part (const.Global c.args.global) none
