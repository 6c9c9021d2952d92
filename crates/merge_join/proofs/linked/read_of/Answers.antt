use Rattle.base_lists.proofs.Common.{◌∙◌, ap, length, get_or, None, arith}
use Rattle.merge_spec.specs.Prelude.{read_at, named_modules}
use Rattle.merge_join.proofs.Rows.{row_of}
use Rattle.merge_join.proofs.linked.read_of.Goals as goal

pub bounds-as_slice-part : goal.bounds-as_slice-part
bounds-as_slice-part c =
    let ps = named_modules c.args.parts.now in
    let r = row_of (read_at ps) ps c.args.links.now.reads c.args.part c.args.import c.requires.links.reads c.requires.there in
    let w = r.part_within in
    let e = ap length c.as_slice.ensures in omega arith

pub bounds-as_slice-import : goal.bounds-as_slice-import
bounds-as_slice-import c =
    let ps = named_modules c.args.parts.now in
    let r = row_of (read_at ps) ps c.args.links.now.reads c.args.part c.args.import c.requires.links.reads c.requires.there in
    let row = c.index-as_slice-part.result in
    let is = c.index-as_slice-part.is ∙ ap (λ x. get_or x c.args.part row) c.as_slice.ensures in
    let e = ap length c.as_slice-2.ensures in
    let w = r.import_within row is in
    omega arith

pub offset_bounds-as_slice-import : goal.offset_bounds-as_slice-import
offset_bounds-as_slice-import c =
    let ps = named_modules c.args.parts.now in
    let r = row_of (read_at ps) ps c.args.links.now.reads c.args.part c.args.import c.requires.links.reads c.requires.there in
    let row = c.index-as_slice-part.result in
    let is = c.index-as_slice-part.is ∙ ap (λ x. get_or x c.args.part row) c.as_slice.ensures in
    let e = ap length c.as_slice-2.ensures in
    let w = r.import_within row is in
    omega (arith, c.as_slice-2.type_inv.1)

pub returns : goal.returns
returns c =
    let ps = named_modules c.args.parts.now in
    let r = row_of (read_at ps) ps c.args.links.now.reads c.args.part c.args.import c.requires.links.reads c.requires.there in
    let row = c.index-as_slice-part.result in
    let is = c.index-as_slice-part.is ∙ ap (λ x. get_or x c.args.part row) c.as_slice.ensures in
    ap (λ x. get_or x c.args.import None) c.as_slice-2.ensures ∙ r.entry_is row None is
