use Rattle.std.proofs.Common.{◌∙◌, ap, length, get_or, None, arith}
use Rattle.merge_spec.specs.Parts.{named_modules}
use Rattle.merge_join.specs.Spaces.{staying_place}
use Rattle.merge_join.proofs.Rows.{row_of}
use Rattle.merge_join.proofs.spaces.MergedSpace.staying_at.Goals as goal

pub bounds-as_slice-part : goal.bounds-as_slice-part
bounds-as_slice-part c =
    let s = c.args.self.now in
    let ps = named_modules s.parts.now in
    let r = row_of (staying_place ps s.space) ps s.staying c.args.part c.args.import s.is.staying_are c.requires in
    let w = r.part_within in
    let e = ap length c.as_slice.ensures in omega arith

pub offset_bounds-as_slice-part : goal.offset_bounds-as_slice-part
offset_bounds-as_slice-part c =
    let s = c.args.self.now in
    let ps = named_modules s.parts.now in
    let r = row_of (staying_place ps s.space) ps s.staying c.args.part c.args.import s.is.staying_are c.requires in
    let w = r.part_within in
    let e = ap length c.as_slice.ensures in omega (arith, c.as_slice.type_inv.1)

pub bounds-as_slice-import : goal.bounds-as_slice-import
bounds-as_slice-import c =
    let s = c.args.self.now in
    let ps = named_modules s.parts.now in
    let r = row_of (staying_place ps s.space) ps s.staying c.args.part c.args.import s.is.staying_are c.requires in
    let row = c.index-as_slice-part.result in
    let is = c.index-as_slice-part.is ∙ ap (λ x. get_or x c.args.part row) c.as_slice.ensures in
    let e = ap length c.as_slice-2.ensures in
    let w = r.import_within row is in
    omega arith

pub offset_bounds-as_slice-import : goal.offset_bounds-as_slice-import
offset_bounds-as_slice-import c =
    let s = c.args.self.now in
    let ps = named_modules s.parts.now in
    let r = row_of (staying_place ps s.space) ps s.staying c.args.part c.args.import s.is.staying_are c.requires in
    let row = c.index-as_slice-part.result in
    let is = c.index-as_slice-part.is ∙ ap (λ x. get_or x c.args.part row) c.as_slice.ensures in
    let e = ap length c.as_slice-2.ensures in
    let w = r.import_within row is in
    omega (arith, c.as_slice-2.type_inv.1)

pub returns : goal.returns
returns c =
    let s = c.args.self.now in
    let ps = named_modules s.parts.now in
    let r = row_of (staying_place ps s.space) ps s.staying c.args.part c.args.import s.is.staying_are c.requires in
    let row = c.index-as_slice-part.result in
    let is = c.index-as_slice-part.is ∙ ap (λ x. get_or x c.args.part row) c.as_slice.ensures in
    ap (λ x. get_or x c.args.import None) c.as_slice-2.ensures ∙ r.entry_is row None is
