use Rattle.base_lists.proofs.Common.{◌∙◌, sym, ap, length, get_or, Some, arith}
use Rattle.std.specs.Option.{option_map}
use Rattle.wasm_meaning.specs.Prelude.{linked_end}
use Rattle.merge_spec.specs.Prelude.{end_entry, named_modules}
use Rattle.merge_spec.specs.declared.links.End.TheVariants.{Defined}
use Rattle.merge_join.proofs.Rows.{full_row_of}
use Rattle.merge_join.proofs.linked.end_of.Goals as goal

pub bounds-as_slice-part : goal.bounds-as_slice-part
bounds-as_slice-part c =
    let ps = named_modules c.args.parts.now in
    let r = full_row_of (λ s. option_map end_entry (linked_end ps s)) ps c.args.links.now.ends c.args.part c.args.import c.requires.links.ends c.requires.there in
    let w = r.part_within in
    let e = ap length c.as_slice.ensures in omega arith

pub bounds-as_slice-import : goal.bounds-as_slice-import
bounds-as_slice-import c =
    let ps = named_modules c.args.parts.now in
    let r = full_row_of (λ s. option_map end_entry (linked_end ps s)) ps c.args.links.now.ends c.args.part c.args.import c.requires.links.ends c.requires.there in
    let row = c.index-as_slice-part.result in
    let is = c.index-as_slice-part.is ∙ ap (λ x. get_or x c.args.part row) c.as_slice.ensures in
    let e = ap length c.as_slice-2.ensures in
    let w = r.import_within row is in
    omega arith

pub offset_bounds-as_slice-import : goal.offset_bounds-as_slice-import
offset_bounds-as_slice-import c =
    let ps = named_modules c.args.parts.now in
    let r = full_row_of (λ s. option_map end_entry (linked_end ps s)) ps c.args.links.now.ends c.args.part c.args.import c.requires.links.ends c.requires.there in
    let row = c.index-as_slice-part.result in
    let is = c.index-as_slice-part.is ∙ ap (λ x. get_or x c.args.part row) c.as_slice.ensures in
    let e = ap length c.as_slice-2.ensures in
    let w = r.import_within row is in
    omega (arith, c.as_slice-2.type_inv.1)

pub returns : goal.returns
returns c =
    let ps = named_modules c.args.parts.now in
    let r = full_row_of (λ s. option_map end_entry (linked_end ps s)) ps c.args.links.now.ends c.args.part c.args.import c.requires.links.ends c.requires.there in
    let row = c.index-as_slice-part.result in
    let is = c.index-as_slice-part.is ∙ ap (λ x. get_or x c.args.part row) c.as_slice.ensures in
    r.entry_is row (Defined 0 0) is ∙ ap (λ x. Some (get_or x c.args.import (Defined 0 0))) (sym c.as_slice-2.ensures)
