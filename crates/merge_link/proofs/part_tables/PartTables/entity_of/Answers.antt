use Rattle.base_lists.proofs.Common.{◌≡◌, ◌∙◌, sym, ap, ℕ, List, Some, None, slice_get, get_by, nat_cmp, slice_cmp}
use Rattle.std.specs.Option.{option_map}
use Rattle.wasm_meaning.specs.Linking as linking
use Rattle.merge_spec.specs.Prelude.{named_modules}
use Rattle.merge_link.specs.Prelude.{the_entity}
use Rattle.merge_link.proofs.Joins.{read_at, joined_found}
use Rattle.merge_link.proofs.part_tables.PartTables.entity_of.Goals as goal

pub returns-in_err-what : goal.returns-in_err-what
returns-in_err-what c =
    let lp = named_modules c.args.self.now.parts.now in
    let p = c.in_ok-part.field-0.now in
    let t = c.in_ok-table.table.now in
    let source : linking.source_of lp c.args.import.now ≡ Some p =
    ap (λ (name : List ℕ). linking.first_place (linking.is_named name) lp 0) (sym c.as_str.ensures.text) ∙ sym (c.in_ok-part.ensures.value ∙ c.requires.names c.as_str.result.now) in
    let at : slice_get c.args.self.now.tables.items p ≡ Some t = read_at c.args.self.now.tables.items c.deref.result.now p t c.deref.ensures.value c.in_ok-table.ensures.lookup.3.0 c.in_ok-table.ensures.lookup.1 in
    let found : get_by (λ k. slice_cmp nat_cmp c.args.import.now.field k.now) t.exports ≡ None =
    ap (λ (n : List ℕ). get_by (λ k. slice_cmp nat_cmp n k.now) t.exports) (sym c.as_str-2.ensures.text) ∙ sym c.export.ensures ∙ c.in_err-what.was in
    ap (option_map the_entity) c.from_residual-in_err-what.ensures ∙ sym (joined_found lp c.args.self.now.tables.items c.args.import.now p t None c.requires.tables source at found)

pub returns : goal.returns
returns c =
    let lp = named_modules c.args.self.now.parts.now in
    let p = c.in_ok-part.field-0.now in
    let t = c.in_ok-table.table.now in
    let d = c.in_ok-what.what in
    let source : linking.source_of lp c.args.import.now ≡ Some p =
    ap (λ (name : List ℕ). linking.first_place (linking.is_named name) lp 0) (sym c.as_str.ensures.text) ∙ sym (c.in_ok-part.ensures.value ∙ c.requires.names c.as_str.result.now) in
    let at : slice_get c.args.self.now.tables.items p ≡ Some t = read_at c.args.self.now.tables.items c.deref.result.now p t c.deref.ensures.value c.in_ok-table.ensures.lookup.3.0 c.in_ok-table.ensures.lookup.1 in
    let found : get_by (λ k. slice_cmp nat_cmp c.args.import.now.field k.now) t.exports ≡ Some d =
    ap (λ (n : List ℕ). get_by (λ k. slice_cmp nat_cmp n k.now) t.exports) (sym c.as_str-2.ensures.text) ∙ sym c.export.ensures ∙ c.in_ok-what.was in
    sym (joined_found lp c.args.self.now.tables.items c.args.import.now p t (Some d) c.requires.tables source at found)
