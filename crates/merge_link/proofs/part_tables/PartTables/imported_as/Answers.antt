use Rattle.base_lists.proofs.Common.{◌≡◌, ◌∙◌, sym, ap, subst, ℕ, ◌+◌, Some, None, slice_get, arith, slice_get_within}
use Rattle.wasm_tree_spec.specs.Prelude.{Space, index_of_export, space_of_export}
use Rattle.wasm_meaning.specs.Linking as linking
use Rattle.merge_spec.specs.Prelude.{named_modules}
use Rattle.merge_link.specs.Prelude.{places_of, the_entity}
use Rattle.merge_link.specs.PartTables.{IsImportedAs}
use Rattle.merge_link.proofs.Joins.{read_at, imported_none, imported_some}
use Rattle.merge_link.proofs.part_tables.PartTables.imported_as.Goals as goal

pub returns-in_err-place : goal.returns-in_err-place
returns-in_err-place c =
    let lp = named_modules c.args.self.now.parts.now in
    let ts = c.args.self.now.tables.items in
    let e = the_entity c.args.entity in
    let t = c.in_ok-table.table.now in
    let at : slice_get ts e.part ≡ Some t = read_at ts c.deref.result.now e.part t c.deref.ensures.value c.in_ok-table.ensures.lookup.3.0 c.in_ok-table.ensures.lookup.1 in
    let found : slice_get (places_of t (space_of_export e.what)) (index_of_export e.what) ≡ None =
    ap (λ (k : Space). slice_get (places_of t k) (index_of_export e.what)) (sym c.space.ensures) ∙ ap (slice_get (places_of t _)) (sym c.index.ensures) ∙ sym c.import_place.ensures ∙ c.in_err-place.was in
    subst (IsImportedAs lp e) (sym c.from_residual-in_err-place.ensures) (imported_none lp ts e t c.requires.tables at found)

pub overflow_add-result : goal.overflow_add-result
overflow_add-result c =
    let lp = named_modules c.args.self.now.parts.now in
    let ts = c.args.self.now.tables.items in
    let e = the_entity c.args.entity in
    let t = c.in_ok-table.table.now in
    let at : slice_get ts e.part ≡ Some t = read_at ts c.deref.result.now e.part t c.deref.ensures.value c.in_ok-table.ensures.lookup.3.0 c.in_ok-table.ensures.lookup.1 in
    let found : slice_get (places_of t (space_of_export e.what)) (index_of_export e.what) ≡ Some c.in_ok-place.place =
    ap (λ (k : Space). slice_get (places_of t k) (index_of_export e.what)) (sym c.space.ensures) ∙ ap (slice_get (places_of t _)) (sym c.index.ensures) ∙ sym c.import_place.ensures ∙ c.in_ok-place.was in
    let r = imported_some lp ts e t c.in_ok-place.place c.requires.tables at found in
    omega (arith, slice_get_within (linking.sites lp) (t.first_import + c.in_ok-place.place) r.0 r.1, c.requires.imports, c.first_import.ensures)

pub returns : goal.returns
returns c =
    let lp = named_modules c.args.self.now.parts.now in
    let ts = c.args.self.now.tables.items in
    let e = the_entity c.args.entity in
    let t = c.in_ok-table.table.now in
    let at : slice_get ts e.part ≡ Some t = read_at ts c.deref.result.now e.part t c.deref.ensures.value c.in_ok-table.ensures.lookup.3.0 c.in_ok-table.ensures.lookup.1 in
    let found : slice_get (places_of t (space_of_export e.what)) (index_of_export e.what) ≡ Some c.in_ok-place.place =
    ap (λ (k : Space). slice_get (places_of t k) (index_of_export e.what)) (sym c.space.ensures) ∙ ap (slice_get (places_of t _)) (sym c.index.ensures) ∙ sym c.import_place.ensures ∙ c.in_ok-place.was in
    subst (λ (n : ℕ). IsImportedAs lp e (Some (n + c.in_ok-place.place))) (sym c.first_import.ensures) (imported_some lp ts e t c.in_ok-place.place c.requires.tables at found)
