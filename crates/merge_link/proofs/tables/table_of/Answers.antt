use Rattle.base_lists.proofs.Common.{◌∙◌, ap, refl, subst}
use Rattle.wasm_tree_spec.specs.Prelude.{Space, Functions, Tables, Memories, Globals}
use Rattle.wasm_meaning.specs.Linking as linking
use Rattle.merge_link.specs.declared.tables.Table.{Table}
use Rattle.merge_link.specs.Tables.{AreIndices}
use Rattle.merge_link.proofs.Places.{all_places}
use Rattle.merge_link.proofs.tables.table_of.Goals as goal

pub returns : goal.returns
returns c =
    let imports = c.as_slice-imports.ensures in
    let of = λ (k : Space). ap (λ is. linking.places (linking.has_kind k) is 0) imports in
    let t : Table = record {
      exports = c.in_ok-exported.field-0;
      funcs = c.in_ok-places.field-0;
      tables = c.in_ok-places-2.field-0;
      memories = c.in_ok-places-3.field-0;
      globals = c.in_ok-places-4.field-0;
      indices = c.in_ok-global_indices.field-0;
      first_import = c.args.first_import;
      first_global = c.args.first_global;
    } in
    record {
      exports = λ name. c.in_ok-exported.ensures name ∙ ap (λ es. linking.export_named es name) c.as_slice.ensures;
      places = all_places c.args.module.now t (c.in_ok-places.ensures ∙ of Functions) (c.in_ok-places-2.ensures ∙ of Tables) (c.in_ok-places-3.ensures ∙ of Memories) (c.in_ok-places-4.ensures ∙ of Globals);
      indices = subst (λ is. AreIndices is c.in_ok-global_indices.field-0.items) imports c.in_ok-global_indices.ensures;
      first_import = refl;
      first_global = refl;
    }
