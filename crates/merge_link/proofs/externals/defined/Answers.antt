use Rattle.base_lists.proofs.Common.{◌≡◌, ◌∙◌, ap, sym, refl, subst, ◌≤◌, length, ◌-◌, arith}
use Rattle.wasm_tree_spec.specs.Prelude.{Space, Functions, Tables, Memories, Globals, index_of_export, space_of_export, ExportDesc}
use Rattle.wasm_meaning.specs.Linking as linking
use Rattle.wasm_tree.specs.declared.module.ExportDesc.TheVariants as ex
use Rattle.merge_spec.specs.Faults as faults
use Rattle.merge_link.specs.Externals.{own_func, own_table, own_memory, own_global}
use Rattle.merge_link.proofs.Types.{external_func, external_table, external_memory, external_global}
use Rattle.merge_link.proofs.externals.defined.Goals as goal

pub returns-in-Func : goal.returns-in-Func
returns-in-Func c =
    let m = c.args.module.now in
    let i = c.in-Func.field-0 in
    let n = length (linking.imports_of Functions m) in
    let is : c.args.what ≡ ex.Func i = c.in-Func.is in
    let index : c.index.result ≡ i = c.index.ensures ∙ ap index_of_export is in
    let count : c.imported.result ≡ n =
    c.imported.ensures ∙ ap length (c.requires.places c.space.result) ∙ ap (λ (k : Space). length (linking.imports_of k m)) (c.space.ensures ∙ ap space_of_export is) in
    let own : n ≤ i = subst (λ (w : ExportDesc). length (linking.imports_of (space_of_export w) m) ≤ index_of_export w) is c.requires.own in
    let place : c.index.result - c.imported.result ≡ i - n = omega (arith, index, count) in
    c.defined_func.ensures ∙ ap (own_func m) place ∙ sym (external_func m i n refl own) ∙ ap (faults.external_of m) (sym is)

pub returns-in-Table : goal.returns-in-Table
returns-in-Table c =
    let m = c.args.module.now in
    let i = c.in-Table.field-0 in
    let n = length (linking.imports_of Tables m) in
    let is : c.args.what ≡ ex.Table i = c.in-Table.is in
    let index : c.index.result ≡ i = c.index.ensures ∙ ap index_of_export is in
    let count : c.imported.result ≡ n =
    c.imported.ensures ∙ ap length (c.requires.places c.space.result) ∙ ap (λ (k : Space). length (linking.imports_of k m)) (c.space.ensures ∙ ap space_of_export is) in
    let own : n ≤ i = subst (λ (w : ExportDesc). length (linking.imports_of (space_of_export w) m) ≤ index_of_export w) is c.requires.own in
    let place : c.index.result - c.imported.result ≡ i - n = omega (arith, index, count) in
    c.defined_table.ensures ∙ ap (own_table m) place ∙ sym (external_table m i n refl own) ∙ ap (faults.external_of m) (sym is)

pub returns-in-Memory : goal.returns-in-Memory
returns-in-Memory c =
    let m = c.args.module.now in
    let i = c.in-Memory.field-0 in
    let n = length (linking.imports_of Memories m) in
    let is : c.args.what ≡ ex.Memory i = c.in-Memory.is in
    let index : c.index.result ≡ i = c.index.ensures ∙ ap index_of_export is in
    let count : c.imported.result ≡ n =
    c.imported.ensures ∙ ap length (c.requires.places c.space.result) ∙ ap (λ (k : Space). length (linking.imports_of k m)) (c.space.ensures ∙ ap space_of_export is) in
    let own : n ≤ i = subst (λ (w : ExportDesc). length (linking.imports_of (space_of_export w) m) ≤ index_of_export w) is c.requires.own in
    let place : c.index.result - c.imported.result ≡ i - n = omega (arith, index, count) in
    c.defined_memory.ensures ∙ ap (own_memory m) place ∙ sym (external_memory m i n refl own) ∙ ap (faults.external_of m) (sym is)

pub returns-in-Global : goal.returns-in-Global
returns-in-Global c =
    let m = c.args.module.now in
    let i = c.in-Global.field-0 in
    let n = length (linking.imports_of Globals m) in
    let is : c.args.what ≡ ex.Global i = c.in-Global.is in
    let index : c.index.result ≡ i = c.index.ensures ∙ ap index_of_export is in
    let count : c.imported.result ≡ n =
    c.imported.ensures ∙ ap length (c.requires.places c.space.result) ∙ ap (λ (k : Space). length (linking.imports_of k m)) (c.space.ensures ∙ ap space_of_export is) in
    let own : n ≤ i = subst (λ (w : ExportDesc). length (linking.imports_of (space_of_export w) m) ≤ index_of_export w) is c.requires.own in
    let place : c.index.result - c.imported.result ≡ i - n = omega (arith, index, count) in
    c.defined_global.ensures ∙ ap (own_global m) place ∙ sym (external_global m i n refl own) ∙ ap (faults.external_of m) (sym is)
