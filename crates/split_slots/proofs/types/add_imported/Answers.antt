use Rattle.base_lists.proofs.Common.{[], ◌++◌, append_assoc, ap, sym, ◌∙◌, cons_option}
use Rattle.wasm_tree_spec.specs.Prelude.{func_of}
use Rattle.split_slots.proofs.ImportedTypes.{imported_more}
use Rattle.split_slots.proofs.types.add_imported.Goals as goal

pub loop-import-preserved : goal.loop-import-preserved
loop-import-preserved c =
    let one = cons_option (func_of c.import-item.result.desc) [] in
    c.in_ok-add_import.ensures ∙ ap (λ xs. xs ++ one) c.loop-import.invariant ∙ append_assoc c.args.all.now _ one
    ∙ ap (λ xs. c.args.all.now ++ xs) (sym (imported_more c.args.imports.now c.loop-import.import-index c.import-item.result c.loop-import-test.true c.import-item.is))
