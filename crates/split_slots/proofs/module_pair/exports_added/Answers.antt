use Rattle.base_lists.proofs.Common.{ap, ◌∙◌, arith, length, length-map}
use Rattle.wasm_tree_spec.specs.Prelude.{funcs_of, globals_of, memories_of, tables_of, Functions, Tables, Memories, Globals}
use Rattle.wasm_tree.specs.declared.module.ImportDesc.TheVariants as im
use Rattle.split_slots.specs.ExportList.{exports_by}
use Rattle.split_slots.proofs.PlannedFunctions.{many_marks}
use Rattle.split_slots.proofs.SharedEntities.{exports_are}
use Rattle.split_slots.proofs.module_pair.exports_added.Goals as goal

pub added_exports-requires-clause-funcs : goal.added_exports-requires-clause-funcs
added_exports-requires-clause-funcs c =
    let m = c.args.module.now in
    let many = ap length (c.requires.survey.marks Functions) ∙ many_marks m c.args.moved.now c.args.moved.now Functions ∙ length-map (funcs_of m) im.Func in
    let bounded = c.requires.bounded.funcs in
    omega (arith, many, bounded)

pub added_exports-requires-clause-tables : goal.added_exports-requires-clause-tables
added_exports-requires-clause-tables c =
    let m = c.args.module.now in
    let many = ap length (c.requires.survey.marks Tables) ∙ many_marks m c.args.moved.now c.args.moved.now Tables ∙ length-map (tables_of m) im.Table in
    let bounded = c.requires.bounded.tables in
    omega (arith, many, bounded)

pub added_exports-requires-clause-mems : goal.added_exports-requires-clause-mems
added_exports-requires-clause-mems c =
    let m = c.args.module.now in
    let many = ap length (c.requires.survey.marks Memories) ∙ many_marks m c.args.moved.now c.args.moved.now Memories ∙ length-map (memories_of m) im.Memory in
    let bounded = c.requires.bounded.memories in
    omega (arith, many, bounded)

pub added_exports-requires-clause-globals : goal.added_exports-requires-clause-globals
added_exports-requires-clause-globals c =
    let m = c.args.module.now in
    let many = ap length (c.requires.survey.marks Globals) ∙ many_marks m c.args.moved.now c.args.moved.now Globals ∙ length-map (globals_of m) im.Global in
    let bounded = c.requires.bounded.globals in
    omega (arith, many, bounded)

pub refuse-requires-clause-added : goal.refuse-requires-clause-added
refuse-requires-clause-added c =
    let prefix = c.args.names.now.export_prefix in
    let marks = c.args.survey.now.marks in
    c.as_slice.ensures ∙ c.in_ok-added.ensures ∙ ap (exports_by prefix marks) c.requires.survey.table ∙ exports_are prefix c.args.module.now c.args.moved.now marks c.requires.survey.marks

pub returns-clause-added : goal.returns-clause-added
returns-clause-added c =
    let prefix = c.args.names.now.export_prefix in
    let marks = c.args.survey.now.marks in
    c.in_ok-added.ensures ∙ ap (exports_by prefix marks) c.requires.survey.table ∙ exports_are prefix c.args.module.now c.args.moved.now marks c.requires.survey.marks
