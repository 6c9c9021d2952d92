use Rattle.std.proofs.Common.{ap, ◌∙◌, arith, length}
use Rattle.split_slots.specs.RemapsFromMarks.{secondary_map_by}
use Rattle.split_slots.proofs.SecondaryTrees.{few_marks}
use Rattle.split_slots.proofs.SharedEntities.{imports_are, secondary_map_is}
use Rattle.split_slots.proofs.module_drafts.frame_of.Goals as goal

pub secondary_map-requires-clause-funcs : goal.secondary_map-requires-clause-funcs
secondary_map-requires-clause-funcs c = (few_marks c.args.module.now c.args.moved.now c.args.survey.now.marks c.requires.bounded c.requires.few c.requires.survey.marks).funcs

pub secondary_map-requires-clause-tables : goal.secondary_map-requires-clause-tables
secondary_map-requires-clause-tables c = (few_marks c.args.module.now c.args.moved.now c.args.survey.now.marks c.requires.bounded c.requires.few c.requires.survey.marks).tables

pub secondary_map-requires-clause-mems : goal.secondary_map-requires-clause-mems
secondary_map-requires-clause-mems c = (few_marks c.args.module.now c.args.moved.now c.args.survey.now.marks c.requires.bounded c.requires.few c.requires.survey.marks).mems

pub secondary_map-requires-clause-globals : goal.secondary_map-requires-clause-globals
secondary_map-requires-clause-globals c = (few_marks c.args.module.now c.args.moved.now c.args.survey.now.marks c.requires.bounded c.requires.few c.requires.survey.marks).globals

pub secondary_imports-requires-clause-funcs : goal.secondary_imports-requires-clause-funcs
secondary_imports-requires-clause-funcs c =
    let few = few_marks c.args.module.now c.args.moved.now c.args.survey.now.marks c.requires.bounded c.requires.few c.requires.survey.marks in
    let funcs = few.funcs in
    omega (arith, funcs)

pub secondary_imports-requires-clause-tables : goal.secondary_imports-requires-clause-tables
secondary_imports-requires-clause-tables c =
    let few = few_marks c.args.module.now c.args.moved.now c.args.survey.now.marks c.requires.bounded c.requires.few c.requires.survey.marks in
    let tables = few.tables in
    omega (arith, tables)

pub secondary_imports-requires-clause-mems : goal.secondary_imports-requires-clause-mems
secondary_imports-requires-clause-mems c =
    let few = few_marks c.args.module.now c.args.moved.now c.args.survey.now.marks c.requires.bounded c.requires.few c.requires.survey.marks in
    let mems = few.mems in
    omega (arith, mems)

pub secondary_imports-requires-clause-globals : goal.secondary_imports-requires-clause-globals
secondary_imports-requires-clause-globals c =
    let few = few_marks c.args.module.now c.args.moved.now c.args.survey.now.marks c.requires.bounded c.requires.few c.requires.survey.marks in
    let globals = few.globals in
    omega (arith, globals)

pub returns : goal.returns
returns c =
    let names = c.args.names.now in
    let m = c.args.module.now in
    let moved = c.args.moved.now in
    let marks = c.args.survey.now.marks in
    record {
      types = c.in_ok-types.ensures ∙ c.as_slice-2.ensures;
      imports = c.in_ok-imports.ensures ∙ imports_are names m moved marks c.requires.survey.marks;
      map_is = c.in_ok-map.ensures ∙ ap (λ ts. secondary_map_by ts marks (length moved)) c.as_slice.ensures ∙ secondary_map_is m moved marks c.requires.survey.marks;
    }
