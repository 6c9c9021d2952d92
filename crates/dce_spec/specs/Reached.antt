-- What is kept where it is what a graph reaches.
use Rattle.dce_graph.specs.declared.marks.Reached.{Reached}
use Rattle.dce_spec.specs.Marks.{Marks}

-- the marks by which what is reached of a module is kept
abbrev pub marks_of : Reached → Marks
marks_of r = record { exports = r.exports; imports = r.imports; funcs = r.funcs; globals = r.globals }
