use Rattle.std.proofs.Common.{◌≡◌, ◌++◌, map, take}
use Rattle.merge_names.specs.Given.{texts}
use Rattle.merge_join.proofs.exports.add_names.Given as goal

abbrev pub invariant-loop-export : goal.invariant-loop-export
invariant-loop-export l = texts l.names.items ≡ texts l.initial.names.items ++ map (λ e. e.name) (take l.export-index l.exports)
