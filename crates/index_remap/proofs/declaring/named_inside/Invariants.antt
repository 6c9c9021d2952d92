use Rattle.std.proofs.Common.{◌≡◌, drop}
use Rattle.base_kept.specs.Marks.{marked_all, named_from}
use Rattle.index_remap.specs.References.{body_refs}
use Rattle.index_remap.proofs.declaring.named_inside.Given as goal

abbrev pub invariant-loop-func : goal.invariant-loop-func
invariant-loop-func l = marked_all l.marks.items (body_refs (drop l.func-index l.funcs)) ≡ named_from (body_refs l.funcs) 0 l.count
