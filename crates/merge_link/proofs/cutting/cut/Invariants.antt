use Rattle.base_lists.proofs.Common.{drop, ◌++◌, ◌≡◌}
use Rattle.merge_spec.specs.Prelude.{named_modules}
use Rattle.merge_link.specs.Prelude.{cut_by, import_counts, imports_before}
use Rattle.merge_link.proofs.cutting.cut.Given as goal

abbrev pub invariant-loop-part : goal.invariant-loop-part
invariant-loop-part g l = record {
  from : l.from ≡ imports_before (named_modules l.parts) l.part-index;
  lists : l.lists ++ cut_by (import_counts (drop l.part-index l.parts)) (drop l.from l.flat) ≡ cut_by (import_counts l.parts) l.flat;
}
