use Rattle.std.proofs.Common.{◌≡◌, map}
use Rattle.wasm_meaning.specs.Linking.{sites_in}
use Rattle.merge_spec.specs.Parts.{named_modules}
use Rattle.merge_join.specs.Spaces.{staying_place, count_before}
use Rattle.merge_join.proofs.spaces.staying_in.Given as goal

abbrev pub invariant-loop-import : goal.invariant-loop-import
invariant-loop-import l = record {
  row_is : l.row ≡ map (staying_place (named_modules l.parts) l.space) (sites_in l.part l.import 0);
  count_is : l.count ≡ count_before (named_modules l.parts) l.space l.part l.import;
}
