use Rattle.base_lists.proofs.Common.{◌≡◌, ◌∷◌, [], take}
use Rattle.wasm_tree_spec.specs.Prelude.{DataSegments, ElementSegments}
use Rattle.wasm_meaning.specs.Prelude.{defined_before}
use Rattle.merge_spec.specs.Prelude.{named_modules, by_part_from, map_of}
use Rattle.merge_join.proofs.maps.all_maps.Given as goal

abbrev pub invariant-loop-part : goal.invariant-loop-part
invariant-loop-part l = record {
  maps_are : l.maps ≡ by_part_from (λ p m. map_of (named_modules l.parts) p m ∷ []) 0 (take l.part (named_modules l.parts));
  elem_is : l.first.elem ≡ defined_before ElementSegments (named_modules l.parts) l.part;
  data_is : l.first.data ≡ defined_before DataSegments (named_modules l.parts) l.part;
}
